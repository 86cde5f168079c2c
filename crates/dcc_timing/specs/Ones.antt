-- Half-bits of ones.
use Rattle.std.specs.Prelude.{◌≡◌, ℕ, List, [], ◌∷◌}
use Rattle.dcc_wire.specs.declared.half.Half.TheVariants.{One}
use Rattle.dcc_wire.specs.Half.{class_of}

-- each half-bit of the list has the class One
unfoldable pub AllOnes : List ℕ → Type 0
AllOnes [] = Unit {0}
AllOnes (us ∷ halves) = (class_of us ≡ One) × AllOnes halves
