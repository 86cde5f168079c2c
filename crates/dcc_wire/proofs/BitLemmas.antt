-- The halves of whole bits.
use Rattle.std.proofs.Common.{◌≡◌, ◌*◌, Bool, true, false, List, [], ◌∷◌, ◌++◌, length, refl, sym, ap, ◌∙◌, arith}
use Rattle.std.proofs.Common.{append_assoc}
use Rattle.dcc_wire.specs.declared.half.Half.{Half}
use Rattle.dcc_wire.specs.declared.half.Half.TheVariants.{One, Zero}
use Rattle.dcc_wire.specs.Bodies.{halves_of}
use Rattle.dcc_wire.specs.Outcomes.{bits_in}
use Rattle.dcc_wire.specs.Inner.OutcomeParts.{behind_bits}

pub halves_of-append : (xs ys : List Bool) → halves_of (xs ++ ys) ≡ halves_of xs ++ halves_of ys
unfolding halves_of
halves_of-append [] ys = refl
halves_of-append (true ∷ xs) ys = rw (halves_of-append xs ys)
halves_of-append (false ∷ xs) ys = rw (halves_of-append xs ys)

-- the half that a bit begins with
unfoldable pub half_of : Bool → Half
half_of true = One
half_of false = Zero

pub halves_of-bit : (bits : List Bool) (bit : Bool)
    → halves_of (bits ++ bit ∷ []) ≡ (halves_of bits ++ half_of bit ∷ []) ++ half_of bit ∷ []
unfolding halves_of half_of
halves_of-bit bits true = halves_of-append bits (true ∷ []) ∙ sym (append_assoc (halves_of bits) (One ∷ []) (One ∷ []))
halves_of-bit bits false =
    halves_of-append bits (false ∷ []) ∙ sym (append_assoc (halves_of bits) (Zero ∷ []) (Zero ∷ []))

pub length-halves_of : (bits : List Bool) → length (halves_of bits) ≡ 2 * length bits
unfolding halves_of
length-halves_of [] = refl
length-halves_of (true ∷ bits) = omega (arith, length-halves_of bits)
length-halves_of (false ∷ bits) = omega (arith, length-halves_of bits)

-- halves of bits and more are read as those bits and what is behind them
pub halves_read : (bits : List Bool) (more : List Half)
    → (bits_in (halves_of bits ++ more) ≡ bits ++ bits_in more)
    × (behind_bits (halves_of bits ++ more) ≡ behind_bits more)
unfolding halves_of bits_in behind_bits
halves_read [] more = (refl, refl)
halves_read (true ∷ bits) more = let w = halves_read bits more in (ap (λ l. true ∷ l) w.0, w.1)
halves_read (false ∷ bits) more = let w = halves_read bits more in (ap (λ l. false ∷ l) w.0, w.1)

-- any halves are those of the bits that they begin with, and then no bit
pub halves_split : (halves : List Half)
    → (halves_of (bits_in halves) ++ behind_bits halves ≡ halves) × (bits_in (behind_bits halves) ≡ [])
unfolding halves_of bits_in behind_bits
halves_split (One ∷ One ∷ halves) = let w = halves_split halves in (ap (λ l. One ∷ One ∷ l) w.0, w.1)
halves_split (Zero ∷ Zero ∷ halves) = let w = halves_split halves in (ap (λ l. Zero ∷ Zero ∷ l) w.0, w.1)
halves_split _ = (refl, refl)
