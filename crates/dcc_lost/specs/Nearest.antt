-- The nearest class of a half-bit.
use Rattle.std.specs.Prelude.{ℕ, ◌&&◌, nat_le, if◌then◌else◌}
use Rattle.dcc_wire.specs.declared.half.Half.{Half}
use Rattle.dcc_wire.specs.declared.half.Half.TheVariants.{One, Zero, Bad}

-- the nearest class of a half-bit: One for 26 to 76 microseconds, Zero for 77 to 20000, otherwise Bad
abbrev pub nearest_class : ℕ → Half
nearest_class us =
    if nat_le 26 us && nat_le us 76 then One else (if nat_le 77 us && nat_le us 20000 then Zero else Bad)
