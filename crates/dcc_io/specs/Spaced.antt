-- Numbers with spaces between them.
use Rattle.std.specs.Prelude.{ℕ, ◌++◌, List, codes, decimal}

-- a space followed by the number `n` in decimal digits
abbrev pub behind_space : ℕ → List ℕ
behind_space n = codes " " ++ decimal n
