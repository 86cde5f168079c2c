-- The line of a verdict.
use Rattle.std.specs.Prelude.{ℕ, ◌++◌, List, codes}
use Rattle.std.specs.Fmt.{decimal}
use Rattle.dcc_order.specs.declared.verdict.Verdict.{Verdict}
use Rattle.dcc_order.specs.declared.verdict.Verdict.TheVariants.{Alike, Writes, Members, Order}

-- the line of a verdict: its word, and the number of the block if the verdict has one
abbrev pub verdict_line : Verdict → List ℕ
verdict_line Alike = codes "alike\n"
verdict_line Writes = codes "writes\n"
verdict_line (Members block) = codes "members " ++ decimal block ++ codes "\n"
verdict_line (Order block) = codes "order " ++ decimal block ++ codes "\n"
