-- What a framer answers to a run.
use Rattle.std.proofs.Common.{◌≡◌, ◌≢◌, ℕ, ◌+◌, ◌-◌, ◌<◌, ◌≤◌, List, ◌++◌, length, replicate, refl}
use Rattle.std.proofs.Common.{arith}
use Rattle.dcc_wire.specs.declared.seen.Seen.{Seen}
use Rattle.dcc_wire.specs.declared.seen.Seen.TheVariants.{Nothing, Packet, Refused}
use Rattle.dcc_wire.specs.declared.run.RunSeen.{RunSeen}
use Rattle.dcc_wire.specs.Framing.{seen, report_at}
use Rattle.dcc_io.specs.declared.word.Run.{Run}

-- the halves of one more run add this outcome at its place
abbrev pub Answers : List ℕ → Run → RunSeen → Type 0
Answers halves run answer =
    seen (halves ++ replicate run.n run.us) ≡ seen halves ++ report_at (length halves + answer.at - 1) answer.seen

-- an outcome stands at one of the halves of a run
pub at_some_half : (run : Run) (answer : RunSeen) → 0 < run.n → (answer.seen ≡ Nothing → answer.at ≡ run.n)
    → (answer.seen ≢ Nothing → (1 ≤ answer.at) × (answer.at ≤ run.n))
    → (1 ≤ answer.at) × (answer.at ≤ run.n)
at_some_half run answer some nothing something = go answer.seen nothing something
  where
    go : (seen : Seen) → (seen ≡ Nothing → answer.at ≡ run.n) → (seen ≢ Nothing → (1 ≤ answer.at) × (answer.at ≤ run.n))
        → (1 ≤ answer.at) × (answer.at ≤ run.n)
    go Nothing nothing something = let all = nothing refl in (omega (arith, all, some), omega (arith, all))
    go (Packet frame) nothing something = something (λ none. cc)
    go (Refused fault) nothing something = something (λ none. cc)
