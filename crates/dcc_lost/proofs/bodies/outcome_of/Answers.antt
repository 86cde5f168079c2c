use Rattle.std.proofs.Common.{arith, ◌≢◌, ◌≡◌}
use Rattle.dcc_wire.specs.declared.seen.Seen.TheVariants.{Nothing}
use Rattle.dcc_wire.specs.Kept.{kept_rest}
use Rattle.dcc_lost.proofs.BodyLemmas.{takes, at_first, reads, reads_all}
use Rattle.dcc_lost.proofs.bodies.outcome_of.Goals as goal

pub halves-init : goal.halves-init
halves-init c = at_first _ c.after_preamble-framer.ensures

pub returns-then-not-is_nothing : goal.returns-then-not-is_nothing
returns-then-not-is_nothing c =
    let something : c.push-seen.result ≢ Nothing = grind arith in
    (reads c.args.halves.now c.halves.us-index _ _ _ _ c.halves-test.true c.requires.zero c.halves.invariant
    c.corrected.ensures (takes _ _ _ _ c.push-seen.ensures.history c.push-seen.ensures.stands
    c.push-seen.ensures.sees)).ends
    something

pub halves-preserved : goal.halves-preserved
halves-preserved c =
    let nothing : c.push-seen.result ≡ Nothing = grind arith in
    (reads c.args.halves.now c.halves.us-index _ _ _ _ c.halves-test.true c.requires.zero c.halves.invariant
    c.corrected.ensures (takes _ _ _ _ c.push-seen.ensures.history c.push-seen.ensures.stands
    c.push-seen.ensures.sees)).goes_on
    nothing

pub returns : goal.returns
returns c = reads_all c.args.halves.now c.halves.us-index (kept_rest c.halves.framer) (grind arith) c.halves.invariant
