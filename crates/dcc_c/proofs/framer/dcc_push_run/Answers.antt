use Rattle.std.proofs.Common.{◌≡◌, ◌≢◌, ◌+◌, IsTrue, arith, refl}
use Rattle.dcc_wire.specs.declared.seen.Seen.TheVariants.{Nothing}
use Rattle.dcc_wire.specs.Kept.{kept_rest}
use Rattle.dcc_c.specs.Outcomes.{seen_at_answer}
use Rattle.dcc_c.proofs.FramerLemmas.{Takes, numbers_at, takes_half, takes_one_outcome, takes_outcome, takes_still}
use Rattle.dcc_c.proofs.framer.dcc_push_run.Goals.{Then-stays}
use Rattle.dcc_c.proofs.framer.dcc_push_run.Goals as goal

-- the other half-bits of the run change nothing
still : (c : Then-stays)
    → Takes (kept_rest c.args.framer.now) (kept_rest c.run.framer) c.args.us c.args.n c.run.ended c.run.outcome.at
    (seen_at_answer c.run.ended c.run.outcome)
still c =
    let yes : IsTrue c.stays.result = grind arith in
    let stays = c.stays.ensures in
    takes_still c.args.n c.run.invariant.within c.run.invariant.takes (stays.still.0 yes) (stays.stands yes)
    (stays.sees yes)

pub returns-then-stays-clause-stands : goal.returns-then-stays-clause-stands
returns-then-stays-clause-stands c = (still c).stands

pub returns-then-stays-clause-sees : goal.returns-then-stays-clause-sees
returns-then-stays-clause-sees c = (still c).sees

pub returns-then-stays-clause-hunts : goal.returns-then-stays-clause-hunts
returns-then-stays-clause-hunts c = (still c).hunts

-- the next half-bit of the run

pub run-preserved-then-pass : goal.run-preserved-then-pass
run-preserved-then-pass c =
    let yes : IsTrue c.pass.result = grind arith in
    let passed = c.pass.ensures in record {
      within = omega arith;
      takes = takes_half c.run.invariant.takes passed.history (passed.stands yes) (passed.sees yes);
      numbers = c.run.invariant.numbers;
      bit = c.run.invariant.bit;
      kept = c.run.invariant.kept;
    }

pub run-preserved : goal.run-preserved
run-preserved c =
    let pushed = c.push_apart-ended.ensures in
    let place = c.run.at + 1 in
    let left = c.pass.ensures.left c.if-pass.false in
    let none : c.run.ended ≡ 0 =
    takes_one_outcome c.run.ended c.run.invariant.takes c.pass.ensures.history (c.pass.ensures.shows c.if-pass.false) in
    let nothing : seen_at_answer c.run.ended c.run.outcome ≡ Nothing = rw none refl in
    let some : c.push_apart-ended.result ≢ 0 = omega (arith, pushed.ends) in
    record {
      within = omega (arith, c.run-test.true);
      takes = takes_outcome c.push_apart-ended.result place refl c.run.invariant.takes nothing
          (rw left at pushed.stands) (rw left at pushed.sees) (pushed.hunts some);
      numbers = λ _. numbers_at place c.push_apart-ended.new.outcome (pushed.numbers some);
      bit = pushed.bit;
      kept = λ e. absurd (some e);
    }
