use Rattle.std.proofs.Common.{◌≡◌, arith, ◌≢◌, rules}
use Rattle.dcc_wire.specs.declared.seen.Seen.TheVariants.{Nothing}
use Rattle.dcc_wire.proofs.RunLemmas.{quiet_after, quiet_rest, quiet_run, run_more, shown_run}
use Rattle.dcc_wire.proofs.framer.Framer.push_by_bits.Goals as goal

pub returns-then-at-n : goal.returns-then-at-n
returns-then-at-n c =
    let all : c.loop-self.at ≡ c.args.n = omega arith in rw (← all) (quiet_run c.loop-self.invariant.0)

pub skip-requires : goal.skip-requires
skip-requires c =
    let something : c.push_some-some.result.seen ≢ Nothing = search rules in
    rw c.self-in-loop-self.view_is
    (quiet_after c.push_some-some.new.self c.push_some-some.result.seen c.of-half.result
    (c.push_some-some.ensures.hunts something))

-- behind the outcome the framer is quiet, and the rest is skipped
pub returns-then-not-is_nothing : goal.returns-then-not-is_nothing
returns-then-not-is_nothing c =
    let something : c.push_some-some.result.seen ≢ Nothing = search rules in
    let some = c.push_some-some.ensures in
    shown_run c.push_some-some.new.self c.push_some-some.result.at c.args.n c.push_some-some.result.seen
    c.loop-self.invariant.0 some.some.0 (omega arith) some.stands some.sees some.before (some.hunts something)
    (rw (c.of-half.ensures, c.self-in-loop-self.view_is) at c.skip.ensures.after) something

pub loop-self-preserved : goal.loop-self-preserved
loop-self-preserved c =
    let nothing : c.push_some-some.result.seen ≡ Nothing = c.is_nothing.ensures.0 (search rules) in
    let some = c.push_some-some.ensures in
    (run_more _ _ _ c.loop-self.invariant.0 some.some.0 some.stands some.sees nothing, omega arith)

-- from a quiet framer on, all is skipped
pub returns : goal.returns
returns c =
    quiet_run (quiet_rest c.args.n c.loop-self.invariant.0 c.loop-self.invariant.1
    (rw (c.of-half.ensures, c.self.view_is) at (c.is_quiet.ensures.0 (search rules)))
    (rw (c.of-half.ensures, c.self-2.view_is) at c.skip-2.ensures.after))
