use Rattle.std.proofs.Common.{◌≡◌, ◌≢◌, ◌<◌, ◌≤◌, ◌∙◌, ℕ, List, Option, None, true, false, nat_lt, inl, inr, sym}
use Rattle.std.proofs.Common.{subst, arith}
use Rattle.std.proofs.lemmas.Bool.Decides.{nat_tests}
use Rattle.dcc_lost.specs.declared.joined.SpikedPacket.{SpikedPacket}
use Rattle.dcc_lost.specs.Joined.{closes, joining_of}
use Rattle.dcc_lost.specs.Joining.{Joins}
use Rattle.dcc_wire.specs.Kept.{kept_rest}
use Rattle.dcc_lost.specs.Finding.{since_of}
use Rattle.dcc_lost.specs.Unused.{Hears}
use Rattle.dcc_lost.proofs.FoundLemmas.{some_of_nothing}
use Rattle.dcc_lost.proofs.JoinedLemmas.{TakesIn, closed_by, grows_closed, grows_taken, joins_closed, joins_taken}
use Rattle.dcc_lost.proofs.JoinedLemmas.{taken_by}
use Rattle.dcc_lost.proofs.joined.SpikeFinder.push.Goals.{then-is_spike-via-then-is_spike}
use Rattle.dcc_lost.proofs.joined.SpikeFinder.push.Goals.{then-is_spike-via-else-is_spike+then-self}
use Rattle.dcc_lost.proofs.joined.SpikeFinder.push.Goals.{After-close-found}
use Rattle.dcc_lost.proofs.joined.SpikeFinder.push.Goals as goal

short_is : (us limit : ℕ) → us < limit → nat_lt us limit ≡ true
short_is us limit less = grind (arith, nat_tests)

long_is : (us limit : ℕ) → limit ≤ us → nat_lt us limit ≡ false
long_is us limit enough = grind (arith, nat_tests)

-- the half-bit is taken in

pub returns-then-is_spike-clause-reads : goal.returns-then-is_spike-clause-reads
returns-then-is_spike-clause-reads c = λ limit durations joins. record {
  limit_is = joins.limit_is;
  joined = joins_taken limit c.args.us durations _ _ _ _ _ c.push-seen.result joins.joined
      (taken_by limit c.args.us (joining_of limit durations) (elim c.then-is_spike.branch [
        | then-is_spike-via-then-is_spike w ↦ inl (short_is c.args.us limit
            (subst (λ (l : ℕ). c.args.us < l) joins.limit_is w.if-is_spike.true))
        | then-is_spike-via-else-is_spike+then-self w ↦ inr (sym joins.joined.last.takes ∙ w.if-self.true)
      ]))
      (c.push-seen.ensures.hears durations joins.joined.heard) (c.push-seen.ensures.sees durations joins.joined.heard)
      (subst (λ (l : ℕ). TakesIn l c.args.us c.push-seen.result c.args.self.now.newest c.take_in.new.self)
      joins.limit_is
      (record {
        us_is = c.take_in.ensures.us;
        spikes = c.take_in.ensures.spikes;
        unused = c.take_in.ensures.unused;
        packets = c.take_in.ensures.packets;
        takes = c.take_in.ensures.takes;
      }));
}

pub returns-then-is_spike-clause-grows : goal.returns-then-is_spike-clause-grows
returns-then-is_spike-clause-grows c = λ limit durations joins.
    grows_taken limit durations c.args.us
    (taken_by limit c.args.us (joining_of limit durations) (elim c.then-is_spike.branch [
      | then-is_spike-via-then-is_spike w ↦ inl (short_is c.args.us limit
          (subst (λ (l : ℕ). c.args.us < l) joins.limit_is w.if-is_spike.true))
      | then-is_spike-via-else-is_spike+then-self w ↦ inr (sym joins.joined.last.takes ∙ w.if-self.true)
    ]))

-- the half-bit closes the newest joined half-bit

is_long : (c : After-close-found) (limit : ℕ) (durations : List ℕ) → Joins limit c.args.self.now durations
    → nat_lt c.args.us limit ≡ false
is_long c limit durations joins =
    long_is c.args.us limit (subst (λ (l : ℕ). l ≤ c.args.us) joins.limit_is c.if-is_spike.false)

is_closed : (c : After-close-found) (limit : ℕ) (durations : List ℕ) → Joins limit c.args.self.now durations
    → closes limit (joining_of limit durations) c.args.us ≡ true
is_closed c limit durations joins =
    closed_by limit c.args.us (joining_of limit durations) (is_long c limit durations joins)
    (sym joins.joined.last.takes ∙ c.if-self.false)

pub returns-clause-reads : goal.returns-clause-reads
returns-clause-reads c = λ limit durations joins.
    let step = (goal.at.returns-clause-reads c).After-close-found in
    let long = is_long step limit durations joins in
    let heard : Hears (kept_rest c.close-found.new.self.heard.framer) c.close-found.new.self.heard.unused
    (since_of c.close-found.new.self.heard.refused c.close-found.new.self.heard.since) durations =
    rw c.close-found.ensures.heard joins.joined.heard in
    record {
      limit_is = c.close-found.ensures.limit ∙ joins.limit_is;
      joined = joins_closed limit c.args.us durations _ _ _ _ c.close-found.new.self.newest _ _ c.push-seen-2.result
          joins.joined (is_closed step limit durations joins) (c.push-seen-2.ensures.hears durations heard)
          (c.push-seen-2.ensures.sees durations heard) (c.close-found.ensures.closed limit durations joins)
          (c.close-found.ensures.newest limit durations joins) long
          (record {
            us_is = c.take_in-2.ensures.us;
            spikes = rw long c.take_in-2.ensures.spikes;
            unused = c.take_in-2.ensures.unused;
            packets = c.take_in-2.ensures.packets;
            takes = rw long c.take_in-2.ensures.takes;
          });
    }

pub returns-clause-some : goal.returns-clause-some
returns-clause-some c = λ limit durations joins some.
    some_of_nothing limit durations
    (subst (λ (found : Option SpikedPacket). found ≢ None) (c.close-found.ensures.found limit durations joins) some)

pub returns-clause-grows : goal.returns-clause-grows
returns-clause-grows c = λ limit durations joins.
    grows_closed limit durations c.args.us c.close-found.result
    (is_closed (goal.at.returns-clause-grows c).After-close-found limit durations joins)
    (c.close-found.ensures.found limit durations joins)
