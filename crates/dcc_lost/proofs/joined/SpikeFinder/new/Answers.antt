use Rattle.std.proofs.Common.{[], sym}
use Rattle.dcc_lost.specs.JoinedLost.{of_each}
use Rattle.dcc_lost.proofs.FinderLemmas.{unused_none}
use Rattle.dcc_lost.proofs.JoinedLemmas.{joins_nothing, newest_none}
use Rattle.dcc_lost.proofs.joined.SpikeFinder.new.Goals as goal

pub returns : goal.returns
unfolding of_each
returns c = record {
  limit_is = c.from.ensures;
  joined = joins_nothing c.args.limit _ _ _ c.new.ensures
      (record {
        durations = c.new-2.ensures.durations;
        spikes = c.new-2.ensures.spikes;
        unused = c.new-2.ensures.unused;
        packets = c.new-2.ensures.packets;
      })
      (newest_none c.args.limit [] c.new-3.result 0 c.new-3.ensures.us c.new-3.ensures.spikes c.new-3.ensures.unused
      (sym unused_none) c.new-3.ensures.packets c.new-3.ensures.takes);
}
