use Rattle.std.proofs.Common.{length}
use Rattle.dcc_order.proofs.FleetLemmas.{hear_more}
use Rattle.dcc_order.proofs.hearing.hear_half.Goals as goal

pub returns-in-Nothing-clause-since : goal.returns-in-Nothing-clause-since
returns-in-Nothing-clause-since g c = hear_more _ _ length c.in-Nothing.ensures.sees c.hear_seen.ensures

pub returns-in_default : goal.returns-in_default
returns-in_default g c = record {
  history = c.push.ensures.history;
  pushes = record {
    stands = c.push.ensures.stands;
    sees = c.push.ensures.sees;
    hunts = c.push.ensures.hunts;
  };
  hears = c.hear_seen-in_default.ensures;
  since = hear_more _ _ length c.push.ensures.sees c.hear_seen-in_default.ensures;
}
