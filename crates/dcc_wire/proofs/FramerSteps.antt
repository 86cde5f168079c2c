-- The laws of one more half, as sets for tactics.
use Rattle.dcc_wire.proofs.SendingLemmas.{length-sent, seen-sent_all}
use Rattle.dcc_wire.proofs.JitterLemmas.{seen-classes, measured-seen, measured-anywhere, nominal-seen, varied-seen}
use Rattle.dcc_wire.proofs.JitterLemmas.{varied-anywhere}
use Rattle.dcc_wire.proofs.RecoveryLemmas.{others_seen, first_seen, soon, none_open, long_preambles}
use Rattle.dcc_wire.proofs.SeenLemmas.{seen-grows}
use Rattle.dcc_wire.proofs.FramingLemmas.{rest-push, seen-push}
use Rattle.dcc_wire.proofs.HistoryLemmas.{stands_for_nothing}

pub ruleset nothing_yet = (stands_for_nothing)

pub ruleset pushes = (rest-push, seen-push)

pub ruleset sending = (seen-sent_all)

pub ruleset classing = (seen-classes)

pub ruleset measuring = (measured-seen, measured-anywhere, nominal-seen, varied-seen, varied-anywhere)

pub ruleset growing = (seen-grows)

pub ruleset counting = (length-sent)

pub ruleset recovering = (others_seen, first_seen, soon, none_open, long_preambles)
