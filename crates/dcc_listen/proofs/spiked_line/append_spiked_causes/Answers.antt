use Rattle.std.proofs.Common.{◌++◌, ◌∙◌, ap, append_assoc, List, ℕ}
use Rattle.dcc_listen.specs.LostListing.{causes_text}
use Rattle.dcc_listen.specs.Inner.SpikedRuns.{spikes_behind}
use Rattle.dcc_listen.proofs.SpikedTextLemmas.{all_spiked_causes}
use Rattle.dcc_listen.proofs.spiked_line.append_spiked_causes.Goals as goal

pub returns-clause-items : goal.returns-clause-items
returns-clause-items c =
    c.append_spikes.ensures.items
    ∙ ap (λ (l : List ℕ). l ++ spikes_behind c.has_cause.result c.args.packet.now.spikes) c.append_causes.ensures.items
    ∙ append_assoc c.args.line.now.items (causes_text c.args.half c.args.packet.now.lost)
    (spikes_behind c.has_cause.result c.args.packet.now.spikes)
    ∙ ap (λ (l : List ℕ). c.args.line.now.items ++ l) (all_spiked_causes c.args.half c.args.packet.now
    c.has_cause.result
    c.has_cause.ensures)
