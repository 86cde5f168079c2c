use Rattle.std.proofs.Common.{[]}
use Rattle.dcc_wire.proofs.SeenLemmas.{seen-none}
use Rattle.dcc_examples.proofs.counted_decoder.hear_in_boxes.Goals as goal

pub returns : goal.returns
returns c = rw seen-none at (c.hear.ensures.pushes.sees [] c.new-5.ensures)
