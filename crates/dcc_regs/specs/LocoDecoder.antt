-- The content of the plain locomotive decoder.
use Rattle.std.specs.Prelude.{false, slice_index_or}
use Rattle.dcc_regs.specs.declared.loco.LocoDecoder.{LocoDecoder}
use Rattle.dcc_packet.specs.Cvs.{cv_in}
use Rattle.dcc_regs.specs.Loco.{LocoContent}

abbrev pub loco_content : LocoDecoder → LocoContent
loco_content d = record {
  speed = d.speed;
  forward = d.forward;
  functions = λ n. slice_index_or d.functions n false;
  states = λ n. slice_index_or d.states n false;
  cvs = cv_in d.cvs;
  pending = d.pending;
}
