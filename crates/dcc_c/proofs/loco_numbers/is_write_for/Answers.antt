use Rattle.std.proofs.Common.{sym, ◌∙◌, ap, subst}
use Rattle.dcc_wire.specs.Frames.{IsFrame}
use Rattle.dcc_packet.specs.Spelling.{spelling}
use Rattle.dcc_c.specs.Frames.{bytes_of, frame_numbers}
use Rattle.dcc_c.specs.KeptPacketLaw.{bytes_back}
use Rattle.dcc_c.proofs.HeardLemmas.{no_frame_fault, own_is_frame}
use Rattle.dcc_c.proofs.PossibleNumbers.{all_three, of_three, pending_of, pending_parts}
use Rattle.dcc_c.proofs.loco_numbers.is_write_for.Goals as goal

pub returns-in-Ok-clause-found : goal.returns-in-Ok-clause-found
returns-in-Ok-clause-found c packet possible e =
    let parts = pending_parts c.args.own.now packet possible in
    let bytes = sym (c.as_slice-bytes.ensures ∙ ap bytes_of e ∙ bytes_back (spelling packet)) in
    of_three _ _ _ (c.loco_hears_frame.ensures packet bytes ∙ parts.2) (c.is_write.ensures.own packet bytes ∙ parts.0)
    (c.is.ensures.1 (e ∙ ap frame_numbers bytes ∙ sym c.of.ensures))

pub returns-in-Ok-clause-pending : goal.returns-in-Ok-clause-pending
returns-in-Ok-clause-pending c true =
    let all = all_three c.loco_hears_frame.result c.is_write.result c.is.result true in
    let p = c.each_frame_is_a_packet.ensures in (
      p.0,
      pending_of c.args.own.now p.0 (sym (c.is_write.ensures.own p.0 p.1) ∙ all.1) (c.is_write.ensures.byte p.0 p.1)
          (sym (c.loco_hears_frame.ensures p.0 p.1) ∙ all.0),
      c.is.ensures.0 all.2 ∙ c.of.ensures ∙ ap frame_numbers (sym p.1),
    )

pub returns-in-Err-clause-found : goal.returns-in-Err-clause-found
returns-in-Err-clause-found c packet possible e =
    let parts = pending_parts c.args.own.now packet possible in
    let bytes = sym (c.as_slice-bytes.ensures ∙ ap bytes_of e ∙ bytes_back (spelling packet)) in
    absurd (no_frame_fault _ _ (subst IsFrame bytes (own_is_frame packet parts.0 parts.1)) c.in-Err.ensures.valid)
