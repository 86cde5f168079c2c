use Rattle.std.proofs.Common.{◌≡◌, ◌∙◌, sym, ap, subst, List, ℕ, []}
use Rattle.std.specs.Prelude.{◌⊎◌}
use Rattle.dcc_wire.specs.Frames.{IsFrame}
use Rattle.dcc_c.specs.Frames.{bytes_of, frame_numbers}
use Rattle.dcc_c.specs.KeptPackets.{kept_bytes}
use Rattle.dcc_c.specs.KeptPacketLaw.{bytes_back}
use Rattle.dcc_c.proofs.KeptPacketLemmas.{is_packet}
use Rattle.dcc_c.proofs.kept_packet.KeptPacket.of.Goals as goal

pub invariant_of-result-2 : goal.invariant_of-result-2
invariant_of-result-2 c =
    let kept = kept_bytes c.args.packet.now in
    let e : bytes_of c.kept_frame.result ≡ kept = ap bytes_of c.kept_frame.ensures.numbers ∙ bytes_back kept in (
      subst (λ (bytes : List ℕ). (bytes ≡ []) ⊎ IsFrame bytes) (sym e) c.kept_frame.ensures.valid,
      c.kept_frame.ensures.numbers ∙ ap frame_numbers (sym e),
    )

pub returns : goal.returns
returns c =
    is_packet (record { frame = c.kept_frame.result; says = c.result-1.given.0 }) c.args.packet.now
    (ap bytes_of c.kept_frame.ensures.numbers ∙ bytes_back (kept_bytes c.args.packet.now))
