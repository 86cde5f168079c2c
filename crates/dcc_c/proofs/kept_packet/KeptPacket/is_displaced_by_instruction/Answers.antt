use Rattle.std.proofs.Common.{◌∙◌, subst, List, ℕ}
use Rattle.std.specs.Prelude.{IsTrue, ◌↔◌}
use Rattle.std.specs.List.{IsLastAndRest}
use Rattle.dcc_packet.specs.declared.packet.Packet.{Packet}
use Rattle.dcc_station.specs.Sending.{Displaces}
use Rattle.dcc_c.proofs.KeptPacketLemmas.{loco_is_kept, body_of, some_of}
use Rattle.dcc_c.specs.Frames.{bytes_of}
use Rattle.dcc_c.proofs.kept_packet.KeptPacket.is_displaced_by_instruction.Goals as goal

pub returns-in-Some-read_loco : goal.returns-in-Some-read_loco
returns-in-Some-read_loco c =
    let k = c.self.inside in
    let told = c.in-Some-read_loco in
    let bytes = bytes_of k.frame in
    let last : IsLastAndRest bytes c.in-Some._error_byte.now c.in-Some.body.now =
    subst (λ (l : List ℕ). IsLastAndRest l c.in-Some._error_byte.now c.in-Some.body.now) c.as_slice.ensures
    c.in-Some.ensures.cases in
    let is = loco_is_kept k told.to told.what c.self.invariant
    (some_of bytes c.in-Some._error_byte.now c.in-Some.body.now last.0)
    (told.ensures.found ∙ body_of bytes c.in-Some._error_byte.now c.in-Some.body.now last.0) in
    subst (λ (p : Packet). IsTrue c.displaces_loco.result ↔ Displaces c.args.command.now p) (is ∙ c.self.view_is)
    c.displaces_loco.ensures
