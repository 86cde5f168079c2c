use Rattle.std.proofs.Common.{◌∙◌, ap, subst, List, ℕ}
use Rattle.std.specs.List.{IsLastAndRest}
use Rattle.dcc_regs.specs.Safety.{can_move}
use Rattle.dcc_c.specs.Frames.{bytes_of}
use Rattle.dcc_c.proofs.KeptPacketLemmas.{loco_is_kept, body_of, some_of}
use Rattle.dcc_c.proofs.kept_packet.KeptPacket.can_move.Goals as goal

pub returns-in-Some-read_loco : goal.returns-in-Some-read_loco
returns-in-Some-read_loco c =
    let k = c.self.inside in
    let told = c.in-Some-read_loco in
    let bytes = bytes_of k.frame in
    let last : IsLastAndRest bytes c.in-Some._error_byte.now c.in-Some.body.now =
    subst (λ (l : List ℕ). IsLastAndRest l c.in-Some._error_byte.now c.in-Some.body.now) c.as_slice.ensures
    c.in-Some.ensures.cases in
    let is = loco_is_kept k told.to told.what c.self.invariant
    (some_of bytes c.in-Some._error_byte.now c.in-Some.body.now last.0)
    (told.ensures.found ∙ body_of bytes c.in-Some._error_byte.now c.in-Some.body.now last.0) in
    c.can_move.ensures ∙ ap can_move (is ∙ c.self.view_is)
