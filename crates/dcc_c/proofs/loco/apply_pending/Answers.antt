use Rattle.std.proofs.Common.{◌≡◌, true, false, refl, sym, ◌∙◌, ap}
use Rattle.std.specs.Prelude.{Option, Some, ◌&&◌}
use Rattle.dcc_packet.specs.declared.address.Address.{Address}
use Rattle.dcc_packet.specs.declared.packet.Packet.TheVariants.{Loco}
use Rattle.dcc_packet.proofs.OneSpelling.{one_packet}
use Rattle.dcc_regs.specs.declared.register.Who.TheVariants.{Loco as LocoWho}
use Rattle.dcc_regs.specs.Heard.{hears}
use Rattle.dcc_regs.specs.Writes.{is_own_write}
use Rattle.dcc_regs.proofs.PossibleLemmas.{parts_of}
use Rattle.dcc_c.specs.declared.loco_numbers.DccLoco.{DccLoco}
use Rattle.dcc_c.specs.Frames.{frame_numbers}
use Rattle.dcc_c.proofs.ApplyLemmas.{same_ok}
use Rattle.dcc_c.proofs.HeardLemmas.{loco_read, own_write_applied, state_address}
use Rattle.dcc_c.proofs.HeardLemmas.{state_of_numbers}
use Rattle.dcc_c.proofs.PossibleNumbers.{both, pending_is, pending_of}
use Rattle.dcc_c.proofs.loco.apply_pending.Goals as goal

pub returns-clause-decoder : goal.returns-clause-decoder
returns-clause-decoder c applied =
    let spelled = loco_read c.in-Some.to c.in-Some.what c.args.frame.now c.requires.valid c.in-Some.ensures.found in
    let tests = both c.is_own_write.result c.loco_hears_frame.result c.if-not-is_write.false in
    let r = c.are_possible_with_pending.ensures.possible c.if-not-are_possible_with_pending.false c.in-Ok.own
    (Some (Loco c.in-Some.to c.in-Some.what)) c.in-Ok.ensures.address
    (pending_of c.in-Ok.own (Loco c.in-Some.to c.in-Some.what) (sym c.is_own_write.ensures.own ∙ tests.0)
    c.is_own_write.ensures.byte
    (sym (c.loco_hears_frame.ensures (Loco c.in-Some.to c.in-Some.what) spelled) ∙ tests.1))
    (c.requires.pending ∙ ap frame_numbers (sym spelled)) in
    state_of_numbers c.args.loco.now r.0 r.1 r.2

pub returns-clause-applies : goal.returns-clause-applies
returns-clause-applies c before possible e =
    let spelled = loco_read c.in-Some.to c.in-Some.what c.args.frame.now c.requires.valid c.in-Some.ensures.found in
    let tests = both c.is_own_write.result c.loco_hears_frame.result c.if-not-is_write.false in
    let own : c.in-Ok.own ≡ before.address =
    same_ok c.in-Ok.own before.address c.own_address.result c.in-Ok.is
    (c.own_address.ensures.found before.address (state_address before c.args.loco.now possible e)) in
    let heard : hears (LocoWho before.address) (Loco c.in-Some.to c.in-Some.what) ≡ true =
    ap (λ (own : Option Address). hears (LocoWho own) (Loco c.in-Some.to c.in-Some.what)) (sym own)
    ∙ sym (c.loco_hears_frame.ensures (Loco c.in-Some.to c.in-Some.what) spelled) ∙ tests.1 in
    let a = own_write_applied (Loco c.in-Some.to c.in-Some.what) c.args.loco.now
    (record { registers = c.args.loco.now.registers; cvs = c.execute_write.new.cvs }) c.args.frame.now c.requires.valid
    spelled (sym c.is_own_write.ensures.own ∙ tests.0) c.is_own_write.ensures.byte c.requires.pending refl
    c.execute_write.ensures before possible heard e in
    (Loco c.in-Some.to c.in-Some.what, a.0, spelled, a.1, a.2, refl, a.3)

pub returns-then-not-is_write-clause-applies : goal.returns-then-not-is_write-clause-applies
returns-then-not-is_write-clause-applies c before possible e =
    let spelled = loco_read c.in-Some.to c.in-Some.what c.args.frame.now c.requires.valid c.in-Some.ensures.found in
    let own : c.in-Ok.own ≡ before.address =
    same_ok c.in-Ok.own before.address c.own_address.result c.in-Ok.is
    (c.own_address.ensures.found before.address (state_address before c.args.loco.now possible e)) in
    let p = pending_is before.address before.pending c.args.loco.now.registers.pending c.args.frame.now c.requires.valid
    (parts_of before possible).pending (ap (λ (l : DccLoco). l.registers.pending) e) c.requires.pending in
    let same : p.0 ≡ Loco c.in-Some.to c.in-Some.what =
    one_packet p.0 (Loco c.in-Some.to c.in-Some.what) (p.1 ∙ sym spelled) in
    let is_own : c.is_own_write.result ≡ true = c.is_own_write.ensures.own ∙ ap is_own_write (sym same) ∙ p.2 in
    let is_heard : c.loco_hears_frame.result ≡ true =
    c.loco_hears_frame.ensures p.0 p.1 ∙ ap (λ (own : Option Address). hears (LocoWho own) p.0) own ∙ p.3 in
    let not : (c.is_own_write.result && c.loco_hears_frame.result) ≡ false =
    c.if-not-is_write.true in
    let is : (c.is_own_write.result && c.loco_hears_frame.result) ≡ true = rw (is_own, is_heard) refl in
    let apart : true ≡ false = sym is ∙ not in
    absurd (cc)
