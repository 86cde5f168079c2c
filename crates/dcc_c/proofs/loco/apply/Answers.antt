use Rattle.std.proofs.Common.{◌≡◌, true, false, refl, sym, ◌∙◌, ap}
use Rattle.std.specs.Prelude.{Option}
use Rattle.dcc_packet.specs.declared.address.Address.{Address}
use Rattle.dcc_regs.specs.declared.register.Who.TheVariants.{Loco as LocoWho}
use Rattle.dcc_regs.specs.Heard.{hears}
use Rattle.dcc_c.proofs.ApplyLemmas.{same_ok}
use Rattle.dcc_c.proofs.HeardLemmas.{state_address, state_of_numbers, unheard_has_applied}
use Rattle.dcc_c.proofs.loco.apply.Goals as goal

pub returns-then-not-loco_hears_frame-clause-decoder : goal.returns-then-not-loco_hears_frame-clause-decoder
returns-then-not-loco_hears_frame-clause-decoder c applied =
    let r = c.are_possible.ensures.possible c.if-not-are_possible.false c.in-Ok.own c.in-Ok.ensures.address in
    state_of_numbers c.args.loco.now r.0 r.1 r.2

pub returns-clause-decoder : goal.returns-clause-decoder
returns-clause-decoder c applied =
    let r = c.are_possible.ensures.possible c.if-not-are_possible.false c.in-Ok.own c.in-Ok.ensures.address in
    state_of_numbers c.args.loco.now r.0 r.1 r.2

pub returns-then-not-loco_hears_frame-clause-applies : goal.returns-then-not-loco_hears_frame-clause-applies
returns-then-not-loco_hears_frame-clause-applies c before possible e =
    let own : c.in-Ok.own ≡ before.address =
    same_ok c.in-Ok.own before.address c.own_address.result c.in-Ok.is
    (c.own_address.ensures.found before.address (state_address before c.args.loco.now possible e)) in
    let p = c.each_frame_is_a_packet.ensures in
    let unheard : hears (LocoWho before.address) p.0 ≡ false =
    ap (λ (own : Option Address). hears (LocoWho own) p.0) (sym own)
    ∙ sym (c.loco_hears_frame.ensures p.0 p.1) ∙ c.if-not-loco_hears_frame.true in
    (p.0, before, p.1, possible, e, refl, unheard_has_applied p.0 before unheard)

pub returns-clause-applies : goal.returns-clause-applies
returns-clause-applies c before possible e =
    let own : c.in-Ok.own ≡ before.address =
    same_ok c.in-Ok.own before.address c.own_address.result c.in-Ok.is
    (c.own_address.ensures.found before.address (state_address before c.args.loco.now possible e)) in
    let h = c.hear.ensures in
    let a = h.2 before possible
    (ap (λ (own : Option Address). hears (LocoWho own) h.0) (sym own)
    ∙ sym (c.loco_hears_frame.ensures h.0 h.1) ∙ c.if-not-loco_hears_frame.false) e in
    (h.0, a.0, h.1, a.1, a.2, refl, a.3)

pub hear-requires-clause-other : goal.hear-requires-clause-other
hear-requires-clause-other c same =
    let is : c.is_of.result ≡ true = c.is_of.ensures.1 same in
    let not : c.is_of.result ≡ false = c.if-is_of.false in
    let apart : true ≡ false = sym is ∙ not in
    cc
