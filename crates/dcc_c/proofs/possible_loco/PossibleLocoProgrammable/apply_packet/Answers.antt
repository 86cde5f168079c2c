use Rattle.std.proofs.Common.{◌∙◌, subst, sym}
use Rattle.dcc_wire.specs.Frames.{IsFrame}
use Rattle.dcc_c.specs.Decoders.{loco_in}
use Rattle.dcc_c.proofs.PossibleLocoLemmas.{holds_state, numbers_of, packet_applied, possible_in}
use Rattle.dcc_c.proofs.possible_loco.PossibleLocoProgrammable.apply_packet.Goals as goal

pub apply-requires : goal.apply-requires
apply-requires c = subst IsFrame (sym c.bytes.ensures.value) c.bytes.ensures.valid

pub invariant_of-self : goal.invariant_of-self
invariant_of-self c =
    let h = c.apply.ensures.applies (loco_in c.args.self.now) (possible_in c.args.self.now)
    (numbers_of c.args.self.now) in
    record { held = holds_state c.apply.new.loco h.1 h.3 h.4 }

pub returns : goal.returns
returns c =
    let h = c.apply.ensures.applies (loco_in c.args.self.now) (possible_in c.args.self.now)
    (numbers_of c.args.self.now) in
    packet_applied c.args.self.now (record { loco = c.apply.new.loco; held = c.self-1.given.0 })
    c.args.packet.now h.0 h.1
    c.is_own_write.ensures.byte (h.2 ∙ c.bytes.ensures.value ∙ c.frame-frame.ensures.spelled) h.3 h.4 h.6
