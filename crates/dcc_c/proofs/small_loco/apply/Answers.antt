use Rattle.std.proofs.Common.{◌≡◌, refl, sym, ◌∙◌, ap}
use Rattle.dcc_regs.specs.declared.loco_registers.LocoRegisters.{LocoRegisters}
use Rattle.dcc_regs.specs.AccessedCv.{accessed_cv}
use Rattle.dcc_c.specs.Locos.{register_numbers}
use Rattle.dcc_c.specs.declared.small_loco.DccSmallLoco.{DccSmallLoco}
use Rattle.dcc_c.proofs.ApplyLemmas.{left_spells}
use Rattle.dcc_c.proofs.SmallLocoLemmas.{applies_to_value}
use Rattle.dcc_c.proofs.small_loco.apply.Goals as goal

pub pending_left-pending-requires : goal.pending_left-pending-requires
pending_left-pending-requires c =
    left_spells c.read-packet.result c.apply_with_value.new.self.pending c.args.frame.now c.read-packet.ensures.spelled
    (c.apply_with_value.ensures.pending c.if-apply_with_value.true)

pub returns-then-apply_with_value-clause-applies : goal.returns-then-apply_with_value-clause-applies
returns-then-apply_with_value-clause-applies c before is =
    let packet = c.read-packet.result in
    let a = c.apply_with_value.ensures in
    let same = (c.take_up_small.ensures.found before is).1 in
    let loco : DccSmallLoco = record { registers = c.put.new.numbers; cv29 = c.apply_with_value.new.cv29 } in (
      packet,
      c.read-packet.ensures.spelled,
      refl,
      applies_to_value packet c.take_up_small.new.registers c.apply_with_value.new.self before c.args.value.now
          c.apply_with_value.new.value c.args.loco.now loco same is
          (record {
            possible = a.possible;
            same_who = a.same_who;
            stored = a.stored;
            step = a.step;
            unheard = a.unheard;
            kept = a.kept;
          })
          c.put.ensures,
      λ none. a.value_stays (ap (λ (r : LocoRegisters). accessed_cv r.address r.pending packet) same ∙ none),
    )

pub returns-else-apply_with_value-clause-applies : goal.returns-else-apply_with_value-clause-applies
returns-else-apply_with_value-clause-applies c before is =
    let packet = c.read-packet.result in
    let a = c.apply_with_value.ensures in
    let same = (c.take_up_small.ensures.found before is).1 in
    let loco : DccSmallLoco = record c.args.loco.now { cv29 = c.apply_with_value.new.cv29 } in
    let numbers : loco.registers ≡ register_numbers c.apply_with_value.new.self =
    ap (λ (l : DccSmallLoco). l.registers) is.numbers
    ∙ ap register_numbers (sym ((a.stays c.if-apply_with_value.false).0 ∙ same)) in (
      packet,
      c.read-packet.ensures.spelled,
      refl,
      applies_to_value packet c.take_up_small.new.registers c.apply_with_value.new.self before c.args.value.now
          c.apply_with_value.new.value c.args.loco.now loco same is
          (record {
            possible = a.possible;
            same_who = a.same_who;
            stored = a.stored;
            step = a.step;
            unheard = a.unheard;
            kept = a.kept;
          })
          numbers,
      λ none. a.value_stays (ap (λ (r : LocoRegisters). accessed_cv r.address r.pending packet) same ∙ none),
    )
