use Rattle.std.proofs.Common.{refl, ◌∙◌}
use Rattle.std.specs.Ordering.{nat_cmp}
use Rattle.std.specs.BTreeMap.{get}
use Rattle.dcc_order.proofs.HeldLaws.{is_foreign, push_second}
use Rattle.dcc_order.proofs.held_blocks.HeldBlocks.push_second.Goals as goal

pub returns-then-number-count-clause-foreign : goal.returns-then-number-count-clause-foreign
returns-then-number-count-clause-foreign c = λ is.
    let size = c.len-count.ensures ∙ c.self.inside.members.ok.0 in
    let frame = c.number_of_frame-frame.ensures in (
      is_foreign (get nat_cmp c.self.inside.index) c.args.packet.now _ _ _ size c.self.invariant.0 c.self.view_is
          c.self.invariant.1 frame.valid frame.number c.number_at-number.ensures c.if-number-count.true,
      refl,
    )

pub invariant_of-self-2 : goal.invariant_of-self-2
invariant_of-self-2 c =
    let size = c.len-count.ensures ∙ c.self.inside.members.ok.0 in
    let frame = c.number_of_frame-frame.ensures in
    let all = push_second (get nat_cmp c.self.inside.index) c.args.packet.now _ _ _ size c.self.invariant.0
    c.self.view_is c.self.invariant.1 frame.valid frame.number c.number_at-number.ensures c.if-number-count.false in
    (rw c.in_ok-push.ensures.items all.0, c.self.invariant.1, c.self.invariant.2, c.self.invariant.3)

pub returns-clause-known : goal.returns-clause-known
returns-clause-known c = λ is.
    let size = c.len-count.ensures ∙ c.self.inside.members.ok.0 in
    let frame = c.number_of_frame-frame.ensures in
    let all = push_second (get nat_cmp c.self.inside.index) c.args.packet.now _ _ _ size c.self.invariant.0
    c.self.view_is c.self.invariant.1 frame.valid frame.number c.number_at-number.ensures c.if-number-count.false in
    rw c.in_ok-push.ensures.items all.1
