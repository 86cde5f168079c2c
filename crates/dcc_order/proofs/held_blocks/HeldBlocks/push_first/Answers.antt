use Rattle.std.proofs.Common.{arith, ◌∙◌}
use Rattle.std.specs.Ordering.{nat_cmp}
use Rattle.std.specs.BTreeMap.{get}
use Rattle.dcc_order.proofs.HeldLaws.{push_known, push_new, index_new}
use Rattle.dcc_order.proofs.held_blocks.HeldBlocks.push_first.Goals as goal

pub invariant_of-self-then-number-count : goal.invariant_of-self-then-number-count
invariant_of-self-then-number-count c =
    let frame = c.number_of_frame-frame.ensures in
    let size = c.len-count.ensures ∙ c.self.inside.members.ok.0 in
    let all = push_known (get nat_cmp c.self.inside.index) c.args.packet.now _ _ _ size c.self.invariant.0
    c.self.view_is c.self.invariant.1 frame.valid frame.number c.number_at-number.ensures c.if-number-count.true in
    (rw c.in_ok-push.ensures.items all.0, c.self.invariant.1, c.self.invariant.2, c.self.invariant.3)

pub invariant_of-self-2 : goal.invariant_of-self-2
invariant_of-self-2 c =
    let frame = c.number_of_frame-frame.ensures in
    let size = c.len-count.ensures ∙ c.self.inside.members.ok.0 in
    let all = push_new (get nat_cmp c.self.inside.index) c.args.packet.now _ _ _ size c.self.invariant.0
    c.self.view_is c.self.invariant.1 frame.valid frame.number c.number_at-number.ensures c.if-number-count.false in
    let index = index_new (get nat_cmp c.self.inside.index) c.args.packet.now _ _ _ size c.self.invariant.0
    c.self.view_is c.self.invariant.1 frame.valid frame.number c.number_at-number.ensures c.if-number-count.false
    (get nat_cmp c.insert.new.self)
    c.in_ok-insert.ensures.updates.0 in
    let len = c.push_reserved.ensures.len in
    rw (
      c.push_reserved-2.ensures.items,
      c.in_ok-reserve-4.ensures.items,
      c.push_reserved.ensures.items,
      c.in_ok-reserve-3.ensures.items,
    ) (
      all.0,
      index,
      omega (arith, len, c.in_ok-reserve-3.ensures.len, c.saturating_add-members.ensures, c.in_ok-reserve.ensures.ok),
      omega (arith, len, c.in_ok-reserve-3.ensures.len, c.saturating_add-members.ensures, c.in_ok-reserve-2.ensures.ok),
    )

pub returns-then-number-count-clause-ok : goal.returns-then-number-count-clause-ok
returns-then-number-count-clause-ok c =
    let frame = c.number_of_frame-frame.ensures in
    let size = c.len-count.ensures ∙ c.self.inside.members.ok.0 in
    let all = push_known (get nat_cmp c.self.inside.index) c.args.packet.now _ _ _ size c.self.invariant.0
    c.self.view_is c.self.invariant.1 frame.valid frame.number c.number_at-number.ensures c.if-number-count.true in
    rw c.in_ok-push.ensures.items all.1

pub returns-clause-ok : goal.returns-clause-ok
returns-clause-ok c =
    let frame = c.number_of_frame-frame.ensures in
    let size = c.len-count.ensures ∙ c.self.inside.members.ok.0 in
    let all = push_new (get nat_cmp c.self.inside.index) c.args.packet.now _ _ _ size c.self.invariant.0
    c.self.view_is c.self.invariant.1 frame.valid frame.number c.number_at-number.ensures c.if-number-count.false in
    rw (
      c.push_reserved-2.ensures.items,
      c.in_ok-reserve-4.ensures.items,
      c.push_reserved.ensures.items,
      c.in_ok-reserve-3.ensures.items,
    ) all.1
