use Rattle.std.proofs.Common.{◌∙◌, sym}
use Rattle.dcc_listen.proofs.InStepLemmas.{left_given, right_given}
use Rattle.dcc_listen.proofs.in_step.compare_in_step.Goals as goal

pub packets-preserved-in-Continue-1 : goal.packets-preserved-in-Continue-1
packets-preserved-in-Continue-1 g c =
    let s = c.packets.invariant.in_step in
    let (item, given, took, ended, less) = c.in_ok-give_next-in-Left.ensures.given in
    record {
      left_open = c.in_ok-give_next-in-Left.ensures.open;
      right_open = c.packets.invariant.right_open;
      in_step =
          left_given c.args.who _ _ _ _ _ _ _ _ item s (sym c.wants.ensures.is ∙ c.in-Left.is)
          (c.wants.ensures.left c.in-Left.is s.lists s.stands) given (took c.args.left.now s.lists.left s.left) ended;
    }

pub packets-preserved : goal.packets-preserved
packets-preserved g c =
    let s = c.packets.invariant.in_step in
    let (item, given, took, ended, less) = c.in_ok-give_next-in-Right.ensures.given in
    record {
      left_open = c.packets.invariant.left_open;
      right_open = c.in_ok-give_next-in-Right.ensures.open;
      in_step =
          right_given c.args.who _ _ _ _ _ _ _ _ item s (sym c.wants.ensures.is ∙ c.in-Right.is)
          (c.wants.ensures.right c.in-Right.is s.lists s.stands) given (took c.args.right.now s.lists.right s.right)
          ended;
    }
