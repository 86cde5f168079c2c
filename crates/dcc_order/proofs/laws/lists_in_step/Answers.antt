use Rattle.dcc_order.proofs.InStepLaws.{nothing_given_yet, one_more_of_left, one_more_of_right, places_are_counted}
use Rattle.dcc_order.proofs.InStepLaws.{less_is_wanted_behind_left, less_is_wanted_behind_right, verdict_is_of_both}
use Rattle.dcc_order.proofs.InStepLaws.{verdict_is_of_the_given, no_more_is_given}
use Rattle.dcc_order.proofs.laws.lists_in_step.Goals as goal

pub returns : goal.returns
returns c = record {
  begins = nothing_given_yet;
  left = one_more_of_left;
  right = one_more_of_right;
  less_behind_left = less_is_wanted_behind_left;
  less_behind_right = less_is_wanted_behind_right;
  counted = places_are_counted;
  verdict = verdict_is_of_both;
  given_alone = verdict_is_of_the_given;
  no_more = no_more_is_given;
}
