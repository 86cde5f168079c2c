-- Two lists that are given to a comparison as it wants them.
use Rattle.std.proofs.Common.{◌≡◌, ◌∙◌, ℕ, ◌+◌, ◌*◌, ◌<◌, ◌≤◌, ◌++◌, ◌∷◌, Bool, true, false, Option, Some, None, List}
use Rattle.std.proofs.Common.{[], append-nil, length, take, sym, ap, subst, refl, arith, append_assoc, length-append}
use Rattle.std.specs.Prelude.{slice_get, ◌||◌, is_none}
use Rattle.std.specs.Option.{option_to_list}
use Rattle.std.proofs.lemmas.Grind.{common_steps}
use Rattle.std.proofs.lemmas.Option.{slice_get_within}
use Rattle.dcc_packet.specs.declared.packet.Packet.{Packet}
use Rattle.dcc_order.specs.declared.comparison.Comparison.{Comparison}
use Rattle.dcc_order.specs.declared.wants.Wants.{Wants}
use Rattle.dcc_order.specs.declared.wants.Wants.TheVariants.{Left, Right, Done}
use Rattle.dcc_order.specs.Comparisons.{ComparerRepresents}
use Rattle.dcc_order.specs.GivenLists.{Lists, no_lists, with_item, MayFollow}
use Rattle.dcc_order.specs.InStep.{IsGivenPrefix, IsInStep, ends_wanted, BecomesBy, NothingGivenYet, OneMoreOfLeft}
use Rattle.dcc_order.specs.InStep.{OneMoreOfRight, FewerRequestsAfterLeft, FewerRequestsAfterRight, PlacesAreCounted}
use Rattle.dcc_order.specs.InStep.{VerdictIsOfBoth, VerdictIsOfTheGiven, NoMoreIsGiven}
use Rattle.dcc_order.proofs.ComparisonLaws.{stage_of}

-- the lists with one item more of the side that is wanted, whatever the item
abbrev given_more : Wants → Option Packet → Lists → Lists
given_more Left item lists = record lists
    { left = lists.left ++ option_to_list item; left_ended = is_none item || lists.left_ended }
given_more Right item lists = record lists
    { right = lists.right ++ option_to_list item; right_ended = is_none item || lists.right_ended }
given_more (Done verdict) item lists = lists

is_given_more : (w : Wants) (item : Option Packet) (lists : Lists) → with_item w item lists ≡ given_more w item lists
is_given_more Left None lists = rw append-nil refl
is_given_more Right None lists = rw append-nil refl
is_given_more w item lists = refl

stands_more : {w : Wants} {c next : Comparison} {item : Option Packet} {lists : Lists} → w ≡ c.wants
    → BecomesBy c item next → ComparerRepresents c lists → ComparerRepresents next (given_more w item lists)
stands_more {w = w} {next = next} {item = item} {lists = lists} is becomes stands =
    subst (ComparerRepresents next) (is_given_more w item lists) (rw (← is) at (becomes.stands lists stands))

-- what stands behind the front
behind : (given rest : List Packet) → slice_get (given ++ rest) (length given) ≡ slice_get rest 0
behind [] rest = refl
behind (p ∷ given) rest = behind given rest

front_at : (given rest : List Packet)
    → IsGivenPrefix (given ++ rest) (given ++ option_to_list (slice_get rest 0)) (is_none (slice_get rest 0) || false)
front_at given [] = record { rest = []; parts = sym (append-nil (given ++ [])); may = refl }
front_at given (p ∷ later) = record { rest = later; parts = sym (append_assoc given (p ∷ []) later); may = tt }

-- a front with the next packet, or with the end
front_more : {whole given : List Packet} {ended : Bool} (item : Option Packet) → IsGivenPrefix whole given ended
    → ended ≡ false → item ≡ slice_get whole (length given)
    → IsGivenPrefix whole (given ++ option_to_list item) (is_none item || ended)
front_more {given = given} item front going is =
    rw (going, is, front.parts, behind given front.rest) (front_at given front.rest)

pub nothing_given_yet : NothingGivenYet
unfolding IsInStep
nothing_given_yet who left right c stands same = record {
  lists = no_lists;
  stands = stands;
  who_is = same;
  left_front = record { rest = left; parts = refl; may = tt };
  right_front = record { rest = right; parts = refl; may = tt };
}

pub one_more_of_left : OneMoreOfLeft
unfolding IsInStep
one_more_of_left who left right c next item s is at becomes = record {
  lists = given_more Left item s.lists;
  stands = stands_more is becomes s.stands;
  who_is = becomes.same_who ∙ s.who_is;
  left_front =
      front_more item s.left_front (stage_of s.stands (sym is)).left_open
      (at.is ∙ ap (slice_get left) s.stands.left.given);
  right_front = s.right_front;
}

pub one_more_of_right : OneMoreOfRight
unfolding IsInStep
one_more_of_right who left right c next item s is at becomes = record {
  lists = given_more Right item s.lists;
  stands = stands_more is becomes s.stands;
  who_is = becomes.same_who ∙ s.who_is;
  left_front = s.left_front;
  right_front =
      front_more item s.right_front (stage_of s.stands (sym is)).right_open
      (at.is ∙ ap (slice_get right) s.stands.right.given);
}

few : {whole given : List Packet} {ended : Bool} (n : ℕ) → IsGivenPrefix whole given ended → n ≡ length given
    → n ≤ length whole
few {given = given} n f is = omega (arith, ap length f.parts, length-append given f.rest)

pub no_more_is_given : NoMoreIsGiven
unfolding IsInStep
no_more_is_given who left right c s =
    (few c.left.given s.left_front s.stands.left.given, few c.right.given s.right_front s.stands.right.given)

-- no side is wanted whose end was given
fewer_ends : (w v : Wants) (item : Option Packet) {c : Comparison} (lists : Lists)
    → ComparerRepresents c (given_more w item lists)
    → c.wants ≡ v → 0 < ends_wanted w → ends_wanted v < ends_wanted w + 2 * length (option_to_list item)
fewer_ends Left Left None lists s is some = let going = (stage_of s is).left_open in absurd (cc)
fewer_ends Right Left None lists s is some = let going = (stage_of s is).right_open in absurd (cc)
fewer_ends Right Right None lists s is some = let going = (stage_of s is).right_open in absurd (cc)
fewer_ends w v item lists s is some = omega arith

pub less_is_wanted_behind_left : FewerRequestsAfterLeft
unfolding IsInStep
less_is_wanted_behind_left who left right c next item s is at becomes =
    let then = stands_more is becomes s.stands in
    let few = no_more_is_given who left right next (one_more_of_left who left right c next item s is at becomes) in
    let ends = fewer_ends Left next.wants item s.lists then refl (omega arith) in
    omega (arith, ends, ap ends_wanted is, length-append s.lists.left (option_to_list item))

pub less_is_wanted_behind_right : FewerRequestsAfterRight
unfolding IsInStep
less_is_wanted_behind_right who left right c next item s is at becomes =
    let then = stands_more is becomes s.stands in
    let few = no_more_is_given who left right next (one_more_of_right who left right c next item s is at becomes) in
    let ends = fewer_ends Right next.wants item s.lists then refl (omega arith) in
    omega (arith, ends, ap ends_wanted is, length-append s.lists.right (option_to_list item))

pub places_are_counted : PlacesAreCounted
places_are_counted packets place None at few = tt
places_are_counted packets place (Some p) at few = omega (arith, slice_get_within packets place p (sym at.is))

pub verdict_is_of_both : VerdictIsOfBoth
unfolding IsInStep
verdict_is_of_both who left right c verdict s is =
    rw (s.left_front.parts, s.right_front.parts, sym s.who_is)
    ((stage_of s.stands (sym is)).of_all s.left_front.rest s.right_front.rest s.left_front.may s.right_front.may)

nothing_follows : (ended : Bool) → MayFollow ended []
nothing_follows true = refl
nothing_follows false = tt

-- what was given of a list, and nothing behind it
taken : {whole given : List Packet} {ended : Bool} (n : ℕ) → IsGivenPrefix whole given ended → n ≡ length given
    → take n whole ≡ given ++ []
taken n f is = rw (is, f.parts) (grind (arith, common_steps))

pub verdict_is_of_the_given : VerdictIsOfTheGiven
unfolding IsInStep
verdict_is_of_the_given who left right c verdict given s is counted =
    rw (
      taken given.0 s.left_front (ap (λ (p : ℕ × ℕ). p.0) counted ∙ s.stands.left.given),
      taken given.1 s.right_front (ap (λ (p : ℕ × ℕ). p.1) counted ∙ s.stands.right.given),
      sym s.who_is,
    )
    ((stage_of s.stands (sym is)).of_all [] [] (nothing_follows s.lists.left_ended)
    (nothing_follows s.lists.right_ended))
