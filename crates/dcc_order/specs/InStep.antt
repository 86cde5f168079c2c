-- A comparer that gets two lists of packets. The comparer always gets the next packet of the list
-- that it waits for.
use Rattle.std.specs.Prelude.{ℕ, ◌+◌, ◌-◌, ◌*◌, ◌^◌, ◌≡◌, ◌≤◌, ◌<◌, Bool, List, ◌++◌, Option, IfSome, length, take}
use Rattle.std.specs.Prelude.{slice_get}
use Rattle.dcc_packet.specs.declared.packet.Packet.{Packet}
use Rattle.dcc_regs.specs.declared.register.Who.{Who}
use Rattle.dcc_order.specs.declared.comparison.Comparison.{Comparison}
use Rattle.dcc_order.specs.declared.verdict.Verdict.{Verdict}
use Rattle.dcc_order.specs.declared.wants.Wants.{Wants}
use Rattle.dcc_order.specs.declared.wants.Wants.TheVariants.{Left, Right, Done}
use Rattle.dcc_order.specs.Comparisons.{ComparerRepresents}
use Rattle.dcc_order.specs.GivenLists.{Lists, no_lists, with_item, MayFollow}
use Rattle.dcc_order.specs.Verdicts.{IsVerdict}

-- `given` is a prefix of the list `whole`. If `ended` is true, `given` is the whole list.
pub record IsGivenPrefix (whole given : List Packet) (ended : Bool) : Type 0 where
  pub rest : List Packet
  pub parts : whole ≡ given ++ rest
  pub may : MayFollow ended rest

-- the comparer `c` for decoder `who` has got prefixes of the lists `left` and `right`
pub record WasGivenFronts (who : Who) (left right : List Packet) (c : Comparison) : Type 0 where
  pub lists : Lists
  pub stands : ComparerRepresents c lists
  pub who_is : c.who ≡ who
  pub left_front : IsGivenPrefix left lists.left lists.left_ended
  pub right_front : IsGivenPrefix right lists.right lists.right_ended

-- the comparer `c` for decoder `who` is in step with the lists `left` and `right`: it has got a
-- prefix of each list. Clients use this definition only through the theorems below.
unfoldable pub IsInStep : Who → List Packet → List Packet → Comparison → Type 0
IsInStep who left right c = WasGivenFronts who left right c

-- a number that falls when a comparer gets the end of a list: 2 if the comparer waits for the left
-- list, 1 if it waits for the right list, and 0 if it has a verdict
abbrev pub ends_wanted : Wants → ℕ
ends_wanted Left = 2
ends_wanted Right = 1
ends_wanted (Done verdict) = 0

-- an upper bound for the number of packets and ends of the lists `left` and `right` that the
-- comparer `c` still gets
abbrev pub requests_bound : List Packet → List Packet → Comparison → ℕ
requests_bound left right c = 2 * (length left - c.left.given + (length right - c.right.given)) + ends_wanted c.wants

-- `item` is the packet at `place` of the list `packets`. If the list has no such place, `item` is
-- `None`.
pub record IsAt (packets : List Packet) (place : ℕ) (item : Option Packet) : Type 0 where
  pub is : item ≡ slice_get packets place

-- a comparer in state `c` that gets `item` goes to state `next`
pub record BecomesBy (c : Comparison) (item : Option Packet) (next : Comparison) : Type 0 where
  pub same_who : next.who ≡ c.who
  pub stands : (lists : Lists) → ComparerRepresents c lists → ComparerRepresents next (with_item c.wants item lists)

-- a new comparer has got no packet, and is in step with any two lists
abbrev pub NothingGivenYet : Type 0
NothingGivenYet = (who : Who) (left right : List Packet) (c : Comparison) → ComparerRepresents c no_lists → c.who ≡ who
    → IsInStep who left right c

-- a comparer in step that gets the next packet of the left list, or the end of this list, stays in
-- step
abbrev pub OneMoreOfLeft : Type 0
OneMoreOfLeft = (who : Who) (left right : List Packet) (c next : Comparison) (item : Option Packet)
    → IsInStep who left right c → Left ≡ c.wants → IsAt left c.left.given item → BecomesBy c item next
    → IsInStep who left right next

-- a comparer in step that gets the next packet of the right list, or the end of this list, stays in
-- step
abbrev pub OneMoreOfRight : Type 0
OneMoreOfRight = (who : Who) (left right : List Packet) (c next : Comparison) (item : Option Packet)
    → IsInStep who left right c → Right ≡ c.wants → IsAt right c.right.given item → BecomesBy c item next
    → IsInStep who left right next

-- the number `requests_bound` falls if a comparer in step gets the next packet of the left list, or
-- the end of this list
abbrev pub FewerRequestsAfterLeft : Type 0
FewerRequestsAfterLeft = (who : Who) (left right : List Packet) (c next : Comparison) (item : Option Packet)
    → IsInStep who left right c → Left ≡ c.wants → IsAt left c.left.given item → BecomesBy c item next
    → requests_bound left right next < requests_bound left right c

-- the number `requests_bound` falls if a comparer in step gets the next packet of the right list,
-- or the end of this list
abbrev pub FewerRequestsAfterRight : Type 0
FewerRequestsAfterRight = (who : Who) (left right : List Packet) (c next : Comparison) (item : Option Packet)
    → IsInStep who left right c → Right ≡ c.wants → IsAt right c.right.given item → BecomesBy c item next
    → requests_bound left right next < requests_bound left right c

-- in a list of fewer than 2^32 packets, the place of each packet is below 2^32 - 1. So a comparer
-- can count this packet.
abbrev pub PlacesAreCounted : Type 0
PlacesAreCounted = (packets : List Packet) (place : ℕ) (item : Option Packet) → IsAt packets place item
    → length packets < 2 ^ 32 → IfSome item (λ _. place < 2 ^ 32 - 1)

-- the verdict of a comparer in step is the verdict on the lists `left` and `right`
abbrev pub VerdictIsOfBoth : Type 0
VerdictIsOfBoth = (who : Who) (left right : List Packet) (c : Comparison) (verdict : Verdict)
    → IsInStep who left right c → Done verdict ≡ c.wants → IsVerdict who left right verdict

-- the verdict of a comparer in step is also the verdict on the prefixes of `left` and `right` that
-- the comparer has got
abbrev pub VerdictIsOfTheGiven : Type 0
VerdictIsOfTheGiven = (who : Who) (left right : List Packet) (c : Comparison) (verdict : Verdict) (given : ℕ × ℕ)
    → IsInStep who left right c → Done verdict ≡ c.wants → given ≡ (c.left.given, c.right.given)
    → IsVerdict who (take given.0 left) (take given.1 right) verdict

-- a comparer in step has got at most as many packets of each list as the list has
abbrev pub NoMoreIsGiven : Type 0
NoMoreIsGiven = (who : Who) (left right : List Packet) (c : Comparison) → IsInStep who left right c
    → (c.left.given ≤ length left) × (c.right.given ≤ length right)
