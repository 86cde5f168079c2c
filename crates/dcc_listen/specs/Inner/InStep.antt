-- Two sources of packets. Each source is a capture or a stored list. The next packet is always read
-- from the source that a comparer asks for.
use Rattle.std.specs.Prelude.{◌≡◌, List, Option}
use Rattle.dcc_packet.specs.declared.packet.Packet.{Packet}
use Rattle.dcc_regs.specs.declared.register.Who.{Who}
use Rattle.dcc_order.specs.declared.comparer.Comparer.{Comparer}
use Rattle.dcc_order.specs.Comparisons.{ComparerRepresents}
use Rattle.dcc_order.specs.GivenLists.{Lists, with_item}
use Rattle.dcc_listen.specs.declared.side.Progress.{Progress}

-- the comparer `comparer` for decoder `who` has got all packets that were read from two sources so
-- far
pub record TakenInStep (who : Who) (Took OtherTook : List Packet → Progress → Type 0) (progress other : Progress)
    (comparer : Comparer) : Type 0 where
  pub lists : Lists
  pub stands : ComparerRepresents comparer lists
  pub who_is : comparer.who ≡ who
  pub left : Took lists.left progress
  pub right : OtherTook lists.right other
  pub left_is : lists.left_ended ≡ progress.ended
  pub right_is : lists.right_ended ≡ other.ended

-- a comparer in state `old` gets `item`, the next item of the list that it waits for, and goes to
-- state `new`
pub record IsGiven (old : Comparer) (item : Option Packet) (new : Comparer) : Type 0 where
  pub who : new.who ≡ old.who
  pub stands : (lists : Lists) → ComparerRepresents old lists → ComparerRepresents new (with_item old.wants item lists)
