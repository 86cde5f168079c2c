-- Theorems about lists that are alike for a decoder.
use Rattle.std.specs.Prelude.{ℕ, ◌≡◌, ◌↔◌, List, ◌++◌, ◌∷◌}
use Rattle.std.proofs.Common.{zero, suc}
use Rattle.dcc_packet.specs.declared.packet.Packet.{Packet}
use Rattle.dcc_regs.specs.declared.register.Who.{Who}
use Rattle.dcc_regs.specs.declared.register.Register.{Register}
use Rattle.dcc_regs.specs.declared.register.Register.TheVariants.{CvBit}
use Rattle.dcc_regs.specs.Result.{RegisterMap, result_of_heard, result}
use Rattle.dcc_order.specs.declared.verdict.Verdict.{Verdict}
use Rattle.dcc_order.specs.declared.verdict.Verdict.TheVariants.{Alike}
use Rattle.dcc_order.specs.Verdicts.{IsVerdict}
use Rattle.dcc_order.specs.AlikeLists.{Cut, LastBlock, Block, cut_for, AlikeFor}

-- for any registers at the start, decoder `who` has equal registers after the list `left` and after
-- the list `right`
abbrev pub LeaveTheSame : Who → List Packet → List Packet → Type 0
LeaveTheSame who left right =
    (start : RegisterMap) (register : Register) → result who start left register ≡ result who start right register

-- if two lists are alike for a decoder, each register of the decoder has the same value after both
-- lists: the plain registers, the CV bits and Pending
abbrev pub AlikeListsLeaveTheSame : Type 0
AlikeListsLeaveTheSame = (who : Who) (left right : List Packet) → AlikeFor who left right → LeaveTheSame who left right

-- all packets of a cut list from its start to the end of block `k`, including the own writes
-- between these blocks. If there is no block `k`, the result is all packets of the list.
abbrev pub through_block : ℕ → Cut → List Packet
through_block k (LastBlock block) = block
through_block zero (Block block write rest) = block
through_block (suc k) (Block block write rest) = block ++ write ∷ through_block k rest

-- if two lists are alike for a decoder, the CV bits of the decoder are equal after block `k` of
-- both lists, for each `k`
abbrev pub AlikeListsAgreeAfterEachBlock : Type 0
AlikeListsAgreeAfterEachBlock = (who : Who) (left right : List Packet) → AlikeFor who left right →
    (k : ℕ) (start : RegisterMap) (cv place : ℕ) →
    result_of_heard start (through_block k (cut_for who left)) (CvBit cv place) ≡ result_of_heard start
    (through_block k (cut_for who right)) (CvBit cv place)

-- the verdict on two lists is `Alike` if and only if the lists are alike for the decoder
abbrev pub AlikeIsTheVerdict : Type 0
AlikeIsTheVerdict =
    (who : Who) (left right : List Packet) (verdict : Verdict) → IsVerdict who left right verdict
    → (verdict ≡ Alike) ↔ AlikeFor who left right
