-- Lists, and halves, that are alike for a decoder leave the same registers.
use Rattle.std.proofs.Common.{◌≡◌, ◌∙◌, refl, sym, ap, Bool, true, false, cond, List, [], ◌∷◌, ◌++◌, Option, Some, inl}
use Rattle.std.proofs.Common.{inr, ℕ, zero, suc, ◌+◌, ◌≤◌, arith}
use Rattle.std.specs.Prelude.{◌&&◌, fold}
use Rattle.std.specs.List.{AllByRecursion, starts_with}
use Rattle.std.proofs.Math.Path.{fun_ext}
use Rattle.std.proofs.lemmas.Bool.{cases_Bool, and_parts, false≢true}
use Rattle.std.proofs.lemmas.List.Elements.{filter_passes, recursion_from_All}
use Rattle.dcc_packet.specs.declared.packet.Packet.{Packet}
use Rattle.dcc_packet.specs.SamePacket.{same}
use Rattle.dcc_packet.proofs.SameFrames.{Decides-same}
use Rattle.dcc_regs.specs.declared.register.Value.{Value}
use Rattle.dcc_regs.specs.declared.register.Who.{Who}
use Rattle.dcc_regs.specs.Writes.{is_own_write}
use Rattle.dcc_regs.specs.Heard.{hears, heard}
use Rattle.dcc_regs.specs.Setting.{left_pending, value_over, mode_in}
use Rattle.dcc_regs.specs.Inner.WriteParts.{is_pending}
use Rattle.dcc_regs.specs.Result.{RegisterMap, result}
use Rattle.dcc_regs.specs.declared.register.Value.TheVariants.{Pending as PendingValue}
use Rattle.dcc_regs.specs.declared.register.Register.TheVariants.{CvBit}
use Rattle.dcc_regs.proofs.OwnWrites.{sets-own_write}
use Rattle.dcc_regs.proofs.RegisterStep.{overwritten-none}
use Rattle.dcc_regs.proofs.ResultByParts.{State, step, state_after, start, read, read-state_after, state_after-append}
use Rattle.dcc_regs.proofs.ResultByParts.{same_state, sets_bit, overwritten-twice}
use Rattle.dcc_order.specs.AlikeLists.{without_third_copies, Cut, LastBlock, Block, cut_more, cut_for}
use Rattle.dcc_order.specs.AlikeLists.{AlikeCuts}
use Rattle.dcc_order.specs.GivenLists.{writes_in}
use Rattle.dcc_order.specs.Laws.{AlikeListsLeaveTheSame, AlikeListsAgreeAfterEachBlock, through_block}
use Rattle.dcc_order.specs.Hearing.{HasHeardHalves, ArePackets}
use Rattle.dcc_order.specs.HearingLaws.{AlikeHalvesLeaveTheSame}
use Rattle.dcc_order.proofs.AlikeBlocks.{InBlock, alike_blocks}
use Rattle.dcc_order.proofs.HearingLemmas.{one_list_of_packets}
use Rattle.dcc_order.proofs.OneMorePacket.{in_first_block, cut, cut_is}

-- the packets of a cut list
abbrev pub flat : Cut → List Packet
flat (LastBlock block) = block
flat (Block block write rest) = block ++ write ∷ flat rest

flat-in_first_block : (p : Packet) (x : Cut) → flat (in_first_block p x) ≡ p ∷ flat x
flat-in_first_block p (LastBlock block) = refl
flat-in_first_block p (Block block write rest) = refl

flat-from_first : (l : List Packet) → flat (cut l) ≡ l
flat-from_first [] = refl
flat-from_first (p ∷ l) = elim (cases_Bool (is_own_write p)) [
  | inl e ↦ rw (e, flat-from_first l) refl
  | inr e ↦ rw (e, flat-in_first_block p (cut l), flat-from_first l) refl
]

pub flat-cut : (l : List Packet) → flat (fold cut_more (LastBlock []) l) ≡ l
flat-cut l = rw (cut_is l) (flat-from_first l)

-- each block of a cut list has packets that the decoder hears, and no own write
abbrev WellCut : Who → Cut → Type 0
WellCut who (LastBlock block) = AllByRecursion (InBlock who) block
WellCut who (Block block write rest) = AllByRecursion (InBlock who) block × WellCut who rest

well_in_first_block : (who : Who) (p : Packet) (x : Cut) → InBlock who p → WellCut who x
    → WellCut who (in_first_block p x)
well_in_first_block who p (LastBlock block) here well = (here, well)
well_in_first_block who p (Block block write rest) here well = ((here, well.0), well.1)

well_cut : (who : Who) (l : List Packet) → AllByRecursion (λ p. hears who p ≡ true) l
    → WellCut who (cut (without_third_copies l))
well_cut who [] all = tt
well_cut who (p ∷ l) all = elim (cases_Bool (is_own_write p && starts_with same l (p ∷ p ∷ []))) [
  | inl third ↦ rw third (well_cut who l all.1)
  | inr kept ↦ rw kept (elim (cases_Bool (is_own_write p)) [
    | inl e ↦ rw e (tt, well_cut who l all.1)
    | inr e ↦ rw e (well_in_first_block who p (cut (without_third_copies l)) (all.0, e) (well_cut who l all.1))
  ])
]

well_cut_for : (who : Who) (l : List Packet) → WellCut who (cut_for who l)
well_cut_for who l = rw (cut_is (without_third_copies (heard who l))) (well_cut who (heard who l)
    (recursion_from_All (λ p. hears who p ≡ true) (heard who l) (filter_passes (hears who) l)))

-- alike cut lists leave the same up to the end of a block
alike_through : (who : Who) (s : State) (k : ℕ) (x y : Cut) → WellCut who x → WellCut who y → AlikeCuts x y
    → state_after s (through_block k x) ≡ state_after s (through_block k y)
alike_through who s k (LastBlock left) (LastBlock right) lefts rights alike =
    alike_blocks who s left right lefts rights alike
alike_through who s zero (Block left write x) (Block right other y) lefts rights alike =
    alike_blocks who s left right lefts.0 rights.0 alike.0
alike_through who s (suc k) (Block left write x) (Block right other y) lefts rights alike = rw (
  state_after-append s left (write ∷ through_block k x),
  state_after-append s right (other ∷ through_block k y),
  alike_blocks who s left right lefts.0 rights.0 alike.0,
  alike.1,
) (alike_through who (step (state_after s right) other) k x y lefts.1 rights.1 alike.2)
alike_through who s k x y lefts rights alike = absurd alike

-- and behind the last block too
through_all : (k : ℕ) (x : Cut) → writes_in x ≤ k → through_block k x ≡ flat x
through_all k (LastBlock block) all = refl
through_all zero (Block block write rest) all = absurd (omega arith)
through_all (suc k) (Block block write rest) all = ap (λ l. block ++ write ∷ l) (through_all k rest (omega arith))

-- a third copy of an own write writes the same again
third_copy : (s : State) (p : Packet) → is_own_write p ≡ true → step (step (step s p) p) p ≡ step (step s p) p
third_copy s p write = same_state (step (step (step s p) p) p) (step (step s p) p)
    (overwritten-twice (value_over s.pending (Some (PendingValue (left_pending p))))
    (Some (PendingValue (left_pending p))))
    (λ r. ap
    (λ v. cond (is_own_write p && is_pending v p) (value_over ((step (step s p) p).bits r) (sets_bit p r))
    ((step (step s p) p).bits r)) (overwritten-twice s.pending (Some (PendingValue (left_pending p))))
    ∙ written_again (is_own_write p && is_pending (step s p).pending p) ((step s p).bits r) (sets_bit p r))
    (λ r. ap (value_over ((step (step s p) p).plain r)) (sets-own_write (mode_in (step (step s p) p).bits) p r write)
    ∙ overwritten-none ((step (step s p) p).plain r))
  where
    written_again : (t : Bool) (v o : Option Value)
        → cond t (value_over (cond t (value_over v o) v) o) (cond t (value_over v o) v) ≡ cond t (value_over v o) v
    written_again true v o = overwritten-twice v o
    written_again false v o = refl

-- an own write before two copies of it changes nothing
left_out : (s : State) (p : Packet) (l : List Packet) → is_own_write p ≡ true
    → starts_with same l (p ∷ p ∷ []) ≡ true → state_after s l ≡ state_after (step s p) l
left_out s p [] write two = cc
left_out s p (q ∷ []) write two = absurd (false≢true (and_parts (same p q) false two).1)
left_out s p (q ∷ r ∷ l) write two =
    let first = and_parts (same p q) (same p r && true) two in
    let second = and_parts (same p r) true first.1 in
    rw (← (Decides-same p q).0 first.0, ← (Decides-same p r).0 second.0)
    (ap (λ t. state_after t l) (sym (third_copy s p write)))

state_after-capped : (s : State) (l : List Packet) → state_after s (without_third_copies l) ≡ state_after s l
state_after-capped s [] = refl
state_after-capped s (p ∷ l) = elim (cases_Bool (is_own_write p && starts_with same l (p ∷ p ∷ []))) [
  | inl e ↦
      (let both = and_parts (is_own_write p) (starts_with same l (p ∷ p ∷ [])) e in
      rw e (state_after-capped s l ∙ left_out s p l both.0 both.1))
  | inr e ↦ rw e (state_after-capped (step s p) l)
]

-- a list leaves what it leaves as it is cut for the decoder
state_after-cut_for : (who : Who) (s : State) (k : ℕ) (l : List Packet) → writes_in (cut_for who l) ≤ k
    → state_after s (through_block k (cut_for who l)) ≡ state_after s (heard who l)
state_after-cut_for who s k l all =
    rw (through_all k (cut_for who l) all, flat-cut (without_third_copies (heard who l)))
    (state_after-capped s (heard who l))

pub alike_lists : AlikeListsLeaveTheSame
alike_lists who left right alike m r =
    let k = writes_in (cut_for who left) + writes_in (cut_for who right) in
    read-state_after m (heard who left) r
    ∙ ap (λ s. read s r) (sym (state_after-cut_for who (start m) k left (omega arith))
    ∙ alike_through who (start m) k (cut_for who left) (cut_for who right) (well_cut_for who left)
    (well_cut_for who right) alike
    ∙ state_after-cut_for who (start m) k right (omega arith))
    ∙ sym (read-state_after m (heard who right) r)

pub alike_after_each_block : AlikeListsAgreeAfterEachBlock
alike_after_each_block who left right alike k m cv place =
    read-state_after m (through_block k (cut_for who left)) (CvBit cv place)
    ∙ ap (λ s. read s (CvBit cv place)) (alike_through who (start m) k (cut_for who left) (cut_for who right)
    (well_cut_for who left) (well_cut_for who right) alike)
    ∙ sym (read-state_after m (through_block k (cut_for who right)) (CvBit cv place))

-- the registers are the result of the packets that the halves hold
pub holds : {who who' : Who} {start now : RegisterMap} {halves : List ℕ} (packets : List Packet)
    → ArePackets packets halves → HasHeardHalves halves who start who' now → now ≡ result who start packets
holds {who = who} {start = start} {halves = halves} packets are h =
    h.heard.registers ∙ ap (result who start) (one_list_of_packets halves h.packets packets h.seen are)

pub alike_halves_leave_the_same : AlikeHalvesLeaveTheSame
alike_halves_leave_the_same who start left right a one other now after h k =
    holds a.packets a.seen h
    ∙ fun_ext (alike_lists who a.packets a.others a.alike start)
    ∙ sym (holds a.others a.others_seen k)
