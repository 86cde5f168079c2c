-- Alike blocks leave the same state.
use Rattle.std.proofs.Common.{◌≡◌, ◌∙◌, refl, sym, ap, Bool, true, false, List, [], ◌∷◌, Option, Some, None, ◌⊎◌, inl}
use Rattle.std.proofs.Common.{arith, inr}
use Rattle.std.specs.Prelude.{filter, Contains, ◌≢◌, ◌||◌, if◌then◌else◌}
use Rattle.std.specs.List.{AllByRecursion, dedup, dedup_from}
use Rattle.std.proofs.lemmas.Bool.{cases_Bool, or_right, false≢true, false_from_ne_true}
use Rattle.std.proofs.lemmas.Bool.Decides.{not_from_Decides}
use Rattle.dcc_packet.specs.declared.packet.Packet.{Packet}
use Rattle.dcc_regs.specs.declared.register.Register.{Register}
use Rattle.dcc_regs.specs.declared.register.Value.{Value}
use Rattle.dcc_regs.specs.declared.register.Value.TheVariants.{Pending as PendingValue}
use Rattle.dcc_regs.specs.declared.register.Who.{Who}
use Rattle.dcc_packet.specs.SamePacket.{same}
use Rattle.dcc_regs.specs.Writes.{is_own_write}
use Rattle.dcc_regs.specs.declared.register.SpeedMode.{SpeedMode}
use Rattle.dcc_regs.specs.Heard.{hears}
use Rattle.dcc_regs.specs.Sets.{sets}
use Rattle.dcc_regs.specs.Conflict.{Conflict}
use Rattle.dcc_regs.specs.Setting.{value_over, mode_in}
use Rattle.dcc_regs.specs.Result.{is_repeated}
use Rattle.dcc_order.specs.Turns.{last_behind}
use Rattle.dcc_packet.proofs.SameFrames.{Decides-same, same-refl}
use Rattle.dcc_regs.proofs.LawLemmas.{values_are_decided}
use Rattle.dcc_regs.proofs.ResultByParts.{State, step, state_after, same_state, later_of, last_set}
use Rattle.dcc_regs.proofs.ResultByParts.{overwritten-overwritten, overwritten-twice}
use Rattle.dcc_order.specs.AlikeLists.{turns, AlikeBlocks}
use Rattle.dcc_order.proofs.Contained.{contains_none, contains_head, contains_tail, contains_cases, contains_all}

-- two packets are the same or not, and `same` tells
pub same_tells : (p q : Packet) → ((same p q ≡ true) × (p ≡ q)) ⊎ ((same p q ≡ false) × (p ≡ q → ⊥))
same_tells p q = elim (cases_Bool (same p q)) [
  | inl e ↦ inl (e, (Decides-same p q).0 e)
  | inr e ↦ inr (e, not_from_Decides (same p q) (Decides-same p q) e)
]

-- the list of packets without each packet that equals the packet directly before it. `before` is the packet before the
-- first packet of the list.
abbrev pub without_repeats : Option Packet → List Packet → List Packet
without_repeats before [] = []
without_repeats before (p ∷ later) =
    if is_repeated before p then without_repeats (Some p) later else p ∷ without_repeats (Some p) later

deduped_from : (kept : Packet) (l : List Packet) → dedup_from same kept l ≡ kept ∷ without_repeats (Some kept) l
deduped_from kept [] = refl
deduped_from kept (x ∷ l) = elim (same_tells x kept) [
  | inl (e, is) ↦ rw (is, same-refl kept) (deduped_from kept l)
  | inr (e, apart) ↦ elim (same_tells kept x) [
    | inl (f, is) ↦ absurd (apart (sym is))
    | inr (f, other) ↦ rw (e, f) (ap (λ later. kept ∷ later) (deduped_from x l))
  ]
]

-- `dedup` leaves out the packets that equal the packet directly before them
pub deduped : (l : List Packet) → dedup same l ≡ without_repeats None l
deduped [] = refl
deduped (p ∷ l) = deduped_from p l

-- true if packet `x` equals `p` or `q`
abbrev pub is_one_of : Packet → Packet → Packet → Bool
is_one_of p q x = same p x || same q x

repeated_is_last : (last : Option Packet) (x : Packet) → is_repeated last x ≡ true → last ≡ Some x
repeated_is_last None x e = absurd (false≢true e)
repeated_is_last (Some y) x e = ap (λ z. Some z) ((Decides-same y x).0 e)

-- a packet that is left out is not the last of its kind
pub last_behind-unrepeated : (before : Option Packet) (l : List Packet)
    → last_behind before (without_repeats before l) ≡ last_behind before l
last_behind-unrepeated before [] = refl
last_behind-unrepeated before (y ∷ l) = elim (cases_Bool (is_repeated before y)) [
  | inl e ↦ rw (e, repeated_is_last before y e) (last_behind-unrepeated (Some y) l)
  | inr e ↦ rw e (last_behind-unrepeated (Some y) l)
]

-- a test that none but those that set something pass
abbrev pub AllSet : (Packet → Option Value) → (Packet → Bool) → Type 0
AllSet f test = (x : Packet) → test x ≡ true → f x ≢ None

-- the packet that sets a register last: of those of its kind it is the last of the block
pub record LastSetter (f : Packet → Option Value) (block : List Packet) (v : Value) : Type 0 where
  pub setter : Packet
  pub within : Contains block setter
  pub gives : f setter ≡ Some v
  pub ends : (test : Packet → Bool) → test setter ≡ true → AllSet f test → (before : Option Packet)
      → last_behind before (filter test block) ≡ Some setter

-- what a block sets a register to is what such a packet says, or no packet of the block sets it
abbrev SetLast : (Packet → Option Value) → List Packet → Option Value → Type 0
SetLast f block (Some v) = LastSetter f block v
SetLast f block None = ((p : Packet) → Contains block p → f p ≡ None)
    × ((test : Packet → Bool) → AllSet f test → (before : Option Packet) → last_behind before (filter test block)
    ≡ before)

set_last : (f : Packet → Option Value) (l : List Packet) → SetLast f l (last_set f l)
set_last f [] = (λ p h. absurd (contains_none p h), λ test only before. refl)
set_last f (x ∷ l) = more (f x) (last_set f l) refl (set_last f l)
  where
    more : (e o : Option Value) → f x ≡ e → SetLast f l o → SetLast f (x ∷ l) (later_of e o)
    more e (Some v) is h = record {
      setter = h.setter;
      within = contains_tail x l h.setter h.within;
      gives = h.gives;
      ends = λ test t only before. elim (cases_Bool (test x)) [
        | inl e ↦ rw e (h.ends test t only (Some x))
        | inr e ↦ rw e (h.ends test t only before)
      ];
    }
    more (Some v) None is h = record {
      setter = x;
      within = contains_head x l;
      gives = is;
      ends = λ test t only before. rw t (h.1 test only (Some x));
    }
    more None None is h = (
      λ p c. elim (contains_cases x l p c) [ inl e ↦ rw (← e) is | inr rest ↦ h.0 p rest ],
      λ test only before. rw (false_from_ne_true (test x) (λ t. only x t is)) (h.1 test only before),
    )

-- the packets that set a register last in each block are the same where they take the same turns
same_setter : (f : Packet → Option Value) (left right : List Packet) (v w : Value) (a : LastSetter f left v)
    (b : LastSetter f right w) → turns a.setter b.setter left ≡ turns a.setter b.setter right → a.setter ≡ b.setter
same_setter f left right v w a b e =
    let pair = is_one_of a.setter b.setter in
    let here = a.ends pair (rw (same-refl a.setter) refl) pair_sets None in
    let there = b.ends pair (or_right (same a.setter b.setter) (same b.setter b.setter) (same-refl b.setter)) pair_sets
    None in
    cc (
      here,
      there,
      deduped (filter pair left),
      deduped (filter pair right),
      last_behind-unrepeated None (filter pair left),
      last_behind-unrepeated None (filter pair right),
    )
  where
    pair_sets : AllSet f (is_one_of a.setter b.setter)
    pair_sets x t none = grind (arith, same_tells a.setter x, same_tells b.setter x, a.gives, b.gives, none)

-- what holds of each packet of a block: the decoder hears it, and it is no own write
abbrev pub InBlock : Who → Packet → Type 0
InBlock who p = (hears who p ≡ true) × (is_own_write p ≡ false)

module _ (who : Who) (mode : SpeedMode) (r : Register) (left right : List Packet)
    (lefts : AllByRecursion (InBlock who) left) (rights : AllByRecursion (InBlock who) right)
    (alike : AlikeBlocks left right) where
  abbrev f : Packet → Option Value
  f p = sets mode p r

  same_last : (a b : Option Value) → SetLast f left a → SetLast f right b → a ≡ b
  same_last None None x y = refl
  same_last (Some v) None x y = cc (x.gives, y.0 x.setter ((alike.members x.setter).0 x.within))
  same_last None (Some w) x y = cc (y.gives, x.0 y.setter ((alike.members y.setter).1 y.within))
  same_last (Some v) (Some w) a b = elim (values_are_decided v w) [
    | inl e ↦ ap Some e
    | inr apart ↦
        (let conflict : Conflict a.setter b.setter = record {
          who = who;
          first_heard = (contains_all (InBlock who) left a.setter lefts a.within).0;
          second_heard = (contains_all (InBlock who) right b.setter rights b.within).0;
          mode = mode;
          register = r;
          one = v;
          other = w;
          first_sets = a.gives;
          second_sets = b.gives;
          apart = apart;
        } in
        let is = same_setter f left right v w a b
        (alike.order a.setter b.setter a.within ((alike.members b.setter).1 b.within) conflict) in
        sym a.gives ∙ ap f is ∙ b.gives)
  ]

  same_last_set : last_set f left ≡ last_set f right
  same_last_set = same_last (last_set f left) (last_set f right) (set_last f left) (set_last f right)

-- what a block does that is not empty: it changes no CV bit, leaves nothing pending where there is such a register, and
-- sets the plain registers in the mode in which it began
abbrev run : State → List Packet → State
run s l = record {
  pending = value_over s.pending (Some (PendingValue None));
  bits = s.bits;
  plain = λ r. value_over (s.plain r) (last_set (λ p. sets (mode_in s.bits) p r) l);
}

run_one : (who : Who) (s : State) (p : Packet) → InBlock who p → step s p ≡ run s (p ∷ [])
run_one who s p here = same_state (step s p) (run s (p ∷ [])) (rw here.1 refl) (λ r. rw here.1 refl) (λ r. refl)

run_block : (who : Who) (s : State) (p : Packet) (l : List Packet) → AllByRecursion (InBlock who) (p ∷ l)
    → state_after s (p ∷ l) ≡ run s (p ∷ l)
run_block who s p [] all = run_one who s p all.0
run_block who s p (q ∷ l) all =
    ap (λ t. state_after t (q ∷ l)) (run_one who s p all.0)
    ∙ run_block who (run s (p ∷ [])) q l all.1
    ∙ same_state (run (run s (p ∷ [])) (q ∷ l)) (run s (p ∷ q ∷ l))
    (overwritten-twice s.pending (Some (PendingValue None))) (λ r. refl)
    (λ r. overwritten-overwritten (s.plain r) (sets (mode_in s.bits) p r)
    (last_set (λ q. sets (mode_in s.bits) q r) (q ∷ l)))

-- alike blocks leave the same state
pub alike_blocks : (who : Who) (s : State) (left right : List Packet) → AllByRecursion (InBlock who) left
    → AllByRecursion (InBlock who) right → AlikeBlocks left right → state_after s left ≡ state_after s right
alike_blocks who s [] [] lefts rights alike = refl
alike_blocks who s [] (q ∷ right) lefts rights alike =
    absurd (contains_none q ((alike.members q).1 (contains_head q right)))
alike_blocks who s (p ∷ left) [] lefts rights alike =
    absurd (contains_none p ((alike.members p).0 (contains_head p left)))
alike_blocks who s (p ∷ left) (q ∷ right) lefts rights alike =
    run_block who s p left lefts
    ∙ same_state (run s (p ∷ left)) (run s (q ∷ right)) refl (λ r. refl) (λ r. ap (value_over (s.plain r))
    (same_last_set who (mode_in s.bits) r (p ∷ left) (q ∷ right) lefts rights alike))
    ∙ sym (run_block who s q right rights)
