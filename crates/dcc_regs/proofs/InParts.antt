-- The result of a list in two parts is the result of the second part, from what the first one leaves.
use Rattle.std.proofs.Common.{◌≡◌, ℕ, List, [], ◌∷◌, ◌++◌, map, refl, sym, ◌∙◌, ap, append_assoc}
use Rattle.std.proofs.lemmas.List.{append-nil, map-append}
use Rattle.std.proofs.lemmas.List.Elements.{filter-append, filter_map-append}
use Rattle.std.proofs.lemmas.List.Sums.{fold-append}
use Rattle.std.specs.List.{filter_map, scan}
use Rattle.std.specs.Prelude.{Option, None, Some}
use mathlib.Core.Path.{fun_ext}
use Rattle.dcc_packet.specs.declared.packet.Packet.{Packet}
use Rattle.dcc_regs.specs.declared.register.Who.{Who}
use Rattle.dcc_regs.specs.declared.register.SpeedMode.{SpeedMode}
use Rattle.dcc_regs.specs.declared.register.Register.{Register}
use Rattle.dcc_regs.specs.declared.register.Register.TheVariants.{CvBit}
use Rattle.dcc_regs.specs.declared.register.Register.TheVariants.{Pending as PendingRegister}
use Rattle.dcc_regs.specs.declared.register.Value.{Value}
use Rattle.dcc_regs.specs.declared.register.Value.TheVariants.{Pending as PendingValue}
use Rattle.dcc_regs.specs.Heard.{heard, hears}
use Rattle.dcc_regs.specs.Sets.{sets}
use Rattle.dcc_regs.specs.Result.{RegisterMap, set_in_turn, places, pending_after}
use Rattle.dcc_regs.specs.Result.{cv_bit_after, mode_of, result_of_heard, result, HasHeard}
use Rattle.dcc_regs.specs.Setting.{effective_set, left_pending}
use Rattle.dcc_regs.specs.Laws.{OneMorePacketHeard}

set_in_turn-append : (start : Option Value) (vs ws : List Value)
    → set_in_turn start (vs ++ ws) ≡ set_in_turn (set_in_turn start vs) ws
set_in_turn-append None vs ws = refl
set_in_turn-append (Some start) vs ws = ap Some (fold-append (λ before now. now) start vs ws)

-- a pair for each packet of a list: the packets before it, of which the first are `before`, and the packet
abbrev places_from : List Packet → List Packet → List (List Packet × Packet)
places_from = scan (λ before p. before ++ p ∷ []) (λ before p. (before, p))

places_from-append : (before l k : List Packet)
    → places_from before (l ++ k) ≡ places_from before l ++ places_from (before ++ l) k
places_from-append before [] k = rw append-nil refl
places_from-append before (p ∷ l) k =
    ap (λ ps. (before, p) ∷ ps) (places_from-append (before ++ p ∷ []) l k ∙ rw append_assoc refl)

-- what each place gives is the same, whether the packets before it count as before the list or in it
filter_map-places : (F G : List Packet × Packet → Option Value) (l before k : List Packet)
    → ((b : List Packet) (p : Packet) → F (l ++ b, p) ≡ G (b, p))
    → filter_map F (places_from (l ++ before) k) ≡ filter_map G (places_from before k)
filter_map-places F G l before [] same = refl
filter_map-places F G l before (p ∷ k) same =
    let rest : filter_map F (places_from ((l ++ before) ++ p ∷ []) k)
    ≡ filter_map G (places_from (before ++ p ∷ []) k) =
    rw append_assoc (filter_map-places F G l (before ++ p ∷ []) k same) in
    rw (same before p, rest) refl

-- a register that each place may set, in two parts
set_in_turn-places : (F G : List Packet × Packet → Option Value) (start : Option Value) (l k : List Packet)
    → ((b : List Packet) (p : Packet) → F (l ++ b, p) ≡ G (b, p))
    → set_in_turn start (filter_map F (places (l ++ k))) ≡ set_in_turn (set_in_turn start (filter_map F (places l)))
    (filter_map G (places k))
set_in_turn-places F G start l k same =
    let second : filter_map F (places_from l k) ≡ filter_map G (places_from [] k) =
    rw append-nil at (filter_map-places F G l [] k same) in
    rw (places_from-append [] l k, filter_map-append F (places_from [] l) (places_from l k), second)
    (set_in_turn-append start (filter_map F (places_from [] l)) (filter_map G (places_from [] k)))

pending_after-append : (start : RegisterMap) (l k : List Packet)
    → pending_after start (l ++ k) ≡ pending_after (result_of_heard start l) k
pending_after-append start l k =
    ap (set_in_turn (start PendingRegister)) (map-append (λ p. PendingValue (left_pending p)) l k)
    ∙ set_in_turn-append (start PendingRegister) (map (λ p. PendingValue (left_pending p)) l)
    (map (λ p. PendingValue (left_pending p)) k)

cv_bit_after-append : (start : RegisterMap) (l k : List Packet) (cv place : ℕ)
    → cv_bit_after start (l ++ k) cv place ≡ cv_bit_after (result_of_heard start l) k cv place
cv_bit_after-append start l k cv place =
    set_in_turn-places (λ at. effective_set (pending_after start at.0) at.1 cv place)
    (λ at. effective_set (pending_after (result_of_heard start l) at.0) at.1 cv place) (start (CvBit cv place)) l k
    (λ b p. ap (λ held. effective_set held p cv place) (pending_after-append start l b))

abbrev mode_after : RegisterMap → List Packet → SpeedMode
mode_after start l = mode_of (cv_bit_after start l 29 1)

mode_after-append : (start : RegisterMap) (l k : List Packet)
    → mode_after start (l ++ k) ≡ mode_after (result_of_heard start l) k
mode_after-append start l k = ap mode_of (cv_bit_after-append start l k 29 1)

abbrev plain_after : RegisterMap → List Packet → Register → Option Value
plain_after start l r = set_in_turn (start r) (filter_map (λ at. sets (mode_after start at.0) at.1 r) (places l))

plain_after-append : (start : RegisterMap) (l k : List Packet) (r : Register)
    → result_of_heard start l r ≡ plain_after start l r
    → plain_after start (l ++ k) r ≡ plain_after (result_of_heard start l) k r
plain_after-append start l k r is_plain =
    set_in_turn-places (λ at. sets (mode_after start at.0) at.1 r)
    (λ at. sets (mode_after (result_of_heard start l) at.0) at.1 r) (start r) l k
    (λ b p. ap (λ mode. sets mode p r) (mode_after-append start l b))
    ∙ ap (λ held. set_in_turn held
    (filter_map (λ at. sets (mode_after (result_of_heard start l) at.0) at.1 r) (places k))) (sym is_plain)

pub result_of_heard-append : (start : RegisterMap) (l k : List Packet) (r : Register)
    → result_of_heard start (l ++ k) r ≡ result_of_heard (result_of_heard start l) k r
result_of_heard-append start l k PendingRegister = pending_after-append start l k
result_of_heard-append start l k (CvBit cv place) = cv_bit_after-append start l k cv place
result_of_heard-append start l k r = plain_after-append start l k r refl

-- the law
pub result-append : (who : Who) (start : RegisterMap) (l k : List Packet)
    → result who start (l ++ k) ≡ result who (result who start l) k
result-append who start l k =
    ap (result_of_heard start) (filter-append (hears who) l k)
    ∙ fun_ext (result_of_heard-append start (heard who l) (heard who k))

pub set_in_turn-nothing : (start : Option Value) → set_in_turn start [] ≡ start
set_in_turn-nothing None = refl
set_in_turn-nothing (Some v) = refl

result_of_nothing : (start : RegisterMap) (r : Register) → result_of_heard start [] r ≡ start r
result_of_nothing start PendingRegister = set_in_turn-nothing (start PendingRegister)
result_of_nothing start r = set_in_turn-nothing (start r)

-- no packet leaves each register as it is
pub result-nothing : (who : Who) (start : RegisterMap) → result who start [] ≡ start
result-nothing who start = fun_ext (result_of_nothing start)

-- no packet is heard yet
pub heard_nothing : (who : Who) (m : RegisterMap) → HasHeard [] who m who m
heard_nothing who m = record { same_who = refl; registers = sym (result-nothing who m) }

-- one list behind the other is heard
pub heard_more : {who who' who'' : Who} {m m' m'' : RegisterMap} {l k : List Packet} → HasHeard l who m who' m'
    → HasHeard k who' m' who'' m'' → HasHeard (l ++ k) who m who'' m''
heard_more {who} {who'} {who''} {m} {m'} {m''} {l} {k} before now = record {
  same_who = now.same_who ∙ before.same_who;
  registers =
      now.registers ∙ ap (λ w. result w m' k) before.same_who ∙ ap (λ n. result who n k) before.registers
      ∙ sym (result-append who m l k);
}

-- one packet more is heard
pub heard_one_more : OneMorePacketHeard
heard_one_more l p who who' who'' start now after before same stepped =
    heard_more before (record { same_who = same; registers = stepped })
