-- Refreshing changes no register but what is pending.
use Rattle.std.proofs.Common.{◌≡◌, ◌∙◌, refl, sym, ap, Bool, true, false, cond, List, [], ◌∷◌, ◌++◌}
use Rattle.std.proofs.Common.{append_assoc, append-nil, add-one, subst, Option, Some, None, inl, inr, ℕ, zero, suc, ◌+◌}
use Rattle.std.proofs.Common.{◌<◌, ◌-◌, arith, length, drop}
use Rattle.std.specs.Prelude.{◌≢◌, nat_le, not}
use Rattle.std.specs.List.{AllByRecursion}
use Rattle.std.proofs.lemmas.Bool.Decides.{nat_tests}
use Rattle.std.proofs.lemmas.List.{append_cancel_right}
use Rattle.dcc_packet.specs.declared.packet.Packet.{Packet}
use Rattle.dcc_packet.specs.declared.packet.Packet.TheVariants.{Idle}
use Rattle.dcc_regs.specs.declared.register.Register.{Register}
use Rattle.dcc_regs.specs.declared.register.Register.TheVariants.{CvBit}
use Rattle.dcc_regs.specs.declared.register.Register.TheVariants as Register'
use Rattle.dcc_regs.specs.declared.register.Value.{Value}
use Rattle.dcc_regs.specs.declared.register.Who.{Who}
use Rattle.dcc_regs.specs.declared.register.Who.TheVariants.{Loco}
use Rattle.dcc_regs.specs.Writes.{is_own_write, writes_cv29}
use Rattle.dcc_regs.specs.Result.{RegisterMap}
use Rattle.dcc_regs.specs.Heard.{hears, heard}
use Rattle.dcc_regs.specs.Sets.{sets}
use Rattle.dcc_regs.specs.Setting.{value_over, mode_in}
use Rattle.dcc_regs.proofs.ResultByParts.{read, read-state_after, State, step, state_after, start}
use Rattle.dcc_station.specs.Sending.{Sending, copies, Displaces, Leaves, with_entry, with_stop, Refreshes}
use Rattle.dcc_station.specs.Sending.{EntriesAfter, HandsOut, has_address}
use Rattle.dcc_station.specs.Commands.{is_refreshed}
use Rattle.dcc_station.specs.Refresh.{StationRepresents, made, accepts, hands_out, forgets, intended}
use Rattle.dcc_station.specs.Refresh.{RefreshIsTransparent}
use Rattle.dcc_station.specs.Refresh.{TransparentWhereNothingWaits, WaitingIsSuffix}
use Rattle.dcc_station.proofs.Tables.{refreshed_address, refreshed_is_no_write}
use Rattle.dcc_station.proofs.EntriesForgotten.{all_left}
use Rattle.dcc_regs.proofs.LawLemmas.{idle_is_unheard, values_are_decided}
use Rattle.dcc_regs.proofs.ConflictLemmas.{conflict_from}
use Rattle.dcc_regs.specs.Effects.{Differ}
use Rattle.dcc_station.proofs.Effects.{Core, core, effect, copied, then_effect, Waits, waits, at_once, at_last}
use Rattle.dcc_station.proofs.Effects.{mode_other}
use Rattle.dcc_station.proofs.Effects.{after_first, effect_twice, effect_plain_own, mode_kept, no_effect}

pub all_append : (P : Packet → Type 0) (a b : List Packet) → AllByRecursion P a → AllByRecursion P b
    → AllByRecursion P (a ++ b)
all_append P [] b left right = right
all_append P (x ∷ a) b left right = (left.0, all_append P a b left.1 right)

pub all_dropped : (P : Packet → Type 0) (n : ℕ) (l : List Packet) → AllByRecursion P l → AllByRecursion P (drop n l)
all_dropped P zero l all = all
all_dropped P (suc n) [] all = tt
all_dropped P (suc n) (x ∷ l) all = all_dropped P n l all.1

-- what does not differ from a value that stands stands after it
no_difference : (v a b : Option Value) → (Differ a b → ⊥) → value_over v b ≡ v
    → value_over (value_over v a) b ≡ value_over v a
no_difference (Some v) (Some u) (Some w) same k = elim (values_are_decided u w) [
  | inl is ↦ ap Some (sym is)
  | inr apart ↦ absurd (same apart)
]
no_difference v a b same k = grind arith

module _ (who : Who) where
  -- an entry is a packet that is refreshed, and whose registers are at its values in a decoder that hears it
  abbrev pub Entry : Core → Packet → Type 0
  Entry c e = (is_refreshed e ≡ true) × (then_effect (hears who e) c e ≡ c)

  -- an entry that does not conflict with a packet holds after it
  pub entry_after : (c : Core) (p e : Packet) → Entry c e → ¬ Displaces p e → Entry (then_effect (hears who p) c p) e
  entry_after c p e entry stays = (entry.0, grind (arith, both, entry.1))
    where
      by_kind : (w cv29 : Bool) → is_own_write p ≡ w → writes_cv29 p ≡ cv29 → hears who p ≡ true → hears who e ≡ true
          → ((r : Register) → value_over (c.plain r) (sets (mode_in c.bits) e r) ≡ c.plain r) → (r : Register)
          → value_over ((effect c p).plain r) (sets (mode_in (effect c p).bits) e r) ≡ (effect c p).plain r
      by_kind true true own writes h g holds r =
          absurd (stays (inr (inr (writes, refreshed_address who p e own h entry.0 g))))
      by_kind true false own none h g holds r = rw (mode_kept c p none, effect_plain_own c p own r) (holds r)
      by_kind false cv29 other writes h g holds r = rw (mode_other c p other)
          (no_difference (c.plain r) (sets (mode_in c.bits) p r) (sets (mode_in c.bits) e r)
          (λ d. stays (inr (inl (conflict_from p e (record { who = who; first = h; second = g })
          (mode_in c.bits, record { register = r; differ = d }))))) (holds r))

      both : hears who p ≡ true → hears who e ≡ true → effect c e ≡ c → effect (effect c p) e ≡ effect c p
      both h g is = no_effect (effect c p) e entry.0
          (by_kind (is_own_write p) (writes_cv29 p) refl refl h g (λ r. ap (λ (d : Core). d.plain r) is))

  pub entries_left : (c : Core) (p : Packet) (l kept : List Packet) → AllByRecursion (Entry c) l → Leaves p l kept
      → AllByRecursion (Entry (then_effect (hears who p) c p)) kept
  entries_left c p [] kept all e = rw e tt
  entries_left c p (e ∷ l) kept all (inl gone) = entries_left c p l kept all.1 gone.1
  entries_left c p (e ∷ l) kept all (inr (stays, (rest, is, left))) =
      rw is (entry_after c p e all.0 stays, entries_left c p l rest all.1 left)

  pub refreshed_entries : (c : Core) (slots : ℕ) (p : Packet) (l new : List Packet) → AllByRecursion (Entry c) l
      → Refreshes slots p l new → AllByRecursion (Entry (then_effect (hears who p) c p)) new
  refreshed_entries c slots p l new all (kept, left, is) = rw is (grind (arith, pushed, stay))
    where
      P : Packet → Type 0
      P = Entry (then_effect (hears who p) c p)

      stay : AllByRecursion P kept
      stay = entries_left c p l kept all left

      pushed : is_refreshed p ≡ true → AllByRecursion P (with_entry slots kept p)
      pushed e = all_dropped P (length (kept ++ p ∷ []) - slots) (kept ++ p ∷ [])
          (all_append P kept (p ∷ []) stay ((e, effect_twice (hears who p) c p), tt))

  -- packets one after the other, each of which the decoder hears or not
  abbrev pub run : {S : Type 0} → (Bool → S → Packet → S) → S → List Packet → S
  run act s [] = s
  run act s (p ∷ later) = run act (act (hears who p) s p) later

  pub run-more : {S : Type 0} (act : Bool → S → Packet → S) (s : S) (l : List Packet) (p : Packet)
      → run act s (l ++ p ∷ []) ≡ act (hears who p) (run act s l) p
  run-more act s [] p = refl
  run-more act s (q ∷ l) p = run-more act (act (hears who q) s q) l p

  pub state_after-heard : (s : State) (l : List Packet) → state_after s (heard who l) ≡ run copied s l
  state_after-heard s [] = refl
  state_after-heard s (p ∷ l) =
      let here = state_after-heard s l in let there = state_after-heard (step s p) l in grind (arith, here, there)

  -- two copies of each own write have its effect, whatever was pending
  pub run-intended : (s : State) (l : List Packet) → core (run copied s (intended l)) ≡ run then_effect (core s) l
  run-intended s [] = refl
  run-intended s (p ∷ l) = by_kind (is_own_write p) refl (λ u. run-intended u l)
    where
      by_kind : (w : Bool) → is_own_write p ≡ w
          → ((u : State) → core (run copied u (intended l)) ≡ run then_effect (core u) l)
          → core (run copied s (cond w (p ∷ p ∷ intended l) (p ∷ intended l))) ≡ run then_effect (core s) (p ∷ l)
      by_kind true own more =
          let heard = hears who p in
          more (copied heard (copied heard s p) p) ∙ ap (λ c. run then_effect c l)
          (at_last heard (copied heard s p) p (waits heard s p) ∙ after_first heard s p)
      by_kind false other more =
          more (copied (hears who p) s p) ∙ ap (λ c. run then_effect c l) (at_once (hears who p) s p other)

  -- at least one copy of a packet was sent: one more leaves c, the effect of the packet
  abbrev pub Sent : Packet → Core → State → Type 0
  Sent p c s = (then_effect (hears who p) (core s) p ≡ c) × Waits (hears who p) s p

  module _ (m : RegisterMap) where
    abbrev pub after_packets : List Packet → State
    after_packets packets = run copied (start m) packets

    -- what commands ask for
    abbrev pub asked : List Packet → Core
    asked commands = run then_effect (core (start m)) commands

    -- how far the first command that waits is sent, where the commands before it leave c
    abbrev Progress : ℕ → List Packet → List Packet → Core → State → Type 0
    Progress zero waiting done c s = (core s ≡ c) × (asked done ≡ c)
    Progress (suc sent) [] done c s = ⊥
    Progress (suc sent) (p ∷ rest) done c s = Sent p c s × (asked (done ++ p ∷ []) ≡ c)

    record Invariant (s : Sending) (commands packets : List Packet) : Type 0 where
      done : List Packet
      target : Core
      split : commands ≡ done ++ s.waiting
      progress : Progress s.sent s.waiting done target (after_packets packets)
      entries : AllByRecursion (Entry target) s.entries
      some : 0 < s.repeats
      going : s.stopping ≡ false

    -- what one more copy of a command leaves
    record Copied (sent repeats : ℕ) (p : Packet) (done entries : List Packet) (s : State) : Type 0 where
      target : Core
      once : Sent p target s
      whole : nat_le (copies repeats p) (sent + 1) ≡ true → core s ≡ target
      asks : asked (done ++ p ∷ []) ≡ target
      entries_hold : AllByRecursion (Entry target) entries

    one_copy : (sent slots repeats : ℕ) (p : Packet) (rest done entries after : List Packet) (c : Core) (s : State)
        → 0 < repeats → Progress sent (p ∷ rest) done c s → AllByRecursion (Entry c) entries
        → EntriesAfter sent slots p entries after → Copied sent repeats p done after (copied (hears who p) s p)
    one_copy zero slots repeats p rest done entries after c s some progress all refreshed =
        let has : (d : Core) → d ≡ c → then_effect (hears who p) d p ≡ then_effect (hears who p) c p =
        λ d is. ap (λ d. then_effect (hears who p) d p) is in record {
          target = then_effect (hears who p) c p;
          once = (after_first (hears who p) s p ∙ has (core s) progress.0, waits (hears who p) s p);
          whole = λ last. at_once (hears who p) s p (grind (arith, nat_tests, last)) ∙ has (core s) progress.0;
          asks = run-more then_effect (core (start m)) done p ∙ has (asked done) progress.1;
          entries_hold = refreshed_entries c slots p entries after all refreshed;
        }
    one_copy (suc sent) slots repeats p rest done entries after c s some progress all same = record {
      target = c;
      once = (after_first (hears who p) s p ∙ progress.0.0, waits (hears who p) s p);
      whole = λ last. at_last (hears who p) s p progress.0.1 ∙ progress.0.0;
      asks = progress.1;
      entries_hold = rw same all;
    }

    -- a packet that changes nothing leaves all but the order of the entries
    unchanged : (s : Sending) (entries after commands packets : List Packet) (out : Packet)
        (inv : Invariant (record s { waiting = []; sent = 0; entries = entries }) commands packets)
        → core (copied (hears who out) (after_packets packets) out) ≡ inv.target
        → AllByRecursion (Entry inv.target) after
        → Invariant (record s { waiting = []; sent = 0; entries = after }) commands (packets ++ out ∷ [])
    unchanged s entries after commands packets out inv same hold = record {
      done = inv.done;
      target = inv.target;
      split = inv.split;
      progress = (ap core (run-more copied (start m) packets out) ∙ same, inv.progress.1);
      entries = hold;
      some = inv.some;
      going = inv.going;
    }

    next_keeps : (waiting entries : List Packet) (sent : ℕ) (s : Sending) (commands packets : List Packet)
        (out : Packet) (new : Sending)
        → Invariant (record s { waiting = waiting; sent = sent; entries = entries }) commands packets
        → HandsOut waiting entries (record s { waiting = waiting; sent = sent; entries = entries }) out new
        → Invariant new commands (packets ++ out ∷ [])
    next_keeps [] entries (suc sent) s commands packets out new inv next = absurd inv.progress
    next_keeps [] [] zero s commands packets out new inv (is, as_said) =
        rw (is, as_said) (unchanged s [] [] commands packets Idle inv
        (ap (λ t. core (copied t (after_packets packets) Idle)) (idle_is_unheard who) ∙ inv.progress.0) tt)
    next_keeps [] (e ∷ later) zero s commands packets out new inv (is, as_said) =
        rw (is, as_said) (unchanged s (e ∷ later) (later ++ e ∷ []) commands packets e inv
        (at_once (hears who e) (after_packets packets) e (refreshed_is_no_write e inv.entries.0.0)
        ∙ ap (λ d. then_effect (hears who e) d e) inv.progress.0 ∙ inv.entries.0.1)
        (all_append (Entry inv.target) later (e ∷ []) inv.entries.1 (inv.entries.0, tt)))
    next_keeps (p ∷ rest) entries sent s commands packets out new inv (is, (after, changed, as_said)) =
        rw (is, as_said) (by_case (nat_le (copies s.repeats p) (sent + 1)) refl)
      where
        one : Copied sent s.repeats p inv.done after (after_packets (packets ++ p ∷ []))
        one = rw (run-more copied (start m) packets p)
            (one_copy sent s.slots s.repeats p rest inv.done entries after inv.target (after_packets packets) inv.some
            inv.progress inv.entries changed)

        by_case : (t : Bool) → nat_le (copies s.repeats p) (sent + 1) ≡ t
            → Invariant (cond t (record s { waiting = rest; stopping = false; sent = 0; entries = after })
            (record s { waiting = p ∷ rest; sent = sent + 1; entries = after })) commands (packets ++ p ∷ [])
        by_case true last = record {
          done = inv.done ++ p ∷ [];
          target = one.target;
          split = inv.split ∙ sym (append_assoc inv.done (p ∷ []) rest);
          progress = (one.whole last, one.asks);
          entries = one.entries_hold;
          some = inv.some;
          going = refl;
        }
        by_case false more = record {
          done = inv.done;
          target = one.target;
          split = inv.split;
          progress = rw (add-one sent) (one.once, one.asks);
          entries = one.entries_hold;
          some = inv.some;
          going = inv.going;
        }

    more_waits : (sent : ℕ) (waiting done : List Packet) (c : Core) (s : State) (p : Packet)
        → Progress sent waiting done c s → Progress sent (waiting ++ p ∷ []) done c s
    more_waits sent waiting done c s p progress = grind arith

    stands : (s : Sending) (commands packets : List Packet) → StationRepresents s commands packets
        → Invariant s commands packets
    stands _ _ _ (made queue slots repeats some) =
        record {
          done = [];
          target = core (start m);
          split = refl;
          progress = (refl, refl);
          entries = tt;
          some = some;
          going = refl;
        }
    stands _ _ _ (accepts old before packets p from sendable room) =
        let inv = stands old before packets from in record {
          done = inv.done;
          target = inv.target;
          split = ap (λ l. l ++ p ∷ []) inv.split ∙ append_assoc inv.done old.waiting (p ∷ []);
          progress = more_waits old.sent old.waiting inv.done inv.target (after_packets packets) p inv.progress;
          entries = inv.entries;
          some = inv.some;
          going = inv.going;
        }
    stands _ _ _ (hands_out old new commands before p from next) =
        let inv = stands old commands before from in
        next_keeps old.waiting old.entries old.sent old commands before p new inv
        (subst (λ stopping. HandsOut (with_stop stopping old.waiting) old.entries old p new) inv.going next)
    stands _ _ _ (forgets old commands packets to from) =
        let inv = stands old commands packets from in record {
          done = inv.done;
          target = inv.target;
          split = inv.split;
          progress = inv.progress;
          entries = all_left (λ e. not (has_address to e)) (Entry inv.target) old.entries inv.entries;
          some = inv.some;
          going = inv.going;
        }

    when_whole : (sent : ℕ) (waiting done : List Packet) (c : Core) (s : State) → sent ≡ 0
        → Progress sent waiting done c s → core s ≡ asked done
    when_whole sent waiting done c s e progress = grind arith

-- cores that are the same show the same registers, but for what is pending
pub read_core : (s t : State) (r : Register) → r ≢ Register'.Pending → core s ≡ core t → read s r ≡ read t r
read_core s t r other e = grind arith

pub refresh : RefreshIsTransparent
refresh s done packets from whole who m r other =
    let inv = stands who m s (done ++ s.waiting) packets from in
    let same_done : done ≡ inv.done = append_cancel_right done inv.done s.waiting inv.split in
    read-state_after m (heard who packets) r
    ∙ read_core (state_after (start m) (heard who packets)) (state_after (start m) (heard who (intended done)))
    r other (
    ap core (state_after-heard who (start m) packets)
    ∙ when_whole who m s.sent s.waiting inv.done inv.target (after_packets who m packets) whole inv.progress
    ∙ ap (asked who m) (sym same_done) ∙ sym (run-intended who (start m) done)
    ∙ sym (ap core (state_after-heard who (start m) (intended done))))
    ∙ sym (read-state_after m (heard who (intended done)) r)

pub refresh_all : TransparentWhereNothingWaits
refresh_all s commands packets from none who m r other =
    let all : commands ++ s.waiting ≡ commands = rw none (append-nil commands) in
    refresh s commands packets (rw all from)
    (none_sent s.sent s.waiting _ _ _ none (stands who m s commands packets from).progress) who m r other
  where
    none_sent : (sent : ℕ) (waiting done : List Packet) (c : Core) (now : State) → waiting ≡ []
        → Progress who m sent waiting done c now → sent ≡ 0
    none_sent sent waiting done c now e progress = grind arith

pub waiting_is_the_end : WaitingIsSuffix
waiting_is_the_end s commands packets from =
    let inv = stands (Loco None) (λ r. None) s commands packets from in (inv.done, inv.split)

pub never_stopped : (s : Sending) (commands packets : List Packet) → StationRepresents s commands packets
    → s.stopping ≡ false
never_stopped s commands packets from = (stands (Loco None) (λ r. None) s commands packets from).going
