-- Stops and refreshing change no register but what is pending.
use Rattle.std.proofs.Common.{◌≡◌, ◌∙◌, refl, sym, ap, Bool, true, false, cond, List, [], ◌∷◌, ◌++◌}
use Rattle.std.proofs.Common.{append_assoc, append-nil, add-one, None, ℕ, zero, suc, ◌+◌, ◌<◌, arith}
use Rattle.std.specs.Prelude.{nat_le, not, filter}
use Rattle.std.specs.List.{AllByRecursion}
use Rattle.std.proofs.lemmas.Bool.Decides.{nat_tests}
use Rattle.std.proofs.lemmas.List.{append_cancel_right}
use Rattle.std.proofs.lemmas.List.Elements.{filter-append}
use Rattle.dcc_packet.specs.declared.packet.Packet.{Packet}
use Rattle.dcc_packet.specs.declared.packet.Packet.TheVariants.{Idle}
use Rattle.dcc_regs.specs.declared.register.Who.{Who}
use Rattle.dcc_regs.specs.declared.register.Who.TheVariants.{Loco}
use Rattle.dcc_regs.specs.Writes.{is_own_write}
use Rattle.dcc_regs.specs.Result.{RegisterMap}
use Rattle.dcc_regs.specs.Safety.{can_move}
use Rattle.dcc_regs.specs.Heard.{hears, heard}
use Rattle.dcc_regs.proofs.LawLemmas.{idle_is_unheard}
use Rattle.dcc_regs.proofs.ResultByParts.{read-state_after, State, state_after, start}
use Rattle.dcc_station.specs.Commands.{is_refreshed}
use Rattle.dcc_station.specs.Sending.{Sending, copies, with_stop, outgoing, stop_packet, not_withdrawn}
use Rattle.dcc_station.specs.Sending.{EntriesAfter, HandsOut, has_address}
use Rattle.dcc_station.specs.Refresh.{StationRepresents, intended}
use Rattle.dcc_station.specs.Refresh as refresh
use Rattle.dcc_station.specs.Stops.{StationObeys, made, accepts, hands_out, forgets, stops, begun, partly_sent}
use Rattle.dcc_station.specs.Stops.{StopsAreTransparent, StationsThatRepresentObey}
use Rattle.dcc_station.specs.Stops.{OutgoingIsSuffix, NoStopWaitsUnasked, BroadcastsAreNoEntries}
use Rattle.dcc_station.proofs.Tables.{refreshed_is_no_write}
use Rattle.dcc_station.proofs.EntriesForgotten.{all_left, none_to_all}
use Rattle.dcc_station.proofs.Effects.{Core, core, copied, then_effect, waits, at_once, at_last}
use Rattle.dcc_station.proofs.Effects.{after_first, effect_twice}
use Rattle.dcc_station.proofs.StopEffects.{again}
use Rattle.dcc_station.proofs.Transparent.{Entry, refreshed_entries, run, run-more, state_after-heard, run-intended}
use Rattle.dcc_station.proofs.Transparent.{Sent, after_packets, asked, all_append, read_core, never_stopped}

pub represent_obey : StationsThatRepresentObey
represent_obey _ _ _ (refresh.made queue slots repeats some) = made queue slots repeats some
represent_obey _ _ _ (refresh.accepts s commands packets p from sendable room) =
    accepts s commands packets p (represent_obey s commands packets from) sendable room
represent_obey _ _ _ (refresh.hands_out s new commands packets p from next) =
    hands_out s new commands packets p (represent_obey s commands packets from) next
represent_obey _ _ _ (refresh.forgets s commands packets to from) =
    forgets s commands packets to (represent_obey s commands packets from)

pub no_stop_waits : NoStopWaitsUnasked
no_stop_waits s commands packets from =
    ap (λ stopping. with_stop stopping s.waiting) (never_stopped s commands packets from)

-- a list of at most one command, which no stop withdraws
abbrev AtMostOne : List Packet → Type 0
AtMostOne [] = Unit {0}
AtMostOne (p ∷ []) = can_move p ≡ false
AtMostOne (p ∷ q ∷ l) = ⊥

-- the first commands of a queue, which are to be sent once more after a stop
record Redone (waiting : List Packet) : Type 0 where
  first : List Packet
  later : List Packet
  is : waiting ≡ first ++ later
  few : AtMostOne first

abbrev none_redone : (waiting : List Packet) → Redone waiting
none_redone waiting = record { first = []; later = waiting; is = refl; few = tt }

-- more commands wait
abbrev redone_more : (waiting : List Packet) (p : Packet) → Redone waiting → Redone (waiting ++ p ∷ [])
redone_more waiting p redone = record {
  first = redone.first;
  later = redone.later ++ p ∷ [];
  is = ap (λ l. l ++ p ∷ []) redone.is ∙ append_assoc redone.first redone.later (p ∷ []);
  few = redone.few;
}

one_stays : (first : List Packet) → AtMostOne first → not_withdrawn first ≡ first
one_stays [] few = refl
one_stays (p ∷ []) few = rw few refl
one_stays (p ∷ q ∷ l) few = absurd few

-- a stop withdraws no command that is to be sent once more
abbrev redone_left : (waiting : List Packet) → Redone waiting → Redone (not_withdrawn waiting)
redone_left waiting redone = record {
  first = redone.first;
  later = not_withdrawn redone.later;
  is = ap not_withdrawn redone.is ∙ filter-append (λ p. not (can_move p)) redone.first redone.later
      ∙ ap (λ l. l ++ not_withdrawn redone.later) (one_stays redone.first redone.few);
  few = redone.few;
}

-- a packet that sets a speed to a step is no own write
moving_is_no_write : (p : Packet) → can_move p ≡ true → is_own_write p ≡ false
moving_is_no_write p moves = grind (arith, moves)

module _ (who : Who) where
  abbrev then' : Core → Packet → Core
  then' c p = then_effect (hears who p) c p

  abbrev all' : Core → List Packet → Core
  all' c l = run who then_effect c l

  -- what agrees after a command agrees after the stop and the command
  agree_stopped : (first : List Packet) (c d : Core) → AtMostOne first → all' c first ≡ all' d first
      → all' (then' c stop_packet) first ≡ all' (then' d stop_packet) first
  agree_stopped [] c d few same = ap (λ x. then' x stop_packet) same
  agree_stopped (p ∷ []) c d few same =
      sym (again (hears who stop_packet) (hears who p) c p)
      ∙ ap (λ x. then' (then' x stop_packet) p) same
      ∙ again (hears who stop_packet) (hears who p) d p
  agree_stopped (p ∷ q ∷ l) c d few same = absurd few

  -- what agrees after the commands to be sent once more agrees after the first command
  agree_first : (first later rest : List Packet) (p : Packet) (c d : Core) → AtMostOne first
      → p ∷ rest ≡ first ++ later → all' c first ≡ all' d first → then' c p ≡ then' d p
  agree_first [] later rest p c d few is same = ap (λ x. then' x p) same
  agree_first (q ∷ []) later rest p c d few is same =
      let here : p ≡ q = cc in rw here same
  agree_first (q ∷ r ∷ l) later rest p c d few is same = absurd few

  agree_none : (first later : List Packet) (c d : Core) → [] ≡ first ++ later → all' c first ≡ all' d first → c ≡ d
  agree_none [] later c d is same = same
  agree_none (q ∷ first) later c d is same = absurd (cc)

  module _ (m : RegisterMap) where
    abbrev wanted : List Packet → Core
    wanted done = asked who m done

    -- the cores of the decoder, of the accepted commands and of the entries agree after the
    -- commands that are to be sent once more
    record Level (waiting : List Packet) (c asks e : Core) : Type 0 where
      redone : Redone waiting
      same : all' c redone.first ≡ all' e redone.first
      as_asked : all' asks redone.first ≡ all' e redone.first

    -- how far the stop or the first command is sent, where the commands before it are `done`
    abbrev Progress : Bool → ℕ → List Packet → List Packet → Core → State → Type 0
    Progress false zero waiting done e t = Level waiting (core t) (wanted done) e
    Progress false (suc sent) [] done e t = ⊥
    Progress false (suc sent) (p ∷ rest) done e t =
        Sent who p e t × (wanted (done ++ p ∷ []) ≡ e) × (is_own_write p ≡ false → core t ≡ e)
    Progress true zero waiting done e t =
        Level waiting (then' (core t) stop_packet) (wanted (done ++ stop_packet ∷ [])) (then' e stop_packet)
    Progress true (suc sent) waiting done e t =
        Level waiting (core t) (wanted (done ++ stop_packet ∷ [])) e
        × (then' (core t) stop_packet ≡ core t) × (then' e stop_packet ≡ e)

    record Obeyed (s : Sending) (commands packets : List Packet) : Type 0 where
      done : List Packet
      base : Core
      split : commands ≡ done ++ outgoing s
      progress : Progress s.stopping s.sent s.waiting done base (after_packets who m packets)
      entries : AllByRecursion (Entry who base) s.entries
      some : 0 < s.repeats

    more : (stopping : Bool) (sent : ℕ) (waiting done : List Packet) (e : Core) (t : State) (p : Packet)
        → Progress stopping sent waiting done e t → Progress stopping sent (waiting ++ p ∷ []) done e t
    more false zero waiting done e t p level =
        record { redone = redone_more waiting p level.redone; same = level.same; as_asked = level.as_asked }
    more false (suc sent) [] done e t p progress = absurd progress
    more false (suc sent) (q ∷ rest) done e t p progress = progress
    more true zero waiting done e t p level =
        record { redone = redone_more waiting p level.redone; same = level.same; as_asked = level.as_asked }
    more true (suc sent) waiting done e t p (level, settled, held) = (
      record { redone = redone_more waiting p level.redone; same = level.same; as_asked = level.as_asked },
      settled,
      held,
    )

    line_more : (stopping : Bool) (waiting : List Packet) (p : Packet)
        → with_stop stopping waiting ++ p ∷ [] ≡ with_stop stopping (waiting ++ p ∷ [])
    line_more true waiting p = refl
    line_more false waiting p = refl

    -- a packet that changes nothing leaves all but the order of the entries
    unchanged : (s : Sending) (done entries after commands packets : List Packet) (e : Core) (out : Packet)
        → commands ≡ done ++ []
        → core (copied (hears who out) (after_packets who m packets) out) ≡ e → wanted done ≡ e
        → AllByRecursion (Entry who e) after → 0 < s.repeats
        → Obeyed (record s { waiting = []; stopping = false; sent = 0; entries = after }) commands
        (packets ++ out ∷ [])
    unchanged s done entries after commands packets e out is same asks hold some = record {
      done = done;
      base = e;
      split = is;
      progress = record {
        redone = none_redone [];
        same = ap core (run-more who copied (start m) packets out) ∙ same;
        as_asked = asks;
      };
      entries = hold;
      some = some;
    }

    -- what one more copy of a command leaves
    record Copied (sent repeats : ℕ) (p : Packet) (done entries : List Packet) (t : State) : Type 0 where
      base : Core
      once : Sent who p base t
      plain : is_own_write p ≡ false → core t ≡ base
      whole : nat_le (copies repeats p) (sent + 1) ≡ true → core t ≡ base
      asks : wanted (done ++ p ∷ []) ≡ base
      hold : AllByRecursion (Entry who base) entries

    one_copy : (sent slots repeats : ℕ) (p : Packet) (rest done entries after : List Packet) (e : Core) (t : State)
        → 0 < repeats → Progress false sent (p ∷ rest) done e t → AllByRecursion (Entry who e) entries
        → EntriesAfter sent slots p entries after → Copied sent repeats p done after (copied (hears who p) t p)
    one_copy zero slots repeats p rest done entries after e t some level all refreshed =
        let r = level.redone in
        let first : then' (core t) p ≡ then' e p =
        agree_first r.first r.later rest p (core t) e r.few r.is level.same in
        record {
          base = then' e p;
          once = (after_first (hears who p) t p ∙ first, waits (hears who p) t p);
          plain = λ other. at_once (hears who p) t p other ∙ first;
          whole = λ last. at_once (hears who p) t p (grind (arith, nat_tests, last)) ∙ first;
          asks = run-more who then_effect (core (start m)) done p
              ∙ agree_first r.first r.later rest p (wanted done) e r.few r.is level.as_asked;
          hold = refreshed_entries who e slots p entries after all refreshed;
        }
    one_copy (suc sent) slots repeats p rest done entries after e t some (sent_once, asks, plain) all same = record {
      base = e;
      once = (after_first (hears who p) t p ∙ sent_once.0, waits (hears who p) t p);
      plain = λ other. at_once (hears who p) t p other ∙ sent_once.0;
      whole = λ last. at_last (hears who p) t p sent_once.1 ∙ sent_once.0;
      asks = asks;
      hold = rw same all;
    }

    -- what one more copy of the stop leaves
    record StopCopied (waiting done entries : List Packet) (t : State) : Type 0 where
      base : Core
      level : Level waiting (core t) (wanted (done ++ stop_packet ∷ [])) base
      settled : then' (core t) stop_packet ≡ core t
      held : then' base stop_packet ≡ base
      hold : AllByRecursion (Entry who base) entries

    one_stop : (sent slots : ℕ) (waiting done entries after : List Packet) (e : Core) (t : State)
        → Progress true sent waiting done e t → AllByRecursion (Entry who e) entries
        → EntriesAfter sent slots stop_packet entries after
        → StopCopied waiting done after (copied (hears who stop_packet) t stop_packet)
    one_stop zero slots waiting done entries after e t level all refreshed =
        let h = hears who stop_packet in
        let once = at_once h t stop_packet refl in
        record {
          base = then' e stop_packet;
          level = record {
            redone = level.redone;
            same = ap (λ c. all' c level.redone.first) once ∙ level.same;
            as_asked = level.as_asked;
          };
          settled = after_first h t stop_packet ∙ sym once;
          held = effect_twice h e stop_packet;
          hold = refreshed_entries who e slots stop_packet entries after all refreshed;
        }
    one_stop (suc sent) slots waiting done entries after e t (level, settled, held) all same =
        let h = hears who stop_packet in
        let once = at_once h t stop_packet refl in
        record {
          base = e;
          level = record {
            redone = level.redone;
            same = ap (λ c. all' c level.redone.first) (once ∙ settled) ∙ level.same;
            as_asked = level.as_asked;
          };
          settled = after_first h t stop_packet ∙ sym once;
          held = held;
          hold = rw same all;
        }

    next_keeps : (stopping : Bool) (waiting entries : List Packet) (sent : ℕ) (s : Sending)
        (commands packets : List Packet) (out : Packet) (new : Sending)
        → Obeyed (record s { waiting = waiting; stopping = stopping; sent = sent; entries = entries }) commands packets
        → HandsOut (with_stop stopping waiting) entries
        (record s { waiting = waiting; stopping = stopping; sent = sent; entries = entries }) out new
        → Obeyed new commands (packets ++ out ∷ [])
    next_keeps false [] entries (suc sent) s commands packets out new inv next = absurd inv.progress
    next_keeps false [] [] zero s commands packets out new inv (is, as_said) =
        let r = inv.progress.redone in
        let c : core (after_packets who m packets) ≡ inv.base = agree_none r.first r.later _ _ r.is inv.progress.same in
        let asks : wanted inv.done ≡ inv.base = agree_none r.first r.later _ _ r.is inv.progress.as_asked in
        rw (is, as_said) (unchanged s inv.done [] [] commands packets inv.base Idle inv.split
        (ap (λ t. core (copied t (after_packets who m packets) Idle)) (idle_is_unheard who) ∙ c) asks tt inv.some)
    next_keeps false [] (e ∷ later) zero s commands packets out new inv (is, as_said) =
        let r = inv.progress.redone in
        let c : core (after_packets who m packets) ≡ inv.base = agree_none r.first r.later _ _ r.is inv.progress.same in
        let asks : wanted inv.done ≡ inv.base = agree_none r.first r.later _ _ r.is inv.progress.as_asked in
        rw (is, as_said) (unchanged s inv.done (e ∷ later) (later ++ e ∷ []) commands packets inv.base e inv.split
        (at_once (hears who e) (after_packets who m packets) e (refreshed_is_no_write e inv.entries.0.0)
        ∙ ap (λ d. then_effect (hears who e) d e) c ∙ inv.entries.0.1) asks
        (all_append (Entry who inv.base) later (e ∷ []) inv.entries.1 (inv.entries.0, tt)) inv.some)
    next_keeps false (p ∷ rest) entries sent s commands packets out new inv (is, (after, changed, as_said)) =
        rw (is, as_said) (by_case (nat_le (copies s.repeats p) (sent + 1)) refl)
      where
        one : Copied sent s.repeats p inv.done after (after_packets who m (packets ++ p ∷ []))
        one = rw (run-more who copied (start m) packets p)
            (one_copy sent s.slots s.repeats p rest inv.done entries after inv.base (after_packets who m packets)
            inv.some inv.progress inv.entries changed)

        by_case : (t : Bool) → nat_le (copies s.repeats p) (sent + 1) ≡ t
            → Obeyed (cond t (record s { waiting = rest; stopping = false; sent = 0; entries = after })
            (record s { waiting = p ∷ rest; stopping = false; sent = sent + 1; entries = after })) commands
            (packets ++ p ∷ [])
        by_case true last = record {
          done = inv.done ++ p ∷ [];
          base = one.base;
          split = inv.split ∙ sym (append_assoc inv.done (p ∷ []) rest);
          progress = record { redone = none_redone rest; same = one.whole last; as_asked = one.asks };
          entries = one.hold;
          some = inv.some;
        }
        by_case false more = record {
          done = inv.done;
          base = one.base;
          split = inv.split;
          progress = rw (add-one sent) (one.once, one.asks, one.plain);
          entries = one.hold;
          some = inv.some;
        }
    next_keeps true waiting entries sent s commands packets out new inv (is, (after, changed, as_said)) =
        rw (is, as_said) (by_case (nat_le (copies s.repeats stop_packet) (sent + 1)))
      where
        one : StopCopied waiting inv.done after (after_packets who m (packets ++ stop_packet ∷ []))
        one = rw (run-more who copied (start m) packets stop_packet)
            (one_stop sent s.slots waiting inv.done entries after inv.base (after_packets who m packets) inv.progress
            inv.entries changed)

        by_case : (t : Bool)
            → Obeyed (cond t (record s { waiting = waiting; stopping = false; sent = 0; entries = after })
            (record s { waiting = waiting; stopping = true; sent = sent + 1; entries = after })) commands
            (packets ++ stop_packet ∷ [])
        by_case true = record {
          done = inv.done ++ stop_packet ∷ [];
          base = one.base;
          split = inv.split ∙ sym (append_assoc inv.done (stop_packet ∷ []) waiting);
          progress = one.level;
          entries = one.hold;
          some = inv.some;
        }
        by_case false = record {
          done = inv.done;
          base = one.base;
          split = inv.split;
          progress = rw (add-one sent) (one.level, one.settled, one.held);
          entries = one.hold;
          some = inv.some;
        }

    asked_stop : (done : List Packet) → wanted (done ++ stop_packet ∷ []) ≡ then' (wanted done) stop_packet
    asked_stop done = run-more who then_effect (core (start m)) done stop_packet

    -- a stop
    halted : (stopping : Bool) (sent : ℕ) (waiting done : List Packet) (e : Core) (t : State)
        → Progress stopping sent waiting done e t
        → Progress true zero (not_withdrawn waiting) (done ++ filter can_move (begun stopping sent waiting)) e t
    halted false zero waiting done e t level =
        let r = level.redone in
        rw (append-nil done) (record {
          redone = redone_left waiting r;
          same = agree_stopped r.first (core t) e r.few level.same;
          as_asked = ap (λ c. all' c r.first) (asked_stop done)
              ∙ agree_stopped r.first (wanted done) e r.few level.as_asked;
        })
    halted false (suc sent) [] done e t progress = absurd progress
    halted false (suc sent) (p ∷ rest) done e t (sent_once, asks, plain) = by_case (can_move p) refl
      where
        -- the command, the stop and the command leave what the stop and the command leave
        back : (c : Core) → then' c p ≡ e → then' (then' c stop_packet) p ≡ then' (then' e stop_packet) p
        back c is = sym (again (hears who stop_packet) (hears who p) c p)
            ∙ ap (λ x. then' (then' x stop_packet) p) is

        by_case : (moves : Bool) → can_move p ≡ moves
            → Level (cond (not moves) (p ∷ not_withdrawn rest) (not_withdrawn rest)) (then' (core t) stop_packet)
            (wanted ((done ++ cond moves (p ∷ []) []) ++ stop_packet ∷ [])) (then' e stop_packet)
        by_case true moves = record {
          redone = none_redone (not_withdrawn rest);
          same = ap (λ c. then' c stop_packet) (plain (moving_is_no_write p moves));
          as_asked = asked_stop (done ++ p ∷ []) ∙ ap (λ c. then' c stop_packet) asks;
        }
        by_case false still = record {
          redone = record { first = p ∷ []; later = not_withdrawn rest; is = refl; few = still };
          same = back (core t) sent_once.0;
          as_asked = ap (λ d. then' (wanted (d ++ stop_packet ∷ [])) p) (append-nil done)
              ∙ ap (λ c. then' c p) (asked_stop done)
              ∙ back (wanted done) (sym (run-more who then_effect (core (start m)) done p) ∙ asks);
        }
    halted true zero waiting done e t level =
        rw (append-nil done)
        (record { redone = redone_left waiting level.redone; same = level.same; as_asked = level.as_asked })
    halted true (suc sent) waiting done e t (level, settled, held) =
        let first = level.redone.first in
        let back = sym (ap (λ c. all' c first) held) in
        rw (append-nil done) (record {
          redone = redone_left waiting level.redone;
          same = ap (λ c. all' c first) settled ∙ level.same ∙ back;
          as_asked = level.as_asked ∙ back;
        })

    stands : (s : Sending) (commands packets : List Packet) → StationObeys s commands packets
        → Obeyed s commands packets
    stands _ _ _ (made queue slots repeats some) = record {
      done = [];
      base = core (start m);
      split = refl;
      progress = record { redone = none_redone []; same = refl; as_asked = refl };
      entries = tt;
      some = some;
    }
    stands _ _ _ (accepts old before packets p from sendable room) =
        let inv = stands old before packets from in record {
          done = inv.done;
          base = inv.base;
          split = ap (λ l. l ++ p ∷ []) inv.split ∙ append_assoc inv.done (outgoing old) (p ∷ [])
              ∙ ap (λ l. inv.done ++ l) (line_more old.stopping old.waiting p);
          progress =
              more old.stopping old.sent old.waiting inv.done inv.base (after_packets who m packets) p inv.progress;
          entries = inv.entries;
          some = inv.some;
        }
    stands _ _ _ (hands_out old new commands before p from next) =
        next_keeps old.stopping old.waiting old.entries old.sent old commands before p new
        (stands old commands before from) next
    stands _ _ _ (forgets old commands packets to from) =
        let inv = stands old commands packets from in record {
          done = inv.done;
          base = inv.base;
          split = inv.split;
          progress = inv.progress;
          entries = all_left (λ e. not (has_address to e)) (Entry who inv.base) old.entries inv.entries;
          some = inv.some;
        }
    stands _ _ _ (stops old done packets from) =
        let inv = stands old (done ++ outgoing old) packets from in
        let gone = filter can_move (partly_sent old) in
        let later = stop_packet ∷ not_withdrawn old.waiting in
        let same : done ≡ inv.done = append_cancel_right done inv.done (outgoing old) inv.split in
        record {
          done = inv.done ++ gone;
          base = inv.base;
          split = ap (λ d. d ++ gone ++ later) same;
          progress =
              halted old.stopping old.sent old.waiting inv.done inv.base (after_packets who m packets) inv.progress;
          entries = inv.entries;
          some = inv.some;
        }

    -- nothing waits
    when_none : (stopping : Bool) (sent : ℕ) (waiting done : List Packet) (e : Core) (t : State)
        → with_stop stopping waiting ≡ [] → Progress stopping sent waiting done e t → core t ≡ wanted done
    when_none true sent waiting done e t none progress = absurd (cc)
    when_none false sent (p ∷ rest) done e t none progress = absurd (cc)
    when_none false (suc sent) [] done e t none progress = absurd progress
    when_none false zero [] done e t none level =
        let r = level.redone in
        agree_none r.first r.later _ _ r.is level.same ∙ sym (agree_none r.first r.later _ _ r.is level.as_asked)

pub transparent : StopsAreTransparent
transparent s commands packets from none who m r other =
    let inv = stands who m s commands packets from in
    let same : commands ≡ inv.done = inv.split ∙ ap (λ l. inv.done ++ l) none ∙ append-nil inv.done in
    read-state_after m (heard who packets) r
    ∙ read_core (state_after (start m) (heard who packets)) (state_after (start m) (heard who (intended commands)))
    r other (
    ap core (state_after-heard who (start m) packets)
    ∙ when_none who m s.stopping s.sent s.waiting inv.done inv.base (after_packets who m packets) none inv.progress
    ∙ ap (asked who m) (sym same) ∙ sym (run-intended who (start m) commands)
    ∙ sym (ap core (state_after-heard who (start m) (intended commands))))
    ∙ sym (read-state_after m (heard who (intended commands)) r)

pub outgoing_is_the_end : OutgoingIsSuffix
outgoing_is_the_end s commands packets from =
    let inv = stands (Loco None) (λ r. None) s commands packets from in (inv.done, inv.split)

pub broadcasts : BroadcastsAreNoEntries
broadcasts s commands packets from =
    let inv = stands (Loco None) (λ r. None) s commands packets from in
    ap (λ l. record s { entries = l }) (none_to_all s.entries (refreshed s.entries inv.base inv.entries))
  where
    refreshed : (l : List Packet) (c : Core) → AllByRecursion (Entry (Loco None) c) l
        → AllByRecursion (λ e. is_refreshed e ≡ true) l
    refreshed [] c all = tt
    refreshed (e ∷ l) c all = (all.0.0, refreshed l c all.1)
