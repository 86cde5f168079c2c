-- The packets before the first copy of a command, with stops in between.
use Rattle.std.proofs.Common.{◌≡◌, ◌∙◌, refl, sym, ap, subst, Bool, true, false, cond, List, [], ◌∷◌, ◌++◌, ℕ, zero}
use Rattle.std.proofs.Common.{suc, ◌+◌, ◌-◌, ◌*◌, ◌<◌, ◌≤◌, arith, length, drop, replicate, append_assoc, add-one}
use Rattle.std.proofs.Common.{length-append, length-drop}
use Rattle.std.proofs.lemmas.List.{length-replicate}
use Rattle.std.specs.Prelude.{nat_le, not}
use Rattle.std.proofs.lemmas.Bool.Decides.{nat_tests}
use Rattle.dcc_packet.specs.declared.packet.Packet.{Packet}
use Rattle.dcc_regs.specs.Safety.{can_move}
use Rattle.dcc_station.specs.Sending.{Sending, copies, outgoing, with_command, with_stop, forgotten, stopped}
use Rattle.dcc_station.specs.Sending.{not_withdrawn, sent_once_more, stop_packet, HandsOut}
use Rattle.dcc_station.specs.LaterStops.{RunsWithStops, stays_so, accepts_more, returns_more, forgets_more, stops_more}
use Rattle.dcc_station.specs.LaterStops.{ComesWithin, CommandsWaitWithLaterStops, longest_wait, cost_of_stop}
use Rattle.dcc_station.specs.WaitingTimes.{all_copies, copies_left}
use Rattle.dcc_station.proofs.WaitingLemmas.{Counted, Unfinished, all_few, counted_more, counted_next, counted_obeyed}
use Rattle.dcc_station.proofs.WaitingLemmas.{drop_all, drop_one, few_copies, some_copies}

-- the copies that are to be sent before a command before which the commands `before` wait
abbrev ahead : Sending → List Packet → ℕ
ahead s before = length (copies_left s (with_stop s.stopping before))

-- a stop costs at most `cost` packets
record Covers (repeats cost : ℕ) (before : List Packet) : Type 0 where
  one : repeats ≤ cost
  two : 0 < length before → 2 * repeats ≤ cost

within : {n m : ℕ} {p : Packet} {packets : List Packet} → n ≤ m → ComesWithin n p packets → ComesWithin m p packets
within fewer c = record { first = c.first; rest = c.rest; split = c.split; few = omega (arith, fewer, c.few) }

one_later : {n m : ℕ} {p : Packet} {packets : List Packet} (out : Packet) → m ≡ suc n → ComesWithin n p packets
    → ComesWithin m p (out ∷ packets)
one_later out next c =
    record {
      first = out ∷ c.first;
      rest = c.rest;
      split = ap (λ l. out ∷ l) c.split;
      few = omega (arith, next, c.few);
    }

-- the command `p` follows the commands `before`
abbrev Soon : ℕ → Sending → List Packet → Type 0
Soon stops s packets = (before later : List Packet) (p : Packet) (cost : ℕ) → Counted s
    → s.waiting ≡ before ++ p ∷ later → can_move p ≡ false → Covers s.repeats cost before
    → ahead s before + stops * cost < length packets → ComesWithin (ahead s before + stops * cost) p packets

-- one more copy is sent
module _ (s : Sending) (first : Packet) (others : List Packet) (fewer : s.sent < copies s.repeats first) where
  last_copy : nat_le (copies s.repeats first) (s.sent + 1) ≡ true
      → length (copies_left s (first ∷ others)) ≡ suc (length (all_copies s.repeats others))
  last_copy last =
      let c = copies s.repeats first in
      let later = all_copies s.repeats others in
      let ends : c ≡ suc s.sent = grind (arith, nat_tests, last, fewer) in
      ap length (drop_one c s.sent first later fewer
      ∙ ap (λ l. first ∷ l) (ap (λ n. drop n (replicate c first ++ later)) (sym ends) ∙ drop_all c first later))

  next_copy : length (copies_left s (first ∷ others))
      ≡ suc (length (drop (s.sent + 1) (all_copies s.repeats (first ∷ others))))
  next_copy =
      rw (add-one s.sent)
      (ap length (drop_one (copies s.repeats first) s.sent first (all_copies s.repeats others) fewer))

sum_next : (a b n : ℕ) → a ≡ suc b → a + n ≡ suc (b + n)
sum_next a b n e = omega (arith, e)

-- the next packet
returned_soon : (stopping : Bool) (before later packets : List Packet) (stops cost : ℕ) (s between : Sending)
    (out p : Packet) → s.stopping ≡ stopping → s.waiting ≡ before ++ p ∷ later → Unfinished s.repeats s.sent
    (with_stop stopping (before ++ p ∷ later)) → can_move p ≡ false → Covers s.repeats cost before → Counted between
    → Soon stops between packets → HandsOut (with_stop stopping (before ++ p ∷ later)) s.entries s out between
    → length (copies_left s (with_stop stopping before)) + stops * cost < suc (length packets)
    → ComesWithin (length (copies_left s (with_stop stopping before)) + stops * cost) p (out ∷ packets)
returned_soon false [] later packets stops cost s between out p is waits fewer still covers counted soon next less =
    record { first = []; rest = packets; split = ap (λ q. q ∷ packets) next.0; few = omega arith }
returned_soon false (first ∷ others) later packets stops cost s between out p is waits fewer still covers counted soon
    next less = by_case (nat_le (copies s.repeats first) (s.sent + 1)) refl (rw next.1.2 at counted)
    (rw next.1.2 at soon)
  where
    after : List Packet
    after = next.1.0

    fewer_others : Covers s.repeats cost others
    fewer_others = record { one = covers.one; two = λ some. covers.two (omega arith) }

    by_case : (t : Bool) → nat_le (copies s.repeats first) (s.sent + 1) ≡ t
        → Counted (cond t (record s { waiting = others ++ p ∷ later; stopping = false; sent = 0; entries = after })
        (record s { sent = s.sent + 1; entries = after }))
        → Soon stops (cond t
        (record s { waiting = others ++ p ∷ later; stopping = false; sent = 0; entries = after })
        (record s { sent = s.sent + 1; entries = after })) packets
        → ComesWithin (length (copies_left s (first ∷ others)) + stops * cost) p (out ∷ packets)
    by_case true last counts more =
        let fewer_now = last_copy s first others fewer last in
        one_later out (sum_next _ _ (stops * cost) fewer_now)
        (more others later p cost counts refl still fewer_others (omega (arith, fewer_now, less)))
    by_case false goes_on counts more =
        let fewer_now = next_copy s first others fewer in
        one_later out (sum_next _ _ (stops * cost) fewer_now)
        (rw is at (more (first ∷ others) later p cost counts waits still covers
        (rw is (omega (arith, fewer_now, less)))))
returned_soon true before later packets stops cost s between out p is waits fewer still covers counted soon next less =
    by_case (nat_le (copies s.repeats stop_packet) (s.sent + 1)) refl (rw next.1.2 at counted) (rw next.1.2 at soon)
  where
    after : List Packet
    after = next.1.0

    by_case : (t : Bool) → nat_le (copies s.repeats stop_packet) (s.sent + 1) ≡ t
        → Counted (cond t (record s { waiting = before ++ p ∷ later; stopping = false; sent = 0; entries = after })
        (record s { sent = s.sent + 1; entries = after }))
        → Soon stops (cond t
        (record s { waiting = before ++ p ∷ later; stopping = false; sent = 0; entries = after })
        (record s { sent = s.sent + 1; entries = after })) packets
        → ComesWithin (length (copies_left s (stop_packet ∷ before)) + stops * cost) p (out ∷ packets)
    by_case true last counts more =
        let fewer_now = last_copy s stop_packet before fewer last in
        one_later out (sum_next _ _ (stops * cost) fewer_now)
        (more before later p cost counts refl still covers (omega (arith, fewer_now, less)))
    by_case false goes_on counts more =
        let fewer_now = next_copy s stop_packet before fewer in
        one_later out (sum_next _ _ (stops * cost) fewer_now)
        (rw is at (more before later p cost counts waits still covers (rw is (omega (arith, fewer_now, less)))))

-- a stop

left_of_stop : (before later : List Packet) (p : Packet) → can_move p ≡ false
    → not_withdrawn (before ++ p ∷ later) ≡ not_withdrawn before ++ p ∷ not_withdrawn later
left_of_stop [] later p still = rw still refl
left_of_stop (q ∷ before) later p still = by_case (not (can_move q)) (left_of_stop before later p still)
  where
    by_case : (t : Bool)
        → not_withdrawn (before ++ p ∷ later) ≡ not_withdrawn before ++ p ∷ not_withdrawn later
        → cond t (q ∷ not_withdrawn (before ++ p ∷ later)) (not_withdrawn (before ++ p ∷ later))
        ≡ cond t (q ∷ not_withdrawn before) (not_withdrawn before) ++ p ∷ not_withdrawn later
    by_case true e = ap (λ l. q ∷ l) e
    by_case false e = e

-- a stop leaves no more commands, and no more copies
record FewerLeft (repeats : ℕ) (before : List Packet) : Type 0 where
  commands : length (not_withdrawn before) ≤ length before
  sends : length (all_copies repeats (not_withdrawn before)) ≤ length (all_copies repeats before)

fewer_left : (repeats : ℕ) (before : List Packet) → FewerLeft repeats before
fewer_left repeats [] = record { commands = omega arith; sends = omega arith }
fewer_left repeats (q ∷ before) =
    let both = by_case (not (can_move q)) (fewer_left repeats before) in record { commands = both.0; sends = both.1 }
  where
    by_case : (t : Bool) → FewerLeft repeats before
        → (length (cond t (q ∷ not_withdrawn before) (not_withdrawn before)) ≤ suc (length before))
        × (length (all_copies repeats (cond t (q ∷ not_withdrawn before) (not_withdrawn before)))
        ≤ length (replicate (copies repeats q) q ++ all_copies repeats before))
    by_case true f =
        (omega (arith, f.commands), rw (length-append, length-append) (omega (arith, f.sends)))
    by_case false f =
        (omega (arith, f.commands), rw length-append (omega (arith, f.sends)))

-- a stop delays the command by at most its cost
stop_delays : (stopping : Bool) (s : Sending) (before later : List Packet) (p : Packet) (cost : ℕ)
    → Unfinished s.repeats s.sent (with_stop stopping (before ++ p ∷ later)) → Covers s.repeats cost before
    → length (all_copies s.repeats (stop_packet ∷ not_withdrawn before))
    ≤ length (copies_left s (with_stop stopping before)) + cost
stop_delays true s before later p cost fewer covers =
    let f = fewer_left s.repeats before in
    rw (length-append, length-drop, length-append, length-replicate) (omega (arith, fewer, covers.one, f.sends))
stop_delays false s [] later p cost fewer covers =
    rw (length-append, length-drop, length-replicate) (omega (arith, covers.one))
stop_delays false s (first ∷ others) later p cost fewer covers =
    let f = fewer_left s.repeats (first ∷ others) in
    let two = covers.two (omega arith) in
    let few = few_copies s.repeats first in
    let stop : length (all_copies s.repeats (stop_packet ∷ not_withdrawn (first ∷ others)))
    ≡ s.repeats + length (all_copies s.repeats (not_withdrawn (first ∷ others))) =
    rw (length-append, length-replicate) refl in
    let whole : length (all_copies s.repeats (first ∷ others))
    ≡ copies s.repeats first + length (all_copies s.repeats others) =
    rw (length-append, length-replicate) refl in
    let left : length (copies_left s (first ∷ others)) ≡ length (all_copies s.repeats (first ∷ others)) - s.sent =
    length-drop _ _ in
    omega (arith, stop, whole, left, f.sends, two, few, fewer)

one_cost_more : (stops cost : ℕ) → suc stops * cost ≡ stops * cost + cost
one_cost_more stops cost = grind arith

run_soon : (stops : ℕ) (s new : Sending) (packets : List Packet) → RunsWithStops stops s packets new
    → Soon stops s packets
run_soon _ _ _ _ (stays_so s) before later p cost counted waits still covers less = absurd (omega (arith, less))
run_soon _ _ _ _ (accepts_more stops s new packets q run) before later p cost counted waits still covers less =
    run_soon stops (with_command s q) new packets run before (later ++ q ∷ []) p cost (counted_more s q counted)
    (ap (λ l. l ++ q ∷ []) waits ∙ append_assoc before (p ∷ later) (q ∷ [])) still covers less
run_soon _ _ _ _ (returns_more stops s between new q packets next run) before later p cost counted waits still covers
    less =
    returned_soon s.stopping before later packets stops cost s between q p refl waits
    (subst (λ l. Unfinished s.repeats s.sent (with_stop s.stopping l)) waits counted.1) still covers
    (counted_next (outgoing s) s.entries s between q counted.0 counted.1 refl next)
    (run_soon stops between new packets run)
    (subst (λ l. HandsOut (with_stop s.stopping l) s.entries s q between) waits next) less
run_soon _ _ _ _ (forgets_more stops s new packets to run) before later p cost counted waits still covers less =
    run_soon stops (forgotten s to) new packets run before later p cost counted waits still covers less
run_soon _ _ _ _ (stops_more stops s new packets run) before later p cost counted waits still covers less =
    let delays = stop_delays s.stopping s before later p cost
    (subst (λ l. Unfinished s.repeats s.sent (with_stop s.stopping l)) waits counted.1) covers in
    let more = one_cost_more stops cost in
    let f = fewer_left s.repeats before in
    let found =
    run_soon stops (stopped s) new packets run (not_withdrawn before) (not_withdrawn later) p cost
    (counted.0, some_copies s.repeats stop_packet counted.0)
    (ap not_withdrawn waits ∙ left_of_stop before later p still)
    still (record { one = covers.one; two = λ some. covers.two (omega (arith, some, f.commands)) })
    (omega (arith, delays, more, less)) in
    within (omega (arith, delays, more)) found

-- what waits when the command is accepted
line_ahead : (s : Sending) (stopping : Bool) (waiting : List Packet)
    → length (copies_left s (with_stop stopping waiting))
    ≤ length waiting * (s.repeats + 1) + cond stopping s.repeats 0
line_ahead s true waiting =
    let few = all_few s.repeats waiting in
    rw (length-drop, length-append, length-replicate) (omega (arith, few))
line_ahead s false waiting = let few = all_few s.repeats waiting in rw length-drop (omega (arith, few))

covers_line : (repeats : ℕ) (waiting : List Packet) → Covers repeats (cost_of_stop waiting repeats) waiting
covers_line repeats [] = record { one = omega arith; two = λ some. absurd (omega (arith, some)) }
covers_line repeats (p ∷ later) = record { one = omega arith; two = λ some. omega arith }

pub commands_wait_with_later_stops : CommandsWaitWithLaterStops
commands_wait_with_later_stops s new commands returned packets p stops from still run less =
    let few = line_ahead s s.stopping s.waiting in
    let found =
    run_soon stops (with_command s p) new packets run s.waiting [] p (cost_of_stop s.waiting s.repeats)
    (counted_more s p (counted_obeyed s commands returned from)) refl still (covers_line s.repeats s.waiting)
    (omega (arith, few, less)) in
    within (omega (arith, few)) found
