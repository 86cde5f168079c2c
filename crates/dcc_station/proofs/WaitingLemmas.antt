-- The packets before the first copy of a command.
use Rattle.std.proofs.Common.{◌≡◌, ◌∙◌, refl, sym, ap, subst, Bool, true, false, cond, List, [], ◌∷◌, ◌++◌, ℕ, zero}
use Rattle.std.proofs.Common.{suc, ◌+◌, ◌*◌, ◌<◌, ◌≤◌, arith, length, drop, replicate, append_assoc}
use Rattle.std.proofs.Common.{length-append, length-drop, add-one}
use Rattle.std.proofs.lemmas.List.{length-replicate}
use Rattle.std.proofs.lemmas.List.Sums.{sum_by-append}
use Rattle.std.specs.Prelude.{nat_le, sum}
use Rattle.std.specs.List.{AllByRecursion}
use Rattle.std.proofs.lemmas.Bool.Decides.{nat_tests}
use Rattle.dcc_wire.specs.declared.timing.Timing.{Timing}
use Rattle.dcc_wire.specs.Bodies.{body_bits}
use Rattle.dcc_wire.specs.Sending.{durations_of, sent, sent_bits, sent_all}
use Rattle.dcc_wire.specs.Packed.{byte_bits}
use Rattle.dcc_wire.proofs.ByteBits.{length-byte_bits, body_bits-end}
use Rattle.dcc_wire.proofs.SendingLemmas.{length-sent, durations_of-append}
use Rattle.dcc_packet.specs.declared.packet.Packet.{Packet}
use Rattle.dcc_packet.specs.Spelling.{spelling, BytesFit}
use Rattle.dcc_packet.proofs.FrameSpellings.{spellings_are_frames}
use Rattle.dcc_regs.specs.Writes.{is_own_write}
use Rattle.dcc_station.specs.Sending.{Sending, copies, outgoing, with_command, with_stop, forgotten}
use Rattle.dcc_station.specs.Sending.{sent_once_more, stop_packet, HandsOut}
use Rattle.dcc_station.specs.Refresh.{StationRepresents}
use Rattle.dcc_station.specs.Stops.{StationObeys, made, accepts, hands_out, forgets, stops}
use Rattle.dcc_station.specs.Stops.{PacketsAreSentInTurn, CommandsWaitForFewPacketsAfterStops}
use Rattle.dcc_station.specs.WaitingTimes.{RunsTo, stays, accepts_one, returns_one, forgets_one, all_copies}
use Rattle.dcc_station.specs.WaitingTimes.{copies_left, sent_with}
use Rattle.dcc_station.specs.WaitingTimes.{CommandsAreSentInTurn, CommandsWaitForFewPackets, SentPacketsAreShort}
use Rattle.dcc_station.specs.WaitingTimes.{CommandsAreSentInTime, CommandsAreSentInMicroseconds, longest_time}
use Rattle.dcc_station.specs.WaitingTimes.{SentPacketsTakeFewMicroseconds}
use Rattle.dcc_station.proofs.StopsObeyed.{no_stop_waits, represent_obey}

-- fewer copies of the first packet were sent than it has
abbrev pub Unfinished : ℕ → ℕ → List Packet → Type 0
Unfinished repeats sent [] = sent ≡ 0
Unfinished repeats sent (p ∷ later) = sent < copies repeats p

abbrev pub Counted : Sending → Type 0
Counted s = (0 < s.repeats) × Unfinished s.repeats s.sent (outgoing s)

pub some_copies : (repeats : ℕ) (p : Packet) → 0 < repeats → 0 < copies repeats p
some_copies repeats p some = by_kind (is_own_write p)
  where
    by_kind : (w : Bool) → 0 < cond w (repeats + 1) repeats
    by_kind true = omega (arith, some)
    by_kind false = some

pub few_copies : (repeats : ℕ) (p : Packet) → copies repeats p ≤ repeats + 1
few_copies repeats p = by_kind (is_own_write p)
  where
    by_kind : (w : Bool) → cond w (repeats + 1) repeats ≤ repeats + 1
    by_kind true = omega arith
    by_kind false = omega arith

unfinished-more : (repeats sent : ℕ) (waiting : List Packet) (p : Packet) → 0 < repeats
    → Unfinished repeats sent waiting → Unfinished repeats sent (waiting ++ p ∷ [])
unfinished-more repeats sent [] p some none = rw none (some_copies repeats p some)
unfinished-more repeats sent (q ∷ later) p some fewer = fewer

unfinished-none : (repeats : ℕ) (waiting : List Packet) → 0 < repeats → Unfinished repeats 0 waiting
unfinished-none repeats [] some = refl
unfinished-none repeats (p ∷ later) some = some_copies repeats p some

pub drop_one : (c sent : ℕ) (x : Packet) (l : List Packet) → sent < c
    → drop sent (replicate c x ++ l) ≡ x ∷ drop (suc sent) (replicate c x ++ l)
drop_one zero sent x l less = absurd (omega (arith, less))
drop_one (suc c) zero x l less = refl
drop_one (suc c) (suc sent) x l less = drop_one c sent x l (omega (arith, less))

pub drop_all : (c : ℕ) (x : Packet) (l : List Packet) → drop c (replicate c x ++ l) ≡ l
drop_all zero x l = refl
drop_all (suc c) x l = drop_all c x l

drop_none : (n : ℕ) → drop {A = Packet} n [] ≡ []
drop_none zero = refl
drop_none (suc n) = refl

-- one more command waits behind all others
line_more : (stopping : Bool) (waiting : List Packet) (p : Packet)
    → with_stop stopping waiting ++ p ∷ [] ≡ with_stop stopping (waiting ++ p ∷ [])
line_more true waiting p = refl
line_more false waiting p = refl

pub counted_more : (s : Sending) (p : Packet) → Counted s → Counted (with_command s p)
counted_more s p counted = (
  counted.0,
  subst (Unfinished s.repeats s.sent) (line_more s.stopping s.waiting p)
      (unfinished-more s.repeats s.sent (outgoing s) p counted.0 counted.1),
)

-- the packets after state `s` are the remaining copies of some first packets, and the next command
abbrev InTurn : Sending → List Packet → Type 0
InTurn s packets = (before later : List Packet) (p : Packet) → Counted s → outgoing s ≡ before ++ p ∷ later
    → length (copies_left s before) < length packets
    → (rest : List Packet) × (packets ≡ copies_left s before ++ p ∷ rest)

one_earlier : (first p : Packet) (packets later all rest : List Packet) → packets ≡ later ++ p ∷ rest
    → all ≡ first ∷ later → first ∷ packets ≡ all ++ p ∷ rest
one_earlier first p packets later all rest follows one =
    ap (λ l. first ∷ l) follows ∙ sym (ap (λ l. l ++ p ∷ rest) one)

-- the packet of one more copy of `first`, which does not empty the queue before `p`
copied : (s : Sending) (first : Packet) (others later after packets : List Packet) (p : Packet)
    → 0 < s.repeats → s.sent < copies s.repeats first
    → InTurn (sent_once_more s first (others ++ p ∷ later) after) packets
    → outgoing s ≡ first ∷ others ++ p ∷ later
    → length (copies_left s (first ∷ others)) < suc (length packets)
    → (rest : List Packet) × (first ∷ packets ≡ copies_left s (first ∷ others) ++ p ∷ rest)
copied s first others later after packets p some fewer = by_case (nat_le (copies s.repeats first) (s.sent + 1)) refl
  where
    c : ℕ
    c = copies s.repeats first

    whole : List Packet
    whole = replicate c first ++ all_copies s.repeats others

    by_case : (t : Bool) → nat_le (copies s.repeats first) (s.sent + 1) ≡ t
        → InTurn (cond t (record s { waiting = others ++ p ∷ later; stopping = false; sent = 0; entries = after })
        (record s { sent = s.sent + 1; entries = after })) packets
        → outgoing s ≡ first ∷ others ++ p ∷ later
        → length (drop s.sent whole) < suc (length packets)
        → (rest : List Packet) × (first ∷ packets ≡ drop s.sent whole ++ p ∷ rest)
    by_case true last more is less =
        let ends : c ≡ suc s.sent = grind (arith, nat_tests, last, fewer) in
        let one : drop s.sent whole ≡ first ∷ all_copies s.repeats others =
        drop_one c s.sent first (all_copies s.repeats others) fewer
        ∙ ap (λ l. first ∷ l) (ap (λ n. drop n whole) (sym ends) ∙ drop_all c first (all_copies s.repeats others)) in
        let short : length (all_copies s.repeats others) < length packets = omega (arith, (rw one at less)) in
        let rest = more others later p (some, unfinished-none s.repeats (others ++ p ∷ later) some) refl short in
        (rest.0, one_earlier first p packets (all_copies s.repeats others) (drop s.sent whole) rest.0 rest.1 one)
    by_case false follows more is less =
        let fewer_still : s.sent + 1 < c = grind (arith, nat_tests, follows) in
        let one : drop s.sent whole ≡ first ∷ drop (s.sent + 1) whole =
        rw (add-one s.sent) (drop_one c s.sent first (all_copies s.repeats others) fewer) in
        let short : length (drop (s.sent + 1) whole) < length packets = omega (arith, (rw one at less)) in
        let unfinished = subst (Unfinished s.repeats (s.sent + 1)) (sym is) fewer_still in
        let rest = more (first ∷ others) later p (some, unfinished) is short in
        (rest.0, one_earlier first p packets (drop (s.sent + 1) whole) (drop s.sent whole) rest.0 rest.1 one)

-- the next packet, from a state that is to send `line`
returned : (line entries before later packets : List Packet) (s between : Sending) (out p : Packet)
    → 0 < s.repeats → Unfinished s.repeats s.sent line → outgoing s ≡ line
    → InTurn between packets → HandsOut line entries s out between
    → line ≡ before ++ p ∷ later → length (copies_left s before) < suc (length packets)
    → (rest : List Packet) × (out ∷ packets ≡ copies_left s before ++ p ∷ rest)
returned [] entries [] later packets s between out p some fewer all more next is less = absurd (grind (arith, is))
returned [] entries (first ∷ others) later packets s between out p some fewer all more next is less =
    absurd (grind (arith, is))
returned (q ∷ rest) entries [] later packets s between out p some fewer all more next is less =
    let here : q ≡ p = grind (arith, is) in
    (packets, rw (drop_none s.sent, next.0, here) refl)
returned (q ∷ rest) entries (first ∷ others) later packets s between out p some fewer all more next is less =
    let here : q ≡ first = grind (arith, is) in
    let there : rest ≡ others ++ p ∷ later = grind (arith, is) in
    let moved : InTurn (sent_once_more s first (others ++ p ∷ later) next.1.0) packets =
    (rw (next.1.2, here, there) at more) in
    let result =
    copied s first others later next.1.0 packets p some (rw here at fewer) moved (all ∙ is) less in
    (result.0, ap (λ l. l ∷ packets) (next.0 ∙ here) ∙ result.1)

pub run_in_turn : (s new : Sending) (packets : List Packet) → RunsTo s packets new → InTurn s packets
run_in_turn _ _ _ (stays s) before later p counted is less = absurd (omega (arith, less))
run_in_turn _ _ _ (accepts_one s new packets q run) before later p counted is less =
    run_in_turn (with_command s q) new packets run before (later ++ q ∷ []) p (counted_more s q counted)
    (sym (line_more s.stopping s.waiting q) ∙ ap (λ l. l ++ q ∷ []) is ∙ append_assoc before (p ∷ later) (q ∷ [])) less
run_in_turn _ _ _ (returns_one s between new q packets next run) before later p counted is less =
    returned (outgoing s) s.entries before later packets s between q p counted.0 counted.1 refl
    (run_in_turn between new packets run) next is less
run_in_turn _ _ _ (forgets_one s new packets to run) before later p counted is less =
    run_in_turn (forgotten s to) new packets run before later p counted is less

-- one more packet keeps the count
pub counted_next : (line entries : List Packet) (s new : Sending) (out : Packet)
    → 0 < s.repeats → Unfinished s.repeats s.sent line → outgoing s ≡ line → HandsOut line entries s out new
    → Counted new
counted_next [] [] s new out some fewer all next = rw next.1 (some, subst (Unfinished s.repeats s.sent) (sym all) fewer)
counted_next [] (e ∷ later) s new out some fewer all next =
    rw next.1 (some, subst (Unfinished s.repeats s.sent) (sym all) fewer)
counted_next (p ∷ rest) entries s new out some fewer all next = rw next.1.2
    (by_case next.1.0 (nat_le (copies s.repeats p) (s.sent + 1)) refl)
  where
    by_case : (after : List Packet) (t : Bool) → nat_le (copies s.repeats p) (s.sent + 1) ≡ t
        → Counted (cond t (record s { waiting = rest; stopping = false; sent = 0; entries = after })
        (record s { sent = s.sent + 1; entries = after }))
    by_case after true last = (some, unfinished-none s.repeats rest some)
    by_case after false more =
        let fewer_still : s.sent + 1 < copies s.repeats p = grind (arith, nat_tests, more) in
        (some, subst (Unfinished s.repeats (s.sent + 1)) (sym all) fewer_still)

pub counted_obeyed : (s : Sending) (commands packets : List Packet) → StationObeys s commands packets → Counted s
counted_obeyed _ _ _ (made queue slots repeats some) = (some, refl)
counted_obeyed _ _ _ (accepts old before packets p from sendable room) =
    counted_more old p (counted_obeyed old before packets from)
counted_obeyed _ _ _ (hands_out old new commands before p from next) =
    let counted = counted_obeyed old commands before from in
    counted_next (outgoing old) old.entries old new p counted.0 counted.1 refl next
counted_obeyed _ _ _ (forgets old commands packets to from) = counted_obeyed old commands packets from
counted_obeyed _ _ _ (stops old done packets from) =
    let counted = counted_obeyed old (done ++ outgoing old) packets from in
    (counted.0, some_copies old.repeats stop_packet counted.0)

pub counted_always : (s : Sending) (commands packets : List Packet) → StationRepresents s commands packets → Counted s
counted_always s commands packets from = counted_obeyed s commands packets (represent_obey s commands packets from)

pub in_turn_with_stops : PacketsAreSentInTurn
in_turn_with_stops s new commands gone before later packets p from is run less =
    run_in_turn s new packets run before later p (counted_obeyed s commands gone from) is less

pub in_turn : CommandsAreSentInTurn
in_turn s new commands gone before later packets p from is run less =
    run_in_turn s new packets run before later p (counted_always s commands gone from)
    (no_stop_waits s commands gone from ∙ is) less

pub all_few : (repeats : ℕ) (l : List Packet) → length (all_copies repeats l) ≤ length l * (repeats + 1)
all_few repeats [] = omega arith
all_few repeats (p ∷ later) =
    let more = all_few repeats later in let few = few_copies repeats p in
    rw (length-append, length-replicate) (grind (arith, more, few))

left_few : (s : Sending) (l : List Packet) → length (copies_left s l) ≤ length l * (s.repeats + 1)
left_few s l = let few = all_few s.repeats l in rw length-drop (omega (arith, few))

-- the packets that are to be sent when a command is accepted come before its first copy
behind_all : (s new : Sending) (packets : List Packet) (p : Packet) → Counted s → RunsTo (with_command s p) packets new
    → length (copies_left s (outgoing s)) < length packets
    → (rest : List Packet) × (packets ≡ copies_left s (outgoing s) ++ p ∷ rest)
behind_all s new packets p counted run less =
    run_in_turn (with_command s p) new packets run (outgoing s) [] p (counted_more s p counted)
    (sym (line_more s.stopping s.waiting p)) less

pub few_packets : CommandsWaitForFewPackets
few_packets s new commands gone packets p from run less =
    let none = no_stop_waits s commands gone from in
    let few = left_few s s.waiting in
    let rest = behind_all s new packets p (counted_always s commands gone from) run
    (subst (λ l. length (copies_left s l) < length packets) (sym none) (omega (arith, few, less))) in
    (rest.0, subst (λ l. packets ≡ copies_left s l ++ p ∷ rest.0) none rest.1, few)

line_few : (repeats : ℕ) (stopping : Bool) (waiting : List Packet)
    → length (all_copies repeats (with_stop stopping waiting)) ≤ length waiting * (repeats + 1) + repeats
line_few repeats true waiting =
    let few = all_few repeats waiting in
    rw (length-append, length-replicate) (grind (arith, few))
line_few repeats false waiting = let few = all_few repeats waiting in grind (arith, few)

pub few_packets_with_stops : CommandsWaitForFewPacketsAfterStops
few_packets_with_stops s new commands gone packets p from run less =
    let line = line_few s.repeats s.stopping s.waiting in
    let few : length (copies_left s (outgoing s)) ≤ length s.waiting * (s.repeats + 1) + s.repeats =
    rw length-drop (omega (arith, line)) in
    let rest = behind_all s new packets p (counted_obeyed s commands gone from) run (omega (arith, few, less)) in
    (rest.0, rest.1, few)

pub short : SentPacketsAreShort
unfolding sent_all
short timing [] fit = omega arith
short timing (p ∷ later) fit =
    let more = short timing later fit.1 in
    let most = (spellings_are_frames p fit.0).most in
    let one = length-sent (spelling p) timing in
    rw length-append (grind (arith, more, most, one))

-- two half-bits of a one are shorter than those of a zero
zero_is_longer : (timing : Timing) → 2 * timing.one ≤ timing.zero_first + timing.zero_second
zero_is_longer timing = grind (arith, nat_tests, timing.sendable)

sum-append : (xs ys : List ℕ) → sum (xs ++ ys) ≡ sum xs + sum ys
sum-append xs ys = sum_by-append (λ x. x) xs ys

sum-two : (a b : ℕ) (l : List ℕ) → sum (a ∷ b ∷ l) ≡ a + (b + sum l)
sum-two a b l = sum-append (a ∷ b ∷ []) l ∙ omega arith

bit_more : (a b n s z : ℕ) → s ≤ n * z → a + b ≤ z → a + (b + s) ≤ suc n * z
bit_more a b n s z less one = grind arith

time_of_bits : (timing : Timing) (bits : List Bool)
    → sum (durations_of timing bits) ≤ length bits * (timing.zero_first + timing.zero_second)
unfolding durations_of
time_of_bits timing [] = omega arith
time_of_bits timing (true ∷ bits) =
    let longer = zero_is_longer timing in
    rw (sum-two timing.one timing.one (durations_of timing bits)) (
    bit_more timing.one timing.one (length bits) (sum (durations_of timing bits))
    (timing.zero_first + timing.zero_second) (time_of_bits timing bits) (omega (arith, longer)))
time_of_bits timing (false ∷ bits) =
    rw (sum-two timing.zero_first timing.zero_second (durations_of timing bits)) (
    bit_more timing.zero_first timing.zero_second (length bits) (sum (durations_of timing bits))
    (timing.zero_first + timing.zero_second) (time_of_bits timing bits) (omega arith))

ones_more : (a n s : ℕ) → s ≡ n * (2 * a) → a + (a + s) ≡ suc n * (2 * a)
ones_more a n s is = grind arith

time_of_ones : (timing : Timing) (n : ℕ) → sum (durations_of timing (replicate n true)) ≡ n * (2 * timing.one)
unfolding durations_of
time_of_ones timing zero = omega arith
time_of_ones timing (suc n) =
    sum-two timing.one timing.one (durations_of timing (replicate n true))
    ∙ ones_more timing.one n _ (time_of_ones timing n)

product_bound : (n a b c : ℕ) → n ≤ a * c → a ≤ b → n ≤ b * c
product_bound n a b c less more = grind arith

time_of_body : (timing : Timing) (bytes : List ℕ) → length bytes ≤ 6
    → sum (durations_of timing (body_bits bytes))
    ≤ 54 * (timing.zero_first + timing.zero_second) + 2 * timing.one
time_of_body timing bytes few =
    let zero_bit = timing.zero_first + timing.zero_second in
    let zeros : sum (durations_of timing (byte_bits bytes)) ≤ 54 * zero_bit =
    product_bound _ (length (byte_bits bytes)) 54 zero_bit (time_of_bits timing (byte_bits bytes))
    (rw (length-byte_bits bytes) (omega (arith, few))) in
    let end : sum (durations_of timing (true ∷ [])) ≡ 2 * timing.one = time_of_ones timing 1 ∙ omega arith in
    rw (
      body_bits-end bytes,
      durations_of-append timing (byte_bits bytes) (true ∷ []),
      sum-append (durations_of timing (byte_bits bytes)) (durations_of timing (true ∷ [])),
      end,
    ) (omega (arith, zeros))

time_of_packet : (timing : Timing) (bytes : List ℕ) → length bytes ≤ 6 → sum (sent bytes timing) ≤ longest_time timing
unfolding sent sent_bits
time_of_packet timing bytes few =
    let body = time_of_body timing bytes few in
    let ones = time_of_ones timing timing.preamble in
    rw (
      durations_of-append timing (replicate timing.preamble true) (body_bits bytes),
      sum-append (durations_of timing (replicate timing.preamble true)) (durations_of timing (body_bits bytes)),
      ones,
    )
    (grind (arith, body))

pub brief : SentPacketsTakeFewMicroseconds
unfolding sent_all
brief timing [] fit = omega arith
brief timing (p ∷ later) fit =
    let more = brief timing later fit.1 in
    let one = time_of_packet timing (spelling p) (spellings_are_frames p fit.0).most in
    rw (sum-append (sent (spelling p) timing) (sent_all (sent_with timing later))) (grind (arith, more, one))

all_front : (P : Packet → Type 0) (a b : List Packet) → AllByRecursion P (a ++ b) → AllByRecursion P a
all_front P [] b all = tt
all_front P (x ∷ a) b all = (all.0, all_front P a b all.1)

-- the packets up to the first copy of an accepted command are few, and their bytes fit
record UpToFirstCopy (s : Sending) (packets : List Packet) (p : Packet) : Type 0 where
  rest : List Packet
  split : packets ≡ copies_left s s.waiting ++ p ∷ rest
  few : length (copies_left s s.waiting ++ p ∷ []) ≤ length s.waiting * (s.repeats + 1) + 1
  fit : AllByRecursion BytesFit (copies_left s s.waiting ++ p ∷ [])

up_to_first_copy : (s new : Sending) (commands gone packets : List Packet) (p : Packet)
    → StationRepresents s commands gone → RunsTo (with_command s p) packets new
    → AllByRecursion BytesFit packets → length s.waiting * (s.repeats + 1) < length packets → UpToFirstCopy s packets p
up_to_first_copy s new commands gone packets p from run fit less =
    let first = copies_left s s.waiting in
    let follows = few_packets s new commands gone packets p from run less in
    let parts : packets ≡ (first ++ p ∷ []) ++ follows.0 = follows.1 ∙ sym (append_assoc first (p ∷ []) follows.0) in
    record {
      rest = follows.0;
      split = follows.1;
      few = rw length-append (omega (arith, follows.2));
      fit = all_front BytesFit (first ++ p ∷ []) follows.0 (rw parts at fit);
    }

pub in_time : CommandsAreSentInTime
in_time s new commands gone packets p timing from run fit less =
    let first = copies_left s s.waiting in
    let until = up_to_first_copy s new commands gone packets p from run fit less in (
      first,
      until.rest,
      refl,
      until.split,
      product_bound _ (length (first ++ p ∷ [])) _ (2 * (timing.preamble + 55))
          (short timing (first ++ p ∷ []) until.fit) until.few,
    )

pub in_microseconds : CommandsAreSentInMicroseconds
in_microseconds s new commands gone packets p timing from run fit less =
    let first = copies_left s s.waiting in
    let until = up_to_first_copy s new commands gone packets p from run fit less in (
      first,
      until.rest,
      refl,
      until.split,
      product_bound _ (length (first ++ p ∷ [])) _ (longest_time timing)
          (brief timing (first ++ p ∷ []) until.fit) until.few,
    )
