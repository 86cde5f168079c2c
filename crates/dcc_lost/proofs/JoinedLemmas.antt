-- Joined half-bits of a list with one more half-bit, and the lists of a finder after it.
use Rattle.std.proofs.Common.{◌≡◌, ℕ, ◌+◌, ◌-◌, ◌≤◌, min, Bool, true, false, not, List, [], ◌∷◌, ◌++◌, length, map}
use Rattle.std.proofs.Common.{fold, refl, sym, ap, ◌∙◌, subst, arith, append_assoc, append-nil, nat_lt}
use Rattle.std.proofs.Common.{if◌then◌else◌, cond, ◌⊎◌, Option, None}
use Rattle.std.proofs.lemmas.List.{map-append}
use Rattle.std.proofs.lemmas.List.Concat.{flat_map-append}
use Rattle.std.proofs.lemmas.Bool.{cases_Bool}
use Rattle.std.proofs.Common.{inl, inr}
use Rattle.dcc_lost.specs.JoinedLaws.{NoHalfIsRemoved}
use Rattle.std.proofs.lemmas.List.Sums.{sum_by-append, fold-append}
use Rattle.std.specs.List.{count_by}
use Rattle.dcc_wire.specs.declared.seen.Seen.{Seen}
use Rattle.dcc_wire.specs.declared.seen.Seen.TheVariants.{Nothing, Packet, Refused}
use Rattle.dcc_wire.specs.Framing.{seen, report_at}
use Rattle.dcc_wire.proofs.SeenLemmas.{seen-grows}
use Rattle.dcc_wire.specs.Kept.{kept_rest}
use Rattle.dcc_timing.specs.Numbers.{keep_last}
use Rattle.dcc_timing.specs.Recent.{recent_numbers}
use Rattle.dcc_lost.specs.Finding.{since_of}
use Rattle.dcc_timing.specs.Outcomes.{is_packet}
use Rattle.dcc_timing.proofs.RecentLemmas.{keep_last_behind}
use Rattle.dcc_lost.specs.declared.heard.Heard.{Heard}
use Rattle.dcc_lost.specs.declared.joined.ClosedHalves.{ClosedHalves}
use Rattle.dcc_lost.specs.declared.joined.NewestHalf.{NewestHalf}
use Rattle.dcc_lost.specs.Joined.{Joining, closes, halves_of_all, join_next, joined, joined_us, joining_of}
use Rattle.dcc_lost.specs.Joined.{nothing_joined, spikes_in}
use Rattle.dcc_lost.specs.declared.joined.SpikedPacket.{SpikedPacket}
use Rattle.dcc_lost.specs.JoinedLost.{of_each, packet_found, packets_closed, packets_closed_after, packets_heard}
use Rattle.dcc_lost.specs.JoinedLost.{packets_within, report_found}
use Rattle.dcc_lost.specs.Joining.{HasJoined, IsClosed, IsNewest}
use Rattle.dcc_lost.specs.Unused.{Hears, unused_at_end}

pub count_by-append : {A : Type 0} (test : A → Bool) (xs ys : List A)
    → count_by test (xs ++ ys) ≡ count_by test xs + count_by test ys
count_by-append test xs ys = sum_by-append (λ x. cond (test x) 1 0) xs ys

-- one more half-bit

pub joining-push : (limit : ℕ) (durations : List ℕ) (us : ℕ)
    → joining_of limit (durations ++ us ∷ []) ≡ join_next limit (joining_of limit durations) us
unfolding joining_of
joining-push limit durations us = fold-append (join_next limit) nothing_joined durations (us ∷ [])

pub next_taken : (limit : ℕ) (joining : Joining) (us : ℕ) → closes limit joining us ≡ false
    → join_next limit joining us ≡ record {
      closed = joining.closed;
      newest = joining.newest ++ us ∷ [];
      takes_next = if nat_lt us limit then not joining.takes_next else false;
    }
unfolding join_next
next_taken limit joining us other = rw other

pub next_closed : (limit : ℕ) (joining : Joining) (us : ℕ) → closes limit joining us ≡ true
    → join_next limit joining us
    ≡ record { closed = joining.closed ++ joining.newest ∷ []; newest = us ∷ []; takes_next = false }
unfolding join_next
next_closed limit joining us closing = rw closing

-- joining keeps all half-bits

pub all_halves : (groups : List (List ℕ)) (group : List ℕ)
    → halves_of_all (groups ++ group ∷ []) ≡ halves_of_all groups ++ group
all_halves groups group =
    flat_map-append (λ l. l) groups (group ∷ []) ∙ ap (λ l. halves_of_all groups ++ l) (append-nil group)

abbrev all_of : Joining → List ℕ
all_of joining = halves_of_all joining.closed ++ joining.newest

all_next : (limit : ℕ) (joining : Joining) (us : ℕ) → all_of (join_next limit joining us) ≡ all_of joining ++ us ∷ []
all_next limit joining us = elim (cases_Bool (closes limit joining us)) [
  | inl closing ↦ ap all_of (next_closed limit joining us closing)
      ∙ ap (λ l. l ++ us ∷ []) (all_halves joining.closed joining.newest)
  | inr other ↦ ap all_of (next_taken limit joining us other)
      ∙ sym (append_assoc (halves_of_all joining.closed) joining.newest (us ∷ []))
]

kept_from : (limit : ℕ) (joining : Joining) (more : List ℕ)
    → all_of (fold (join_next limit) joining more) ≡ all_of joining ++ more
kept_from limit joining [] = sym (append-nil (all_of joining))
kept_from limit joining (us ∷ more) =
    kept_from limit (join_next limit joining us) more ∙ ap (λ l. l ++ more) (all_next limit joining us)
    ∙ append_assoc (all_of joining) (us ∷ []) more

pub all_kept : NoHalfIsRemoved
unfolding joined joining_of
all_kept limit durations =
    all_halves (joining_of limit durations).closed (joining_of limit durations).newest
    ∙ kept_from limit nothing_joined durations

-- a number of each joined half-bit

pub of_each-push : (measure : List ℕ → List ℕ → ℕ) (before : List ℕ) (groups : List (List ℕ)) (group : List ℕ)
    → of_each measure before (groups ++ group ∷ [])
    ≡ of_each measure before groups ++ measure (before ++ halves_of_all groups) group ∷ []
unfolding of_each
of_each-push measure before [] group = ap (λ l. measure l group ∷ []) (sym (append-nil before))
of_each-push measure before (first ∷ groups) group =
    ap (λ l. measure before first ∷ l)
    (of_each-push measure (before ++ first) groups group
    ∙ ap (λ l. of_each measure (before ++ first) groups ++ measure l group ∷ [])
    (append_assoc before first (halves_of_all groups)))

ring_more : (ring next list : List ℕ) (number other : ℕ) → ring ≡ keep_last 130 list
    → next ≡ keep_last 130 (ring ++ number ∷ []) → number ≡ other → next ≡ keep_last 130 (list ++ other ∷ [])
ring_more ring next list number other is more same =
    more ∙ ap (λ l. keep_last 130 (l ++ number ∷ [])) is ∙ keep_last_behind 130 list (number ∷ [])
    ∙ ap (λ n. keep_last 130 (list ++ n ∷ [])) same

pub closed_more : (limit : ℕ) (groups : List (List ℕ)) (group : List ℕ) (takes : Bool) (old new : ClosedHalves)
    (half : NewestHalf) → IsClosed limit groups old → IsNewest limit (halves_of_all groups) group takes half
    → recent_numbers new.durations ≡ keep_last 130 (recent_numbers old.durations ++ half.us ∷ [])
    → recent_numbers new.spikes ≡ keep_last 130 (recent_numbers old.spikes ++ half.spikes ∷ [])
    → recent_numbers new.unused ≡ keep_last 130 (recent_numbers old.unused ++ half.unused ∷ [])
    → recent_numbers new.packets ≡ keep_last 130 (recent_numbers old.packets ++ half.packets ∷ [])
    → IsClosed limit (groups ++ group ∷ []) new
closed_more limit groups group takes old new half closed newest durations spikes unused packets = record {
  durations =
      ring_more (recent_numbers old.durations) (recent_numbers new.durations) (map joined_us groups) half.us
      (joined_us group) closed.durations durations newest.us
      ∙ ap (keep_last 130) (sym (map-append joined_us groups (group ∷ [])));
  spikes =
      ring_more (recent_numbers old.spikes) (recent_numbers new.spikes) (map (spikes_in limit) groups) half.spikes
      (spikes_in limit group) closed.spikes spikes newest.spikes
      ∙ ap (keep_last 130) (sym (map-append (spikes_in limit) groups (group ∷ [])));
  unused =
      ring_more (recent_numbers old.unused) (recent_numbers new.unused) (of_each (λ before group. unused_at_end
      before) [] groups) half.unused
      (unused_at_end (halves_of_all groups)) closed.unused unused newest.unused
      ∙ ap (keep_last 130) (sym (of_each-push (λ before group. unused_at_end before) [] groups group));
  packets =
      ring_more (recent_numbers old.packets) (recent_numbers new.packets) (of_each packets_within [] groups)
      half.packets
      (packets_within (halves_of_all groups) group) closed.packets packets newest.packets
      ∙ ap (keep_last 130) (sym (of_each-push packets_within [] groups group));
}

-- packets of a joined half-bit

pub heard_grows : (before more : List ℕ) → packets_heard before ≤ packets_heard (before ++ more)
heard_grows before more =
    let grows = seen-grows before more in
    omega (arith, ap (count_by is_packet) grows.1, count_by-append is_packet (seen before) grows.0)

pub packets_reported : (place : ℕ) (answer : Seen)
    → count_by is_packet (report_at place answer) ≡ (if is_packet (0, answer) then 1 else 0)
unfolding report_at
packets_reported place Nothing = refl
packets_reported place (Packet bytes) = refl
packets_reported place (Refused fault) = refl

capped : (more : Bool) (before now next : ℕ) → before ≤ now → next ≡ now + (if more then 1 else 0)
    → min 1 (next - before) ≡ (if more then 1 else min 1 (now - before))
capped true before now next grows is = omega (arith, grows, is)
capped false before now next grows is = omega (arith, grows, is)

pub packets_more : (before group : List ℕ) (us : ℕ) (answer : Seen)
    → seen ((before ++ group) ++ us ∷ []) ≡ seen (before ++ group) ++ report_at (length (before ++ group)) answer
    → packets_within before (group ++ us ∷ []) ≡ (if is_packet (0, answer) then 1 else packets_within before group)
packets_more before group us answer sees =
    let report = report_at (length (before ++ group)) answer in
    let next : packets_heard (before ++ (group ++ us ∷ []))
    ≡ packets_heard (before ++ group) + (if is_packet (0, answer) then 1 else 0) =
    ap packets_heard (sym (append_assoc before group (us ∷ []))) ∙ ap (count_by is_packet) sees
    ∙ count_by-append is_packet (seen (before ++ group)) report
    ∙ ap (λ n. packets_heard (before ++ group) + n) (packets_reported (length (before ++ group)) answer) in
    capped (is_packet (0, answer)) (packets_heard before) (packets_heard (before ++ group)) _
    (heard_grows before group) next

-- what a joined half-bit takes in
pub record TakesIn (limit us : ℕ) (answer : Seen) (old new : NewestHalf) : Type 0 where
  pub us_is : new.us ≡ min 65535 (old.us + us)
  pub spikes : new.spikes ≡ (if nat_lt us limit then min 65535 (old.spikes + 1) else old.spikes)
  pub unused : new.unused ≡ old.unused
  pub packets : new.packets ≡ (if is_packet (0, answer) then 1 else old.packets)
  pub takes : new.takes_next ≡ (if nat_lt us limit then not old.takes_next else false)

us_more : (group : List ℕ) (us n : ℕ) → n ≡ joined_us group → min 65535 (n + us) ≡ joined_us (group ++ us ∷ [])
us_more group us n is = omega (arith, is, sum_by-append (λ x. x) group (us ∷ []))

spikes_by : (is_spike : Bool) (n count : ℕ) → n ≡ min 65535 count
    → (if is_spike then min 65535 (n + 1) else n) ≡ min 65535 (count + (if is_spike then 1 else 0))
spikes_by true n count is = omega (arith, is)
spikes_by false n count is = omega (arith, is)

pub one_spike : (limit us : ℕ) → count_by (λ us. nat_lt us limit) (us ∷ []) ≡ (if nat_lt us limit then 1 else 0)
one_spike limit us = go (nat_lt us limit) refl
  where
    go : (is_spike : Bool) → nat_lt us limit ≡ is_spike
        → count_by (λ us. nat_lt us limit) (us ∷ []) ≡ (if is_spike then 1 else 0)
    go true e = rw e
    go false e = rw e

spikes_more : (limit us n : ℕ) (group : List ℕ) → n ≡ spikes_in limit group
    → (if nat_lt us limit then min 65535 (n + 1) else n) ≡ spikes_in limit (group ++ us ∷ [])
spikes_more limit us n group is =
    spikes_by (nat_lt us limit) n (count_by (λ us. nat_lt us limit) group) is
    ∙ ap (min 65535) (ap (λ k. count_by (λ us. nat_lt us limit) group + k) (sym (one_spike limit us))
    ∙ sym (count_by-append (λ us. nat_lt us limit) group (us ∷ [])))

pub newest_more : (limit us : ℕ) (before group : List ℕ) (takes : Bool) (answer : Seen) (old new : NewestHalf)
    → IsNewest limit before group takes old → TakesIn limit us answer old new
    → seen ((before ++ group) ++ us ∷ []) ≡ seen (before ++ group) ++ report_at (length (before ++ group)) answer
    → IsNewest limit before (group ++ us ∷ []) (if nat_lt us limit then not takes else false) new
newest_more limit us before group takes answer old new is takes_in sees = record {
  us = takes_in.us_is ∙ us_more group us old.us is.us;
  spikes = takes_in.spikes ∙ spikes_more limit us old.spikes group is.spikes;
  unused = takes_in.unused ∙ is.unused;
  packets =
      takes_in.packets ∙ ap (λ n. if is_packet (0, answer) then 1 else n) is.packets
      ∙ sym (packets_more before group us answer sees);
  takes = takes_in.takes ∙ ap (λ b. if nat_lt us limit then not b else false) is.takes;
}

pub newest_none : (limit : ℕ) (before : List ℕ) (half : NewestHalf) (unused : ℕ) → half.us ≡ 0 → half.spikes ≡ 0
    → half.unused ≡ unused → unused ≡ unused_at_end before → half.packets ≡ 0 → half.takes_next ≡ true
    → IsNewest limit before [] true half
newest_none limit before half unused us spikes unuseds is packets takes = record {
  us = us;
  spikes = spikes;
  unused = unuseds ∙ is;
  packets =
      packets ∙ omega (arith, ap packets_heard (append-nil before));
  takes = takes;
}

-- a finder after one more half-bit

pub joins_taken : (limit us : ℕ) (durations : List ℕ) (old new : Heard) (closed : ClosedHalves)
    (newest next : NewestHalf) (answer : Seen) → HasJoined limit old closed newest durations
    → closes limit (joining_of limit durations) us ≡ false
    → Hears (kept_rest new.framer) new.unused (since_of new.refused new.since) (durations ++ us ∷ [])
    → seen (durations ++ us ∷ []) ≡ seen durations ++ report_at (length durations) answer
    → TakesIn limit us answer newest next → HasJoined limit new closed next (durations ++ us ∷ [])
joins_taken limit us durations old new closed newest next answer joins other hears sees takes_in =
    let now : Joining = joining_of limit durations in
    let front : List ℕ = halves_of_all now.closed in
    let is = joining-push limit durations us ∙ next_taken limit now us other in
    let more = newest_more limit us front now.newest now.takes_next answer newest next joins.last takes_in
    (subst (λ (l : List ℕ). seen (l ++ us ∷ []) ≡ seen l ++ report_at (length l) answer) joins.whole sees) in
    record {
      heard = hears;
      whole = ap (λ l. l ++ us ∷ []) joins.whole ∙ append_assoc front now.newest (us ∷ [])
          ∙ ap (λ (j : Joining). halves_of_all j.closed ++ j.newest) (sym is);
      before = subst (λ (j : Joining). IsClosed limit j.closed closed) (sym is) joins.before;
      last = subst (λ (j : Joining). IsNewest limit (halves_of_all j.closed) j.newest j.takes_next next) (sym is) more;
    }

pub joins_closed : (limit us : ℕ) (durations : List ℕ) (old new : Heard) (before closed : ClosedHalves)
    (newest next : NewestHalf) (was : NewestHalf) (answer : Seen) → HasJoined limit old before was durations
    → closes limit (joining_of limit durations) us ≡ true
    → Hears (kept_rest new.framer) new.unused (since_of new.refused new.since) (durations ++ us ∷ [])
    → seen (durations ++ us ∷ []) ≡ seen durations ++ report_at (length durations) answer
    → IsClosed limit (joined limit durations) closed → IsNewest limit durations [] true newest
    → nat_lt us limit ≡ false
    → TakesIn limit us answer newest next → HasJoined limit new closed next (durations ++ us ∷ [])
unfolding joined
joins_closed limit us durations old new before closed newest next was answer joins closing hears sees is_closed
    is_newest
    long takes_in =
    let now : Joining = joining_of limit durations in
    let is = joining-push limit durations us ∙ next_closed limit now us closing in
    let front : halves_of_all (now.closed ++ now.newest ∷ []) ≡ durations =
    all_halves now.closed now.newest ∙ sym joins.whole in
    let sees_all : seen ((durations ++ []) ++ us ∷ []) ≡ seen (durations ++ []) ++ report_at (length (durations ++ []))
    answer = rw append-nil sees in
    let more = newest_more limit us durations [] true answer newest next is_newest takes_in sees_all in
    record {
      heard = hears;
      whole = ap (λ l. l ++ us ∷ []) (sym front) ∙ ap (λ (j : Joining). halves_of_all j.closed ++ j.newest) (sym is);
      before = subst (λ (j : Joining). IsClosed limit j.closed closed) (sym is) is_closed;
      last = subst (λ (j : Joining). IsNewest limit (halves_of_all j.closed) j.newest j.takes_next next) (sym is)
          (rw front (rw long at more));
    }

pub joins_nothing : (limit : ℕ) (decoder : Heard) (closed : ClosedHalves) (newest : NewestHalf)
    → Hears (kept_rest decoder.framer) decoder.unused (since_of decoder.refused decoder.since) []
    → IsClosed limit [] closed
    → IsNewest limit [] [] true newest → HasJoined limit decoder closed newest []
unfolding joining_of
joins_nothing limit decoder closed newest hears is_closed is_newest =
    record { heard = hears; whole = refl; before = is_closed; last = is_newest }

pub joined_more : (limit : ℕ) (durations : List ℕ) (decoder : Heard) (old new : ClosedHalves) (newest : NewestHalf)
    → HasJoined limit decoder old newest durations
    → recent_numbers new.durations ≡ keep_last 130 (recent_numbers old.durations ++ newest.us ∷ [])
    → recent_numbers new.spikes ≡ keep_last 130 (recent_numbers old.spikes ++ newest.spikes ∷ [])
    → recent_numbers new.unused ≡ keep_last 130 (recent_numbers old.unused ++ newest.unused ∷ [])
    → recent_numbers new.packets ≡ keep_last 130 (recent_numbers old.packets ++ newest.packets ∷ [])
    → IsClosed limit (joined limit durations) new
unfolding joined
joined_more limit durations decoder old new newest joins durations_are spikes unused packets =
    closed_more limit (joining_of limit durations).closed (joining_of limit durations).newest
    (joining_of limit durations).takes_next old new newest joins.before joins.last durations_are spikes unused packets

-- the packets of a longer list

pub taken_by : (limit us : ℕ) (joining : Joining) → (nat_lt us limit ≡ true) ⊎ (joining.takes_next ≡ true)
    → closes limit joining us ≡ false
taken_by limit us joining (inl short) = rw short refl
taken_by limit us joining (inr takes) = rw takes (neither (nat_lt us limit))
  where
    neither : (b : Bool) → (if b then false else not true) ≡ false
    neither true = refl
    neither false = refl

pub closed_by : (limit us : ℕ) (joining : Joining) → nat_lt us limit ≡ false → joining.takes_next ≡ false
    → closes limit joining us ≡ true
closed_by limit us joining long takes = rw (long, takes) refl

closed_after-push : (limit : ℕ) (before durations : List ℕ) (us : ℕ)
    → packets_closed_after limit before (durations ++ us ∷ [])
    ≡ packets_closed_after limit before durations
    ++ (if closes limit (joining_of limit (before ++ durations)) us
    then report_found (length (before ++ durations)) (packet_found limit (before ++ durations)) else [])
unfolding packets_closed_after
closed_after-push limit before [] us =
    append-nil _
    ∙ ap (λ l. if closes limit (joining_of limit l) us then report_found (length l) (packet_found limit l) else [])
    (sym (append-nil before))
closed_after-push limit before (first ∷ durations) us =
    let here : List (ℕ × SpikedPacket) =
    if closes limit (joining_of limit before) first then report_found (length before)
    (packet_found limit before) else []
    in
    let ih = closed_after-push limit (before ++ first ∷ []) durations us in
    ap (λ l. here ++ l) (ih ∙ ap (λ l. packets_closed_after limit (before ++ first ∷ []) durations
    ++ (if closes limit (joining_of limit l) us then report_found (length l) (packet_found limit l) else []))
    (append_assoc before (first ∷ []) durations))
    ∙ sym (append_assoc here (packets_closed_after limit (before ++ first ∷ []) durations) _)

pub grows_taken : (limit : ℕ) (durations : List ℕ) (us : ℕ) → closes limit (joining_of limit durations) us ≡ false
    → packets_closed limit (durations ++ us ∷ []) ≡ packets_closed limit durations ++ report_found (length durations)
    None
unfolding packets_closed report_found
grows_taken limit durations us other = closed_after-push limit [] durations us ∙ rw other refl

pub grows_closed : (limit : ℕ) (durations : List ℕ) (us : ℕ) (found : Option SpikedPacket)
    → closes limit (joining_of limit durations) us ≡ true → found ≡ packet_found limit durations
    → packets_closed limit (durations ++ us ∷ []) ≡ packets_closed limit durations ++ report_found (length durations)
    found
unfolding packets_closed
grows_closed limit durations us found closing is = closed_after-push limit [] durations us ∙ rw (closing, is) refl

pub closed-push : (limit : ℕ) (durations : List ℕ) (us : ℕ)
    → packets_closed limit (durations ++ us ∷ [])
    ≡ packets_closed limit durations
    ++ (if closes limit (joining_of limit durations) us
    then report_found (length durations) (packet_found limit durations) else [])
unfolding packets_closed
closed-push limit durations us = closed_after-push limit [] durations us
