-- The packet that is found at the end of joined half-bits.
use Rattle.std.proofs.Common.{◌≡◌, ◌≢◌, ℕ, ◌+◌, ◌-◌, ◌*◌, ◌<◌, ◌≤◌, Bool, true, false, ◌&&◌, List, [], ◌∷◌}
use Rattle.std.proofs.Common.{◌++◌}
use Rattle.std.proofs.Common.{length, map, sum, take, get_or, suc, zero, Option, Some, None, if◌then◌else◌}
use Rattle.std.proofs.Common.{refl, sym, ap, ◌∙◌, arith, append_assoc, append-nil, length-append, ◌==◌}
use Rattle.std.proofs.lemmas.List.{get_or-drop}
use Rattle.std.proofs.lemmas.Bool.Decides.{nat_tests}
use Rattle.std.specs.List.{filter}
use Rattle.std.specs.Option.{option_map, option_and_then}
use Rattle.dcc_wire.specs.Framing.{Rest, is_hunting, ones_at_end, ones_before, seen, StandsFor}
use Rattle.dcc_timing.specs.Recent.{recent_numbers}
use Rattle.dcc_timing.specs.Numbers.{keep_last}
use Rattle.dcc_lost.specs.declared.causes.LostPacket.{LostPacket}
use Rattle.dcc_lost.specs.declared.causes.OffLimits.{OffLimits}
use Rattle.dcc_lost.specs.declared.causes.ShortPreamble.{ShortPreamble}
use Rattle.dcc_lost.specs.declared.joined.ClosedHalves.{ClosedHalves}
use Rattle.dcc_lost.specs.declared.joined.SpikedPacket.{SpikedPacket}
use Rattle.dcc_lost.specs.Nearest.{nearest_class}
use Rattle.dcc_lost.specs.Causes.{is_off_one, is_off_zero, off_limits, ones_before_body, short_preamble}
use Rattle.dcc_lost.specs.Lost.{frame_after_ones, frame_at_end, longest_frame_at_end}
use Rattle.dcc_lost.specs.Joined.{Joining, halves_of_all, joined, joined_us, joining_of, spikes_in}
use Rattle.dcc_lost.specs.JoinedLost.{causes_of, exact, frame_found, halves_before, is_free_end, is_past, of_each}
use Rattle.dcc_lost.specs.JoinedLost.{packet_found, packets_in_last, packets_within, unless_seen, with_spikes}
use Rattle.dcc_lost.specs.Joining.{IsClosed}
use Rattle.dcc_lost.specs.Unused.{Hears, last_outcome, since_refusal, unused_at_end}
use Rattle.dcc_lost.proofs.FinderLemmas.{before_body, last_of, longest_is}

-- a number of each joined half-bit, by its place

pub length-of_each : (measure : List ℕ → List ℕ → ℕ) (before : List ℕ) (groups : List (List ℕ))
    → length (of_each measure before groups) ≡ length groups
unfolding of_each
length-of_each measure before [] = refl
length-of_each measure before (group ∷ groups) = ap suc (length-of_each measure (before ++ group) groups)

unused_each : List ℕ → List ℕ → ℕ
unused_each before group = unused_at_end before

unused_from-at : (before : List ℕ) (groups : List (List ℕ)) (i : ℕ) → i < length groups
    → get_or (of_each (λ before group. unused_at_end before) before groups) i 0
    ≡ unused_at_end (before ++ halves_of_all (take i groups))
unfolding of_each
unused_from-at before [] i within = absurd (omega arith)
unused_from-at before (group ∷ groups) zero within = ap unused_at_end (sym (append-nil before))
unused_from-at before (group ∷ groups) (suc i) within =
    unused_from-at (before ++ group) groups i (omega arith)
    ∙ ap unused_at_end (append_assoc before group (halves_of_all (take i groups)))

-- the number before the last so many joined half-bits
pub unused_before_groups : (groups : List (List ℕ)) (body : ℕ) → 0 < body → 0 < length groups
    → get_or (keep_last body (of_each (λ before group. unused_at_end before) [] groups)) 0 0
    ≡ unused_at_end (halves_before body groups)
unused_before_groups groups body some any =
    let numbers : List ℕ = of_each (λ before group. unused_at_end before) [] groups in
    let count = length-of_each (λ before group. unused_at_end before) [] groups in
    get_or-drop (length numbers - body) numbers 0 0
    ∙ ap (λ n. get_or numbers n 0) (omega (arith, count))
    ∙ unused_from-at [] groups (length groups - body) (omega (arith, some, any))

-- the causes, from the last durations

pub ones_from : (numbers last : List ℕ) (frame bytes : List ℕ) (window : List ℕ) (count ones : ℕ)
    → last ≡ keep_last 130 numbers → length bytes ≤ 6 → bytes ≡ frame
    → window ≡ keep_last (18 * length bytes + 2 + 20) last → count ≡ length window - (18 * length bytes + 2)
    → ones ≡ ones_at_end (map nearest_class (take count window))
    → ones ≡ ones_before_body (18 * length frame + 2) numbers
unfolding ones_before_body
ones_from numbers last frame bytes window count ones is few same windows counts ones_are =
    let body : ℕ = 18 * length bytes + 2 in
    let windows_are = windows ∙ last_of numbers last (body + 20) is (omega (arith, few)) in
    ones_are ∙ ap (λ l. ones_at_end (map nearest_class (take count l))) windows_are
    ∙ ap (λ l. ones_at_end (map nearest_class l))
    (before_body numbers body count (counts ∙ ap (λ l. length l - body) windows_are))
    ∙ ap (λ (l : List ℕ). ones_before_body (18 * length l + 2) numbers) same

pub causes_from : (numbers last : List ℕ) (frame bytes : List ℕ) (window counted : List ℕ) (count ones unused : ℕ)
    (since : Option ℕ) (short : Option ShortPreamble) (off_ones off_zeros : Option OffLimits)
    → last ≡ keep_last 130 numbers → length bytes ≤ 6 → bytes ≡ frame
    → window ≡ keep_last (18 * length bytes + 2 + 20) last → count ≡ length window - (18 * length bytes + 2)
    → ones ≡ ones_at_end (map nearest_class (take count window)) → ones ≤ 20
    → counted ≡ keep_last (18 * length bytes + 2 + ones) last → short ≡ short_preamble ones unused since
    → off_ones ≡ off_limits (filter is_off_one counted) → off_zeros ≡ off_limits (filter is_off_zero counted)
    → record { frame = frame; preamble = short; ones = off_ones; zeros = off_zeros }
    ≡ causes_of numbers unused since frame
unfolding causes_of
causes_from numbers last frame bytes window counted count ones unused since short off_ones off_zeros is few same windows
    counts ones_are some counteds shorts one low =
    let before = ones_from numbers last frame bytes window count ones is few same windows counts ones_are in
    let body : ℕ = 18 * length frame + 2 in
    let sizes : 18 * length bytes + 2 ≡ body = ap (λ (l : List ℕ). 18 * length l + 2) same in
    let counted_is : counted ≡ keep_last (body + ones) numbers =
    counteds ∙ last_of numbers last _ is (omega (arith, few, some)) ∙ ap (λ n. keep_last (n + ones) numbers) sizes in
    rw (shorts, one, low, counted_is, ← before)

-- the packet at the end of a joined list

pub joined-some : (limit : ℕ) (durations : List ℕ) → 0 < length (joined limit durations)
unfolding joined
joined-some limit durations =
    let joining : Joining = joining_of limit durations in
    omega (arith, length-append joining.closed (joining.newest ∷ []))

pub between_is : (durations : List ℕ) (framer : Rest) (unused : ℕ) (since : Option ℕ)
    → Hears framer unused since durations → (is_hunting framer && is_past since) ≡ is_free_end durations
unfolding StandsFor
between_is durations framer unused since hears = rw (hears.stands, hears.refused) refl

pub found_busy : (limit : ℕ) (durations : List ℕ) → is_free_end durations ≡ false → None ≡ packet_found limit durations
unfolding packet_found frame_found
found_busy limit durations e = rw e refl

none_by : {A B : Type 0} (f : A → B) (g : List ℕ → Option A) (between : Bool) (longest : Option (List ℕ))
    → longest ≡ None → None ≡ option_map f (if between then option_and_then g longest else None)
none_by f g true longest e = rw e refl
none_by f g false longest e = refl

pub found_none : (limit : ℕ) (durations last : List ℕ) (longest : Option (List ℕ))
    → last ≡ keep_last 130 (map joined_us (joined limit durations)) → longest ≡ longest_frame_at_end last
    → longest ≡ None → None ≡ packet_found limit durations
unfolding packet_found frame_found
found_none limit durations last longest is e none =
    none_by (with_spikes limit durations) (unless_seen (joined limit durations)) (is_free_end durations) _
    (sym (longest_is (map joined_us (joined limit durations)) last longest is e) ∙ none)

pub found_some : (limit : ℕ) (durations last frame : List ℕ) (longest : Option (List ℕ)) (packet : Option SpikedPacket)
    → is_free_end durations ≡ true → last ≡ keep_last 130 (map joined_us (joined limit durations))
    → longest ≡ longest_frame_at_end last → longest ≡ Some frame
    → packet ≡ option_map (with_spikes limit durations) (unless_seen (joined limit durations) frame)
    → packet ≡ packet_found limit durations
unfolding packet_found frame_found
found_some limit durations last frame longest packet between is e some packet_is =
    let whole : longest_frame_at_end (map joined_us (joined limit durations)) ≡ Some frame =
    sym (longest_is (map joined_us (joined limit durations)) last longest is e) ∙ some in
    rw (between, whole) packet_is

pub some_of_nothing : (limit : ℕ) (durations : List ℕ) → packet_found limit durations ≢ None → 0 < length durations
unfolding packet_found frame_found joined joining_of longest_frame_at_end frame_at_end frame_after_ones ones_before
some_of_nothing limit [] some =
    absurd (some (sym (none_by (with_spikes limit []) (unless_seen (joined limit [])) (is_free_end []) _ refl)))
some_of_nothing limit (us ∷ durations) some = omega arith

-- a packet that is seen within the body

positive : (n : ℕ) → 0 < n → (n == 0) ≡ false
positive zero some = absurd (omega arith)
positive (suc n) some = grind (arith, nat_tests)

seen_sum : (groups : List (List ℕ)) (ring window bytes frame : List ℕ) (total : ℕ)
    → ring ≡ keep_last 130 (of_each packets_within [] groups) → length bytes ≤ 6 → bytes ≡ frame
    → window ≡ keep_last (18 * length bytes + 2) ring → total ≡ sum window
    → total ≡ packets_in_last (18 * length frame + 2) groups
seen_sum groups ring window bytes frame total is few same windows totals =
    totals ∙ ap sum windows
    ∙ ap sum (last_of (of_each packets_within [] groups) ring (18 * length bytes + 2) is (omega (arith, few)))
    ∙ ap (λ (l : List ℕ). packets_in_last (18 * length l + 2) groups) same

pub seen_within : (groups : List (List ℕ)) (ring window bytes frame : List ℕ) (total : ℕ)
    → ring ≡ keep_last 130 (of_each packets_within [] groups) → length bytes ≤ 6 → bytes ≡ frame
    → window ≡ keep_last (18 * length bytes + 2) ring → total ≡ sum window → 0 < total
    → None ≡ unless_seen groups frame
unfolding unless_seen
seen_within groups ring window bytes frame total is few same windows totals some =
    rw (positive (packets_in_last (18 * length frame + 2) groups)
    (omega (arith, some, seen_sum groups ring window bytes frame total is few same windows totals))) refl

pub none_within : (groups : List (List ℕ)) (ring window bytes frame : List ℕ) (total : ℕ)
    → ring ≡ keep_last 130 (of_each packets_within [] groups) → length bytes ≤ 6 → bytes ≡ frame
    → window ≡ keep_last (18 * length bytes + 2) ring → total ≡ sum window → total ≤ 0
    → Some frame ≡ unless_seen groups frame
unfolding unless_seen
none_within groups ring window bytes frame total is few same windows totals none =
    let free : packets_in_last (18 * length frame + 2) groups ≡ 0 =
    omega (arith, none, seen_sum groups ring window bytes frame total is few same windows totals) in
    rw free refl

-- the causes of a found packet

pub spiked_is : (limit : ℕ) (durations frame bytes : List ℕ) (closed : ClosedHalves) (window counted : List ℕ)
    (unused ones spikes : ℕ) (since exacted : Option ℕ) (lost : LostPacket)
    → IsClosed limit (joined limit durations) closed → length bytes ≤ 6 → bytes ≡ frame
    → window ≡ keep_last (18 * length bytes + 2) (recent_numbers closed.unused) → unused ≡ get_or window 0 0
    → since ≡ since_refusal (length durations) (last_outcome (seen durations)) → exacted ≡ exact since
    → lost ≡ causes_of (map joined_us (joined limit durations)) unused exacted frame
    → ones ≡ ones_before_body (18 * length frame + 2) (map joined_us (joined limit durations)) → ones ≤ 20
    → counted ≡ keep_last (18 * length bytes + 2 + ones) (recent_numbers closed.spikes) → spikes ≡ sum counted
    → record { lost = lost; spikes = spikes } ≡ with_spikes limit durations frame
unfolding with_spikes
spiked_is limit durations frame bytes closed window counted unused ones spikes since exacted lost is few same windows
    unuseds sinces exacteds losts ones_are some counteds spikes_are =
    let groups : List (List ℕ) = joined limit durations in
    let free : unused ≡ unused_at_end (halves_before (18 * length frame + 2) groups) =
    unuseds ∙ ap (λ l. get_or l 0 0) windows
    ∙ ap (λ l. get_or l 0 0) (last_of (of_each (λ before group. unused_at_end before) [] groups)
    (recent_numbers closed.unused)
    (18 * length bytes + 2) is.unused (omega (arith, few)))
    ∙ unused_before_groups groups (18 * length bytes + 2) (omega arith) (joined-some limit durations)
    ∙ ap (λ (l : List ℕ). unused_at_end (halves_before (18 * length l + 2) groups)) same in
    let total : spikes ≡ sum (keep_last (18 * length frame + 2 + ones) (map (spikes_in limit) groups)) =
    spikes_are ∙ ap sum counteds
    ∙ ap sum (last_of (map (spikes_in limit) groups) (recent_numbers closed.spikes)
    (18 * length bytes + 2 + ones) is.spikes
    (omega (arith, few, some)))
    ∙ ap (λ (l : List ℕ). sum (keep_last (18 * length l + 2 + ones) (map (spikes_in limit) groups))) same in
    rw (losts, total, free, exacteds, sinces, ← ones_are) refl
