-- One half more of a body that is kept as plain numbers.
use Rattle.std.proofs.Common.{◌≡◌, ℕ, ◌+◌, ◌*◌, ◌<◌, ◌≤◌, inl, inr, Bool, true, false, cond, List, [], ◌∷◌, ◌++◌}
use Rattle.std.proofs.Common.{length, Some, None, refl, sym, ap, ◌∙◌, arith, bit_xor, append-nil, subst, ◌≢◌, ◌⊎◌}
use Rattle.std.proofs.Common.{if◌then◌else◌}
use Rattle.std.proofs.lemmas.Bool.{cases_lt, true_from_ne_false}
use Rattle.dcc_wire.specs.declared.half.Half.{Half}
use Rattle.dcc_wire.specs.declared.half.Half.TheVariants.{Zero}
use Rattle.dcc_wire.specs.declared.seen.Fault.TheVariants.{BadHalf, SplitBit}
use Rattle.dcc_wire.specs.declared.seen.Seen.TheVariants.{Nothing, Refused}
use Rattle.dcc_wire.specs.Bodies.{bits_of, halves_of, first_half}
use Rattle.dcc_wire.specs.Framing.{Rest, Hunting, InBody}
use Rattle.dcc_wire.specs.Half.{bit_of}
use Rattle.dcc_wire.specs.Inner.Lists.{PassesList}
use Rattle.dcc_wire.specs.Inner.KeptSteps.{HasRoomFor, FitsBehind, Grows}
use Rattle.dcc_wire.specs.Inner.Steps.{rest_after, answer_to, answer_of, left_of}
use Rattle.dcc_wire.specs.Kept.{Kept, IsKept, kept_rest}
use Rattle.dcc_wire.specs.Outcomes.{outcome_of, ones_left}
use Rattle.dcc_wire.specs.Packed.{IsPacked, byte_bits, packed_bits}
use Rattle.dcc_wire.specs.Inner.OutcomeParts.{by_bits}
use Rattle.dcc_wire.specs.Runs.{IsQuietFor, ones_after}
use Rattle.dcc_wire.proofs.BitLemmas.{half_of}
use Rattle.dcc_wire.proofs.ByteBits.{cases_Option}
use Rattle.dcc_wire.proofs.HistoryLemmas.{HasHistory, history_more}
use Rattle.dcc_wire.proofs.ListLemmas.{history_list}
use Rattle.dcc_wire.proofs.OpenBodies.{answer-bad, answer-bit, answer-first, answer-split, bit_more, first_more}
use Rattle.dcc_wire.proofs.OpenBodies.{bad_half, half_of-bit}
use Rattle.dcc_wire.proofs.OutcomeLemmas.{answer-open, closed_something, outcome_of-something}
use Rattle.dcc_wire.proofs.PackedLemmas.{answer-closed, packed_bits-byte, packed_bits-more, packed_more, packed_none}
use Rattle.dcc_wire.proofs.PackedLemmas.{packed_open, packed_whole}
use Rattle.dcc_wire.proofs.RunLemmas.{skip_history}

in_body_rest : (k : Kept) (has_first : Bool) → k.in_body ≡ true → k.has_first ≡ has_first
    → kept_rest k ≡ InBody (halves_of (packed_bits k.bytes k.count k.shift) ++ first_half
    (if has_first then Some k.first else None))
in_body_rest k has_first in_body e = rw (in_body, e)

-- where it shows nothing, by what it leaves open

grown_to : {k : Kept} (is : IsKept k) (half : Half) (new : Kept) → kept_rest new ≡ rest_after (kept_rest k) half
    → answer_to (kept_rest k) half ≡ Nothing → (new.in_body ≡ true → IsPacked new.bytes new.xor new.count new.shift)
    → Grows k half new
grown_to {k} is half new after answer packed = record {
  after = after;
  answer = answer;
  is = record {
    packed = packed;
    unfinished = λ in_it. packed_open (packed in_it);
    history = subst HasHistory (sym after) (history_more (kept_rest k) half is.history);
  };
}

pub bit_of-half_of : (bit : Bool) → bit_of (half_of bit) ≡ Some bit
unfolding half_of
bit_of-half_of bit = grind arith

-- what fits behind a first half
fits : {k : Kept} {bit : Bool} → k.has_first ≡ true → HasRoomFor k bit → FitsBehind k bit
fits has (inl none) = cc
fits has (inr behind) = behind

module _ {k : Kept} (is : IsKept k) (in_body : k.in_body ≡ true) (half : Half) (bit : Bool)
    (of : bit_of half ≡ Some bit) where
  grows : (halves longer : List Half) (new : Kept) → kept_rest k ≡ InBody halves → kept_rest new ≡ InBody longer
      → halves ++ half ∷ [] ≡ longer → answer_of (outcome_of longer) ≡ Nothing
      → (new.in_body ≡ true → IsPacked new.bytes new.xor new.count new.shift) → Grows k half new
  unfolding rest_after left_of answer_to
  grows halves longer new before behind e nothing packed =
      grown_to is half new (rw (behind, before, e, outcome_of-something longer nothing)) (rw (before, e) nothing) packed

  -- the first half of a bit
  pub first_comes : k.has_first ≡ false → Grows k half (record k { has_first = true; first = bit })
  first_comes not_yet =
      let bits = packed_bits k.bytes k.count k.shift in
      let new : Kept = record k { has_first = true; first = bit } in
      grows (halves_of bits ++ first_half None) (halves_of bits ++ first_half (Some bit)) new
      (in_body_rest k false in_body not_yet) (in_body_rest new true in_body refl)
      (rw (half_of-bit half bit of) (sym (first_more bits bit)))
      (rw (first_more bits bit) (answer-first bits (is.unfinished in_body) bit)) is.packed

  -- the second half of a bit, which leaves these bits
  completes : FitsBehind k bit → (bytes : List ℕ) (xor count shift : ℕ)
      → packed_bits bytes count shift ≡ packed_bits k.bytes k.count k.shift ++ bit ∷ [] → IsPacked bytes xor count shift
      → Grows k half (record k { has_first = false; xor = xor; shift = shift; count = count; bytes = bytes })
  unfolding first_half
  completes behind bytes xor count shift whole packed =
      let bits = packed_bits k.bytes k.count k.shift in
      let new : Kept = record k { has_first = false; xor = xor; shift = shift; count = count; bytes = bytes } in
      grows (halves_of bits ++ first_half (Some bit)) (halves_of (bits ++ bit ∷ []) ++ first_half None) new
      (in_body_rest k true in_body behind.has_first ∙ rw behind.same)
      (in_body_rest new false in_body refl ∙ rw whole)
      (rw (half_of-bit half bit of, append-nil) (sym (bit_more bits bit)))
      (rw (append-nil, bit_more bits bit)
      (answer-bit bits bit ∙ answer-open (bits ++ bit ∷ []) (rw whole at (packed_open packed))))
      (λ in_it. packed)

  module _ (has : k.has_first ≡ true) (room : HasRoomFor k bit) {number : ℕ} (e : number ≡ cond bit 1 0) where
    -- it ends within a byte
    pub second_added : k.count < 8
        → Grows k half (record k { has_first = false; shift = 2 * k.shift + number; count = k.count + 1 })
    second_added less =
        let behind = fits has room in
        completes behind k.bytes k.xor (k.count + 1) (2 * k.shift + number)
        (rw e (packed_bits-more k.bytes k.count k.shift bit))
        (rw e (packed_more bit (is.packed in_body) behind.zero_first behind.room less))

    -- it ends a byte
    pub byte_added : {bytes : List ℕ} → 8 ≤ k.count → bytes ≡ k.bytes ++ (2 * k.shift + number) ∷ []
        → Grows k half (record k {
          has_first = false;
          bytes = bytes;
          xor = bit_xor k.xor (2 * k.shift + number);
          shift = 0;
          count = 0;
        })
    byte_added {bytes} most is_bytes =
        let behind = fits has room in
        let packed = is.packed in_body in
        completes behind bytes (bit_xor k.xor (2 * k.shift + number)) 0 0
        (rw (is_bytes, e) (packed_bits-byte bit packed behind.zero_first (omega (arith, most, packed.part))))
        (rw (is_bytes, e) (packed_whole bit packed behind.zero_first behind.room))

-- a half between bodies
module _ {k : Kept} (is : IsKept k) (out : k.in_body ≡ false) (half : Half) where
  pub body_begins : (bytes : List ℕ) → bytes ≡ [] → rest_after (Hunting k.ones) half ≡ InBody (Zero ∷ [])
      → Grows k half (record {
        in_body = true;
        ones = k.ones;
        has_first = true;
        first = false;
        xor = 0;
        shift = 0;
        count = 0;
        bytes = bytes;
      })
  unfolding halves_of packed_bits byte_bits bits_of first_half answer_to
  body_begins bytes none begins =
      grown_to is half _ (rw (none, out) (sym begins)) (rw out) (λ in_it. rw none packed_none)

  pub one_counted : (ones : ℕ) → Hunting ones ≡ rest_after (Hunting k.ones) half
      → Grows k half (record k { ones = ones })
  unfolding answer_to
  one_counted ones counted = grown_to is half (record k { ones = ones }) (rw out counted) (rw out) is.packed

-- where it comes to an outcome

same_or_apart : (a b : Bool) → (a ≡ b) ⊎ (a ≢ b)
same_or_apart a b = grind arith

-- it does so in a body alone
pub shows_in_body : (k : Kept) (half : Half) → answer_to (kept_rest k) half ≢ Nothing → k.in_body ≡ true
unfolding answer_to
shows_in_body k half shows = true_from_ne_false k.in_body (λ out. shows (rw out refl))

module _ {k : Kept} (is : IsKept k) (in_body : k.in_body ≡ true) (half : Half) where
  abbrev bits : List Bool
  bits = packed_bits k.bytes k.count k.shift

  -- it is bad
  pub bad_answer : bit_of half ≡ None → answer_to (kept_rest k) half ≡ Refused BadHalf
  unfolding answer_to
  bad_answer none =
      rw (in_body_rest k k.has_first in_body refl, bad_half half none) (answer-bad bits (is.unfinished in_body) _)

  pub bad_shows : bit_of half ≡ None → answer_to (kept_rest k) half ≢ Nothing
  bad_shows none = let answer = bad_answer none in λ nothing. cc

  -- it leaves no room
  module _ (bit : Bool) (of : bit_of half ≡ Some bit) (no_room : ¬ (HasRoomFor k bit)) where
    has : k.has_first ≡ true
    has = true_from_ne_false k.has_first (λ not_yet. no_room (inl not_yet))

    second : (first : Bool) → k.first ≡ first → answer_to (kept_rest k) half ≡ answer_of
        (outcome_of ((halves_of bits ++ first_half (Some first)) ++ half_of bit ∷ []))
    unfolding answer_to
    second first same = rw (in_body_rest k true in_body has, same, half_of-bit half bit of)

    -- it differs from the first half of its bit
    pub split_answer : k.first ≢ bit → answer_to (kept_rest k) half ≡ Refused SplitBit
    split_answer apart = second k.first refl ∙ answer-split bits (is.unfinished in_body) k.first bit apart

    -- it is that of an end bit, or a seventh byte begins with it
    pub whole_answer : k.first ≡ bit → answer_to (kept_rest k) half ≡ (by_bits (k.bytes, bit)).1
    whole_answer same =
        let packed = is.packed in_body in
        let none : k.count ≡ 0 = elim (cases_lt 0 k.count) [
          | inl some ↦ absurd (no_room (inr (grind (arith, has, same, packed.room some))))
          | inr none ↦ omega (arith, none)
        ] in
        let full : bit ≡ false → length k.bytes ≡ 6 = λ zero. elim (cases_lt (length k.bytes) 6) [
          | inl less ↦ absurd
              (no_room (inr (record { has_first = has; same = same; zero_first = λ _. zero; room = less })))
          | inr most ↦ omega (arith, packed.few, most)
        ] in
        second bit same ∙ answer-bit bits bit ∙ answer-closed packed none bit full

    pub no_room_shows : answer_to (kept_rest k) half ≢ Nothing
    no_room_shows = elim (same_or_apart k.first bit) [
      | inl same ↦ λ nothing. closed_something bit k.bytes (sym (whole_answer same) ∙ nothing)
      | inr apart ↦ let answer = split_answer apart in λ nothing. cc
    ]

  -- where it shows something there is no room for it
  pub shows_no_room : (bit : Bool) → bit_of half ≡ Some bit → answer_to (kept_rest k) half ≢ Nothing
      → ¬ (HasRoomFor k bit)
  shows_no_room bit of shows (inl not_yet) = shows (first_comes is in_body half bit of not_yet).answer
  shows_no_room bit of shows (inr behind) = elim (cases_lt k.count 8) [
    | inl less ↦ shows (second_added is in_body half bit of behind.has_first (inr behind) {number = cond bit 1 0} refl
        less).answer
    | inr most ↦ shows (byte_added is in_body half bit of behind.has_first (inr behind) {number = cond bit 1 0} refl
        most refl).answer
  ]

-- what an outcome leaves
left_by : (rest : Rest) (half : Half) → answer_to rest half ≢ Nothing
    → rest_after rest half ≡ Hunting (ones_left (answer_to rest half))
unfolding answer_to rest_after left_of answer_of
left_by (Hunting ones) half shows = absurd (shows refl)
left_by (InBody halves) half shows = elim (cases_Option (outcome_of (halves ++ half ∷ []))) [
  | inl none ↦ absurd (shows (rw none refl))
  | inr (p, is) ↦ rw is refl
]

pub outcome_leaves : (k : Kept) (half : Half) → answer_to (kept_rest k) half ≢ Nothing
    → rest_after (kept_rest k) half ≡ Hunting (ones_left (answer_to (kept_rest k) half))
outcome_leaves k half shows = left_by (kept_rest k) half shows

-- a framer between bodies
pub kept_between : {k : Kept} → k.in_body ≡ false → HasHistory (Hunting k.ones) → IsKept k
kept_between out history = record {
  packed = λ in_it. cc;
  unfinished = λ in_it. cc;
  history = rw out history;
}

-- after an outcome
pub hunts_again : {k : Kept} (is : IsKept k) (half : Half) → answer_to (kept_rest k) half ≢ Nothing → (ones : ℕ)
    → ones ≡ ones_left (answer_to (kept_rest k) half) → IsKept (record k { in_body = false; ones = ones })
hunts_again {k} is half shows ones e =
    kept_between refl
    (subst HasHistory (outcome_leaves k half shows ∙ ap Hunting (sym e)) (history_more (kept_rest k) half is.history))

-- after half-bits that begin no body
module _ {k : Kept} (is : IsKept k) (out : k.in_body ≡ false) where
  history_of_ones : HasHistory (Hunting k.ones)
  history_of_ones = rw out at is.history

  pub skipped_on : (half : Half) (n ones : ℕ) → IsQuietFor (kept_rest k) half → ones ≡ ones_after k.ones half n
      → IsKept (record k { ones = ones })
  skipped_on half n ones quiet e =
      kept_between out (rw e (skip_history k.ones half n (rw out at quiet) history_of_ones))

  pub hunted_on : (halves : List ℕ) (ones : ℕ) → PassesList (Hunting k.ones) halves (Hunting ones)
      → IsKept (record k { ones = ones })
  hunted_on halves ones passes = kept_between out (history_list passes history_of_ones)
