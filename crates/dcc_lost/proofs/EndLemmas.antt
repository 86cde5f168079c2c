-- The start bits of the last three bytes of a body.
use Rattle.std.proofs.Common.{◌≡◌, ℕ, ◌+◌, ◌-◌, ◌*◌, ◌<◌, ◌≤◌, List, [], ◌∷◌, ◌++◌, length, drop, get_or, map}
use Rattle.std.proofs.Common.{◌≢◌, replicate, subst, take, take_all}
use Rattle.std.proofs.Common.{Bool, true, false, if◌then◌else◌, Option, Some, None, refl, sym, ap, ◌∙◌, arith}
use Rattle.std.proofs.Common.{append_assoc, length-append}
use Rattle.std.proofs.Common.{length-drop}
use Rattle.std.proofs.Math.Seq.{drop-append_seam, get_or-append_seam}
use Rattle.std.proofs.lemmas.List.{drop-map, length-map, get_or-append-add, get_or-drop, get_or-map, take_more}
use Rattle.std.specs.Option.{option_or, option_map}
use Rattle.dcc_wire.specs.declared.half.Half.{Half}
use Rattle.dcc_wire.specs.declared.half.Half.TheVariants.{One, Zero, Bad}
use Rattle.dcc_wire.specs.Bodies.{body, body_bits, bits_of, halves_of}
use Rattle.dcc_wire.proofs.BitLemmas.{length-halves_of, halves_of-append}
use Rattle.dcc_timing.specs.Numbers.{keep_last}
use Rattle.dcc_timing.proofs.RecentLemmas.{keep_last_keep}
use Rattle.dcc_lost.specs.declared.causes.LostPacket.{LostPacket}
use Rattle.dcc_lost.specs.Nearest.{nearest_class}
use Rattle.dcc_lost.specs.Lost.{frame_at_end, longest_frame_at_end}
use Rattle.dcc_lost.specs.Inner.{HasStartBits}
use Rattle.dcc_lost.specs.LostLaws.{EndsWithFrame}
use Rattle.dcc_lost.proofs.LawLemmas.{last_is_one, length-body, ends_with}

abbrev byte_before : ℕ → List Bool
byte_before byte = false ∷ bits_of 8 byte

one_more : (byte : ℕ) (bytes : List ℕ) → body_bits (byte ∷ bytes) ≡ byte_before byte ++ body_bits bytes
unfolding body_bits
one_more byte bytes = refl

-- the bits of a body end with those of its last three bytes
three_last : (bytes : List ℕ) → 3 ≤ length bytes
    → (front : List Bool) × (a : ℕ) × (b : ℕ) × (c : ℕ) × (body_bits bytes ≡ front ++ body_bits (a ∷ b ∷ c ∷ []))
three_last [] few = absurd (omega arith)
three_last (a ∷ []) few = absurd (omega arith)
three_last (a ∷ b ∷ []) few = absurd (omega arith)
three_last (a ∷ b ∷ c ∷ []) few = ([], a, b, c, refl)
three_last (byte ∷ a ∷ b ∷ c ∷ bytes) few =
    let more = three_last (a ∷ b ∷ c ∷ bytes) (omega arith) in (
      byte_before byte ++ more.0,
      more.1,
      more.2,
      more.3,
      one_more byte (a ∷ b ∷ c ∷ bytes) ∙ ap (λ l. byte_before byte ++ l) more.4
          ∙ sym (append_assoc (byte_before byte) more.0 (body_bits (more.1 ∷ more.2 ∷ more.3 ∷ []))),
    )

-- the first half-bit of a zero that follows some bits
zero_behind : (front more : List Bool) (place : ℕ) → 2 * length front ≡ place
    → get_or (halves_of (front ++ false ∷ more)) place Bad ≡ Zero
unfolding halves_of
zero_behind front more place is =
    ap (λ k. get_or (halves_of (front ++ false ∷ more)) k Bad) (sym is ∙ sym (length-halves_of front))
    ∙ ap (λ l. get_or l (length (halves_of front)) Bad) (halves_of-append front (false ∷ more))
    ∙ get_or-append_seam (halves_of front) Zero (Zero ∷ halves_of more) Bad

length_bits : (byte : ℕ) → length (bits_of 8 byte) ≡ 8
unfolding bits_of
length_bits byte = refl

starts : (a b c : ℕ) → (get_or (body (a ∷ b ∷ c ∷ [])) 0 Bad ≡ Zero) × (get_or (body (a ∷ b ∷ c ∷ [])) 18 Bad ≡ Zero)
    × (get_or (body (a ∷ b ∷ c ∷ [])) 36 Bad ≡ Zero)
unfolding body body_bits
starts a b c = (
  zero_behind [] (bits_of 8 a ++ body_bits (b ∷ c ∷ [])) 0 refl,
  zero_behind (false ∷ bits_of 8 a) (bits_of 8 b ++ body_bits (c ∷ [])) 18 (omega (arith, length_bits a)),
  ap (λ l. get_or (halves_of l) 36 Bad)
      (sym (append_assoc (false ∷ bits_of 8 a) (false ∷ bits_of 8 b) (false ∷ bits_of 8 c ++ body_bits [])))
      ∙ zero_behind ((false ∷ bits_of 8 a) ++ false ∷ bits_of 8 b) (bits_of 8 c ++ body_bits []) 36
      (omega (arith, length_bits a, length_bits b, length-append (false ∷ bits_of 8 a) (false ∷ bits_of 8 b))),
)

body_ends : (frame : List ℕ) (front : List Bool) (bytes : List ℕ) → body_bits frame ≡ front ++ body_bits bytes
    → body frame ≡ halves_of front ++ body bytes
unfolding body
body_ends frame front bytes e = ap halves_of e ∙ halves_of-append front (body_bits bytes)

class_at : (durations : List ℕ) (halves : List Half) (i : ℕ) (class : Half) → map nearest_class durations ≡ halves
    → i < length durations → get_or halves i Bad ≡ class → nearest_class (get_or durations i 0) ≡ class
class_at durations halves i class is within at =
    sym (get_or-map nearest_class durations i 0 Bad within) ∙ ap (λ l. get_or l i Bad) is ∙ at

-- half-bits that end with a frame
pub starts_at_end : (durations frame : List ℕ) → EndsWithFrame durations frame → HasStartBits (keep_last 56 durations)
starts_at_end durations frame ends =
    let three = three_last frame ends.frame_rule.least in
    let last : List Half = body (three.1 ∷ three.2 ∷ three.3 ∷ []) in
    let front : List Half = (ends.before ++ replicate 8 One) ++ halves_of three.0 in
    let whole : map nearest_class durations ≡ front ++ last =
    ends.halves ∙ sym (append_assoc ends.before (replicate 8 One) (body frame))
    ∙ ap (λ l. (ends.before ++ replicate 8 One) ++ l)
    (body_ends frame three.0 (three.1 ∷ three.2 ∷ three.3 ∷ []) three.4)
    ∙ sym (append_assoc (ends.before ++ replicate 8 One) (halves_of three.0) last) in
    let some : length last ≡ 56 = length-body (three.1 ∷ three.2 ∷ three.3 ∷ []) in
    let count : length durations ≡ length front + 56 =
    omega (arith, length-map durations nearest_class, ap length whole, length-append front last, some) in
    let is : map nearest_class (keep_last 56 durations) ≡ last =
    sym (drop-map nearest_class (length durations - 56) durations)
    ∙ ap (λ k. drop k (map nearest_class durations)) (omega (arith, count)) ∙ ap (drop (length front)) whole
    ∙ drop-append_seam front last in
    let all : length (keep_last 56 durations) ≡ 56 =
    omega (arith, length-drop (length durations - 56) durations, count) in
    let zeros = starts three.1 three.2 three.3 in (
      all,
      class_at (keep_last 56 durations) last 0 Zero is (omega (arith, all)) zeros.0,
      class_at (keep_last 56 durations) last 18 Zero is (omega (arith, all)) zeros.1,
      class_at (keep_last 56 durations) last 36 Zero is (omega (arith, all)) zeros.2,
    )

no_first : (a b : Option (List ℕ)) → ((frame : List ℕ) → a ≡ Some frame → ⊥) → b ≡ None → option_or a b ≡ None
no_first None b none e = e
no_first (Some frame) b none e = absurd (none frame refl)

-- the half-bits before a body, and its first half-bit

first_of_body : (frame : List ℕ) → 0 < length frame → get_or (body frame) 0 Bad ≡ Zero
unfolding body body_bits halves_of
first_of_body [] some = absurd (omega (arith, some))
first_of_body (byte ∷ bytes) some = refl

pub body_begins : (durations frame : List ℕ) → EndsWithFrame durations frame
    → (nearest_class (get_or durations (length durations - (18 * length frame + 3)) 0) ≡ One)
    × (nearest_class (get_or durations (length durations - (18 * length frame + 2)) 0) ≡ Zero)
body_begins durations frame ends =
    let ones : List Half = ends.before ++ replicate 7 One in
    let some : length (body frame) ≡ 18 * length frame + 2 = length-body frame in
    let whole : map nearest_class durations ≡ ones ++ One ∷ body frame =
    ends.halves ∙ sym (append_assoc ends.before (replicate 7 One) (One ∷ body frame)) in
    let count : length durations ≡ length ones + (18 * length frame + 3) = omega
    (arith, length-map durations nearest_class, ap length whole, length-append ones (One ∷ body frame), some) in
    let first : length durations - (18 * length frame + 3) ≡ length ones = omega (arith, count) in
    let next : length durations - (18 * length frame + 2) ≡ length ones + 1 = omega (arith, count) in (
      rw first (class_at durations (ones ++ One ∷ body frame) (length ones) One whole (omega (arith, count))
          (get_or-append_seam ones One (body frame) Bad)),
      rw next (class_at durations (ones ++ One ∷ body frame) (length ones + 1) Zero whole (omega (arith, count))
          (get_or-append-add ones (One ∷ body frame) 1 Bad
          ∙ first_of_body frame (omega (arith, ends.frame_rule.least)))),
    )

-- the last half-bit of a frame

last_at_end : (durations frame : List ℕ) → EndsWithFrame durations frame
    → nearest_class (get_or durations (length durations - 1) 0) ≡ One
last_at_end durations frame ends =
    let behind : List Half = replicate 8 One ++ body frame in
    let some : 0 < length durations = omega (
      arith,
      length-map durations nearest_class,
      ap length ends.halves,
      length-append ends.before behind,
      length-append (replicate 8 One) (body frame),
      length-body frame,
    ) in
    let last : ℕ = get_or durations (length durations - 1) 0 in
    let next : length durations ≡ (length durations - 1) + 1 = omega (arith, some) in
    let split : durations ≡ take (length durations - 1) durations ++ last ∷ [] =
    sym (take_all (length durations) durations (omega arith)) ∙ ap (λ n. take n durations) next
    ∙ take_more durations (length durations - 1) 0 (omega (arith, some)) in
    last_is_one (take (length durations - 1) durations) last frame (subst (λ l. EndsWithFrame l frame) split ends)

-- without the first half-bits of a body no frame is at the end
pub no_body : (durations : List ℕ)
    → ((m : ℕ) → 3 ≤ m → m ≤ 6 → HasStartBits (keep_last 56 durations)
    → nearest_class (get_or durations (length durations - (18 * m + 3)) 0) ≡ One
    → nearest_class (get_or durations (length durations - (18 * m + 2)) 0) ≡ Zero → ⊥)
    → longest_frame_at_end durations ≡ None
unfolding longest_frame_at_end
no_body durations none =
    no_first (frame_at_end 6 durations) _ (other 6 (omega arith) (omega arith))
    (no_first (frame_at_end 5 durations) _ (other 5 (omega arith) (omega arith))
    (no_first (frame_at_end 4 durations) _ (other 4 (omega arith) (omega arith))
    (alone (frame_at_end 3 durations) (other 3 (omega arith) (omega arith)))))
  where
    other : (m : ℕ) → 3 ≤ m → m ≤ 6 → (frame : List ℕ) → frame_at_end m durations ≡ Some frame → ⊥
    other m least most frame e =
        let ends = ends_with m durations frame e in
        let begins = rw ends.1 at (body_begins durations frame ends.0) in
        none m least most (starts_at_end durations frame ends.0) begins.0 begins.1

    alone : (a : Option (List ℕ)) → ((frame : List ℕ) → a ≡ Some frame → ⊥) → a ≡ None
    alone None not_it = refl
    alone (Some frame) not_it = absurd (not_it frame refl)

-- unless the last half-bit is half of a one, no frame is at the end
pub no_end : (durations last : List ℕ) (us : ℕ) → last ≡ keep_last 1 durations → us ≡ get_or last 0 0
    → nearest_class us ≢ One → longest_frame_at_end durations ≡ None
unfolding longest_frame_at_end
no_end durations last us is first other =
    no_first (frame_at_end 6 durations) _ (not_at_end 6)
    (no_first (frame_at_end 5 durations) _ (not_at_end 5)
    (no_first (frame_at_end 4 durations) _ (not_at_end 4) (none_of (frame_at_end 3 durations) (not_at_end 3))))
  where
    us_is : us ≡ get_or durations (length durations - 1) 0
    us_is = first ∙ ap (λ l. get_or l 0 0) is ∙ get_or-drop (length durations - 1) durations 0 0
        ∙ ap (λ n. get_or durations n 0) (omega arith)

    not_at_end : (m : ℕ) (frame : List ℕ) → frame_at_end m durations ≡ Some frame → ⊥
    not_at_end m frame e =
        other (ap nearest_class us_is ∙ last_at_end durations frame (ends_with m durations frame e).0)

    none_of : (a : Option (List ℕ)) → ((frame : List ℕ) → a ≡ Some frame → ⊥) → a ≡ None
    none_of None not_it = refl
    none_of (Some frame) not_it = absurd (not_it frame refl)

-- without the start bits of three bytes no frame is at the end
pub no_frame : (durations : List ℕ) → (HasStartBits (keep_last 56 durations) → ⊥) → longest_frame_at_end durations
    ≡ None
no_frame durations none = no_body durations (λ m least most has one zero. none has)

-- the same of the last 130 half-bits
pub no_frame_recent : (durations last halves : List ℕ) → last ≡ keep_last 130 durations → halves ≡ keep_last 56 last
    → (HasStartBits halves → ⊥) → longest_frame_at_end durations ≡ None
no_frame_recent durations last halves is are none =
    no_frame durations
    (λ has. none (rw (are ∙ ap (keep_last 56) is ∙ keep_last_keep 56 130 durations (omega arith)) has))

pub busy_none : (hunts : Bool) (longest : Option (List ℕ)) → hunts ≡ false → (if hunts then longest else None) ≡ None
busy_none hunts longest busy = rw busy refl

pub quiet_none : (hunts : Bool) (longest : Option (List ℕ)) → longest ≡ None → (if hunts then longest else None) ≡ None
quiet_none true longest none = none
quiet_none false longest none = refl

-- the packet at the end

pub packet_none_at_end : (f : List ℕ → LostPacket) (longest : Option (List ℕ)) → longest ≡ None
    → None ≡ option_map f longest
packet_none_at_end f longest e = rw e

pub packet_some_at_end : (f : List ℕ → LostPacket) (longest : Option (List ℕ)) (frame : List ℕ) (packet : LostPacket)
    → longest ≡ Some frame → packet ≡ f frame → Some packet ≡ option_map f longest
packet_some_at_end f longest frame packet e is = rw (e, is)
