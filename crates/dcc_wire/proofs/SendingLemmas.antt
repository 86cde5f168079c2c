-- A packet that is sent is seen at its last half.
use Rattle.std.proofs.Common.{◌≡◌, ℕ, suc, zero, ◌+◌, ◌-◌, ◌*◌, ◌<◌, ◌≤◌, inl, inr, Bool, true, false, List, [], ◌∷◌}
use Rattle.std.proofs.Common.{◌++◌, length, length-append, replicate, Some, None, refl, sym, ap, ◌∙◌, arith}
use Rattle.std.proofs.Common.{append_assoc, append-nil, map}
use Rattle.std.proofs.Math.ListN.{length-replicate}
use Rattle.std.proofs.lemmas.Bool.{le-ltb, eq-eqb}
use Rattle.std.proofs.lemmas.Bool.Decides.{nat_tests}
use Rattle.std.proofs.lemmas.List.{length-map}
use Rattle.dcc_wire.specs.declared.half.Half.{Half}
use Rattle.dcc_wire.specs.declared.half.Half.TheVariants.{One, Zero}
use Rattle.dcc_wire.specs.declared.seen.Seen.TheVariants.{Packet}
use Rattle.dcc_wire.specs.declared.timing.Timing.{Timing}
use Rattle.dcc_wire.specs.Bodies.{bits_of, body_bits, halves_of, body}
use Rattle.dcc_wire.specs.Frames.{IsFrame, AllBytes, xor_of}
use Rattle.dcc_wire.specs.Framing.{Hunting, InBody, rest, seen, report_at, starts_below, ones_before}
use Rattle.dcc_wire.specs.Framing.{ones_at_end, rest_at, hunting, used_up}
use Rattle.dcc_wire.specs.Half.{class_of}
use Rattle.dcc_wire.specs.Inner.Steps.{rest_after, answer_to, answer_of, left_of}
use Rattle.dcc_wire.specs.Outcomes.{bytes_in, ones_left, bits_in, body_outcome, by_halves}
use Rattle.dcc_wire.specs.Outcomes.{outcome_of}
use Rattle.dcc_wire.specs.Sending.{durations_of, sent_bits, sent, Sent, sent_all, at_last_halves, AllFrames}
use Rattle.dcc_wire.specs.Inner.OutcomeParts.{behind_bits, by_bits}
use Rattle.dcc_wire.proofs.BitLemmas.{length-halves_of}
use Rattle.dcc_wire.proofs.ByteBits.{cases_Option, some_same, length-body_bits, bytes_in-body}
use Rattle.dcc_wire.proofs.ByteLemmas.{AllBytes-of}
use Rattle.dcc_wire.proofs.FramingLemmas.{rest-push, seen-push}
use Rattle.dcc_wire.proofs.OutcomeLemmas.{outcome_of-bits, outcome_of-more, outcome_of-long}
use Rattle.dcc_wire.proofs.RunLemmas.{skips, ones_after_one}

-- the body of a packet comes to it, at its end

pub closed-packet : (bytes : List ℕ) → IsFrame bytes → body_outcome bytes ≡ Packet bytes
unfolding body_outcome
closed-packet bytes packet = rw (le-ltb (length bytes) 3 packet.least, eq-eqb (xor_of bytes) 0 packet.error_byte)

-- the body of some bytes is what they are with an end bit
pub body_closed : (bytes : List ℕ) → AllBytes bytes → length bytes ≤ 6
    → outcome_of (body bytes) ≡ Some (length (body bytes), body_outcome bytes)
unfolding body by_bits
body_closed bytes each few =
    let count : 18 * length bytes + 2 ≡ length (halves_of (body_bits bytes)) =
    omega (arith, length-halves_of (body_bits bytes), length-body_bits bytes) in
    outcome_of-bits (body_bits bytes) ∙ rw (bytes_in-body 6 bytes each few, count)

pub outcome_of-body : (bytes : List ℕ) → IsFrame bytes
    → outcome_of (body bytes) ≡ Some (length (body bytes), Packet bytes)
outcome_of-body bytes packet =
    body_closed bytes (AllBytes-of bytes packet.each) packet.most ∙ rw (closed-packet bytes packet)

-- and not before
pub unfinished : (bytes : List ℕ) (front back : List Half) → AllBytes bytes → length bytes ≤ 6
    → front ++ back ≡ body bytes → length front < length (body bytes) → outcome_of front ≡ None
unfinished bytes front back each few e shorter = elim (cases_Option (outcome_of front)) [
  | inl none ↦ none
  | inr (p, h) ↦
      let same = sym (outcome_of-more front back p h) ∙ ap outcome_of e ∙ body_closed bytes each few in
      let count = ap (λ q. q.0) (some_same same) in
      absurd (omega (arith, outcome_of-long front p h, count, shorter))
]

-- a packet is seen at the last half of a longer list
pub record Delivered (durations longer : List ℕ) (bytes : List ℕ) : Type 0 where
  pub open_part : rest longer ≡ Hunting 2
  pub outcomes : seen longer ≡ seen durations ++ (length longer - 1, Packet bytes) ∷ []

-- a body whose first halves have come, of which the last one is us, is taken to its end
body_arrives : (durations : List ℕ) (us : ℕ) (more : List ℕ) (bytes : List ℕ) (front : List Half) → IsFrame bytes
    → rest (durations ++ us ∷ []) ≡ left_of front (outcome_of front)
    → seen (durations ++ us ∷ []) ≡ seen durations ++ report_at (length durations) (answer_of (outcome_of front))
    → front ++ map class_of more ≡ body bytes → Delivered durations (durations ++ us ∷ more) bytes
unfolding rest_after answer_to answer_of left_of report_at ones_left
body_arrives durations us [] bytes front packet after shows e =
    let whole : outcome_of front ≡ Some (length (body bytes), Packet bytes) =
    ap outcome_of (sym (append-nil front) ∙ e) ∙ outcome_of-body bytes packet in
    let place : length (durations ++ us ∷ []) - 1 ≡ length durations = omega (arith, length-append {A = ℕ}) in
    record { open_part = after ∙ rw whole; outcomes = shows ∙ rw (whole, place) }
body_arrives durations us (next ∷ more) bytes front packet after shows e =
    let none = unfinished bytes front (map class_of (next ∷ more)) (AllBytes-of bytes packet.each) packet.most e
    (omega (arith, ap length e, length-append {A = Half})) in
    let inside : rest (durations ++ us ∷ []) ≡ InBody front = after ∙ rw none in
    let ih = body_arrives (durations ++ us ∷ []) next more bytes (front ++ class_of next ∷ []) packet
    (rest-push (durations ++ us ∷ []) next ∙ rw inside) (seen-push (durations ++ us ∷ []) next ∙ rw inside)
    (append_assoc front (class_of next ∷ []) (map class_of more) ∙ e) in
    let arrived = rw (append_assoc durations (us ∷ []) (next ∷ more)) at ih in record {
      open_part = arrived.open_part;
      outcomes = arrived.outcomes ∙ rw (shows, none, append-nil (seen durations));
    }

-- the halves of a timing

pub record Classes (timing : Timing) : Type 0 where
  pub one : class_of timing.one ≡ One
  pub first : class_of timing.zero_first ≡ Zero
  pub second : class_of timing.zero_second ≡ Zero
  pub preamble : 14 ≤ timing.preamble
  pub most : timing.preamble ≤ 40

pub classes : (timing : Timing) → Classes timing
classes timing = grind (arith, nat_tests, timing.sendable)

map-durations : (timing : Timing) (bits : List Bool) → map class_of (durations_of timing bits) ≡ halves_of bits
unfolding durations_of halves_of
map-durations timing [] = refl
map-durations timing (true ∷ bits) = rw ((classes timing).one, map-durations timing bits)
map-durations timing (false ∷ bits) = rw ((classes timing).first, (classes timing).second, map-durations timing bits)

pub durations_of-append : (timing : Timing) (xs ys : List Bool)
    → durations_of timing (xs ++ ys) ≡ durations_of timing xs ++ durations_of timing ys
unfolding durations_of
durations_of-append timing [] ys = refl
durations_of-append timing (true ∷ xs) ys = rw (durations_of-append timing xs ys)
durations_of-append timing (false ∷ xs) ys = rw (durations_of-append timing xs ys)

pub length-durations : (timing : Timing) (bits : List Bool) → length (durations_of timing bits) ≡ 2 * length bits
length-durations timing bits =
    sym (length-map (durations_of timing bits) class_of) ∙ rw (map-durations timing bits) (length-halves_of bits)

durations_of-ones : (timing : Timing) (n : ℕ) → durations_of timing (replicate n true) ≡ replicate (2 * n) timing.one
unfolding durations_of
durations_of-ones timing zero = refl
durations_of-ones timing (suc n) =
    let two : 2 * suc n ≡ suc (suc (2 * n)) = omega arith in rw (two, durations_of-ones timing n)

-- two halves for each one of the preamble, each nine bits of a byte, and the end bit
pub length-sent : (bytes : List ℕ) (timing : Timing)
    → length (sent bytes timing) ≡ 2 * (timing.preamble + 9 * length bytes + 1)
unfolding sent sent_bits
length-sent bytes timing =
    rw (length-durations, length-append, length-replicate, length-body_bits) (omega arith)

-- the half-bits of the preamble, and those of the body
pub sent-parts : (bytes : List ℕ) (timing : Timing)
    → sent bytes timing ≡ replicate (2 * timing.preamble) timing.one ++ durations_of timing (body_bits bytes)
unfolding sent sent_bits
sent-parts bytes timing =
    rw (durations_of-append timing (replicate timing.preamble true) (body_bits bytes), durations_of-ones)

-- a body after a preamble
pub body_delivered : (start : List ℕ) (bytes : List ℕ) (timing : Timing) → IsFrame bytes → rest start ≡ Hunting 20
    → Delivered start (start ++ durations_of timing (body_bits bytes)) bytes
unfolding rest_after answer_to report_at durations_of body halves_of body_bits left_of answer_of outcome_of bits_in
    behind_bits bytes_in by_halves
body_delivered start [] timing packet twenty = absurd (omega (arith, packet.least))
body_delivered start (byte ∷ bytes) timing packet twenty =
    let c = classes timing in
    let tail : List ℕ = timing.zero_second ∷ durations_of timing (bits_of 8 byte ++ body_bits bytes) in
    body_arrives start timing.zero_first tail (byte ∷ bytes) (Zero ∷ []) packet
    (rest-push start timing.zero_first ∙ rw (twenty, c.first)) (seen-push start timing.zero_first ∙ rw twenty)
    (ap (λ h. h ∷ map class_of tail) (sym c.first) ∙ map-durations timing (body_bits (byte ∷ bytes)))

-- one packet
pub sent_delivered : (durations : List ℕ) (bytes : List ℕ) (timing : Timing) (before : ℕ) → IsFrame bytes → before ≤ 20
    → rest durations ≡ Hunting before → Delivered durations (durations ++ sent bytes timing) bytes
sent_delivered durations bytes timing before packet few hunts =
    let c = classes timing in
    let ones : List ℕ = replicate (2 * timing.preamble) timing.one in
    let counted = skips (2 * timing.preamble) timing.one durations before (rw c.one tt) hunts in
    let twenty : rest (durations ++ ones) ≡ Hunting 20 =
    counted.open_part ∙ rw (c.one, ones_after_one before (2 * timing.preamble) (omega (arith, c.preamble)))
    (ap Hunting (omega (arith, c.preamble))) in
    let arrived = body_delivered (durations ++ ones) bytes timing packet twenty in
    rw (sent-parts bytes timing, ← append_assoc durations ones (durations_of timing (body_bits bytes)))
    (record { open_part = arrived.open_part; outcomes = arrived.outcomes ∙ rw counted.outcomes })

-- packets one after the other
pub packets_delivered : (durations : List ℕ) (before : ℕ) (packets : List Sent) → AllFrames packets → before ≤ 20
    → rest durations ≡ Hunting before
    → seen (durations ++ sent_all packets) ≡ seen durations ++ at_last_halves (length durations) packets
unfolding AllFrames sent_all at_last_halves
packets_delivered durations before [] all few hunts = rw (append-nil durations, append-nil (seen durations))
packets_delivered durations before (packet ∷ packets) all few hunts =
    let halves : List ℕ = sent packet.bytes packet.timing in
    let one = sent_delivered durations packet.bytes packet.timing before all.0 few hunts in
    let ih = packets_delivered (durations ++ halves) 2 packets all.1 (omega arith) one.open_part in
    ap seen (sym (append_assoc durations halves (sent_all packets))) ∙ ih
    ∙ rw (one.outcomes, length-append durations halves, append_assoc (seen durations))

pub seen-sent_all : (packets : List Sent) → AllFrames packets → seen (sent_all packets) ≡ at_last_halves 0 packets
unfolding rest seen rest_at hunting starts_below used_up ones_at_end ones_before
seen-sent_all packets all = packets_delivered [] 0 packets all (omega arith) refl
