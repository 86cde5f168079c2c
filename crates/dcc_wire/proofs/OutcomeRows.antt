-- The rows of the table are the outcomes.
use Rattle.std.proofs.Common.{◌≡◌, ℕ, ◌+◌, ◌*◌, ◌<◌, ◌≤◌, inl, inr, Bool, true, false, List, [], ◌∷◌, ◌++◌, length}
use Rattle.std.proofs.Common.{length-append, Some, None, refl, sym, ap, ◌∙◌, arith, Option, append_assoc, append-nil}
use Rattle.std.proofs.Common.{subst, ◌≢◌}
use Rattle.std.proofs.lemmas.Bool.{cases_lt, lt-ltb, le-ltb, ne_eqb}
use Rattle.std.proofs.lemmas.List.{nil_from_length, append_cancel_right}
use Rattle.std.proofs.lemmas.Option.{some_pair_parts}
use Rattle.dcc_wire.specs.declared.half.Half.{Half}
use Rattle.dcc_wire.specs.declared.half.Half.TheVariants.{One, Zero, Bad}
use Rattle.dcc_wire.specs.declared.seen.Fault.TheVariants.{BadHalf, SplitBit, TooLong, TooShort, ErrorByte}
use Rattle.dcc_wire.specs.declared.seen.Seen.{Seen}
use Rattle.dcc_wire.specs.declared.seen.Seen.TheVariants.{Nothing, Refused, Packet}
use Rattle.dcc_wire.specs.Bodies.{body_bits, halves_of, body}
use Rattle.dcc_wire.specs.Frames.{IsFrame, AllBytes, xor_of}
use Rattle.dcc_wire.specs.OutcomeLaws.{OutcomesAreRows, NoOutcomeIsUnfinished, SomeRowFits, OneRowFits}
use Rattle.dcc_wire.specs.OutcomeLaws.{NoRowIsUnfinished}
use Rattle.dcc_wire.specs.OutcomeTable.{IsOpen, IsUnpaired, IsRow, Comes, IsUnfinished}
use Rattle.dcc_wire.specs.Outcomes.{bytes_in, bits_in, body_outcome, by_halves, outcome_of}
use Rattle.dcc_wire.specs.Packed.{byte_bits}
use Rattle.dcc_wire.specs.Inner.OutcomeParts.{behind_bits, by_bits}
use Rattle.dcc_wire.proofs.BitLemmas.{halves_of-append, length-halves_of, halves_split}
use Rattle.dcc_wire.proofs.ByteBits.{body_bits-end, length-byte_bits, length-body_bits, Reads, bytes_in-reads}
use Rattle.dcc_wire.proofs.ByteBits.{bytes_in-closed, bytes_in-begins, cases_Option}
use Rattle.dcc_wire.proofs.ByteLemmas.{AllBytes-index}
use Rattle.dcc_wire.proofs.OutcomeLemmas.{open_parts, outcome_of-more, outcome_of-bits, outcome_behind, outcome_parts}
use Rattle.dcc_wire.proofs.SendingLemmas.{closed-packet, body_closed, outcome_of-body, unfinished as unfinished_body}

-- open lists are the halves of bits that no bytes are read from

one_left : (n : ℕ) (tail : List Half) → by_halves n tail ≡ None → length tail ≤ 1
unfolding by_halves
one_left n tail e = grind arith

open-bits : (halves : List Half) → IsOpen halves
    → (bits : List Bool) × (halves ≡ halves_of bits) × (bytes_in 6 bits ≡ None)
open-bits halves h =
    let none = unfinished_body h.bytes halves h.begun.0 h.each (omega (arith, h.six)) (sym h.begun.1) h.shorter in
    let parts = open_parts (bytes_in 6 (bits_in halves)) _ (sym (outcome_parts halves) ∙ none) in
    let few = one_left (2 * length (bits_in halves)) (behind_bits halves) parts.1 in
    let all = ap length (halves_split halves).0 in
    let nothing : behind_bits halves ≡ [] =
    nil_from_length (behind_bits halves) (omega (arith, few, all, h.even, length-append {A = Half}, length-halves_of))
    in
    (bits_in halves, sym (rw (nothing, append-nil) at (halves_split halves).0), parts.0)

bits-open : (bits : List Bool) → bytes_in 6 bits ≡ None → IsOpen (halves_of bits)
unfolding body
bits-open bits e =
    let b = bytes_in-begins 6 bits e in
    let more : List Bool = b.3 ++ true ∷ [] in
    let whole : body_bits b.0 ≡ bits ++ more = rw (body_bits-end, b.4) (append_assoc bits b.3 (true ∷ [])) in
    record {
      bytes = b.0;
      each = b.1;
      six = b.2;
      begun = (halves_of more, ap halves_of whole ∙ halves_of-append bits more);
      even = omega (arith, length-halves_of bits);
      shorter = omega (arith, length-halves_of, ap length whole, length-append {A = Bool});
    }

-- each row is an outcome

closed-short : (bytes : List ℕ) → length bytes < 3 → body_outcome bytes ≡ Refused TooShort
unfolding body_outcome
closed-short bytes short = rw (lt-ltb (length bytes) 3 short)

closed-wrong : (bytes : List ℕ) → 3 ≤ length bytes → xor_of bytes ≢ 0 → body_outcome bytes ≡ Refused (ErrorByte bytes)
unfolding body_outcome
closed-wrong bytes long wrong = rw (le-ltb (length bytes) 3 long, ne_eqb (xor_of bytes) 0 wrong)

-- a zero in place of the end bit
too_long : (bytes : List ℕ) (front : List Half) → AllBytes bytes → length bytes ≡ 6
    → body bytes ≡ front ++ One ∷ One ∷ []
    → outcome_of (front ++ Zero ∷ Zero ∷ []) ≡ Some (length (front ++ Zero ∷ Zero ∷ []), Refused TooLong)
unfolding by_bits halves_of body
too_long bytes front each six whole =
    let bits : List Bool = byte_bits bytes in
    let is : front ≡ halves_of bits =
    append_cancel_right front (halves_of bits) (One ∷ One ∷ [])
    (sym whole ∙ ap halves_of (body_bits-end bytes) ∙ halves_of-append bits (true ∷ [])) in
    let count : 18 * length bytes + 2 ≡ length (front ++ Zero ∷ Zero ∷ []) =
    omega (arith, length-append {A = Half}, ap length is, length-halves_of, length-byte_bits) in
    ap (λ l. outcome_of (l ++ Zero ∷ Zero ∷ [])) is ∙ ap outcome_of (sym (halves_of-append bits (false ∷ [])))
    ∙ outcome_of-bits (bits ++ false ∷ [])
    ∙ rw (bytes_in-closed 6 bytes false [] each (omega (arith, six)) (λ last. six), count)

-- halves that make no bit, behind bits that no bytes are read from
module _ (bits : List Bool) (none : bytes_in 6 bits ≡ None) where
  refused : (tail : List Half) (o : Seen) → bits_in tail ≡ [] → behind_bits tail ≡ tail
      → by_halves (2 * length bits) tail ≡ Some (2 * length bits + length tail, o)
      → outcome_of (halves_of bits ++ tail) ≡ Some (length (halves_of bits ++ tail), o)
  refused tail o e f h =
      outcome_behind bits tail none e f ∙ h
      ∙ ap (λ k. Some (k, o)) (omega (arith, length-append (halves_of bits) tail, length-halves_of bits))

  bad_half : (half : List Half) → IsUnpaired half
      → outcome_of (halves_of bits ++ half ++ Bad ∷ [])
      ≡ Some (length (halves_of bits ++ half ++ Bad ∷ []), Refused BadHalf)
  unfolding bits_in behind_bits by_halves
  bad_half half unpaired =
      rw append_assoc (refused (half ++ Bad ∷ []) (Refused BadHalf) (grind arith) (grind arith) (grind arith))

  unfinished : (half : List Half) → IsUnpaired half → outcome_of (halves_of bits ++ half) ≡ None
  unfolding bits_in behind_bits by_halves
  unfinished half unpaired = outcome_behind bits half none (grind arith) (grind arith) ∙ grind arith

row-outcome : (halves : List Half) (outcome : Seen) → IsRow halves outcome
    → outcome_of halves ≡ Some (length halves, outcome)
unfolding bits_in behind_bits by_halves
row-outcome halves (Packet bytes) (packet, same) = rw same (outcome_of-body bytes packet)
row-outcome halves (Refused (ErrorByte bytes)) (each, long, few, wrong, same) =
    rw same (body_closed bytes each few ∙ rw (closed-wrong bytes long wrong))
row-outcome halves (Refused TooShort) (bytes, each, some, few, same) =
    rw same (body_closed bytes each (omega arith) ∙ rw (closed-short bytes (omega arith)))
row-outcome halves (Refused TooLong) (bytes, front, each, six, whole, same) =
    rw same (too_long bytes front each six whole)
row-outcome halves (Refused SplitBit) (front, is_open, inl same) =
    let b = open-bits front is_open in rw (same, b.1) (refused b.0 b.2 (Zero ∷ One ∷ []) _ refl refl refl)
row-outcome halves (Refused SplitBit) (front, is_open, inr same) =
    let b = open-bits front is_open in rw (same, b.1) (refused b.0 b.2 (One ∷ Zero ∷ []) _ refl refl refl)
row-outcome halves (Refused BadHalf) (front, half, is_open, unpaired, same) =
    let b = open-bits front is_open in rw (same, b.1) (bad_half b.0 b.2 half unpaired)
row-outcome halves Nothing h = absurd h

comes-outcome : (halves : List Half) (n : ℕ) (outcome : Seen) → Comes halves n outcome
    → outcome_of halves ≡ Some (n, outcome)
comes-outcome halves n outcome (front, row, count, (more, same)) =
    rw (same, count) (outcome_of-more front more (length front, outcome) (row-outcome front outcome row))

unfinished-outcome : (halves : List Half) → IsUnfinished halves → outcome_of halves ≡ None
unfinished-outcome halves (front, half, is_open, unpaired, same) =
    let b = open-bits front is_open in rw (same, b.1) (unfinished b.0 b.2 half unpaired)

-- each outcome is a row

-- what these halves are where this is their outcome
abbrev IsAnswer : List Half → Option (ℕ × Seen) → Type 0
IsAnswer halves None = IsUnfinished halves
IsAnswer halves (Some p) = Comes halves p.0 p.1

row-closed : (bytes : List ℕ) → AllBytes bytes → 1 ≤ length bytes → length bytes ≤ 6
    → IsRow (body bytes) (body_outcome bytes)
row-closed bytes each some few = elim (cases_lt (length bytes) 3) [
  | inl short ↦ rw (closed-short bytes short) (bytes, each, some, omega arith, refl)
  | inr long ↦ elim (cases_lt 0 (xor_of bytes)) [
    | inl more ↦
        let wrong : xor_of bytes ≢ 0 = λ e. omega arith in
        rw (closed-wrong bytes long wrong) (each, long, few, wrong, refl)
    | inr none ↦
        let packet : IsFrame bytes =
        record { least = long; most = few; error_byte = omega arith; each = AllBytes-index bytes each } in
        rw (closed-packet bytes packet) (packet, refl)
  ]
]

some_byte : (bytes : List ℕ) (more : List Bool) (tail rest : List Half)
    → halves_of (byte_bits bytes ++ true ∷ more) ++ tail ≡ Zero ∷ rest → 1 ≤ length bytes
unfolding halves_of byte_bits
some_byte [] more tail rest e = cc
some_byte (byte ∷ bytes) more tail rest e = omega arith

-- the halves up to a bit, and those behind it
behind_bit : (front : List Bool) (bit : Bool) (more : List Bool) (tail : List Half)
    → halves_of (front ++ bit ∷ more) ++ tail ≡ halves_of (front ++ bit ∷ []) ++ (halves_of more ++ tail)
behind_bit front bit more tail =
    ap (λ l. halves_of l ++ tail) (sym (append_assoc front (bit ∷ []) more))
    ∙ rw (halves_of-append (front ++ bit ∷ []) more, append_assoc)

row_read : (bits : List Bool) (tail rest : List Half) (bytes : List ℕ) (last : Bool) → Reads 6 bits bytes last
    → halves_of bits ++ tail ≡ Zero ∷ rest → IsAnswer (halves_of bits ++ tail) (Some (by_bits (bytes, last)))
unfolding by_bits body halves_of
row_read bits tail rest bytes true r e = rw r.is (
  body bytes,
  row-closed bytes r.each (some_byte bytes r.more tail rest (rw r.is at e)) r.few,
  omega (arith, length-halves_of (body_bits bytes), length-body_bits bytes),
  (halves_of r.more ++ tail, rw body_bits-end (behind_bit (byte_bits bytes) true r.more tail)),
)
row_read bits tail rest bytes false r e =
    let front : List Half = halves_of (byte_bits bytes) in
    let end = λ (bit : Bool). halves_of-append (byte_bits bytes) (bit ∷ []) in
    rw r.is (
      front ++ Zero ∷ Zero ∷ [],
      (bytes, front, r.each, r.full refl, rw body_bits-end (end true), refl),
      omega (arith, length-append front (Zero ∷ Zero ∷ []), length-halves_of (byte_bits bytes), length-byte_bits bytes),
      (halves_of r.more ++ tail, behind_bit (byte_bits bytes) false r.more tail ∙ rw (end false)),
    )

module _ (bits : List Bool) (is_open : IsOpen (halves_of bits)) where
  row_behind : (part more : List Half) (outcome : Seen) → IsRow (halves_of bits ++ part) outcome
      → Comes (halves_of bits ++ (part ++ more)) (2 * length bits + length part) outcome
  row_behind part more outcome row = (
    halves_of bits ++ part,
    row,
    omega (arith, length-append (halves_of bits) part, length-halves_of bits),
    (more, sym (append_assoc (halves_of bits) part more)),
  )

  row_bad : (half : List Half) → IsUnpaired half → IsRow (halves_of bits ++ (half ++ Bad ∷ [])) (Refused BadHalf)
  row_bad half unpaired =
      (halves_of bits, half, is_open, unpaired, sym (append_assoc (halves_of bits) half (Bad ∷ [])))

  row_open : (tail : List Half) → bits_in tail ≡ []
      → IsAnswer (halves_of bits ++ tail) (by_halves (2 * length bits) tail)
  unfolding bits_in by_halves
  row_open [] e = (halves_of bits, [], is_open, tt, refl)
  row_open (Bad ∷ tail) e = row_behind (Bad ∷ []) tail (Refused BadHalf) (row_bad [] tt)
  row_open (half ∷ []) e = (halves_of bits, half ∷ [], is_open, (λ q. cc), refl)
  row_open (half ∷ Bad ∷ tail) e =
      row_behind (half ∷ Bad ∷ []) tail (Refused BadHalf) (row_bad (half ∷ []) (λ q. cc))
  row_open (One ∷ Zero ∷ tail) e =
      row_behind (One ∷ Zero ∷ []) tail (Refused SplitBit) (halves_of bits, is_open, inr refl)
  row_open (Zero ∷ One ∷ tail) e =
      row_behind (Zero ∷ One ∷ []) tail (Refused SplitBit) (halves_of bits, is_open, inl refl)
  row_open tail e = cc

row : (more : List Half) → IsAnswer (Zero ∷ more) (outcome_of (Zero ∷ more))
row more =
    let halves : List Half = Zero ∷ more in
    let bits = bits_in halves in
    let tail = behind_bits halves in
    let whole = (halves_split halves).0 in
    subst (λ l. IsAnswer l (outcome_of halves)) whole
    (rw (outcome_parts halves) (elim (cases_Option (bytes_in 6 bits)) [
      | inl none ↦ rw none (row_open bits (bits-open bits none) tail (halves_split halves).1)
      | inr (p, e) ↦ rw e (row_read bits tail more p.0 p.1 (bytes_in-reads 6 bits p e) whole)
    ]))

-- the laws

pub outcomes-rows : OutcomesAreRows
outcomes-rows more n outcome = (comes-outcome (Zero ∷ more) n outcome, λ e. subst (IsAnswer (Zero ∷ more)) e (row more))

pub no_outcome-unfinished : NoOutcomeIsUnfinished
no_outcome-unfinished more = (unfinished-outcome (Zero ∷ more), λ e. subst (IsAnswer (Zero ∷ more)) e (row more))

pub some-row : SomeRowFits
some-row more = elim (cases_Option (outcome_of (Zero ∷ more))) [
  | inl none ↦ inr (subst (IsAnswer (Zero ∷ more)) none (row more))
  | inr (p, e) ↦ inl (p.0, p.1, subst (IsAnswer (Zero ∷ more)) e (row more))
]

pub one-row : OneRowFits
one-row halves n m outcome other a b =
    some_pair_parts n m outcome other (sym (comes-outcome halves n outcome a) ∙ comes-outcome halves m other b)

pub no_row-unfinished : NoRowIsUnfinished
no_row-unfinished halves n outcome a b =
    let here = comes-outcome halves n outcome a in
    let none = unfinished-outcome halves b in
    cc
