-- Frames are told apart by their numbers.
use Rattle.std.proofs.Common.{◌≡◌, ℕ, ◌<◌, Bool, List, length, nat_eq, slice_index_or, below_more, arith, ap, ap₂, sym}
use Rattle.std.proofs.Common.{◌∙◌, ◌++◌, ◌-◌, ◌≤◌, ◌+◌, ◌*◌, [], refl, replicate}
use Rattle.std.specs.Prelude.{◌&&◌}
use Rattle.std.specs.Bool.{Decides}
use Rattle.std.proofs.lemmas.Bool.Decides.{Decides-and, Decides-eqb, Decides-like}
use Rattle.std.proofs.lemmas.List.{ext_get_or}
use Rattle.dcc_wire.proofs.PaddedLemmas.{padded_front, padded_zeros, six as six_of}
use Rattle.dcc_c.specs.declared.frame.DccFrame.{DccFrame}
use Rattle.dcc_c.specs.Frames.{frame_numbers}

-- the number at a place, and whether two frames have the same there
abbrev byte_at : DccFrame → ℕ → ℕ
byte_at f k = slice_index_or f.bytes k 0

abbrev alike_at : DccFrame → DccFrame → ℕ → Bool
alike_at f g k = nat_eq (byte_at f k) (byte_at g k)

each : (f g : DccFrame) (k : ℕ) → Decides (alike_at f g k) (byte_at f k ≡ byte_at g k)
each f g k = Decides-eqb (byte_at f k) (byte_at g k)

-- lists of six are told apart by six numbers
six : (xs ys : List ℕ) → length xs ≡ 6 → length ys ≡ 6 → slice_index_or xs 0 0 ≡ slice_index_or ys 0 0
    → slice_index_or xs 1 0 ≡ slice_index_or ys 1 0 → slice_index_or xs 2 0 ≡ slice_index_or ys 2 0
    → slice_index_or xs 3 0 ≡ slice_index_or ys 3 0 → slice_index_or xs 4 0 ≡ slice_index_or ys 4 0
    → slice_index_or xs 5 0 ≡ slice_index_or ys 5 0 → xs ≡ ys
six xs ys long too a b c d e f =
    let P : ℕ → Type 0 = λ k. slice_index_or xs k 0 ≡ slice_index_or ys k 0 in
    let all : (k : ℕ) → k < 6 → P k =
    below_more P 5 (below_more P 4 (below_more P 3 (below_more P 2 (below_more P 1
    (below_more P 0 (λ k none. absurd (omega arith)) a) b) c) d) e) f in
    ext_get_or 0 xs ys (long ∙ sym too) (λ k below. all k (omega arith))

pub Decides-frame : (f g : DccFrame) → length f.bytes ≡ 6 → length g.bytes ≡ 6
    → Decides
    (nat_eq f.len g.len && alike_at f g 0 && alike_at f g 1 && alike_at f g 2 && alike_at f g 3 && alike_at f g 4
    && alike_at f g 5) (f ≡ g)
Decides-frame f g long too =
    Decides-like _
    (λ p. ap₂ (λ (len : ℕ) (bytes : List ℕ). record { len = len; bytes = bytes }) p.0.0.0.0.0.0
    (six f.bytes g.bytes long too p.0.0.0.0.0.1 p.0.0.0.0.1 p.0.0.0.1 p.0.0.1 p.0.1 p.1))
    (λ e.
    let at : (k : ℕ) → byte_at f k ≡ byte_at g k = λ k. ap (λ (h : DccFrame). byte_at h k) e in
    ((((((ap (λ (h : DccFrame). h.len) e, at 0), at 1), at 2), at 3), at 4), at 5))
    (Decides-and _ _ (Decides-and _ _ (Decides-and _ _ (Decides-and _ _ (Decides-and _ _
    (Decides-and _ _ (Decides-eqb f.len g.len) (each f g 0)) (each f g 1)) (each f g 2)) (each f g 3)) (each f g 4))
    (each f g 5))

-- six bytes, each a byte of a list or zero
pub six_bytes : (xs : List ℕ) → length xs ≤ 6 → six_of xs ≡ xs ++ replicate (6 - length xs) 0
six_bytes xs few = (padded_zeros xs few).zeros ∙ ap (λ (front : List ℕ). front ++ replicate (6 - length xs) 0)
    (padded_front xs few)

-- a structure without bytes is told by two numbers of its bytes
pub Decides-none : (f : DccFrame) (low high : ℕ) → length f.bytes ≡ 6
    → low ≡ byte_at f 0 + 256 * byte_at f 1 + 65536 * byte_at f 2 + 16777216 * byte_at f 3
    → high ≡ byte_at f 4 + 256 * byte_at f 5
    → Decides (nat_eq f.len 0 && nat_eq low 0 && nat_eq high 0) (f ≡ frame_numbers [])
Decides-none f low high long e g =
    Decides-like _
    (λ p. let a = p.0.1 in let b = p.1 in
    ap₂ (λ (len : ℕ) (bytes : List ℕ). record { len = len; bytes = bytes }) p.0.0
    (six f.bytes (replicate 6 0) long refl (omega arith) (omega arith) (omega arith) (omega arith) (omega arith)
    (omega arith)))
    (λ same.
    let at : (k : ℕ) → byte_at f k ≡ byte_at (frame_numbers []) k = λ k. ap (λ (h : DccFrame). byte_at h k) same in
    let b0 : byte_at f 0 ≡ 0 = at 0 in
    let b1 : byte_at f 1 ≡ 0 = at 1 in
    let b2 : byte_at f 2 ≡ 0 = at 2 in
    let b3 : byte_at f 3 ≡ 0 = at 3 in
    let b4 : byte_at f 4 ≡ 0 = at 4 in
    let b5 : byte_at f 5 ≡ 0 = at 5 in
    ((ap (λ (h : DccFrame). h.len) same, omega arith), omega arith))
    (Decides-and _ _ (Decides-and _ _ (Decides-eqb f.len 0) (Decides-eqb low 0)) (Decides-eqb high 0))
