-- Bytes among which a search found no line feed, and bytes that are ASCII.
use Rattle.std.proofs.Common.{zero, suc, ◌≡◌, ℕ, ◌<◌, ◌≤◌, List, [], ◌∷◌, length, take, get_or, true, false, eqb, refl}
use Rattle.std.proofs.Common.{arith, add-one}
use Rattle.std.proofs.lemmas.Bool.{false_from_ne_true, and_parts, not-true, lt-ltb}
use Rattle.std.proofs.lemmas.Bool.Decides.{nat_tests}
use Rattle.std.proofs.lemmas.List.Folds.{list_all_more}
use Rattle.std.specs.List.{list_all}
use Rattle.std.specs.Char.{is_ascii}
use Rattle.memchr.specs.Find.{Nowhere, Passes, is_byte}
use Rattle.dcc_io.specs.Inner.FrontWords.{is_within_line}
use Rattle.dcc_io.specs.NextLine.{has_line_feed}

-- none of the first bytes ends a line
pub within_line : (bytes : List ℕ) (len : ℕ) → len ≤ length bytes → Nowhere (Passes (is_byte 10) bytes) 0 len
    → list_all is_within_line (take len bytes) ≡ true
within_line bytes zero inside none = refl
within_line bytes (suc len) inside none =
    let before = within_line bytes len (omega arith) (λ k low high. none k low (omega arith)) in
    let last : eqb (get_or bytes len 0) 10 ≡ false = false_from_ne_true _ (none len (omega arith) (omega arith)) in
    rw (← add-one len, list_all_more is_within_line bytes len 0 (omega arith), before, last) refl

pub of_one_line : (bytes : List ℕ) → list_all is_within_line bytes ≡ true → has_line_feed bytes ≡ false
of_one_line [] within = refl
of_one_line (byte ∷ bytes) within =
    let parts = and_parts (is_within_line byte) (list_all is_within_line bytes) within in
    rw (not-true _ parts.0, of_one_line bytes parts.1) refl

pub all_ascii : (bytes : List ℕ) → ((i : ℕ) → get_or bytes i 0 < 128) → list_all is_ascii bytes ≡ true
all_ascii [] each = refl
all_ascii (byte ∷ bytes) each = rw (lt-ltb byte 128 (each 0), all_ascii bytes (λ i. each (suc i))) refl

pub is_feed : (byte : ℕ) → is_byte 10 byte ≡ true → byte ≡ 10
is_feed byte is = grind (arith, nat_tests)
