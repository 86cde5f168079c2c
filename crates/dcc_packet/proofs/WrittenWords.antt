-- The words of a written line are the words that were written.
use Rattle.std.proofs.Common.{◌≡◌, ℕ, ◌<◌, ◌≤◌, Bool, true, false, not, List, [], ◌∷◌, ◌++◌, filter}
use Rattle.std.proofs.Common.{All, ◌&&◌, eqb, ap, ◌∙◌, refl, arith}
use Rattle.std.specs.List.{slice_split, list_all, AllByRecursion}
use Rattle.std.specs.Char.{is_ascii, is_ascii_digit, digit_value}
use Rattle.std.specs.Str.Parse.{AllDigits}
use Rattle.std.proofs.lemmas.Bool.{and_parts}
use Rattle.std.proofs.lemmas.Bool.Decides.{nat_tests}
use Rattle.std.proofs.lemmas.List.{append-nil}
use Rattle.std.proofs.lemmas.List.Elements.{All-cons, All-nil}
use Rattle.std.proofs.lemmas.List.Splits.{slice_split_at, slice_split_none}
use Rattle.dcc_packet.specs.Words.{Word, is_separator, words}
use Rattle.dcc_packet.specs.declared.functions.Group.{Group}
use Rattle.dcc_packet.specs.declared.functions.Group.TheVariants.{F0}
use Rattle.dcc_packet.specs.Group.{group_max}
use Rattle.dcc_packet.specs.Written.{spaced_words}
use Rattle.dcc_packet.proofs.FirstWord.{is_some_word, filter_some}
use Rattle.dcc_packet.specs.Fields.{is_plain, IsToken}

pub not_true : (b : Bool) → not b ≡ true → b ≡ false
not_true true h = absurd cc
not_true false h = refl

-- no byte of a word is a separator
apart : (word : Word) → list_all is_plain word ≡ true → All (λ b. is_separator b ≡ false) word
apart [] h = All-nil (λ b. is_separator b ≡ false)
apart (x ∷ xs) h =
    let parts = and_parts (is_plain x) (list_all is_plain xs) h in
    let byte = and_parts (is_ascii x) (not (is_separator x) && not (eqb x 10)) parts.0 in
    let none = not_true (is_separator x) (and_parts (not (is_separator x)) (not (eqb x 10)) byte.1).0 in
    All-cons (λ b. is_separator b ≡ false) x xs none (apart xs parts.1)

-- the words of a written line are the words that were written
pub words_spaced : (word : Word) (rest : List Word) → IsToken word → AllByRecursion IsToken rest
    → words (word ++ spaced_words rest) ≡ word ∷ rest
words_spaced word [] h t =
    ap words (append-nil word) ∙ ap (filter is_some_word) (slice_split_none is_separator word (apart word h.plain))
    ∙ filter_some word [] h.some
words_spaced word (next ∷ rest) h t =
    ap (filter is_some_word)
    (slice_split_at is_separator word 32 (next ++ spaced_words rest) (apart word h.plain) refl)
    ∙ filter_some word (slice_split is_separator (next ++ spaced_words rest)) h.some
    ∙ ap (λ (ws : List Word). word ∷ ws) (words_spaced next rest t.0 t.1)

pub ascii_digit : (c : ℕ) → digit_value c < 10 → is_ascii_digit c ≡ true
ascii_digit c h = grind (arith, nat_tests)

pub test_from_digits : (ds : List ℕ) → AllDigits 10 ds → list_all is_ascii_digit ds ≡ true
test_from_digits [] h = refl
test_from_digits (c ∷ cs) h = rw (ascii_digit c h.0, test_from_digits cs h.1) refl

pub group_is_byte : (g : Group) → group_max g ≤ 255
group_is_byte F0 = omega arith
group_is_byte group = omega arith
