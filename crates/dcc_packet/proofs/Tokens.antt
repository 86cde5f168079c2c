-- Which words stand in lines.
use Rattle.std.proofs.Common.{◌≡◌, ℕ, ◌<◌, ◌≤◌, Bool, true, false, nat_le, ◌&&◌, List, [], ◌∷◌, length, codes, refl}
use Rattle.std.proofs.Common.{arith}
use Rattle.std.specs.Char.{is_ascii_digit}
use Rattle.std.specs.Fmt.{decimal}
use Rattle.std.specs.List.{list_all}
use Rattle.std.proofs.lemmas.Bool.{and_parts, leb-true}
use Rattle.std.proofs.lemmas.Bool.Decides.{nat_tests}
use Rattle.std.proofs.lemmas.Fmt.{decimal_is_IsNumeral}
use Rattle.dcc_packet.specs.Words.{Word}
use Rattle.dcc_packet.specs.LineWords.{direction_word, state_word, switch_word}
use Rattle.dcc_packet.specs.Fields.{is_plain, is_keyword, IsToken}
use Rattle.dcc_packet.proofs.Decimal.{short}
use Rattle.dcc_packet.proofs.WrittenWords.{test_from_digits}
use Rattle.dcc_packet.specs.declared.address.Address.{Address}
use Rattle.dcc_packet.specs.declared.address.Address.TheVariants.{Broadcast, Short, Long}
use Rattle.dcc_packet.specs.LineWords.{address_word}
use Rattle.dcc_packet.specs.declared.functions.Group.{Group}
use Rattle.dcc_packet.specs.declared.functions.Group.TheVariants.{F0, F5, F9, F13, F21, F29, F37, F45, F53, F61}
use Rattle.dcc_packet.specs.LineWords.{group_word}
use Rattle.std.proofs.Common.{All, get_or, inl, inr, ◌/◌, ◌%◌}
use Rattle.std.proofs.lemmas.Bool.{cases_lt}
use Rattle.std.proofs.lemmas.List.{get_or_past}
use Rattle.std.proofs.lemmas.List.Elements.{All-cons, All-nil}
use Rattle.hex.specs.Hex.{encode_lower, encode_with, lower_digits}
use Rattle.hex.proofs.HexLemmas.{length-encode_with}

-- a word that is written out
pub keyword_token : (word : Word) → is_keyword word ≡ true → IsToken word
keyword_token word h =
    let all = and_parts (nat_le 1 (length word) && nat_le (length word) 12) (list_all is_plain word) h in
    let size = and_parts (nat_le 1 (length word)) (nat_le (length word) 12) all.0 in
    record { some = leb-true 1 (length word) size.0; plain = all.1; short = leb-true (length word) 12 size.1 }

plain_digit : (c : ℕ) → is_ascii_digit c ≡ true → is_plain c ≡ true
plain_digit c h = grind (arith, nat_tests)

plain_digits : (ds : List ℕ) → list_all is_ascii_digit ds ≡ true → list_all is_plain ds ≡ true
plain_digits [] h = refl
plain_digits (c ∷ cs) h =
    let parts = and_parts (is_ascii_digit c) (list_all is_ascii_digit cs) h in
    rw (plain_digit c parts.0, plain_digits cs parts.1) refl

pub decimal_token : (n : ℕ) → n < 65536 → IsToken (decimal n)
decimal_token n h =
    let numeral = decimal_is_IsNumeral n (omega (arith, h)) in
    record {
      some = numeral.0.0;
      plain = plain_digits (decimal n) (test_from_digits (decimal n) numeral.0.1);
      short = omega (arith, short n h);
    }

pub direction_token : (forward : Bool) → IsToken (direction_word forward)
direction_token true = keyword_token (codes "f") refl
direction_token false = keyword_token (codes "r") refl

pub state_token : (one : Bool) → IsToken (state_word one)
state_token true = keyword_token (codes "1") refl
state_token false = keyword_token (codes "0") refl

pub switch_token : (on : Bool) → IsToken (switch_word on)
switch_token true = keyword_token (codes "on") refl
switch_token false = keyword_token (codes "off") refl

-- a letter and a number
behind_letter : (letter n : ℕ) → is_plain letter ≡ true → n < 65536 → IsToken (letter ∷ decimal n)
behind_letter letter n plain h =
    let number = decimal_token n h in
    record {
      some = omega arith;
      plain = rw (plain, number.plain) refl;
      short = omega (arith, short n h);
    }

pub address_word_token : (to : Address) → IsToken (address_word to)
address_word_token Broadcast = keyword_token (codes "all") refl
address_word_token (Short s) = behind_letter 115 s.number refl (let range = s.in_range in omega (arith, range))
address_word_token (Long l) = behind_letter 108 l.number refl (let range = l.in_range in omega (arith, range))

pub group_token : (g : Group) → IsToken (group_word g)
group_token F0 = keyword_token (codes "0") refl
group_token F5 = keyword_token (codes "5") refl
group_token F9 = keyword_token (codes "9") refl
group_token F13 = keyword_token (codes "13") refl
group_token F21 = keyword_token (codes "21") refl
group_token F29 = keyword_token (codes "29") refl
group_token F37 = keyword_token (codes "37") refl
group_token F45 = keyword_token (codes "45") refl
group_token F53 = keyword_token (codes "53") refl
group_token F61 = keyword_token (codes "61") refl

all_from_test : (word : List ℕ) → list_all is_plain word ≡ true → All (λ b. is_plain b ≡ true) word
all_from_test [] h = All-nil (λ b. is_plain b ≡ true)
all_from_test (x ∷ xs) h =
    let parts = and_parts (is_plain x) (list_all is_plain xs) h in All-cons (λ b. is_plain b ≡ true) x xs parts.0
    (all_from_test xs parts.1)

hex_digit : (i : ℕ) → is_plain (get_or lower_digits i 0) ≡ true
hex_digit i =
    let table : All (λ b. is_plain b ≡ true) lower_digits = all_from_test lower_digits refl in
    elim (cases_lt i (length lower_digits)) [
      | inl lt ↦ table i 0 lt
      | inr ge ↦ rw (get_or_past lower_digits i 0 ge) refl
    ]

hex_is_plain : (bytes : List ℕ) → list_all is_plain (encode_lower bytes) ≡ true
unfolding encode_with
hex_is_plain [] = refl
hex_is_plain (b ∷ bs) = rw (hex_digit (b / 16), hex_digit (b % 16), hex_is_plain bs) refl

pub hex_token : (bytes : List ℕ) → 0 < length bytes → length bytes ≤ 6 → IsToken (encode_lower bytes)
hex_token bytes least most =
    let digits = length-encode_with lower_digits bytes in
    record { some = omega (arith, digits, least); plain = hex_is_plain bytes; short = omega (arith, digits, most) }
