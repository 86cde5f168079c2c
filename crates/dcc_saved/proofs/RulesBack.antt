-- The words that are written for a decoder are read again.
use Rattle.std.proofs.Common.{◌≡◌, ℕ, ◌<◌, ◌≤◌, true, false, ◌&&◌, eqb, nat_le, List, [], ◌∷◌, ◌++◌, codes}
use Rattle.std.proofs.Common.{length, Option, None, Some, Ok, refl, arith}
use Rattle.std.specs.Fmt.{decimal}
use Rattle.std.specs.List.{AllByRecursion}
use Rattle.std.proofs.lemmas.Bool.{and_parts, le-ltb, leb-true}
use Rattle.std.proofs.lemmas.Bool.Decides.{nat_tests}
use Rattle.dcc_packet.specs.declared.address.Address.{Address}
use Rattle.dcc_packet.specs.declared.address.Address.TheVariants.{Broadcast, Short, Long}
use Rattle.dcc_packet.specs.Fields.{FieldOf, IsToken, IsReadBack}
use Rattle.dcc_packet.specs.Words.{Word}
use Rattle.dcc_packet.proofs.FieldsBack.{one_word_back, both_back}
use Rattle.dcc_packet.proofs.Tokens.{address_word_token, keyword_token, decimal_token}
use Rattle.dcc_packet.proofs.LineFieldsBack.{board_is_back}
use Rattle.dcc_packet.proofs.WordsBack.{small_number-decimal, address_back}
use Rattle.dcc_regs.specs.declared.register.Speed.{Speed}
use Rattle.dcc_regs.specs.declared.register.Speed.TheVariants.{Stop, Emergency, Step14, Step28, Step126}
use Rattle.dcc_regs.specs.Addresses.{is_active}
use Rattle.dcc_regs.specs.Loco.{is_speed}
use Rattle.dcc_saved.specs.declared.decoder_line.Version.TheVariants as versions
use Rattle.dcc_saved.specs.DecoderLines.{version_number, version_word, version_field, own_address, own_board_field}
use Rattle.dcc_saved.specs.DecoderLines.{own_address_word, own_address_field, step_words, speed_of, speed_words}
use Rattle.dcc_saved.specs.DecoderLines.{speed_field, four}

pub version_is_back : IsReadBack version_field
version_is_back =
    one_word_back version_number version_word (elim [ versions.One ↦ refl | versions.Two ↦ refl ])
    (elim [ versions.One ↦ keyword_token (codes "1") refl | versions.Two ↦ keyword_token (codes "2") refl ])

own_address_back : (a : Option Address) → is_active a ≡ true
    → (own_address (own_address_word a) ≡ Ok a) × IsToken (own_address_word a)
own_address_back None h = (refl, keyword_token (codes "none") refl)
own_address_back (Some Broadcast) h = cc
own_address_back (Some (Short s)) h = (rw (address_back (Short s)) refl, address_word_token (Short s))
own_address_back (Some (Long l)) h = (rw (address_back (Long l)) refl, address_word_token (Long l))

pub own_address_is_back : IsReadBack own_address_field
own_address_is_back =
    record {
      back = λ own rest h. rw (own_address_back own.address h).0 refl;
      tokens = λ own h. ((own_address_back own.address h).1, tt);
    }

not_511 : (n : ℕ) → nat_le n 510 ≡ true → eqb n 511 ≡ false
not_511 n h = grind (arith, nat_tests)

pub own_board_is_back : IsReadBack own_board_field
own_board_is_back =
    record {
      back = λ own rest h. rw (board_is_back.back own.board rest tt, not_511 own.board.number h) refl;
      tokens = λ own h. board_is_back.tokens own.board tt;
    }

-- the words of a speed that has a step
step_back : (name : Word) (step : ℕ → Speed) (last n : ℕ) → last < 256 → IsToken name
    → (nat_le 1 n && nat_le n last) ≡ true
    → ((rest : List Word) → step_words step last (decimal n ∷ rest) ≡ Ok (step n, rest))
    × AllByRecursion IsToken (name ∷ decimal n ∷ []) × (length (name ∷ decimal n ∷ []) ≤ 2)
step_back name step last n small token h =
    let parts = and_parts (nat_le 1 n) (nat_le n last) h in
    let least = leb-true 1 n parts.0 in
    let most = leb-true n last parts.1 in (
      λ rest. rw (small_number-decimal n (omega arith), le-ltb n 1 least, le-ltb last n most) refl,
      (token, (decimal_token n (omega arith), tt)),
      omega arith,
    )

-- the one or two words of a speed
pub speed_back : (speed : Speed) → is_speed speed ≡ true
    → ((rest : List Word) → speed_of (speed_words speed ++ rest) ≡ Ok (speed, rest))
    × AllByRecursion IsToken (speed_words speed) × (length (speed_words speed) ≤ 2)
speed_back Stop h = (λ rest. refl, (keyword_token (codes "stop") refl, tt), omega arith)
speed_back Emergency h = (λ rest. refl, (keyword_token (codes "emergency") refl, tt), omega arith)
speed_back (Step14 n) h = step_back (codes "14") (λ k. Step14 k) 14 n (omega arith) (keyword_token (codes "14") refl) h
speed_back (Step28 n) h = step_back (codes "28") (λ k. Step28 k) 28 n (omega arith) (keyword_token (codes "28") refl) h
speed_back (Step126 n) h =
    step_back (codes "126") (λ k. Step126 k) 126 n (omega arith) (keyword_token (codes "126") refl) h

pub speed_is_back : IsReadBack speed_field
speed_is_back =
    record {
      back = λ saved rest h. rw ((speed_back saved.speed h).0 rest) refl;
      tokens = λ saved h. (speed_back saved.speed h).1;
    }

pub four_back : {A : Type 0} (field : FieldOf A) → IsReadBack field → IsReadBack (four field)
four_back field back =
    both_back field _ back (both_back field _ back (both_back field field back back))
