-- The fields of packet lines are read back.
use Rattle.std.proofs.Common.{◌≡◌, ℕ, ◌<◌, Result, Ok, refl, arith}
use Rattle.std.specs.Fmt.{decimal}
use Rattle.dcc_packet.specs.declared.fault.PacketFault.{PacketFault}
use Rattle.dcc_packet.specs.Fields.{IsReadBack, one_number}
use Rattle.dcc_packet.specs.LineFields.{no_fields, address_field, board_field, output_field, signal_field, switch_field}
use Rattle.dcc_packet.specs.LineFields.{switch_of, direction_field, direction_of, bit_field, bit_word_of, small_field}
use Rattle.dcc_packet.specs.LineFields.{number_field, speed28_field, speed128_field, functions_field, state_field}
use Rattle.dcc_packet.specs.LineFields.{cv_field, place_field}
use Rattle.dcc_packet.specs.LineWords.{◌>>=◌, address, address_word, number, small_number, direction_word, state_word}
use Rattle.dcc_packet.specs.LineWords.{switch_word}
use Rattle.dcc_packet.proofs.FieldsBack.{one_word_back}
use Rattle.dcc_packet.proofs.Tokens.{address_word_token, decimal_token, direction_token, group_token, state_token}
use Rattle.dcc_packet.proofs.Tokens.{switch_token}
use Rattle.dcc_packet.proofs.UpTo.{board_back, output_back, signal_back, speed28_back, speed128_back, cv_back}
use Rattle.dcc_packet.proofs.UpTo.{functions_back, state_number_back, place_back}
use Rattle.dcc_packet.proofs.WordsBack.{address_back, direction_back, group_back, number-decimal}
use Rattle.dcc_packet.proofs.WordsBack.{small_number-decimal, state_back, switch_back}
use Rattle.dcc_packet.proofs.WrittenWords.{group_is_byte}

-- a field of one number up to 65535, and one of a number up to 255
number_back : {A : Type 0} (make : ℕ → Result A PacketFault) (number_of : A → ℕ)
    → ((x : A) → make (number_of x) ≡ Ok x) → ((x : A) → number_of x < 65536)
    → IsReadBack (one_number number make number_of)
number_back make number_of back small =
    one_word_back (λ word. number word >>= make) (λ x. decimal (number_of x))
    (λ x. rw (number-decimal (number_of x) (small x), back x) refl) (λ x. decimal_token (number_of x) (small x))

small_back : {A : Type 0} (make : ℕ → Result A PacketFault) (number_of : A → ℕ)
    → ((x : A) → make (number_of x) ≡ Ok x) → ((x : A) → number_of x < 256)
    → IsReadBack (one_number small_number make number_of)
small_back make number_of back small =
    one_word_back (λ word. small_number word >>= make) (λ x. decimal (number_of x))
    (λ x. rw (small_number-decimal (number_of x) (small x), back x) refl)
    (λ x. decimal_token (number_of x) (let few = small x in omega arith))

pub nothing_is_back : IsReadBack no_fields
nothing_is_back = record { back = λ x rest h. refl; tokens = λ x h. tt }

pub address_is_back : IsReadBack address_field
address_is_back = one_word_back address address_word address_back address_word_token

pub board_is_back : IsReadBack board_field
board_is_back = number_back _ _ board_back (λ board. omega arith)

pub output_is_back : IsReadBack output_field
output_is_back = small_back _ _ output_back (λ output. omega arith)

pub signal_is_back : IsReadBack signal_field
signal_is_back = number_back _ _ signal_back (λ signal. omega arith)

pub switch_is_back : IsReadBack switch_field
switch_is_back =
    one_word_back switch_of (λ switch. switch_word switch.on) (λ switch. rw (switch_back switch.on) refl)
    (λ switch. switch_token switch.on)

pub direction_is_back : IsReadBack direction_field
direction_is_back =
    one_word_back direction_of (λ direction. direction_word direction.forward)
    (λ direction. rw (direction_back direction.forward) refl) (λ direction. direction_token direction.forward)

pub bit_is_back : IsReadBack bit_field
bit_is_back =
    one_word_back bit_word_of (λ side. state_word side.one) (λ side. rw (state_back side.one) refl)
    (λ side. state_token side.one)

pub small_is_back : IsReadBack small_field
small_is_back =
    record {
      back = λ n rest h. rw (small_number-decimal n h) refl;
      tokens = λ n h. (decimal_token n (omega (arith, h)), tt);
    }

pub number_is_back : IsReadBack number_field
number_is_back =
    record { back = λ n rest h. rw (number-decimal n h) refl; tokens = λ n h. (decimal_token n h, tt) }

pub speed28_is_back : IsReadBack speed28_field
speed28_is_back = small_back _ _ speed28_back (λ speed. omega arith)

pub speed128_is_back : IsReadBack speed128_field
speed128_is_back = small_back _ _ speed128_back (λ speed. omega arith)

pub functions_are_back : IsReadBack functions_field
functions_are_back =
    record {
      back = λ f rest h.
          let byte : f.bits < 256 = omega (arith, group_is_byte f.group, f.in_range) in
          rw (group_back f.group, small_number-decimal f.bits byte, functions_back f) refl;
      tokens = λ f h.
          (group_token f.group, (decimal_token f.bits (omega (arith, group_is_byte f.group, f.in_range)), tt));
    }

pub state_is_back : IsReadBack state_field
state_is_back = small_back _ _ state_number_back (λ state. omega arith)

pub cv_is_back : IsReadBack cv_field
cv_is_back = number_back _ _ cv_back (λ cv. omega arith)

pub place_is_back : IsReadBack place_field
place_is_back = small_back _ _ place_back (λ place. omega arith)
