-- One write after another.
use Rattle.std.proofs.Common.{if◌then◌else◌, ◌≡◌, ℕ, ◌-◌, ◌<◌, length-drop, List, [], ◌++◌, length, take, drop, sym}
use Rattle.std.proofs.Common.{arith, append_assoc}
use Rattle.std.proofs.lemmas.List.{take-append-drop, length-take}
use Rattle.std.proofs.lemmas.Bool.Decides.{nat_tests}
use Rattle.std.specs.Io.KnownBytes.{Appends}
use Rattle.std.proofs.KnownBytes.{Appends-nil, Appends-trans}
use Rattle.dcc_io.specs.Failures.{one_more, moves_on, HasRisen}
use Rattle.dcc_io.specs.WriterState.{WriterState}
use Rattle.dcc_io.specs.WrittenBytes.{AppendsFront}

pub Appends-none : (before : WriterState) → Appends before.contents before.contents []
Appends-none before = Appends-nil before.contents

pub Appends-append : (before mid after : WriterState) (xs ys : List ℕ) → Appends before.contents mid.contents xs
    → Appends mid.contents after.contents ys → Appends before.contents after.contents (xs ++ ys)
Appends-append before mid after xs ys first second =
    Appends-trans before.contents mid.contents after.contents xs ys first second

pub HasRisen-one_more : (n : ℕ) → HasRisen n (one_more n)
HasRisen-one_more n = λ below. grind (arith, nat_tests)

-- so many of the bytes were written
pub front_of : {before after : WriterState} (bytes : List ℕ) (done : ℕ)
    → Appends before.contents after.contents (take done bytes) → AppendsFront before after bytes
front_of bytes done wrote = record {
  front = take done bytes;
  rest = drop done bytes;
  whole = sym (take-append-drop done bytes);
  written = wrote;
}

-- a write that took a byte is none that counts
pub taken_some : (n count : ℕ) (bytes : List ℕ) → (count ≡ 0 → ⊥) → (if moves_on count bytes then n else one_more n) ≡ n
taken_some n count bytes some = grind (arith, nat_tests)

-- one that took none of some bytes counts
pub taken_none : (n : ℕ) (bytes : List ℕ) → 0 < length bytes → (if moves_on 0 bytes then n else one_more n) ≡ one_more n
taken_none n bytes some = grind (arith, nat_tests)

-- what is left to write, while some is
pub some_left : (bytes : List ℕ) (done : ℕ) → done < length bytes
    → 0 < length (take (length bytes - done) (drop done bytes))
some_left bytes done more = simp (length-take, length-drop) (omega arith)

-- what was written, and a front of what comes
pub front_behind : (before mid after : WriterState) (bytes more : List ℕ) → Appends before.contents mid.contents bytes
    → AppendsFront mid after more → AppendsFront before after (bytes ++ more)
front_behind before mid after bytes more first second = record {
  front = bytes ++ second.front;
  rest = second.rest;
  whole = rw second.whole (sym (append_assoc bytes second.front second.rest));
  written = Appends-append before mid after bytes second.front first second.written;
}

-- a front of these bytes is one of more bytes too
pub AppendsFront-more : (before after : WriterState) (bytes more : List ℕ) → AppendsFront before after bytes
    → AppendsFront before after (bytes ++ more)
AppendsFront-more before after bytes more front = record {
  front = front.front;
  rest = front.rest ++ more;
  whole = rw front.whole (append_assoc front.front front.rest more);
  written = front.written;
}
