-- Bytes that were read of an input, one step after the other.
use Rattle.std.proofs.Common.{◌≡◌, ℕ, ◌+◌, ◌-◌, ◌<◌, List, [], ◌∷◌, ◌++◌, length, take, Bool, true}
use Rattle.std.proofs.Common.{false, nat_le, Option, None, Some, refl, sym, ap, ◌∙◌, arith, rules, append_assoc}
use Rattle.std.proofs.Common.{length-append, cond, IfSome, IsSomeAnd, inl, inr}
use Rattle.std.proofs.Math.Seq.{take-append-add}
use Rattle.std.proofs.lemmas.List.{append-nil}
use Rattle.std.proofs.lemmas.Bool.{cases_Bool, leb-false}
pub use Rattle.std.proofs.lemmas.Bool.{lt-leb as not_within}
use Rattle.std.proofs.lemmas.Bool.Decides.{nat_tests}
use Rattle.std.specs.Io.KnownBytes.{Keeps}
use Rattle.dcc_io.specs.declared.fault.KeptFault.{KeptFault}
use Rattle.dcc_io.specs.declared.fault.KeptFault.TheVariants.{Read, TooMuch}
use Rattle.dcc_io.specs.TextPlace.{lines_with}
use Rattle.dcc_io.specs.Failures.{one_more}
use Rattle.dcc_io.specs.InputState.{InputState, all_lines, lines_up_to, FailsToRead, HasMoreBytes}
use Rattle.dcc_io.specs.Took.{CountsLines, Uses, Took, within_limit, FailsBehind, OverflowsBehind, Stops, LinesAt}

-- a fact of the text, in other words
pub if_some_map : (P Q : List ℕ → Type 0) (text : Option (List ℕ)) → ((bytes : List ℕ) → P bytes → Q bytes)
    → IfSome text P → IfSome text Q
if_some_map P Q None each fact = tt
if_some_map P Q (Some bytes) each fact = each bytes fact

pub if_some_all : (P : List ℕ → Type 0) (text : Option (List ℕ)) → ((bytes : List ℕ) → P bytes) → IfSome text P
if_some_all P None all = tt
if_some_all P (Some bytes) all = all bytes

pub if_some_both : {P Q R : List ℕ → Type 0} (text : Option (List ℕ)) → IfSome text P → IfSome text Q
    → ((bytes : List ℕ) → P bytes → Q bytes → R bytes) → IfSome text R
if_some_both None fact other both = tt
if_some_both (Some bytes) fact other both = both bytes fact other

-- what holds of the text and its rest
abbrev pub Both : Option (List ℕ) → Option (List ℕ) → (List ℕ → List ℕ → Type 0) → Type 0
Both whole rest P = IfSome whole (λ text. IsSomeAnd rest (λ more. P text more))

-- what holds of the text, told of it and its rest
pub map_text : (P : List ℕ → List ℕ → Type 0) (R : List ℕ → Type 0) (whole rest : Option (List ℕ))
    → ((text more : List ℕ) → P text more → R text) → IfSome whole (λ text. IsSomeAnd rest (λ more. P text more))
    → IfSome whole R
map_text P R (Some text) (Some more) each before = each text more before
map_text P R whole rest each before = search rules

-- what holds of the text and its rest, in other words
map_both : {P R : List ℕ → List ℕ → Type 0} (whole rest : Option (List ℕ)) → Both whole rest P
    → ((text more : List ℕ) → P text more → R text more) → Both whole rest R
map_both (Some text) (Some more) before each = each text more before
map_both whole rest before each = search rules

-- told with a fact of the rest
both_with : {P R : List ℕ → List ℕ → Type 0} {Q : List ℕ → Type 0} (whole rest : Option (List ℕ)) → Both whole rest P
    → IfSome rest Q → ((text more : List ℕ) → P text more → Q more → R text more) → Both whole rest R
both_with (Some text) (Some more) before fact each = each text more before fact
both_with whole rest before fact each = search rules

-- of what is kept of the rest
both_kept : (P : List ℕ → List ℕ → Type 0) (whole rest new : Option (List ℕ)) → Both whole rest P → Keeps rest new
    → Both whole new P
both_kept P (Some text) (Some more) (Some same) before kept = rw kept before
both_kept P whole rest new before kept = search rules

-- what holds of a text and its rest, and of that rest and its own
join_both : {P Q R : List ℕ → List ℕ → Type 0} (whole mid rest : Option (List ℕ)) → Both whole mid P → Both mid rest Q
    → ((text between more : List ℕ) → P text between → Q between more → R text more) → Both whole rest R
join_both (Some text) (Some between) (Some more) before behind each = each text between more before behind
join_both whole mid rest before behind each = search rules

-- and of that rest alone
join_whole : {P : List ℕ → List ℕ → Type 0} {Q R : List ℕ → Type 0} (whole mid : Option (List ℕ)) → Both whole mid P
    → IfSome mid Q → ((text between : List ℕ) → P text between → Q between → R text) → IfSome whole R
join_whole (Some text) (Some between) before behind each = each text between before behind
join_whole whole mid before behind each = search rules

pub zero_fits : (most : ℕ) → nat_le 0 most ≡ true
zero_fits most = grind (arith, nat_tests)

-- what is said either way
pub same_cond : {A : Type 0} (b : Bool) (x : A) → cond b x x ≡ x
same_cond true x = refl
same_cond false x = refl

-- behind a byte that more follows, its line is the last that was used
pub lines_with-some : (lines line : ℕ) (rest : List ℕ) → 0 < length rest → lines_with lines line rest ≡ line
lines_with-some lines line [] some = absurd (omega arith)
lines_with-some lines line (byte ∷ rest) some = refl

-- and before the last byte too, where it was so before
pub lines_with-same : (line : ℕ) (rest : List ℕ) → lines_with line line rest ≡ line
lines_with-same line [] = refl
lines_with-same line (byte ∷ rest) = refl

-- nothing was read yet
pub Took-start : {P : List ℕ → Type 0} (input : InputState) → input.fault ≡ None → P [] → Took P input input
Took-start {P = P} input fault none =
    record { text = go input.text; bytes = omega arith; fault = fault; failures = refl }
  where
    go : (text : Option (List ℕ)) → Both text text (Uses P input input)
    go None = tt
    go (Some text) = record {
      used = [];
      whole = refl;
      is = none;
      bytes = omega arith;
      room = λ some. absurd (omega arith);
      lines = refl;
      counts = λ some next more. refl;
    }

abbrev with_left : InputState → ℕ → InputState
with_left input left = record input { halves = left }

-- another fact of the same bytes, told with what the end of the text tells, and another count of halves
pub Took-told : {P Q : List ℕ → Type 0} {old new : InputState} (K : Type 0) (left : ℕ) → Took P old new
    → IfSome new.text (λ rest. K) → ((used : List ℕ) → K → P used → Q used) → Took Q old (with_left new left)
Took-told {old = old} {new = new} K left took told each = record {
  text = both_with old.text new.text took.text told (λ text rest uses k. record {
    used = uses.used;
    whole = uses.whole;
    is = each uses.used k uses.is;
    bytes = uses.bytes;
    room = uses.room;
    lines = uses.lines;
    counts = uses.counts;
  });
  bytes = took.bytes;
  fault = took.fault;
  failures = took.failures;
}

pub Took-counted : {P Q : List ℕ → Type 0} {old new : InputState} (left : ℕ) → Took P old new
    → ((used : List ℕ) → P used → Q used) → Took Q old (with_left new left)
Took-counted {new = new} left took each =
    Took-told (Unit {0}) left took (if_some_all _ new.text (λ rest. tt)) (λ used k. each used)

pub Took-map : {P Q : List ℕ → Type 0} {old new : InputState} → Took P old new → ((used : List ℕ) → P used → Q used)
    → Took Q old new
Took-map {new = new} took each = Took-counted new.halves took each

-- what may be taken of a text that is longer, told of its rest
cut_behind : {P : List ℕ → Type 0} {old mid : InputState} {text rest : List ℕ} (uses : Uses P old mid text rest)
    → mid.bytes < length rest
    → (old.bytes < length text) × (take (old.bytes - 1) text ≡ uses.used ++ take (mid.bytes - 1) rest)
cut_behind {old = old} {mid = mid} {text = text} {rest = rest} uses longer =
    let whole : length text ≡ length uses.used + length rest = ap length uses.whole ∙ length-append uses.used rest in
    let none : 0 < length uses.used → mid.bytes ≡ 0 → length rest ≡ 0 =
    λ some empty. ap length (uses.room some empty) in
    let count : old.bytes - 1 ≡ length uses.used + (mid.bytes - 1) = let total = uses.bytes in grind arith in
    (omega (arith, uses.bytes), rw (count, uses.whole) (take-append-add uses.used rest (mid.bytes - 1)))

-- a read failed behind bytes that were read, with the lines of those
pub fails_to_read : {P Q : List ℕ → Type 0} {old now new : InputState} → Took P old now → FailsToRead now new
    → ((used : List ℕ) → P used → Q used) → FailsBehind Q old new × (new.fault ≡ Some Read) × LinesAt old Read new
fails_to_read {old = old} {now = now} {new = new} took fails each = (
  (
    fails.failures ∙ ap one_more took.failures,
    fails.ahead,
    both_kept _ old.text now.text new.text
        (map_both old.text now.text took.text (λ text rest uses. (uses.used, uses.whole, each uses.used uses.is)))
        fails.text,
  ),
  fails.fault,
  both_kept _ old.text now.text new.text
      (both_with old.text now.text took.text fails.more (λ text rest uses some. record {
        used = uses.used;
        whole = uses.whole;
        more = some;
        lines = fails.lines ∙ uses.counts some 10 [];
      })) fails.text,
)

-- behind bytes that were read, more are left than may be taken
pub has_too_many : {P Q : List ℕ → Type 0} {old now new : InputState} → Took P old now → HasMoreBytes now new
    → ((used : List ℕ) → P used → Q used)
    → OverflowsBehind Q old new × (new.fault ≡ Some TooMuch) × LinesAt old TooMuch new
has_too_many {Q = Q} {old = old} {now = now} {new = new} took has_more each = (
  (has_more.failures ∙ took.failures, if_some_map _ _ old.text (λ text over. (over.0, over.1.0)) over),
  has_more.fault,
  if_some_map _ _ old.text (λ text over. (over.0, over.1.1)) over,
)
  where
    over : IfSome old.text (λ text. (old.bytes < length text) × (Q (take (old.bytes - 1) text)
        × (new.lines ≡ lines_up_to old (take (old.bytes - 1) text))))
    over = join_whole old.text now.text took.text has_more.text (λ text more uses longer.
        let cut = cut_behind uses longer in
        let all : now.bytes - 1 ≡ 0 = let few = has_more.bytes in omega arith in
        let front : take (old.bytes - 1) text ≡ uses.used = cut.1 ∙ rw all (append-nil uses.used) in (
          cut.0,
          rw front (each uses.used uses.is, has_more.lines ∙ uses.counts (omega arith) 10 []),
        ))

-- the lines of bytes, and then of those behind them, before something else
counts_on : (old mid : InputState) (front back : List ℕ) → CountsLines old front mid → (next : ℕ) (more : List ℕ)
    → all_lines mid (back ++ next ∷ more) ≡ all_lines old ((front ++ back) ++ next ∷ more)
counts_on old mid front [] first next more = rw (append-nil front) (first next more)
counts_on old mid front (byte ∷ back) first next more =
    rw (append_assoc front (byte ∷ back) (next ∷ more)) (first byte (back ++ next ∷ more))

some_before : (front rest : List ℕ) → 0 < length rest → 0 < length (front ++ rest)
some_before front rest some = simp length-append (omega arith)

room_of : (p q y z : List ℕ) (bytes left : ℕ) → y ≡ q ++ z → left + length q ≡ bytes
    → (0 < length p → bytes ≡ 0 → y ≡ []) → (0 < length q → left ≡ 0 → z ≡ [])
    → 0 < length (p ++ q) → left ≡ 0 → z ≡ []
room_of p [] y z bytes left whole total first second some none =
    sym whole ∙ first (rw (append-nil p) at some) (omega (arith, total, none))
room_of p (x ∷ q) y z bytes left whole total first second some none = second (omega arith) none

module _ {P : List ℕ → Type 0} {old mid : InputState} (front : Took P old mid) where
  -- what was read, and then what was read behind it
  pub Took-join : {Q R : List ℕ → Type 0} {new : InputState} → Took Q mid new
      → ((first second : List ℕ) → P first → Q second → R (first ++ second)) → Took R old new
  Took-join {new = new} back each = record {
    text = join_both old.text mid.text new.text front.text back.text (λ text between rest a b. record {
      used = a.used ++ b.used;
      whole = rw (a.whole, b.whole) (sym (append_assoc a.used b.used rest));
      is = each a.used b.used a.is b.is;
      bytes = simp length-append (omega (arith, a.bytes, b.bytes));
      room = room_of a.used b.used between rest mid.bytes new.bytes b.whole b.bytes a.room b.room;
      lines = b.lines ∙ a.lines;
      counts = λ some next more. b.counts some next more
          ∙ counts_on old mid a.used b.used (a.counts (rw b.whole (some_before b.used rest some))) next more;
    });
    bytes = omega (arith, front.bytes, back.bytes);
    fault = back.fault;
    failures = back.failures ∙ front.failures;
  }

  -- what holds of the text, told of its rest
  pub told_behind : (Q R : List ℕ → Type 0)
      → ((text rest : List ℕ) → Uses P old mid text rest → Q rest → R text) → IfSome mid.text Q → IfSome old.text R
  told_behind Q R each rest = join_whole _ _ front.text rest each

  -- a read failed behind what was read
  pub fails_behind : (Q R : List ℕ → Type 0) (new : InputState) → FailsBehind Q mid new
      → ((first second : List ℕ) → P first → Q second → R (first ++ second)) → FailsBehind R old new
  fails_behind Q R new fails each = (
    fails.0 ∙ ap one_more front.failures,
    fails.1,
    join_both old.text mid.text new.text front.text fails.2 (λ text between rest a b. (
      a.used ++ b.0,
      rw (a.whole, b.1) (sym (append_assoc a.used b.0 rest)),
      each a.used b.0 a.is b.2,
    )),
  )

  -- the lines that were used when a fault came, told from further back
  pub LinesAt-behind : (new : InputState) (fault : KeptFault) → LinesAt mid fault new → LinesAt old fault new
  LinesAt-behind new Read lines =
      join_both old.text mid.text new.text front.text lines (λ text between rest a b. record {
        used = a.used ++ b.used;
        whole = rw (a.whole, b.whole) (sym (append_assoc a.used b.used rest));
        more = b.more;
        lines = b.lines ∙ counts_on old mid a.used b.used (a.counts (rw b.whole (some_before b.used rest b.more))) 10
            [];
      })
  LinesAt-behind new TooMuch lines = told_behind (λ text. (mid.bytes < length text) × _) _ (λ text rest uses over.
      let cut = cut_behind uses over.0 in
      (cut.0, rw cut.1 (over.1 ∙ counts_on old mid uses.used _ (uses.counts (omega (arith, over.0))) 10 []))) lines
  LinesAt-behind new fault lines = told_behind _ _ (λ text rest uses same. same) lines

  -- what stops the rest stops the whole
  pub Stops-behind : (F G Q R : List ℕ → Type 0) (new : InputState) (fault : KeptFault) → Stops F Q mid fault new
      → ((first second : List ℕ) → P first → F second → G (first ++ second))
      → ((text rest : List ℕ) → Uses P old mid text rest → Q rest → R text)
      → Stops G R old fault new
  Stops-behind F G Q R new Read stops fails says = fails_behind F G new stops fails
  Stops-behind F G Q R new fault stops fails says = (stops.0 ∙ front.failures, told_behind Q R says stops.1)

-- what stops an input, in other words
pub Stops-map : (F G Q R : List ℕ → Type 0) (old new : InputState) (fault : KeptFault) → Stops F Q old fault new
    → ((used : List ℕ) → F used → G used) → ((text : List ℕ) → Q text → R text) → Stops G R old fault new
Stops-map F G Q R old new Read stops fails says = (
  stops.0,
  stops.1,
  map_both old.text new.text stops.2
      (λ text rest behind. (behind.0, behind.1, fails behind.0 behind.2)),
)
Stops-map F G Q R old new fault stops fails says = (stops.0, if_some_map Q R old.text says stops.1)

-- what is said of the bytes that may be taken, where there are more
pub overflows : {A : Type 0} (P : List ℕ → Type 0) (said : List ℕ → Option KeptFault → A) (x : A)
    (old new : InputState) → OverflowsBehind P old new → ((used : List ℕ) → P used → said used (Some TooMuch) ≡ x)
    → (new.failures ≡ old.failures) × IfSome old.text (λ text. within_limit said old text ≡ x)
overflows P said x old new over each = (
  over.0,
  if_some_map _ _ old.text
      (λ text more. rw (not_within (length text) old.bytes more.0) (each (take (old.bytes - 1) text) more.1)) over.1,
)

-- what is said of bytes that may all be taken, whatever follows them
pub within_limit-front : {A : Type 0} (old : InputState) (said : List ℕ → Option KeptFault → A) (x : A)
    (text front rest : List ℕ) → text ≡ front ++ rest → length front < old.bytes
    → ((more : List ℕ) (last : Option KeptFault) → said (front ++ more) last ≡ x) → within_limit said old text ≡ x
within_limit-front old said x text front rest whole fits each =
    let left = old.bytes - 1 - length front in
    let count : old.bytes - 1 ≡ length front + left = omega arith in
    let cut : take (old.bytes - 1) text ≡ front ++ take left rest =
    ap (λ n. take n text) count ∙ rw whole (take-append-add front rest left) in
    elim (cases_Bool (nat_le (length text) old.bytes)) [
      | inl within ↦ rw (within, whole) (each rest None)
      | inr above ↦ rw (above, cut) (each _ (Some TooMuch))
    ]

-- what is said of the text, told of its rest
pub within_limit-used : {A : Type 0} {P : List ℕ → Type 0} (old new : InputState)
    (said rest_said : List ℕ → Option KeptFault → A) (text rest : List ℕ) (uses : Uses P old new text rest)
    → ((more : List ℕ) (last : Option KeptFault) → said (uses.used ++ more) last ≡ rest_said more last)
    → within_limit said old text ≡ within_limit rest_said new rest
within_limit-used old new said rest_said text rest uses each =
    let total : length text ≡ length uses.used + length rest = ap length uses.whole ∙ length-append uses.used rest in
    let bytes = uses.bytes in
    let test : nat_le (length text) old.bytes ≡ nat_le (length rest) new.bytes = grind (arith, nat_tests) in
    rw test (elim (cases_Bool (nat_le (length rest) new.bytes)) [
      | inl within ↦ rw (within, uses.whole) (each rest None)
      | inr above ↦ rw (above, (cut_behind uses (leb-false _ _ above)).1) (each _ (Some TooMuch))
    ])

-- what is said of the text whatever follows what was read
pub within_limit-stops : {A : Type 0} {P : List ℕ → Type 0} {old mid : InputState}
    (said : List ℕ → Option KeptFault → A)
    (x : A) → Took P old mid
    → ((used more : List ℕ) (last : Option KeptFault) → P used → said (used ++ more) last ≡ x)
    → IfSome old.text (λ text. within_limit said old text ≡ x)
within_limit-stops {P = P} {old = old} {mid = mid} said x took each =
    map_text (Uses P old mid) _ old.text mid.text (λ text rest uses.
    within_limit-used old mid said (λ more last. x) text rest uses (λ more last. each uses.used more last uses.is)
    ∙ same_cond (nat_le (length rest) mid.bytes) x) took.text
