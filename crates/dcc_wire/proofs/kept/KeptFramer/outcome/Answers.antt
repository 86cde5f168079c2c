use Rattle.std.proofs.Common.{◌≡◌, ◌≢◌, Bool, None, Some, true, false, sym, ◌∙◌, arith}
use Rattle.dcc_wire.specs.declared.half.Half.{Half}
use Rattle.dcc_wire.specs.declared.seen.Fault.TheVariants.{BadHalf, SplitBit}
use Rattle.dcc_wire.specs.declared.seen.Seen.TheVariants.{Nothing, Refused}
use Rattle.dcc_wire.specs.Half.{bit_of}
use Rattle.dcc_wire.specs.Inner.Steps.{answer_to}
use Rattle.dcc_wire.specs.Kept.{Kept, IsKept, kept_rest}
use Rattle.dcc_wire.specs.Packed.{IsPacked}
use Rattle.dcc_wire.specs.Inner.OutcomeParts.{by_bits}
use Rattle.dcc_wire.proofs.KeptLemmas.{shows_in_body, bad_answer, split_answer, whole_answer, shows_no_room}
use Rattle.dcc_wire.proofs.kept.KeptFramer.outcome.Goals as goal
use mathlib.Core.Bool.{beq, not}

bad : {k : Kept} (is : IsKept k) (half : Half) → bit_of half ≡ None → answer_to (kept_rest k) half ≢ Nothing
    → answer_to (kept_rest k) half ≡ Refused BadHalf
bad {k} is half none shows = bad_answer is (shows_in_body k half shows) half none

packed : {k : Kept} (is : IsKept k) (half : Half) → answer_to (kept_rest k) half ≢ Nothing
    → IsPacked k.bytes k.xor k.count k.shift
packed {k} is half shows = is.packed (shows_in_body k half shows)

split_bit : {k : Kept} (is : IsKept k) (half : Half) (bit : Bool) → bit_of half ≡ Some bit
    → answer_to (kept_rest k) half ≢ Nothing → not (beq k.first bit) ≡ true → answer_to (kept_rest k) half
    ≡ Refused SplitBit
split_bit {k} is half bit of shows e =
    let in_body = shows_in_body k half shows in
    split_answer is in_body half bit of (shows_no_room is in_body half bit of shows) (grind arith)

whole_bit : {k : Kept} (is : IsKept k) (half : Half) (bit : Bool) → bit_of half ≡ Some bit
    → answer_to (kept_rest k) half ≢ Nothing → not (beq k.first bit) ≡ false
    → answer_to (kept_rest k) half ≡ (by_bits (k.bytes, bit)).1
whole_bit {k} is half bit of shows e =
    let in_body = shows_in_body k half shows in
    whole_answer is in_body half bit of (shows_no_room is in_body half bit of shows) (grind arith)

pub returns-in_default : goal.returns-in_default
returns-in_default c =
    let shows = rw (← c.self.view_is) at c.requires in
    rw (← c.self.view_is)
    (sym (bad c.self.invariant c.args.half (sym c.bit.ensures ∙ c.in_default.is) shows))

pub returns-then-first-bit : goal.returns-then-first-bit
returns-then-first-bit c =
    let shows = rw (← c.self.view_is) at c.requires in
    rw (← c.self.view_is)
    (sym (split_bit c.self.invariant c.args.half c.in-Some.bit (sym c.bit.ensures ∙ c.in-Some.is) shows
    c.if-first-bit.true))

pub returns-then-not-bit : goal.returns-then-not-bit
unfolding by_bits
returns-then-not-bit c =
    let shows = rw (← c.self.view_is) at c.requires in
    let whole =
    whole_bit c.self.invariant c.args.half c.in-Some.bit (sym c.bit.ensures ∙ c.in-Some.is) shows c.if-first-bit.false
    in
    rw (← c.self.view_is) (sym (rw c.if-not-bit.true at whole))

pub at_end_bit-requires : goal.at_end_bit-requires
at_end_bit-requires c =
    let shows = rw (← c.self.view_is) at c.requires in
    (packed c.self.invariant c.args.half shows).exclusive_or

pub returns : goal.returns
unfolding by_bits
returns c =
    let shows = rw (← c.self.view_is) at c.requires in
    let whole =
    whole_bit c.self.invariant c.args.half c.in-Some.bit (sym c.bit.ensures ∙ c.in-Some.is) shows c.if-first-bit.false
    in
    rw (← c.self.view_is) (c.at_end_bit.ensures ∙ sym (rw c.if-not-bit.false at whole))
