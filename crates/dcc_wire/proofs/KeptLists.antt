-- Half-bits of a body that a framer takes, which is kept as plain numbers.
use Rattle.std.proofs.Common.{◌≡◌, ℕ, Bool, true, false, List, ◌++◌, None, map, refl, sym, ap}
use Rattle.std.proofs.Common.{◌∙◌, append-nil}
use Rattle.std.proofs.Common.{subst}
use Rattle.dcc_wire.specs.Bodies.{halves_of, first_half}
use Rattle.dcc_wire.specs.Framing.{InBody}
use Rattle.dcc_wire.specs.Half.{class_of}
use Rattle.dcc_wire.specs.Kept.{Kept, IsKept, kept_rest}
use Rattle.dcc_wire.specs.Outcomes.{bytes_in, outcome_of}
use Rattle.dcc_wire.specs.Packed.{IsPacked, packed_bits}
use Rattle.dcc_wire.specs.Passes.{PassesBody}
use Rattle.dcc_wire.proofs.BitLemmas.{halves_of-append}
use Rattle.dcc_wire.proofs.HistoryLemmas.{HasHistory}
use Rattle.dcc_wire.proofs.ListLemmas.{history_list, passes_body}
use Rattle.dcc_wire.proofs.OpenBodies.{body_open}
use Rattle.dcc_wire.proofs.PackedLemmas.{packed_open}
use Rattle.dcc_wire.proofs.PassedBits.{AddsBits}

-- a framer in a body that has taken whole bits alone
pub record HasWholeBits (k : Kept) : Type 0 where
  pub in_body : k.in_body ≡ true
  pub whole : k.has_first ≡ false

abbrev pub bits_kept : Kept → List Bool
bits_kept k = packed_bits k.bytes k.count k.shift

rest_of_bits : (k : Kept) → HasWholeBits k → kept_rest k ≡ InBody (halves_of (bits_kept k))
unfolding first_half
rest_of_bits k has = rw (has.in_body, has.whole, append-nil) refl

pub passes_bits : (old new : Kept) (halves : List ℕ) → HasWholeBits old → HasWholeBits new
    → bytes_in 6 (bits_kept new) ≡ None → AddsBits (bits_kept old) halves (bits_kept new)
    → PassesBody (kept_rest old) halves (kept_rest new)
unfolding first_half
passes_bits old new halves has has_new unfinished adds =
    let longer : halves_of (bits_kept new) ≡ halves_of (bits_kept old) ++ map class_of halves =
    rw (adds.2, halves_of-append, adds.1) refl in
    record {
      body = halves_of (bits_kept old);
      before = rest_of_bits old has;
      after = rest_of_bits new has_new ∙ ap InBody longer;
      unfinished = ap outcome_of (sym longer) ∙ ap outcome_of (sym (append-nil (halves_of (bits_kept new))))
          ∙ body_open (bits_kept new) None unfinished;
    }

pub kept_on : {old : Kept} (new : Kept) (halves : List ℕ) → IsKept old → HasWholeBits old → HasWholeBits new
    → IsPacked new.bytes new.xor new.count new.shift → AddsBits (bits_kept old) halves (bits_kept new)
    → IsKept new
kept_on {old} new halves is has has_new packed adds =
    let passes = passes_bits old new halves has has_new (packed_open packed) adds in
    record {
      packed = λ in_it. packed;
      unfinished = λ in_it. packed_open packed;
      history = subst HasHistory (sym passes.after)
          (history_list (passes_body passes.body halves passes.unfinished)
          (subst HasHistory passes.before is.history));
    }
