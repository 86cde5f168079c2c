use Rattle.std.proofs.Common.{◌≡◌, ◌≤◌, ◌-◌, true, All, length, vec_len, vec_capacity}
use Rattle.dcc_saved.specs.DecoderText.{decoder_text, decoders_from}
use Rattle.dcc_saved.specs.PossibleLines.{IsPossibleHead, is_possible}
use Rattle.dcc_saved.specs.TextRead.{Leads}
use Rattle.dcc_saved.proofs.saved_decoders.fill.Given as goal

abbrev pub invariant-decoders : goal.invariant-decoders
invariant-decoders g l = record {
  leads : Leads decoder_text l.fn.input
      (decoders_from l.version (64 - length l.decoders.items) l.decoders.items l.head) l.input;
  head : IsPossibleHead l.head;
  few : length l.decoders.items ≤ 64;
  room : 64 ≤ vec_capacity l.decoders;
  possible : All (λ decoder. is_possible decoder ≡ true) l.decoders.items;
}

abbrev pub decreases-decoders : goal.decreases-decoders
decreases-decoders g l = 64 - vec_len l.decoders
