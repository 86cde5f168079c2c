-- What a call of `what` has read and written.
use Rattle.std.proofs.Common.{◌≡◌, ℕ, List, ◌∙◌, Ok, Err, ap, subst}
use Rattle.std.specs.Io.KnownBytes.{Appends}
use Rattle.dcc_io.specs.declared.fault.ToolFault.TheVariants.{Write}
use Rattle.dcc_io.specs.AllBytes.{GivesAllBytes}
use Rattle.dcc_io.specs.Failures.{HasRisen}
use Rattle.dcc_io.specs.InputState.{InputState}
use Rattle.dcc_io.specs.WriterState.{WriterState}
use Rattle.dcc_io.specs.WrittenBytes.{AppendsFront}
use Rattle.dcc_io.proofs.TookLemmas.{if_some_map}
use Rattle.dcc_what.specs.Said.{ReadWhole, WritesSentence}
use Rattle.dcc_what.specs.Sentences.{what_text}

module _ (old new : InputState) (before after : WriterState) (bytes text : List ℕ) (gives : GivesAllBytes old bytes new)
    (is : text ≡ what_text bytes) where
  read_all : ReadWhole old new
  read_all = record {
    at_end = gives.at_end;
    lines = gives.lines;
    halves = gives.halves;
    fault = gives.fault;
    failures = gives.failures;
  }

  -- all was written
  pub says : Appends before.contents after.contents text × (after.failures ≡ before.failures)
      → WritesSentence old before (Ok tt) new after
  says wrote = (
    (
      read_all,
      if_some_map _ _ old.text (λ whole same. subst (λ (l : List ℕ). Appends before.contents after.contents l)
          (is ∙ ap what_text same) wrote.0) gives.bytes_are,
    ),
    wrote.1,
  )

  -- a write failed
  pub says_in_part : AppendsFront before after text × HasRisen before.failures after.failures
      → WritesSentence old before (Err Write) new after
  says_in_part wrote = (
    (
      read_all,
      if_some_map _ _ old.text
          (λ whole same. subst (λ (l : List ℕ). AppendsFront before after l) (is ∙ ap what_text same) wrote.0)
          gives.bytes_are,
    ),
    wrote.1,
  )
