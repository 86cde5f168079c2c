-- The lines of a decoder text, read one after the other.
use Rattle.std.proofs.Common.{zero, suc, ◌≡◌, ℕ, ◌+◌, ◌-◌, ◌<◌, List, [], ◌∷◌, ◌++◌, length, Some, Err, refl, sym}
use Rattle.std.proofs.Common.{arith, inr}
use Rattle.dcc_io.specs.declared.fault.KeptFault.{KeptFault}
use Rattle.dcc_io.specs.declared.fault.KeptFault.TheVariants.{Number, TooMuch}
use Rattle.dcc_io.specs.Faults.{as_tool_fault}
use Rattle.dcc_saved.specs.TextReadOrNoMemory.{ReadFails}
use Rattle.dcc_saved.specs.declared.saved.Saved.{Saved}
use Rattle.dcc_saved.specs.declared.decoder_line.Head.TheVariants as heads
use Rattle.dcc_io.specs.InputState.{InputState}
use Rattle.dcc_saved.specs.TextReader.{Reader, ◌>>=◌, done, stop_at_decoder}
use Rattle.dcc_saved.specs.TextReader.Stop.{cut}
use Rattle.dcc_saved.specs.TextRead.{at, ContinuesAs, Leads, ReadsValue, StopsAtDecoder, UsedWholeLines}
use Rattle.dcc_regs.specs.declared.register.Who.{Who}
use Rattle.dcc_saved.specs.declared.decoder_line.Version.{Version}
use Rattle.dcc_saved.specs.DecoderText.{decoder_lines, decoders_from, decoder_text}
use Rattle.dcc_io.proofs.TookLemmas.{map_text}
use Rattle.dcc_saved.proofs.ReadLemmas.{told_by}

-- where there is room for one more
pub one_more : (version : Version) (before : List Saved) (who : Who) → length before < 64
    → decoders_from version (64 - length before) before (heads.Decoder who)
    ≡ (decoder_lines version who
    >>= λ decoder. decoders_from version (63 - length before) (before ++ decoder.0 ∷ []) decoder.1)
one_more version before who some =
    let room : 64 - length before ≡ suc (63 - length before) = omega arith in rw room refl

pub no_more : (version : Version) (room : ℕ) (before : List Saved)
    → decoders_from version room before heads.End ≡ done before
no_more version zero before = refl
no_more version (suc room) before = refl

-- some bytes were used where the reader does not go on as from no bytes
whole_line : {rest : Reader (List Saved)} {old new : InputState} (bytes : List ℕ)
    → ContinuesAs decoder_text old rest new bytes
    → (rest (at new []) ≡ Err (cut old.place.line) → ⊥) → new.lines + 1 ≡ new.place.line
unfolding decoder_text
whole_line [] goes more = absurd (more (sym (goes.goes_on [])))
whole_line (byte ∷ bytes) goes more = goes.last (omega arith)

-- whole lines were read where the reader does not go on as from no bytes
pub whole_lines : {rest : Reader (List Saved)} {old new : InputState} → Leads decoder_text old rest new
    → (rest (at new []) ≡ Err (cut old.place.line) → ⊥) → UsedWholeLines old new
unfolding decoder_text
whole_lines {rest = rest} {old = old} {new = new} leads more =
    map_text _ (λ text. new.lines + 1 ≡ new.place.line) old.text new.text
    (λ text behind uses. whole_line uses.used uses.is more) leads.text

-- a decoder too many
pub too_many_decoders : (old now : InputState) → Leads decoder_text old stop_at_decoder now
    → ReadsValue decoder_text old (Err TooMuch) (record now { fault = Some TooMuch })
too_many_decoders old now leads = (
  (
    leads.failures,
    told_by decoder_text old now (Err TooMuch) leads.took
        (λ used more last goes. rw goes.goes_on refl),
  ),
  refl,
  inr (map_text _ (λ text. StopsAtDecoder (decoder_text (at old text)) (now.lines + 1)) old.text now.text
      (λ text behind uses. rw (uses.whole, uses.is.goes_on behind) (whole_line uses.used uses.is (λ same. cc)))
      leads.text),
)

-- the fault of a text, as it is told
pub fault_is_told : (old new : InputState) (fault : KeptFault) → ReadsValue decoder_text old (Err fault) new
    → ReadFails old (as_tool_fault fault) new
fault_is_told old new (Number line) h = absurd h.0
fault_is_told old new fault h = h
