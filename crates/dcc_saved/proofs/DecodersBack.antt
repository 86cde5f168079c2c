-- Decoders are read again, each behind its first line and up to the first line of the next, and so are fleets.
use Rattle.std.proofs.Common.{◌≡◌, ℕ, ◌<◌, ◌≤◌, List, [], ◌∷◌, ◌++◌, length, Ok, refl, arith, append_assoc}
use Rattle.std.proofs.Common.{zero, suc, ◌+◌, ap}
use Rattle.std.specs.List.{AllByRecursion, flat_map}
use Rattle.std.proofs.lemmas.List.{append-nil}
use Rattle.dcc_packet.proofs.BitLemmas.{byte_of-lt}
use Rattle.dcc_regs.specs.declared.register.Who.{Who}
use Rattle.dcc_regs.specs.declared.register.Register.TheVariants as registers
use Rattle.dcc_regs.specs.declared.register.Who.TheVariants as who
use Rattle.dcc_regs.specs.Loco.{holds_one, cv_held}
use Rattle.dcc_regs.specs.Result.{RegisterMap}
use Rattle.dcc_saved.specs.declared.saved.Saved.{Saved}
use Rattle.dcc_saved.specs.declared.decoder_line.Head.{Head}
use Rattle.dcc_saved.specs.declared.saved.Saved.TheVariants as saved
use Rattle.dcc_saved.specs.declared.decoder_line.Head.TheVariants as heads
use Rattle.dcc_saved.specs.declared.decoder_line.Numbered.TheVariants as kinds
use Rattle.dcc_saved.specs.declared.decoder_line.Version.TheVariants as versions
use Rattle.dcc_saved.specs.DecoderLines.{version_line, head_line, speed_line, numbers_line, pending_line}
use Rattle.dcc_saved.specs.DecoderLines.{positions_line, aspects_line}
use Rattle.dcc_saved.specs.DecoderText.{decoder_lines, loco_lines, board_lines, decoders_from, decoder_text}
use Rattle.dcc_saved.specs.FleetText.{lines_behind, before_cvs, written_speed, written_numbers, written_positions}
use Rattle.dcc_saved.specs.FleetText.{text_of, fleet_text}
use Rattle.dcc_saved.specs.Lines.{line_text}
use Rattle.dcc_saved.specs.PossibleLines.{IsPossibleHead}
use Rattle.dcc_saved.specs.ReadBack.{Saves, IsPossibleDecoder, line_feeds, SavesEach, FleetsAreReadBack}
use Rattle.dcc_saved.specs.TextReader.{done}
use Rattle.dcc_saved.proofs.CvsBack.{cvs_read}
use Rattle.dcc_saved.proofs.LinesBack.{Reads, Reads-then, Reads-last, line_back, at}
use Rattle.dcc_saved.proofs.MapsBack.{speed_is, pending_is, no_state_0, loco_state, same_loco, aspects_small}
use Rattle.dcc_saved.proofs.MapsBack.{board_state}
use Rattle.dcc_saved.proofs.MapsBack.{same_board}
use Rattle.dcc_saved.proofs.NumbersBack.{numbers_fit, numbers_line_back}
use Rattle.dcc_saved.proofs.PendingBack.{pending_line_back}
use Rattle.dcc_saved.proofs.RowsBack.{version_line_back, head_line_back, speed_line_back, loco_line_back}
use Rattle.dcc_saved.proofs.RowsBack.{positions_line_back, aspects_line_back}

-- what the first line of a fleet behind the version says
abbrev next_head : List (Who × RegisterMap) → Head
next_head [] = heads.End
next_head (decoder ∷ fleet) = heads.Decoder decoder.0

head_fits : (fleet : List (Who × RegisterMap)) → AllByRecursion IsPossibleDecoder fleet
    → IsPossibleHead (next_head fleet)
head_fits [] possible = tt
head_fits (decoder ∷ fleet) possible = possible.0.decoder

-- a decoder that its lines save, and the first line behind them
record ReadsDecoder (decoder : Who × RegisterMap) (head : Head) : Type 0 where
  state : Saved
  reads : Reads (decoder_lines versions.Two decoder.0) (lines_behind decoder.0 decoder.1 ++ line_text head_line head)
      (state, head)
  saves : Saves state decoder

decoder_read : (decoder : Who × RegisterMap) (head : Head) → IsPossibleDecoder decoder → IsPossibleHead head
    → ReadsDecoder decoder head
unfolding loco_lines board_lines
decoder_read (who.Loco address, m) head possible fits =
    let speed = speed_is address {v = m registers.Speed} (possible.registers registers.Speed) in
    let pending = pending_is address {v = m registers.Pending} (possible.registers registers.Pending) in
    let functions = numbers_fit kinds.Function m (λ is. absurd cc) in
    let states = numbers_fit kinds.State m (λ is. no_state_0 address m possible) in
    let bytes : (cv : ℕ) → cv_held m cv < 256 = λ cv. byte_of-lt (λ place. holds_one (m (registers.CvBit cv place))) in
    let cvs = cvs_read (cv_held m) bytes loco_line_back head fits in
    record {
      state = saved.Loco (loco_state address m possible cvs);
      reads =
          rw (
            append_assoc (before_cvs address m),
            append_assoc (written_speed m),
            append_assoc (written_numbers kinds.Function m),
            append_assoc (written_numbers kinds.State m),
          )
          (Reads-then _ (line_back speed_line speed_line_back _ (speed.1, tt))
          (Reads-then _ (line_back (numbers_line kinds.Function) (numbers_line_back kinds.Function) _ functions)
          (Reads-then _ (line_back (numbers_line kinds.State) (numbers_line_back kinds.State) _ states)
          (Reads-then _ (line_back (pending_line address) (pending_line_back address) _ pending.1)
          (Reads-last _ cvs.reads (λ text. refl))))));
      saves = (refl, same_loco address m possible cvs);
    }
decoder_read (who.Board board, m) head possible fits =
    let outs = numbers_fit kinds.Out m (λ is. absurd cc) in
    let small = aspects_small board m possible in
    record {
      state = saved.Board (board_state board m possible);
      reads =
          rw (append_assoc (written_numbers kinds.Out m), append_assoc (written_positions m))
          (Reads-then _ (line_back (numbers_line kinds.Out) (numbers_line_back kinds.Out) _ outs)
          (Reads-then _ (line_back positions_line positions_line_back _ (tt, (tt, (tt, tt))))
          (Reads-then _ (line_back aspects_line aspects_line_back _ (small 0, (small 1, (small 2, small 3))))
          (Reads-last _ (line_back head_line head_line_back head fits) (λ text. refl)))));
      saves = (refl, same_board board m possible);
    }

-- the lines of a fleet behind the first line of its first decoder
abbrev rest_of : List (Who × RegisterMap) → List ℕ
rest_of [] = []
rest_of (decoder ∷ fleet) = (lines_behind decoder.0 decoder.1 ++ line_text head_line (next_head fleet)) ++ rest_of fleet

fleet_is : (fleet : List (Who × RegisterMap))
    → flat_map text_of fleet ++ line_text head_line heads.End ≡ line_text head_line (next_head fleet) ++ rest_of fleet
fleet_is [] = refl
fleet_is (decoder ∷ fleet) =
    rw (
      append_assoc (text_of decoder) (flat_map text_of fleet) (line_text head_line heads.End),
      fleet_is fleet,
      append_assoc (line_text head_line (heads.Decoder decoder.0)) (lines_behind decoder.0 decoder.1),
      append_assoc (lines_behind decoder.0 decoder.1),
    ) refl

-- the decoders from here on
record ReadsDecoders (fleet : List (Who × RegisterMap)) (room : ℕ) (before : List Saved) : Type 0 where
  states : List Saved
  reads : Reads (decoders_from versions.Two room before (next_head fleet)) (rest_of fleet) (before ++ states)
  saves : SavesEach states fleet

no_more : (before : List Saved) → Reads (done before) [] (before ++ [])
no_more before =
    record { gives = λ n more. rw (append-nil before) (ap (λ k. Ok (before, at k more)) (omega arith)) }

decoders_read : (fleet : List (Who × RegisterMap)) (room : ℕ) (before : List Saved) → length fleet ≤ room
    → AllByRecursion IsPossibleDecoder fleet → ReadsDecoders fleet room before
decoders_read [] zero before few possible = record { states = []; reads = no_more before; saves = tt }
decoders_read [] (suc room) before few possible = record { states = []; reads = no_more before; saves = tt }
decoders_read (decoder ∷ fleet) zero before few possible = absurd (omega (arith, few))
decoders_read (decoder ∷ fleet) (suc room) before few possible =
    let one = decoder_read decoder (next_head fleet) possible.0 (head_fits fleet possible.1) in
    let more = decoders_read fleet room (before ++ one.state ∷ []) (omega (arith, few)) possible.1 in
    record {
      states = one.state ∷ more.states;
      reads = Reads-then _ one.reads (rw (append_assoc before (one.state ∷ []) more.states) at more.reads);
      saves = (one.saves, more.saves);
    }

pub fleets_read_back : FleetsAreReadBack
unfolding decoder_text
fleets_read_back fleet line rest few possible =
    let version = line_back version_line version_line_back versions.Two tt in
    let head = line_back head_line head_line_back (next_head fleet) (head_fits fleet possible) in
    let all = decoders_read fleet 64 [] few possible in
    let reads : Reads decoder_text (fleet_text fleet) all.states = rw (fleet_is fleet)
    (Reads-then _ version (Reads-then _ head all.reads)) in
    record {
      states = all.states;
      behind = line + line_feeds (fleet_text fleet);
      reads = reads.gives line rest;
      saves = all.saves;
      lines = refl;
    }
