-- The result of a request to the program.
use Rattle.std.specs.Prelude.{◌≡◌, ◌⊎◌, ◌↔◌, ℕ, List, Bool, true, false, Option, None, Some, Result, Ok, Err, IfSome}
use Rattle.std.specs.Prelude.{All, map}
use Rattle.dcc_packet.specs.declared.cv.CvNumber.{CvNumber}
use Rattle.dcc_packet.specs.declared.fault.PacketFault.TheVariants as faults
use Rattle.dcc_regs.specs.declared.register.Who.{Who}
use Rattle.dcc_regs.specs.declared.register.Who.TheVariants as who
use Rattle.dcc_regs.specs.Result.{RegisterMap}
use Rattle.dcc_regs.specs.Loco.{loco_registers}
use Rattle.dcc_regs.specs.Board.{board_registers}
use Rattle.dcc_regs.specs.LocoState.{loco_state_content}
use Rattle.dcc_regs.specs.BoardState.{board_state_content}
use Rattle.dcc_order.specs.declared.verdict.Verdict.{Verdict}
use Rattle.dcc_station.specs.Sending.{idle_sending}
use Rattle.dcc_io.specs.declared.fault.ToolFault.{ToolFault}
use Rattle.dcc_io.specs.declared.fault.ToolFault.TheVariants as told
use Rattle.dcc_io.specs.declared.fault.Usage.TheVariants as usages
use Rattle.dcc_saved.specs.declared.saved.Saved.{Saved}
use Rattle.dcc_saved.specs.declared.saved.Saved.TheVariants as saved
use Rattle.dcc_io.specs.Faults.{as_tool_fault}
use Rattle.dcc_io.specs.InputState.{InputState, ReadHasFailure}
use Rattle.dcc_io.specs.WriterState.{WriterState}
use Rattle.dcc_saved.specs.DecoderText.{decoder_text}
use Rattle.dcc_saved.specs.PossibleLines.{is_possible}
use Rattle.dcc_saved.specs.TextRead.{ReadsValue, UsedWholeLines}
use Rattle.dcc_saved.specs.TextReadOrNoMemory.{ReadFails}
use Rattle.dcc_capture.specs.Shown.{Shows}
use Rattle.dcc_listen.specs.LostListing.{ListsLost}
use Rattle.dcc_listen.specs.SpikedListing.{ListsSpiked}
use Rattle.dcc_listen.specs.PlainListing.{ShowsPlain}
use Rattle.dcc_listen.specs.Timed.{Times}
use Rattle.dcc_listen.specs.FleetRun.{Fleet, Runs}
use Rattle.dcc_listen.specs.ComparedBoth.{ComparesBoth}
use Rattle.dcc_send.specs.declared.encoding.Encode.{Encode}
use Rattle.dcc_send.specs.Encoded.{EncodesText}
use Rattle.dcc_send.specs.EncodeStation.{is_past_limits, has_begun}
use Rattle.dcc_send.specs.StationEncoded.{StationText}
use Rattle.dcc_send.specs.ProgrammingTrack.{first_cvs}
use Rattle.dcc_send.specs.ProgrammingTrackReading.{ReadsCv}
use Rattle.dcc_what.specs.Said.{WritesSentence}
use Rattle.dcc_tool.specs.declared.ending.Ending.{Ending}
use Rattle.dcc_tool.specs.declared.ending.Ending.TheVariants as ending
use Rattle.dcc_tool.specs.declared.performing.Request.{Request}
use Rattle.dcc_tool.specs.declared.performing.Request.TheVariants as request

-- the input and the output of the program
pub record Streams : Type 0 where
  -- the state of the input
  pub input : InputState
  -- the state of the writer
  pub writer : WriterState

-- the result is an error, or an ending without a verdict and without a value. The property `holds`
-- is true for this result.
abbrev pub Done : Result Ending ToolFault → (Result (Unit {0}) ToolFault → Type 0) → Type 0
Done (Ok ending.Done) holds = holds (Ok tt)
Done (Ok (ending.Verdict verdict)) holds = ⊥
Done (Ok (ending.Value value)) holds = ⊥
Done (Err fault) holds = holds (Err fault)

-- the result is an error, or an ending with a verdict. The property `holds` is true for this
-- result.
abbrev pub Judged : Result Ending ToolFault → (Result Verdict ToolFault → Type 0) → Type 0
Judged (Ok ending.Done) holds = ⊥
Judged (Ok (ending.Verdict verdict)) holds = holds (Ok verdict)
Judged (Ok (ending.Value value)) holds = ⊥
Judged (Err fault) holds = holds (Err fault)

-- the result is an error, or the ending of `readcv`, with or without a value. The property `holds`
-- is true for this result.
abbrev pub Valued : Result Ending ToolFault → (Result (Option ℕ) ToolFault → Type 0) → Type 0
Valued (Ok ending.Done) holds = ⊥
Valued (Ok (ending.Verdict verdict)) holds = ⊥
Valued (Ok (ending.Value value)) holds = holds (Ok value)
Valued (Err fault) holds = holds (Err fault)

-- if the input stores an error, `answer` is this error, and nothing was read or written. Otherwise
-- `fact` holds.
pub record KeptOr {A : Type 0} (old : Streams) (answer : Result A ToolFault) (new : Streams) (fact : Type 0) : Type 0
  where
    pub kept : IfSome old.input.fault (λ fault. (answer ≡ Err (as_tool_fault fault)) × (new ≡ old))
    pub cause : ReadHasFailure old.input.fault old.input.failures
    pub reads : old.input.fault ≡ None → fact

-- `show` has listed the capture, with packet lines if `words` is true, or `answer` is its error
abbrev pub ShowsCapture : Bool → Streams → Result (Unit {0}) ToolFault → Streams → Type 0
ShowsCapture words old answer new =
    KeptOr old answer new (Shows words old.input old.writer answer new.input new.writer)

-- `show_plain` has listed the capture in plain words, or `answer` is its error
abbrev pub ShowsCapturePlain : Streams → Result (Unit {0}) ToolFault → Streams → Type 0
ShowsCapturePlain old answer new = KeptOr old answer new (ShowsPlain old.input old.writer answer new.input new.writer)

-- `lost` has listed the packets that are lost in the capture, with packet lines if `words` is true,
-- or `answer` is its error
abbrev pub ListsLostOfCapture : Bool → Streams → Result (Unit {0}) ToolFault → Streams → Type 0
ListsLostOfCapture words old answer new =
    KeptOr old answer new (ListsLost words old.input old.writer answer new.input new.writer)

-- `lost_with_spikes` has listed the packets that are found in the joined half-bits of the capture, or
-- `answer` is its error. Half-bits shorter than `limit` are spikes.
abbrev pub ListsSpikedOfCapture : Bool → ℕ → Streams → Result (Unit {0}) ToolFault → Streams → Type 0
ListsSpikedOfCapture words limit old answer new =
    KeptOr old answer new (ListsSpiked words limit old.input old.writer answer new.input new.writer)

-- `timing` has written the statistics of the capture, or `answer` is its error
abbrev pub TimesCapture : Streams → Result (Unit {0}) ToolFault → Streams → Type 0
TimesCapture old answer new =
    KeptOr old answer new (Times old.input old.writer answer new.input new.writer)

-- `what` has written the sentence about the input, or `answer` is its error
abbrev pub SaysWhat : Streams → Result (Unit {0}) ToolFault → Streams → Type 0
SaysWhat old answer new = KeptOr old answer new (WritesSentence old.input old.writer answer new.input new.writer)

-- if the request `how` has no station, `encode` has written the encoding of the packet lines. If
-- the request has a station, `encode` has written the answers of this station.
pub record WritesPackets (how : Encode) (old : Streams) (answer : Result (Unit {0}) ToolFault) (new : Streams) : Type 0
  where
    pub packets : how.station ≡ None
        → EncodesText how old.input old.writer answer new.input new.writer
    pub station : IfSome how.station
        (λ sizes. StationText how (idle_sending sizes.0 sizes.1 sizes.2) old.input old.writer answer
        new.input new.writer)

-- if the request `how` has a station, `encode` creates this station before it reads or writes. If
-- the creation fails, `answer` is its error, and nothing was read or written.
pub record EncodesLines (how : Encode) (old : Streams) (answer : Result (Unit {0}) ToolFault) (new : Streams) : Type 0
  where
    pub past_limits : (answer ≡ Err (told.Usage usages.BadStation)) ↔ (is_past_limits how.station ≡ true)
    pub begins : how.station ≡ None → has_begun answer ≡ true
    pub nothing_done : has_begun answer ≡ false → new ≡ old
    pub encodes : has_begun answer ≡ true → KeptOr old answer new (WritesPackets how old answer new)

-- the decoder text at the beginning of the input contains `decoders`, and `new` is the input after
-- this text
pub record SavesThese (old : InputState) (decoders : List Saved) (new : InputState) : Type 0 where
  pub none_kept : old.fault ≡ None
  pub reads : ReadsValue decoder_text old (Ok decoders) new
  pub lines : UsedWholeLines old new
  pub possible : All (λ decoder. is_possible decoder ≡ true) decoders

-- if the input stores an error, `fault` is this error. Otherwise `fault` is the error of the
-- decoder text, or `fault` is U6 and an allocation failed. Nothing was written.
pub record TextFails (old : Streams) (fault : ToolFault) (new : Streams) : Type 0 where
  pub kept : IfSome old.input.fault (λ kept. (fault ≡ as_tool_fault kept) × (new.input ≡ old.input))
  pub cause : ReadHasFailure old.input.fault old.input.failures
  pub reads : old.input.fault ≡ None → ReadFails old.input fault new.input
  pub writer : new.writer ≡ old.writer

-- the identity and the registers of a decoder with this saved state
abbrev pub decoder_of : Saved → Who × RegisterMap
decoder_of (saved.Loco state) = (who.Loco state.address, loco_registers (loco_state_content state))
decoder_of (saved.Board state) = (who.Board state.board, board_registers (board_state_content state))

-- `decoders` have heard the capture in the remaining input `left`, and their decoder text was
-- written. If an allocation failed, nothing was written.
abbrev pub RunsDecoders : List Saved → InputState → Streams → Result (Unit {0}) ToolFault → Streams → Type 0
RunsDecoders decoders left old answer new =
    ((answer ≡ Err told.NoMemory) × (new.input ≡ left) × (new.writer ≡ old.writer))
    ⊎ ((ends : Fleet)
    × Runs (map decoder_of decoders) left old.writer answer ends new.input new.writer)

-- `run` has read the decoder text at the beginning of the input, and its decoders have heard the
-- capture after it. If the decoder text has an error, `answer` is this error.
abbrev pub RunsText : Streams → Result (Unit {0}) ToolFault → Streams → Type 0
RunsText old answer new =
    ((fault : ToolFault) × (answer ≡ Err fault) × TextFails old fault new)
    ⊎ ((decoders : List Saved) × (left : InputState) × SavesThese old.input decoders left
    × RunsDecoders decoders left old answer new)

-- `readcv` has read the value of `cv` from a decoder with the CVs `cvs`. If there is no decoder,
-- `answer` is the error P10 in the last line that was read.
abbrev pub ReadsOnTrack : Option (List ℕ) → CvNumber → Streams → Result (Option ℕ) ToolFault → Streams → Type 0
ReadsOnTrack None cv old answer new =
    (answer ≡ Err (told.Line new.input.lines faults.Word)) × (new.writer ≡ old.writer)
ReadsOnTrack (Some cvs) cv old answer new =
    ReadsCv (Some cvs) cv old.writer answer new.writer

-- `readcv` has read the decoder text, and the value of `cv` from its first locomotive decoder. If
-- the decoder text has an error, `answer` is this error.
abbrev pub ReadsFromText : CvNumber → Streams → Result (Option ℕ) ToolFault → Streams → Type 0
ReadsFromText cv old answer new =
    ((fault : ToolFault) × (answer ≡ Err fault) × TextFails old fault new)
    ⊎ ((decoders : List Saved) × SavesThese old.input decoders new.input
    × ReadsOnTrack (first_cvs decoders) cv old answer new)

-- `readcv` has asked its questions about `cv` on an empty track, and nothing was read from the
-- input
abbrev pub ReadsEmptyTrack : CvNumber → Streams → Result (Option ℕ) ToolFault → Streams → Type 0
ReadsEmptyTrack cv old answer new =
    (new.input ≡ old.input) × ReadsCv None cv old.writer answer new.writer

-- `readcv` has asked its questions about `cv`. If the first argument is true, the track is empty.
-- Otherwise the questions go to the first locomotive decoder of the decoder text.
abbrev pub ReadsTrack : Bool → CvNumber → Streams → Result (Option ℕ) ToolFault → Streams → Type 0
ReadsTrack true cv old answer new = ReadsEmptyTrack cv old answer new
ReadsTrack false cv old answer new = ReadsFromText cv old answer new

-- The operation of the subcommand of a request was executed, and `result` is its result.
abbrev pub Performs : Request → Streams → Result Ending ToolFault → Streams → Type 0
Performs (request.Show words) old result new = Done result (λ answer. ShowsCapture words old answer new)
Performs request.ShowPlain old result new = Done result (λ answer. ShowsCapturePlain old answer new)
Performs (request.Lost words) old result new = Done result (λ answer. ListsLostOfCapture words old answer new)
Performs (request.LostWithSpikes words limit) old result new =
    Done result (λ answer. ListsSpikedOfCapture words limit old answer new)
Performs (request.Encode how) old result new = Done result (λ answer. EncodesLines how old answer new)
Performs request.Run old result new = Done result (λ answer. RunsText old answer new)
Performs (request.Same who) old result new =
    Judged result
    (λ answer. ComparesBoth who old.input old.writer answer new.input new.writer)
Performs (request.ReadCv cv empty) old result new = Valued result (λ answer. ReadsTrack empty cv old answer new)
Performs request.Timing old result new = Done result (λ answer. TimesCapture old answer new)
Performs request.What old result new = Done result (λ answer. SaysWhat old answer new)
