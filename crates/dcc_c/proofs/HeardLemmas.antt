-- A locomotive decoder that hears a packet.
use Rattle.std.proofs.Common.{◌≡◌, ℕ, ◌-◌, ◌^◌, ◌<◌, ◌≤◌, Bool, true, false, List, [], length, refl, sym, ◌∙◌, ap}
use Rattle.std.proofs.Common.{take, ◌++◌}
use Rattle.std.proofs.Common.{arith, inl, inr}
use Rattle.std.specs.Prelude.{Option, None, Some, IfSome, unwrap_or, if◌then◌else◌}
use Rattle.std.specs.Bool.{Decides}
use Rattle.std.proofs.lemmas.Bool.Decides.{Decides-like, Decides-ltb, nat_tests}
use Rattle.dcc_wire.specs.declared.frame.FrameFault.{FrameFault}
use Rattle.dcc_wire.specs.declared.frame.FrameFault.TheVariants.{Length, XorNotZero}
use Rattle.dcc_wire.specs.Frames.{IsFrame, frame_fault, with_error_byte}
use Rattle.dcc_packet.specs.declared.address.Address.{Address}
use Rattle.dcc_packet.specs.declared.address.Address.TheVariants.{Broadcast, Short, Long}
use Rattle.dcc_packet.specs.declared.instruction.What.{What}
use Rattle.dcc_packet.specs.declared.instruction.What.TheVariants.{CvWrite, CvBitWrite}
use Rattle.dcc_packet.specs.declared.packet.Packet.{Packet}
use Rattle.dcc_packet.specs.declared.packet.Packet.TheVariants.{Idle, Loco, Accessory, Signal, Other}
use Rattle.dcc_packet.specs.Bits.{is_one}
use Rattle.dcc_packet.specs.Cvs.{cv_in}
use Rattle.dcc_packet.specs.Rows.{address_bytes, instruction_bytes}
use Rattle.dcc_packet.specs.Spelling.{BytesFit, ValueFits, spelling}
use Rattle.dcc_packet.proofs.FrameParts.{frame_parts, same_bytes}
use Rattle.dcc_packet.proofs.OneSpelling.{one_packet}
use Rattle.dcc_packet.proofs.FrameSpellings.{spellings_are_frames}
use Rattle.dcc_regs.specs.declared.loco_registers.LocoRegisters.{LocoRegisters}
use Rattle.dcc_regs.specs.declared.loco_state.LocoState.{LocoState}
use Rattle.dcc_regs.specs.declared.register.SpeedMode.{SpeedMode}
use Rattle.dcc_regs.specs.declared.register.Speed.{Speed}
use Rattle.dcc_regs.specs.declared.register.Value.TheVariants.{Flag, Pending as PendingValue}
use Rattle.dcc_regs.specs.Heard.{hears}
use Rattle.dcc_regs.specs.Loco.{is_byte_write, is_speed, writes_byte}
use Rattle.dcc_regs.specs.LocoState.{is_state, loco_map, loco_state_content, loco_who}
use Rattle.dcc_regs.specs.LocoRegisters.{registers_in, with_cvs}
use Rattle.dcc_regs.specs.Result.{is_effective, mode_of}
use Rattle.dcc_regs.specs.Setting.{left_pending}
use Rattle.dcc_regs.specs.Speeds.{direction_set, speed_set}
use Rattle.dcc_regs.specs.Writes.{bit_set, is_cv_write, is_own_write}
use Rattle.dcc_regs.proofs.LocoStep.{Obeys, mode_held, pending-heard, step-heard, step-unheard}
use Rattle.dcc_regs.proofs.PossibleLemmas.{of_parts, parts_of, speed_kept, states_kept}
use Rattle.dcc_regs.proofs.RegisterStep.{kept-after}
use Rattle.dcc_regs.proofs.SameWrites.{effective_by}
use Rattle.dcc_regs.proofs.WritesInParts.{own_is_cv_write}
use Rattle.dcc_c.specs.declared.frame.DccFrame.{DccFrame}
use Rattle.dcc_c.specs.declared.loco_numbers.DccLoco.{DccLoco}
use Rattle.dcc_c.specs.declared.loco_numbers.DccLocoRegisters.{DccLocoRegisters}
use Rattle.dcc_c.specs.Applied.{HasApplied}
use Rattle.dcc_c.specs.Inner.HeardLocos.{AppliesHeard, AreSet, registers_with}
use Rattle.dcc_c.specs.Frames.{bytes_of, frame_numbers}
use Rattle.dcc_c.specs.KeptPacketLaw.{bytes_back}
use Rattle.dcc_c.specs.Locos.{HasAddress, loco_numbers, pending_numbers, register_numbers, speed_mode, speed_step}
use Rattle.dcc_c.specs.Locos.{words_of}

-- bytes that are a frame have no error
pub no_frame_fault : (bytes : List ℕ) (fault : FrameFault) → IsFrame bytes → frame_fault bytes fault → ⊥
no_frame_fault bytes Length valid (inl few) = let least = valid.least in omega arith
no_frame_fault bytes Length valid (inr many) = let most = valid.most in omega arith
no_frame_fault bytes XorNotZero valid wrong = let zero = valid.error_byte in let some = wrong.2 in omega arith

-- frames with the same structure are the same
pub same_frame : (one other : List ℕ) → frame_numbers one ≡ frame_numbers other → one ≡ other
same_frame one other e = sym (bytes_back one) ∙ ap bytes_of e ∙ bytes_back other

-- an own write has bytes that fit
instruction_fits : (what : What) → is_cv_write what ≡ true → writes_byte what ≡ true → ValueFits what
instruction_fits (CvWrite cv value) own byte = grind (arith, nat_tests)
instruction_fits (CvBitWrite cv place one) own byte = tt
instruction_fits what own byte = absurd (cc)

own_fits : (p : Packet) → is_own_write p ≡ true → is_byte_write p ≡ true → BytesFit p
own_fits Idle own byte = tt
own_fits (Loco Broadcast what) own byte = absurd (cc)
own_fits (Loco (Short to) what) own byte = instruction_fits what (own_is_cv_write (Short to) what own) byte
own_fits (Loco (Long to) what) own byte = instruction_fits what (own_is_cv_write (Long to) what own) byte
own_fits (Accessory board output on) own byte = tt
own_fits (Signal address aspect) own byte = absurd (cc)
own_fits (Other other) own byte = absurd (cc)

pub own_is_frame : (p : Packet) → is_own_write p ≡ true → is_byte_write p ≡ true → IsFrame (spelling p)
own_is_frame p own byte = spellings_are_frames p (own_fits p own byte)

-- a packet that is not sent to locomotives
abbrev pub IsNoLoco : Packet → Type 0
IsNoLoco p = (to : Address) (what : What) → p ≡ Loco to what → ⊥

pub no_loco_no_write : (p : Packet) → IsNoLoco p → is_own_write p ≡ false
no_loco_no_write (Loco to what) none = absurd (none to what refl)
no_loco_no_write p none = refl

pub no_loco_byte : (p : Packet) → IsNoLoco p → is_byte_write p ≡ true
no_loco_byte (Loco to what) none = absurd (none to what refl)
no_loco_byte p none = refl

-- what `read_loco` says of the packet of a frame
pub loco_read : (to : Address) (what : What) (frame : List ℕ) → IsFrame frame
    → address_bytes to ++ instruction_bytes what ≡ take (length frame - 1) frame → spelling (Loco to what) ≡ frame
loco_read to what frame valid e = ap with_error_byte e ∙ sym (frame_parts frame valid)

pub no_loco_read : (p : Packet) (frame : List ℕ) → IsFrame frame → spelling p ≡ frame
    → ((to : Address) (what : What) → address_bytes to ++ instruction_bytes what ≡ take (length frame - 1) frame → ⊥)
    → IsNoLoco p
no_loco_read p frame valid e none to what is =
    none to what
    (same_bytes (address_bytes to ++ instruction_bytes what) (take (length frame - 1) frame)
    (ap spelling (sym is) ∙ e ∙ frame_parts frame valid))

-- whether a write takes effect is told by the structure of the pending write
pub effective_by_numbers : (held : Option Packet) (p : Packet) (pending : DccFrame) (frame : List ℕ) (r : Bool)
    → IsFrame frame → spelling p ≡ frame → pending ≡ pending_numbers held → is_own_write p ≡ true
    → Decides r (pending ≡ frame_numbers frame) → r ≡ is_effective (Some (PendingValue held)) p
effective_by_numbers None p pending frame r valid e is own d = none_is r d
  where
    none_is : (r : Bool) → Decides r (pending ≡ frame_numbers frame) → r ≡ is_effective (Some (PendingValue None)) p
    none_is true d =
        let empty : [] ≡ frame = same_frame [] frame (sym is ∙ d.0 refl) in
        let none : 0 ≡ length frame = ap length empty in
        let least = valid.least in
        absurd (omega arith)
    none_is false d = rw own refl
effective_by_numbers (Some before) p pending frame r valid e is own d =
    effective_by (Some before) before p r refl own
    (Decides-like r (λ same. one_packet before p (same_frame (spelling before) frame (sym is ∙ same) ∙ sym e))
    (λ same. is ∙ ap frame_numbers (ap spelling same ∙ e)) d)

-- a packet that is not the pending write takes no effect
pub not_effective : (held : Option Packet) (p : Packet) (pending : DccFrame) (frame : List ℕ) → IsFrame frame
    → spelling p ≡ frame → pending ≡ pending_numbers held → (pending ≡ frame_numbers frame → ⊥)
    → is_effective (Some (PendingValue held)) p ≡ false
not_effective held p pending frame valid spelled e other = by_own (is_own_write p) refl
  where
    by_own : (t : Bool) → is_own_write p ≡ t → is_effective (Some (PendingValue held)) p ≡ false
    by_own true own =
        sym (effective_by_numbers held p pending frame false valid spelled e own
        (λ t. absurd (cc), λ same. absurd (other same)))
    by_own false own = rw own refl

-- the state after a packet that the decoder hears
abbrev pub state_of : LocoState → Speed → Bool → ℕ → ℕ → Option Packet → List ℕ → LocoState
state_of before speed forward functions states pending cvs = record {
  address = before.address;
  speed = speed;
  forward = forward;
  functions = functions;
  states = states;
  pending = pending;
  cvs = cvs;
}

pub state_is_possible : (packet : Packet) (mode : SpeedMode) (before : LocoState) (speed : Speed) (forward : Bool)
    (functions states : ℕ) (pending : Option Packet) (cvs : List ℕ) → is_state before ≡ true
    → hears (loco_who before) packet ≡ true → is_byte_write packet ≡ true
    → IfSome (speed_set mode packet) (λ s. is_speed s ≡ true) → functions < 2 ^ 69
    → Obeys packet mode (loco_state_content before) (loco_state_content
    (state_of before speed forward functions states pending cvs))
    → is_state (state_of before speed forward functions states pending cvs) ≡ true
state_is_possible packet mode before speed forward functions states pending cvs was heard byte step small o =
    let parts = parts_of before was in
    of_parts (state_of before speed forward functions states pending cvs)
    (record {
      active = parts.active;
      speed = speed_kept (speed_set mode packet) before.speed speed step parts.speed o.speed;
      functions = (Decides-ltb functions (2 ^ 69)).1 small;
      states = states_kept packet before.states states (o.states 0 (omega arith)) parts.states;
      pending = pending-heard before.address packet pending heard byte o.pending;
    })

pub state_has_applied : (packet : Packet) (mode : SpeedMode) (before : LocoState) (speed : Speed) (forward : Bool)
    (functions states : ℕ) (pending : Option Packet) (cvs : List ℕ) → hears (loco_who before) packet ≡ true
    → Obeys packet mode (loco_state_content before) (loco_state_content
    (state_of before speed forward functions states pending cvs))
    → HasApplied packet (loco_who before) (loco_map before)
    (loco_who (state_of before speed forward functions states pending cvs))
    (loco_map (state_of before speed forward functions states pending cvs))
state_has_applied packet mode before speed forward functions states pending cvs heard o =
    let after = state_of before speed forward functions states pending cvs in
    let step =
    step-heard (loco_who before) packet mode (loco_state_content before) (loco_state_content after) heard o in
    record {
      same_who = refl;
      step = step;
      unheard = λ un. absurd (cc);
      kept = kept-after (loco_who before) (loco_map before) (loco_map after) packet step;
    }

-- a packet that is not sent to locomotives sets no register but the pending write
pub no_loco_obeys : (p : Packet) (before : LocoState) → IsNoLoco p
    → Obeys p (mode_held (loco_state_content before)) (loco_state_content before) (loco_state_content
    (state_of before before.speed before.forward before.functions before.states None before.cvs))
no_loco_obeys (Loco to what) before none = absurd (none to what refl)
no_loco_obeys p before none = record {
  reads = refl;
  speed = refl;
  forward = refl;
  functions = λ n few. refl;
  states = λ n few. refl;
  cvs = λ cv place low here. refl;
  pending = refl;
}

no_loco_speed : (p : Packet) (mode : SpeedMode) → IsNoLoco p → IfSome (speed_set mode p) (λ s. is_speed s ≡ true)
no_loco_speed (Loco to what) mode none = absurd (none to what refl)
no_loco_speed p mode none = tt

pub no_loco_applied : (packet : Packet) (loco new : DccLoco) → IsNoLoco packet
    → new ≡ record loco { registers = record loco.registers { pending = frame_numbers [] } }
    → AppliesHeard packet loco new
no_loco_applied packet loco new none set before was heard e =
    let after : LocoState =
    state_of before before.speed before.forward before.functions before.states None before.cvs in
    let obeys = no_loco_obeys packet before none in
    let parts = parts_of before was in (
      after,
      state_is_possible packet (mode_held (loco_state_content before)) before before.speed before.forward
          before.functions before.states None before.cvs was heard (no_loco_byte packet none)
          (no_loco_speed packet (mode_held (loco_state_content before)) none)
          ((Decides-ltb before.functions (2 ^ 69)).0 parts.functions) obeys,
      set
          ∙ ap (λ (l : DccLoco). record l { registers = record l.registers { pending = frame_numbers [] } }) e,
      state_has_applied packet (mode_held (loco_state_content before)) before before.speed before.forward
          before.functions before.states None before.cvs heard obeys,
    )

-- a packet that a decoder obeys
pub obeyed : (packet : Packet) (loco new : DccLoco) (pending : DccFrame) (mode : SpeedMode)
    → mode ≡ mode_of (Some (Flag (is_one (cv_in loco.cvs 29) 1)))
    → pending ≡ pending_numbers (left_pending packet) → is_byte_write packet ≡ true
    → ((held : Option Packet) → loco.registers.pending ≡ pending_numbers held → (cv place : ℕ) → 1 ≤ cv → place ≤ 7
    → is_one (cv_in new.cvs cv) place ≡ (if is_effective (Some (PendingValue held)) packet
    then unwrap_or (bit_set packet cv place) (is_one (cv_in loco.cvs cv) place)
    else is_one (cv_in loco.cvs cv) place))
    → ((before : LocoRegisters) → before.functions < 2 ^ 69
    → record loco.registers { pending = pending } ≡ register_numbers before
    → AreSet mode packet before new.registers)
    → AppliesHeard packet loco new
obeyed packet loco new pending mode reads left byte cvs sets before was heard e =
    let parts = parts_of before was in
    let held : LocoRegisters = record (registers_in before) { pending = left_pending packet } in
    let numbers : record loco.registers { pending = pending } ≡ register_numbers held =
    ap (λ (r : DccLocoRegisters). record r { pending = pending }) (ap (λ (l : DccLoco). l.registers) e)
    ∙ ap (λ (f : DccFrame). record (register_numbers held) { pending = f }) left in
    let set : AreSet mode packet held new.registers =
    sets held ((Decides-ltb before.functions (2 ^ 69)).0 parts.functions) numbers in
    let same_cvs : loco.cvs ≡ before.cvs = ap (λ (l : DccLoco). l.cvs) e in
    let obeys : Obeys packet mode (loco_state_content before) (loco_state_content
    (state_of before (unwrap_or (speed_set mode packet) before.speed)
    (unwrap_or (direction_set packet) before.forward) set.functions set.states (left_pending packet) new.cvs)) =
    record {
      reads = rw same_cvs at reads;
      speed = refl;
      forward = refl;
      functions = set.each_function;
      states = λ n few. set.each_state n;
      cvs = rw same_cvs at (cvs before.pending (ap (λ (l : DccLoco). l.registers.pending) e));
      pending = refl;
    } in (
      state_of before (unwrap_or (speed_set mode packet) before.speed) (unwrap_or (direction_set packet) before.forward)
          set.functions set.states (left_pending packet) new.cvs,
      state_is_possible packet mode before (unwrap_or (speed_set mode packet) before.speed)
          (unwrap_or (direction_set packet) before.forward) set.functions set.states (left_pending packet) new.cvs was
          heard byte set.step set.small obeys,
      ap (λ (r : DccLocoRegisters). record new { registers = r }) set.is,
      state_has_applied packet mode before (unwrap_or (speed_set mode packet) before.speed)
          (unwrap_or (direction_set packet) before.forward) set.functions set.states (left_pending packet) new.cvs heard
          obeys,
    )

-- a packet that the decoder does not hear
pub unheard_has_applied : (packet : Packet) (before : LocoState) → hears (loco_who before) packet ≡ false
    → HasApplied packet (loco_who before) (loco_map before) (loco_who before) (loco_map before)
unheard_has_applied packet before un = record {
  same_who = refl;
  step = step-unheard (loco_who before) packet (loco_map before) un;
  unheard = λ e. refl;
  kept = λ r e. refl;
}

-- the address fields of the structure of a state
pub state_address : (before : LocoState) (loco : DccLoco) → is_state before ≡ true → loco ≡ loco_numbers before
    → HasAddress loco.registers before.address
state_address before loco was e = record {
  active = (parts_of before was).active;
  kind = ap (λ (l : DccLoco). l.registers.address_kind) e;
  number = ap (λ (l : DccLoco). l.registers.address) e;
}

-- the state of a structure with possible registers
pub state_of_numbers : (loco : DccLoco) (registers : LocoRegisters)
    → ((cvs : List ℕ) → is_state (with_cvs registers cvs) ≡ true) → loco.registers ≡ register_numbers registers
    → (before : LocoState) × (is_state before ≡ true) × (loco ≡ loco_numbers before)
state_of_numbers loco registers possible e =
    (with_cvs registers loco.cvs, possible loco.cvs, ap (λ (r : DccLocoRegisters). record loco { registers = r }) e)

-- the pending write after a packet
pub left_none : (p : Packet) → is_own_write p ≡ false → left_pending p ≡ None
left_none p own = rw own refl

pub left_own : (p : Packet) → is_own_write p ≡ true → left_pending p ≡ Some p
left_own p own = rw own refl

-- the structure of registers of which a packet sets some
pub set_numbers : (mode : SpeedMode) (packet : Packet) (before : LocoRegisters) (old put : DccLocoRegisters)
    (forward : Bool) (functions states : ℕ) (function_words state_words : List ℕ) → old ≡ register_numbers before
    → put ≡ record old {
      speed_mode = speed_mode (unwrap_or (speed_set mode packet) before.speed);
      step = speed_step (unwrap_or (speed_set mode packet) before.speed);
    }
    → forward ≡ unwrap_or (direction_set packet) before.forward → function_words ≡ words_of functions
    → state_words ≡ words_of states
    → record put { forward = forward; functions = function_words; states = state_words }
    ≡ register_numbers (registers_with mode packet before functions states)
set_numbers mode packet before old put forward functions states function_words state_words e f g h k =
    rw (f, g, h, k, e) refl

-- an own write sets no register but its CV and the pending write
pub own_write_set : (p : Packet) (mode : SpeedMode) (before : LocoRegisters) (numbers : DccLocoRegisters)
    → is_own_write p ≡ true → before.functions < 2 ^ 69 → numbers ≡ register_numbers before
    → AreSet mode p before numbers
own_write_set (Loco Broadcast what) mode before numbers own small e = absurd (cc)
own_write_set (Loco to (CvWrite cv value)) mode before numbers own small e = record {
  functions = before.functions;
  states = before.states;
  is = e;
  small = small;
  each_function = λ n few. refl;
  each_state = λ n. refl;
  step = tt;
}
own_write_set (Loco to (CvBitWrite cv place one)) mode before numbers own small e = record {
  functions = before.functions;
  states = before.states;
  is = e;
  small = small;
  each_function = λ n few. refl;
  each_state = λ n. refl;
  step = tt;
}
own_write_set p mode before numbers own small e = absurd (cc)

-- the second copy of the pending write
pub own_write_applied : (p : Packet) (loco new : DccLoco) (frame : List ℕ) → IsFrame frame → spelling p ≡ frame
    → is_own_write p ≡ true → is_byte_write p ≡ true → loco.registers.pending ≡ frame_numbers frame
    → new.registers ≡ loco.registers
    → ((cv place : ℕ) → 1 ≤ cv → place ≤ 7 → is_one (cv_in new.cvs cv) place
    ≡ unwrap_or (bit_set p cv place) (is_one (cv_in loco.cvs cv) place))
    → AppliesHeard p loco new
own_write_applied p loco new frame valid spelled own byte pending same written =
    obeyed p loco new loco.registers.pending (mode_of (Some (Flag (is_one (cv_in loco.cvs 29) 1)))) refl
    (pending ∙ ap frame_numbers (sym spelled) ∙ sym (ap pending_numbers (left_own p own))) byte
    (λ held e cv place low here.
    let effective : true ≡ is_effective (Some (PendingValue held)) p =
    effective_by_numbers held p loco.registers.pending frame true valid spelled e own (λ t. pending, λ t. refl) in
    rw (sym effective) (written cv place low here))
    (λ before small e. own_write_set p (mode_of (Some (Flag (is_one (cv_in loco.cvs 29) 1)))) before new.registers own
    small (same ∙ e))
