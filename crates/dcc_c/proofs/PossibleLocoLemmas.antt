-- A locomotive decoder on both tracks, by the numbers of its C structure.
use Rattle.std.proofs.Common.{◌≡◌, ℕ, ◌-◌, ◌<◌, ◌≤◌, true, List, refl, sym, ◌∙◌, ap, subst}
use Rattle.std.specs.Prelude.{slice_set}
use Rattle.dcc_packet.specs.declared.packet.Packet.{Packet}
use Rattle.dcc_packet.specs.Cvs.{IsCvs, cv_in}
use Rattle.dcc_packet.specs.Spelling.{spelling}
use Rattle.dcc_packet.proofs.OneSpelling.{one_packet}
use Rattle.dcc_regs.specs.declared.loco_state.LocoState.{LocoState}
use Rattle.dcc_regs.specs.Loco.{is_byte_write, start_map, start_who}
use Rattle.dcc_regs.specs.LocoRegisters.{registers_in, with_cvs}
use Rattle.dcc_regs.specs.LocoState.{is_state, loco_map, loco_state_content, loco_who}
use Rattle.dcc_regs.specs.Result.{step}
use Rattle.dcc_regs.proofs.CvLemmas.{powered_up-loco, who-powered_up}
use Rattle.dcc_regs.proofs.CvSetLemmas.{cv_is_set}
use Rattle.dcc_regs.proofs.PossibleLemmas.{possible}
use Rattle.dcc_track.specs.DecoderState.{DecoderState, HasCvs, after_packet, after_power_up, with_new_cvs}
use Rattle.dcc_track.specs.LocoDecoders.{cvs_held, loco_on_tracks}
use Rattle.dcc_track.proofs.HeldCvs.{held_state}
use Rattle.dcc_track.proofs.LocoLemmas.{loco_applied, loco_cv_set, loco_has_cvs, loco_restarted}
use Rattle.dcc_c.specs.declared.loco_numbers.DccLoco.{DccLoco}
use Rattle.dcc_c.specs.declared.loco_numbers.DccLocoRegisters.{DccLocoRegisters}
use Rattle.dcc_c.specs.declared.possible_loco.PossibleLoco.{PossibleLoco}
use Rattle.dcc_c.specs.Applied.{HasApplied}
use Rattle.dcc_c.specs.Decoders.{loco_in, loco_state_in}
use Rattle.dcc_c.specs.HeldRegisters.{HeldBy, HeldBy-prop, one_held}
use Rattle.dcc_c.specs.Locos.{loco_numbers}

-- the registers that the structure of a state stores
pub holds_state : (loco : DccLoco) (state : LocoState) → is_state state ≡ true → loco ≡ loco_numbers state
    → HeldBy loco.registers
holds_state loco state ok e =
    (registers_in state, record { possible = ok; numbers = ap (λ (l : DccLoco). l.registers) e })

-- a structure stores one state
pub state_held : (loco : DccLoco) (held : HeldBy loco.registers) (state : LocoState) → is_state state ≡ true
    → loco ≡ loco_numbers state → with_cvs held.0 loco.cvs ≡ state
state_held loco held state ok e =
    let same : held.0 ≡ registers_in state =
    one_held held.0 (registers_in state) held.1.possible ok
    (sym held.1.numbers ∙ ap (λ (l : DccLoco). l.registers) e) in
    let cvs : loco.cvs ≡ state.cvs = ap (λ (l : DccLoco). l.cvs) e in
    rw (same, cvs) refl

pub numbers_of : (d : PossibleLoco) → d.loco ≡ loco_numbers (loco_in d)
numbers_of d = ap (λ (r : DccLocoRegisters). record { registers = r; cvs = d.loco.cvs }) d.held.1.numbers

pub possible_in : (d : PossibleLoco) → is_state (loco_in d) ≡ true
possible_in d = d.held.1.possible

abbrev on_tracks : LocoState → DecoderState
on_tracks s = loco_on_tracks (loco_who s) (loco_map s)

pub state_is : (d : PossibleLoco) (state : LocoState) → is_state state ≡ true → d.loco ≡ loco_numbers state
    → loco_state_in d ≡ loco_on_tracks (loco_who state) (loco_map state)
state_is d state ok e = ap on_tracks (state_held d.loco d.held state ok e)

-- a decoder that was powered up
pub powered : (d : PossibleLoco) (state : LocoState) (cvs : List ℕ) → is_state state ≡ true
    → d.loco ≡ loco_numbers state → loco_who state ≡ start_who (cv_in cvs) → loco_map state ≡ start_map (cv_in cvs)
    → loco_state_in d ≡ loco_on_tracks (start_who (cv_in cvs)) (start_map (cv_in cvs))
powered d state cvs ok e who registers = state_is d state ok e ∙ rw (who, registers) refl

pub restarted : (old d : PossibleLoco) → IsCvs old.loco.cvs
    → loco_state_in d ≡ loco_on_tracks (start_who (cv_in old.loco.cvs)) (start_map (cv_in old.loco.cvs))
    → loco_state_in d ≡ after_power_up (loco_state_in old)
restarted old d ok e =
    let content = loco_state_content (loco_in old) in
    e ∙ loco_restarted old.held.0.address (loco_map (loco_in old)) (start_map (cv_in old.loco.cvs))
    (start_who (cv_in old.loco.cvs))
    (who-powered_up content old.loco.cvs ok refl) (powered_up-loco content)

pub has_cvs : (d : PossibleLoco) → HasCvs (loco_state_in d)
has_cvs d = loco_has_cvs d.held.0.address (loco_map (loco_in d)) (possible (loco_in d) (possible_in d))

pub cv_read : (d : PossibleLoco) (n : ℕ) → IsCvs d.loco.cvs → cv_in d.loco.cvs n ≡ cv_in (loco_state_in d).cvs n
cv_read d n ok = ap (λ (cvs : List ℕ). cv_in cvs n) (sym (held_state (loco_in d) ok))

-- a decoder that applied a packet
pub packet_applied : (old d : PossibleLoco) (packet other : Packet) (after : LocoState) → is_byte_write packet ≡ true
    → spelling other ≡ spelling packet → is_state after ≡ true → d.loco ≡ loco_numbers after
    → HasApplied other (loco_who (loco_in old)) (loco_map (loco_in old)) (loco_who after) (loco_map after)
    → loco_state_in d ≡ after_packet (loco_state_in old) packet
packet_applied old d packet other after byte spelled ok e applied =
    let before = loco_in old in
    let stepped : loco_map after ≡ step (loco_who before) (loco_map before) packet =
    subst (λ (p : Packet). loco_map after ≡ step (loco_who before) (loco_map before) p)
    (one_packet other packet spelled) applied.step in
    state_is d after ok e
    ∙ loco_applied old.held.0.address (loco_map before) (loco_map after) (loco_who after) packet
    (possible before (possible_in old)) byte applied.same_who stepped

-- a decoder of which one CV was set
pub cv_was_set : (old : PossibleLoco) (held : HeldBy old.loco.registers) (n value : ℕ) → IsCvs old.loco.cvs
    → 1 ≤ n → n ≤ 1024 → value < 256
    → loco_on_tracks (loco_who (with_cvs held.0 (slice_set old.loco.cvs (n - 1) value)))
    (loco_map (with_cvs held.0 (slice_set old.loco.cvs (n - 1) value)))
    ≡ with_new_cvs (loco_state_in old) (slice_set (cvs_held (loco_map (loco_in old))) (n - 1) value)
cv_was_set old held n value ok from to small =
    let cvs : List ℕ = slice_set old.loco.cvs (n - 1) value in
    let now : LocoState = with_cvs old.held.0 cvs in
    ap (λ (h : HeldBy old.loco.registers). on_tracks (with_cvs h.0 cvs))
    (HeldBy-prop old.loco.registers held old.held)
    ∙ loco_cv_set old.held.0.address (loco_map (loco_in old)) (loco_map now) (loco_who now) n value
    (possible now old.held.1.possible) from to small refl
    (cv_is_set (loco_state_content (loco_in old)) old.loco.cvs n value ok from to refl)
