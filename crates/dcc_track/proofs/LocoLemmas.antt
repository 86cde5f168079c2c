-- A locomotive decoder on both tracks, with its CVs in its registers.
use Rattle.std.proofs.Common.{◌≡◌, ◌≢◌, ℕ, ◌-◌, ◌<◌, ◌≤◌, Bool, true, false, List, refl, sym, ◌∙◌, ap, subst, arith}
use Rattle.std.specs.Prelude.{Option, None, Some, ◌==◌, nat_le, length, slice_set}
use mathlib.Core.Path.{fun_ext}
use Rattle.std.proofs.lemmas.Bool.Decides.{nat_tests, Decides-eqb}
use Rattle.std.proofs.lemmas.List.{get_or-set_same, get_or-set_other, length-set}
use Rattle.dcc_packet.specs.declared.address.Address.{Address}
use Rattle.dcc_packet.specs.declared.packet.Packet.{Packet}
use Rattle.dcc_packet.specs.Bits.{is_one}
use Rattle.dcc_packet.specs.Cvs.{cv_in}
use Rattle.dcc_packet.proofs.BitLemmas.{byte_of_bits, either_by, is_one-byte_of, same_byte}
use Rattle.dcc_regs.specs.declared.register.Register.{Register}
use Rattle.dcc_regs.specs.declared.register.Register.TheVariants.{CvBit}
use Rattle.dcc_regs.specs.declared.register.Value.{Value}
use Rattle.dcc_regs.specs.declared.register.Value.TheVariants.{Speed as SpeedValue, Forward, Flag, Number}
use Rattle.dcc_regs.specs.declared.register.Value.TheVariants.{Pending as PendingValue}
use Rattle.dcc_regs.specs.declared.register.Who.{Who}
use Rattle.dcc_regs.specs.declared.register.Who.TheVariants.{Loco as LocoWho}
use Rattle.dcc_regs.specs.Loco.{cv_held, holds_one, is_byte_write, is_cv_bit, powered_up, start_map, start_who, with_cv}
use Rattle.dcc_regs.specs.Possible.{IsPossible, may_hold}
use Rattle.dcc_regs.specs.Result.{RegisterMap, step}
use Rattle.dcc_regs.proofs.CvLemmas.{active_address-same}
use Rattle.dcc_track.specs.DecoderState.{DecoderState, HasCvs, after_packet, after_power_up, registers_with_cvs}
use Rattle.dcc_track.specs.DecoderState.{with_new_cvs}
use Rattle.dcc_track.specs.LocoDecoders.{cvs_held, loco_on_tracks}
use Rattle.dcc_track.proofs.HeldCvs.{cv_in-held, held_bytes, held_is, length-held}
use Rattle.dcc_track.proofs.MainWrites.{flag_held, held_after, not_same}

-- a register that is no bit of a CV holds nothing
none_held : (active : Option Address) (cv place : ℕ) (held : Option Value)
    → may_hold (LocoWho active) (CvBit cv place) held ≡ true → is_cv_bit cv place ≡ false → None ≡ held
none_held active cv place None ok past = refl
none_held active cv place (Some (Flag one)) ok past = let contrary : false ≡ true = rw past at ok in absurd (cc)
none_held active cv place (Some (SpeedValue speed)) ok past = absurd (cc)
none_held active cv place (Some (Forward forward)) ok past = absurd (cc)
none_held active cv place (Some (Number n)) ok past = absurd (cc)
none_held active cv place (Some (PendingValue pending)) ok past = absurd (cc)

-- the bits of the CVs are those of the registers
held_as_bit : (active : Option Address) (t : Bool) (m : RegisterMap) (cv place : ℕ) → is_cv_bit cv place ≡ t
    → may_hold (LocoWho active) (CvBit cv place) (m (CvBit cv place)) ≡ true
    → start_map (cv_in (cvs_held m)) (CvBit cv place) ≡ m (CvBit cv place)
held_as_bit active true m cv place e ok =
    let low : 1 ≤ cv = grind (arith, nat_tests) in
    let high : cv ≤ 1024 = grind (arith, nat_tests) in
    let within : place ≤ 7 = grind (arith, nat_tests) in
    let bit : is_one (cv_in (cvs_held m) cv) place ≡ holds_one (m (CvBit cv place)) =
    rw (cv_in-held m cv low high) (is_one-byte_of (λ k. holds_one (m (CvBit cv k))) place within) in
    rw (e, bit) (sym (flag_held active cv place (m (CvBit cv place)) ok e))
held_as_bit active false m cv place e ok = rw e (none_held active cv place (m (CvBit cv place)) ok e)

held_register : (active : Option Address) (m : RegisterMap) → IsPossible (LocoWho active) m → (r : Register)
    → registers_with_cvs (LocoWho active) m (cvs_held m) r ≡ m r
held_register active m possible (CvBit cv place) =
    held_as_bit active (is_cv_bit cv place) m cv place refl (possible.registers (CvBit cv place))
held_register active m possible r = refl

abbrev loco_with : Option Address → List ℕ → RegisterMap → DecoderState
loco_with active cvs m = record { who = LocoWho active; registers = m; cvs = cvs }

pub loco_has_cvs : (active : Option Address) (m : RegisterMap) → IsPossible (LocoWho active) m
    → HasCvs (loco_on_tracks (LocoWho active) m)
loco_has_cvs active m possible = record {
  bytes = held_bytes m;
  held = ap (loco_with active (cvs_held m)) (fun_ext (held_register active m possible));
}

pub loco_applied : (active : Option Address) (m m' : RegisterMap) (who' : Who) (p : Packet)
    → IsPossible (LocoWho active) m → is_byte_write p ≡ true → who' ≡ LocoWho active → m' ≡ step (LocoWho active) m p
    → loco_on_tracks who' m' ≡ after_packet (loco_on_tracks (LocoWho active) m) p
loco_applied active m m' who' p possible byte same stepped =
    ap (λ (who : Who). loco_on_tracks who m') same ∙ ap (loco_on_tracks (LocoWho active)) stepped
    ∙ ap (λ (cvs : List ℕ). loco_with active cvs (step (LocoWho active) m p)) (held_after active m p possible byte)

who_restarted : (m : RegisterMap) → start_who (cv_held m) ≡ start_who (cv_in (cvs_held m))
who_restarted m =
    ap LocoWho
    (sym (active_address-same (cv_in (cvs_held m)) (cv_held m) (cv_in-held m 1 (omega arith) (omega arith))
    (cv_in-held m 17 (omega arith) (omega arith)) (cv_in-held m 18 (omega arith) (omega arith))
    (cv_in-held m 29 (omega arith) (omega arith))))

cvs_restarted : (m : RegisterMap) → cvs_held (powered_up m) ≡ cvs_held m
cvs_restarted m =
    held_is (powered_up m) (cvs_held m) (length-held m) (λ n low high. sym (cv_in-held m n low high))

pub loco_restarted : (active : Option Address) (m m' : RegisterMap) (who' : Who) → who' ≡ start_who (cv_held m)
    → m' ≡ powered_up m → loco_on_tracks who' m' ≡ after_power_up (loco_on_tracks (LocoWho active) m)
loco_restarted active m m' who' new powered =
    ap (λ (who : Who). loco_on_tracks who m') (new ∙ who_restarted m)
    ∙ ap (loco_on_tracks (start_who (cv_in (cvs_held m)))) powered
    ∙ ap (λ (cvs : List ℕ). record {
      who = start_who (cv_in (cvs_held m));
      registers = powered_up m;
      cvs = cvs;
    }) (cvs_restarted m)

flag_one : (one : Bool) → holds_one (Some (Flag one)) ≡ one
flag_one true = refl
flag_one false = refl

-- the CVs after one CV was set
cvs_set : (m : RegisterMap) (n value : ℕ) → 1 ≤ n → n ≤ 1024 → value < 256
    → cvs_held (with_cv m n value) ≡ slice_set (cvs_held m) (n - 1) value
cvs_set m n value from to small =
    let count : length (cvs_held m) ≡ 1024 = length-held m in
    held_is (with_cv m n value) (slice_set (cvs_held m) (n - 1) value)
    (length-set (cvs_held m) (n - 1) value ∙ length-held m)
    (λ k low high.
    either_by k n (k == n) refl
    (λ same.
    let e : (k == n) ≡ true = (Decides-eqb k n).1 same in
    let set : cv_in (slice_set (cvs_held m) (n - 1) value) n ≡ value =
    get_or-set_same (cvs_held m) (n - 1) value 0 (omega arith) in
    same_byte (λ place. holds_one (with_cv m n value (CvBit k place))) (is_one value)
    (λ place le.
    let low_bit : nat_le place 7 ≡ true = grind (arith, nat_tests) in
    rw (e, low_bit) (flag_one (is_one value place)))
    ∙ byte_of_bits value small
    ∙ sym (subst (λ (i : ℕ). cv_in (slice_set (cvs_held m) (n - 1) value) i ≡ value) (sym same) set))
    (λ other.
    let e : (k == n) ≡ false = not_same k n other (k == n) refl in
    let apart : k - 1 ≢ n - 1 = λ is. other (omega arith) in
    same_byte (λ place. holds_one (with_cv m n value (CvBit k place))) (λ place. holds_one (m (CvBit k place)))
    (λ place le. rw e refl)
    ∙ sym (cv_in-held m k low high)
    ∙ sym (get_or-set_other (cvs_held m) (n - 1) (k - 1) value 0 apart)))

register_set : (active : Option Address) (m : RegisterMap) (n value : ℕ) (cvs : List ℕ) (r : Register)
    → registers_with_cvs (LocoWho active) (with_cv m n value) cvs r ≡ registers_with_cvs (LocoWho active) m cvs r
register_set active m n value cvs (CvBit cv place) = refl
register_set active m n value cvs r = refl

pub loco_cv_set : (active : Option Address) (m m' : RegisterMap) (who' : Who) (n value : ℕ)
    → IsPossible who' m' → 1 ≤ n → n ≤ 1024 → value < 256 → who' ≡ LocoWho active → m' ≡ with_cv m n value
    → loco_on_tracks who' m' ≡ with_new_cvs (loco_on_tracks (LocoWho active) m) (slice_set (cvs_held m) (n - 1) value)
loco_cv_set active m m' who' n value possible from to small same is =
    let cvs : List ℕ = slice_set (cvs_held m) (n - 1) value in
    let now : cvs_held m' ≡ cvs = ap cvs_held is ∙ cvs_set m n value from to small in
    let here : IsPossible (LocoWho active) m' = subst (λ (who : Who). IsPossible who m') same possible in
    let registers : m' ≡ registers_with_cvs (LocoWho active) m cvs =
    sym (fun_ext (held_register active m' here))
    ∙ ap (λ (l : List ℕ). registers_with_cvs (LocoWho active) m' l) now
    ∙ ap (λ (map : RegisterMap). registers_with_cvs (LocoWho active) map cvs) is
    ∙ fun_ext (register_set active m n value cvs) in
    ap (λ (who : Who). loco_on_tracks who m') same ∙ ap (λ (l : List ℕ). loco_with active l m') now
    ∙ ap (loco_with active cvs) registers
