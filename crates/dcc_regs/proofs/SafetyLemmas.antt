-- Locomotives that stand still keep standing.
use Rattle.std.proofs.Common.{◌≡◌, Bool, true, false, List, [], ◌∷◌, refl, ◌∙◌, ap}
use Rattle.std.specs.Prelude.{not, ◌&&◌, ◌||◌, nat_lt, Option, None, Some, option_map, is_some, if◌then◌else◌}
use Rattle.std.specs.List.{filter_map, list_any}
use Rattle.std.specs.Option.{option_map_or}
use Rattle.dcc_packet.specs.declared.address.Address.TheVariants.{Broadcast}
use Rattle.dcc_packet.specs.declared.instruction.What.TheVariants.{Reset, Speed28, Speed128}
use Rattle.dcc_packet.specs.declared.packet.Packet.{Packet}
use Rattle.dcc_packet.specs.declared.packet.Packet.TheVariants.{Loco as ToLoco}
use Rattle.dcc_regs.specs.declared.register.Who.{Who}
use Rattle.dcc_regs.specs.declared.register.Speed.{Speed}
use Rattle.dcc_regs.specs.declared.register.Speed.TheVariants.{Stop, Emergency}
use Rattle.dcc_regs.specs.declared.register.SpeedMode.{SpeedMode}
use Rattle.dcc_regs.specs.declared.register.SpeedMode.TheVariants.{Steps14, Steps28}
use Rattle.dcc_regs.specs.declared.register.Register.TheVariants.{Speed as SpeedRegister}
use Rattle.dcc_regs.specs.declared.register.Value.{Value}
use Rattle.dcc_regs.specs.declared.register.Value.TheVariants.{Speed as SpeedValue}
use Rattle.dcc_regs.specs.Heard.{hears, heard}
use Rattle.dcc_regs.specs.Sets.{sets}
use Rattle.dcc_regs.specs.Speeds.{speed_set}
use Rattle.dcc_regs.specs.Result.{RegisterMap, cv_bit_after, mode_of, set_in_turn, places, result, step}
use Rattle.dcc_regs.specs.Setting.{mode_in, set_from, value_over}
use Rattle.dcc_regs.specs.Safety.{is_stop, is_standing, is_stop_packet, can_move, can_have_step}
use Rattle.dcc_regs.specs.Safety.{StandingLocoStands, OnlySpeedPacketsMove, LastStopStops}
use Rattle.dcc_regs.proofs.InParts.{result-append, result-nothing}
use Rattle.dcc_regs.proofs.OneTable.{same_table}
use Rattle.dcc_regs.proofs.RegisterStep.{step-sets}

neither : (a b : Bool) → (a || b) ≡ false → (a ≡ false) × (b ≡ false)
neither false false e = (refl, refl)
neither a b e = absurd (cc)

both : (a b : Bool) → (a && b) ≡ true → (a ≡ true) × (b ≡ true)
both true true e = (refl, refl)
both a b e = absurd (cc)

unnot : (t : Bool) → not t ≡ false → t ≡ true
unnot true e = refl
unnot false e = absurd (cc)

-- if no heard packet of a list passes a test, its first packet fails the test if it is heard, and no
-- heard packet of the rest passes
pub calm_parts : (who : Who) (test : Packet → Bool) (p : Packet) (l : List Packet)
    → list_any test (heard who (p ∷ l)) ≡ false
    → (hears who p ≡ true → test p ≡ false) × (list_any test (heard who l) ≡ false)
calm_parts who test p l = by_hearing (hears who p) refl
  where
    by_hearing : (t : Bool) → hears who p ≡ t → list_any test (if t then p ∷ heard who l else heard who l) ≡ false
        → (hears who p ≡ true → test p ≡ false) × (list_any test (heard who l) ≡ false)
    by_hearing true e calm = let parts = neither (test p) (list_any test (heard who l)) calm in (λ h. parts.0, parts.1)
    by_hearing false e calm = (λ h. cc, calm)

no_step_in : (mode : SpeedMode) (p : Packet) → can_move p ≡ false
    → option_map_or (λ speed. not (is_stop speed)) (speed_set mode p) false ≡ false
no_step_in Steps14 p calm = (neither _ _ calm).0
no_step_in Steps28 p calm = (neither _ _ calm).1

stop_in : (mode : SpeedMode) (p : Packet) → is_stop_packet p ≡ true
    → option_map_or is_stop (speed_set mode p) false ≡ true
stop_in Steps14 p stops = (both _ _ stops).0
stop_in Steps28 p stops = (both _ _ stops).1

keeps_standing : (held : Option Value) (set : Option Speed)
    → option_map_or (λ speed. not (is_stop speed)) set false ≡ false → is_standing held ≡ true
    → is_standing (value_over held (option_map SpeedValue set)) ≡ true
keeps_standing None set calm s = s
keeps_standing (Some v) None calm s = s
keeps_standing (Some v) (Some speed) calm s = unnot (is_stop speed) calm

comes_to_stand : (held : Option Value) (set : Option Speed) → is_some held ≡ true
    → option_map_or is_stop set false ≡ true → is_standing (value_over held (option_map SpeedValue set)) ≡ true
comes_to_stand (Some v) (Some speed) there stops = stops
comes_to_stand held set there stops = absurd (cc)

step_stands : (who : Who) (m : RegisterMap) (p : Packet) → (hears who p ≡ true → can_move p ≡ false)
    → is_standing (m SpeedRegister) ≡ true → is_standing (step who m p SpeedRegister) ≡ true
step_stands who m p calm s = ap is_standing (step-sets who m p SpeedRegister) ∙ by_hearing (hears who p) refl
  where
    by_hearing : (t : Bool) → hears who p ≡ t
        → is_standing (if t then value_over (m SpeedRegister) (set_from m p SpeedRegister) else m SpeedRegister) ≡ true
    by_hearing true e =
        rw (same_table (mode_in m) p SpeedRegister)
        (keeps_standing (m SpeedRegister) (speed_set (mode_in m) p) (no_step_in (mode_in m) p (calm e)) s)
    by_hearing false e = s

pub standing_loco_stands : StandingLocoStands
standing_loco_stands who m [] calm s = ap (λ n. is_standing (n SpeedRegister)) (result-nothing who m) ∙ s
standing_loco_stands who m (p ∷ l) calm s =
    let parts = calm_parts who can_move p l calm in
    ap (λ n. is_standing (n SpeedRegister)) (result-append who m (p ∷ []) l)
    ∙ standing_loco_stands who (step who m p) l parts.1 (step_stands who m p parts.0 s)

-- the speed that a 28-step speed packet to all locomotives sets is no step
no_step_for_all : (low middle : Bool)
    → option_map_or (λ speed. not (is_stop speed))
    (if low then Some Stop else if middle then Some Emergency else None) false ≡ false
no_step_for_all true middle = refl
no_step_for_all false true = refl
no_step_for_all false false = refl

-- a packet for which `can_have_step` is false sets no step
calm_kind : (p : Packet) → can_have_step p ≡ false → can_move p ≡ false
calm_kind (ToLoco Broadcast (Speed28 forward bits)) e =
    rw (no_step_for_all (nat_lt bits.bits 2) (nat_lt bits.bits 4)) refl
calm_kind (ToLoco to (Speed28 forward bits)) e = absurd (cc)
calm_kind (ToLoco to (Speed128 forward bits)) e = absurd (cc)
calm_kind (ToLoco to Reset) e = refl
calm_kind p e = refl

calm_kinds : (l : List Packet) → list_any can_have_step l ≡ false → list_any can_move l ≡ false
calm_kinds [] e = refl
calm_kinds (p ∷ l) e =
    let parts = neither (can_have_step p) (list_any can_have_step l) e in
    rw (calm_kind p parts.0, calm_kinds l parts.1) refl

pub only_speed_packets_move : OnlySpeedPacketsMove
only_speed_packets_move who m l calm = standing_loco_stands who m l (calm_kinds (heard who l) calm)

stays_some : (held : Option Value) (vs : List Value) → is_some held ≡ true → is_some (set_in_turn held vs) ≡ true
stays_some None vs there = there
stays_some (Some v) vs there = refl

has_speed : (who : Who) (m : RegisterMap) (l : List Packet) → is_some (m SpeedRegister) ≡ true
    → is_some (result who m l SpeedRegister) ≡ true
has_speed who m l there =
    stays_some (m SpeedRegister)
    (filter_map (λ at. sets (mode_of (cv_bit_after m at.0 29 1)) at.1 SpeedRegister) (places (heard who l))) there

stop_stands : (who : Who) (m : RegisterMap) (stop : Packet) → is_some (m SpeedRegister) ≡ true → hears who stop ≡ true
    → is_stop_packet stop ≡ true → is_standing (step who m stop SpeedRegister) ≡ true
stop_stands who m stop there h stops =
    ap is_standing (step-sets who m stop SpeedRegister)
    ∙ rw (h, same_table (mode_in m) stop SpeedRegister)
    (comes_to_stand (m SpeedRegister) (speed_set (mode_in m) stop) there (stop_in (mode_in m) stop stops))

pub last_stop_stops : LastStopStops
last_stop_stops who start before stop later there h stops calm =
    let m = result who start before in
    ap (λ n. is_standing (n SpeedRegister))
    (result-append who start before (stop ∷ later) ∙ result-append who m (stop ∷ []) later)
    ∙ standing_loco_stands who (step who m stop) later calm
    (stop_stands who m stop (has_speed who start before there) h stops)
