-- The registers of a decoder after a list of packets. The definition looks at the whole list: each
-- register has the value that was set last. The file begins with Pending, which determines the
-- writes that take effect. The bits of the CVs follow, since they determine the meaning of speed
-- instructions. The other registers come last.
use Rattle.std.specs.Prelude.{◌≡◌, ℕ, Bool, true, false, ◌&&◌, Option, None, Some, option_map, List, [], ◌∷◌, ◌++◌}
use Rattle.std.specs.Prelude.{map, if◌then◌else◌}
use Rattle.std.specs.List.{filter_map, fold, scan}
use Rattle.dcc_packet.specs.declared.packet.Packet.{Packet}
use Rattle.dcc_packet.specs.SamePacket.{same}
use Rattle.dcc_regs.specs.declared.register.Who.{Who}
use Rattle.dcc_regs.specs.declared.register.SpeedMode.{SpeedMode}
use Rattle.dcc_regs.specs.declared.register.SpeedMode.TheVariants.{Steps14, Steps28}
use Rattle.dcc_regs.specs.declared.register.Register.{Register}
use Rattle.dcc_regs.specs.declared.register.Register.TheVariants.{CvBit, Pending as PendingRegister}
use Rattle.dcc_regs.specs.declared.register.Value.{Value}
use Rattle.dcc_regs.specs.declared.register.Value.TheVariants.{Flag, Pending as PendingValue}
use Rattle.dcc_regs.specs.Heard.{heard}
use Rattle.dcc_regs.specs.Sets.{sets}
use Rattle.dcc_regs.specs.Writes.{is_own_write, bit_set}

-- the values of all registers of a decoder. A register that the decoder does not have has the value
-- `None`.
abbrev pub RegisterMap : Type 0
RegisterMap = Register → Option Value

-- the value of a register that had the value `start`, and was then set to each value of `vs`, one
-- after the other: the last value of `vs`, or `start` if `vs` is empty. A register that the decoder
-- does not have stays `None`.
abbrev pub set_in_turn : Option Value → List Value → Option Value
set_in_turn start vs = option_map (λ v. fold (λ before now. now) v vs) start

-- a pair for each packet of a list: the packets before it in the list, and the packet
abbrev pub places : List Packet → List (List Packet × Packet)
places = scan (λ before p. before ++ p ∷ []) (λ before p. (before, p)) []

-- the register Pending after a decoder has heard the packets `l`. Before these packets, its
-- registers were `start`. Each packet sets the register: to the packet if it is an own write,
-- otherwise to `None`.
abbrev pub pending_after : RegisterMap → List Packet → Option Value
pending_after start l =
    set_in_turn (start PendingRegister) (map (λ p. PendingValue (if is_own_write p then Some p else None)) l)

-- true if the packet `before`, which comes directly before the packet `p`, equals `p`. If there is
-- no packet before `p`, the result is false.
abbrev pub is_repeated : Option Packet → Packet → Bool
is_repeated None p = false
is_repeated (Some before) p = same before p

-- true if `p` is an own write, and the register Pending, with the value `held`, holds a packet that
-- equals `p`. Then the write takes effect.
abbrev pub is_effective : Option Value → Packet → Bool
is_effective (Some (PendingValue before)) p = is_own_write p && is_repeated before p
is_effective held p = false

-- bit `place` of CV `cv` after a decoder has heard the packets `l`. The bit has the value of its
-- last write in `l` that took effect. If there is no such write, the bit has its value in the
-- registers `start` before `l`.
abbrev pub cv_bit_after : RegisterMap → List Packet → ℕ → ℕ → Option Value
cv_bit_after start l cv place =
    set_in_turn (start (CvBit cv place))
    (filter_map
    (λ at. if is_effective (pending_after start at.0) at.1 then option_map Flag (bit_set at.1 cv place) else None)
    (places l))

-- the speed mode of a decoder if bit 1 of CV29 has the value `held`: `Steps28` for one, otherwise
-- `Steps14`
abbrev pub mode_of : Option Value → SpeedMode
mode_of (Some (Flag true)) = Steps28
mode_of held = Steps14

-- all registers of a decoder after it has heard the packets `l`. Before these packets, its
-- registers were `start`. A plain register has the last value to which a packet of `l` sets it. If
-- no packet sets it, it has its value in `start`. Each packet is read in the speed mode that the
-- decoder has before this packet.
abbrev pub result_of_heard : RegisterMap → List Packet → RegisterMap
result_of_heard start l PendingRegister = pending_after start l
result_of_heard start l (CvBit cv place) = cv_bit_after start l cv place
result_of_heard start l r =
    set_in_turn (start r) (filter_map (λ at. sets (mode_of (cv_bit_after start at.0 29 1)) at.1 r) (places l))

-- all registers of decoder `who` after the packets `l`, of which the decoder perhaps hears only
-- some. Before these packets, its registers were `start`.
abbrev pub result : Who → RegisterMap → List Packet → RegisterMap
result who start l = result_of_heard start (heard who l)

-- all registers of decoder `who` after one packet `p`. Before this packet, its registers were
-- `start`.
abbrev pub step : Who → RegisterMap → Packet → RegisterMap
step who start p = result who start (p ∷ [])

-- a decoder has heard the packets `l`: its identity `who` is unchanged, and its registers `now` are
-- the result of `l`
pub record HasHeard (l : List Packet) (who : Who) (start : RegisterMap) (who' : Who) (now : RegisterMap) : Type 0 where
  pub same_who : who' ≡ who
  pub registers : now ≡ result who start l
