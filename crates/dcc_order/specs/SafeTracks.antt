-- Theorems on the safety of decoders that hear half-bits. The half-bits can have noise anywhere.
use Rattle.std.specs.Prelude.{◌≡◌, ◌≢◌, ℕ, true, false, None, Some, is_some, List, ◌∷◌, ◌++◌}
use Rattle.std.specs.List.{list_any}
use Rattle.dcc_packet.specs.declared.packet.Packet.{Packet}
use Rattle.dcc_packet.specs.Cvs.{is_read_only}
use Rattle.dcc_regs.specs.declared.register.Who.{Who}
use Rattle.dcc_regs.specs.declared.register.Register.TheVariants.{Speed as SpeedRegister, CvBit}
use Rattle.dcc_regs.specs.declared.register.Register.TheVariants.{Pending as PendingRegister}
use Rattle.dcc_regs.specs.declared.register.Value.TheVariants.{Pending as PendingValue}
use Rattle.dcc_regs.specs.Heard.{hears, heard}
use Rattle.dcc_regs.specs.Writes.{is_own_write}
use Rattle.dcc_regs.specs.Result.{RegisterMap}
use Rattle.dcc_regs.specs.Safety.{is_standing, is_stop_packet, can_move, can_have_step, SetByWrite, SetByTwoCopies}
use Rattle.dcc_order.specs.Hearing.{ArePackets, HasHeardHalves}

-- let the speed in the registers `start` be a stop. If the decoder hears no packet of `halves` that
-- sets the speed to a step, the speed is a stop after `halves`.
abbrev pub StandingLocoStandsOnTrack : Type 0
StandingLocoStandsOnTrack =
    (halves : List ℕ) (packets : List Packet) (who who' : Who) (start now : RegisterMap) → ArePackets packets halves
    → HasHeardHalves halves who start who' now → list_any can_move (heard who packets) ≡ false
    → is_standing (start SpeedRegister) ≡ true → is_standing (now SpeedRegister) ≡ true

-- let the speed in the registers `start` be a stop. Let the decoder hear in `halves` no speed
-- packet to its own address, and no speed packet of 128 steps to all locomotives. Then the speed is
-- a stop after `halves`.
abbrev pub OnlySpeedPacketsOfTrackMove : Type 0
OnlySpeedPacketsOfTrackMove =
    (halves : List ℕ) (packets : List Packet) (who who' : Who) (start now : RegisterMap) → ArePackets packets halves
    → HasHeardHalves halves who start who' now → list_any can_have_step (heard who packets) ≡ false
    → is_standing (start SpeedRegister) ≡ true → is_standing (now SpeedRegister) ≡ true

-- let half-bits contain the packets `before`, the heard packet `stop` and the packets `later`. If
-- no heard packet of `later` sets the speed to a step, the speed of the locomotive is a stop at the
-- end.
abbrev pub LastStopOfTrackStops : Type 0
LastStopOfTrackStops =
    (halves : List ℕ) (before : List Packet) (stop : Packet) (later : List Packet) (who who' : Who)
    (start now : RegisterMap) → ArePackets (before ++ stop ∷ later) halves → HasHeardHalves halves who start who' now
    → is_some (start SpeedRegister) ≡ true → hears who stop ≡ true → is_stop_packet stop ≡ true
    → list_any can_move (heard who later) ≡ false → is_standing (now SpeedRegister) ≡ true

-- let the half-bits `halves` change bit k of CV n. Then `halves` contain a write to the decoder's
-- own address that sets this bit while an equal write is pending.
abbrev pub CvsOfTrackChangeByWrites : Type 0
CvsOfTrackChangeByWrites =
    (halves : List ℕ) (packets : List Packet) (who who' : Who) (start now : RegisterMap) (n k : ℕ)
    → ArePackets packets halves → HasHeardHalves halves who start who' now
    → now (CvBit n k) ≢ start (CvBit n k) → SetByWrite who start packets n k

-- let no write be pending in the registers `start`, and let the half-bits `halves` change bit k of
-- CV n. Then `halves` contain two copies of a write to the decoder's own address that set this bit.
abbrev pub CvsOfTrackChangeByTwoCopies : Type 0
CvsOfTrackChangeByTwoCopies =
    (halves : List ℕ) (packets : List Packet) (who who' : Who) (start now : RegisterMap) (n k : ℕ)
    → ArePackets packets halves → HasHeardHalves halves who start who' now
    → start PendingRegister ≡ Some (PendingValue None)
    → now (CvBit n k) ≢ start (CvBit n k) → SetByTwoCopies who start packets n k

-- if the decoder hears no write to its own address in `halves`, bit k of CV n does not change
abbrev pub CvsOfTrackStayWithoutWrites : Type 0
CvsOfTrackStayWithoutWrites =
    (halves : List ℕ) (packets : List Packet) (who who' : Who) (start now : RegisterMap) (n k : ℕ)
    → ArePackets packets halves → HasHeardHalves halves who start who' now
    → list_any is_own_write (heard who packets) ≡ false → now (CvBit n k) ≡ start (CvBit n k)

-- no list of half-bits changes bit k of CV n if n is 7 or 8
abbrev pub ReadOnlyCvsStayOnTrack : Type 0
ReadOnlyCvsStayOnTrack =
    (halves : List ℕ) (who who' : Who) (start now : RegisterMap) (n k : ℕ) → HasHeardHalves halves who start who' now
    → is_read_only n ≡ true → now (CvBit n k) ≡ start (CvBit n k)
