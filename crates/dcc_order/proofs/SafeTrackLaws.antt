-- Decoders that hear half-bits are safe, since they hear the packets of these half-bits.
use Rattle.std.proofs.Common.{◌∷◌, ◌++◌, ◌∙◌, ap}
use Rattle.dcc_regs.specs.declared.register.Register.TheVariants.{Speed as SpeedRegister, CvBit}
use Rattle.dcc_regs.specs.Safety.{is_standing}
use Rattle.dcc_regs.proofs.SafetyLemmas as regs
use Rattle.dcc_regs.proofs.CvChanges as cvs
use Rattle.dcc_order.specs.SafeTracks.{StandingLocoStandsOnTrack, OnlySpeedPacketsOfTrackMove, LastStopOfTrackStops}
use Rattle.dcc_order.specs.SafeTracks.{CvsOfTrackChangeByWrites, CvsOfTrackChangeByTwoCopies}
use Rattle.dcc_order.specs.SafeTracks.{CvsOfTrackStayWithoutWrites, ReadOnlyCvsStayOnTrack}
use Rattle.dcc_order.proofs.AlikeCuts.{holds}

pub standing_loco_stands : StandingLocoStandsOnTrack
standing_loco_stands halves packets who who' start now are h calm s =
    ap (λ m. is_standing (m SpeedRegister)) (holds packets are h)
    ∙ regs.standing_loco_stands who start packets calm s

pub only_speed_packets_move : OnlySpeedPacketsOfTrackMove
only_speed_packets_move halves packets who who' start now are h calm s =
    ap (λ m. is_standing (m SpeedRegister)) (holds packets are h)
    ∙ regs.only_speed_packets_move who start packets calm s

pub last_stop_stops : LastStopOfTrackStops
last_stop_stops halves before stop later who who' start now are h there hear stops calm =
    ap (λ m. is_standing (m SpeedRegister)) (holds (before ++ stop ∷ later) are h)
    ∙ regs.last_stop_stops who start before stop later there hear stops calm

pub cvs_change_by_writes : CvsOfTrackChangeByWrites
cvs_change_by_writes halves packets who who' start now n k are h changed =
    cvs.cvs_change_by_writes who start packets n k
    (λ same. changed (ap (λ m. m (CvBit n k)) (holds packets are h) ∙ same))

pub cvs_change_by_two_copies : CvsOfTrackChangeByTwoCopies
cvs_change_by_two_copies halves packets who who' start now n k are h none changed =
    cvs.cvs_change_by_two_copies who start packets n k none
    (λ same. changed (ap (λ m. m (CvBit n k)) (holds packets are h) ∙ same))

pub cvs_stay_without_writes : CvsOfTrackStayWithoutWrites
cvs_stay_without_writes halves packets who who' start now n k are h calm =
    ap (λ m. m (CvBit n k)) (holds packets are h)
    ∙ cvs.cvs_stay_without_writes who start packets n k calm

pub read_only_cvs_stay : ReadOnlyCvsStayOnTrack
read_only_cvs_stay halves who who' start now n k h r =
    ap (λ m. m (CvBit n k)) h.heard.registers ∙ cvs.read_only_cvs_stay who start h.packets n k r
