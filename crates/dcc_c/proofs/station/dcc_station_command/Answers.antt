use Rattle.std.proofs.Common.{◌∙◌, ◌++◌, ◌∷◌, [], sym, subst}
use Rattle.dcc_station.specs.Refresh.{StationRepresents, accepts}
use Rattle.dcc_station.specs.Sending.{Sending}
use Rattle.dcc_station.specs.Stops.{StationObeys, accepts as accepts_one}
use Rattle.dcc_c.specs.Stations.{sending_of}
use Rattle.dcc_c.proofs.station.dcc_station_command.Goals as goal

pub returns-in-Ok-clause-stands : goal.returns-in-Ok-clause-stands
returns-in-Ok-clause-stands c = λ ok.
    let packet = c.read.result in
    let sendable = c.accept.ensures.sendable ok in (
      packet,
      (c.in-Ok.ensures.2, c.read.ensures.spelled ∙ c.in-Ok.ensures.0),
      λ commands packets from. subst (λ (s : Sending). StationRepresents s (commands ++ packet ∷ []) packets)
          (sym (c.accept.ensures.ok ok))
          (accepts (sending_of c.args.station.now) commands packets packet from sendable.0 sendable.1),
    )

pub returns-in-Ok-clause-obeys : goal.returns-in-Ok-clause-obeys
returns-in-Ok-clause-obeys c = λ ok.
    let packet = c.read.result in
    let sendable = c.accept.ensures.sendable ok in (
      packet,
      (c.in-Ok.ensures.2, c.read.ensures.spelled ∙ c.in-Ok.ensures.0),
      λ commands packets from. subst (λ (s : Sending). StationObeys s (commands ++ packet ∷ []) packets)
          (sym (c.accept.ensures.ok ok))
          (accepts_one (sending_of c.args.station.now) commands packets packet from sendable.0 sendable.1),
    )
