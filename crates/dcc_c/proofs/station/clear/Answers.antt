use Rattle.std.proofs.Common.{sym, subst, []}
use Rattle.dcc_station.specs.Refresh.{StationRepresents, made}
use Rattle.dcc_station.specs.Sending.{Sending}
use Rattle.dcc_c.proofs.station.clear.Goals as goal

pub returns-clause-stands : goal.returns-clause-stands
returns-clause-stands c =
    subst (λ (s : Sending). StationRepresents s [] []) (sym c.set_sizes.ensures)
    (made c.args.queue c.args.slots c.args.repeats c.requires.some)
