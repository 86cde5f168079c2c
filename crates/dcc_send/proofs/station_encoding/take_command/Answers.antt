use Rattle.std.proofs.Common.{ℕ, List, ◌++◌, sym, ap, subst, ◌∙◌}
use Rattle.dcc_io.specs.Held.{HoldsOrFails}
use Rattle.dcc_send.proofs.StationLemmas.{refused_by, refused_is, answers_accepted, answers_refused}
use Rattle.dcc_send.proofs.station_encoding.take_command.Goals as goal

pub returns-in-Ok : goal.returns-in-Ok
returns-in-Ok g c how =
    let is = sym (ap refused_by c.in-Ok.is)
    ∙ refused_is c.args.station.now c.args.packet c.command.result c.command.ensures.not_sendable
    c.command.ensures.full c.command.ensures.comes_back in
    answers_accepted how c.args.station.now c.command.new.self c.args.packet _ c.args.held.now is
    (rw c.in-Ok.is at c.command.ensures.ok)

pub returns-in-Err : goal.returns-in-Err
returns-in-Err g c how =
    let is = sym (ap refused_by c.in-Err.is)
    ∙ refused_is c.args.station.now c.args.packet c.command.result c.command.ensures.not_sendable
    c.command.ensures.full c.command.ensures.comes_back in
    answers_refused how c.args.station.now c.command.new.self c.args.packet c.in-Err.refused _ _ c.args.held.now
    c.hold.new.self c.hold.result is (rw c.in-Err.is at c.command.ensures.err)
    (subst (λ (line : List ℕ). HoldsOrFails (g.W.Sink.state c.args.writer.now)
    (c.args.held.now ++ line) c.hold.result c.hold.new.self
    (g.W.Sink.state c.hold.new.writer)) c.refusal_line.ensures.line
    c.hold.ensures)
