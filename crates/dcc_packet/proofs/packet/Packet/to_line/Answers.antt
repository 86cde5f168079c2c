use Rattle.std.proofs.Common.{List, ℕ, subst}
use Rattle.dcc_packet.specs.Words.{words}
use Rattle.dcc_packet.specs.Line.{Says}
use Rattle.dcc_packet.proofs.RoundTrip.{only_answer}
use Rattle.dcc_packet.proofs.packet.Packet.to_line.Goals as goal

pub returns-clause-read_back : goal.returns-clause-read_back
returns-clause-read_back c = λ answer says.
    only_answer c.args.self.now c.written.ensures.fits answer
    (subst (λ (line : List ℕ). Says (words line) answer) c.written.ensures.bytes says)
