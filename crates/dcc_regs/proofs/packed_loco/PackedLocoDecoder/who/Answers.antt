use Rattle.dcc_regs.specs.LocoRegisters.{with_cvs}
use Rattle.dcc_regs.proofs.PossibleLemmas.{possible}
use Rattle.dcc_regs.proofs.packed_loco.PackedLocoDecoder.who.Goals as goal

pub returns-clause-possible : goal.returns-clause-possible
returns-clause-possible c =
    possible (with_cvs c.args.self.now.registers c.args.self.now.cvs) c.args.self.now.possible
