use Rattle.std.proofs.Common.{◌≡◌, ◌∷◌, [], get_or, arith, sym, ◌∙◌, ap}
use Rattle.dcc_wire.specs.Frames.{xor_of, with_error_byte}
use Rattle.dcc_service.proofs.FrameLemmas.{four_bytes, spelled_of, only_of}
use Rattle.dcc_service.proofs.packet.ServicePacket.read.Goals as goal
use Rattle.dcc_service.proofs.packet.ServicePacket.read.Goals.{After-instruction}

parts : (c : After-instruction)
    → c.args.frame.now ≡ with_error_byte
    (get_or c.bytes.result.now 0 0 ∷ get_or c.bytes.result.now 1 0 ∷ get_or c.bytes.result.now 2 0 ∷ [])
parts c =
    sym c.bytes.ensures.value
    ∙ four_bytes c.bytes.result.now (omega (arith, c.in-len4.len_at_least, c.in-len4.len_below))
    (ap xor_of c.bytes.ensures.value ∙ c.bytes.ensures.valid.error_byte)

pub returns-in-len4-clause-spelled : goal.returns-in-len4-clause-spelled
returns-in-len4-clause-spelled c =
    spelled_of c.instruction.result _ c.args.frame.now c.instruction.ensures.found (parts c)

pub returns-in-len4-clause-only : goal.returns-in-len4-clause-only
returns-in-len4-clause-only c =
    only_of c.instruction.result _ c.args.frame.now c.instruction.ensures.found c.instruction.ensures.none (parts c)
