use Rattle.std.proofs.Common.{take}
use Rattle.dcc_regs.specs.Result.{HasHeard}
use Rattle.dcc_regs.proofs.applying.apply_all.Given as goal

-- the decoder has heard the packets so far
abbrev pub invariant-loop-packet : goal.invariant-loop-packet
invariant-loop-packet g l =
    HasHeard (take l.packet-index l.packets) (g.D.Decoder.who l.initial.decoder)
    (g.D.Decoder.registers l.initial.decoder)
    (g.D.Decoder.who l.decoder) (g.D.Decoder.registers l.decoder)
