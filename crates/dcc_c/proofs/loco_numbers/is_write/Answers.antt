use Rattle.std.proofs.Common.{sym, ◌∙◌, ap}
use Rattle.dcc_packet.specs.declared.packet.Packet.TheVariants.{Loco}
use Rattle.dcc_packet.proofs.OneSpelling.{one_packet}
use Rattle.dcc_regs.specs.Loco.{is_byte_write}
use Rattle.dcc_regs.specs.Writes.{is_own_write}
use Rattle.dcc_c.proofs.HeardLemmas.{loco_read, no_loco_byte, no_loco_no_write, no_loco_read}
use Rattle.dcc_c.proofs.loco_numbers.is_write.Goals as goal

pub returns-in-Some-clause-own : goal.returns-in-Some-clause-own
returns-in-Some-clause-own c packet e =
    c.is_own_write.ensures.own
    ∙ ap is_own_write
    (one_packet (Loco c.in-Some.to c.in-Some.what) packet
    (loco_read c.in-Some.to c.in-Some.what c.args.frame.now c.requires c.in-Some.ensures.found ∙ sym e))

pub returns-in-Some-clause-byte : goal.returns-in-Some-clause-byte
returns-in-Some-clause-byte c packet e =
    ap is_byte_write
    (one_packet packet (Loco c.in-Some.to c.in-Some.what)
    (e ∙ sym (loco_read c.in-Some.to c.in-Some.what c.args.frame.now c.requires c.in-Some.ensures.found)))
    ∙ c.is_own_write.ensures.byte

pub returns-in-None-clause-own : goal.returns-in-None-clause-own
returns-in-None-clause-own c packet e =
    sym (no_loco_no_write packet (no_loco_read packet c.args.frame.now c.requires e c.in-None.ensures.none))

pub returns-in-None-clause-byte : goal.returns-in-None-clause-byte
returns-in-None-clause-byte c packet e =
    no_loco_byte packet (no_loco_read packet c.args.frame.now c.requires e c.in-None.ensures.none)
