-- The word of a command line that names a decoder.
use Rattle.std.specs.Prelude.{◌==◌, slice_index, drop, Option, Result, Ok, Err, if◌then◌else◌}
use Rattle.dcc_packet.specs.declared.accessory.Board.{Board}
use Rattle.dcc_packet.specs.declared.address.Address.{Address}
use Rattle.dcc_packet.specs.declared.fault.PacketFault.{PacketFault}
use Rattle.dcc_packet.specs.Words.{Word}
use Rattle.dcc_packet.specs.LineWords.{◌>>=◌, number}
use Rattle.dcc_packet.specs.Values.{board_of}
use Rattle.dcc_regs.specs.declared.register.Who.{Who}
use Rattle.dcc_regs.specs.declared.register.Who.TheVariants as who
use Rattle.dcc_io.specs.declared.fault.ToolFault.{ToolFault}
use Rattle.dcc_io.specs.declared.fault.ToolFault.TheVariants as faults
use Rattle.dcc_io.specs.declared.fault.Usage.TheVariants as usages
use Rattle.dcc_saved.specs.DecoderLines.{own_address}

-- the locomotive decoder with the active address in a parsed word. If the word has an error, the
-- result is the error U1.
abbrev pub loco_named : Result (Option Address) PacketFault → Result Who ToolFault
loco_named (Ok active) = Ok (who.Loco active)
loco_named (Err fault) = Err (faults.Usage usages.BadWho)

-- the accessory decoder with the number in a parsed word. If the word has an error, the result is
-- the error U1.
abbrev pub board_named : Result Board PacketFault → Result Who ToolFault
board_named (Ok board) = Ok (who.Board board)
board_named (Err fault) = Err (faults.Usage usages.BadWho)

-- the decoder that `word` names. The word of an accessory decoder is `b` (code 98) and then its
-- number. The word of a locomotive decoder is its active address: `none`, or `s` or `l` and then a
-- number.
unfoldable pub who_named : Word → Result Who ToolFault
who_named word =
    if slice_index word 0 == 98 then board_named (number (drop 1 word) >>= board_of)
    else loco_named (own_address word)
