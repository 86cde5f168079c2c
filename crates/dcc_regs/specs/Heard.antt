-- The decoders that hear a packet (RCN-211, RCN-213; NMRA S-9.2.1).
use Rattle.std.specs.Prelude.{ℕ, Bool, true, false, ◌&&◌, ◌||◌, ◌==◌, nat_lt, nat_le, ◌+◌, ◌-◌, ◌*◌, ◌/◌, Option}
use Rattle.std.specs.Prelude.{None, Some, List, slice_index, filter, if◌then◌else◌}
use Rattle.std.specs.Option.{option_map_or}
use Rattle.std.specs.List.{starts_with}
use Rattle.std.specs.Result.{result_ok}
use Rattle.dcc_packet.specs.Rows.{address_bytes}
use Rattle.dcc_packet.specs.Spelling.{spelling}
use Rattle.dcc_packet.specs.Values.{long_of, short_of}
use Rattle.dcc_packet.specs.declared.address.Address.{Address}
use Rattle.dcc_packet.specs.declared.address.Address.TheVariants.{Broadcast}
use Rattle.dcc_packet.specs.declared.instruction.What.TheVariants.{Reset}
use Rattle.dcc_packet.specs.declared.packet.Packet.{Packet}
use Rattle.dcc_packet.specs.declared.packet.Packet.TheVariants.{Idle, Loco as ToLoco, Accessory, Signal, Other}
use Rattle.dcc_regs.specs.declared.register.Who.{Who}
use Rattle.dcc_regs.specs.declared.register.Who.TheVariants.{Loco, Board}

-- true if a frame is for a locomotive decoder with the active address `active`. The frame then
-- begins with the byte 0, which is the broadcast address, or with the bytes of `active`.
unfoldable pub is_sent_to : Option Address → List ℕ → Bool
is_sent_to active frame =
    slice_index frame 0 == 0 || option_map_or (λ own. starts_with ◌==◌ frame (address_bytes own)) active false

-- the address of locomotive decoders at the beginning of the frame `bytes`, or `None` if the frame
-- has no such address
abbrev pub frame_address : List ℕ → Option Address
frame_address bytes =
    let first : ℕ = slice_index bytes 0 in
    if first == 0 then Some Broadcast
    else if nat_le first 127 then result_ok (short_of first)
    else if nat_le 192 first && nat_le first 231 then result_ok (long_of ((first - 192) * 256 + slice_index bytes 1))
    else None

-- the address of locomotive decoders to which a packet is sent. If the packet has no such address,
-- the result is `None`.
abbrev pub address_of : Packet → Option Address
address_of (ToLoco to what) = Some to
address_of (Other frame) = frame_address frame.frame
address_of x = None

-- true if the decoder hears the packet. Locomotive decoders hear `Other` packets to their address,
-- and accessory decoders hear no `Other` packets. Of the instructions to locomotive decoders,
-- accessory decoders hear only the reset to the broadcast address. All accessory decoders hear
-- packets to board 511 and to signal 2047. No accessory decoder has the signals 2044 to 2046.
abbrev pub hears : Who → Packet → Bool
hears (Loco active) p = is_sent_to active (spelling p)
hears (Board own) Idle = false
hears (Board own) (ToLoco Broadcast Reset) = true
hears (Board own) (ToLoco to what) = false
hears (Board own) (Accessory board output on) = own.number == board.number || board.number == 511
hears (Board own) (Signal address aspect) =
    address.number == 2047 || (nat_lt address.number 2044 && own.number == address.number / 4)
hears (Board own) (Other frame) = false

-- the packets of a list that decoder `who` hears, in order
abbrev pub heard : Who → List Packet → List Packet
heard who = filter (hears who)
