-- The half-bits that a station sends to the rails.
use Rattle.dcc_wire.specs.NominalTimings.{main_timing}
use Rattle.dcc_wire.specs.Sending.{Sent}
use Rattle.dcc_packet.specs.declared.packet.Packet.{Packet}
use Rattle.dcc_packet.specs.Spelling.{spelling}

-- the frame of `packet` with the nominal timing
abbrev pub sent_as : Packet → Sent
sent_as packet = record { bytes = spelling packet; timing = main_timing }
