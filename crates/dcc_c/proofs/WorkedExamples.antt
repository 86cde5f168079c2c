-- Zeros in a C program's memory are a station that has no room. Packets and service packets as fields.
-- Half-bits that are measured with an error.
use Rattle.std.proofs.Common.{◌≡◌, ℕ, true, false, refl, inl, inr, arith, replicate, lit≤}
use Rattle.dcc_packet.specs.declared.cv.BitPlace.{BitPlace}
use Rattle.dcc_packet.specs.declared.cv.CvNumber.{CvNumber}
use Rattle.dcc_packet.specs.declared.packet.Packet.TheVariants.{Idle}
use Rattle.dcc_station.specs.Sending.{idle_sending}
use Rattle.dcc_service.specs.declared.packet.ServicePacket.TheVariants.{BitWrite}
use Rattle.dcc_c.specs.declared.service_packet.DccServicePacket.{DccServicePacket}
use Rattle.dcc_c.specs.declared.station_ring.DccRing.{DccRing}
use Rattle.dcc_c.specs.declared.station_numbers.DccStation.{DccStation}
use Rattle.dcc_c.specs.KeptPacketLaw.{IsKeptPacket}
use Rattle.dcc_c.specs.Layouts.{IsMeasuredAs}
use Rattle.dcc_c.specs.PacketFields.{fault_or_zero, packet_of_fields}
use Rattle.dcc_c.specs.Packets.{of_kind}
use Rattle.dcc_c.specs.ServicePackets.{service_packet_of, service_packet_answer, service_packet_numbers}
use Rattle.dcc_c.specs.Stations.{sending_of}

zeros_keep_idle : IsKeptPacket (record { frame = record { len = 0; bytes = replicate 6 0 }; says = (Idle, refl) })
zeros_keep_idle = (inl refl, refl)

abbrev no_packets : DccRing
no_packets = record {
  packets = replicate 128 Idle;
  start = 0;
  len = 0;
  capacity = 0;
  fits = (omega arith, omega arith, omega arith, refl);
}

abbrev zeros : DccStation
zeros = record {
  commands = no_packets;
  entries = no_packets;
  stopping = false;
  sent = 0;
  repeats = 0;
  few = (omega arith, omega arith);
}

zeros_have_no_room : sending_of zeros ≡ idle_sending 0 0 0
zeros_have_no_room = refl

abbrev fields : ℕ → ℕ → ℕ → DccServicePacket
fields kind cv place = record { cv = cv; kind = kind; value = 10; place = place; one = true }

abbrev cv1024 : CvNumber
cv1024 = record { number = 1024; in_range = (lit≤ tt, lit≤ tt) }

abbrev place5 : BitPlace
place5 = record { place = 5; in_range = lit≤ tt }

record Rows : Type 0 where
  bit_write_of_cv1024 : service_packet_numbers (BitWrite cv1024 place5 true)
      ≡ record { cv = 1024; kind = 8; value = 0; place = 5; one = true }
  kind_5_is_p10 : service_packet_answer (service_packet_of (fields 5 0 8)) ≡ 10
  kind_10_is_p10 : service_packet_answer (service_packet_of (fields 10 1 0)) ≡ 10
  packet_of_kind_13_is_p10 : fault_or_zero (packet_of_fields (of_kind 13)) ≡ 10
  address_of_kind_3_is_p10 : fault_or_zero (packet_of_fields (record (of_kind 1) { to = 3 })) ≡ 10
  group_4_is_p10 : fault_or_zero (packet_of_fields (record (of_kind 4) { group = 4; bits = 255 })) ≡ 10

rows : Rows
rows = record {
  bit_write_of_cv1024 = refl;
  kind_5_is_p10 = refl;
  kind_10_is_p10 = refl;
  packet_of_kind_13_is_p10 = refl;
  address_of_kind_3_is_p10 = refl;
  group_4_is_p10 = refl;
}

record MeasuredRows : Type 0 where
  error_of_6_in_a_nominal_one : IsMeasuredAs 58 64
  error_of_6_in_a_nominal_zero : IsMeasuredAs 100 94
  error_of_3_in_the_longest_one : IsMeasuredAs 61 64
  error_of_4_in_the_longest_one : ¬ IsMeasuredAs 61 65
  error_of_4_in_the_shortest_one : ¬ IsMeasuredAs 55 51

measured_rows : MeasuredRows
measured_rows = record {
  error_of_6_in_a_nominal_one = inr refl;
  error_of_6_in_a_nominal_zero = inr refl;
  error_of_3_in_the_longest_one = inl (omega arith, omega arith);
  error_of_4_in_the_longest_one = elim [ inl within ↦ omega (arith, within) | inr same ↦ cc ];
  error_of_4_in_the_shortest_one = elim [ inl within ↦ omega (arith, within) | inr same ↦ cc ];
}
