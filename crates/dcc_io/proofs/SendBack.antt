-- How many packets a station is asked to send, written and read again.
use Rattle.std.proofs.Common.{◌<◌, nat_le, refl, arith}
use Rattle.std.proofs.lemmas.Bool.{and_parts, leb-true}
use Rattle.dcc_packet.specs.Fields.{IsReadBack}
use Rattle.dcc_packet.proofs.Tokens.{decimal_token}
use Rattle.dcc_packet.proofs.WordsBack.{number-decimal}
use Rattle.dcc_io.specs.declared.station_line.SendCount.{SendCount}
use Rattle.dcc_io.specs.StationLines.{send_field}

few : (send : SendCount) → send_field.Fits send → send.count < 65536
few send fits = omega
    (arith, leb-true send.count 1000 (and_parts (nat_le 1 send.count) (nat_le send.count 1000) fits).1)

pub send_is_back : IsReadBack send_field
send_is_back =
    record {
      back = λ send rest fits. rw (number-decimal send.count (few send fits), fits) refl;
      tokens = λ send fits. (decimal_token send.count (few send fits), tt);
    }
