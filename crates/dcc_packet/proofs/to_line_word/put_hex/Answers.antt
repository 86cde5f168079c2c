use Rattle.std.proofs.lemmas.Str.{IsUtf8-from_ascii}
use Rattle.hex.specs.Hex.{encode_lower}
use Rattle.dcc_packet.proofs.HexText.{IsAscii-encode_lower}
use Rattle.dcc_packet.proofs.to_line_word.put_hex.Goals as goal

pub unreachable-requires : goal.unreachable-requires
unreachable-requires c =
    let written = rw c.unwrap.ensures at c.encode_to_slice.ensures.written in
    c.in-Err.ensures.cases.0
    (rw written (IsUtf8-from_ascii (encode_lower c.args.bytes.now) (IsAscii-encode_lower c.args.bytes.now)))
