use Rattle.dcc_plain.proofs.StandardLaws.{read_of}
use Rattle.dcc_plain.proofs.packet_from_bytes.standard_read.Goals as goal

pub returns-clause-row : goal.returns-clause-row
returns-clause-row c =
    read_of c.args.bytes.now c.standard_row.result c.standard_row.ensures.found c.standard_row.ensures.none
