use Rattle.dcc_packet.proofs.FieldsBack.{put_both}
use Rattle.dcc_packet.proofs.field.Tuple2Field.put.Goals as goal

pub returns-clause-bytes : goal.returns-clause-bytes
returns-clause-bytes g c =
    put_both (g.A.Field.field.written c.args.self.now.0) (g.B.Field.field.written c.args.self.now.1)
    c.args.line.now.bytes _ _ c.put.ensures.bytes c.put-2.ensures.bytes
