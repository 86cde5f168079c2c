use Rattle.std.proofs.Common.{ap, List, ℕ, length}
use Rattle.dcc_c.proofs.FrameLemmas.{six_bytes}
use Rattle.dcc_c.proofs.frame.DccFrame.of.Goals as goal

pub returns : goal.returns
returns c =
    rw (
      c.byte_or_zero.ensures,
      c.byte_or_zero-2.ensures,
      c.byte_or_zero-3.ensures,
      c.byte_or_zero-4.ensures,
      c.byte_or_zero-5.ensures,
      c.byte_or_zero-6.ensures,
    )
    (ap (λ (bytes : List ℕ). record { len = length c.args.bytes.now; bytes = bytes })
    (six_bytes c.args.bytes.now c.requires))
