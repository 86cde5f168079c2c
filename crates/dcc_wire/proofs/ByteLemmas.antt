-- The bytes of packets.
use Rattle.std.proofs.Common.{ℕ, suc, zero, ◌<◌, List, [], ◌∷◌, arith}
use Rattle.std.specs.Prelude.{slice_index}
use Rattle.dcc_wire.specs.Frames.{AllBytes}

pub AllBytes-of : (bytes : List ℕ) → ((i : ℕ) → slice_index bytes i < 256) → AllBytes bytes
unfolding AllBytes
AllBytes-of [] each = tt
AllBytes-of (byte ∷ bytes) each = (each 0, AllBytes-of bytes (λ i. each (suc i)))

pub AllBytes-index : (bytes : List ℕ) → AllBytes bytes → (i : ℕ) → slice_index bytes i < 256
unfolding AllBytes
AllBytes-index [] all i = omega arith
AllBytes-index (byte ∷ bytes) all zero = all.0
AllBytes-index (byte ∷ bytes) all (suc i) = AllBytes-index bytes all.1 i
