-- A theorem: a packet that is stored as bytes and read again is unchanged.
use Rattle.std.specs.Prelude.{◌≡◌, ◌⊎◌, ℕ, ◌-◌, List, [], length, replicate}
use Rattle.std.proofs.Common.{◌∙◌, sym, ap, subst}
use Rattle.std.proofs.Math.Seq.{take-append_seam}
use Rattle.dcc_packet.specs.declared.packet.Packet.{Packet}
use Rattle.dcc_wire.specs.Frames.{IsFrame}
use Rattle.dcc_c.specs.declared.frame.DccFrame.{DccFrame}
use Rattle.dcc_c.specs.declared.kept_packet.KeptPacket.TheInside.{Inside}
use Rattle.dcc_c.specs.Frames.{bytes_of, frame_numbers}
use Rattle.dcc_c.specs.KeptPackets.{kept_bytes, KeptBy, KeptBy-prop}

-- bytes that are stored in a C structure and read again are unchanged
pub bytes_back : (bytes : List ℕ) → bytes_of (frame_numbers bytes) ≡ bytes
bytes_back bytes = take-append_seam bytes (replicate (6 - length bytes) 0)

abbrev pub packet_of : Inside → Packet
packet_of k = k.says.0

-- the C structure `k` has the bytes of a frame, or no bytes. All further bytes are zeros.
abbrev pub IsKeptPacket : Inside → Type 0
IsKeptPacket k = ((bytes_of k.frame ≡ []) ⊎ IsFrame (bytes_of k.frame)) × (k.frame ≡ frame_numbers (bytes_of k.frame))

abbrev pub kept_packet : Packet → Inside
kept_packet p = record { frame = frame_numbers (kept_bytes p); says = (p, sym (bytes_back (kept_bytes p))) }

inside : (f : DccFrame) → KeptBy (bytes_of f) → Inside
inside f says = record { frame = f; says = says }

same_inside : (f g : DccFrame) → f ≡ g → (s : KeptBy (bytes_of f)) (t : KeptBy (bytes_of g)) → inside f s ≡ inside g t
same_inside f g e =
    subst (λ (h : DccFrame). (s : KeptBy (bytes_of f)) (t : KeptBy (bytes_of h)) → inside f s ≡ inside h t) e
    (λ s t. ap (inside f) (KeptBy-prop (bytes_of f) s t))

pub kept_packet_back : (k : Inside) → IsKeptPacket k → kept_packet (packet_of k) ≡ k
unfolding inside
kept_packet_back k good =
    same_inside (frame_numbers (kept_bytes k.says.0)) k.frame
    (ap frame_numbers k.says.1 ∙ sym good.1) (k.says.0, sym (bytes_back (kept_bytes k.says.0))) k.says
