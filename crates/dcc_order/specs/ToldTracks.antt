-- A track whose half-bits come one after the other. A decoder hears the track, and a listener is
-- notified of the packets that the decoder hears.
use Rattle.std.specs.Prelude.{ℕ, ◌+◌, ◌≡◌, ◌<◌, ◌≤◌, Bool, true, false, List, [], ◌∷◌, length, take, slice_index_or}
use Rattle.dcc_wire.specs.Framing.{Rest, StandsFor}
use Rattle.dcc_wire.specs.declared.seen.Seen.{Seen}
use Rattle.dcc_wire.specs.declared.seen.Seen.TheVariants.{Packet as PacketSeen}
use Rattle.dcc_wire.specs.declared.frame.Frame.{Frame}
use Rattle.dcc_packet.specs.declared.packet.Packet.{Packet}
use Rattle.dcc_packet.specs.Spelling.{spelling}
use Rattle.dcc_regs.specs.declared.register.Who.{Who}
use Rattle.dcc_regs.specs.Heard.{heard, hears}
use Rattle.dcc_regs.specs.Notes.{Note, note_of, IsHeardAndTold}
use Rattle.dcc_regs.specs.Result.{RegisterMap, HasHeard, step}
use Rattle.dcc_order.specs.Hearing.{ArePackets, HasHeardHalves}
use Rattle.dcc_order.specs.OneMoreHalf.{StandsForOneMore, ShowsAtOneMore}

-- a listener was notified of each packet of a list in order, by the callback for the kind of the
-- packet. These callbacks changed the listener from `old` to `now`. `told` says how a callback
-- changes a listener.
abbrev pub IsTold : {L : Type 0} → (L → Note → L → Type 0) → List Packet → L → L → Type 0
IsTold told [] old now = now ≡ old
IsTold {L} told (p ∷ later) old now = (between : L) × told old (note_of p) between × IsTold told later between now

-- `framer` took the half-bits `halves`, and the decoder heard the packets in these half-bits. The
-- listener was notified of those packets that the decoder hears.
pub record WereHeardAndTold {L : Type 0} (told : L → Note → L → Type 0) (halves : List ℕ) (framer : Rest) (who : Who)
    (start : RegisterMap) (who' : Who) (now : RegisterMap) (listener listener' : L) : Type 0 where
  pub stands : StandsFor framer halves
  pub packets : List Packet
  pub seen : ArePackets packets halves
  pub heard_all : HasHeard packets who start who' now
  pub told_all : IsTold told (heard who packets) listener listener'

-- a framer, a decoder and a listener have received the half-bits `halves`. Clients use this
-- definition only through the theorems below.
unfoldable pub HaveCome : {L : Type 0} → (L → Note → L → Type 0) → List ℕ → Rest → Who → RegisterMap → Who → RegisterMap
    → L → L → Type 0
HaveCome told halves framer who start who' now listener listener' =
    WereHeardAndTold told halves framer who start who' now listener listener'

-- if a framer represents the empty list of half-bits, the framer, any decoder and any listener have
-- received the empty list
abbrev pub NoHalfHasCome : {L : Type 0} → (L → Note → L → Type 0) → Type 0
NoHalfHasCome {L} told = (framer : Rest) (who : Who) (start : RegisterMap) (listener : L) → StandsFor framer []
    → HaveCome told [] framer who start who start listener listener

-- after a half-bit that completes no packet, the decoder and the listener are unchanged
abbrev pub NoPacketHasCome : {L : Type 0} → (L → Note → L → Type 0) → Type 0
NoPacketHasCome {L} told =
    (track : List ℕ) (n : ℕ) (framer next : Rest) (answer : Seen) (who who' : Who) (start now : RegisterMap)
    (listener listener' : L) → HaveCome told (take n track) framer who start who' now listener listener'
    → n < length track → StandsForOneMore framer (slice_index_or track n 0) next
    → ShowsAtOneMore framer (slice_index_or track n 0) answer
    → ((frame : Frame) → answer ≡ PacketSeen frame → ⊥)
    → HaveCome told (take (n + 1) track) next who start who' now listener listener'

-- let a half-bit complete a packet, and let the decoder hear this packet. Then the decoder has
-- heard the packet, and the listener was notified of it.
abbrev pub PacketIsTold : {L : Type 0} → (L → Note → L → Type 0) → Type 0
PacketIsTold {L} told =
    (track : List ℕ) (n : ℕ) (framer next : Rest) (answer : Seen) (frame : Frame) (p : Packet)
    (who who' who'' asked : Who)
    (start now after : RegisterMap) (is_heard : Bool) (listener listener' listener'' : L)
    → HaveCome told (take n track) framer who start who' now listener listener'
    → n < length track → StandsForOneMore framer (slice_index_or track n 0) next
    → ShowsAtOneMore framer (slice_index_or track n 0) answer → answer ≡ PacketSeen frame
    → spelling p ≡ frame → who'' ≡ who' → after ≡ step who' now p → asked ≡ who'' → is_heard ≡ hears asked p
    → is_heard ≡ true → told listener' (note_of p) listener''
    → HaveCome told (take (n + 1) track) next who start who'' after listener listener''

-- let a half-bit complete a packet, and let the decoder not hear this packet. Then the listener is
-- unchanged.
abbrev pub PacketIsPassedOver : {L : Type 0} → (L → Note → L → Type 0) → Type 0
PacketIsPassedOver {L} told =
    (track : List ℕ) (n : ℕ) (framer next : Rest) (answer : Seen) (frame : Frame) (p : Packet)
    (who who' who'' asked : Who)
    (start now after : RegisterMap) (is_heard : Bool) (listener listener' : L)
    → HaveCome told (take n track) framer who start who' now listener listener'
    → n < length track → StandsForOneMore framer (slice_index_or track n 0) next
    → ShowsAtOneMore framer (slice_index_or track n 0) answer → answer ≡ PacketSeen frame
    → spelling p ≡ frame → who'' ≡ who' → after ≡ step who' now p → asked ≡ who'' → is_heard ≡ hears asked p
    → is_heard ≡ false
    → HaveCome told (take (n + 1) track) next who start who'' after listener listener'

-- after a half-bit that completes a packet, one call can both apply the packet to the decoder and
-- notify the listener
abbrev pub PacketIsHeardAndTold : {L : Type 0} → (L → Note → L → Type 0) → Type 0
PacketIsHeardAndTold {L} told =
    (track : List ℕ) (n : ℕ) (framer next : Rest) (answer : Seen) (p : Packet) (who who' who'' : Who)
    (start now after : RegisterMap) (listener listener' listener'' : L)
    → IsHeardAndTold told p who' now who'' after listener' listener''
    → HaveCome told (take n track) framer who start who' now listener listener' → answer ≡ PacketSeen (spelling p)
    → StandsForOneMore framer (slice_index_or track n 0) next → ShowsAtOneMore framer (slice_index_or track n 0) answer
    → n < length track → HaveCome told (take (n + 1) track) next who start who'' after listener listener''

-- after all half-bits of `track`, the decoder has heard the packets in `track`
abbrev pub TrackIsHeard : {L : Type 0} → (L → Note → L → Type 0) → Type 0
TrackIsHeard {L} told =
    (track : List ℕ) (n : ℕ) (framer : Rest) (who who' : Who) (start now : RegisterMap) (listener listener' : L)
    → HaveCome told (take n track) framer who start who' now listener listener' → length track ≤ n
    → HasHeardHalves track who start who' now

-- after all half-bits of `track`, the listener was notified of the packets in `track` that the
-- decoder hears
abbrev pub TrackIsTold : {L : Type 0} → (L → Note → L → Type 0) → Type 0
TrackIsTold {L} told =
    (track : List ℕ) (n : ℕ) (framer : Rest) (who who' : Who) (start now : RegisterMap) (listener listener' : L)
    (packets : List Packet) → HaveCome told (take n track) framer who start who' now listener listener'
    → length track ≤ n
    → ArePackets packets track → IsTold told (heard who packets) listener listener'
