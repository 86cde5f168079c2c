-- Fleets that hear half-bits. The functions `who` and `registers` give the identity and the
-- registers of a decoder, so that a fleet can have decoders of any type.
use Rattle.std.specs.Prelude.{◌≡◌, ℕ, List, ◌++◌, map}
use Rattle.std.specs.List.{AllZip}
use Rattle.std.specs.Option.{option_to_list}
use Rattle.dcc_wire.specs.declared.seen.Seen.{Seen}
use Rattle.dcc_wire.specs.Framing.{Rest, StandsFor}
use Rattle.dcc_packet.specs.declared.packet.Packet.{Packet}
use Rattle.dcc_packet.specs.Spelling.{spelling}
use Rattle.dcc_regs.specs.declared.register.Who.{Who}
use Rattle.dcc_regs.specs.Result.{RegisterMap, HasHeard}
use Rattle.dcc_order.specs.Hearing.{HasHeardHalves, packet_frame}

-- each decoder of the list `old` hears `packets`, and is then the decoder at the same place of the
-- list `new`
abbrev pub EachHears : {A : Type 0} → (A → Who) → (A → RegisterMap) → List Packet → List A → List A → Type 0
EachHears who registers packets old new =
    AllZip (λ one now. HasHeard packets (who one) (registers one) (who now) (registers now)) old new

-- `packets` is the list with the packet of the outcome `shown`. If `shown` is no packet, `packets`
-- is empty.
abbrev pub AreShownBy : List Packet → Seen → Type 0
AreShownBy packets shown = map spelling packets ≡ option_to_list (packet_frame shown)

-- if the outcome `shown` is a packet, each decoder of the list `old` hears this packet, and is then
-- the decoder at the same place of `new`. Otherwise `new` equals `old`.
pub record EachHearsSeen {A : Type 0} (who : A → Who) (registers : A → RegisterMap) (shown : Seen) (old new : List A)
    : Type 0 where
  -- there is a list `packets` with the packet of `shown`, or an empty list if `shown` is no packet
  pub spelled : (packets : List Packet) × AreShownBy packets shown
  -- each decoder hears the packets of this list
  pub each : (packets : List Packet) → AreShownBy packets shown → EachHears who registers packets old new

-- each decoder of the list `old` hears the packets in `halves`, and is then the decoder at the same
-- place of the list `new`
abbrev pub EachHearsHalves : {A : Type 0} → (A → Who) → (A → RegisterMap) → List ℕ → List A → List A → Type 0
EachHearsHalves who registers halves old new =
    AllZip (λ one now. HasHeardHalves halves (who one) (registers one) (who now) (registers now)) old new

-- each decoder of `members` has heard `halves`. Before these half-bits it had the identity and the
-- registers at the same place of the list `starts`.
abbrev pub HaveHeardSince : {A : Type 0} → (A → Who) → (A → RegisterMap) → List (Who × RegisterMap) → List ℕ → List A
    → Type 0
HaveHeardSince who registers starts halves members =
    AllZip (λ start now. HasHeardHalves halves start.0 start.1 (who now) (registers now)) starts members

-- if the decoders `old` have heard all half-bits that `framer` represents, the decoders `new` have
-- heard these half-bits followed by `more`
abbrev pub HearMore : {A : Type 0} → (A → Who) → (A → RegisterMap) → Rest → List ℕ → List A → List A → Type 0
HearMore who registers framer more old new =
    (halves : List ℕ) → StandsFor framer halves → (starts : List (Who × RegisterMap))
    → HaveHeardSince who registers starts halves old → HaveHeardSince who registers starts (halves ++ more) new
