-- One half more.
use Rattle.std.proofs.Common.{◌≡◌, ℕ, List, [], ◌∷◌, ◌++◌, map, refl, sym, ◌∙◌, ap}
use Rattle.std.specs.List.{filter_map}
use Rattle.std.specs.Option.{option_to_list}
use Rattle.std.proofs.lemmas.List.{map-append}
use Rattle.std.proofs.lemmas.List.Elements.{filter_map-append}
use Rattle.dcc_wire.specs.declared.seen.Seen.{Seen}
use Rattle.dcc_wire.specs.declared.seen.Seen.TheVariants.{Packet as PacketSeen}
use Rattle.dcc_wire.specs.Framing.{seen, report_at}
use Rattle.dcc_wire.proofs.SeenLemmas.{seen-none}
use Rattle.dcc_packet.specs.declared.packet.Packet.{Packet}
use Rattle.dcc_packet.specs.Spelling.{spelling}
use Rattle.dcc_packet.proofs.OneSpelling as one
use Rattle.dcc_regs.specs.declared.register.Who.{Who}
use Rattle.dcc_regs.specs.Result.{RegisterMap, HasHeard}
use Rattle.dcc_regs.proofs.InParts.{heard_nothing, heard_more}
use Rattle.dcc_order.specs.Hearing.{packet_frame, ArePackets, HasHeardHalves}
use Rattle.dcc_order.specs.Fleets.{AreShownBy}
use Rattle.dcc_order.specs.HearingLaws.{NoHalvesHeard, OneListOfPackets}

-- the frames of all packets in a list of outcomes
abbrev pub frames_among : List (ℕ × Seen) → List (List ℕ)
frames_among outcomes = filter_map (λ at. packet_frame at.1) outcomes

pub frames_in-append : (a b : List (ℕ × Seen)) → frames_among (a ++ b) ≡ frames_among a ++ frames_among b
frames_in-append a b = filter_map-append (λ at. packet_frame at.1) a b

frames_in-reported : (place : ℕ) (answer : Seen)
    → frames_among (report_at place answer) ≡ option_to_list (packet_frame answer)
unfolding report_at
frames_in-reported place (PacketSeen frame) = refl
frames_in-reported place answer = refl

-- a half more adds the packets that it shows
pub packets_more : (halves more : List ℕ) (answer : Seen) (place : ℕ) (packets shown : List Packet)
    → seen more ≡ seen halves ++ report_at place answer
    → ArePackets packets halves → AreShownBy shown answer → ArePackets (packets ++ shown) more
packets_more halves more answer place packets shown e before now =
    rw (e, map-append spelling packets shown, frames_in-append, frames_in-reported, before, now) refl

pub heard_half : {who who' who'' : Who} {m m' m'' : RegisterMap} (halves more : List ℕ) (answer : Seen) (place : ℕ)
    (shown : List Packet) → seen more ≡ seen halves ++ report_at place answer
    → AreShownBy shown answer → HasHeardHalves halves who m who' m' → HasHeard shown who' m' who'' m''
    → HasHeardHalves more who m who'' m''
heard_half halves more answer place shown e spelled before now = record {
  packets = before.packets ++ shown;
  seen = packets_more halves more answer place before.packets shown e before.seen spelled;
  heard = heard_more before.heard now;
}

pub same_packets : (ps qs : List Packet) → map spelling ps ≡ map spelling qs → ps ≡ qs
same_packets [] [] e = refl
same_packets (p ∷ ps) (q ∷ qs) e = rw (one.one_packet p q (cc), same_packets ps qs (cc)) refl
same_packets ps qs e = absurd (cc)

pub no_packet : (packets : List Packet) → map spelling packets ≡ [] → packets ≡ []
no_packet packets = same_packets packets []

pub one_packet : (packets : List Packet) (frame : List ℕ) (p : Packet) → ((q : Packet) → spelling q ≡ frame → q ≡ p)
    → map spelling packets ≡ frame ∷ [] → packets ≡ p ∷ []
one_packet (q ∷ []) frame p only e = let same : spelling q ≡ frame = cc in rw (only q same) refl
one_packet packets frame p only e = absurd (cc)

pub one_list_of_packets : OneListOfPackets
one_list_of_packets halves ps qs e f = same_packets ps qs (e ∙ sym f)

-- no halves hold no packets
pub no_packets : ArePackets [] []
no_packets = ap frames_among (sym seen-none)

pub no_halves_heard : NoHalvesHeard
no_halves_heard who start = record { packets = []; seen = no_packets; heard = heard_nothing who start }
