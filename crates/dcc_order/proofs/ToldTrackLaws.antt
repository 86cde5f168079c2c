-- A track that comes half by half: a decoder hears it, and a listener is told what the decoder hears.
use Rattle.std.proofs.Common.{◌≡◌, ℕ, ◌+◌, ◌<◌, true, false, List, [], ◌∷◌, ◌++◌, length, take, inl, inr}
use Rattle.std.proofs.Common.{slice_index_or, refl, subst}
use Rattle.std.proofs.lemmas.Bool.{cases_Bool}
use Rattle.std.proofs.lemmas.List.{take_more, take_all}
use Rattle.std.proofs.lemmas.List.Elements.{filter-append}
use Rattle.dcc_wire.specs.Framing.{Rest}
use Rattle.dcc_wire.specs.declared.seen.Seen.{Seen}
use Rattle.dcc_wire.specs.declared.seen.Seen.TheVariants.{Packet as PacketSeen}
use Rattle.dcc_wire.specs.declared.frame.Frame.{Frame}
use Rattle.dcc_packet.specs.declared.packet.Packet.{Packet}
use Rattle.dcc_regs.specs.Heard.{heard, hears}
use Rattle.dcc_regs.specs.Notes.{Note}
use Rattle.dcc_regs.specs.Result.{RegisterMap, HasHeard}
use Rattle.dcc_regs.specs.declared.register.Who.{Who}
use Rattle.dcc_regs.proofs.InParts.{heard_more, heard_nothing}
use Rattle.dcc_order.specs.Fleets.{AreShownBy}
use Rattle.dcc_order.specs.OneMoreHalf.{StandsForOneMore, ShowsAtOneMore}
use Rattle.dcc_order.specs.ToldTracks.{IsTold, HaveCome, WereHeardAndTold}
use Rattle.dcc_order.specs.ToldTracks.{NoHalfHasCome, NoPacketHasCome, PacketIsTold, PacketIsPassedOver}
use Rattle.dcc_order.specs.ToldTracks.{PacketIsHeardAndTold, TrackIsHeard, TrackIsTold}
use Rattle.dcc_order.proofs.HearingLemmas.{packets_more, no_packets, one_list_of_packets}

told_more : {L : Type 0} (told : L → Note → L → Type 0) (first more : List Packet) (a b c : L) → IsTold told first a b
    → IsTold told more b c → IsTold told (first ++ more) a c
told_more told [] more a b c e f = subst (λ l. IsTold told more l c) e f
told_more told (p ∷ first) more a b c e f = (e.0, e.1, told_more told first more e.0 b c e.2 f)

-- an answer that is no packet spells none
none_spelled : (answer : Seen) → ((frame : Frame) → answer ≡ PacketSeen frame → ⊥) → AreShownBy [] answer
none_spelled (PacketSeen frame) never = absurd (never frame refl)
none_spelled answer never = refl

-- one half more, with the packets that it shows
one_half : {L : Type 0} {told : L → Note → L → Type 0} (track : List ℕ) (n : ℕ) {framer next : Rest} (answer : Seen)
    (shown : List Packet) {who who' who'' : Who} {start now after : RegisterMap} {a b c : L}
    → WereHeardAndTold told (take n track) framer who start who' now a b → n < length track
    → StandsForOneMore framer (slice_index_or track n 0) next → ShowsAtOneMore framer (slice_index_or track n 0) answer
    → AreShownBy shown answer
    → HasHeard shown who' now who'' after → IsTold told (heard who shown) b c
    → WereHeardAndTold told (take (n + 1) track) next who start who'' after a c
one_half {told = told} track n answer shown {who = who} {a = a} {b = b} {c = c} come in_track stands sees spelled hear
    tell =
    rw (take_more track n 0 in_track) (record {
      stands = stands (take n track) come.stands;
      packets = come.packets ++ shown;
      seen = packets_more (take n track) (take n track ++ slice_index_or track n 0 ∷ []) answer (length (take n track))
          come.packets shown (sees (take n track) come.stands) come.seen spelled;
      heard_all = heard_more come.heard_all hear;
      told_all = rw (filter-append (hears who) come.packets shown)
          (told_more told (heard who come.packets) (heard who shown) a b c come.told_all tell);
    })

pub no_half_has_come : {L : Type 0} (told : L → Note → L → Type 0) → NoHalfHasCome told
unfolding HaveCome
no_half_has_come {L} told framer who start listener stands =
    record { stands = stands; packets = []; seen = no_packets; heard_all = heard_nothing who start; told_all = refl }

pub no_packet_has_come : {L : Type 0} (told : L → Note → L → Type 0) → NoPacketHasCome told
unfolding HaveCome
no_packet_has_come {L} told track n framer next answer who who' start now a b come in_track stands sees never =
    one_half track n answer [] come in_track stands sees
    (none_spelled answer never) (heard_nothing who' now) refl

pub packet_is_told : {L : Type 0} (told : L → Note → L → Type 0) → PacketIsTold told
unfolding HaveCome
packet_is_told {L} told track n framer next answer frame p who who' who'' asked start now after is_heard a b c come
    in_track stands sees is spelled same stepped asks hear so tell =
    let heard_it : hears who p ≡ true = cc (come.heard_all.same_who) in
    one_half track n answer (p ∷ []) come in_track stands sees (rw (is, spelled) refl)
    (record { same_who = same; registers = stepped }) (rw heard_it (c, tell, refl))

pub packet_is_passed_over : {L : Type 0} (told : L → Note → L → Type 0) → PacketIsPassedOver told
unfolding HaveCome
packet_is_passed_over {L} told track n framer next answer frame p who who' who'' asked start now after is_heard a b
    come in_track stands sees is spelled same stepped asks hear so =
    let heard_it : hears who p ≡ false = cc (come.heard_all.same_who) in
    one_half track n answer (p ∷ []) come in_track stands sees (rw (is, spelled) refl)
    (record { same_who = same; registers = stepped }) (rw heard_it refl)

pub packet_is_heard_and_told : {L : Type 0} (told : L → Note → L → Type 0) → PacketIsHeardAndTold told
unfolding HaveCome
packet_is_heard_and_told {L} told track n framer next answer p who who' who'' start now after a b c takes come is stands
    sees in_track =
    let as_before = rw come.heard_all.same_who at takes in
    one_half track n answer (p ∷ []) come in_track stands sees (rw is refl) takes.heard
    (elim (cases_Bool (hears who p)) [
      | inl e ↦ rw e (c, as_before.tells e, refl)
      | inr e ↦ rw e (as_before.passes_over e)
    ])

pub track_is_heard : {L : Type 0} (told : L → Note → L → Type 0) → TrackIsHeard told
unfolding HaveCome
track_is_heard {L} told track n framer who who' start now a b come all = record {
  packets = come.packets;
  seen = rw (take_all n track all) at come.seen;
  heard = come.heard_all;
}

pub track_is_told : {L : Type 0} (told : L → Note → L → Type 0) → TrackIsTold told
unfolding HaveCome
track_is_told {L} told track n framer who who' start now a b packets come all are =
    rw (one_list_of_packets track packets come.packets are (rw (take_all n track all) at come.seen)) come.told_all
