-- What is sent is heard: packets, and a frame half by half.
use Rattle.std.proofs.Common.{◌≡◌, ◌∙◌, ℕ, ◌+◌, List, [], ◌∷◌, ◌++◌, map, length, ap, sym, subst, refl, ◌-◌}
use Rattle.std.proofs.Common.{append_assoc, append-nil}
use Rattle.std.proofs.lemmas.List.{append_cancel_left}
use Rattle.dcc_wire.specs.Sending.{Sent, sent, sent_all, at_last_halves, AllFrames}
use Rattle.dcc_wire.proofs.SendingLemmas.{seen-sent_all}
use Rattle.dcc_wire.specs.declared.seen.Seen.{Seen}
use Rattle.dcc_wire.specs.declared.seen.Seen.TheVariants.{Nothing, Packet as PacketSeen}
use Rattle.dcc_wire.specs.Framing.{Rest, seen, report_at}
use Rattle.dcc_wire.specs.Frames.{IsFrame}
use Rattle.dcc_packet.specs.Spelling.{spelling}
use Rattle.dcc_packet.proofs.FrameSpellings as frames
use Rattle.dcc_order.specs.Hearing.{ArePackets}
use Rattle.dcc_order.specs.SendingLaws.{SentPacket, spelled_out, SentPacketsAreHeard, NothingElseIsSeen}
use Rattle.dcc_order.specs.SendingLaws.{SentPacketIsDone}
use Rattle.dcc_order.specs.OneMoreHalf.{StandsForOneMore, ShowsAtOneMore}
use Rattle.dcc_order.specs.SentHalves.{last_seen, HasComeBehind, HasHeardAll, IsBeingSent, SendingBegins, NothingIsSeen}
use Rattle.dcc_order.specs.SentHalves.{SomethingIsSeen, FrameIsSeen, FramesAreHeard}
use Rattle.dcc_order.proofs.AlikeCuts.{holds}
use Rattle.dcc_order.proofs.HearingLemmas.{frames_among}

pub all_frames : (sent : List SentPacket) → AllFrames (map spelled_out sent)
unfolding AllFrames
all_frames [] = tt
all_frames (one ∷ more) = (frames.spellings_are_frames one.packet one.fits, all_frames more)

pub nothing_else_is_seen : NothingElseIsSeen
nothing_else_is_seen sent = seen-sent_all (map spelled_out sent) (all_frames sent)

pub frames_at_last_halves : (place : ℕ) (all : List SentPacket)
    → map spelling (map (λ (one : SentPacket). one.packet) all)
    ≡ frames_among (at_last_halves place (map spelled_out all))
unfolding at_last_halves
frames_at_last_halves place [] = refl
frames_at_last_halves place (one ∷ more) =
    rw (frames_at_last_halves (place + length (sent (spelling one.packet) one.timing)) more) refl

pub sent_packets_are_heard : SentPacketsAreHeard
sent_packets_are_heard all = frames_at_last_halves 0 all ∙ sym (ap frames_among (nothing_else_is_seen all))

-- one packet that is sent is sent alone
alone : (one : Sent) → sent_all (one ∷ []) ≡ sent one.bytes one.timing ++ []
unfolding sent_all
alone one = refl

pub sent_packet_is_done : SentPacketIsDone
sent_packet_is_done p timing halves who who' start now fits are heard =
    let one : SentPacket = record { packet = p; fits = fits; timing = timing } in
    let all : ArePackets (p ∷ []) (halves ++ []) =
    subst (ArePackets (p ∷ [])) (alone (spelled_out one) ∙ ap (λ hs. hs ++ []) (sym are))
    (sent_packets_are_heard (one ∷ [])) in
    holds (p ∷ []) all heard

last_seen-one : (first : Seen) (more : List (ℕ × Seen)) (at : ℕ × Seen) → last_seen first (more ++ at ∷ []) ≡ at.1
last_seen-one first [] at = refl
last_seen-one first (next ∷ more) at = last_seen-one next.1 more at

-- what is kept at one half more
keeps_old : (more : List (ℕ × Seen)) (place : ℕ) (answer kept : Seen) → kept ≡ last_seen Nothing more
    → answer ≡ Nothing → kept ≡ last_seen Nothing (more ++ report_at place answer)
unfolding report_at
keeps_old more place Nothing kept e is = e ∙ ap (last_seen Nothing) (sym (append-nil more))
keeps_old more place answer kept e is = absurd (cc)

keeps_new : (more : List (ℕ × Seen)) (place : ℕ) (answer : Seen) → (answer ≡ Nothing → ⊥)
    → answer ≡ last_seen Nothing (more ++ report_at place answer)
unfolding report_at
keeps_new more place Nothing some = absurd (some refl)
keeps_new more place answer some = sym (last_seen-one Nothing more (place, answer))

-- one half more has come
one_more : {track halves left later : List ℕ} {framer next : Rest} {us : ℕ} (answer : Seen) {kept now : Seen}
    → (c : HasComeBehind track halves left framer kept) → left ≡ us ∷ later → StandsForOneMore framer us next
    → ShowsAtOneMore framer us answer
    → now ≡ last_seen Nothing (c.more ++ report_at (length (track ++ c.come)) answer)
    → HasComeBehind track halves later next now
one_more {track = track} {later = later} {us = us} answer c is stands sees last =
    record {
      come = c.come ++ us ∷ [];
      parts = rw (append_assoc c.come (us ∷ []) later, ← is) c.parts;
      stands = rw (← append_assoc track c.come (us ∷ [])) (stands (track ++ c.come) c.stands);
      more = c.more ++ report_at (length (track ++ c.come)) answer;
      sees = rw (← append_assoc track c.come (us ∷ []), sees (track ++ c.come) c.stands, c.sees)
          (append_assoc (seen track) c.more (report_at (length (track ++ c.come)) answer));
      last = last;
    }

pub sending_begins : SendingBegins
unfolding IsBeingSent
sending_begins start one left is = λ track stands. record {
  come = [];
  parts = is;
  stands = rw (append-nil track) stands;
  more = [];
  sees = ap seen (append-nil track) ∙ sym (append-nil (seen track));
  last = refl;
}

pub nothing_is_seen : NothingIsSeen
unfolding IsBeingSent
nothing_is_seen start framer next one left later us answer kept sending is quiet goes_on shows = λ track stands.
    let c = sending track stands in
    one_more answer c is goes_on shows (keeps_old c.more (length (track ++ c.come)) answer kept c.last quiet)

pub something_is_seen : SomethingIsSeen
unfolding IsBeingSent
something_is_seen start framer next one left later us answer kept sending is goes_on shows told = λ track stands.
    let c = sending track stands in
    one_more answer c is goes_on shows (keeps_new c.more (length (track ++ c.come)) answer told)

sent_all-more : (before : List Sent) (one : Sent)
    → sent_all (before ++ one ∷ []) ≡ sent_all before ++ sent one.bytes one.timing
unfolding sent_all
sent_all-more [] one = append-nil (sent one.bytes one.timing)
sent_all-more (p ∷ before) one =
    rw (sent_all-more before one, append_assoc (sent p.bytes p.timing) (sent_all before) (sent one.bytes one.timing))
    refl

frames-more : (before : List Sent) (one : Sent) → AllFrames before → IsFrame one.bytes → AllFrames (before ++ one ∷ [])
unfolding AllFrames
frames-more [] one all f = (f, tt)
frames-more (p ∷ before) one all f = (all.0, frames-more before one all.1 f)

seen-more : (place : ℕ) (before : List Sent) (one : Sent)
    → (n : ℕ)
    × (at_last_halves place (before ++ one ∷ []) ≡ at_last_halves place before ++ (n, PacketSeen one.bytes) ∷ [])
unfolding at_last_halves
seen-more place [] one = (place + length (sent one.bytes one.timing) - 1, refl)
seen-more place (p ∷ before) one =
    let later = seen-more (place + length (sent p.bytes p.timing)) before one in (later.0, rw later.1 refl)

-- all of the frame has come
all_come : (before : List Sent) (one : Sent) (left come : List ℕ) → left ≡ [] → come ++ left ≡ sent one.bytes one.timing
    → sent_all before ++ come ≡ sent_all (before ++ one ∷ [])
all_come before one left come none parts =
    rw (sent_all-more before one, ← parts, none, append-nil come) refl

pub frame_is_seen : FrameIsSeen
unfolding IsBeingSent HasHeardAll
frame_is_seen start framer one left kept before sending none f heard =
    let c = sending (sent_all before) heard.1 in
    let last = seen-more 0 before one in
    let shown = rw (seen-sent_all before heard.0) at
    (sym c.sees ∙ ap seen (all_come before one left c.come none c.parts)
    ∙ seen-sent_all (before ++ one ∷ []) (frames-more before one heard.0 f) ∙ last.1) in
    c.last ∙ ap (last_seen Nothing) (append_cancel_left (at_last_halves 0 before) c.more
    ((last.0, PacketSeen one.bytes) ∷ []) shown)

pub frames_are_heard : FramesAreHeard
unfolding IsBeingSent HasHeardAll
frames_are_heard start framer one left kept before sending none f heard =
    let c = sending (sent_all before) heard.1 in
    (frames-more before one heard.0 f, rw (← all_come before one left c.come none c.parts) c.stands)
