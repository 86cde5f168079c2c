-- A layout obeys its commands: an invariant of its calls, and the registers at the end.
use Rattle.std.proofs.Common.{◌≡◌, ◌≢◌, ℕ, ◌+◌, true, List, [], ◌∷◌, ◌++◌, length, map, refl, sym, ap, ◌∙◌}
use Rattle.std.proofs.Common.{inl, inr, append_assoc, append-nil, arith, subst}
use Rattle.std.specs.Prelude.{◌==◌, Bool, filter, if◌then◌else◌}
use Rattle.std.specs.List.{AllZip, flat_map}
use Rattle.std.proofs.lemmas.Grind.{flat_map-append}
use Rattle.std.proofs.lemmas.Bool.Decides.{nat_tests}
use Rattle.std.proofs.lemmas.List.{append_cancel_left, map-append}
use Rattle.std.proofs.lemmas.List.Elements.{filter-append}
use Rattle.dcc_wire.specs.declared.halves.Halves.{Halves}
use Rattle.dcc_wire.specs.declared.kept.KeptFramer.{KeptFramer}
use Rattle.dcc_wire.specs.declared.seen.Fault.TheVariants.{BadHalf, SplitBit, TooShort, TooLong, ErrorByte}
use Rattle.dcc_wire.specs.declared.seen.Seen.{Seen}
use Rattle.dcc_wire.specs.declared.seen.Seen.TheVariants.{Nothing, Packet as PacketSeen, Refused}
use Rattle.dcc_wire.specs.declared.timing.Timing.{Timing}
use Rattle.dcc_wire.specs.Frames.{IsFrame}
use Rattle.dcc_wire.specs.Framing.{Rest, Hunting, StandsFor, report_at, rest, rest_at, seen, starts}
use Rattle.dcc_wire.specs.Half.{class_of}
use Rattle.dcc_wire.specs.HalvesLeft.{halves_left}
use Rattle.dcc_wire.specs.Jitter.{AreWithin}
use Rattle.dcc_wire.specs.Kept.{kept_rest}
use Rattle.dcc_wire.specs.Sending.{AllFrames, Sent, at_last_halves, sent, sent_all}
use Rattle.dcc_wire.proofs.HistoryLemmas.{stands_for_nothing}
use Rattle.dcc_wire.proofs.JitterLemmas.{measured-anywhere, same_classes, seen-classes}
use Rattle.dcc_wire.proofs.RecoveryLemmas.{first_after, none_open, sent_all-append}
use Rattle.dcc_wire.proofs.SeenLemmas.{seen-grows}
use Rattle.dcc_packet.specs.declared.packet.Packet.{Packet}
use Rattle.dcc_packet.specs.declared.packet.Packet.TheVariants.{Idle}
use Rattle.dcc_packet.specs.Spelling.{spelling}
use Rattle.dcc_packet.proofs.FrameSpellings as frames
use Rattle.dcc_packet.proofs.OneSpelling as one
use Rattle.dcc_regs.specs.declared.register.Who.{Who}
use Rattle.dcc_regs.specs.declared.register.Register.{Register}
use Rattle.dcc_regs.specs.Heard.{hears, heard}
use Rattle.dcc_regs.specs.Result.{result_of_heard}
use Rattle.dcc_regs.proofs.LawLemmas.{idle_is_unheard}
use Rattle.dcc_station.specs.Sending.{outgoing}
use Rattle.dcc_station.specs.Stops.{StationObeys}
use Rattle.dcc_station.proofs.StopsObeyed.{outgoing_is_the_end, represent_obey, transparent}
use Rattle.dcc_track.specs.declared.answer.TrackAnswer.{TrackAnswer}
use Rattle.dcc_track.specs.Laws.{HearsFrames}
use Rattle.dcc_track.specs.Track.{HearsFrame, TrackState}
use Rattle.dcc_track.proofs.PlainLemmas.{main_only_is_plain}
use Rattle.dcc_c.specs.declared.station_numbers.DccStation.{DccStation}
use Rattle.dcc_c.specs.Frames.{bytes_of, frame_answer, frame_numbers}
use Rattle.dcc_c.specs.KeptPacketLaw.{bytes_back}
use Rattle.dcc_c.specs.Senders.{HasLeft}
use Rattle.dcc_c.specs.Stations.{sending_of}
use Rattle.dcc_c.specs.declared.outcome.DccOutcome.{DccOutcome}
use Rattle.dcc_c.specs.Outcomes.{outcome_seen, seen_at_answer}
use Rattle.dcc_c.specs.Layouts.{Layout, LayoutObeys, IsBetweenBodies, IsMeasuredAs, NothingWaits, frame_passed_on}
use Rattle.dcc_c.specs.Layouts.{begins, accepts_command, stops_all, forgets_entries, returns_frame, begins_packet}
use Rattle.dcc_c.specs.Layouts.{begins_idle_packet, sends_half, takes_measured_half, takes_measured_halves}
use Rattle.dcc_c.specs.Layouts.{hears_frame}
use Rattle.dcc_c.specs.Layouts.{LayoutsObeyCommands, OutgoingEndsCommands, NewFramersAreBetweenBodies}
use Rattle.dcc_c.specs.Layouts.{PacketsEndBetweenBodies}

-- the frames of the packets among outcomes

abbrev frame_shown : Seen → List (List ℕ)
frame_shown (PacketSeen bytes) = bytes ∷ []
frame_shown shown = []

abbrev frames_shown : List (ℕ × Seen) → List (List ℕ)
frames_shown = flat_map (λ (at : ℕ × Seen). frame_shown at.1)

shown_by_both : (a b : List (ℕ × Seen)) → frames_shown (a ++ b) ≡ frames_shown a ++ frames_shown b
shown_by_both = flat_map-append (λ (at : ℕ × Seen). frame_shown at.1)

shown_at : (place : ℕ) (shown : Seen) → frames_shown (report_at place shown) ≡ frame_shown shown
unfolding report_at
shown_at place Nothing = refl
shown_at place (PacketSeen bytes) = refl
shown_at place (Refused fault) = refl

shown_is_passed_on : (answer : ℕ) (outcome : DccOutcome)
    → frame_shown (seen_at_answer answer outcome) ≡ frame_passed_on answer outcome
shown_is_passed_on answer outcome = grind arith

-- the frames of packets that are sent

abbrev sent_frames : List Sent → List (List ℕ)
sent_frames = map (λ (one : Sent). one.bytes)

shown_at_last_halves : (place : ℕ) (packets : List Sent)
    → frames_shown (at_last_halves place packets) ≡ sent_frames packets
unfolding at_last_halves
shown_at_last_halves place [] = refl
shown_at_last_halves place (packet ∷ packets) =
    ap (λ l. packet.bytes ∷ l)
    (shown_at_last_halves (place + length (sent packet.bytes packet.timing)) packets)

all_frames_more : (packets : List Sent) (one : Sent) → AllFrames packets → IsFrame one.bytes
    → AllFrames (packets ++ one ∷ [])
unfolding AllFrames
all_frames_more [] one all frame = (frame, tt)
all_frames_more (packet ∷ packets) one all frame = (all.0, all_frames_more packets one all.1 frame)

sent_all_more : (packets : List Sent) (bytes : List ℕ) (timing : Timing)
    → sent_all (packets ++ (record { bytes = bytes; timing = timing }) ∷ []) ≡ sent_all packets ++ sent bytes timing
unfolding sent_all
sent_all_more packets bytes timing =
    sent_all-append packets ((record { bytes = bytes; timing = timing }) ∷ [])
    ∙ ap (λ l. sent_all packets ++ l) (append-nil (sent bytes timing))

-- each of the sent frames is a frame
one_is_frame : (packets : List Sent) (front : List (List ℕ)) (frame : List ℕ) (back : List (List ℕ))
    → AllFrames packets → sent_frames packets ≡ front ++ frame ∷ back → IsFrame frame
unfolding AllFrames
one_is_frame [] [] frame back all e = absurd (cc)
one_is_frame [] (f ∷ front) frame back all e = absurd (cc)
one_is_frame (packet ∷ packets) [] frame back all e = let same : packet.bytes ≡ frame = cc in subst IsFrame same all.0
one_is_frame (packet ∷ packets) (f ∷ front) frame back all e = one_is_frame packets front frame back all.1 (cc)

frame_is_accepted : (frame : List ℕ) → IsFrame frame → frame_answer frame ≡ 0
frame_is_accepted frame valid = grind (arith, nat_tests, valid.least, valid.most, valid.error_byte)

-- measured half-bits

abbrev AreMeasuredAs : List ℕ → List ℕ → Type 0
AreMeasuredAs us measured = AllZip IsMeasuredAs us measured

exact : (halves : List ℕ) → AreMeasuredAs halves halves
exact [] = tt
exact (us ∷ halves) = (inr refl, exact halves)

measured_both : (a b c d : List ℕ) → AreMeasuredAs a b → AreMeasuredAs c d → AreMeasuredAs (a ++ c) (b ++ d)
measured_both [] [] c d first later = later
measured_both [] (m ∷ b) c d first later = absurd first
measured_both (us ∷ a) [] c d first later = absurd first
measured_both (us ∷ a) (m ∷ b) c d first later = (first.0, measured_both a b c d first.1 later)

-- half-bits `corrected` with errors of at most 3 microseconds have the classes of the half-bits `measured`
record Corrected (halves measured : List ℕ) : Type 0 where
  corrected : List ℕ
  within : AreWithin 3 halves corrected
  classes : map class_of measured ≡ map class_of corrected

correct : (halves measured : List ℕ) → AreMeasuredAs halves measured → Corrected halves measured
correct [] [] all = record { corrected = []; within = tt; classes = refl }
correct [] (m ∷ measured) all = absurd all
correct (us ∷ halves) [] all = absurd all
correct (us ∷ halves) (m ∷ measured) (inl within, all) =
    let c = correct halves measured all in
    record { corrected = m ∷ c.corrected; within = (within, c.within); classes = rw c.classes refl }
correct (us ∷ halves) (m ∷ measured) (inr same, all) =
    let c = correct halves measured all in record {
      corrected = us ∷ c.corrected;
      within = ((omega arith, omega arith), c.within);
      classes = rw (same, c.classes) refl;
    }

same_after : (before measured others : List ℕ) → map class_of measured ≡ map class_of others
    → map class_of (before ++ measured) ≡ map class_of (before ++ others)
same_after before measured others e = simp (map-append, e)

-- if all half-bits of packets were taken, exactly these packets are found after the half-bits `before`
all_found : (before measured : List ℕ) (ones : ℕ) (packets : List Sent) → rest before ≡ Hunting ones
    → AllFrames packets → AreMeasuredAs (sent_all packets) measured
    → frames_shown (seen (before ++ measured)) ≡ frames_shown (seen before) ++ sent_frames packets
all_found before measured ones packets hunts all halves =
    let c = correct (sent_all packets) measured halves in
    let same : seen (before ++ measured) ≡ seen (before ++ sent_all packets) =
    seen-classes (before ++ measured) (before ++ c.corrected) (same_after before measured c.corrected c.classes)
    ∙ ap seen (sym (append-nil (before ++ c.corrected)))
    ∙ measured-anywhere packets before c.corrected [] c.within
    ∙ ap seen (append-nil (before ++ sent_all packets)) in
    ap frames_shown (same ∙ none_open before ones packets hunts all)
    ∙ shown_by_both (seen before) (at_last_halves (length before) packets)
    ∙ ap (λ l. frames_shown (seen before) ++ l) (shown_at_last_halves (length before) packets)

-- the packets of frames
same_packets : (ps qs : List Packet) → map spelling ps ≡ map spelling qs → ps ≡ qs
same_packets [] [] e = refl
same_packets (p ∷ ps) (q ∷ qs) e = rw (one.one_packet p q (cc), same_packets ps qs (cc)) refl
same_packets ps qs e = absurd (cc)

-- a decoder hears one more frame
hears_more : (start now after : TrackState) (frames : List (List ℕ)) (answers : List TrackAnswer) (frame : List ℕ)
    (answer : TrackAnswer) → HearsFrames start frames now answers → HearsFrame now frame after answer
    → HearsFrames start (frames ++ frame ∷ []) after (answers ++ answer ∷ [])
unfolding HearsFrames
hears_more start now after [] [] frame answer is next =
    (after, subst (λ (s : TrackState). HearsFrame s frame after answer) is next, refl)
hears_more start now after [] (a ∷ answers) frame answer none next = absurd none
hears_more start now after (f ∷ frames) [] frame answer none next = absurd none
hears_more start now after (f ∷ frames) (a ∷ answers) frame answer (between, first, later) next =
    (between, first, hears_more between now after frames answers frame answer later next)

-- The station has accepted `commands`. It has returned the packets `done`, whose sending has begun,
-- and then the packets `waiting`. The packets `begun` were sent: `done`, and idle packets.
record FromStation (who : Who) (station : DccStation) (commands : List Packet) (to_send : List (List ℕ))
    (begun : List Sent) : Type 0 where
  done : List Packet
  waiting : List Packet
  played : List Packet
  obeys : StationObeys (sending_of station) commands (done ++ waiting)
  waits : map spelling waiting ≡ to_send
  all : AllFrames begun
  spelled : map spelling played ≡ sent_frames begun
  same : heard who played ≡ heard who done

-- the half-bits of the packets `begun`: `taken` were measured as `measured`, and `before` came before
record OnTrack (sender : Halves) (on_track : List ℕ) (framer : KeptFramer) (begun : List Sent)
    (before measured : List ℕ) : Type 0 where
  ones : ℕ
  hunts : rest before ≡ Hunting ones
  taken : List ℕ
  parts : sent_all begun ≡ taken ++ on_track ++ halves_left sender
  measures : AreMeasuredAs taken measured
  stands : StandsFor (kept_rest framer) (before ++ measured)

-- the frames in the measured half-bits: those that the decoder has heard, and those to be heard
record AtDecoder {D : Type 0} (Is : D → TrackState → Type 0) (start : TrackState) (decoder : D)
    (to_hear : List (List ℕ)) (before measured : List ℕ) : Type 0 where
  frames : List (List ℕ)
  found : frames_shown (seen (before ++ measured)) ≡ frames_shown (seen before) ++ frames ++ to_hear
  now : TrackState
  is : Is decoder now
  answers : List TrackAnswer
  hears : HearsFrames start frames now answers

record LayoutInvariant {D : Type 0} (Is : D → TrackState → Type 0) (start : TrackState) (commands : List Packet)
    (l : Layout D) : Type 0 where
  main_only : start.main_only ≡ true
  begun : List Sent
  before : List ℕ
  measured : List ℕ
  from : FromStation start.decoder.who l.station commands l.to_send begun
  track : OnTrack l.sender l.on_track l.framer begun before measured
  at : AtDecoder Is start l.decoder l.to_hear before measured

-- the station accepts a command, stops or forgets
other_station : {who : Who} {station new : DccStation} {commands others : List Packet} {to_send : List (List ℕ)}
    {begun : List Sent}
    → ((packets : List Packet) → StationObeys (sending_of station) commands packets
    → StationObeys (sending_of new) others packets)
    → FromStation who station commands to_send begun → FromStation who new others to_send begun
other_station goes_on f = record {
  done = f.done;
  waiting = f.waiting;
  played = f.played;
  obeys = goes_on (f.done ++ f.waiting) f.obeys;
  waits = f.waits;
  all = f.all;
  spelled = f.spelled;
  same = f.same;
}

-- the station returns a packet
one_returned : {who : Who} {station : DccStation} {commands : List Packet} {to_send : List (List ℕ)}
    {begun : List Sent} (new : DccStation) (p : Packet)
    → ((all packets : List Packet) → StationObeys (sending_of station) all packets
    → StationObeys (sending_of new) all (packets ++ p ∷ []))
    → FromStation who station commands to_send begun
    → FromStation who new commands (to_send ++ spelling p ∷ []) begun
one_returned {commands = commands} new p goes_on f = record {
  done = f.done;
  waiting = f.waiting ++ p ∷ [];
  played = f.played;
  obeys = rw append_assoc at (goes_on commands (f.done ++ f.waiting) f.obeys);
  waits = map-append spelling f.waiting (p ∷ []) ∙ ap (λ l. l ++ spelling p ∷ []) f.waits;
  all = f.all;
  spelled = f.spelled;
  same = f.same;
}

-- one more frame is begun
more_begun : (played : List Packet) (begun : List Sent) (p : Packet) (frame : List ℕ) (timing : Timing)
    → map spelling played ≡ sent_frames begun → spelling p ≡ frame
    → map spelling (played ++ p ∷ []) ≡ sent_frames (begun ++ (record { bytes = frame; timing = timing }) ∷ [])
more_begun played begun p frame timing so_far is =
    map-append spelling played (p ∷ [])
    ∙ rw (so_far, is) refl
    ∙ sym (map-append (λ (one : Sent). one.bytes) begun ((record { bytes = frame; timing = timing }) ∷ []))

-- the sending of the next frame begins
next_begun : {who : Who} {station : DccStation} {commands : List Packet} {begun : List Sent} (frame : List ℕ)
    (later : List (List ℕ)) (timing : Timing) → IsFrame frame
    → FromStation who station commands (frame ∷ later) begun
    → FromStation who station commands later (begun ++ (record { bytes = frame; timing = timing }) ∷ [])
next_begun {who} {station} {commands} {begun} frame later timing valid f = go f.waiting f.waits f.obeys
  where
    go : (waiting : List Packet) → map spelling waiting ≡ frame ∷ later
        → StationObeys (sending_of station) commands (f.done ++ waiting)
        → FromStation who station commands later (begun ++ (record { bytes = frame; timing = timing }) ∷ [])
    go [] waits obeys = absurd (cc)
    go (p ∷ waiting) waits obeys = record {
      done = f.done ++ p ∷ [];
      waiting = waiting;
      played = f.played ++ p ∷ [];
      obeys = rw append_assoc obeys;
      waits = cc;
      all = all_frames_more begun (record { bytes = frame; timing = timing }) f.all valid;
      spelled = more_begun f.played begun p frame timing f.spelled (cc);
      same = filter-append (hears who) f.played (p ∷ [])
          ∙ ap (λ l. l ++ filter (hears who) (p ∷ [])) f.same
          ∙ sym (filter-append (hears who) f.done (p ∷ []));
    }

-- the sending of an idle packet begins, which no decoder hears
idle_begun : {who : Who} {station : DccStation} {commands : List Packet} {to_send : List (List ℕ)}
    {begun : List Sent} (timing : Timing) → FromStation who station commands to_send begun
    → FromStation who station commands to_send (begun ++ (record { bytes = spelling Idle; timing = timing }) ∷ [])
idle_begun {who} {begun = begun} timing f =
    let unheard : filter (hears who) (Idle ∷ []) ≡ [] = rw (idle_is_unheard who) refl in
    record {
      done = f.done;
      waiting = f.waiting;
      played = f.played ++ Idle ∷ [];
      obeys = f.obeys;
      waits = f.waits;
      all = all_frames_more begun (record { bytes = spelling Idle; timing = timing }) f.all
          (frames.spellings_are_frames Idle tt);
      spelled = more_begun f.played begun Idle (spelling Idle) timing f.spelled refl;
      same = filter-append (hears who) f.played (Idle ∷ [])
          ∙ ap (λ l. filter (hears who) f.played ++ l) unheard ∙ append-nil (heard who f.played) ∙ f.same;
    }

-- the first half-bit of a packet is still to be sent
packet_on_track : {sender : Halves} {on_track : List ℕ} {framer : KeptFramer} {begun : List Sent}
    {before measured : List ℕ} (new : Halves) (frame : List ℕ) (timing : Timing) → halves_left sender ≡ []
    → halves_left new ≡ sent frame timing → OnTrack sender on_track framer begun before measured
    → OnTrack new on_track framer (begun ++ (record { bytes = frame; timing = timing }) ∷ []) before measured
packet_on_track {on_track = on_track} {begun = begun} new frame timing none left t = record {
  ones = t.ones;
  hunts = t.hunts;
  taken = t.taken;
  parts = sent_all_more begun frame timing
      ∙ ap (λ l. l ++ sent frame timing) (t.parts ∙ rw none (append-nil (t.taken ++ on_track)))
      ∙ ap (λ l. t.taken ++ on_track ++ l) (sym left);
  measures = t.measures;
  stands = t.stands;
}

-- the sender sends a half-bit
half_on_track : {sender : Halves} {on_track : List ℕ} {framer : KeptFramer} {begun : List Sent}
    {before measured : List ℕ} (us : ℕ) (new : Halves) → halves_left sender ≡ us ∷ halves_left new
    → OnTrack sender on_track framer begun before measured
    → OnTrack new (on_track ++ us ∷ []) framer begun before measured
half_on_track {on_track = on_track} us new left t = record {
  ones = t.ones;
  hunts = t.hunts;
  taken = t.taken;
  parts = t.parts ∙ ap (λ l. t.taken ++ on_track ++ l) left
      ∙ sym (append_assoc (t.taken ++ on_track) (us ∷ []) (halves_left new))
      ∙ ap (λ l. l ++ halves_left new) (append_assoc t.taken on_track (us ∷ []));
  measures = t.measures;
  stands = t.stands;
}

-- the framer takes half-bits
halves_taken : {sender : Halves} {later : List ℕ} {framer : KeptFramer} {begun : List Sent} {before measured : List ℕ}
    (us here : List ℕ) (new : KeptFramer) → AreMeasuredAs us here
    → ((halves : List ℕ) → StandsFor (kept_rest framer) halves → StandsFor (kept_rest new) (halves ++ here))
    → OnTrack sender (us ++ later) framer begun before measured
    → OnTrack sender later new begun before (measured ++ here)
halves_taken {sender} {later} {before = before} {measured} us here new measures stands t = record {
  ones = t.ones;
  hunts = t.hunts;
  taken = t.taken ++ us;
  parts = t.parts ∙ ap (λ l. l ++ halves_left sender) (sym (append_assoc t.taken us later));
  measures = measured_both t.taken measured us here t.measures measures;
  stands = subst (StandsFor (kept_rest new)) (append_assoc before measured here)
      (stands (before ++ measured) t.stands);
}

-- the framer finds a frame, or nothing
frame_found : {D : Type 0} {Is : D → TrackState → Type 0} {start : TrackState} {decoder : D}
    {to_hear : List (List ℕ)} {before measured : List ℕ} (here : List ℕ) (place answer : ℕ) (outcome : DccOutcome)
    → seen ((before ++ measured) ++ here)
    ≡ seen (before ++ measured) ++ report_at place (seen_at_answer answer outcome)
    → AtDecoder Is start decoder to_hear before measured
    → AtDecoder Is start decoder (to_hear ++ frame_passed_on answer outcome) before (measured ++ here)
frame_found {to_hear = to_hear} {before} {measured} here place answer outcome sees a =
    let old : List (List ℕ) = frames_shown (seen before) in
    let shown : Seen = seen_at_answer answer outcome in
    record {
      frames = a.frames;
      found = ap (λ l. frames_shown (seen l)) (sym (append_assoc before measured here))
          ∙ ap frames_shown sees
          ∙ shown_by_both (seen (before ++ measured)) (report_at place shown)
          ∙ rw (shown_at place shown, a.found, shown_is_passed_on answer outcome)
          (append_assoc (old ++ a.frames) to_hear (frame_passed_on answer outcome));
      now = a.now;
      is = a.is;
      answers = a.answers;
      hears = a.hears;
    }

-- a frame that the framer has found was sent, so it is a frame
found_is_frame : {D : Type 0} {Is : D → TrackState → Type 0} {start : TrackState} {decoder : D} {sender : Halves}
    {on_track : List ℕ} {framer : KeptFramer} {begun : List Sent} {before measured : List ℕ} (frame : List ℕ)
    (later : List (List ℕ)) → AllFrames begun → OnTrack sender on_track framer begun before measured
    → AtDecoder Is start decoder (frame ∷ later) before measured → IsFrame frame
found_is_frame {sender = sender} {on_track} {begun = begun} {before} {measured} frame later all t a =
    let more : List ℕ = on_track ++ halves_left sender in
    let old : List (List ℕ) = frames_shown (seen before) in
    let halves : AreMeasuredAs (sent_all begun) (measured ++ more) =
    subst (λ (l : List ℕ). AreMeasuredAs l (measured ++ more))
    (sym (t.parts ∙ append_assoc t.taken on_track (halves_left sender)))
    (measured_both t.taken measured more more t.measures (exact more)) in
    let grown = seen-grows (before ++ measured) more in
    let both : old ++ sent_frames begun ≡ old ++ (a.frames ++ frame ∷ (later ++ frames_shown grown.0)) =
    sym (all_found before (measured ++ more) t.ones begun t.hunts all halves)
    ∙ ap (λ l. frames_shown (seen l)) (sym (append_assoc before measured more))
    ∙ ap frames_shown grown.1
    ∙ shown_by_both (seen (before ++ measured)) grown.0
    ∙ ap (λ l. l ++ frames_shown grown.0) a.found
    ∙ append_assoc (old ++ a.frames) (frame ∷ later) (frames_shown grown.0)
    ∙ append_assoc old a.frames (frame ∷ (later ++ frames_shown grown.0)) in
    one_is_frame begun a.frames frame (later ++ frames_shown grown.0) all
    (append_cancel_left old (sent_frames begun) (a.frames ++ frame ∷ (later ++ frames_shown grown.0)) both)

-- the decoder hears a frame
frame_heard : {D : Type 0} {Is : D → TrackState → Type 0} {start : TrackState} {decoder : D}
    {before measured : List ℕ} (frame : List ℕ) (later : List (List ℕ)) (new : D) (after : TrackState)
    (answer : TrackAnswer) (a : AtDecoder Is start decoder (frame ∷ later) before measured) → Is new after
    → HearsFrame a.now frame after answer → AtDecoder Is start new later before measured
frame_heard {start = start} {before = before} frame later new after answer a is next = record {
  frames = a.frames ++ frame ∷ [];
  found = a.found ∙ sym (append_assoc (frames_shown (seen before) ++ a.frames) (frame ∷ []) later)
      ∙ ap (λ l. l ++ later) (append_assoc (frames_shown (seen before)) a.frames (frame ∷ []));
  now = after;
  is = is;
  answers = a.answers ++ answer ∷ [];
  hears = hears_more start a.now after a.frames a.answers frame answer a.hears next;
}

-- the invariant from its three parts
abbrev obey : {D : Type 0} {Is : D → TrackState → Type 0} {start : TrackState} {commands : List Packet} {l : Layout D}
    {begun : List Sent} {before measured : List ℕ} → start.main_only ≡ true
    → FromStation start.decoder.who l.station commands l.to_send begun
    → OnTrack l.sender l.on_track l.framer begun before measured
    → AtDecoder Is start l.decoder l.to_hear before measured → LayoutInvariant Is start commands l
obey {begun = begun} {before} {measured} main_only from track at = record {
  main_only = main_only;
  begun = begun;
  before = before;
  measured = measured;
  from = from;
  track = track;
  at = at;
}

obeying : {D : Type 0} {Is : D → TrackState → Type 0} (start : TrackState) (commands : List Packet) (l : Layout D)
    → LayoutObeys Is start commands l → LayoutInvariant Is start commands l
unfolding StandsFor AllFrames HearsFrames sent_all
obeying start _ _ (begins station sender framer decoder main_only stands left between is) =
    let old : List (List ℕ) = frames_shown (seen between.halves) in
    obey {begun = []} {before = between.halves} {measured = []} main_only
    (record {
      done = [];
      waiting = [];
      played = [];
      obeys = represent_obey (sending_of station) [] [] stands;
      waits = refl;
      all = tt;
      spelled = refl;
      same = refl;
    })
    (record {
      ones = between.ones;
      hunts = sym between.stands ∙ between.hunts;
      taken = [];
      parts = sym left;
      measures = tt;
      stands = rw append-nil between.stands;
    })
    (record {
      frames = [];
      found = ap (λ l. frames_shown (seen l)) (append-nil between.halves) ∙ sym (append-nil old)
          ∙ sym (append-nil (old ++ []));
      now = start;
      is = is;
      answers = [];
      hears = refl;
    })
obeying start _ _ (accepts_command commands l station p so_far obeys) =
    let o = obeying start commands l so_far in
    obey o.main_only (other_station (obeys commands) o.from) o.track o.at
obeying start _ _ (stops_all done l station so_far obeys) =
    let o = obeying start (done ++ outgoing (sending_of l.station)) l so_far in
    obey o.main_only (other_station (obeys done) o.from) o.track o.at
obeying start _ _ (forgets_entries commands l station so_far obeys) =
    let o = obeying start commands l so_far in
    obey o.main_only (other_station (obeys commands) o.from) o.track o.at
obeying start _ _ (returns_frame commands l station frame p so_far is obeys) =
    let o = obeying start commands l so_far in
    let bytes : bytes_of frame ≡ spelling p = ap bytes_of is ∙ bytes_back (spelling p) in
    obey o.main_only (rw bytes (one_returned station p obeys o.from)) o.track o.at
obeying start _ _ (begins_packet commands l frame later timing sender so_far next none valid left) =
    let o = obeying start commands l so_far in
    let from = subst (λ (frames : List (List ℕ)). FromStation start.decoder.who l.station commands frames o.begun) next
    o.from in
    obey o.main_only (next_begun frame later timing valid from)
    (packet_on_track sender frame timing none left o.track) o.at
obeying start _ _ (begins_idle_packet commands l timing sender so_far none left) =
    let o = obeying start commands l so_far in
    obey o.main_only (idle_begun timing o.from) (packet_on_track sender (spelling Idle) timing none left o.track) o.at
obeying start _ _ (sends_half commands l us sender so_far left) =
    let o = obeying start commands l so_far in
    obey o.main_only o.from (half_on_track us sender left o.track) o.at
obeying start _ _
    (takes_measured_half commands l us here later framer answer outcome so_far next measures stands sees) =
    let o = obeying start commands l so_far in
    let track = subst (λ (halves : List ℕ). OnTrack l.sender halves l.framer o.begun o.before o.measured) next
    o.track in
    obey o.main_only o.from (halves_taken (us ∷ []) (here ∷ []) framer (measures, tt) stands track)
    (frame_found (here ∷ []) _ answer outcome (sees (o.before ++ o.measured) o.track.stands) o.at)
obeying start _ _
    (takes_measured_halves commands l us here later at framer answer outcome so_far next measures stands sees) =
    let o = obeying start commands l so_far in
    let track = subst (λ (halves : List ℕ). OnTrack l.sender halves l.framer o.begun o.before o.measured) next
    o.track in
    obey o.main_only o.from (halves_taken us here framer measures stands track)
    (frame_found here _ answer outcome (sees (o.before ++ o.measured) o.track.stands) o.at)
obeying {Is = Is} start _ _ (hears_frame commands l frame later decoder answer so_far next executes) =
    let o = obeying start commands l so_far in
    let a = subst (λ (frames : List (List ℕ)). AtDecoder Is start l.decoder frames o.before o.measured) next o.at in
    let valid : IsFrame frame = found_is_frame frame later o.from.all o.track a in
    let h = executes (frame_is_accepted frame valid) a.now a.is in
    obey o.main_only o.from o.track (frame_heard frame later decoder h.0 h.1 a h.2 h.3)

-- the end

pub layouts_obey_commands : {D : Type 0} (Is : D → TrackState → Type 0) → LayoutsObeyCommands Is
layouts_obey_commands Is start commands l is nothing =
    let o = obeying start commands l is in
    let f = o.from in
    let a = o.at in
    let who : Who = start.decoder.who in
    let old : List (List ℕ) = frames_shown (seen o.before) in
    let whole : sent_all o.begun ≡ o.track.taken =
    o.track.parts ∙ ap (λ (halves : List ℕ). o.track.taken ++ l.on_track ++ halves) nothing.half_bits
    ∙ append-nil (o.track.taken ++ l.on_track) ∙ ap (λ (halves : List ℕ). o.track.taken ++ halves) nothing.on_track
    ∙ append-nil o.track.taken in
    let halves : AreMeasuredAs (sent_all o.begun) o.measured =
    subst (λ (halves : List ℕ). AreMeasuredAs halves o.measured) (sym whole) o.track.measures in
    let all : a.frames ≡ sent_frames o.begun =
    append_cancel_left old a.frames (sent_frames o.begun)
    (sym (append-nil (old ++ a.frames))
    ∙ ap (λ (l : List (List ℕ)). old ++ a.frames ++ l) (sym nothing.to_hear)
    ∙ sym a.found
    ∙ all_found o.before o.measured o.track.ones o.begun o.track.hunts f.all halves) in
    let plain = main_only_is_plain start a.now a.frames a.answers o.main_only a.hears in
    let played : plain.packets ≡ f.played =
    same_packets plain.packets f.played (plain.spelled ∙ all ∙ sym f.spelled) in
    let done : f.done ++ f.waiting ≡ f.done =
    ap (λ (waiting : List Packet). f.done ++ waiting) (same_packets f.waiting [] (f.waits ∙ nothing.to_send))
    ∙ append-nil f.done in
    let obeys : StationObeys (sending_of l.station) commands f.done =
    subst (StationObeys (sending_of l.station) commands) done f.obeys in (
      a.now,
      a.is,
      plain.heard.same_who,
      λ register other.
          ap (λ (m : Register → _). m register) plain.heard.registers
          ∙ ap (λ (packets : List Packet). result_of_heard start.decoder.registers packets register)
          (ap (heard who) played ∙ f.same)
          ∙ transparent (sending_of l.station) commands f.done obeys nothing.commands who
          start.decoder.registers register other,
    )

pub outgoing_ends_commands : {D : Type 0} (Is : D → TrackState → Type 0) → OutgoingEndsCommands Is
outgoing_ends_commands Is start commands l is =
    let f = (obeying start commands l is).from in
    outgoing_is_the_end (sending_of l.station) commands (f.done ++ f.waiting) f.obeys

-- framers between two bodies

pub new_framers_are_between_bodies : NewFramersAreBetweenBodies
unfolding StandsFor
new_framers_are_between_bodies framer stands =
    record { halves = []; stands = stands; ones = 0; hunts = stands ∙ sym stands_for_nothing }

rest_of_classes : (halves others : List ℕ) → map class_of halves ≡ map class_of others → rest halves ≡ rest others
unfolding rest
rest_of_classes halves others e = ap (λ classes. rest_at classes (starts classes)) e

pub packets_end_between_bodies : PacketsEndBetweenBodies
unfolding StandsFor sent_all
packets_end_between_bodies framer noise measured frame timing valid measures stands =
    let one : Sent = record { bytes = frame; timing = timing } in
    let c = correct (sent frame timing) measured measures in
    let whole : map class_of measured ≡ map class_of (sent frame timing) =
    c.classes ∙ rw append-nil at (same_classes (one ∷ []) c.corrected (rw append-nil c.within)) in
    let after = first_after noise one valid in
    let classes : map class_of (noise ++ measured) ≡ map class_of (noise ++ sent frame timing) =
    same_after noise measured (sent frame timing) whole in
    record {
      halves = noise ++ measured;
      stands = stands;
      ones = after.ones;
      hunts = stands ∙ rest_of_classes (noise ++ measured) (noise ++ sent frame timing) classes ∙ after.open_part;
    }
