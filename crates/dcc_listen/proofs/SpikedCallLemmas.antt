-- How the lines of the packets that are found in joined half-bits are written.
use Rattle.std.proofs.Common.{◌≡◌, ◌≢◌, ℕ, ◌+◌, ◌-◌, ◌<◌, ◌≤◌, Bool, List, [], ◌∷◌, ◌++◌, length, replicate, Option}
use Rattle.std.proofs.Common.{Some}
use Rattle.std.proofs.Common.{None, Result, Ok, Err, inl, inr, refl, sym, ap, ◌∙◌, subst, arith, append_assoc}
use Rattle.std.proofs.Common.{append-nil, take}
use Rattle.std.proofs.lemmas.List.{length-take-le}
use Rattle.std.proofs.Common.{length-append, IfSome, if◌then◌else◌}
use Rattle.std.proofs.lemmas.List.{length-replicate, replicate_more}
use Rattle.dcc_lost.specs.declared.joined.SpikedPacket.{SpikedPacket}
use Rattle.dcc_lost.specs.declared.joined.SpikeFinder.{SpikeFinder}
use Rattle.dcc_lost.specs.Joined.{closes, joining_of}
use Rattle.dcc_lost.specs.JoinedLost.{packet_found, packets_closed, packets_closed_after, packets_found, report_found}
use Rattle.dcc_lost.specs.Joining.{Joins}
use Rattle.dcc_lost.proofs.JoinedLemmas.{closed-push}
use Rattle.dcc_io.specs.declared.stream.Failed.{Failed}
use Rattle.dcc_io.specs.declared.word.Run.{Run}
use Rattle.dcc_io.specs.declared.fault.ToolFault.{ToolFault}
use Rattle.dcc_io.specs.declared.fault.ToolFault.TheVariants.{Write}
use Rattle.dcc_io.specs.Failures.{HasRisen}
use Rattle.dcc_io.specs.Held.{Holds}
use Rattle.dcc_io.specs.InputState.{InputState}
use Rattle.dcc_io.specs.WriterState.{WriterState}
use Rattle.dcc_io.specs.WrittenBytes.{AppendsFront}
use Rattle.dcc_io.proofs.HeldLemmas.{Holds-append, Holds-fails, Holds-fails_with, Holds-rest, Holds-same}
use Rattle.dcc_io.proofs.ItemsLemmas.{Gave-append, up_to_fault, uses_all_lines}
use Rattle.dcc_capture.specs.Capture.{AnswersRun, captures}
use Rattle.dcc_capture.specs.HeldRuns.{HoldsLines, WritesRest}
use Rattle.dcc_capture.specs.Listing.{AreLines}
use Rattle.dcc_capture.specs.Shown.{WritesFrontOfLines, WritesLines, WritesLinesOfCapture}
use Rattle.dcc_capture.proofs.ListingLaws.{AreLines-append, AreLines-one}
use Rattle.dcc_capture.proofs.LinesLemmas.{Listing, OnlyAdds}
use Rattle.dcc_listen.specs.SpikedListing.{IsSpikedLine}

-- more half-bits only add packets before the last joined half-bit

pub none_closed : (limit : ℕ) → packets_closed limit [] ≡ []
unfolding packets_closed packets_closed_after
none_closed limit = refl

pub closed_only_adds : (limit : ℕ) → OnlyAdds (packets_closed limit)
closed_only_adds limit halves [] =
    ([], ap (packets_closed limit) (append-nil halves) ∙ sym (append-nil (packets_closed limit halves)))
closed_only_adds limit halves (us ∷ more) =
    let later = closed_only_adds limit (halves ++ us ∷ []) more in
    let here : List (ℕ × SpikedPacket) =
    if closes limit (joining_of limit halves) us then report_found (length halves)
    (packet_found limit halves) else [] in (
      here ++ later.0,
      ap (packets_closed limit) (sym (append_assoc halves (us ∷ []) more)) ∙ later.1
          ∙ ap (λ l. l ++ later.0) (closed-push limit halves us)
          ∙ append_assoc (packets_closed limit halves) here later.0,
    )

-- the line of a packet that is found at the end of so many half-bits
pub spiked_reported : (words : Bool) (count : ℕ) (packet : SpikedPacket) (line : List ℕ) → 0 < count
    → IsSpikedLine words count packet line → AreLines (IsSpikedLine words) (report_found count (Some packet)) line
unfolding report_found
spiked_reported words count packet line some is_line =
    let same : count ≡ (count - 1) + 1 = omega (arith, some) in
    AreLines-one (IsSpikedLine words) (count - 1) packet line
    (subst (λ (n : ℕ). IsSpikedLine words n packet line) same is_line)

pub some_not_none : (packet : SpikedPacket) → Some packet ≢ None
some_not_none packet e = cc

-- the line of the packet at the end of a capture
pub end_lines : (words : Bool) (limit : ℕ) (durations : List ℕ) (count : ℕ) (found : Option SpikedPacket)
    (line : List ℕ) → count ≡ length durations → found ≡ packet_found limit durations
    → AreLines (IsSpikedLine words) (report_found count found) line
    → AreLines (IsSpikedLine words) (report_found (length durations) (packet_found limit durations)) line
end_lines words limit durations count found line counts is lists =
    subst (λ (n : ℕ). AreLines (IsSpikedLine words) (report_found n (packet_found limit durations)) line) counts
    (subst (λ (p : Option SpikedPacket). AreLines (IsSpikedLine words) (report_found count p) line) is lists)

pub rest_behind : (before mid after : WriterState) (bytes left : List ℕ) (answer result : Result (Unit {0}) ToolFault)
    → Holds before mid bytes left → mid.failures ≡ before.failures → WritesRest mid left answer result after
    → WritesRest before bytes answer result after
rest_behind before mid after bytes left answer result holds same (inl wrote) =
    inl (wrote.0, Holds-rest before mid after bytes left holds wrote.1, wrote.2 ∙ same)
rest_behind before mid after bytes left answer result holds same (inr failed) =
    inr (
      failed.0,
      Holds-fails before mid after bytes left holds failed.1,
      subst (λ (n : ℕ). HasRisen n after.failures)
          same failed.2,
    )

pub run_length : (durations : List ℕ) (us taken start : ℕ) → start ≡ length durations
    → start + taken ≡ length (durations ++ replicate taken us)
run_length durations us taken start is =
    omega (arith, is, length-append durations (replicate taken us), length-replicate taken us)

pub count_in : (durations halves : List ℕ) (taken start : ℕ) → start ≡ length durations → taken ≤ length halves
    → start + taken ≡ length (durations ++ take taken halves)
count_in durations halves taken start is within =
    omega (arith, is, length-append durations (take taken halves), length-take-le taken halves within)

-- after a failed write, the lines of the packets before the last joined half-bit are some of all lines

front_of_found : (words : Bool) (limit : ℕ) (before after : WriterState) (halves : List ℕ)
    → WritesFrontOfLines (IsSpikedLine words) before after (packets_closed limit halves)
    → WritesFrontOfLines (IsSpikedLine words) before after (packets_found limit halves)
unfolding packets_found
front_of_found words limit before after halves front = record {
  shown = front.shown;
  later = front.later ++ report_found (length halves) (packet_found limit halves);
  whole =
      ap (λ l. l ++ report_found (length halves) (packet_found limit halves)) front.whole
      ∙ append_assoc front.shown front.later (report_found (length halves) (packet_found limit halves));
  text = front.text;
  lists = front.lists;
  written = front.written;
}

if_some : {A : Type 0} (whole : Option A) (fact other : A → Type 0) → ((a : A) → fact a → other a) → IfSome whole fact
    → IfSome whole other
if_some None fact other weaker is = tt
if_some (Some a) fact other weaker is = weaker a is

pub fails_found : (words : Bool) (limit : ℕ) (old new : InputState) (before after : WriterState) → new.fault ≡ None
    → WritesLinesOfCapture (IsSpikedLine words) (packets_closed limit) old before (Err Write) new after
    → WritesLinesOfCapture (IsSpikedLine words) (packets_found limit) old before (Err Write) new after
fails_found words limit old new before after none stops =
    let front = rw none at stops.0 in (
      rw none (if_some old.text _ _ (λ text. front_of_found words limit before after _) front.0, front.1),
      stops.1,
    )

-- the packet at the end of a capture

module _ (words : Bool) (limit : ℕ) {Follows : List ℕ → Type 0} {start now : InputState} {held : List ℕ}
    {before after : WriterState}
    (listing : Listing (IsSpikedLine words) (packets_closed limit) Follows start now held before after) where
  pub with_end : (text : List ℕ)
      → AreLines (IsSpikedLine words) (report_found (length listing.halves) (packet_found limit listing.halves)) text
      → Listing (IsSpikedLine words) (packets_found limit) Follows start now (held ++ text) before after
  unfolding packets_found
  with_end text lists = record {
    halves = listing.halves;
    gave = listing.gave;
    stands = listing.stands;
    text = listing.text ++ text;
    lists = AreLines-append (IsSpikedLine words) (packets_closed limit listing.halves)
        (report_found (length listing.halves) (packet_found limit listing.halves)) listing.text text listing.lists
        lists;
    holds = Holds-append _ _ _ _ _ _ _ listing.holds (Holds-same after (held ++ text));
    failures = listing.failures;
  }

module _ (words : Bool) (limit : ℕ) {Follows : List ℕ → Type 0} {start now : InputState} {held : List ℕ}
    {before after final : WriterState}
    (listing : Listing (IsSpikedLine words) (packets_found limit) Follows start now held before after) where
  pub found_at_end : {new : InputState} {result : Result (Unit {0}) ToolFault} → AnswersRun now (Ok None) new
      → WritesRest after held (Ok tt) result final
      → WritesLinesOfCapture (IsSpikedLine words) (packets_found limit) start before result new final
  found_at_end {new = new} answer (inl wrote) =
      let all = answer.0 in
      rw wrote.0 (
        record {
          items = (
            up_to_fault captures start now listing.halves None
                (λ halves. WritesLines (IsSpikedLine words) before final (packets_found limit halves)
                × (new.halves + length halves ≡ start.halves))
                listing.gave.items answer.2 (
                  (listing.text, listing.lists, Holds-rest before after final _ _ listing.holds wrote.1),
                  omega (arith, listing.gave.left, all.left),
                ),
            all.items.failures ∙ listing.gave.items.failures,
          );
          at_end = answer.1;
          lines = uses_all_lines captures start new (listing.halves ++ [])
              (Gave-append captures start now new listing.halves [] listing.gave.items all.items) answer.1;
          fault = all.items.fault;
        },
        wrote.2 ∙ listing.failures,
      )
  found_at_end {new = new} answer (inr failed) =
      let fact : List ℕ → Type 0 =
      λ halves. WritesFrontOfLines (IsSpikedLine words) before final (packets_found limit halves) in
      let front : fact listing.halves = record {
        shown = packets_found limit listing.halves;
        later = [];
        whole = sym (append-nil (packets_found limit listing.halves));
        text = listing.text;
        lists = listing.lists;
        written = Holds-fails _ _ _ _ _ listing.holds failed.1;
      } in
      let told = up_to_fault captures start now listing.halves None fact listing.gave.items answer.2 front in
      rw failed.0 (
        rw answer.0.items.fault (
          if_some start.text _ _ (λ text ends. ends.1) told,
          answer.0.items.failures ∙ listing.gave.items.failures,
        ),
        rw listing.failures at failed.2,
      )

-- at the half-bit after so many half-bits

pub grows_here : (limit : ℕ) (found : Option SpikedPacket) (durations : List ℕ) (us count : ℕ)
    → count ≡ length durations
    → packets_closed limit (durations ++ us ∷ [])
    ≡ packets_closed limit durations ++ report_found (length durations) found
    → packets_closed limit (durations ++ us ∷ []) ≡ packets_closed limit durations ++ report_found count found
grows_here limit found durations us count is grows =
    grows ∙ ap (λ n. packets_closed limit durations ++ report_found n found) (sym is)

pub some_here : (found : Option SpikedPacket) (durations : List ℕ) (count : ℕ) → count ≡ length durations
    → (found ≢ None → 0 < length durations) → found ≢ None → 0 < count
some_here found durations count is later some = omega (arith, is, later some)
