-- Fleets that hear what was seen.
use Rattle.std.proofs.Common.{◌≡◌, ◌++◌, ℕ, List, [], None, refl}
use Rattle.dcc_wire.specs.declared.seen.Seen.{Seen}
use Rattle.dcc_wire.specs.Framing.{Rest, StandsFor, seen, report_at}
use Rattle.dcc_regs.specs.declared.register.Who.{Who}
use Rattle.dcc_regs.specs.Result.{RegisterMap}
use Rattle.dcc_regs.proofs.InParts.{heard_nothing}
use Rattle.dcc_order.specs.Hearing.{packet_frame}
use Rattle.dcc_order.specs.Fleets.{EachHearsSeen, HearMore}
use Rattle.dcc_order.proofs.HearingLemmas.{heard_half, no_packet}
use Rattle.dcc_order.proofs.TrackLemmas.{AllZip-same, AllZip-then}

module _ {A : Type 0} {who : A → Who} {registers : A → RegisterMap} where
  -- where no packet was seen the members stay as they are
  pub none_hears : (shown : Seen) (members : List A) → packet_frame shown ≡ None
      → EachHearsSeen who registers shown members members
  none_hears shown members none = record {
    spelled = ([], rw none refl);
    each = λ packets spelled.
        rw (no_packet packets (rw none at spelled)) (AllZip-same _ (λ member. heard_nothing _ _) members);
  }

  -- members that hear what more halves show have heard these behind the others
  pub hear_more : {shown : Seen} {old new : List A} (framer : Rest) (more : List ℕ) (place : List ℕ → ℕ)
      → ((halves : List ℕ) → StandsFor framer halves
      → seen (halves ++ more) ≡ seen halves ++ report_at (place halves) shown)
      → EachHearsSeen who registers shown old new → HearMore who registers framer more old new
  hear_more {shown = shown} framer more place sees heard = λ halves stands starts before.
      let packets = heard.spelled in
      AllZip-then _ _ _
      (λ start old new so_far now.
      heard_half halves (halves ++ more) shown (place halves) packets.0 (sees halves stands) packets.1 so_far now)
      _ _ _ before (heard.each packets.0 packets.1)
