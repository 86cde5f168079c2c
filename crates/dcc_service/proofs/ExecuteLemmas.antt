-- A frame that makes a decoder on the programming track execute a packet.
use Rattle.std.proofs.Common.{◌≡◌, ◌≢◌, ℕ, Bool, true, false, List, length, refl, sym, ◌∙◌, ap, arith}
use Rattle.std.specs.Prelude.{Some, None}
use Rattle.dcc_service.specs.declared.packet.ServicePacket.{ServicePacket}
use Rattle.dcc_service.specs.declared.packet.ServicePacket.TheVariants.{Write, Verify, BitWrite, BitVerify}
use Rattle.dcc_service.specs.AccessedServiceCv.{Accesses, Executes, service_cv}
use Rattle.dcc_service.specs.Machine.{ServiceState, Step, acted_on, is_acknowledged, reset_bytes}
use Rattle.dcc_service.specs.Table.{service_spelling}
use Rattle.dcc_service.proofs.OneSpelling.{one_packet}

-- no service packet has the frame of the reset
pub no_reset : (p : ServicePacket) → service_spelling p ≢ reset_bytes
no_reset (Write cv value) e = let lengths : 4 ≡ 3 = ap length e in absurd (omega (arith, lengths))
no_reset (Verify cv value) e = let lengths : 4 ≡ 3 = ap length e in absurd (omega (arith, lengths))
no_reset (BitWrite cv bits one) e = let lengths : 4 ≡ 3 = ap length e in absurd (omega (arith, lengths))
no_reset (BitVerify cv bits one) e = let lengths : 4 ≡ 3 = ap length e in absurd (omega (arith, lengths))

-- the packet that is executed is one
pub one_executed : (before : ServiceState) (frame : List ℕ) (p q : ServicePacket) → Executes before frame p
    → frame ≡ service_spelling q → p ≡ q
one_executed before frame p q x e = one_packet p q (sym x.spelled ∙ e)

pub executed_step : (packet : ServicePacket) (before : ServiceState) (frame cvs : List ℕ) (answer : Bool)
    → Executes before frame packet → cvs ≡ acted_on packet before.cvs → answer ≡ is_acknowledged packet before.cvs
    → Step before frame (record { in_service = before.in_service; pending = before.pending; cvs = cvs }) answer
executed_step packet before frame cvs answer x e f = record {
  reset = λ r. absurd (no_reset packet (sym x.spelled ∙ r));
  first = λ p spelled on waits. absurd (waits (x.pending ∙ ap Some (one_executed before frame packet p x spelled)));
  again = λ p spelled on waits.
      let same : p ≡ packet = sym (one_executed before frame packet p x spelled) in
      (rw (same, x.in_service, x.pending, e) refl, rw same f);
  other = λ no_reset no_packet on. absurd (no_packet packet x.spelled);
  ignored = λ no_reset off. let contrary : true ≡ false = sym x.in_service ∙ off in absurd (cc);
}

pub executed_accesses : (packet : ServicePacket) (before : ServiceState) (frame : List ℕ) → Executes before frame packet
    → Accesses before frame (Some (service_cv packet))
executed_accesses packet before frame x = record {
  executed = λ p other. ap (λ (q : ServicePacket). Some (service_cv q))
      (one_executed before frame packet p x other.spelled);
  none = λ nothing. absurd (nothing packet x);
}

pub silent_accesses : (before : ServiceState) (frame : List ℕ)
    → ((packet : ServicePacket) → ¬ (Executes before frame packet)) → Accesses before frame None
silent_accesses before frame nothing =
    record { executed = λ p other. absurd (nothing p other); none = λ nothing. refl }
