use Rattle.std.proofs.Common.{ℕ, ◌+◌, ◌*◌, ◌-◌, ◌<◌, ◌≤◌, ◌≡◌, ◌⊎◌, inl, inr, ◌∷◌, [], List, length, Bool, true, false}
use Rattle.std.proofs.Common.{if◌then◌else◌, nat_le, refl, sym, ap, ◌∙◌, subst, arith}
use Rattle.dcc_packet.specs.declared.packet.Packet.{Packet}
use Rattle.dcc_regs.specs.Writes.{is_own_write}
use Rattle.dcc_station.specs.Sending.{Sending, Next, HandsOut, copies, sent_once_more, outgoing, with_stop}
use Rattle.dcc_examples.proofs.refreshed.send_one.Invariants.{IsSending}
use Rattle.dcc_examples.proofs.refreshed.send_one.Goals as goal

few_copies : (p : Packet) → copies 2 p ≤ 3
few_copies p = go (is_own_write p)
  where
    go : (write : Bool) → (if write then 2 + 1 else 2) ≤ 3
    go true = omega arith
    go false = omega arith

-- after one more copy nothing waits, or a copy is still to be sent
one_more : (s : Sending) (p : Packet) (after : List Packet) → s.stopping ≡ false → s.waiting ≡ p ∷ []
    → s.repeats ≡ 2 → s.sent < copies s.repeats p
    → IsSending (sent_once_more s p [] after) p
    × (length (sent_once_more s p [] after).waiting * 4 - (sent_once_more s p [] after).sent < length s.waiting * 4 -
    s.sent)
one_more s p after going waits twice left = go (nat_le (copies s.repeats p) (s.sent + 1)) refl
  where
    few : s.sent < 3
    few = omega (arith, left, few_copies p, ap (λ n. copies n p) twice)

    go : (done : Bool) → nat_le (copies s.repeats p) (s.sent + 1) ≡ done
        → IsSending (if done then record s { waiting = []; stopping = false; sent = 0; entries = after }
        else record s { sent = s.sent + 1; entries = after }) p
        × (length (if done then record s { waiting = []; stopping = false; sent = 0; entries = after }
        else record s { sent = s.sent + 1; entries = after }).waiting * 4
        - (if done then record s { waiting = []; stopping = false; sent = 0; entries = after }
        else record s { sent = s.sent + 1; entries = after }).sent < length s.waiting * 4 - s.sent)
    go true is = ((refl, inl refl), omega (arith, few, ap length waits))
    go false is = ((going, inr (waits, grind (arith, is), twice)), omega (arith, few, ap length waits))

handed_out : (s new : Sending) (p out : Packet) → 0 < length s.waiting → IsSending s p → Next s out new
    → IsSending new p × (length new.waiting * 4 - new.sent < length s.waiting * 4 - s.sent)
handed_out s new p out some (going, inl none) next = absurd (omega (arith, some, ap length none))
handed_out s new p out some (going, inr sending) next =
    let all : outgoing s ≡ p ∷ [] = ap (λ stopping. with_stop stopping s.waiting) going ∙ sending.0 in
    let h : HandsOut (p ∷ []) s.entries s out new =
    subst (λ (packets : List Packet). HandsOut packets s.entries s out new) all next in
    subst (λ (t : Sending). IsSending t p × (length t.waiting * 4 - t.sent < length s.waiting * 4 - s.sent)) (sym h.1.2)
    (one_more s p h.1.0 going sending.0 sending.2 sending.1)

pub copies-preserved : goal.copies-preserved
copies-preserved g c = record {
  heard = c.stations_are_heard.ensures.handed_out _ _ _ c.next.result _ _ _ _ _ _ c.copies.invariant.heard
      c.next.ensures.next c.apply.ensures.same_who c.apply.ensures.step;
  sending = (handed_out _ _ _ _ (omega (arith, c.copies-test.true, c.waiting.ensures)) c.copies.invariant.sending
      c.next.ensures.next).0;
}

pub copies-smaller : goal.copies-smaller
copies-smaller g c =
    (handed_out _ _ _ _ (omega (arith, c.copies-test.true, c.waiting.ensures)) c.copies.invariant.sending
    c.next.ensures.next).1

none_waits : (waiting : List Packet) → length waiting ≡ 0 → waiting ≡ []
none_waits [] none = refl
none_waits (p ∷ waiting) none = absurd (omega (arith, none))

pub returns-clause-holds : goal.returns-clause-holds
returns-clause-holds g c = λ is r other.
    c.stations_are_heard.ensures.intended _ _ _ _ _ _ r c.copies.invariant.heard
    (none_waits _ (omega (arith, c.copies-test.false, c.waiting.ensures))) other
