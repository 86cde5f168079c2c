-- The entries are handed out in turn.
use Rattle.std.proofs.Common.{◌≡◌, ◌∙◌, refl, sym, ap, ap₂, Bool, true, false, List, [], ◌∷◌, ◌++◌, append_assoc}
use Rattle.std.proofs.Common.{append-nil, length, arith}
use Rattle.dcc_packet.specs.declared.packet.Packet.{Packet}
use Rattle.dcc_station.specs.Sending.{Sending, NextAll, with_stop}
use Rattle.dcc_station.specs.Refresh.{EntriesAreHandedOutInTurn}

-- a station that has no command and no stop, with these entries in place of its own
abbrev with_entries : Sending → List Packet → Sending
with_entries s l = record s { waiting = []; stopping = false; entries = l }

-- nothing waits exactly if there is no command and no stop
nothing_waits : (stopping : Bool) (waiting : List Packet) → with_stop stopping waiting ≡ []
    → (stopping ≡ false) × (waiting ≡ [])
nothing_waits true waiting none = absurd (cc)
nothing_waits false waiting none = (refl, none)

-- the first entries are handed out and go behind the others
turned : (packets rest behind : List Packet) (s new : Sending) → length packets ≡ length rest
    → NextAll (with_entries s (rest ++ behind)) packets new → (packets ≡ rest) × (new ≡ with_entries s (behind ++ rest))
turned [] [] behind s new same_length all = (refl, all ∙ ap (with_entries s) (sym (append-nil behind)))
turned [] (e ∷ rest) behind s new same_length all = absurd (omega arith)
turned (p ∷ packets) [] behind s new same_length all = absurd (omega arith)
turned (p ∷ packets) (e ∷ rest) behind s new same_length (between, (is, as_said), later) =
    let others = turned packets rest (behind ++ e ∷ []) s new (omega arith)
    (rw (as_said, append_assoc rest behind (e ∷ [])) at later) in
    (ap₂ ◌∷◌ is others.0, others.1 ∙ ap (with_entries s) (append_assoc behind (e ∷ []) rest))

pub in_turn : EntriesAreHandedOutInTurn
in_turn s new packets none same_length all =
    let parts = nothing_waits s.stopping s.waiting none in
    let here : s ≡ with_entries s s.entries =
    ap₂ (λ w t. record s { waiting = w; stopping = t }) parts.1 parts.0 in
    let both = turned packets s.entries [] s new same_length (rw (append-nil, ← here) all) in
    (both.0, both.1 ∙ sym here)
