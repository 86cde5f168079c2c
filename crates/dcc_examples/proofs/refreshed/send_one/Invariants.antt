use Rattle.std.proofs.Common.{ℕ, ◌*◌, ◌-◌, ◌<◌, ◌≡◌, ◌⊎◌, ◌∷◌, [], length, false}
use Rattle.dcc_packet.specs.declared.packet.Packet.{Packet}
use Rattle.dcc_station.specs.Refresh.{HasHeardStation}
use Rattle.dcc_station.specs.Sending.{Sending, copies}
use Rattle.dcc_examples.proofs.refreshed.send_one.Given as goal

-- no stop waits, and nothing waits, or only this command, of which a copy is still to be sent
abbrev pub IsSending : Sending → Packet → Type 0
IsSending s p =
    (s.stopping ≡ false)
    × ((s.waiting ≡ []) ⊎ ((s.waiting ≡ p ∷ []) × (s.sent < copies s.repeats p) × (s.repeats ≡ 2)))

abbrev pub invariant-copies : goal.invariant-copies
invariant-copies g l = record {
  heard : HasHeardStation l.station (l.fn.command ∷ []) (g.D.Decoder.who l.initial.decoder)
      (g.D.Decoder.registers l.initial.decoder) (g.D.Decoder.who l.decoder) (g.D.Decoder.registers l.decoder);
  sending : IsSending l.station l.fn.command;
}

abbrev pub decreases-copies : goal.decreases-copies
decreases-copies g l = length l.station.waiting * 4 - l.station.sent
