use Rattle.std.proofs.Common.{◌≡◌, ◌∙◌, refl, sym, ap, List, [], ◌∷◌, None}
use Rattle.std.specs.Prelude.{slice_get}
use Rattle.dcc_packet.specs.declared.packet.Packet.{Packet}
use Rattle.dcc_station.specs.Sending.{with_stop}
use Rattle.dcc_station.proofs.machine.put_first.Goals as goal

none_first : (l : List Packet) → slice_get l 0 ≡ None → l ≡ []
none_first [] none = refl
none_first (p ∷ l) none = absurd (cc)

pub returns-in-None-clause-none : goal.returns-in-None-clause-none
returns-in-None-clause-none g c = λ is.
    let waiting = (g.Q.PacketRing.buffer c.args.waiting.now).items in
    ap (λ stopping. with_stop stopping waiting) c.if-stopping.false
    ∙ none_first waiting (sym c.front.ensures ∙ c.in-None.is)
