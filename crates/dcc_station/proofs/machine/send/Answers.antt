use Rattle.std.proofs.Common.{◌≡◌, ◌∙◌, ap, List, [], ◌∷◌, Some, drop}
use Rattle.std.specs.Prelude.{slice_get}
use Rattle.dcc_packet.specs.declared.packet.Packet.{Packet}
use Rattle.dcc_station.specs.Rings.{sending_over}
use Rattle.dcc_station.specs.Sending.{Sending, HandsOut, EntriesAfter, sent_once_more, with_stop}
use Rattle.dcc_station.proofs.machine.send.Goals as goal

-- a packet is handed out as the code does it
hands_out_command : (outgoing entries : List Packet) (s : Sending) (p : Packet) (new : Sending)
    → slice_get outgoing 0 ≡ Some p → (after : List Packet) → EntriesAfter s.sent s.slots p entries after
    → new ≡ sent_once_more s p (drop 1 outgoing) after → HandsOut outgoing entries s p new
hands_out_command [] entries s p new front after changed is = cc
hands_out_command (q ∷ rest) entries s p new front after changed is =
    let e : p ≡ q = cc in (e, (after, rw (← e) changed, rw (← e) is))

pub returns-clause-next : goal.returns-clause-next
returns-clause-next g c =
    let waiting = g.Q.PacketRing.buffer c.args.waiting.now in
    let entries = g.S.PacketRing.buffer c.args.entries.now in
    let after = g.S.PacketRing.buffer c.change_entries.new.entries in
    let stopping = c.args.stopping.now in
    let outgoing = with_stop stopping waiting.items in
    hands_out_command outgoing entries.items
    (sending_over waiting stopping c.args.sent.now entries c.args.repeats) c.args.packet.now
    (sending_over (g.Q.PacketRing.buffer c.count_copy.new.waiting) c.count_copy.new.stopping c.count_copy.new.sent
    after c.args.repeats)
    c.requires.first after.items c.change_entries.ensures.entries
    (c.count_copy.ensures.counts after
    ∙ ap (λ n. sent_once_more (record (sending_over waiting stopping c.args.sent.now after c.args.repeats)
    { slots = n }) c.args.packet.now (drop 1 outgoing) after.items) c.change_entries.ensures.capacity)
