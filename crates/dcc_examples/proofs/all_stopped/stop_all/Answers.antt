use Rattle.std.proofs.Common.{◌++◌, ◌∷◌, [], length-append, subst, refl, sym, arith}
use Rattle.dcc_regs.specs.Safety.{can_move}
use Rattle.dcc_station.specs.Sending.{stopped}
use Rattle.dcc_station.specs.Stops.{RunsWithout, stays}
use Rattle.dcc_examples.proofs.all_stopped.stop_all.Goals as goal

pub packets-init : goal.packets-init
packets-init g c = (
  [],
  subst (λ s. RunsWithout can_move (stopped c.args.station.now) [] s) (sym c.stop.ensures.stops) (stays _),
  c.no_packet_heard.ensures _ _,
  refl,
)

pub packets-preserved : goal.packets-preserved
packets-preserved g c =
    let so_far = c.packets.invariant in (
      so_far.0 ++ c.next.result ∷ [],
      c.standing_goes_on.ensures.handed_out can_move _ _ _ _ _ so_far.1 c.next.ensures.next,
      c.one_more_packet_heard.ensures _ _ _ _ _ _ _ _ so_far.2 c.apply.ensures.same_who c.apply.ensures.step,
      omega (arith, so_far.3, length-append so_far.0 (c.next.result ∷ [])),
    )

pub returns : goal.returns
returns g c = λ active is_loco speed some.
    let heard = c.packets.invariant in
    rw (heard.2.registers, is_loco)
    (c.locos_stand_after_stops.ensures.stand c.args.station.now _ [] heard.0 active
    (g.D.Decoder.registers c.args.loco.now) heard.1 (omega (arith, heard.3, some)) speed)
