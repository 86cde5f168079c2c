use Rattle.std.proofs.Common.{◌≡◌, ◌++◌, Bool, true, false, List, append_assoc, subst, refl}
use Rattle.std.specs.Option.{option_to_list}
use Rattle.dcc_packet.specs.declared.packet.Packet.{Packet}
use Rattle.dcc_order.specs.GivenLists.{MayFollow}
use Rattle.dcc_listen.proofs.side.pass_rest.Goals as goal

-- anything follows what has not ended
open_still : (ended : Bool) (more : List Packet) → (ended ≡ true → ⊥) → MayFollow ended more
open_still true more never = absurd (never refl)
open_still false more never = tt

pub packets-preserved : goal.packets-preserved
packets-preserved g c =
    let never : c.args.progress.now.ended ≡ true → ⊥ = λ e. let all = c.packets.invariant.stays e in cc in
    record {
      open_side = c.in_ok-take_next.ensures.open;
      stays = λ e. absurd (never e);
      took = λ start packets so.
          let (before, may, took) = c.packets.invariant.took start packets so in
          let more = before ++ option_to_list c.in_ok-take_next.field-0 in (
            more,
            open_still c.args.progress.now.ended more never,
            subst (λ l. g.S.Side.took start c.take_next.new.self l c.take_next.new.progress)
                (append_assoc packets before (option_to_list c.in_ok-take_next.field-0))
                (c.in_ok-take_next.ensures.took start (packets ++ before) took),
          );
    }
