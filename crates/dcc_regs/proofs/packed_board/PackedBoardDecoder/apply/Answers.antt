use Rattle.std.proofs.Common.{◌≡◌, true, sym, ◌∙◌, ap, unwrap_or}
use Rattle.dcc_packet.specs.Bits.{is_one}
use Rattle.dcc_regs.specs.declared.register.Who.TheVariants.{Board as BoardWho}
use Rattle.dcc_regs.specs.Heard.{hears}
use Rattle.dcc_regs.specs.PackedBoard.{packed_content}
use Rattle.dcc_regs.proofs.BoardStep.{step-heard}
use Rattle.dcc_regs.proofs.packed_board.PackedBoardDecoder.apply.Goals as goal

pub returns-then-hears-clause-step : goal.returns-then-hears-clause-step
returns-then-hears-clause-step c =
    let heard : hears (BoardWho c.args.self.now.board) c.args.packet.now ≡ true =
    rw (← c.who.ensures.who) (sym c.hears.ensures ∙ c.if-hears.true) in
    step-heard (BoardWho c.args.self.now.board) c.args.packet.now (packed_content c.args.self.now) _ heard
    (record {
      outs = λ n h. c.over-self.ensures n
          ∙ ap (λ set. unwrap_or set (is_one c.args.self.now.outs n)) (c.outs_set.ensures n);
      positions = λ n h. c.over-self-then-hears.ensures n
          ∙ ap (λ set. unwrap_or set (is_one c.args.self.now.positions n)) (c.positions_set.ensures n);
      aspects = c.set_aspects.ensures;
    })
