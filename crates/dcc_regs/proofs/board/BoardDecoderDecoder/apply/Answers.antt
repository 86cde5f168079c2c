use Rattle.std.proofs.Common.{◌≡◌, true, sym, ◌∙◌, ap, arith, unwrap_or}
use Rattle.dcc_regs.specs.declared.register.Who.TheVariants.{Board as BoardWho}
use Rattle.dcc_regs.specs.Heard.{hears}
use Rattle.dcc_regs.specs.BoardDecoder.{board_content}
use Rattle.dcc_packet.specs.Bits.{is_one}
use Rattle.dcc_regs.specs.Outputs.{out_set, position_set}
use Rattle.dcc_regs.specs.Board.{board_registers}
use Rattle.dcc_regs.proofs.BoardStep.{step-heard}
use Rattle.dcc_regs.proofs.RegisterStep.{kept-after}
use Rattle.dcc_regs.proofs.board.BoardDecoderDecoder.apply.Goals as goal

pub returns-then-hears-clause-step : goal.returns-then-hears-clause-step
returns-then-hears-clause-step c =
    let heard : hears (BoardWho c.args.self.now.board) c.args.packet.now ≡ true =
    rw (← c.who.ensures.who) (sym c.hears.ensures ∙ c.if-hears.true) in
    step-heard (BoardWho c.args.self.now.board) c.args.packet.now (board_content c.args.self.now) _ heard
    (record {
      outs = λ n h. c.outs_of-self.ensures n h ∙ c.over.ensures n
          ∙ ap (λ set. unwrap_or set (is_one c.packed.result n)) (c.outs_set.ensures n)
          ∙ ap (unwrap_or (out_set c.args.packet.now n)) (c.packed.ensures.bits n (omega (arith, h)));
      positions = λ n h. c.sides_of-self.ensures n h ∙ c.over-then-hears.ensures n
          ∙ ap (λ set. unwrap_or set (is_one c.packed-then-hears.result n)) (c.positions_set.ensures n)
          ∙ ap (unwrap_or (position_set c.args.packet.now n)) (c.packed-then-hears.ensures.bits n (omega (arith, h)));
      aspects = c.set_aspects.ensures;
    })

pub returns-then-hears-clause-kept : goal.returns-then-hears-clause-kept
returns-then-hears-clause-kept c =
    kept-after (BoardWho c.args.self.now.board) (board_registers (board_content c.args.self.now)) _ c.args.packet.now
    (returns-then-hears-clause-step c)
