use Rattle.dcc_regs.proofs.EffectLemmas.{by_register}
use Rattle.dcc_regs.proofs.effects.Effects.of.Goals as goal

pub returns : goal.returns
returns c = by_register _ c.args.mode c.args.packet.now (record {
  speed = c.effect_on_speed.ensures;
  direction = c.effect_on_direction.ensures;
  functions = c.functions_set.ensures;
  states = c.states_set.ensures;
  outs = c.outs_set.ensures;
  positions = c.positions_set.ensures;
  aspects = c.aspects_set.ensures;
})
