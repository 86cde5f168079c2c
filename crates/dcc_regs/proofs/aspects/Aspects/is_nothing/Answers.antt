use Rattle.std.proofs.Common.{refl}
use Rattle.std.specs.Prelude.{◌==◌}
use Rattle.std.proofs.lemmas.Bool.Decides.{Decides-eqb}
use Rattle.dcc_regs.proofs.MaskLemmas.{none_set, no_mask}
use Rattle.dcc_regs.proofs.aspects.Aspects.is_nothing.Goals as goal

pub returns : goal.returns
returns c = (
  λ t n. none_set c.args.self.now.mask _ n ((Decides-eqb c.args.self.now.mask 0).0 t),
  λ none. no_mask c.args.self.now.mask (λ n. c.args.self.now.aspect) none (c.args.self.now.mask == 0) refl,
)
