use Rattle.std.proofs.Common.{◌≡◌, length, ap, subst, arith}
use Rattle.std.specs.Bool.{Decides}
use Rattle.dcc_c.specs.declared.frame.DccFrame.{DccFrame}
use Rattle.dcc_c.proofs.frame.DccFrame.is_of.Goals as goal

pub returns-then-self-eq0 : goal.returns-then-self-eq0
returns-then-self-eq0 c = (
  λ e. absurd (cc),
  λ same.
      let len : c.args.self.now.len ≡ length c.args.frame.now = ap (λ (f : DccFrame). f.len) same in
      let least = c.requires.least in
      absurd (omega arith),
)

pub returns : goal.returns
returns c = subst (λ (f : DccFrame). Decides c.is.result (c.args.self.now ≡ f)) c.of.ensures c.is.ensures
