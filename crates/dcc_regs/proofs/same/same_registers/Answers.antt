use Rattle.std.proofs.Common.{◌≡◌, ◌∙◌, sym, subst}
use Rattle.dcc_regs.specs.declared.register.Who.{Who}
use Rattle.dcc_regs.specs.Result.{RegisterMap}
use Rattle.dcc_regs.specs.Possible.{IsPossible}
use Rattle.dcc_regs.proofs.KindsDiffer.{kinds_differ}
use Rattle.dcc_regs.proofs.same.same_registers.Goals as goal

is_possible : {who who' : Who} {m : RegisterMap} → who ≡ who' → IsPossible who m → IsPossible who' m
is_possible {who} {who'} {m} e p = let P : Who → Type 0 = λ w. IsPossible w m in subst P e p

pub returns-in_default : goal.returns-in_default
returns-in_default g c =
    let a = is_possible (sym c.who.ensures.0 ∙ c.in_default.is-0) c.who.ensures.1 in
    let b = is_possible (sym c.who-2.ensures.0 ∙ c.in_default.is-1) c.who-2.ensures.1 in
    (λ t. absurd (cc), λ e. absurd (kinds_differ _ _ _ _ a b e))

pub returns-in_default-2 : goal.returns-in_default-2
returns-in_default-2 g c =
    let a = is_possible (sym c.who.ensures.0 ∙ c.in_default.is-0) c.who.ensures.1 in
    let b = is_possible (sym c.who-2.ensures.0 ∙ c.in_default.is-1) c.who-2.ensures.1 in
    (λ t. absurd (cc), λ e. absurd (kinds_differ _ _ _ _ b a (sym e)))
