use Rattle.std.proofs.Common.{◌<◌, ℕ, sym, subst}
use Rattle.dcc_listen.proofs.SpikedCallLemmas.{end_lines, rest_behind}
use Rattle.dcc_listen.proofs.spiked_call.write_end.Goals as goal

pub returns : goal.returns
returns g c = λ limit durations joins is.
    let wrote = c.in_ok-hold_spiked.ensures
    (λ some. subst (λ (n : ℕ). 0 < n) (sym is) (c.end.ensures.some limit durations joins some)) in (
      wrote.0,
      end_lines c.args.words limit durations c.args.all c.end.result wrote.0 is
          (c.end.ensures.found limit durations joins)
          wrote.1,
      rest_behind _ _ _ _ _ _ _ wrote.2.0 wrote.2.1 c.write_rest.ensures,
    )
