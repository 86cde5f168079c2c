use Rattle.std.proofs.Common.{◌∙◌, ap, List, ℕ}
use Rattle.dcc_packet.specs.Cvs.{cv_in}
use Rattle.dcc_regs.specs.Loco.{start_map, start_who}
use Rattle.dcc_c.proofs.loco.dcc_loco_new.Goals as goal

pub returns : goal.returns
returns c =
    let p = c.dcc_loco_power_up.ensures.new in
    let copied = c.copy_from_slice.ensures.after in (
      p.0,
      p.1,
      p.2,
      p.3 ∙ ap (λ (cvs : List ℕ). start_who (cv_in cvs)) copied,
      p.4 ∙ ap (λ (cvs : List ℕ). start_map (cv_in cvs)) copied,
    )
