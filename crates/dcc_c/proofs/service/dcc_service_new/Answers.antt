use Rattle.std.proofs.Common.{◌∙◌, ap, List, ℕ, false}
use Rattle.std.specs.Prelude.{None}
use Rattle.dcc_c.specs.Services.{service_numbers}
use Rattle.dcc_c.proofs.service.dcc_service_new.Goals as goal

pub returns : goal.returns
returns c =
    c.dcc_service_power_up.ensures.new
    ∙ ap (λ (cvs : List ℕ). service_numbers (record { in_service = false; pending = None; cvs = cvs }))
    c.copy_from_slice.ensures.after
