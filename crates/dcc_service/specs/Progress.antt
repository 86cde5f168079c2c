-- The state of a decoder on the programming track, without its CVs.
use Rattle.std.specs.Prelude.{List, ℕ}
use Rattle.dcc_service.specs.declared.progress.ServiceProgress.{ServiceProgress}
use Rattle.dcc_service.specs.Machine.{ServiceState}

-- the state of a decoder with the progress `p` and the CVs `cvs`
abbrev pub state_with_cvs : ServiceProgress → List ℕ → ServiceState
state_with_cvs p cvs = record { in_service = p.in_service; pending = p.pending; cvs = cvs }
