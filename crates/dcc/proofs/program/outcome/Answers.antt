use Rattle.std.proofs.Common.{refl, Ok, Err, map, string_bytes}
use Rattle.dcc.proofs.program.outcome.Goals as goal

pub returns-in-Ok : goal.returns-in-Ok
returns-in-Ok g c =
    (Ok (map string_bytes c.as_slice.result.now), rw c.as_slice.ensures.value c.in-Ok.ensures.words, c.execute.ensures)

pub returns-in-Err : goal.returns-in-Err
returns-in-Err g c = (Err c.in-Err.fault, c.in-Err.ensures.fault, (refl, refl))
