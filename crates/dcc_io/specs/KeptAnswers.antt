-- The stored error of an input.
use Rattle.std.specs.Prelude.{◌≡◌, Some, Result, Err, IfSome}
use Rattle.dcc_io.specs.declared.fault.KeptFault.{KeptFault}
use Rattle.dcc_io.specs.InputState.{InputState}

-- if `old` stores an error, `result` is this error and the input reads no byte
abbrev pub AnswersKept : {A : Type 0} → InputState → Result A KeptFault → InputState → Type 0
AnswersKept old result new = IfSome old.fault (λ fault. (result ≡ Err fault) × (new ≡ old))

-- the result is the error `fault`, which the input stores in state `new`. The input reads no byte.
abbrev pub KeepsFault : InputState → KeptFault → KeptFault → InputState → Type 0
KeepsFault old fault result new = (result ≡ fault) × (new ≡ record old { fault = Some fault })
