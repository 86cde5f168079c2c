-- The registers of a locomotive decoder except its CVs.
use Rattle.std.specs.Prelude.{List, ℕ}
use Rattle.dcc_regs.specs.declared.loco_registers.LocoRegisters.{LocoRegisters}
use Rattle.dcc_regs.specs.declared.loco_state.LocoState.{LocoState}

-- the state of a locomotive decoder with the registers `r` and the CVs `cvs`
abbrev pub with_cvs : LocoRegisters → List ℕ → LocoState
with_cvs r cvs = record {
  address = r.address;
  speed = r.speed;
  forward = r.forward;
  functions = r.functions;
  states = r.states;
  pending = r.pending;
  cvs = cvs;
}

-- the registers of state `s` except the CVs
abbrev pub registers_in : LocoState → LocoRegisters
registers_in s = record {
  address = s.address;
  speed = s.speed;
  forward = s.forward;
  functions = s.functions;
  states = s.states;
  pending = s.pending;
}
