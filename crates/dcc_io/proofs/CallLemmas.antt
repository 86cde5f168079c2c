-- A call that gives up at a fault of its input.
use Rattle.dcc_io.specs.declared.fault.KeptFault.{KeptFault}
use Rattle.dcc_io.specs.declared.fault.KeptFault.TheVariants.{Number}
use Rattle.dcc_io.specs.Faults.{as_tool_fault, ErrorPost}

pub gives_up : (stopped : KeptFault → Type 0) (unwritten no_memory : Type 0) (fault : KeptFault) → stopped fault
    → ErrorPost stopped unwritten no_memory (as_tool_fault fault)
gives_up stopped unwritten no_memory (Number line) stands = stands
gives_up stopped unwritten no_memory fault stands = stands
