-- The numbers of the error codes, the stored errors, and what holds after each error of a function.
use Rattle.std.specs.Prelude.{ℕ}
use Rattle.dcc_io.specs.declared.fault.ToolFault.{ToolFault}
use Rattle.dcc_io.specs.declared.fault.ToolFault.TheVariants.{Usage, Number, Line, Read, Write, NoMemory, TooMuch}
use Rattle.dcc_io.specs.declared.fault.KeptFault.{KeptFault}
use Rattle.dcc_io.specs.declared.fault.KeptFault.TheVariants as kept

-- the number of an error in its error code: 1 to 7 for U1 to U7
abbrev pub tool_fault_number : ToolFault → ℕ
tool_fault_number (Usage usage) = 1
tool_fault_number (Number line) = 2
tool_fault_number (Line line fault) = 3
tool_fault_number Read = 4
tool_fault_number Write = 5
tool_fault_number NoMemory = 6
tool_fault_number TooMuch = 7

-- the error that a function returns for a stored error of its input
abbrev pub as_tool_fault : KeptFault → ToolFault
as_tool_fault (kept.Number line) = Number line
as_tool_fault (kept.Line line fault) = Line line fault
as_tool_fault kept.Read = Read
as_tool_fault kept.TooMuch = TooMuch

-- the property that holds after an error of a function: `stopped` after a stored error of its
-- input, `unwritten` after a failed write, `no_memory` after a failed allocation. The function does
-- not return U1.
abbrev pub ErrorPost : (KeptFault → Type 0) → Type 0 → Type 0 → ToolFault → Type 0
ErrorPost stopped unwritten no_memory (Number line) = stopped (kept.Number line)
ErrorPost stopped unwritten no_memory (Line line fault) = stopped (kept.Line line fault)
ErrorPost stopped unwritten no_memory Read = stopped kept.Read
ErrorPost stopped unwritten no_memory TooMuch = stopped kept.TooMuch
ErrorPost stopped unwritten no_memory Write = unwritten
ErrorPost stopped unwritten no_memory NoMemory = no_memory
ErrorPost stopped unwritten no_memory (Usage usage) = ⊥
