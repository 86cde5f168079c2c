-- The result of `same`.
use Rattle.std.specs.Prelude.{◌≡◌, ◌⊎◌, ◌↔◌, List, Result}
use Rattle.std.specs.Io.KnownBytes.{Appends}
use Rattle.dcc_packet.specs.declared.packet.Packet.{Packet}
use Rattle.dcc_regs.specs.declared.register.Who.{Who}
use Rattle.dcc_order.specs.declared.verdict.Verdict.{Verdict}
use Rattle.dcc_order.specs.declared.verdict.Verdict.TheVariants.{Alike}
use Rattle.dcc_order.specs.AlikeLists.{AlikeFor}
use Rattle.dcc_order.specs.Laws.{LeaveTheSame}
use Rattle.dcc_order.specs.Verdicts.{IsVerdict}
use Rattle.dcc_io.specs.declared.fault.ToolFault.{ToolFault}
use Rattle.dcc_io.specs.declared.fault.ToolFault.TheVariants.{NoMemory}
use Rattle.dcc_io.specs.Calls.{CallPost}
use Rattle.dcc_io.specs.Faults.{as_tool_fault}
use Rattle.dcc_listen.specs.Gathered.{Gathered, GatherFails}
use Rattle.dcc_listen.specs.Taking.{ReadsOn}
use Rattle.dcc_io.specs.InputState.{InputState}
use Rattle.dcc_listen.specs.VerdictLine.{verdict_line}
use Rattle.dcc_io.specs.WriterState.{WriterState}
use Rattle.dcc_io.specs.WrittenBytes.{AppendsFront}

-- the captures of the inputs `left` and `right` were read to their ends, and `verdict` is the
-- verdict on their packets. The verdict is `Alike` if and only if these packets are alike for
-- decoder `who`. After the verdict `Alike`, equal registers at the start lead to equal registers
-- after both captures.
pub record Compared (who : Who) (left right left' right' : InputState) (verdict : Verdict) : Type 0 where
  pub packets : List Packet
  pub others : List Packet
  pub first : Gathered left packets left'
  pub second : Gathered right others right'
  pub is_verdict : IsVerdict who packets others verdict
  pub alike_is : (verdict ≡ Alike) ↔ AlikeFor who packets others
  pub alike : verdict ≡ Alike → LeaveTheSame who packets others

-- between the states `old` and `new`, the input read a part of its capture, perhaps no byte. No
-- error occurred.
abbrev pub ReadsSome : InputState → InputState → Type 0
ReadsSome old new = (new ≡ old) ⊎ ReadsOn old new

-- one of the two captures has the error `fault`, and the other capture was read without an error
abbrev pub OneFails : InputState → InputState → ToolFault → InputState → InputState → Type 0
OneFails left right fault left' right' =
    (GatherFails left fault left' × ReadsSome right right') ⊎ (ReadsSome left left' × GatherFails right fault right')

-- `same` reads both captures to their ends before it writes. If the result is a verdict, its line
-- was written. After an error of a capture or a failed allocation, nothing was written. After a
-- failed write, a prefix of the line was written.
abbrev pub Compares : Who → InputState → InputState → WriterState → Result Verdict ToolFault → InputState → InputState
    → WriterState → Type 0
Compares who left right before result left' right' after =
    CallPost
    (λ verdict. Compared who left right left' right' verdict
    × Appends before.contents after.contents (verdict_line verdict))
    (λ fault. OneFails left right (as_tool_fault fault) left' right' × (after ≡ before))
    ((verdict : Verdict) × Compared who left right left' right' verdict
    × AppendsFront before after (verdict_line verdict))
    (OneFails left right NoMemory left' right' × (after ≡ before)) before result after
