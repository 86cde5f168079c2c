-- The result of `same_input`.
use Rattle.std.specs.Prelude.{◌≡◌, ◌↔◌, List, Result}
use Rattle.std.specs.Io.KnownBytes.{Appends}
use Rattle.dcc_packet.specs.declared.packet.Packet.{Packet}
use Rattle.dcc_regs.specs.declared.register.Who.{Who}
use Rattle.dcc_order.specs.declared.verdict.Verdict.{Verdict}
use Rattle.dcc_order.specs.declared.verdict.Verdict.TheVariants.{Alike}
use Rattle.dcc_order.specs.AlikeLists.{AlikeFor}
use Rattle.dcc_order.specs.Laws.{LeaveTheSame}
use Rattle.dcc_order.specs.Verdicts.{IsVerdict}
use Rattle.dcc_io.specs.declared.fault.ToolFault.{ToolFault}
use Rattle.dcc_io.specs.declared.fault.ToolFault.TheVariants.{NoMemory}
use Rattle.dcc_io.specs.Calls.{CallPost}
use Rattle.dcc_io.specs.Faults.{as_tool_fault}
use Rattle.dcc_listen.specs.GatheredBoth.{GatheredBoth, BothFail}
use Rattle.dcc_io.specs.InputState.{InputState}
use Rattle.dcc_listen.specs.VerdictLine.{verdict_line}
use Rattle.dcc_io.specs.WriterState.{WriterState}
use Rattle.dcc_io.specs.WrittenBytes.{AppendsFront}

-- both captures of the input `input` were read to their ends, and `verdict` is the verdict on their
-- packets. The verdict is `Alike` if and only if these packets are alike for decoder `who`. After
-- the verdict `Alike`, equal registers at the start lead to equal registers after both captures.
pub record ComparedBoth (who : Who) (input input' : InputState) (verdict : Verdict) : Type 0 where
  pub packets : List Packet
  pub others : List Packet
  pub gathered : GatheredBoth input packets others input'
  pub is_verdict : IsVerdict who packets others verdict
  pub alike_is : (verdict ≡ Alike) ↔ AlikeFor who packets others
  pub alike : verdict ≡ Alike → LeaveTheSame who packets others

-- `same_input` reads both captures to their ends before it writes. If the result is a verdict, its
-- line was written. After an error of the input or a failed allocation, nothing was written. After
-- a failed write, a prefix of the line was written.
abbrev pub ComparesBoth : Who → InputState → WriterState → Result Verdict ToolFault → InputState → WriterState → Type 0
ComparesBoth who input before result input' after =
    CallPost
    (λ verdict. ComparedBoth who input input' verdict × Appends before.contents after.contents (verdict_line verdict))
    (λ fault. BothFail input (as_tool_fault fault) input' × (after ≡ before))
    ((verdict : Verdict) × ComparedBoth who input input' verdict × AppendsFront before after (verdict_line verdict))
    (BothFail input NoMemory input' × (after ≡ before)) before result after
