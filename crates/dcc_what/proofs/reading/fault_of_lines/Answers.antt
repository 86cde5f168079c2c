use Rattle.std.proofs.Common.{[], Some, refl}
use Rattle.dcc_io.specs.PacketLines.{lines_by}
use Rattle.dcc_io.specs.declared.fault.KeptFault.TheVariants.{Line, TooMuch}
use Rattle.dcc_io.proofs.ItemsLemmas.{Gave-none, Gave-append}
use Rattle.dcc_what.specs.Kinds.{input_of_bytes}
use Rattle.dcc_what.proofs.KindLemmas.{lines_with_fault}
use Rattle.dcc_what.proofs.reading.fault_of_lines.Goals as goal

pub lines-init : goal.lines-init
lines-init g c =
    let none = Gave-none (lines_by g.L.ParsedLine.saying) (input_of_bytes c.args.bytes.now) refl in
    ([], rw c.input_of-input.ensures none)

pub lines-preserved-in-Ok-Some : goal.lines-preserved-in-Ok-Some
lines-preserved-in-Ok-Some g c =
    let before = c.lines.invariant in
    let read = rw c.in-Ok-Some.field-0-is at (c.in-Ok-Some.ensures.reads before.1.fault) in (
      _,
      Gave-append (lines_by g.L.ParsedLine.saying) (input_of_bytes c.args.bytes.now) c.lines.input
          c.next_item.new.input before.0 _ before.1 read.0,
    )

pub returns-in-Err-Line : goal.returns-in-Err-Line
returns-in-Err-Line g c =
    let before = c.lines.invariant in
    let stops = rw c.in-Err-Line.field-0-is at (c.in-Err-Line.ensures.reads before.1.fault) in
    lines_with_fault g.L.ParsedLine.saying c.args.bytes.now before.0 c.lines.input c.next_item.new.input before.1
    (Some (Line c.in-Err-Line.line c.in-Err-Line.fault)) stops.0.1

pub returns-in-Err-TooMuch : goal.returns-in-Err-TooMuch
returns-in-Err-TooMuch g c =
    let before = c.lines.invariant in
    let stops = rw c.in-Err-TooMuch.field-0-is at (c.in-Err-TooMuch.ensures.reads before.1.fault) in
    lines_with_fault g.L.ParsedLine.saying c.args.bytes.now before.0 c.lines.input c.next_item.new.input before.1
    (Some TooMuch) stops.0.1
