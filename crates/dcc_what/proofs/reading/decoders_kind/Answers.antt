use Rattle.std.proofs.Common.{refl}
use Rattle.dcc_what.proofs.KindLemmas.{kind_of_decoders, kind_of_bad_decoders, kind_of_many_decoders, no_fault}
use Rattle.dcc_what.proofs.reading.decoders_kind.Goals.{in-Ok, in-Err-Line, in-Err-TooMuch, in-Err-NoMemory}
use Rattle.dcc_what.proofs.reading.decoders_kind.Goals as goal

pub returns : goal.returns
returns c =
    let bytes = c.args.bytes.now in
    let old = c.input_of-input.result in
    let new = c.read_decoders.new.input in
    let fresh = c.input_of-input.ensures in
    let none = no_fault bytes old fresh in
    elim c.match-read_decoders.branch [
      | in-Ok w ↦
          let reads = w.in-Ok.ensures.reads none in
          rw w.result-is (kind_of_decoders bytes old new w.in-Ok.field-0.items fresh reads)
      | in-Err-Line w ↦
          let reads = rw w.in-Err-Line.field-0-is at (w.in-Err-Line.ensures.reads none) in
          rw w.result-is (kind_of_bad_decoders bytes old new w.in-Err-Line.line w.in-Err-Line.fault fresh reads)
      | in-Err-TooMuch w ↦
          let reads = rw w.in-Err-TooMuch.field-0-is at (w.in-Err-TooMuch.ensures.reads none) in
          rw w.result-is (kind_of_many_decoders bytes old new fresh reads)
      | in-Err-NoMemory w ↦ rw w.result-is refl
    ]
