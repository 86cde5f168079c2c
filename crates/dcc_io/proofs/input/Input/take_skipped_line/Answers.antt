use Rattle.std.proofs.Common.{take, ap, ◌∙◌}
use Rattle.dcc_io.specs.InputState.{InputState}
use Rattle.dcc_io.proofs.FrontLemmas.{begins_with_ended}
use Rattle.dcc_io.proofs.input.Input.take_skipped_line.Goals as goal

pub take_line-requires-clause-begins : goal.take_line-requires-clause-begins
take_line-requires-clause-begins g c =
    let ahead = c.ahead.ensures.bytes ∙ ap (λ (state : InputState). state.ahead) c.self.view_is in
    let skipped = rw ahead at c.in-Some.ensures in
    let begins = begins_with_ended skipped.ended in
    (take c.in-Some.len c.args.self.now.ahead, begins.0, begins.1)

pub returns-in-Some-clause-taken : goal.returns-in-Some-clause-taken
returns-in-Some-clause-taken g c taken =
    let ahead = c.ahead.ensures.bytes ∙ ap (λ (state : InputState). state.ahead) c.self.view_is in
    let skipped = rw ahead at c.in-Some.ensures in
    let begins = begins_with_ended skipped.ended in
    record {
      line = take c.in-Some.len c.args.self.now.ahead;
      ends = c.take_line.ensures.taken taken _ begins.0 begins.1;
      skipped = skipped.skipped;
    }
