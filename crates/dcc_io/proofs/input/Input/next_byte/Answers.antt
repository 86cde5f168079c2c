use Rattle.std.proofs.Common.{refl, ap, ◌∙◌, add-zero, true}
use Rattle.dcc_io.specs.InputState.{InputState, closed_text}
use Rattle.dcc_io.proofs.InputLemmas.{begins_with_close, ends_behind_close, no_line_of_close}
use Rattle.dcc_io.proofs.TookLemmas.{if_some_all}
use Rattle.dcc_io.proofs.input.Input.next_byte.Goals as goal

pub returns-in-Ok-None : goal.returns-in-Ok-None
returns-in-Ok-None g c =
    let end = rw c.in-Ok-None.field-0-is at c.in-Ok-None.ensures in
    rw (← c.self.view_is) record {
      text = begins_with_close c.self.inside.closed _ _ c.if-self.false end.1 end.2;
      line = refl;
      in_comment = refl;
      lines = no_line_of_close c.self.inside.lines c.self.inside.line c.next.new.self.text;
      halves = refl;
      bytes = rw (c.if-self.false, add-zero) refl;
      room = λ none. ends_behind_close c.next.new.self.text;
      last = if_some_all _ (closed_text true c.next.new.self.text) (λ rest none. refl);
      fault = ap (λ (state : InputState). state.fault) c.self.view_is ∙ c.requires;
      failures = end.3;
    }
