use Rattle.std.proofs.Common.{◌≡◌, ◌∙◌, refl, ap, subst, true}
use Rattle.dcc_packet.specs.Spelling.{spelling}
use Rattle.dcc_packet.specs.declared.packet.Packet.{Packet}
use Rattle.dcc_regs.specs.Heard.{hears}
use Rattle.dcc_regs.specs.Result.{step}
use Rattle.dcc_regs.specs.Setting.{mode_in}
use Rattle.dcc_station.specs.Functions.{HasFunctions}
use Rattle.dcc_c.specs.Frames.{frame_numbers}
use Rattle.dcc_c.proofs.functions.turn.Goals as goal

pub returns-in-Some-clause-turned : goal.returns-in-Some-clause-turned
returns-in-Some-clause-turned c none =
    let group = c.in-Some.ensures.group in
    let after = c.turn.new.self.on in
    record {
      before = c.bits_of.result;
      after = after;
      bits = group.0;
      stored = c.bits_of.ensures.words;
      stores = c.words_of-functions.ensures;
      turned = c.in-Some.ensures.turned (c.in-Some.ensures.found.0 refl);
      bytes = c.of.ensures
          ∙ ap frame_numbers (c.bytes.ensures.value ∙ c.frame.ensures.spelled ∙ ap spelling group.1);
      in_group = group.2;
      states = group.3;
      follows = λ who start.
          subst
          (λ (p : Packet). hears who p ≡ true → HasFunctions (mode_in start) c.bits_of.result start
          → HasFunctions (mode_in start) after (step who start p))
          group.1 (c.in-Some.ensures.decoder who start);
    }
