use Rattle.std.proofs.Common.{◌∙◌, ◌++◌, ◌∷◌, [], ap}
use Rattle.dcc_regs.specs.Result.{RegisterMap}
use Rattle.dcc_regs.proofs.InParts.{heard_nothing, heard_one_more}
use Rattle.dcc_station.specs.Refresh.{hands_out}
use Rattle.dcc_station.proofs.Transparent.{refresh_all}
use Rattle.dcc_station.proofs.laws.stations_are_heard.Goals as goal

pub returns : goal.returns
returns c = record {
  begins = λ s commands who start stands. record { packets = []; stands = stands; heard = heard_nothing who start };
  handed_out = λ s new commands p who who' who'' start now after h next same step. record {
    packets = h.packets ++ p ∷ [];
    stands = hands_out s new commands h.packets p h.stands next;
    heard = heard_one_more h.packets p who who' who'' start now after h.heard same step;
  };
  accepted = λ s new commands p who who' start now h accepts.
      record { packets = h.packets; stands = accepts h.packets h.stands; heard = h.heard };
  forgotten = λ s new commands who who' start now h forgets.
      record { packets = h.packets; stands = forgets h.packets h.stands; heard = h.heard };
  intended = λ s commands who who' start now register h none but.
      ap (λ (m : RegisterMap). m register) h.heard.registers
      ∙ refresh_all s commands h.packets h.stands none who start register but;
}
