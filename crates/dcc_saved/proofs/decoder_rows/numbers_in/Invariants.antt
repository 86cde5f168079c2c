use Rattle.std.proofs.Common.{◌≡◌}
use Rattle.dcc_regs.specs.Loco.{holds_one}
use Rattle.dcc_saved.specs.FleetText.{bits_on}
use Rattle.dcc_saved.specs.Numbered.{register_of}
use Rattle.dcc_saved.proofs.decoder_rows.numbers_in.Given as goal

abbrev pub invariant-loop-n : goal.invariant-loop-n
invariant-loop-n g l =
    let is = goal.Decoder-dyn g l.decoder.now in
    l.bits ≡ bits_on (λ n. holds_one (is.registers l.decoder.now.1 (register_of l.numbered n))) l.n
