-- Locomotive decoders whose CVs can be written on the programming track.
use Rattle.std.specs.Prelude.{ℕ, List, map}
use Rattle.std.specs.List.{range_with_len}
use Rattle.dcc_regs.specs.declared.register.Who.{Who}
use Rattle.dcc_regs.specs.Loco.{cv_held}
use Rattle.dcc_regs.specs.Result.{RegisterMap}
use Rattle.dcc_track.specs.DecoderState.{DecoderState}

-- the values of CV1 to CV1024, which the registers `m` of their bits hold
unfoldable pub cvs_held : RegisterMap → List ℕ
cvs_held m = map (cv_held m) (range_with_len 1 1024)

-- the state of a locomotive decoder `who` with the registers `m`. Its CVs are in its registers.
abbrev pub loco_on_tracks : Who → RegisterMap → DecoderState
loco_on_tracks who m = record { who = who; registers = m; cvs = cvs_held m }
