use Rattle.std.proofs.Common.{◌≡◌}
use Rattle.std.specs.Prelude.{drop}
use Rattle.dcc_send.specs.ProgrammingTrack.{first_cvs}
use Rattle.dcc_send.proofs.programming_track_decoder.programming_track.Given as goal

abbrev pub invariant-loop-decoder : goal.invariant-loop-decoder
invariant-loop-decoder l = first_cvs (drop l.decoder-index l.decoders) ≡ first_cvs l.decoders
