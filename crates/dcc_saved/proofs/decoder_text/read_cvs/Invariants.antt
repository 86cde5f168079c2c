use Rattle.std.proofs.Common.{suc, ℕ, ◌+◌, ◌-◌, ◌≤◌}
use Rattle.dcc_saved.specs.DecoderText.{cvs_from, cvs_lines}
use Rattle.dcc_saved.specs.TextRead.{Leads}
use Rattle.dcc_saved.proofs.decoder_text.read_cvs.Given as goal

abbrev pub invariant-cvs : goal.invariant-cvs
invariant-cvs g l = record {
  more : ℕ;
  room : 1025 ≤ more + l.least;
  first : 1 ≤ l.least;
  last : l.least ≤ 1025;
  leads : Leads cvs_lines l.initial.input (cvs_from (suc more) l.least l.cvs) l.input;
}

abbrev pub decreases-cvs : goal.decreases-cvs
decreases-cvs g l = 1025 - l.least
