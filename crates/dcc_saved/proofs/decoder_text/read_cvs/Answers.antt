use Rattle.std.proofs.Common.{rules, suc, ◌≡◌, ◌-◌, arith}
use Rattle.dcc_saved.specs.DecoderLines.{loco_line}
use Rattle.dcc_saved.specs.DecoderText.{cvs_lines}
use Rattle.dcc_saved.specs.TextReader.{line_by}
use Rattle.dcc_saved.proofs.ReadLemmas.{Leads-start, Leads-then, Answers-fault}
use Rattle.dcc_saved.proofs.decoder_text.read_cvs.Goals as goal

pub cvs-init : goal.cvs-init
unfolding cvs_lines
cvs-init g c = record {
  more = 1024;
  room = omega arith;
  first = omega arith;
  last = omega arith;
  leads = Leads-start cvs_lines c.args.input.now c.requires;
}

pub cvs-preserved : goal.cvs-preserved
cvs-preserved g c =
    let read = rw c.in-Cv.is at c.in_ok-cv.ensures in
    let some : c.cvs.invariant.more ≡ suc (c.cvs.invariant.more - 1) =
    omega (arith, c.cvs.invariant, read.fits.0, c.in-Cv.cv.in_range) in
    rw (c.number-least.ensures.value, c.number.ensures.value) record {
      more = c.cvs.invariant.more - 1;
      room = omega (arith, c.cvs.invariant, read.fits.0);
      first = omega arith;
      last = omega (arith, c.in-Cv.cv.in_range);
      leads = rw some at (Leads-then (line_by (loco_line c.cvs.least)) _ c.cvs.invariant.leads read.reads);
    }

pub returns-in-Head-clause-reads : goal.returns-in-Head-clause-reads
returns-in-Head-clause-reads g c =
    let read = rw c.in-Head.is at c.in_ok-cv.ensures in
    Leads-then (line_by (loco_line c.cvs.least)) _ c.cvs.invariant.leads read.reads

pub returns-in_err-cv-clause-reads : goal.returns-in_err-cv-clause-reads
returns-in_err-cv-clause-reads g c =
    search (rules, Answers-fault (line_by (loco_line c.cvs.least)) _ c.cvs.invariant.leads)
