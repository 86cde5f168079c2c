use Rattle.std.proofs.Common.{rules}
use Rattle.std.proofs.lemmas.Result.{err_from_is_err_and}
use Rattle.dcc_saved.specs.DecoderLines.{speed_line, numbers_line, pending_line}
use Rattle.dcc_saved.specs.DecoderText.{cvs_lines, loco_lines, states_by}
use Rattle.dcc_saved.specs.TextReader.{line_by}
use Rattle.dcc_saved.specs.declared.decoder_line.Numbered.TheVariants as kinds
use Rattle.dcc_saved.proofs.ReadLemmas.{Leads-start, Leads-then, Answers-fault}
use Rattle.dcc_saved.proofs.decoder_text.read_loco.Goals as goal

pub returns-in_err-saved-clause-reads : goal.returns-in_err-saved-clause-reads
unfolding loco_lines
returns-in_err-saved-clause-reads g c =
    let start = Leads-start (loco_lines c.args.version c.args.address) c.args.input.now c.requires.fault in
    search (rules, Answers-fault (line_by speed_line) _ start)

pub returns-in_err-functions-clause-reads : goal.returns-in_err-functions-clause-reads
unfolding loco_lines
returns-in_err-functions-clause-reads g c =
    let start = Leads-start (loco_lines c.args.version c.args.address) c.args.input.now c.requires.fault in
    let speed = Leads-then _ _ start c.in_ok-saved.ensures.reads in
    let p = err_from_is_err_and c.from_residual-in_err-functions.result c.from_residual-in_err-functions.ensures.1 in
    rw (p.1, p.2) (Answers-fault (line_by (numbers_line kinds.Function)) _ speed _ _ c.in_err-functions.ensures.reads)

pub returns-in_err-states-clause-reads : goal.returns-in_err-states-clause-reads
unfolding loco_lines
returns-in_err-states-clause-reads g c =
    let start = Leads-start (loco_lines c.args.version c.args.address) c.args.input.now c.requires.fault in
    let functions = Leads-then _ _ (Leads-then _ _ start c.in_ok-saved.ensures.reads) c.in_ok-functions.ensures.reads in
    search (rules, Answers-fault (states_by c.args.version) _ functions)

pub returns-in_err-pending-clause-reads : goal.returns-in_err-pending-clause-reads
unfolding loco_lines
returns-in_err-pending-clause-reads g c =
    let start = Leads-start (loco_lines c.args.version c.args.address) c.args.input.now c.requires.fault in
    let functions = Leads-then _ _ (Leads-then _ _ start c.in_ok-saved.ensures.reads) c.in_ok-functions.ensures.reads in
    let states = Leads-then _ _ functions c.in_ok-states.ensures.reads in
    let p = err_from_is_err_and c.from_residual-in_err-pending.result c.from_residual-in_err-pending.ensures.1 in
    rw (p.1, p.2) (Answers-fault (line_by (pending_line c.args.address)) _ states _ _ c.in_err-pending.ensures.reads)

pub returns-in_err-cvs-clause-reads : goal.returns-in_err-cvs-clause-reads
unfolding loco_lines
returns-in_err-cvs-clause-reads g c =
    let start = Leads-start (loco_lines c.args.version c.args.address) c.args.input.now c.requires.fault in
    let functions = Leads-then _ _ (Leads-then _ _ start c.in_ok-saved.ensures.reads) c.in_ok-functions.ensures.reads in
    let behind = Leads-then _ _ (Leads-then _ _ functions c.in_ok-states.ensures.reads) c.in_ok-pending.ensures.reads in
    search (rules, Answers-fault cvs_lines _ behind)

pub returns-clause-reads : goal.returns-clause-reads
unfolding loco_lines
returns-clause-reads g c =
    let start = Leads-start (loco_lines c.args.version c.args.address) c.args.input.now c.requires.fault in
    let functions = Leads-then _ _ (Leads-then _ _ start c.in_ok-saved.ensures.reads) c.in_ok-functions.ensures.reads in
    let behind = Leads-then _ _ (Leads-then _ _ functions c.in_ok-states.ensures.reads) c.in_ok-pending.ensures.reads in
    Leads-then _ _ behind c.in_ok-cvs.ensures.reads
