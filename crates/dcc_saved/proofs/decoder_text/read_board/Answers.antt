use Rattle.std.proofs.Common.{rules}
use Rattle.std.proofs.lemmas.Result.{err_from_is_err_and}
use Rattle.dcc_saved.specs.DecoderLines.{numbers_line, positions_line, aspects_line, head_line}
use Rattle.dcc_saved.specs.DecoderText.{board_lines}
use Rattle.dcc_saved.specs.TextReader.{line_by}
use Rattle.dcc_saved.specs.declared.decoder_line.Numbered.TheVariants as kinds
use Rattle.dcc_saved.proofs.ReadLemmas.{Leads-start, Leads-then, Answers-fault}
use Rattle.dcc_saved.proofs.decoder_text.read_board.Goals as goal

pub returns-in_err-outs-clause-reads : goal.returns-in_err-outs-clause-reads
unfolding board_lines
returns-in_err-outs-clause-reads g c =
    let start = Leads-start (board_lines c.args.board) c.args.input.now c.requires.fault in
    search (rules, Answers-fault (line_by (numbers_line kinds.Out)) _ start)

pub returns-in_err-positions-clause-reads : goal.returns-in_err-positions-clause-reads
unfolding board_lines
returns-in_err-positions-clause-reads g c =
    let outs = Leads-then _ _ (Leads-start (board_lines c.args.board) _ c.requires.fault) c.in_ok-outs.ensures.reads in
    let p = err_from_is_err_and c.from_residual-in_err-positions.result c.from_residual-in_err-positions.ensures.1 in
    rw (p.1, p.2) (Answers-fault (line_by positions_line) _ outs _ _ c.in_err-positions.ensures.reads)

pub returns-in_err-aspects-clause-reads : goal.returns-in_err-aspects-clause-reads
unfolding board_lines
returns-in_err-aspects-clause-reads g c =
    let outs = Leads-then _ _ (Leads-start (board_lines c.args.board) _ c.requires.fault) c.in_ok-outs.ensures.reads in
    let positions = Leads-then _ _ outs c.in_ok-positions.ensures.reads in
    let p = err_from_is_err_and c.from_residual-in_err-aspects.result c.from_residual-in_err-aspects.ensures.1 in
    rw (p.1, p.2) (Answers-fault (line_by aspects_line) _ positions _ _ c.in_err-aspects.ensures.reads)

pub returns-in_err-head-clause-reads : goal.returns-in_err-head-clause-reads
unfolding board_lines
returns-in_err-head-clause-reads g c =
    let outs = Leads-then _ _ (Leads-start (board_lines c.args.board) _ c.requires.fault) c.in_ok-outs.ensures.reads in
    let aspects = Leads-then _ _ (Leads-then _ _ outs c.in_ok-positions.ensures.reads) c.in_ok-aspects.ensures.reads in
    search (rules, Answers-fault (line_by head_line) _ aspects)

pub returns-clause-reads : goal.returns-clause-reads
unfolding board_lines
returns-clause-reads g c =
    let outs = Leads-then _ _ (Leads-start (board_lines c.args.board) _ c.requires.fault) c.in_ok-outs.ensures.reads in
    let aspects = Leads-then _ _ (Leads-then _ _ outs c.in_ok-positions.ensures.reads) c.in_ok-aspects.ensures.reads in
    Leads-then _ _ aspects c.in_ok-head.ensures.reads
