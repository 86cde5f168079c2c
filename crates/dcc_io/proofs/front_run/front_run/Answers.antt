use Rattle.std.proofs.Common.{◌+◌, ◌-◌, take, drop, length, arith, sym, ◌∙◌, length-drop}
use Rattle.std.proofs.lemmas.List.{take_all}
use Rattle.dcc_io.proofs.FrontLemmas.{is_front_run}
use Rattle.dcc_io.proofs.front_run.front_run.Goals as goal

pub returns : goal.returns
returns c =
    let bytes = c.args.bytes.now in
    let star = c.in_ok-us.star in
    is_front_run bytes (take (length bytes - (star + 1)) (drop (star + 1) bytes)) star c.in_ok-n.count c.in_ok-us.us
    c.min.result c.in_ok-n.n
    (take_all (length bytes - (star + 1)) (drop (star + 1) bytes) (omega (arith, length-drop (star + 1) bytes)))
    c.in_ok-us.ensures.0 c.in_ok-us.ensures.1 (omega arith) (omega arith) c.if-bytes-star-ne42.false
    c.in_ok-n.ensures.0 c.in_ok-n.ensures.1 (omega arith) (omega arith) (omega arith)
    (sym c.is_gap.ensures ∙ c.if-not-is_gap.false) c.min.ensures
