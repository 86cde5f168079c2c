use Rattle.std.proofs.Common.{◌≡◌, ◌-◌, ◌<◌, ◌∷◌, ◌++◌, [], rules, true, arith, length, length-append, vec_len}
use Rattle.std.proofs.Common.{vec_capacity}
use Rattle.std.proofs.lemmas.List.Elements.{All-nil, All-push}
use Rattle.dcc_saved.specs.DecoderLines.{version_line, head_line}
use Rattle.dcc_saved.specs.DecoderText.{decoder_lines, decoder_text}
use Rattle.dcc_saved.specs.PossibleLines.{is_possible}
use Rattle.dcc_saved.specs.TextReader.{line_by}
use Rattle.dcc_saved.proofs.ReadLemmas.{Leads-start, Leads-then, Answers-fault}
use Rattle.dcc_saved.proofs.DecoderTextLemmas.{one_more, no_more, whole_lines, too_many_decoders}
use Rattle.dcc_saved.proofs.saved_decoders.fill.Goals as goal

pub returns-in_err-version-clause-reads : goal.returns-in_err-version-clause-reads
unfolding decoder_text
returns-in_err-version-clause-reads g c =
    let start = Leads-start decoder_text c.args.input.now c.requires.fault in
    search (rules, Answers-fault (line_by version_line) _ start)

pub returns-in_err-head-clause-reads : goal.returns-in_err-head-clause-reads
unfolding decoder_text
returns-in_err-head-clause-reads g c =
    let version = Leads-then _ _ (Leads-start decoder_text c.args.input.now c.requires.fault)
    c.in_ok-version.ensures.reads in
    search (rules, Answers-fault (line_by head_line) _ version)

pub decoders-init : goal.decoders-init
unfolding decoder_text
decoders-init g c =
    let version = Leads-then _ _ (Leads-start decoder_text c.args.input.now c.requires.fault)
    c.in_ok-version.ensures.reads in
    rw c.requires.empty record {
      leads = Leads-then _ _ version c.in_ok-head.ensures.reads;
      head = c.in_ok-head.ensures.fits;
      few = omega arith;
      room = c.requires.room;
      possible = All-nil (λ decoder. is_possible decoder ≡ true);
    }

pub returns-then-len-eq-MOST-clause-reads : goal.returns-then-len-eq-MOST-clause-reads
returns-then-len-eq-MOST-clause-reads g c =
    let full : length c.decoders.decoders.items ≡ 64 = omega (arith, c.decoders.decoders.ok, c.len.ensures) in
    let refused = c.refuse_too_much.ensures.refuses c.decoders.invariant.leads.fault in
    rw (refused.0, refused.1) (too_many_decoders _ _ (rw (c.in-Decoder.is, full) at c.decoders.invariant.leads))

pub decoders-preserved : goal.decoders-preserved
decoders-preserved g c =
    let some : length c.decoders.decoders.items < 64 =
    omega (arith, c.decoders.decoders.ok, c.len.ensures, c.if-len-eq-MOST.false, c.decoders.invariant.few) in
    let room : vec_len c.decoders.decoders < vec_capacity c.decoders.decoders =
    omega (arith, c.decoders.decoders.ok, c.decoders.invariant.room) in
    let items = rw (c.push.ensures.succeeds room) at c.push.ensures.items in
    let read = c.in_ok-decoder-in-Decoder.decoder in
    let left : 64 - length (c.decoders.decoders.items ++ read ∷ []) ≡ 63 - length c.decoders.decoders.items =
    simp length-append (omega arith) in
    rw items record {
      leads = rw left
          (Leads-then _ _ (rw (c.in-Decoder.is, one_more _ _ _ some) at c.decoders.invariant.leads)
          c.in_ok-decoder-in-Decoder.ensures.reads);
      head = c.in_ok-decoder-in-Decoder.ensures.possible.1;
      few = simp length-append (omega arith);
      room = omega (arith, c.push.ensures.capacity, c.decoders.invariant.room);
      possible = All-push (λ decoder. is_possible decoder ≡ true) c.decoders.decoders.items _
          c.decoders.invariant.possible c.in_ok-decoder-in-Decoder.ensures.possible.0;
    }

pub returns-in_err-decoder-in-Decoder-clause-reads : goal.returns-in_err-decoder-in-Decoder-clause-reads
returns-in_err-decoder-in-Decoder-clause-reads g c =
    let some : length c.decoders.decoders.items < 64 =
    omega (arith, c.decoders.decoders.ok, c.len.ensures, c.if-len-eq-MOST.false, c.decoders.invariant.few) in
    let leads = rw (c.in-Decoder.is, one_more _ _ _ some) at c.decoders.invariant.leads in
    search (rules, Answers-fault (decoder_lines c.in_ok-version.version c.in-Decoder.who) _ leads)

pub returns-in-End-clause-reads : goal.returns-in-End-clause-reads
returns-in-End-clause-reads g c = rw (c.in-End.is, no_more) at c.decoders.invariant.leads

pub returns-in-End-clause-lines : goal.returns-in-End-clause-lines
returns-in-End-clause-lines g c = whole_lines (rw (c.in-End.is, no_more) at c.decoders.invariant.leads) (λ same. cc)
