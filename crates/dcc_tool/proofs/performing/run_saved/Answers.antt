use denote.Param.Object.{read_made}
use Rattle.std.proofs.Common.{refl, ◌∙◌}
use Rattle.dcc_regs.specs.declared.register.Who.{Who}
use Rattle.dcc_regs.specs.Result.{RegisterMap}
use Rattle.dcc_tool.proofs.PerformLemmas.{no_memory, hear_rest, one_more_boxed, all_boxed, same_decoder}
use Rattle.dcc_tool.proofs.performing.run_saved.OwnLists.{own-1, at-1-1, at-1-2}
use Rattle.dcc_tool.proofs.performing.run_saved.Goals as goal
use Rattle.dcc_tool.proofs.performing.run_saved.Goals.{in-Loco+in-Ok+in-Ok-push, in-Board+in-Ok-new+in-Ok-push-2}

pub returns-in-Err : goal.returns-in-Err
returns-in-Err g c =
    no_memory c.in_ok-saved.saved c.args.input.now c.read_decoders.new.input c.in_ok-saved.saved.items
    c.in_ok-saved.ensures.kept
    c.in_ok-saved.ensures.reads c.in_ok-saved.ensures.lines c.in_ok-saved.ensures.possible _

pub returns-in-Err-push : goal.returns-in-Err-push
returns-in-Err-push g c =
    no_memory c.in_ok-saved.saved c.args.input.now c.read_decoders.new.input c.in_ok-saved.saved.items
    c.in_ok-saved.ensures.kept
    c.in_ok-saved.ensures.reads c.in_ok-saved.ensures.lines c.in_ok-saved.ensures.possible _

pub returns-in-Err-new : goal.returns-in-Err-new
returns-in-Err-new g c =
    no_memory c.in_ok-saved.saved c.args.input.now c.read_decoders.new.input c.in_ok-saved.saved.items
    c.in_ok-saved.ensures.kept
    c.in_ok-saved.ensures.reads c.in_ok-saved.ensures.lines c.in_ok-saved.ensures.possible _

pub returns-in-Err-push-2 : goal.returns-in-Err-push-2
returns-in-Err-push-2 g c =
    no_memory c.in_ok-saved.saved c.args.input.now c.read_decoders.new.input c.in_ok-saved.saved.items
    c.in_ok-saved.ensures.kept
    c.in_ok-saved.ensures.reads c.in_ok-saved.ensures.lines c.in_ok-saved.ensures.possible _

pub decoders-preserved : goal.decoders-preserved
decoders-preserved g c = elim c.match-decoder.branch [
  | in-Loco+in-Ok+in-Ok-push w ↦
      let boxed = w.into_dyn_box.result in
      let named = read_made own-1 (own-1.entry at-1-1) at-1-1 refl Who (λ entry value. entry.1.who value) boxed.vtable
      boxed.value w.in-Ok.boxed.value w.into_dyn_box.ensures.1 in
      let holds = read_made own-1 (own-1.entry at-1-1) at-1-1 refl RegisterMap (λ entry value. entry.1.registers value)
      boxed.vtable boxed.value w.in-Ok.boxed.value w.into_dyn_box.ensures.1 in
      let loco = w.in-Ok.ensures.ok in
      let same = w.in-Loco.is in
      one_more_boxed
      (λ decoder. (
        (own-1.entry decoder.vtable).1.who decoder.value,
        (own-1.entry decoder.vtable).1.registers decoder.value,
      )) c.decoders.fleet.items
      c.match-decoder.fleet.items boxed
      c.deref-decoder-items.result.now c.decoder-item.result c.decoders.decoder-index c.decoders-test.true
      c.decoder-item.is c.decoders.invariant (rw w.fleet-is w.in-Ok-push.ensures.items)
      (rw same
      (same_decoder _ _ _ _ (named ∙ rw loco w.loco_of.ensures.who)
      (holds ∙ rw loco w.loco_of.ensures.registers)))
  | in-Board+in-Ok-new+in-Ok-push-2 w ↦
      let boxed = w.into_dyn_box-in-Board.result in
      let named = read_made own-1 (own-1.entry at-1-2) at-1-2 refl Who (λ entry value. entry.1.who value) boxed.vtable
      boxed.value w.in-Ok-new.boxed.value w.into_dyn_box-in-Board.ensures.1 in
      let holds = read_made own-1 (own-1.entry at-1-2) at-1-2 refl RegisterMap (λ entry value. entry.1.registers value)
      boxed.vtable boxed.value w.in-Ok-new.boxed.value w.into_dyn_box-in-Board.ensures.1 in
      let board = w.in-Ok-new.ensures.ok in
      let same = w.in-Board.is in
      one_more_boxed
      (λ decoder. (
        (own-1.entry decoder.vtable).1.who decoder.value,
        (own-1.entry decoder.vtable).1.registers decoder.value,
      )) c.decoders.fleet.items
      c.match-decoder.fleet.items boxed
      c.deref-decoder-items.result.now c.decoder-item.result c.decoders.decoder-index c.decoders-test.true
      c.decoder-item.is c.decoders.invariant (rw w.fleet-is w.in-Ok-push-2.ensures.items)
      (rw same
      (same_decoder _ _ _ _ (named ∙ rw board w.board_of.ensures.who)
      (holds ∙ rw board w.board_of.ensures.registers)))
]

pub returns : goal.returns
returns g c =
    hear_rest c.in_ok-saved.saved c.args.input.now c.read_decoders.new.input c.in_ok-saved.saved.items
    c.in_ok-saved.ensures.kept
    c.in_ok-saved.ensures.reads c.in_ok-saved.ensures.lines c.in_ok-saved.ensures.possible _ _ _ c.run.result _ _
    (all_boxed
    (λ decoder. (
      (own-1.entry decoder.vtable).1.who decoder.value,
      (own-1.entry decoder.vtable).1.registers decoder.value,
    )) c.decoders.fleet.items
    c.as_mut_slice.result.now c.deref-decoder-items.result.now
    c.in_ok-saved.saved.items c.decoders.decoder-index c.as_mut_slice.ensures.value c.deref-decoder-items.ensures.value
    c.decoders-test.false c.decoders.invariant)
    c.run.ensures.runs
