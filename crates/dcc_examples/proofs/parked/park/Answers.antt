use Rattle.std.proofs.Common.{refl, ◌∙◌, ap}
use Rattle.dcc_regs.specs.declared.register.Register.TheVariants.{CvBit, Speed}
use Rattle.dcc_regs.specs.Safety.{is_standing}
use Rattle.dcc_examples.proofs.parked.park.Goals as goal

pub returns-clause-still : goal.returns-clause-still
returns-clause-still c = λ packets are calm.
    c.decoders_are_safe_on_any_track.ensures.movers _ packets _ _ _ _ are c.hear_one.ensures
    (rw c.new-loco.ensures.who calm) (ap (λ m. is_standing (m Speed)) c.new-loco.ensures.registers)

pub returns-clause-maker : goal.returns-clause-maker
returns-clause-maker c = λ k.
    c.decoders_are_safe_on_any_track.ensures.read_only _ _ _ _ _ 8 k c.hear_one.ensures refl
    ∙ ap (λ m. m (CvBit 8 k)) c.new-loco.ensures.registers
