use Rattle.std.proofs.Common.{◌∙◌, sym, refl, arith}
use Rattle.dcc_packet.specs.declared.packet.Packet.TheVariants.{Other}
use Rattle.dcc_c.proofs.packet_fields.is_other.Goals as goal

pub returns-in-Other : goal.returns-in-Other
returns-in-Other c = (
  λ yes. (
    omega (arith, c.if-frame-gt6.false),
    (
      c.in-Other.field-0,
      c.in-Other.ensures.spelled ∙ c.in-Ok.ensures.valid.1 ∙ c.as_slice.ensures,
    ),
  ),
  λ is. refl,
)

pub returns-in_default : goal.returns-in_default
returns-in_default c = (
  λ yes. absurd (cc),
  λ is. absurd (c.in_default.not-Other is.1.0
      (sym (c.read.ensures.only (Other is.1.0) (is.1.1 ∙ sym (c.in-Ok.ensures.valid.1 ∙ c.as_slice.ensures))))),
)
