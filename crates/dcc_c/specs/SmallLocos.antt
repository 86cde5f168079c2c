-- The C structure of a locomotive decoder. The caller stores the CVs of the decoder.
use Rattle.std.specs.Prelude.{◌≡◌, ℕ, true, Option, None, Some}
use Rattle.dcc_packet.specs.declared.cv.CvNumber.{CvNumber}
use Rattle.dcc_packet.specs.declared.packet.Packet.{Packet}
use Rattle.dcc_packet.specs.Cvs.{IsCvs, cv_in}
use Rattle.dcc_packet.specs.StoredCvs.{with_value}
use Rattle.dcc_regs.specs.declared.loco_state.LocoState.{LocoState}
use Rattle.dcc_regs.specs.AccessedCv.{accessed_cv}
use Rattle.dcc_regs.specs.LocoRegisters.{registers_in}
use Rattle.dcc_regs.specs.LocoState.{is_state, loco_map, loco_who}
use Rattle.dcc_c.specs.declared.small_loco.DccSmallLoco.{DccSmallLoco}
use Rattle.dcc_c.specs.Applied.{HasApplied}
use Rattle.dcc_c.specs.Locos.{register_numbers}

-- the C structure of a locomotive decoder in state `s`. Of the CVs, the structure has only CV29.
abbrev pub small_loco_numbers : LocoState → DccSmallLoco
small_loco_numbers s = record { registers = register_numbers (registers_in s); cv29 = cv_in s.cvs 29 }

-- `loco` is the C structure of a locomotive decoder in state `s`, and a locomotive decoder can be
-- in this state
pub record IsSmallLoco (loco : DccSmallLoco) (s : LocoState) : Type 0 where
  pub possible : is_state s ≡ true
  pub cvs : IsCvs s.cvs
  pub numbers : loco ≡ small_loco_numbers s

-- the CV that a locomotive decoder in state `s` accesses when it applies packet `p`
abbrev pub loco_cv : LocoState → Packet → Option CvNumber
loco_cv s p = accessed_cv s.address s.pending p

-- the number of a CV, or 0 for no CV
abbrev pub cv_or_0 : Option CvNumber → ℕ
cv_or_0 None = 0
cv_or_0 (Some cv) = cv.number

-- A locomotive decoder in state `before` applies `packet`. The caller passes `value`, the value of
-- the CV that the decoder accesses, and gets the new value `value'` of this CV. The C structure of
-- the decoder after the call is `loco`.
pub record AppliesToValue (packet : Packet) (before : LocoState) (value : ℕ) (loco : DccSmallLoco) (value' : ℕ) : Type 0
  where
    pub after : LocoState
    pub is : IsSmallLoco loco after
    pub cvs : after.cvs ≡ with_value before.cvs (loco_cv before packet) value'
    pub applied : HasApplied packet (loco_who before) (loco_map before) (loco_who after) (loco_map after)
