-- The CV that a locomotive decoder accesses when it applies a packet. The caller of the decoder
-- stores the CVs.
use Rattle.std.specs.Prelude.{◌≡◌, ℕ, ◌&&◌, Option, None, Some, option_map, List, if◌then◌else◌}
use Rattle.dcc_packet.specs.declared.address.Address.{Address}
use Rattle.dcc_packet.specs.declared.cv.CvNumber.{CvNumber}
use Rattle.dcc_packet.specs.declared.packet.Packet.{Packet}
use Rattle.dcc_packet.specs.Cvs.{IsCvs, cv_in}
use Rattle.dcc_packet.specs.StoredCvs.{HasValue}
use Rattle.dcc_regs.specs.declared.register.Value.TheVariants.{Pending as PendingValue}
use Rattle.dcc_regs.specs.declared.register.Who.TheVariants.{Loco as LocoWho}
use Rattle.dcc_regs.specs.Heard.{hears}
use Rattle.dcc_regs.specs.Result.{is_effective}
use Rattle.dcc_regs.specs.Writes.{CvChange, Byte, OneBit, change_of}

-- the CV that a change writes
abbrev pub changed_cv : CvChange → CvNumber
changed_cv (Byte cv value) = cv
changed_cv (OneBit cv place one) = cv

-- the CV that a locomotive decoder accesses when it applies packet `p`. The decoder has the active
-- address `active` and the pending write `pending`. If `p` is a write that takes effect, the result
-- is the CV of `p`. For any other packet the result is `None`, because the decoder needs only CV29.
abbrev pub accessed_cv : Option Address → Option Packet → Packet → Option CvNumber
accessed_cv active pending p =
    if hears (LocoWho active) p && is_effective (Some (PendingValue pending)) p then option_map changed_cv (change_of p)
    else None

-- The list `cvs` has the values of all CVs of a decoder. CV29 has the value `cv29`. If `cv` is not
-- `None`, the CV `cv` has the value `value`.
pub record AreStored (cvs : List ℕ) (cv29 : ℕ) (cv : Option CvNumber) (value : ℕ) : Type 0 where
  pub all : IsCvs cvs
  pub mode : cv_in cvs 29 ≡ cv29
  pub accessed : HasValue cvs cv value

-- CV1, CV17, CV18 and CV29, which determine the active address, have the values `short`, `high`,
-- `low` and `kind` in the CVs `cvs`
pub record HaveAddress (cvs : ℕ → ℕ) (short high low kind : ℕ) : Type 0 where
  pub cv1 : cvs 1 ≡ short
  pub cv17 : cvs 17 ≡ high
  pub cv18 : cvs 18 ≡ low
  pub cv29 : cvs 29 ≡ kind
