-- Writes of configuration variables on the main track (RCN-214).
use Rattle.std.specs.Prelude.{ℕ, Bool, true, false, not, ◌&&◌, ◌==◌, Option, None, Some, is_some}
use Rattle.std.specs.Prelude.{if◌then◌else◌}
use Rattle.dcc_packet.specs.declared.address.Address.TheVariants.{Broadcast}
use Rattle.dcc_packet.specs.declared.cv.BitPlace.{BitPlace}
use Rattle.dcc_packet.specs.declared.cv.CvNumber.{CvNumber}
use Rattle.dcc_packet.specs.declared.instruction.What.{What}
use Rattle.dcc_packet.specs.declared.instruction.What.TheVariants.{CvWrite, CvBitWrite}
use Rattle.dcc_packet.specs.declared.packet.Packet.{Packet}
use Rattle.dcc_packet.specs.declared.packet.Packet.TheVariants.{Loco as ToLoco}
use Rattle.dcc_packet.specs.Bits.{is_one}
use Rattle.dcc_packet.specs.Cvs.{is_read_only}

-- true if the packet is an own write: a CV write that is not sent to the broadcast address
abbrev pub is_own_write : Packet → Bool
is_own_write (ToLoco Broadcast what) = false
is_own_write (ToLoco to (CvWrite cv value)) = true
is_own_write (ToLoco to (CvBitWrite cv place one)) = true
is_own_write p = false

-- the value to which packet `p` sets bit `k` of CV `n` when `p` takes effect. If `p` does not write
-- this bit, or if the CV is read-only, the result is `None`.
abbrev pub bit_set : Packet → ℕ → ℕ → Option Bool
bit_set (ToLoco to (CvWrite cv value)) n k =
    if n == cv.number && not (is_read_only cv.number) then Some (is_one value k) else None
bit_set (ToLoco to (CvBitWrite cv place one)) n k =
    if n == cv.number && k == place.place && not (is_read_only cv.number) then Some one else None
bit_set p n k = None

-- a change that a packet makes to a CV
pub data CvChange : Type 0 where
  -- the CV gets the byte as its value
  Byte : CvNumber → ℕ → CvChange
  -- the bit at the given place of the CV gets the given value
  OneBit : CvNumber → BitPlace → Bool → CvChange

-- the change that an instruction makes to a CV, or `None` if it changes no CV
abbrev pub cv_change : What → Option CvChange
cv_change (CvWrite cv value) = Some (Byte cv value)
cv_change (CvBitWrite cv place one) = Some (OneBit cv place one)
cv_change x = None

-- the change that a packet makes to a CV, or `None` if it changes no CV
abbrev pub change_of : Packet → Option CvChange
change_of (ToLoco to what) = cv_change what
change_of x = None

-- true if instruction `what` writes a CV or a bit of a CV
abbrev pub is_cv_write : What → Bool
is_cv_write what = is_some (cv_change what)

-- true if the change writes CV29 or a bit of CV29
abbrev pub is_of_cv29 : Option CvChange → Bool
is_of_cv29 None = false
is_of_cv29 (Some (Byte cv value)) = cv.number == 29
is_of_cv29 (Some (OneBit cv place one)) = cv.number == 29

-- true if instruction `what` writes CV29 or a bit of CV29
abbrev pub writes_mode : What → Bool
writes_mode what = is_of_cv29 (cv_change what)

-- true if packet `p` writes CV29 or a bit of CV29
abbrev pub writes_cv29 : Packet → Bool
writes_cv29 p = is_of_cv29 (change_of p)
