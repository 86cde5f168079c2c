-- The texts of the causes of a lost packet. The code writes these texts one after the other.
use Rattle.std.specs.Prelude.{ℕ, ◌++◌, Bool, List, [], Option, None, Some, codes, if◌then◌else◌}
use Rattle.dcc_lost.specs.declared.causes.OffLimits.{OffLimits}
use Rattle.dcc_lost.specs.declared.causes.ShortPreamble.{ShortPreamble}
use Rattle.dcc_listen.specs.LostListing.{preamble_text, off_limits_text}

-- the text of the cause `preamble` of a lost packet. The last half-bit of the packet has the number
-- `half`. If the preamble is no cause, there is no text.
abbrev pub preamble_cause : ℕ → Option ShortPreamble → List ℕ
preamble_cause half None = []
preamble_cause half (Some preamble) = preamble_text half preamble

-- the text of the half-bits `off` outside the limits, or no text if there are no such half-bits.
-- The text begins with the word `name`. If `has_cause` is true, a comma and a space come before
-- this word.
abbrev pub cause_behind : Bool → List ℕ → Option OffLimits → List ℕ
cause_behind has_cause name None = []
cause_behind has_cause name (Some off) = (if has_cause then codes ", " else []) ++ off_limits_text name off
