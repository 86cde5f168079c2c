-- The texts of the causes of a lost packet.
use Rattle.std.proofs.Common.{◌≡◌, ℕ, List, ◌++◌, Option, Some, None, refl}
use Rattle.std.proofs.Common.{append_assoc, append-nil, codes, ◌||◌, arith}
use Rattle.std.specs.Option.{is_some}
use Rattle.dcc_lost.specs.declared.causes.OffLimits.{OffLimits}
use Rattle.dcc_lost.specs.declared.causes.ShortPreamble.{ShortPreamble}
use Rattle.dcc_lost.specs.declared.causes.LostPacket.{LostPacket}
use Rattle.dcc_listen.specs.LostListing.{causes_text}
use Rattle.dcc_listen.specs.Inner.LostTexts.{preamble_cause, cause_behind}

pub all_causes : (half : ℕ) (packet : LostPacket)
    → preamble_cause half packet.preamble ++ (cause_behind (is_some packet.preamble) (codes "ones") packet.ones
    ++ cause_behind (is_some packet.preamble || is_some packet.ones) (codes "zeros") packet.zeros)
    ≡ causes_text half packet
all_causes half packet = go packet.frame packet.preamble packet.ones packet.zeros
  where
    go : (frame : List ℕ) (preamble : Option ShortPreamble) (ones zeros : Option OffLimits)
        → preamble_cause half preamble ++ (cause_behind (is_some preamble) (codes "ones") ones
        ++ cause_behind (is_some preamble || is_some ones) (codes "zeros") zeros)
        ≡ causes_text half (record { frame = frame; preamble = preamble; ones = ones; zeros = zeros })
    go frame None None None = refl
    go frame None None (Some zeros) = grind (arith, append-nil)
    go frame None (Some ones) None = grind (arith, append-nil)
    go frame None (Some ones) (Some zeros) = grind (arith, append-nil)
    go frame (Some preamble) None None = grind (arith, append-nil)
    go frame (Some preamble) None (Some zeros) = grind (arith, append-nil)
    go frame (Some preamble) (Some ones) None = grind (arith, append-nil)
    go frame (Some preamble) (Some ones) (Some zeros) = grind (arith, append-nil, append_assoc)
