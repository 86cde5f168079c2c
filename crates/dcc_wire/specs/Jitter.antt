-- Half-bits that are measured with an error.
use Rattle.std.specs.Prelude.{◌≡◌, ◌≤◌, ℕ, ◌+◌, true, List, [], ◌∷◌, map}
use Rattle.std.specs.List.{AllZip}
use Rattle.dcc_wire.specs.declared.half.Half.{Half}
use Rattle.dcc_wire.specs.declared.half.Half.TheVariants.{One, Zero, Bad}
use Rattle.dcc_wire.specs.Half.{class_of}
use Rattle.dcc_wire.specs.Sending.{Sent, sent_all}
use Rattle.dcc_wire.specs.Timings.{is_one_half, is_zero_half}

-- the durations `us` and `measured` differ by at most `error` microseconds
abbrev pub IsWithin : ℕ → ℕ → ℕ → Type 0
IsWithin error us measured = (us ≤ measured + error) × (measured ≤ us + error)

-- `measured` has as many half-bits as `durations`. At each place, the durations of the two
-- half-bits differ by at most `error` microseconds.
abbrev pub AreWithin : ℕ → List ℕ → List ℕ → Type 0
AreWithin error durations measured = AllZip (IsWithin error) durations measured

-- a station can send a half-bit of class `half` with `us` microseconds: 55 to 61 for `One`, and 95 to
-- 9,900 for `Zero`
abbrev pub CanLast : Half → ℕ → Type 0
CanLast One us = is_one_half us ≡ true
CanLast Zero us = is_zero_half us ≡ true
CanLast Bad us = ⊥

-- `durations` has a half-bit for each half-bit of `packets`, of the same class. Each half-bit by itself
-- is within the limits of a station, so the durations can differ from bit to bit.
abbrev pub CanBeSentAs : List Sent → List ℕ → Type 0
CanBeSentAs packets durations = AllZip CanLast (map class_of (sent_all packets)) durations

-- the half-bits of the packet have the nominal durations: 58 microseconds for ones, 100 for zeros
abbrev pub HasNominalHalves : Sent → Type 0
HasNominalHalves packet =
    (packet.timing.one ≡ 58) × (packet.timing.zero_first ≡ 100) × (packet.timing.zero_second ≡ 100)

-- the half-bits of all `packets` have the nominal durations
unfoldable pub AllNominal : List Sent → Type 0
AllNominal [] = Unit {0}
AllNominal (packet ∷ packets) = HasNominalHalves packet × AllNominal packets
