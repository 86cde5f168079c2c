-- The half-bits of a frame for a caller in C.
use Rattle.std.specs.Prelude.{◌≡◌, ℕ, ◌==◌, ◌&&◌, Bool, List}
use Rattle.dcc_wire.specs.declared.timing.Timing.{Timing}
use Rattle.dcc_wire.specs.Timings.{is_preamble}
use Rattle.dcc_c.specs.Frames.{frame_answer}

-- true if the bytes `frame` are a frame, and a station can send `preamble` ones before it
abbrev pub is_sendable_by_numbers : List ℕ → ℕ → Bool
is_sendable_by_numbers frame preamble = frame_answer frame == 0 && is_preamble preamble

-- `timing` is the nominal timing with `preamble` ones in the preamble
pub record IsNominal (preamble : ℕ) (timing : Timing) : Type 0 where
  pub one : timing.one ≡ 58
  pub zero_first : timing.zero_first ≡ 100
  pub zero_second : timing.zero_second ≡ 100
  pub ones : timing.preamble ≡ preamble
