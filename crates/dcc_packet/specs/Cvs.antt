-- The configuration variables (CVs) of a decoder (NMRA S-9.2.2; RCN-214).
use Rattle.std.specs.Prelude.{◌≡◌, ℕ, ◌<◌, ◌-◌, ◌==◌, ◌||◌, not, Bool, if◌then◌else◌, List, length}
use Rattle.std.specs.Prelude.{slice_index, slice_set}
use Rattle.dcc_packet.specs.declared.cv.CvNumber.{CvNumber}

-- `cvs` has the values of CV1 to CV1024. Each value is a byte.
pub record IsCvs (cvs : List ℕ) : Type 0 where
  pub count : length cvs ≡ 1024
  pub bytes : (i : ℕ) → slice_index cvs i < 256

-- the value of CV number `cv` in the list `cvs`. This list begins with CV1.
abbrev pub cv_in : List ℕ → ℕ → ℕ
cv_in cvs cv = slice_index cvs (cv - 1)

-- true if `cv` is 7 or 8 (version and manufacturer): no packet changes CV7 and CV8
abbrev pub is_read_only : ℕ → Bool
is_read_only cv = cv == 7 || cv == 8

-- true if `cv` is not CV7 or CV8
abbrev pub is_writable : CvNumber → Bool
is_writable cv = not (is_read_only cv.number)

-- the list `cvs` after `value` was written to `cv`. The list is unchanged if `cv` is read-only.
abbrev pub written : List ℕ → CvNumber → ℕ → List ℕ
written cvs cv value = if is_writable cv then slice_set cvs (cv.number - 1) value else cvs
