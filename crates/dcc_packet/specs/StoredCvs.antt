-- CVs that the caller of a function stores, for example in EEPROM. The function gets the value of
-- the one CV that it accesses, and returns the new value of this CV.
use Rattle.std.specs.Prelude.{◌≡◌, ℕ, ◌-◌, Option, None, Some, IfSome, List, slice_set}
use Rattle.dcc_packet.specs.declared.cv.CvNumber.{CvNumber}
use Rattle.dcc_packet.specs.Cvs.{cv_in}

-- the value of CV `cv` in the list `cvs` is `value`, or `cv` is `None`
abbrev pub HasValue : List ℕ → Option CvNumber → ℕ → Type 0
HasValue cvs cv value = IfSome cv (λ it. cv_in cvs it.number ≡ value)

-- the list `cvs` with the value `value` at CV `cv`. The list is unchanged if `cv` is `None`.
abbrev pub with_value : List ℕ → Option CvNumber → ℕ → List ℕ
with_value cvs None value = cvs
with_value cvs (Some cv) value = slice_set cvs (cv.number - 1) value
