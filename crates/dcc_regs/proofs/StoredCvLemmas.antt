-- The bits of the CVs after the value of the one CV that a packet accesses was replaced.
use Rattle.std.proofs.Common.{◌≡◌, ◌≢◌, ℕ, ◌-◌, ◌<◌, ◌≤◌, Bool, true, false, List, refl, sym, ◌∙◌, ap, subst, arith}
use Rattle.std.specs.Prelude.{◌==◌, ◌&&◌, Option, None, Some, option_map, unwrap_or, if◌then◌else◌, length, slice_index}
use Rattle.std.specs.Prelude.{slice_set}
use Rattle.std.proofs.lemmas.Bool.Decides.{Decides-eqb}
use Rattle.std.proofs.lemmas.List.{get_or-set_same, get_or-set_other, length-set}
use Rattle.dcc_packet.specs.declared.address.Address.{Address}
use Rattle.dcc_packet.specs.declared.cv.CvNumber.{CvNumber}
use Rattle.dcc_packet.specs.declared.packet.Packet.{Packet}
use Rattle.dcc_packet.specs.Bits.{is_one}
use Rattle.dcc_packet.specs.Cvs.{IsCvs, cv_in}
use Rattle.dcc_packet.specs.StoredCvs.{HasValue, with_value}
use Rattle.dcc_packet.proofs.BitLemmas.{either_by}
use Rattle.dcc_regs.specs.declared.register.Value.TheVariants.{Pending as PendingValue}
use Rattle.dcc_regs.specs.declared.register.Who.TheVariants.{Loco as LocoWho}
use Rattle.dcc_regs.specs.AccessedCv.{AreStored, accessed_cv, changed_cv}
use Rattle.dcc_regs.specs.Heard.{hears}
use Rattle.dcc_regs.specs.Result.{is_effective}
use Rattle.dcc_regs.specs.Writes.{CvChange, Byte, OneBit, bit_set, change_of, is_of_cv29, writes_cv29}
use Rattle.dcc_regs.specs.Inner.WriteParts.{bit_by}
use Rattle.dcc_regs.proofs.WritesInParts.{set_by_change}

not_same : (n m : ℕ) → n ≢ m → (t : Bool) → (n == m) ≡ t → (n == m) ≡ false
not_same n m ne true e = absurd (ne ((Decides-eqb n m).0 e))
not_same n m ne false e = e

-- a change leaves all other CVs
other_unset : (change : CvChange) (n k : ℕ) → n ≢ (changed_cv change).number → bit_by (Some change) n k ≡ None
other_unset (Byte cv value) n k ne = rw (not_same n cv.number ne (n == cv.number) refl) refl
other_unset (OneBit cv place one) n k ne = rw (not_same n cv.number ne (n == cv.number) refl) refl

-- the new value `new` of the CV that `change` writes, if its value was `old`
abbrev Written : Bool → Option CvChange → ℕ → ℕ → Type 0
Written t change old new =
    (cv : CvNumber) (place : ℕ) → option_map changed_cv change ≡ Some cv → place ≤ 7
    → is_one new place ≡ (if t then unwrap_or (bit_by change cv.number place) (is_one old place) else is_one old place)

changed_bits : (change : CvChange) (cvs : List ℕ) (old new n k : ℕ) → IsCvs cvs
    → cv_in cvs (changed_cv change).number ≡ old → Written true (Some change) old new → 1 ≤ n → k ≤ 7
    → is_one (cv_in (slice_set cvs ((changed_cv change).number - 1) new) n) k
    ≡ unwrap_or (bit_by (Some change) n k) (is_one (cv_in cvs n) k)
changed_bits change cvs old new n k all was write low here =
    let cv : CvNumber = changed_cv change in
    let count : length cvs ≡ 1024 = all.count in
    either_by n cv.number (n == cv.number) refl
    (λ same.
    let set : slice_index (slice_set cvs (cv.number - 1) new) (cv.number - 1) ≡ new =
    get_or-set_same cvs (cv.number - 1) new 0 (let in_range = cv.in_range in omega arith) in
    rw (same, set, was) (write cv k refl here))
    (λ ne.
    let apart : n - 1 ≢ cv.number - 1 = λ e. ne (let in_range = cv.in_range in omega arith) in
    let kept : slice_index (slice_set cvs (cv.number - 1) new) (n - 1) ≡ slice_index cvs (n - 1) =
    get_or-set_other cvs (cv.number - 1) (n - 1) new 0 apart in
    rw (kept, other_unset change n k ne) refl)

by_effect : (t : Bool) (change : Option CvChange) (cvs : List ℕ) (old new n k : ℕ) → IsCvs cvs
    → HasValue cvs (if t then option_map changed_cv change else None) old → Written t change old new → 1 ≤ n → k ≤ 7
    → is_one (cv_in (with_value cvs (if t then option_map changed_cv change else None) new) n) k
    ≡ (if t then unwrap_or (bit_by change n k) (is_one (cv_in cvs n) k) else is_one (cv_in cvs n) k)
by_effect true (Some change) cvs old new n k all was write low here =
    changed_bits change cvs old new n k all was write low here
by_effect true None cvs old new n k all was write low here = refl
by_effect false change cvs old new n k all was write low here = refl

-- the CV that a heard packet accesses
abbrev pub heard_cv : Option Packet → Packet → Option CvNumber
heard_cv pending p = if is_effective (Some (PendingValue pending)) p then option_map changed_cv (change_of p) else None

pub accessed-heard : (active : Option Address) (pending : Option Packet) (p : Packet) → hears (LocoWho active) p ≡ true
    → accessed_cv active pending p ≡ heard_cv pending p
accessed-heard active pending p h = rw h refl

pub accessed-unheard : (active : Option Address) (pending : Option Packet) (p : Packet)
    → hears (LocoWho active) p ≡ false → accessed_cv active pending p ≡ None
accessed-unheard active pending p h = rw h refl

-- what `hear` says of the new value `new` of the CV that packet `p` writes, if its value was `old`
abbrev pub WrittenBy : Bool → Packet → ℕ → ℕ → Type 0
WrittenBy t p old new =
    (cv : CvNumber) (place : ℕ) → option_map changed_cv (change_of p) ≡ Some cv → place ≤ 7
    → is_one new place ≡ (if t then unwrap_or (bit_set p cv.number place) (is_one old place) else is_one old place)

pub stored_bits : (pending : Option Packet) (p : Packet) (cvs : List ℕ) (old new n k : ℕ) → IsCvs cvs
    → HasValue cvs (heard_cv pending p) old
    → WrittenBy (is_effective (Some (PendingValue pending)) p) p old new
    → 1 ≤ n → k ≤ 7
    → is_one (cv_in (with_value cvs (heard_cv pending p) new) n) k
    ≡ (if is_effective (Some (PendingValue pending)) p
    then unwrap_or (bit_set p n k) (is_one (cv_in cvs n) k)
    else is_one (cv_in cvs n) k)
stored_bits pending p cvs old new n k all was write low here =
    by_effect (is_effective (Some (PendingValue pending)) p) (change_of p) cvs old new n k all was
    (λ cv place is few.
    write cv place is few
    ∙ as_set (is_effective (Some (PendingValue pending)) p) (is_one old place) (set_by_change p cv.number place))
    low here
    ∙ sym (as_set (is_effective (Some (PendingValue pending)) p) (is_one (cv_in cvs n) k) (set_by_change p n k))
  where
    as_set : (t old : Bool) {a b : Option Bool} → a ≡ b
        → (if t then unwrap_or a old else old) ≡ (if t then unwrap_or b old else old)
    as_set t old e = ap (λ o. if t then unwrap_or o old else old) e

-- a packet that accesses no CV changes no value
kept_by : (t : Bool) (change : Option CvChange) (old new : ℕ) → (if t then option_map changed_cv change else None)
    ≡ None
    → (t ≡ false → new ≡ old) → (change ≡ None → new ≡ old) → new ≡ old
kept_by true None old new e f g = g refl
kept_by true (Some change) old new e f g = absurd (cc)
kept_by false change old new e f g = f refl

pub value_kept : (pending : Option Packet) (p : Packet) (old new : ℕ) → heard_cv pending p ≡ None
    → (is_effective (Some (PendingValue pending)) p ≡ false → new ≡ old) → (change_of p ≡ None → new ≡ old) → new ≡ old
value_kept pending p = kept_by (is_effective (Some (PendingValue pending)) p) (change_of p)

-- the CVs are still stored after a packet
other_mode : (cvs : List ℕ) (cv : CvNumber) (new : ℕ) → 29 ≢ cv.number
    → cv_in (slice_set cvs (cv.number - 1) new) 29 ≡ cv_in cvs 29
other_mode cvs cv new ne =
    get_or-set_other cvs (cv.number - 1) 28 new 0 (λ e. ne (let in_range = cv.in_range in omega arith))

each_byte : (cvs : List ℕ) (i new : ℕ) → IsCvs cvs → i < 1024 → new < 256 → (k : ℕ)
    → slice_index (slice_set cvs i new) k < 256
each_byte cvs i new all there small k =
    let count : length cvs ≡ 1024 = all.count in
    either_by k i (k == i) refl
    (λ same.
    let set : slice_index (slice_set cvs i new) i ≡ new = get_or-set_same cvs i new 0 (omega arith) in
    rw (same, set) small)
    (λ ne.
    let kept : slice_index (slice_set cvs i new) k ≡ slice_index cvs k = get_or-set_other cvs i k new 0 ne in
    rw kept (all.bytes k))

set_cvs : (cvs : List ℕ) (cv : CvNumber) (new : ℕ) → IsCvs cvs → new < 256 → IsCvs (slice_set cvs (cv.number - 1) new)
set_cvs cvs cv new all small = record {
  count = length-set cvs (cv.number - 1) new ∙ all.count;
  bytes = each_byte cvs (cv.number - 1) new all (let in_range = cv.in_range in omega arith) small;
}

set_stored : (cvs : List ℕ) (cv : CvNumber) (cv29 cv29' old new : ℕ) → AreStored cvs cv29 (Some cv) old → new < 256
    → cv29' ≡ (if cv.number == 29 then new else cv29)
    → AreStored (slice_set cvs (cv.number - 1) new) cv29' (Some cv) new
set_stored cvs cv cv29 cv29' old new was small mode =
    let count : length cvs ≡ 1024 = was.all.count in
    let set : slice_index (slice_set cvs (cv.number - 1) new) (cv.number - 1) ≡ new =
    get_or-set_same cvs (cv.number - 1) new 0 (let in_range = cv.in_range in omega arith) in
    record {
      all = set_cvs cvs cv new was.all small;
      mode = either_by cv.number 29 (cv.number == 29) refl
          (λ same.
          let is : cv29' ≡ new = rw same at mode in
          let place : cv.number - 1 ≡ 28 = omega arith in
          let here : slice_index (slice_set cvs (cv.number - 1) new) 28 ≡ new =
          subst (λ (i : ℕ). slice_index (slice_set cvs (cv.number - 1) new) i ≡ new) place set in
          here ∙ sym is)
          (λ ne.
          let is : cv29' ≡ cv29 = rw (not_same cv.number 29 ne (cv.number == 29) refl) at mode in
          other_mode cvs cv new (λ e. ne (sym e)) ∙ was.mode ∙ sym is);
      accessed = set;
    }

-- the change that `hear` makes to CV29
of_cv29 : (change : CvChange) → is_of_cv29 (Some change) ≡ ((changed_cv change).number == 29)
of_cv29 (Byte cv value) = refl
of_cv29 (OneBit cv place one) = refl

stored_by : (t : Bool) (change : Option CvChange) (cvs : List ℕ) (cv29 cv29' old new : ℕ)
    → AreStored cvs cv29 (if t then option_map changed_cv change else None) old → new < 256
    → cv29' ≡ (if t && is_of_cv29 change then new else cv29)
    → AreStored (with_value cvs (if t then option_map changed_cv change else None) new) cv29'
    (if t then option_map changed_cv change else None) new
stored_by true (Some change) cvs cv29 cv29' old new was small mode =
    set_stored cvs (changed_cv change) cv29 cv29' old new was small
    (subst (λ (t : Bool). cv29' ≡ (if t then new else cv29)) (of_cv29 change) mode)
stored_by true None cvs cv29 cv29' old new was small mode =
    record { all = was.all; mode = was.mode ∙ sym mode; accessed = was.accessed }
stored_by false change cvs cv29 cv29' old new was small mode =
    record { all = was.all; mode = was.mode ∙ sym mode; accessed = was.accessed }

pub stored_after : (pending : Option Packet) (p : Packet) (cvs : List ℕ) (cv29 cv29' old new : ℕ)
    → AreStored cvs cv29 (heard_cv pending p) old → new < 256
    → cv29' ≡ (if is_effective (Some (PendingValue pending)) p && writes_cv29 p then new else cv29)
    → AreStored (with_value cvs (heard_cv pending p) new) cv29' (heard_cv pending p) new
stored_after pending p = stored_by (is_effective (Some (PendingValue pending)) p) (change_of p)
