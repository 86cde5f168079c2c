-- The bits of CVs change only by writes that take effect.
use Rattle.std.proofs.Common.{◌≡◌, ℕ, Bool, true, false, List, [], ◌∷◌, ◌++◌, refl, sym, ◌∙◌, ap, ap₂}
use Rattle.std.specs.Prelude.{not, ◌&&◌, ◌==◌, ◌⊎◌, Option, None, Some, if◌then◌else◌}
use mathlib.Core.Logic.{inl, inr}
use Rattle.std.proofs.lemmas.Bool.Decides.{Decides-eqb}
use Rattle.dcc_packet.specs.declared.packet.Packet.{Packet}
use Rattle.dcc_packet.specs.Cvs.{is_read_only}
use Rattle.dcc_packet.proofs.SameFrames.{Decides-same}
use Rattle.dcc_regs.specs.declared.register.Who.{Who}
use Rattle.dcc_regs.specs.declared.register.Register.TheVariants.{CvBit, Pending as PendingRegister}
use Rattle.dcc_regs.specs.declared.register.Value.{Value}
use Rattle.dcc_regs.specs.declared.register.Value.TheVariants.{Flag, Pending as PendingValue}
use Rattle.dcc_regs.specs.Heard.{hears, heard}
use Rattle.dcc_regs.specs.Writes.{CvChange, Byte, OneBit, change_of, is_own_write, bit_set}
use Rattle.dcc_regs.specs.Inner.WriteParts.{bit_by, is_pending}
use Rattle.dcc_regs.specs.Result.{RegisterMap, is_effective, result, step}
use Rattle.dcc_regs.specs.Setting.{left_pending, value_over}
use Rattle.dcc_regs.specs.Safety.{SetByWrite, SetByTwoCopies, CvsChangeByWrites, CvsChangeByTwoCopies}
use Rattle.dcc_regs.specs.Safety.{CvsStayWithoutWrites, ReadOnlyCvsStay}
use Rattle.dcc_regs.proofs.InParts.{result-append, result-nothing}
use Rattle.dcc_regs.proofs.RegisterStep.{step-sets, step-keeps}
use Rattle.dcc_regs.proofs.SafetyLemmas.{calm_parts}
use Rattle.dcc_regs.proofs.WritesInParts.{effective_in_parts, set_by_change}

pending_is : (held : Option Value) (p : Packet) → is_pending held p ≡ true → held ≡ Some (PendingValue (Some p))
pending_is (Some (PendingValue (Some before))) p e =
    ap (λ q. Some (PendingValue (Some q))) ((Decides-same before p).0 e)
pending_is (Some (PendingValue None)) p e = absurd (cc)
pending_is held p e = absurd (cc)

-- one heard packet is an own write that takes effect and sets a bit
record SetsBit (who : Who) (m : RegisterMap) (p : Packet) (n k : ℕ) : Type 0 where
  is_heard : hears who p ≡ true
  is_own : is_own_write p ≡ true
  pending : m PendingRegister ≡ Some (PendingValue (Some p))
  value : Bool
  sets : bit_set p n k ≡ Some value
  now : step who m p (CvBit n k) ≡ Some (Flag value)

step_changes : (who : Who) (m : RegisterMap) (p : Packet) (n k : ℕ)
    → SetsBit who m p n k ⊎ (step who m p (CvBit n k) ≡ m (CvBit n k))
step_changes who m p n k =
    by_tests (hears who p) (is_own_write p) (is_pending (m PendingRegister) p) (bit_set p n k) (m (CvBit n k)) refl refl
    refl refl refl
  where
    effective : (o w : Bool) → is_own_write p ≡ o → is_pending (m PendingRegister) p ≡ w
        → is_effective (m PendingRegister) p ≡ (o && w)
    effective o w b c = effective_in_parts (m PendingRegister) p ∙ ap₂ (λ o w. o && w) b c

    by_tests : (h o w : Bool) (set : Option Bool) (held : Option Value) → hears who p ≡ h → is_own_write p ≡ o
        → is_pending (m PendingRegister) p ≡ w → bit_set p n k ≡ set → m (CvBit n k) ≡ held
        → SetsBit who m p n k ⊎ (step who m p (CvBit n k) ≡ m (CvBit n k))
    by_tests true true true (Some value) (Some v) a b c d e = inl
        (record {
          is_heard = a;
          is_own = b;
          pending = pending_is (m PendingRegister) p c;
          value = value;
          sets = d;
          now = step-sets who m p (CvBit n k) ∙ rw (a, effective true true b c, d, e) refl;
        })
    by_tests true true true (Some value) None a b c d e =
        inr (step-sets who m p (CvBit n k) ∙ rw (a, effective true true b c, d, e) refl)
    by_tests false o w set held a b c d e = inr (step-sets who m p (CvBit n k) ∙ rw a refl)
    by_tests true false w set held a b c d e =
        inr (step-keeps who m p (CvBit n k) (rw (effective false w b c) refl))
    by_tests true true false set held a b c d e =
        inr (step-keeps who m p (CvBit n k) (rw (effective true false b c) refl))
    by_tests true true true None held a b c d e =
        inr (step-keeps who m p (CvBit n k) (rw (effective true true b c, d) refl))

-- the packets set a bit by a write, or they leave it
set_or_kept : (who : Who) (m : RegisterMap) (l : List Packet) (n k : ℕ)
    → SetByWrite who m l n k ⊎ (result who m l (CvBit n k) ≡ m (CvBit n k))
set_or_kept who m [] n k = inr (ap (λ r. r (CvBit n k)) (result-nothing who m))
set_or_kept who m (p ∷ l) n k = with_first (set_or_kept who (step who m p) l n k) (step_changes who m p n k)
  where
    first_apart : result who m (p ∷ l) (CvBit n k) ≡ result who (step who m p) l (CvBit n k)
    first_apart = ap (λ r. r (CvBit n k)) (result-append who m (p ∷ []) l)

    with_first : SetByWrite who (step who m p) l n k
        ⊎ (result who (step who m p) l (CvBit n k) ≡ step who m p (CvBit n k))
        → SetsBit who m p n k ⊎ (step who m p (CvBit n k) ≡ m (CvBit n k))
        → SetByWrite who m (p ∷ l) n k ⊎ (result who m (p ∷ l) (CvBit n k) ≡ m (CvBit n k))
    with_first (inl w) first = inl
        (record {
          before = p ∷ w.before;
          write = w.write;
          later = w.later;
          parts = ap (λ ps. p ∷ ps) w.parts;
          is_heard = w.is_heard;
          is_own = w.is_own;
          pending = ap (λ r. r PendingRegister) (result-append who m (p ∷ []) w.before) ∙ w.pending;
          value = w.value;
          sets = w.sets;
          now = first_apart ∙ w.now;
        })
    with_first (inr kept) (inl w) = inl
        (record {
          before = [];
          write = p;
          later = l;
          parts = refl;
          is_heard = w.is_heard;
          is_own = w.is_own;
          pending = ap (λ r. r PendingRegister) (result-nothing who m) ∙ w.pending;
          value = w.value;
          sets = w.sets;
          now = first_apart ∙ kept ∙ w.now;
        })
    with_first (inr kept) (inr first) = inr (first_apart ∙ kept ∙ first)

pub cvs_change_by_writes : CvsChangeByWrites
cvs_change_by_writes who start l n k changed = by_case (set_or_kept who start l n k)
  where
    by_case : SetByWrite who start l n k ⊎ (result who start l (CvBit n k) ≡ start (CvBit n k))
        → SetByWrite who start l n k
    by_case (inl w) = w
    by_case (inr kept) = absurd (changed kept)

pub cvs_stay_without_writes : CvsStayWithoutWrites
cvs_stay_without_writes who m [] n k calm = ap (λ r. r (CvBit n k)) (result-nothing who m)
cvs_stay_without_writes who m (p ∷ l) n k calm =
    let parts = calm_parts who is_own_write p l calm in
    ap (λ r. r (CvBit n k)) (result-append who m (p ∷ []) l)
    ∙ cvs_stay_without_writes who (step who m p) l n k parts.1 ∙ first_keeps parts.0 (step_changes who m p n k)
  where
    first_keeps : (hears who p ≡ true → is_own_write p ≡ false)
        → SetsBit who m p n k ⊎ (step who m p (CvBit n k) ≡ m (CvBit n k))
        → step who m p (CvBit n k) ≡ m (CvBit n k)
    first_keeps other (inl w) =
        let is_other : is_own_write p ≡ false = other w.is_heard in
        let is_own : is_own_write p ≡ true = w.is_own in
        absurd (cc)
    first_keeps other (inr kept) = kept

-- the packets end with this heard write, and with packets that are not heard
record LastHeardIs (who : Who) (l : List Packet) (w : Packet) : Type 0 where
  before : List Packet
  later : List Packet
  parts : l ≡ before ++ w ∷ later
  unheard : heard who later ≡ []

left_is : (held : Option Value) (p w : Packet)
    → value_over held (Some (PendingValue (left_pending p))) ≡ Some (PendingValue (Some w)) → p ≡ w
left_is None p w e = absurd (cc)
left_is (Some v) p w e = by_kind (is_own_write p) e
  where
    by_kind : (t : Bool) → Some (PendingValue (if t then Some p else None)) ≡ Some (PendingValue (Some w)) → p ≡ w
    by_kind true same = cc
    by_kind false same = absurd (cc)

-- a pending write is pending from the start, or it is the last heard packet
pending_from : (who : Who) (m : RegisterMap) (l : List Packet) (w : Packet)
    → result who m l PendingRegister ≡ Some (PendingValue (Some w))
    → LastHeardIs who l w ⊎ ((m PendingRegister ≡ Some (PendingValue (Some w))) × (heard who l ≡ []))
pending_from who m [] w e = inr (ap (λ r. r PendingRegister) (sym (result-nothing who m)) ∙ e, refl)
pending_from who m (p ∷ l) w e =
    with_first (hears who p) refl
    (pending_from who (step who m p) l w
    (sym (ap (λ r. r PendingRegister) (result-append who m (p ∷ []) l)) ∙ e))
  where
    with_first : (t : Bool) → hears who p ≡ t
        → LastHeardIs who l w
        ⊎ ((step who m p PendingRegister ≡ Some (PendingValue (Some w))) × (heard who l ≡ []))
        → LastHeardIs who (p ∷ l) w
        ⊎ ((m PendingRegister ≡ Some (PendingValue (Some w))) × (heard who (p ∷ l) ≡ []))
    with_first t h (inl last) = inl
        (record {
          before = p ∷ last.before;
          later = last.later;
          parts = ap (λ ps. p ∷ ps) last.parts;
          unheard = last.unheard;
        })
    with_first true h (inr first) =
        let is_write : p ≡ w =
        left_is (m PendingRegister) p w (rw h at (sym (step-sets who m p PendingRegister) ∙ first.0)) in
        inl (record { before = []; later = l; parts = ap (λ q. q ∷ l) is_write; unheard = first.1 })
    with_first false h (inr first) =
        inr (rw h at (sym (step-sets who m p PendingRegister) ∙ first.0), rw h first.1)

pub cvs_change_by_two_copies : CvsChangeByTwoCopies
cvs_change_by_two_copies who start l n k none changed =
    let w = cvs_change_by_writes who start l n k changed in
    by_case w (pending_from who start w.before w.write w.pending)
  where
    by_case : (w : SetByWrite who start l n k)
        → LastHeardIs who w.before w.write
        ⊎ ((start PendingRegister ≡ Some (PendingValue (Some w.write))) × (heard who w.before ≡ []))
        → SetByTwoCopies who start l n k
    by_case w (inl last) =
        record {
          before = last.before;
          write = w.write;
          between = last.later;
          later = w.later;
          parts = w.parts ∙ ap (λ ps. ps ++ w.write ∷ w.later) last.parts;
          is_heard = w.is_heard;
          is_own = w.is_own;
          none_between = last.unheard;
          value = w.value;
          sets = w.sets;
          now = w.now;
        }
    by_case w (inr from_start) =
        let apart : Some (PendingValue None) ≡ Some (PendingValue (Some w.write)) = sym none ∙ from_start.0 in
        absurd (cc)

read_only_apart : (n cv : ℕ) → is_read_only n ≡ true → (t : Bool) → (n == cv) ≡ t → (t && not (is_read_only cv)) ≡ false
read_only_apart n cv r true e = ap not (ap is_read_only (sym ((Decides-eqb n cv).0 e)) ∙ r)
read_only_apart n cv r false e = refl

-- no write sets a bit of a CV that is read only
read_only_unset : (change : Option CvChange) (n k : ℕ) → is_read_only n ≡ true → bit_by change n k ≡ None
read_only_unset None n k r = refl
read_only_unset (Some (Byte cv value)) n k r = rw (read_only_apart n cv.number r (n == cv.number) refl) refl
read_only_unset (Some (OneBit cv place one)) n k r = by_tests (n == cv.number) (k == place.place) refl
  where
    by_tests : (t q : Bool) → (n == cv.number) ≡ t
        → (if t && q && not (is_read_only cv.number) then Some one else None) ≡ None
    by_tests false q e = refl
    by_tests true false e = refl
    by_tests true true e = rw (read_only_apart n cv.number r true e) refl

pub read_only_cvs_stay : ReadOnlyCvsStay
read_only_cvs_stay who start l n k r = by_case (set_or_kept who start l n k)
  where
    by_case : SetByWrite who start l n k ⊎ (result who start l (CvBit n k) ≡ start (CvBit n k))
        → result who start l (CvBit n k) ≡ start (CvBit n k)
    by_case (inl w) =
        let apart : None ≡ Some w.value =
        sym (set_by_change w.write n k ∙ read_only_unset (change_of w.write) n k r) ∙ w.sets in
        absurd (cc)
    by_case (inr kept) = kept
