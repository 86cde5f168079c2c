-- A command to the locomotive of an entry.
use Rattle.std.proofs.Common.{◌≡◌, ◌∙◌, refl, sym, ap, Bool, true, false, Option, Some, None, inl, inr, arith}
use Rattle.std.specs.Prelude.{◌==◌, ◌&&◌, ◌||◌, not}
use Rattle.std.proofs.lemmas.Bool.Decides.{nat_tests}
use Rattle.dcc_packet.specs.Address.{same_address}
use Rattle.dcc_packet.specs.declared.address.Address.{Address}
use Rattle.dcc_packet.specs.declared.address.Address.TheVariants.{Broadcast}
use Rattle.dcc_packet.specs.declared.functions.GroupBits.{GroupBits}
use Rattle.dcc_packet.specs.declared.instruction.What.{What}
use Rattle.dcc_packet.specs.declared.instruction.What.TheVariants.{Reset, Speed28, Speed128, Functions}
use Rattle.dcc_packet.specs.declared.packet.Packet.{Packet}
use Rattle.dcc_packet.specs.declared.packet.Packet.TheVariants.{Loco}
use Rattle.dcc_regs.specs.declared.register.Who.TheVariants.{Loco as LocoWho}
use Rattle.dcc_regs.specs.Inner.GroupParts.{first_function}
use Rattle.dcc_regs.specs.Heard.{address_of}
use Rattle.dcc_regs.specs.Inner.HearsByAddress.{is_for}
use Rattle.dcc_regs.proofs.HearsByBytes.{hears_at}
use Rattle.dcc_regs.specs.Inner.ConflictParts.{HeardTogether}
use Rattle.dcc_regs.specs.Writes.{writes_mode, writes_cv29}
use Rattle.dcc_regs.proofs.ConflictLemmas.{conflict_from, differ_of}
use Rattle.dcc_station.specs.Commands.{is_refreshed, sets_speed_or_functions}
use Rattle.dcc_station.specs.Inner.Kept.{reset_kept, group_kept, kept_by_all, kept_by_one}
use Rattle.dcc_station.specs.Sending.{Displaces}
use Rattle.dcc_station.proofs.EntryDifferences.{not_equal, SameAll, Judged, same_all, ends_by_table, differ_by_kind}
use Rattle.dcc_station.proofs.SpeedLeft.{refreshed_sets, kept_functions}
use Rattle.dcc_station.proofs.ResetLeft.{judged_reset}
use Rattle.dcc_station.proofs.LeftByAll.{same_by, judged_group}
use Rattle.dcc_station.proofs.LeftByAll.{judged_all}

-- what is told of a command and an entry, where it is, is right
abbrev pub Told : Option Bool → Packet → Packet → Type 0
Told None p e = Unit {0}
Told (Some true) p e = Displaces p e → ⊥
Told (Some false) p e = Displaces p e

pub told_same : {p e : Packet} → SameAll p e → (e ≡ p → ⊥)
    → ((writes_cv29 p ≡ true) × (address_of e ≡ address_of p) → ⊥) → Displaces p e → ⊥
told_same {p = p} {e = e} same other cv gone = elim gone [
  | inl is ↦ other is
  | inr (inl clash) ↦ (let d = differ_of p e clash in same.at d.0 d.1.register
      (differ_by_kind p e d.0 d.1.register d.1.differ))
  | inr (inr both) ↦ cv both
]

-- what is told of the registers of a command that is heard with the entry
told_by : (t : Bool) (p e : Packet) → HeardTogether p e → Judged t p e → (e ≡ p → ⊥)
    → ((writes_cv29 p ≡ true) × (address_of e ≡ address_of p) → ⊥) → Told (Some t) p e
told_by true p e heard same other cv = told_same same other cv
told_by false p e heard ends other cv = inr (inl (conflict_from p e heard (ends_by_table p e ends)))

pub own_address : (own : Address) → (is_for (Some own) own ≡ true) × (same_address own own ≡ true)
own_address own = (grind (arith, nat_tests), grind (arith, nat_tests))

heard_by : (own to : Address) (what entry : What) → is_for (Some own) to ≡ true
    → HeardTogether (Loco to what) (Loco own entry)
heard_by own to what entry h = record {
  who = LocoWho (Some own);
  first = hears_at (Some own) (Loco to what) ∙ h;
  second = hears_at (Some own) (Loco own entry) ∙ (own_address own).0;
}

-- a command to all is no entry, and has no address of one
pub not_all : (own : Address) (entry : What) → is_refreshed (Loco own entry) ≡ true → Some own ≡ Some Broadcast → ⊥
unfolding is_refreshed
not_all own entry h e = grind arith

pub told_all : (own : Address) (what entry : What) → is_refreshed (Loco own entry) ≡ true
    → Told (Some (kept_by_all what entry)) (Loco Broadcast what) (Loco own entry)
told_all own what entry h =
    told_by (kept_by_all what entry) (Loco Broadcast what) (Loco own entry) (heard_by own Broadcast what entry refl)
    (judged_all own what entry h) (λ same. not_all own entry h (ap address_of same))
    (λ both. not_all own entry h both.1)

-- an instruction that sets no speed or functions is no entry
not_entry : (own : Address) (what entry : What) → is_refreshed (Loco own entry) ≡ true
    → sets_speed_or_functions what ≡ false → Loco own entry ≡ Loco own what → ⊥
not_entry own what entry h none is = grind (arith, refreshed_sets)

-- a command that sets no register of an entry ends it where it writes CV29
told_write : (w : Bool) (own : Address) (what entry : What) → writes_mode what ≡ w
    → SameAll (Loco own what) (Loco own entry)
    → (Loco own entry ≡ Loco own what → ⊥) → Told (Some (not w)) (Loco own what) (Loco own entry)
told_write true own what entry e same other = inr (inr (e, refl))
told_write false own what entry e same other = told_same same other (λ both. cc)

told_groups : (own : Address) (a b : GroupBits) → is_refreshed (Loco own (Functions b)) ≡ true
    → Told (Some (group_kept true a (Functions b))) (Loco own (Functions a)) (Loco own (Functions b))
told_groups own a b h =
    by_tests (first_function a.group == first_function b.group) (a.bits == b.bits) refl refl
    (judged_group own own a (Functions b) h)
  where
    by_tests : (t u : Bool) → (first_function a.group == first_function b.group) ≡ t → (a.bits == b.bits) ≡ u
        → Judged (not t || (true && u)) (Loco own (Functions a)) (Loco own (Functions b))
        → Told (Some (not t || (false && u))) (Loco own (Functions a)) (Loco own (Functions b))
    by_tests false u e f same = told_same same
        (λ is. not_equal _ _ e (let same : a ≡ b = cc in rw same refl)) (λ both. cc)
    by_tests true true e f same = inl (ap (λ g. Loco own (Functions g)) (sym (same_by a b e f)))
    by_tests true false e f ends = inr (inl (conflict_from (Loco own (Functions a)) (Loco own (Functions b))
        (heard_by own own (Functions a) (Functions b) (own_address own).0) (ends_by_table _ _ ends)))

pub told_one : (own : Address) (what entry : What) → is_refreshed (Loco own entry) ≡ true
    → Told (kept_by_one what entry) (Loco own what) (Loco own entry)
told_one own Reset entry h =
    told_by (reset_kept entry) (Loco own Reset) (Loco own entry) (heard_by own own Reset entry (own_address own).0)
    (judged_reset own own entry h) (not_entry own Reset entry h refl) (λ both. cc)
told_one own (Functions a) (Functions b) h = told_groups own a b h
told_one own (Functions a) entry h = told_same (judged_group own own a entry h) (λ e. cc) (λ both. cc)
told_one own (Speed28 f bits) (Functions b) h =
    told_same (kept_functions h (λ mode n d. grind arith)) (λ e. cc) (λ both. cc)
told_one own (Speed128 f bits) (Functions b) h = told_same (kept_functions h (λ mode n d. d)) (λ e. cc) (λ both. cc)
told_one own (Speed28 f bits) entry h = tt
told_one own (Speed128 f bits) entry h = tt
told_one own what entry h = told_write (writes_mode what) own what entry refl
    (same_all h (λ mode d. d) (λ mode d. d) (λ mode n d. d)) (not_entry own what entry h refl)
