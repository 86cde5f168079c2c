-- What is told of a command and an entry is right.
use Rattle.std.proofs.Common.{◌≡◌, ◌≢◌, refl, ap, subst, Bool, true, false, Option, Some, None, inl, inr, arith}
use Rattle.std.specs.Prelude.{not, if◌then◌else◌}
use Rattle.std.proofs.lemmas.Bool.Decides.{nat_tests}
use Rattle.dcc_packet.specs.declared.address.Address.{Address}
use Rattle.dcc_packet.specs.declared.address.Address.TheVariants.{Broadcast, Short, Long}
use Rattle.dcc_packet.specs.declared.instruction.What.{What}
use Rattle.dcc_packet.specs.declared.packet.Packet.{Packet}
use Rattle.dcc_packet.specs.declared.packet.Packet.TheVariants.{Loco}
use Rattle.dcc_packet.proofs.Same.{same_short, same_long}
use Rattle.dcc_packet.specs.Address.{same_address}
use Rattle.dcc_regs.proofs.LawLemmas.{one_address}
use Rattle.dcc_station.specs.Commands.{is_refreshed}
use Rattle.dcc_station.specs.Inner.Kept.{kept_by_one, kept_of, kept_in}
use Rattle.dcc_station.specs.Sending.{Displaces}
use Rattle.dcc_station.proofs.EntryDifferences.{same_all}
use Rattle.dcc_station.proofs.LeftByOne.{Told, told_same, own_address, not_all, told_all, told_one}

same_one : (own to : Address) → same_address own to ≡ true → own ≡ to
same_one (Short a) (Short b) h = ap Short (same_short a b (grind (arith, nat_tests)))
same_one (Long a) (Long b) h = ap Long (same_long a b (grind (arith, nat_tests)))
same_one own to h = grind arith

-- a command to another locomotive
told_apart : (to own : Address) (what entry : What) → to ≢ Broadcast → is_refreshed (Loco own entry) ≡ true → own ≢ to
    → Displaces (Loco to what) (Loco own entry) → ⊥
told_apart to own what entry one h apart gone = elim gone [
  | inl same ↦ apart (cc)
  | inr (inl clash) ↦ apart (one_address clash.who own to entry what (λ all. not_all own entry h (ap Some all)) one
      clash.second_heard clash.first_heard)
  | inr (inr both) ↦ apart (let e : Some own ≡ Some to = both.1 in cc)
]

told_named : (to own : Address) (what entry : What) → to ≢ Broadcast → is_refreshed (Loco own entry) ≡ true → (t : Bool)
    → same_address own to ≡ t → Told (if t then kept_by_one what entry else Some true) (Loco to what) (Loco own entry)
told_named to own what entry one h true e =
    subst (λ a. Told (kept_by_one what entry) (Loco a what) (Loco own entry)) (same_one own to e)
    (told_one own what entry h)
told_named to own what entry one h false e = told_apart to own what entry one h
    (λ is. let own = (own_address own).1 in grind arith)

told_of : (to own : Address) (what entry : What) → is_refreshed (Loco own entry) ≡ true
    → Told (kept_of to what own entry) (Loco to what) (Loco own entry)
told_of Broadcast own what entry h = told_all own what entry h
told_of to own what entry h = told_named to own what entry (λ e. cc) h (same_address own to) refl

where_fresh : (t : Bool) (o : Option Bool) (p e : Packet) → is_refreshed e ≡ t → (is_refreshed e ≡ true → Told o p e)
    → Told (if t then o else None) p e
where_fresh t o p e h f = grind arith

-- what is told is right: a command that is to no locomotive sets nothing that an entry sets
told : (p : Packet) (own : Address) (entry : What) → Told (kept_in p own entry) p (Loco own entry)
told (Loco to what) own entry = where_fresh (is_refreshed (Loco own entry)) (kept_of to what own entry) (Loco to what)
    (Loco own entry) refl (told_of to own what entry)
told p own entry = where_fresh (is_refreshed (Loco own entry)) (Some true) p (Loco own entry) refl
    (λ h. told_same (same_all h (λ mode d. d) (λ mode d. d) (λ mode n d. d)) (λ e. cc) (λ both. cc))

pub ended_or_left : (p : Packet) (own : Address) (entry : What) (t : Bool) → kept_in p own entry ≡ Some t
    → (not t ≡ true → Displaces p (Loco own entry)) × (Displaces p (Loco own entry) → not t ≡ true)
ended_or_left p own entry t is = by_case t (subst (λ o. Told o p (Loco own entry)) is (told p own entry))
  where
    by_case : (t : Bool) → Told (Some t) p (Loco own entry)
        → (not t ≡ true → Displaces p (Loco own entry)) × (Displaces p (Loco own entry) → not t ≡ true)
    by_case t told = grind arith
