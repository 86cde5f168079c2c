-- A command to all locomotives and an entry.
use Rattle.std.proofs.Common.{◌≡◌, ◌∙◌, refl, sym, ap, subst, Bool, true, false, Some, None, ◌+◌, ◌/◌, ◌≤◌}
use Rattle.std.proofs.Common.{◌<◌, arith}
use Rattle.std.specs.Prelude.{◌==◌, ◌||◌, ◌&&◌, not, nat_lt, if◌then◌else◌}
use Rattle.std.proofs.lemmas.Bool.Decides.{nat_tests, Decides-eqb}
use Rattle.dcc_packet.specs.declared.address.Address.{Address}
use Rattle.dcc_packet.specs.declared.address.Address.TheVariants.{Broadcast}
use Rattle.dcc_packet.specs.declared.functions.GroupBits.{GroupBits}
use Rattle.dcc_packet.specs.declared.instruction.What.{What}
use Rattle.dcc_packet.specs.declared.instruction.What.TheVariants.{Reset, Speed28, Speed128, Functions}
use Rattle.dcc_packet.specs.declared.packet.Packet.TheVariants.{Loco}
use Rattle.dcc_packet.specs.declared.speed.SpeedBits28.{SpeedBits28}
use Rattle.dcc_packet.specs.Bits.{is_one}
use Rattle.dcc_packet.specs.Group.{group_max}
use Rattle.dcc_packet.proofs.Same.{same_functions}
use Rattle.dcc_regs.specs.declared.register.SpeedMode.TheVariants.{Steps28}
use Rattle.dcc_regs.specs.declared.register.Value.TheVariants.{Flag}
use Rattle.dcc_regs.specs.FunctionBits.{group_bit}
use Rattle.dcc_regs.specs.Inner.GroupParts.{first_function, count_of}
use Rattle.dcc_station.specs.Commands.{is_refreshed}
use Rattle.dcc_station.specs.Inner.Kept.{speed_kept, group_kept, kept_by_all}
use Rattle.dcc_station.proofs.EntryDifferences.{same_differs, not_equal, Ends, Judged, same_all}
use Rattle.dcc_station.proofs.SpeedLeft.{refreshed_sets, kept_functions, judged_speed}
use Rattle.dcc_station.proofs.FunctionsLeft.{same_first, one_group, says, says_f0, apart_in_group}
use Rattle.dcc_station.proofs.ResetLeft.{judged_reset}

judged_stop : (own : Address) (f : Bool) (bits : SpeedBits28) (entry : What) → is_refreshed (Loco own entry) ≡ true
    → Judged (kept_by_all (Speed28 f bits) entry) (Loco Broadcast (Speed28 f bits)) (Loco own entry)
judged_stop own f bits entry h = by_test (nat_lt bits.bits 4) refl
  where
    by_test : (t : Bool) → nat_lt bits.bits 4 ≡ t
        → Judged (not t || speed_kept (bits.bits / 2) (if bits.bits == 0 || bits.bits == 2 then Some f else None) entry)
        (Loco Broadcast (Speed28 f bits)) (Loco own entry)
    by_test true few = judged_speed (Loco Broadcast (Speed28 f bits)) (bits.bits / 2) _ own entry h
        (record { speed = λ mode. grind (arith, nat_tests); direction = refl }) (λ mode n d. d)
    by_test false much =
        same_all h (λ mode. grind (arith, nat_tests)) (λ mode. grind (arith, nat_tests)) (λ mode n d. d)

first_same : (a b : GroupBits) → (first_function a.group == first_function b.group) ≡ true → a.group ≡ b.group
first_same a b e = same_first a.group b.group ((Decides-eqb _ _).0 e)

pub same_by : (a b : GroupBits) → (first_function a.group == first_function b.group) ≡ true
    → (a.bits == b.bits) ≡ true → a ≡ b
same_by a b e f = same_functions a b (first_same a b e) ((Decides-eqb a.bits b.bits).0 f)

-- of one group, with other bits
other_bits : (to own : Address) (a b : GroupBits) → a.group ≡ b.group → (a.bits == b.bits) ≡ false
    → Ends (Loco to (Functions a)) (Loco own (Functions b))
other_bits to own a b g e =
    apart_in_group (Loco to (Functions a)) a.bits own b (subst (λ g. a.bits ≤ group_max g) g a.in_range)
    (not_equal a.bits b.bits e)
    (λ k low. subst (λ h. group_bit Steps28 a (first_function h + k) ≡ Some (is_one a.bits k)) g
    (says a k (subst (λ h. k < count_of h) (sym g) low)))
    (λ zero. says_f0 a (g ∙ zero))

pub judged_group : (to own : Address) (a : GroupBits) (entry : What) → is_refreshed (Loco own entry) ≡ true
    → Judged (group_kept false a entry) (Loco to (Functions a)) (Loco own entry)
judged_group to own a (Functions b) h =
    by_tests (first_function a.group == first_function b.group) (a.bits == b.bits) refl refl
  where
    by_tests : (t u : Bool) → (first_function a.group == first_function b.group) ≡ t → (a.bits == b.bits) ≡ u
        → Judged (not t || (true && u)) (Loco to (Functions a)) (Loco own (Functions b))
    by_tests false u e f = kept_functions h (λ mode n d. not_equal _ _ e (ap first_function (one_group a b mode n d)))
    by_tests true true e f = let same = same_by a b e f in
        kept_functions h (λ mode n. same_differs Flag _ _ (ap (λ g. group_bit mode g n) same))
    by_tests true false e f = other_bits to own a b (first_same a b e) f
judged_group to own a entry h =
    let k = refreshed_sets own entry h in same_all h (λ mode. grind arith) (λ mode. grind arith) (λ mode n. grind arith)

pub judged_all : (own : Address) (what entry : What) → is_refreshed (Loco own entry) ≡ true
    → Judged (kept_by_all what entry) (Loco Broadcast what) (Loco own entry)
judged_all own Reset entry h = judged_reset Broadcast own entry h
judged_all own (Speed28 f bits) entry h = judged_stop own f bits entry h
judged_all own (Speed128 f bits) entry h =
    judged_speed (Loco Broadcast (Speed128 f bits)) bits.bits (Some f) own entry h
    (record { speed = λ mode. refl; direction = refl }) (λ mode n d. d)
judged_all own (Functions bits) entry h = judged_group Broadcast own bits entry h
judged_all own what entry h = same_all h (λ mode d. d) (λ mode d. d) (λ mode n d. d)
