-- A reset and an entry.
use Rattle.std.proofs.Common.{◌≡◌, refl, Bool, true, Some}
use Rattle.std.proofs.Common.{◌/◌, ◌%◌, arith}
use Rattle.std.specs.Prelude.{◌==◌}
use Rattle.std.proofs.lemmas.Bool.Decides.{nat_tests, Decides-eqb}
use Rattle.std.proofs.lemmas.Nat.Bits.{bit_at-zero}
use Rattle.dcc_packet.specs.declared.address.Address.{Address}
use Rattle.dcc_packet.specs.declared.instruction.What.{What}
use Rattle.dcc_packet.specs.declared.instruction.What.TheVariants.{Reset, Speed28, Speed128, Functions}
use Rattle.dcc_packet.specs.declared.packet.Packet.TheVariants.{Loco}
use Rattle.dcc_packet.specs.declared.speed.SpeedBits28.{SpeedBits28}
use Rattle.dcc_regs.specs.declared.register.SpeedMode.TheVariants.{Steps14}
use Rattle.dcc_regs.specs.declared.register.Register.TheVariants.{Function}
use Rattle.dcc_regs.specs.Speeds.{speed_of_126}
use Rattle.dcc_station.proofs.FunctionsLeft.{either}
use Rattle.dcc_station.specs.Commands.{is_refreshed}
use Rattle.dcc_station.specs.Inner.Kept.{reset_kept}
use Rattle.dcc_station.proofs.EntryDifferences.{not_equal, Ends, Judged, judged_three}
use Rattle.dcc_station.proofs.SpeedLeft.{refreshed_sets, AsksSpeed, Shows, shows28, kept_speed, ended_by_speed}
use Rattle.dcc_station.proofs.SpeedLeft.{ended_by_way}
use Rattle.dcc_station.proofs.SpeedLeft.{kept_functions}
use Rattle.dcc_station.proofs.FunctionsLeft.{apart_in_group}

asks_reset : (to : Address) → AsksSpeed (Loco to Reset) 0 (Some true)
asks_reset to = record { speed = λ mode. refl; direction = refl }

-- the lowest bit is F0 where the speed is read for 14 steps
ended_by_f0 : (to own : Address) (f : Bool) (bits : SpeedBits28) → is_refreshed (Loco own (Speed28 f bits)) ≡ true
    → bits.bits % 2 ≡ 1 → Ends (Loco to Reset) (Loco own (Speed28 f bits))
unfolding is_refreshed
ended_by_f0 to own f bits h odd = (Steps14, record { register = Function 0; differ = grind arith })

pub judged_reset : (to own : Address) (entry : What) → is_refreshed (Loco own entry) ≡ true
    → Judged (reset_kept entry) (Loco to Reset) (Loco own entry)
judged_reset to own (Speed28 f bits) h =
    judged_three (Loco to Reset) (Loco own (Speed28 f bits)) true f (bits.bits == 0)
    (λ t on is. let none : bits.bits ≡ 0 = (Decides-eqb bits.bits 0).0 is in
    kept_speed (asks_reset to) (shows28 h) (λ mode n d. grind (arith, nat_tests, none))
    (λ mode. grind (arith, nat_tests, none)) on)
    (λ none. absurd (cc)) (ended_by_way (asks_reset to) (shows28 h))
    (λ is. let some = not_equal bits.bits 0 is in either (bits.bits / 2) 0
    (λ half. ended_by_f0 to own f bits h (omega arith))
    (λ apart. ended_by_speed (asks_reset to) (shows28 h) (λ e. grind (arith, nat_tests, apart))))
judged_reset to own (Speed128 f bits) h =
    let shows : Shows (Loco own (Speed128 f bits)) (λ mode. speed_of_126 bits.bits) f =
    record { fresh = h; speed = λ mode. refl; direction = refl } in
    judged_three (Loco to Reset) (Loco own (Speed128 f bits)) true f (bits.bits == 0)
    (λ t on is. kept_speed (asks_reset to) shows (λ mode n d. grind arith) (λ mode. grind (arith, nat_tests, is)) on)
    (λ none. absurd (cc)) (ended_by_way (asks_reset to) shows)
    (λ some. ended_by_speed (asks_reset to) shows (λ e. grind (arith, nat_tests, some)))
judged_reset to own (Functions bits) h =
    judged_three (Loco to Reset) (Loco own (Functions bits)) true true (bits.bits == 0)
    (λ t u is. kept_functions h (λ mode n d. let none = (Decides-eqb bits.bits 0).0 is in
    grind (arith, nat_tests, bit_at-zero, none)))
    (λ none. absurd (cc)) (λ none. absurd (cc))
    (λ some. apart_in_group (Loco to Reset) 0 own bits (omega arith) (λ none. not_equal bits.bits 0 some (cc))
    (λ k low. grind (arith, nat_tests, bit_at-zero))
    (λ zero. refl))
judged_reset to own entry h = absurd (let k = refreshed_sets own entry h in cc)
