-- What a packet sets, by packets and registers, and by kind of register.
use Rattle.std.proofs.Common.{◌≡◌, ◌∙◌, ◌/◌, ◌%◌, ℕ, Bool, true, false, refl, ap, arith}
use Rattle.std.specs.Prelude.{◌==◌, ◌||◌, ◌&&◌, nat_le, None, Some, option_map, if◌then◌else◌}
use Rattle.std.proofs.lemmas.Bool.Decides.{nat_tests}
use Rattle.dcc_packet.specs.declared.address.Address.TheVariants.{Broadcast, Short, Long}
use Rattle.dcc_packet.specs.declared.instruction.What.TheVariants.{Reset, Speed28, BinaryState}
use Rattle.dcc_packet.specs.declared.packet.Packet.{Packet}
use Rattle.dcc_packet.specs.declared.packet.Packet.TheVariants.{Loco as ToLoco, Accessory, Signal}
use Rattle.dcc_regs.specs.declared.register.SpeedMode.{SpeedMode}
use Rattle.dcc_regs.specs.declared.register.SpeedMode.TheVariants.{Steps14}
use Rattle.dcc_regs.specs.declared.register.Register.{Register}
use Rattle.dcc_regs.specs.declared.register.Register.TheVariants.{Speed as SpeedRegister, Direction, Function}
use Rattle.dcc_regs.specs.declared.register.Register.TheVariants.{State as StateRegister, CvBit}
use Rattle.dcc_regs.specs.declared.register.Register.TheVariants.{Pending as PendingRegister, Out, Position}
use Rattle.dcc_regs.specs.declared.register.Register.TheVariants.{Aspect}
use Rattle.dcc_regs.specs.declared.register.Value.TheVariants.{Forward, Flag, Number}
use Rattle.dcc_regs.specs.Outputs.{side}
use Rattle.dcc_regs.specs.Sets.{sets}
use Rattle.dcc_regs.specs.Inner.SetsByKind.{sets_by_kind}

mapped : {A B : Type 0} (f : A → B) (x : A) (t : Bool) → (if t then Some (f x) else None)
    ≡ option_map f (if t then Some x else None)
mapped f x true = refl
mapped f x false = refl

side_of : (n : ℕ) → n % 2 ≡ (if n % 2 == 1 then 1 else 0)
side_of n = grind (arith, nat_tests)

pub same_table : (mode : SpeedMode) (p : Packet) (r : Register) → sets mode p r ≡ sets_by_kind mode p r
same_table mode (ToLoco Broadcast Reset) (Function n) = mapped Flag false (nat_le n 68)
same_table mode (ToLoco (Short to) Reset) (Function n) = mapped Flag false (nat_le n 68)
same_table mode (ToLoco (Long to) Reset) (Function n) = mapped Flag false (nat_le n 68)
same_table mode (ToLoco Broadcast Reset) (StateRegister n) = grind (arith, nat_tests)
same_table mode (ToLoco (Short to) Reset) (StateRegister n) = grind (arith, nat_tests)
same_table mode (ToLoco (Long to) Reset) (StateRegister n) = grind (arith, nat_tests)
same_table mode (ToLoco Broadcast Reset) (Out n) = mapped Flag false (nat_le n 7)
same_table mode (ToLoco Broadcast (Speed28 forward bits)) Direction = mapped Forward forward
    (bits.bits == 0 || bits.bits == 2)
same_table Steps14 (ToLoco (Short to) (Speed28 forward bits)) (Function n) = mapped Flag (bits.bits % 2 == 1) (n == 0)
same_table Steps14 (ToLoco (Long to) (Speed28 forward bits)) (Function n) = mapped Flag (bits.bits % 2 == 1) (n == 0)
same_table mode (ToLoco to (BinaryState state on)) (StateRegister n) = mapped Flag on
    ((nat_le 1 n && nat_le n 127) && (state.number == 0 || n == state.number))
same_table mode (Accessory board output true) (Out n) = mapped Flag true (n == output.number)
same_table mode (Accessory board output false) (Out n) = mapped Flag false (n == output.number)
same_table mode (Accessory board output true) (Position n) =
    ap (λ one. if n == output.number / 2 then Some (Number one) else None) (side_of output.number)
    ∙ mapped side (output.number % 2 == 1) (n == output.number / 2)
same_table mode (Signal address aspect) (Aspect n) = mapped Number aspect
    ((address.number == 2047 && nat_le n 3) || n == address.number % 4)
same_table mode p SpeedRegister = grind arith
same_table mode p Direction = grind arith
same_table mode p (Function n) = grind arith
same_table mode p (StateRegister n) = grind arith
same_table mode p (CvBit cv place) = grind arith
same_table mode p PendingRegister = grind arith
same_table mode p (Out n) = grind arith
same_table mode p (Position n) = grind arith
same_table mode p (Aspect n) = grind arith
