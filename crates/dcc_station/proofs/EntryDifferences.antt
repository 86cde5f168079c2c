-- At which registers a command and an entry can differ.
use Rattle.std.proofs.Common.{◌≡◌, ◌≢◌, Bool, true, false, Option, ℕ, arith}
use Rattle.std.specs.Prelude.{option_map, ◌==◌, ◌&&◌}
use Rattle.std.proofs.lemmas.Bool.Decides.{nat_tests}
use Rattle.dcc_packet.specs.declared.packet.Packet.{Packet}
use Rattle.dcc_regs.specs.declared.register.SpeedMode.{SpeedMode}
use Rattle.dcc_regs.specs.declared.register.Register.{Register}
use Rattle.dcc_regs.specs.declared.register.Register.TheVariants.{Speed as SpeedRegister, Direction, Function}
use Rattle.dcc_regs.specs.declared.register.Value.{Value}
use Rattle.dcc_regs.specs.Effects.{Differ}
use Rattle.dcc_regs.specs.Inner.ConflictParts.{DifferIn}
use Rattle.dcc_regs.specs.Inner.SetsByKind.{sets_by_kind as sets}
use Rattle.dcc_regs.specs.Sets.{sets as table}
use Rattle.dcc_regs.proofs.OneTable.{same_table}
use Rattle.dcc_station.specs.Commands.{is_refreshed}
use Rattle.dcc_station.proofs.StatePackets.{entry_tells_none}

pub same_differs : {A : Type 0} (f : A → Value) (a b : Option A) → a ≡ b → Differ (option_map f a) (option_map f b) → ⊥
same_differs f a b e d = grind arith

pub not_equal : (n m : ℕ) → (n == m) ≡ false → n ≢ m
not_equal n m h e = grind (arith, nat_tests)

-- a command and an entry set no register to two values
pub record SameAll (p e : Packet) : Type 0 where
  pub at : (mode : SpeedMode) (r : Register) → Differ (sets mode p r) (sets mode e r) → ⊥

-- they set some register to two values
pub record DifferByKind (mode : SpeedMode) (p e : Packet) : Type 0 where
  pub register : Register
  pub differ : Differ (sets mode p register) (sets mode e register)

abbrev pub Ends : Packet → Packet → Type 0
Ends p e = (mode : SpeedMode) × DifferByKind mode p e

-- the same by the table of packets and registers
pub ends_by_table : (p e : Packet) → Ends p e → (mode : SpeedMode) × DifferIn mode p e
ends_by_table p e (mode, d) = (
  mode,
  record {
    register = d.register;
    differ = rw (same_table mode p d.register, same_table mode e d.register) d.differ;
  },
)

pub differ_by_kind : (p e : Packet) (mode : SpeedMode) (r : Register) → Differ (table mode p r) (table mode e r)
    → Differ (sets mode p r) (sets mode e r)
differ_by_kind p e mode r d = rw (same_table mode p r, same_table mode e r) at d

-- a command that leaves an entry, and one that ends it
abbrev pub Judged : Bool → Packet → Packet → Type 0
Judged true p e = SameAll p e
Judged false p e = Ends p e

-- it leaves the entry where three tests hold
pub judged_three : (p e : Packet) (a b c : Bool)
    → (a ≡ true → b ≡ true → c ≡ true → SameAll p e) → (a ≡ false → Ends p e)
    → (b ≡ false → Ends p e) → (c ≡ false → Ends p e) → Judged (a && (b && c)) p e
judged_three p e a b c all x y z = grind arith

abbrev pub SameFunctions : Packet → Packet → Type 0
SameFunctions p e = (mode : SpeedMode) (n : ℕ) → Differ (sets mode p (Function n)) (sets mode e (Function n)) → ⊥

only_three : (mode : SpeedMode) (p e : Packet) (r : Register) → is_refreshed e ≡ true
    → (Differ (sets mode p SpeedRegister) (sets mode e SpeedRegister) → ⊥)
    → (Differ (sets mode p Direction) (sets mode e Direction) → ⊥) → SameFunctions p e
    → Differ (sets mode p r) (sets mode e r) → ⊥
unfolding is_refreshed
only_three mode p e (Function n) h s w f d = f mode n d
only_three mode p e r h s w f d = let none = entry_tells_none e h in grind arith

-- an entry sets no register but the speed, the direction and functions
pub same_all : {p e : Packet} → is_refreshed e ≡ true
    → ((mode : SpeedMode) → Differ (sets mode p SpeedRegister) (sets mode e SpeedRegister) → ⊥)
    → ((mode : SpeedMode) → Differ (sets mode p Direction) (sets mode e Direction) → ⊥)
    → SameFunctions p e → SameAll p e
same_all {p = p} {e = e} h s w f = record { at = λ mode r. only_three mode p e r h (s mode) (w mode) f }
