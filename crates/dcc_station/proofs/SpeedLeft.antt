-- A command that sets a speed, and an entry that does.
use Rattle.std.proofs.Common.{◌≡◌, ◌≢◌, refl, Bool, true, false, Option, Some, ℕ, ◌/◌, arith}
use Rattle.std.specs.Prelude.{◌==◌, nat_lt}
use Rattle.std.proofs.lemmas.Bool.Decides.{nat_tests}
use Rattle.dcc_packet.specs.declared.address.Address.{Address}
use Rattle.dcc_packet.specs.declared.instruction.What.{What}
use Rattle.dcc_packet.specs.declared.instruction.What.TheVariants.{Speed28, Speed128, Functions}
use Rattle.dcc_packet.specs.declared.packet.Packet.{Packet}
use Rattle.dcc_packet.specs.declared.packet.Packet.TheVariants.{Loco}
use Rattle.dcc_packet.specs.declared.functions.GroupBits.{GroupBits}
use Rattle.dcc_packet.specs.declared.speed.SpeedBits28.{SpeedBits28}
use Rattle.dcc_regs.specs.declared.register.SpeedMode.{SpeedMode}
use Rattle.dcc_regs.specs.declared.register.SpeedMode.TheVariants.{Steps14, Steps28}
use Rattle.dcc_regs.specs.declared.register.Speed.{Speed}
use Rattle.dcc_regs.specs.declared.register.Register.TheVariants.{Speed as SpeedRegister, Direction}
use Rattle.dcc_regs.specs.Speeds.{speed_set, direction_set, speed_of_28, speed_of_14, speed_of_126}
use Rattle.dcc_station.specs.Commands.{is_refreshed, sets_speed_or_functions}
use Rattle.dcc_station.specs.Inner.Kept.{way_kept, speed_kept}
use Rattle.dcc_station.proofs.EntryDifferences.{SameAll, Ends}
use Rattle.dcc_station.proofs.EntryDifferences.{Judged}
use Rattle.dcc_station.proofs.EntryDifferences.{judged_three, SameFunctions, same_all}

-- the baseline instruction, read in a mode
abbrev pub speed_in : ℕ → SpeedMode → Speed
speed_in bits Steps28 = speed_of_28 bits
speed_in bits Steps14 = speed_of_14 bits

pub refreshed_sets : (own : Address) (entry : What) → is_refreshed (Loco own entry) ≡ true
    → sets_speed_or_functions entry ≡ true
unfolding is_refreshed
refreshed_sets own entry h = grind arith

-- a packet sets this speed in either mode, and perhaps a direction
pub record AsksSpeed (p : Packet) (k : ℕ) (way : Option Bool) : Type 0 where
  pub speed : (mode : SpeedMode) → speed_set mode p ≡ Some (speed_of_126 k)
  pub direction : direction_set p ≡ way

-- an entry sets these speeds in the two modes, and a direction
pub record Shows (e : Packet) (speeds : SpeedMode → Speed) (f : Bool) : Type 0 where
  pub fresh : is_refreshed e ≡ true
  pub speed : (mode : SpeedMode) → speed_set mode e ≡ Some (speeds mode)
  pub direction : direction_set e ≡ Some f

pub shows28 : {own : Address} {f : Bool} {bits : SpeedBits28} → is_refreshed (Loco own (Speed28 f bits)) ≡ true
    → Shows (Loco own (Speed28 f bits)) (speed_in bits.bits) f
unfolding is_refreshed
shows28 h = record { fresh = h; speed = λ mode. grind arith; direction = grind arith }

module _ {p e : Packet} {k : ℕ} {way : Option Bool} {speeds : SpeedMode → Speed} {f : Bool} where
  pub kept_speed : AsksSpeed p k way → Shows e speeds f → SameFunctions p e
      → ((mode : SpeedMode) → speed_of_126 k ≡ speeds mode) → way_kept way f ≡ true → SameAll p e
  kept_speed asks shows same speed kept = same_all shows.fresh
      (λ mode. rw (asks.speed mode, shows.speed mode, speed mode) (λ d. d refl))
      (λ mode. rw (asks.direction, shows.direction) (grind arith)) same

  pub ended_by_speed : AsksSpeed p k way → Shows e speeds f → speed_of_126 k ≢ speeds Steps28 → Ends p e
  ended_by_speed asks shows apart = (
    Steps28,
    record { register = SpeedRegister; differ = rw (asks.speed Steps28, shows.speed Steps28) (λ e. apart (cc)) },
  )

  pub ended_by_way : AsksSpeed p k way → Shows e speeds f → way_kept way f ≡ false → Ends p e
  ended_by_way asks shows apart =
      (Steps28, record { register = Direction; differ = rw (asks.direction, shows.direction) (grind arith) })

pub kept_functions : {p : Packet} {own : Address} {bits : GroupBits} → is_refreshed (Loco own (Functions bits)) ≡ true
    → SameFunctions p (Loco own (Functions bits)) → SameAll p (Loco own (Functions bits))
kept_functions {p = p} h same =
    same_all h (λ mode. grind arith) (λ mode. grind arith) same

pub judged_speed : (p : Packet) (k : ℕ) (way : Option Bool) (own : Address) (entry : What)
    → is_refreshed (Loco own entry) ≡ true → AsksSpeed p k way → SameFunctions p (Loco own entry)
    → Judged (speed_kept k way entry) p (Loco own entry)
judged_speed p k way own (Speed28 f bits) h asks same =
    judged_three p (Loco own (Speed28 f bits)) (nat_lt k 2) (bits.bits / 2 == k) (way_kept way f)
    (λ few half. kept_speed asks (shows28 h) same (λ mode. grind (arith, nat_tests, few, half)))
    (λ much. ended_by_speed asks (shows28 h) (λ e. grind (arith, nat_tests, much)))
    (λ apart. ended_by_speed asks (shows28 h) (λ e. grind (arith, nat_tests, apart)))
    (ended_by_way asks (shows28 h))
judged_speed p k way own (Speed128 f bits) h asks same =
    let shows : Shows (Loco own (Speed128 f bits)) (λ mode. speed_of_126 bits.bits) f =
    record { fresh = h; speed = λ mode. refl; direction = refl } in
    judged_three p (Loco own (Speed128 f bits)) true (bits.bits == k) (way_kept way f)
    (λ t is. kept_speed asks shows same (λ mode. grind (arith, nat_tests, is)))
    (λ none. absurd (cc)) (λ apart. ended_by_speed asks shows (λ e. grind (arith, nat_tests, apart)))
    (ended_by_way asks shows)
judged_speed p k way own (Functions bits) h asks same = kept_functions h same
judged_speed p k way own entry h asks same = absurd (let k = refreshed_sets own entry h in cc)
