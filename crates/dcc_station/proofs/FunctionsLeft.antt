-- A command that sets functions, and an entry that does.
use Rattle.std.proofs.Common.{◌≡◌, ◌≢◌, ◌∙◌, refl, sym, ap, Option, Some, inl, inr}
use Rattle.std.proofs.Common.{ℕ, zero, suc, ◌⊎◌, ◌+◌, ◌^◌, ◌<◌, ◌≤◌, arith}
use Rattle.std.specs.Prelude.{option_map, ◌==◌, nat_lt, if◌then◌else◌}
use Rattle.std.specs.Int.{bit_at}
use Rattle.std.proofs.lemmas.Bool.Decides.{nat_tests}
use Rattle.std.proofs.lemmas.Nat.Bits.{same_from_bits_below, bit_at-lt}
use Rattle.dcc_packet.specs.declared.address.Address.{Address}
use Rattle.dcc_packet.specs.declared.functions.Group.{Group}
use Rattle.dcc_packet.specs.declared.functions.Group.TheVariants.{F0, F5, F9, F13, F21, F29, F37, F45, F53, F61}
use Rattle.dcc_packet.specs.declared.functions.GroupBits.{GroupBits}
use Rattle.dcc_packet.specs.declared.instruction.What.TheVariants.{Functions}
use Rattle.dcc_packet.specs.declared.packet.Packet.{Packet}
use Rattle.dcc_packet.specs.declared.packet.Packet.TheVariants.{Loco}
use Rattle.dcc_packet.specs.Bits.{is_one}
use Rattle.dcc_packet.specs.Group.{group_max}
use Rattle.dcc_regs.specs.declared.register.SpeedMode.{SpeedMode}
use Rattle.dcc_regs.specs.declared.register.SpeedMode.TheVariants.{Steps28}
use Rattle.dcc_regs.specs.declared.register.Register.TheVariants.{Function}
use Rattle.dcc_regs.specs.declared.register.Value.{Value}
use Rattle.dcc_regs.specs.declared.register.Value.TheVariants.{Flag}
use Rattle.dcc_regs.specs.FunctionBits.{function_set, group_bit, function_place}
use Rattle.dcc_regs.specs.Inner.GroupParts.{first_function, count_of}
use Rattle.dcc_packet.proofs.BitLemmas.{either_by}
use Rattle.dcc_regs.specs.Effects.{Differ}
use Rattle.dcc_regs.proofs.ConflictLemmas.{differ-sym}
use Rattle.dcc_station.proofs.EntryDifferences.{Ends}

pub either : {A : Type 0} (k n : ℕ) → (k ≡ n → A) → (k ≢ n → A) → A
either k n f g = either_by k n (k == n) refl f g

-- the group that a function is in, F0 aside
abbrev group_at : ℕ → Group
group_at n =
    if nat_lt n 5 then F0 else if nat_lt n 9 then F5 else if nat_lt n 13 then F9 else if nat_lt n 21 then F13
    else if nat_lt n 29 then F21 else if nat_lt n 37 then F29 else if nat_lt n 45 then F37 else if nat_lt n 53 then F45
    else if nat_lt n 61 then F53 else F61

of_first : (g : Group) → group_at (first_function g) ≡ g
of_first F0 = refl
of_first g = refl

pub same_first : (g h : Group) → first_function g ≡ first_function h → g ≡ h
same_first g h e = sym (of_first g) ∙ ap group_at e ∙ of_first h

-- a function that a command for a group sets is in that group
in_its_group : (mode : SpeedMode) (g : Group) (bits n : ℕ) (o : Option Value)
    → Differ (option_map Flag (option_map (is_one bits) (function_place mode g n))) o → group_at n ≡ g
in_its_group mode g bits n o d = grind (arith, nat_tests)

-- two commands for groups differ in one group alone
pub one_group : (a b : GroupBits) (mode : SpeedMode) (n : ℕ)
    → Differ (option_map Flag (group_bit mode a n)) (option_map Flag (group_bit mode b n)) → a.group ≡ b.group
one_group a b mode n d =
    sym (in_its_group mode a.group a.bits n _ d) ∙ in_its_group mode b.group b.bits n _ (differ-sym _ _ d)

-- a place at which two numbers have two bits
record Place (w a b : ℕ) : Type 0 where
  at : ℕ
  inside : at < w
  apart : bit_at a at ≢ bit_at b at

search_place : (m a b : ℕ) → Place m a b ⊎ ((i : ℕ) → i < m → bit_at a i ≡ bit_at b i)
search_place zero a b = inr (λ i low. absurd (omega arith))
search_place (suc m) a b = elim (search_place m a b) [
  | inl it ↦ inl (record { at = it.at; inside = let h = it.inside in omega arith; apart = it.apart })
  | inr below ↦ either (bit_at a m) (bit_at b m)
      (λ same. inr (λ i low. either i m (λ e. rw e same) (λ ne. below i (omega arith))))
      (λ ne. inl (record { at = m; inside = omega arith; apart = ne }))
]

place : (w a b : ℕ) → a < 2 ^ w → b < 2 ^ w → a ≢ b → Place w a b
place w a b low high apart = elim (search_place w a b) [
  | inl it ↦ it
  | inr same ↦ absurd (apart (same_from_bits_below w a b low high same))
]

-- the functions of a group that its bits say, and F0
pub says : (bits : GroupBits) (k : ℕ) → k < count_of bits.group
    → group_bit Steps28 bits (first_function bits.group + k) ≡ Some (is_one bits.bits k)
says bits k low = grind (arith, nat_tests)

pub says_f0 : (bits : GroupBits) → bits.group ≡ F0 → group_bit Steps28 bits 0 ≡ Some (is_one bits.bits 4)
says_f0 bits is = ap (λ g. option_map (is_one bits.bits) (function_place Steps28 g 0)) is

-- how many bits a group has, with that of F0
abbrev width : Group → ℕ
width F0 = 5
width F5 = 4
width F9 = 4
width g = 8

in_width : (g : Group) (k : ℕ) → k < width g → (k < count_of g) ⊎ ((g ≡ F0) × (k ≡ 4))
in_width g k h = grind arith

-- a command that sets the functions of an entry's group by other bits
pub apart_in_group : (p : Packet) (a : ℕ) (own : Address) (b : GroupBits) → a ≤ group_max b.group → a ≢ b.bits
    → ((k : ℕ) → k < count_of b.group → function_set Steps28 p (first_function b.group + k) ≡ Some (is_one a k))
    → (b.group ≡ F0 → function_set Steps28 p 0 ≡ Some (is_one a 4)) → Ends p (Loco own (Functions b))
apart_in_group p a own b fits apart sets_it sets_f0 = (
  Steps28,
  elim (in_width b.group found.at found.inside) [
    | inl low ↦ record {
      register = Function (first_function b.group + found.at);
      differ = rw (sets_it found.at low, says b found.at low) two;
    }
    | inr (is, last) ↦ record { register = Function 0; differ = rw (sets_f0 is, says_f0 b is) (rw last at two) }
  ],
)
  where
    found : Place (width b.group) a b.bits
    found = place (width b.group) a b.bits (grind (arith, fits)) (grind (arith, b.in_range)) apart

    two : Flag (is_one a found.at) ≢ Flag (is_one b.bits found.at)
    two e = found.apart (grind (arith, nat_tests, bit_at-lt))
