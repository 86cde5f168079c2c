-- When some decoder hears two packets.
use Rattle.std.proofs.Common.{◌≡◌, ℕ, ◌≤◌, Bool, true, false, refl, sym, ◌∙◌, ap, arith}
use Rattle.std.specs.Prelude.{◌==◌, ◌||◌, ◌&&◌, ◌/◌, nat_lt, if◌then◌else◌, Option, None, Some}
use Rattle.std.specs.Option.{option_map_or}
use Rattle.std.proofs.lemmas.Bool.{or_right}
use Rattle.std.proofs.lemmas.Bool.Decides.{nat_tests, Decides-eqb}
use Rattle.dcc_packet.specs.declared.accessory.Board.{Board}
use Rattle.dcc_packet.specs.declared.address.Address.{Address}
use Rattle.dcc_packet.specs.declared.address.Address.TheVariants.{Broadcast, Short, Long}
use Rattle.dcc_packet.specs.declared.instruction.What.{What}
use Rattle.dcc_packet.specs.declared.instruction.What.TheVariants.{Reset}
use Rattle.dcc_packet.specs.declared.packet.Packet.{Packet}
use Rattle.dcc_packet.specs.declared.packet.Packet.TheVariants.{Loco as ToLoco, Accessory, Signal}
use Rattle.dcc_regs.specs.declared.register.Who.{Who}
use Rattle.dcc_regs.specs.declared.register.Who.TheVariants.{Loco as LocoWho, Board as BoardWho}
use Rattle.dcc_regs.specs.Heard.{hears, address_of}
use Rattle.dcc_regs.specs.Outputs.{is_full_reset}
use Rattle.dcc_regs.specs.Inner.HearsByAddress.{is_for}
use Rattle.dcc_regs.proofs.HearsByBytes.{hears_at}
use Rattle.dcc_regs.specs.Inner.ConflictParts.{HeardTogether, meets, both_meet, boards_meet, board_of_packet, some_loco}
use Rattle.dcc_regs.specs.Inner.ConflictParts.{some_board}

pub self : (n : ℕ) → (n == n) ≡ true
self n = (Decides-eqb n n).1 refl

-- a decoder takes what is sent to its own address
at_own : (a : Address) → is_for (Some a) a ≡ true
at_own Broadcast = refl
at_own (Short n) = self n.number
at_own (Long n) = self n.number

joined : (own n m : ℕ) → (own == n) ≡ true → (own == m) ≡ true → (n == m) ≡ true
joined own n m h k = (Decides-eqb n m).1 (sym ((Decides-eqb own n).0 h) ∙ (Decides-eqb own m).0 k)

or_first : (a b : Bool) → a ≡ true → (a || b) ≡ true
or_first a b t = rw t refl

meets_at : (a b : Address) (active : Option Address) → is_for active a ≡ true → is_for active b ≡ true
    → meets a b ≡ true
meets_at a Broadcast active h k = refl
meets_at Broadcast b active h k = refl
meets_at (Short n) (Short m) (Some (Short own)) h k = or_first _ _ (joined own.number n.number m.number h k)
meets_at (Long n) (Long m) (Some (Long own)) h k = or_first _ _ (joined own.number n.number m.number h k)
meets_at (Short n) (Long m) (Some (Short own)) h k = cc
meets_at (Long n) (Short m) (Some (Short own)) h k = cc
meets_at a b active h k = cc

-- a board takes what is sent to this board
takes_board : ℕ → Option ℕ → Bool
takes_board own to = option_map_or (λ board. own == board || board == 511) to false

hears_reset : (own : ℕ) (t : Bool) → t ≡ takes_board own (if t then Some 511 else None)
unfolding takes_board
hears_reset own true = grind (arith, nat_tests)
hears_reset own false = refl

-- of the instructions to locomotives, a board hears only the reset to all
pub only_reset : (own : Board) (to : Address) (what : What)
    → hears (BoardWho own) (ToLoco to what) ≡ is_full_reset to what
only_reset own Broadcast Reset = refl
only_reset own to what = refl

hears_signal : (own address : ℕ) (t u : Bool) → (address == 2047) ≡ t → nat_lt address 2044 ≡ u
    → (t || (u && own == address / 4)) ≡ takes_board own (if t || u then Some (address / 4) else None)
unfolding takes_board
hears_signal own address true u e f = grind (arith, nat_tests)
hears_signal own address false true e f = grind (arith, nat_tests)
hears_signal own address false false e f = refl

hears_board : (own : Board) (p : Packet) → hears (BoardWho own) p ≡ takes_board own.number (board_of_packet p)
unfolding takes_board
hears_board own (ToLoco to what) = only_reset own to what ∙ hears_reset own.number (is_full_reset to what)
hears_board own (Signal address aspect) =
    hears_signal own.number address.number (address.number == 2047) (nat_lt address.number 2044) refl refl
hears_board own p = refl

-- some locomotive decoder takes what is sent to either address
record MeetAt (o o' : Option Address) : Type 0 where
  active : Option Address
  first : option_map_or (is_for active) o false ≡ true
  second : option_map_or (is_for active) o' false ≡ true

meet_by : (a b : Address) (t : Bool) → is_for (Some a) b ≡ t → (t || is_for (Some b) a) ≡ true
    → MeetAt (Some a) (Some b)
meet_by a b true e h = record { active = Some a; first = at_own a; second = e }
meet_by a b false e h = record { active = Some b; first = h; second = at_own b }

loco_from : (o o' : Option Address) → both_meet meets o o' ≡ true → MeetAt o o'
loco_from (Some a) (Some b) h = meet_by a b (is_for (Some a) b) refl h
loco_from o o' h = absurd (cc)

loco_to : (o o' : Option Address) (active : Option Address) → option_map_or (is_for active) o false ≡ true
    → option_map_or (is_for active) o' false ≡ true
    → both_meet meets o o' ≡ true
loco_to (Some a) (Some b) active h k = meets_at a b active h k
loco_to o o' active h k = cc

board_to : (o o' : Option ℕ) (own : ℕ) → takes_board own o ≡ true → takes_board own o' ≡ true
    → both_meet boards_meet o o' ≡ true
unfolding takes_board
board_to (Some a) (Some b) own h k = grind (arith, nat_tests)
board_to o o' own h k = cc

record BoardAt (a b : ℕ) : Type 0 where
  own : Board
  first : takes_board own.number (Some a) ≡ true
  second : takes_board own.number (Some b) ≡ true

board_by : (a b : ℕ) → a ≤ 511 → b ≤ 511 → (t : Bool) → (a == 511) ≡ t → boards_meet a b ≡ true → BoardAt a b
unfolding takes_board
board_by a b low high true e h =
    record {
      own = record { number = b; in_range = high };
      first = grind (arith, nat_tests);
      second = grind (arith, nat_tests);
    }
board_by a b low high false e h =
    record {
      own = record { number = a; in_range = low };
      first = grind (arith, nat_tests);
      second = grind (arith, nat_tests);
    }

fits_by : (t : Bool) (m n : ℕ) → m ≤ 511 → (if t then Some m else None) ≡ Some n → n ≤ 511
fits_by true m n h e = let same : m ≡ n = cc in rw (← same) h
fits_by false m n h e = absurd (cc)

quarter : (n : ℕ) → n ≤ 2047 → n / 4 ≤ 511
quarter n h = omega arith

fits : (p : Packet) (n : ℕ) → board_of_packet p ≡ Some n → n ≤ 511
fits (ToLoco to what) n e = fits_by (is_full_reset to what) 511 n (omega arith) e
fits (Accessory board output on) n e = fits_by true board.number n board.in_range e
fits (Signal address aspect) n e =
    fits_by (address.number == 2047 || nat_lt address.number 2044) (address.number / 4) n
    (quarter address.number address.in_range) e
fits p n e = cc

by_boards : (p q : Packet) (o o' : Option ℕ) → board_of_packet p ≡ o → board_of_packet q ≡ o'
    → both_meet boards_meet o o' ≡ true → HeardTogether p q
by_boards p q (Some a) (Some b) e f h =
    let at = board_by a b (fits p a e) (fits q b f) (a == 511) refl h in
    record {
      who = BoardWho at.own;
      first = hears_board at.own p ∙ (ap (takes_board at.own.number) e ∙ at.first);
      second = hears_board at.own q ∙ (ap (takes_board at.own.number) f ∙ at.second);
    }
by_boards p q o o' e f h = cc

pub together_board : (p q : Packet) → some_board p q ≡ true → HeardTogether p q
together_board p q h = by_boards p q (board_of_packet p) (board_of_packet q) refl refl h

pub together_loco : (p q : Packet) → some_loco p q ≡ true → HeardTogether p q
together_loco p q h =
    let m = loco_from (address_of p) (address_of q) h in
    record { who = LocoWho m.active; first = hears_at m.active p ∙ m.first; second = hears_at m.active q ∙ m.second }

by_who : (p q : Packet) (who : Who) → hears who p ≡ true → hears who q ≡ true → (some_loco p q || some_board p q) ≡ true
by_who p q (LocoWho active) h k =
    or_first (some_loco p q) (some_board p q) (loco_to (address_of p) (address_of q) active
    (sym (hears_at active p) ∙ h) (sym (hears_at active q) ∙ k))
by_who p q (BoardWho own) h k =
    let t : some_board p q ≡ true =
    board_to (board_of_packet p) (board_of_packet q) own.number (sym (hears_board own p) ∙ h)
    (sym (hears_board own q) ∙ k) in
    or_right (some_loco p q) (some_board p q) t

pub by_together : (p q : Packet) → HeardTogether p q → (some_loco p q || some_board p q) ≡ true
by_together p q h = by_who p q h.who h.first h.second

pub or_else : (a b : Bool) → (a || b) ≡ true → a ≡ false → b ≡ true
or_else true b h e = absurd (cc)
or_else false b h e = h
