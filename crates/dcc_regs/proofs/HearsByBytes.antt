-- A locomotive hears the packets whose frame begins with 0, and those whose frame begins with the bytes of its address.
use Rattle.std.proofs.Common.{◌≡◌, ℕ, ◌≤◌, ◌<◌, ◌+◌, ◌/◌, ◌%◌, ◌⊎◌, inl, inr, false, refl}
use Rattle.std.proofs.Common.{sym, arith}
use Rattle.std.proofs.Common.{List, [], ◌∷◌, ◌++◌, length}
use Rattle.std.specs.Prelude.{◌==◌, ◌||◌, Option, None, Some, slice_index}
use Rattle.std.specs.Option.{option_map_or}
use Rattle.std.proofs.lemmas.Bool.Decides.{nat_tests}
use Rattle.dcc_packet.specs.declared.address.Address.{Address}
use Rattle.dcc_packet.specs.declared.address.Address.TheVariants.{Broadcast, Short, Long}
use Rattle.dcc_packet.specs.declared.packet.Packet.{Packet}
use Rattle.dcc_packet.specs.declared.packet.Packet.TheVariants.{Idle, Loco as ToLoco, Accessory, Signal, Other}
use Rattle.dcc_packet.specs.Rows.{address_bytes, instruction_bytes}
use Rattle.std.proofs.Common.{append_assoc}
use Rattle.dcc_packet.specs.Spelling.{spelling}
use Rattle.dcc_regs.specs.Heard.{address_of, frame_address, hears, is_sent_to}
use Rattle.dcc_regs.specs.Inner.HearsByAddress.{is_for, is_heard_at, begins_with_address}
use Rattle.dcc_regs.specs.declared.register.Who.TheVariants.{Loco as LocoWho}

-- no address has such a first byte
other_first : (active : Option Address) (first : ℕ) (rest : List ℕ) → (128 ≤ first) → (first < 192) ⊎ (232 ≤ first)
    → is_sent_to active (first ∷ rest) ≡ false
unfolding is_sent_to
other_first None first rest h (inl k) = grind (arith, nat_tests)
other_first None first rest h (inr k) = grind (arith, nat_tests)
other_first (Some Broadcast) first rest h (inl k) = grind (arith, nat_tests)
other_first (Some Broadcast) first rest h (inr k) = grind (arith, nat_tests)
other_first (Some (Short own)) first rest h (inl k) = grind (arith, nat_tests)
other_first (Some (Short own)) first rest h (inr k) = grind (arith, nat_tests)
other_first (Some (Long own)) first rest h (inl k) = grind (arith, nat_tests)
other_first (Some (Long own)) first rest h (inr k) = grind (arith, nat_tests)

to_loco : (active : Option Address) (to : Address) (more : List ℕ)
    → is_for active to ≡ is_sent_to active (address_bytes to ++ more)
unfolding is_sent_to
to_loco active Broadcast more = refl
to_loco None (Short to) more = grind (arith, nat_tests)
to_loco None (Long to) more = grind (arith, nat_tests)
to_loco (Some Broadcast) (Short to) more = grind (arith, nat_tests)
to_loco (Some Broadcast) (Long to) more = grind (arith, nat_tests)
to_loco (Some (Short own)) (Short to) more = grind (arith, nat_tests)
to_loco (Some (Short own)) (Long to) more = grind (arith, nat_tests)
to_loco (Some (Long own)) (Short to) more = grind (arith, nat_tests)
to_loco (Some (Long own)) (Long to) more = grind (arith, nat_tests)

-- a frame of no row
no_row : (active : Option Address) (first second : ℕ) (rest : List ℕ) → first < 256 → second < 256
    → option_map_or (is_for active) (frame_address (first ∷ second ∷ rest)) false
    ≡ is_sent_to active (first ∷ second ∷ rest)
unfolding is_sent_to
no_row None first second rest h k = grind (arith, nat_tests)
no_row (Some Broadcast) first second rest h k = grind (arith, nat_tests)
no_row (Some (Short own)) first second rest h k = grind (arith, nat_tests)
no_row (Some (Long own)) first second rest h k = grind (arith, nat_tests)

by_frame : (active : Option Address) (frame : List ℕ) → 3 ≤ length frame → ((i : ℕ) → slice_index frame i < 256)
    → option_map_or (is_for active) (frame_address frame) false ≡ is_sent_to active frame
by_frame active [] h each = absurd (omega (arith, h))
by_frame active (a ∷ []) h each = absurd (omega (arith, h))
by_frame active (a ∷ b ∷ rest) h each = no_row active a b rest (each 0) (each 1)

pub hears_by_bytes : (active : Option Address) (p : Packet)
    → option_map_or (is_for active) (address_of p) false ≡ is_sent_to active (spelling p)
hears_by_bytes active Idle = sym (other_first active 255 _ (omega arith) (inr (omega arith)))
hears_by_bytes active (ToLoco to what) =
    rw (append_assoc (address_bytes to) (instruction_bytes what) _)
    (to_loco active to _)
hears_by_bytes active (Accessory board output on) =
    sym (other_first active (0x80 + board.number % 64) _ (omega arith) (inl (omega arith)))
hears_by_bytes active (Signal address aspect) =
    sym (other_first active (0x80 + address.number / 4 % 64) _ (omega arith) (inl (omega arith)))
hears_by_bytes active (Other other) = by_frame active other.frame other.valid.least other.valid.each

pub hears_at : (active : Option Address) (p : Packet) → hears (LocoWho active) p ≡ is_heard_at active p
hears_at active p = sym (hears_by_bytes active p)

-- the first bytes of a frame say for whom it is
two_bytes : (active : Option Address) (first second : ℕ) (rest : List ℕ)
    → is_sent_to active (first ∷ second ∷ rest) ≡ (first == 0 || begins_with_address active first second)
unfolding is_sent_to
two_bytes None first second rest = grind (arith, nat_tests)
two_bytes (Some Broadcast) first second rest = grind (arith, nat_tests)
two_bytes (Some (Short own)) first second rest = grind (arith, nat_tests)
two_bytes (Some (Long own)) first second rest = grind (arith, nat_tests)

pub first_bytes : (active : Option Address) (frame : List ℕ) → 3 ≤ length frame
    → is_sent_to active frame
    ≡ (slice_index frame 0 == 0 || begins_with_address active (slice_index frame 0) (slice_index frame 1))
first_bytes active [] h = absurd (omega (arith, h))
first_bytes active (a ∷ []) h = absurd (omega (arith, h))
first_bytes active (a ∷ b ∷ rest) h = two_bytes active a b rest
