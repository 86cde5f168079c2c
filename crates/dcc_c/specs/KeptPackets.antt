-- A packet that is stored as the bytes of its frame.
use Rattle.std.specs.Prelude.{◌≡◌, ℕ, List, [], ◌∷◌, ◌++◌, length, refl, Bool, false, not, ◌&&◌}
use Rattle.std.specs.Option.{option_map_or}
use Rattle.std.specs.Coded.{coded_list, coded_ℕ, Coded-set}
use Rattle.std.proofs.Common.{◌∙◌, sym, ap, subst, arith}
use Rattle.dcc_packet.specs.Address.{same_address}
use Rattle.dcc_packet.specs.declared.address.Address.{Address}
use Rattle.dcc_packet.specs.declared.address.Address.TheVariants.{Broadcast}
use Rattle.dcc_packet.specs.declared.packet.Packet.{Packet}
use Rattle.dcc_packet.specs.declared.packet.Packet.TheVariants.{Idle, Loco, Accessory, Signal, Other}
use Rattle.dcc_packet.specs.Rows.{address_bytes, instruction_bytes, accessory_bytes, signal_bytes}
use Rattle.dcc_packet.specs.Spelling.{spelling}
use Rattle.dcc_wire.specs.Frames.{with_error_byte}
use Rattle.dcc_packet.proofs.OneSpelling.{one_packet}
use Rattle.dcc_regs.specs.Heard.{address_of}

-- the bytes that store `packet`. The bytes of the idle packet are an empty list, and the bytes of
-- any other packet are its frame. So a structure of zeros is an idle packet.
abbrev pub kept_bytes : Packet → List ℕ
kept_bytes Idle = []
kept_bytes packet = spelling packet

-- a packet, and a proof that `bytes` store this packet
abbrev pub KeptBy : List ℕ → Type 0
KeptBy bytes = (packet : Packet) × (kept_bytes packet ≡ bytes)

some_behind : (bytes : List ℕ) → with_error_byte bytes ≡ [] → ⊥
some_behind [] e = cc
some_behind (byte ∷ bytes) e = cc

pub some_bytes : (packet : Packet) → spelling packet ≡ [] → ⊥
some_bytes Idle e = cc
some_bytes (Loco to what) e = some_behind (address_bytes to ++ instruction_bytes what) e
some_bytes (Accessory board output on) e = some_behind (accessory_bytes board output on) e
some_bytes (Signal address aspect) e = some_behind (signal_bytes address aspect) e
some_bytes (Other other) e = let none : length other.frame
    ≡ 0 = ap length e in let most = other.valid.least in omega arith

pub one_kept : (packet other : Packet) → kept_bytes packet ≡ kept_bytes other → packet ≡ other
one_kept Idle Idle e = refl
one_kept Idle other e = absurd (some_bytes other (sym e))
one_kept packet Idle e = absurd (some_bytes packet e)
one_kept packet other e = one_packet packet other e

same_pair : (bytes : List ℕ) (p q : Packet) → p ≡ q → (h : kept_bytes p ≡ bytes) (k : kept_bytes q ≡ bytes)
    → ◌≡◌ {A = KeptBy bytes} (p, h) (q, k)
same_pair bytes p q e =
    subst (λ (r : Packet). (h : kept_bytes p ≡ bytes) (k : kept_bytes r ≡ bytes)
    → ◌≡◌ {A = KeptBy bytes} (p, h) (r, k)) e
    (λ h k. ap (λ (m : kept_bytes p ≡ bytes). (p, m)) (Coded-set (coded_list coded_ℕ) _ _ h k))

-- `bytes` store at most one packet
pub KeptBy-prop : (bytes : List ℕ) → IsProp (KeptBy bytes)
KeptBy-prop bytes a b = same_pair bytes a.0 b.0 (one_kept a.0 b.0 (a.1 ∙ sym b.1)) a.1 b.1

-- true if `to` and the address of the packet `entry` are addresses of one locomotive each, and differ
abbrev pub is_for_another : Address → Packet → Bool
is_for_another Broadcast entry = false
is_for_another to entry =
    option_map_or (λ own. not (same_address own Broadcast) && not (same_address own to)) (address_of entry) false
