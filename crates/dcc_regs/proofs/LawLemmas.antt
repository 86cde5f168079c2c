-- The laws of packets and decoders.
use Rattle.std.proofs.Common.{◌≡◌, ◌≢◌, ℕ, Bool, true, false, refl, sym, ◌∙◌, ap, arith}
use Rattle.std.specs.Prelude.{◌==◌, ◌&&◌, ◌⊎◌, Option, None, Some, option_map, if◌then◌else◌}
use mathlib.Core.Logic.{inl, inr}
use Rattle.std.specs.Bool.{Decides}
use Rattle.std.proofs.lemmas.Bool.Decides.{nat_tests, Decides-eqb}
use Rattle.dcc_packet.specs.declared.accessory.Board.{Board}
use Rattle.dcc_packet.specs.declared.address.Address.{Address}
use Rattle.dcc_packet.specs.declared.address.Address.TheVariants.{Broadcast, Short, Long}
use Rattle.dcc_packet.specs.declared.instruction.What.{What}
use Rattle.dcc_packet.specs.declared.packet.Packet.{Packet}
use Rattle.dcc_packet.specs.declared.packet.Packet.TheVariants.{Idle, Loco as ToLoco}
use Rattle.dcc_packet.specs.SamePacket.{same}
use Rattle.dcc_packet.proofs.Same.{same_short, same_long}
use Rattle.dcc_packet.proofs.SameFrames.{Decides-same}
use Rattle.dcc_regs.specs.declared.register.Who.TheVariants.{Loco as LocoWho, Board as BoardWho}
use Rattle.dcc_regs.specs.declared.register.Register.TheVariants.{CvBit, Pending as PendingRegister}
use Rattle.dcc_regs.specs.declared.register.Value.TheVariants.{Flag}
use Rattle.dcc_regs.specs.Heard.{hears}
use Rattle.dcc_regs.specs.Inner.HearsByAddress.{is_for}
use Rattle.dcc_regs.proofs.HearsByBytes.{hears_at}
use Rattle.dcc_regs.specs.Writes.{CvChange, Byte, OneBit, change_of, bit_set, is_of_cv29, writes_cv29}
use Rattle.dcc_regs.specs.Inner.WriteParts.{bit_by}
use Rattle.dcc_regs.proofs.WritesInParts.{set_by_change}
use Rattle.dcc_regs.specs.Result.{is_effective, mode_of}
use Rattle.dcc_regs.specs.Laws.{ConflictIsMutual, IdleIsUnheard, ModeStays, NoConflictWithItself, OneAddress}
use Rattle.dcc_regs.specs.Laws.{PacketsAreDecided, ValuesAreDecided, WritesSetNoPlain}
use Rattle.dcc_regs.proofs.RegisterStep.{step-keeps}
use Rattle.dcc_regs.proofs.SameValues.{same_value, Decides-same_value}
use Rattle.dcc_regs.proofs.OwnWrites.{sets-own_write}

pub idle_is_unheard : IdleIsUnheard
idle_is_unheard (LocoWho active) = hears_at active Idle
idle_is_unheard (BoardWho own) = refl

one_number : (own n m : ℕ) → (own == n) ≡ true → (own == m) ≡ true → n ≡ m
one_number own n m h k = sym ((Decides-eqb own n).0 h) ∙ (Decides-eqb own m).0 k

one_for : (active : Option Address) (a b : Address) → a ≢ Broadcast → b ≢ Broadcast → is_for active a ≡ true
    → is_for active b ≡ true → a ≡ b
one_for active Broadcast b n m h k = absurd (n refl)
one_for active a Broadcast n m h k = absurd (m refl)
one_for (Some (Short own)) (Short a) (Short b) n m h k =
    ap Short (same_short a b (one_number own.number a.number b.number h k))
one_for (Some (Long own)) (Long a) (Long b) n m h k =
    ap Long (same_long a b (one_number own.number a.number b.number h k))
one_for (Some (Short own)) (Short a) (Long b) n m h k = cc
one_for (Some (Long own)) (Long a) (Short b) n m h k = cc
one_for active a b n m h k = cc

no_board : (own : Board) (to : Address) (what : What) → to ≢ Broadcast → hears (BoardWho own) (ToLoco to what) ≡ true
    → ⊥
no_board own Broadcast what n h = n refl
no_board own to what n h = absurd (cc)

pub one_address : OneAddress
one_address (LocoWho active) a b x y n m h k =
    one_for active a b n m (sym (hears_at active (ToLoco a x)) ∙ h) (sym (hears_at active (ToLoco b y)) ∙ k)
one_address (BoardWho own) a b x y n m h k = absurd (no_board own a x n h)

other_cv : (cv : ℕ) (t one : Bool) → (cv == 29) ≡ false → (if (29 == cv) && t then Some one else None) ≡ None
other_cv cv t one e =
    let f : (29 == cv) ≡ false = grind (arith, nat_tests) in
    rw f refl

other_bit : (cv place : ℕ) (t one : Bool) → (cv == 29) ≡ false
    → (if (29 == cv) && (1 == place) && t then Some one else None) ≡ None
other_bit cv place t one e =
    let f : (29 == cv) ≡ false = grind (arith, nat_tests) in
    rw f refl

bit_by-stays : (change : Option CvChange) → is_of_cv29 change ≡ false → bit_by change 29 1 ≡ None
bit_by-stays None e = refl
bit_by-stays (Some (Byte cv value)) e = other_cv cv.number _ _ e
bit_by-stays (Some (OneBit cv place one)) e = other_bit cv.number place.place _ _ e

-- a packet that does not write CV29 sets no bit of it
pub bit_stays : (p : Packet) → writes_cv29 p ≡ false → bit_set p 29 1 ≡ None
bit_stays p e = set_by_change p 29 1 ∙ bit_by-stays (change_of p) e

none_by : (t : Bool) (o : Option Bool) → o ≡ None → (if t then option_map Flag o else None) ≡ None
none_by true o e = ap (option_map Flag) e
none_by false o e = refl

pub mode_stays : ModeStays
mode_stays who start p e =
    ap mode_of
    (step-keeps who start p (CvBit 29 1)
    (none_by (is_effective (start PendingRegister) p) (bit_set p 29 1) (bit_stays p e)))

pub writes_set_no_plain_register : WritesSetNoPlain
writes_set_no_plain_register = sets-own_write

pub conflict_is_mutual : ConflictIsMutual
conflict_is_mutual p q c = record {
  who = c.who;
  first_heard = c.second_heard;
  second_heard = c.first_heard;
  mode = c.mode;
  register = c.register;
  one = c.other;
  other = c.one;
  first_sets = c.second_sets;
  second_sets = c.first_sets;
  apart = λ e. c.apart (sym e);
}

pub no_conflict_with_itself : NoConflictWithItself
no_conflict_with_itself p c = let both : Some c.one ≡ Some c.other = sym c.first_sets ∙ c.second_sets in c.apart (cc)

decided : {A : Type 0} (test : A → A → Bool) → ((a b : A) → Decides (test a b) (a ≡ b)) → (a b : A) (t : Bool)
    → test a b ≡ t → (a ≡ b) ⊎ (a ≢ b)
decided test decides a b true e = inl ((decides a b).0 e)
decided test decides a b false e = inr (λ same. let t : test a b ≡ true = (decides a b).1 same in cc)

pub packets_are_decided : PacketsAreDecided
packets_are_decided p q = decided same Decides-same p q (same p q) refl

pub values_are_decided : ValuesAreDecided
values_are_decided v w = decided same_value Decides-same_value v w (same_value v w) refl
