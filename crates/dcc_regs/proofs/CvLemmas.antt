-- A CV and its bits.
use Rattle.std.proofs.Common.{◌≡◌, ℕ, zero, suc, ◌-◌, ◌<◌, ◌≤◌, Bool, true, false, List, refl, sym, ◌∙◌, ap, arith}
use Rattle.std.proofs.Common.{replicate, get_or}
use Rattle.std.specs.Prelude.{None, Some, if◌then◌else◌}
use Rattle.std.proofs.lemmas.Bool.Decides.{nat_tests}
use mathlib.Core.Path.{fun_ext}
use Rattle.dcc_regs.specs.declared.register.Register.{Register}
use Rattle.dcc_regs.specs.declared.register.Register.TheVariants.{Speed as SpeedRegister}
use Rattle.dcc_regs.specs.declared.register.Register.TheVariants.{CvBit}
use Rattle.dcc_regs.specs.declared.register.Who.TheVariants.{Loco as LocoWho}
use Rattle.dcc_regs.specs.declared.register.Speed.TheVariants.{Stop}
use Rattle.dcc_regs.specs.declared.register.Value.TheVariants.{Flag}
use Rattle.dcc_packet.specs.Bits.{is_one}
use Rattle.dcc_regs.specs.Addresses.{active_address}
use Rattle.dcc_packet.proofs.BitLemmas.{byte_of_bits, same_byte}
use Rattle.dcc_packet.specs.Cvs.{IsCvs, cv_in}
use Rattle.dcc_regs.specs.Loco.{LocoContent, loco_registers, is_cv_bit, holds_one, cv_held, start_content, powered_up}

bit_there : (cv place : ℕ) → 1 ≤ cv → cv ≤ 1024 → place ≤ 7 → is_cv_bit cv place ≡ true
bit_there cv place a b h = grind (arith, nat_tests)

held_bit : (t one : Bool) → t ≡ true → holds_one (if t then Some (Flag one) else None) ≡ one
held_bit true true e = refl
held_bit true false e = refl
held_bit false one e = absurd (cc)

-- the value of a CV among the registers of a decoder
pub cv_of-loco : (d : LocoContent) (cv : ℕ) → 1 ≤ cv → cv ≤ 1024 → d.cvs cv < 256
    → cv_held (loco_registers d) cv ≡ d.cvs cv
cv_of-loco d cv a b h =
    same_byte (λ place. holds_one (loco_registers d (CvBit cv place))) (is_one (d.cvs cv))
    (λ k le. held_bit (is_cv_bit cv k) (is_one (d.cvs cv) k) (bit_there cv k a b le))
    ∙ byte_of_bits (d.cvs cv) h

-- functions or states that are all off
pub get_or-off : (n k : ℕ) → get_or (replicate n false) k false ≡ false
get_or-off zero k = refl
get_or-off (suc n) zero = refl
get_or-off (suc n) (suc k) = get_or-off n k

abbrev pub off : ℕ → Bool
off k = false

abbrev pub all_off : ℕ → ℕ → Bool
all_off n k = get_or (replicate n false) k false

pub off-all : (n : ℕ) → all_off n ≡ off
off-all n = fun_ext (get_or-off n)

-- a decoder just made
pub started-off : (n k : ℕ) (bytes : List ℕ)
    → loco_registers
    (record {
      speed = Stop;
      forward = true;
      functions = all_off n;
      states = all_off k;
      cvs = cv_in bytes;
      pending = None;
    }) ≡ loco_registers (start_content (cv_in bytes))
started-off n k bytes =
    rw (off-all n, off-all k) refl

-- the active address is in four CVs
pub active_address-same : (f g : ℕ → ℕ) → f 1 ≡ g 1 → f 17 ≡ g 17 → f 18 ≡ g 18 → f 29 ≡ g 29
    → active_address f ≡ active_address g
active_address-same f g a b c d = rw (a, b, c, d) refl

pub active_address-loco : (d : LocoContent) → ((n : ℕ) → d.cvs n < 256)
    → active_address d.cvs ≡ active_address (cv_held (loco_registers d))
active_address-loco d small =
    sym (active_address-same (cv_held (loco_registers d)) d.cvs
    (cv_of-loco d 1 (omega arith) (omega arith) (small 1)) (cv_of-loco d 17 (omega arith) (omega arith) (small 17))
    (cv_of-loco d 18 (omega arith) (omega arith) (small 18)) (cv_of-loco d 29 (omega arith) (omega arith) (small 29)))

started_at : (d : LocoContent) (r : Register) → loco_registers (start_content d.cvs) r ≡ powered_up (loco_registers d) r
started_at d SpeedRegister = refl
started_at d r = refl

-- the registers of a decoder made with the CVs of another are those of the other powered up
pub powered_up-loco : (d : LocoContent) → loco_registers (start_content d.cvs) ≡ powered_up (loco_registers d)
powered_up-loco d = fun_ext (started_at d)

-- and it has the address that the other has then
pub who-powered_up : (d : LocoContent) (cvs : List ℕ) → IsCvs cvs → d.cvs ≡ cv_in cvs
    → LocoWho (active_address d.cvs) ≡ LocoWho (active_address (cv_held (loco_registers d)))
who-powered_up d cvs ok is = ap LocoWho (active_address-loco d (λ n. rw is (ok.bytes (n - 1))))
