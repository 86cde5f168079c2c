-- Locomotive decoders whose CVs the caller stores.
use Rattle.std.proofs.Common.{◌≡◌, ◌<◌, ℕ, zero, suc, List, refl, sym, ap, subst, true, false, replicate, arith}
use Rattle.std.specs.Prelude.{slice_index, None}
use Rattle.std.proofs.lemmas.List.{get_or-replicate, length-replicate}
use Rattle.dcc_packet.specs.declared.packet.Packet.{Packet}
use Rattle.dcc_packet.specs.Cvs.{IsCvs, cv_in}
use Rattle.dcc_packet.specs.StoredCvs.{HasValue, with_value}
use Rattle.dcc_regs.specs.declared.loco_registers.LocoRegisters.{LocoRegisters}
use Rattle.dcc_regs.specs.declared.loco_state.LocoState.{LocoState}
use Rattle.dcc_regs.specs.LocoRegisters.{registers_in, with_cvs}
use Rattle.dcc_regs.specs.declared.register.Register.{Register}
use Rattle.dcc_regs.specs.AccessedCv.{AreStored, accessed_cv}
use Rattle.dcc_regs.specs.Heard.{hears}
use Rattle.dcc_regs.specs.LocoState.{is_state, loco_map, loco_who}
use Rattle.dcc_regs.specs.Result.{step}
use Rattle.dcc_regs.specs.Setting.{set_from}
use Rattle.dcc_c.specs.declared.small_loco.DccSmallLoco.{DccSmallLoco}
use Rattle.dcc_c.specs.Locos.{register_numbers}
use Rattle.dcc_c.specs.SmallLocos.{AppliesToValue, IsSmallLoco, loco_cv, small_loco_numbers}

-- a list in which each CV has one value
replicated : (n i v : ℕ) → v < 256 → slice_index (replicate n v) i < 256
replicated zero i v h = omega arith
replicated (suc n) zero v h = h
replicated (suc n) (suc i) v h = replicated n i v h

all_alike : (v : ℕ) → v < 256 → IsCvs (replicate 1024 v)
all_alike v h = record { count = length-replicate 1024 v; bytes = λ i. replicated 1024 i v h }

pub small_numbers : (loco : DccSmallLoco) (registers : LocoRegisters) (cvs : List ℕ)
    → loco.registers ≡ register_numbers registers → cv_in cvs 29 ≡ loco.cv29
    → loco ≡ small_loco_numbers (with_cvs registers cvs)
small_numbers loco registers cvs e f = rw (f, ← e) refl

pub some_small_loco : (loco : DccSmallLoco) (registers : LocoRegisters) → loco.registers ≡ register_numbers registers
    → ((cvs : List ℕ) → is_state (with_cvs registers cvs) ≡ true) → loco.cv29 < 256
    → (state : LocoState) × IsSmallLoco loco state
some_small_loco loco registers e possible small =
    let cvs = replicate 1024 loco.cv29 in
    let mode : cv_in cvs 29 ≡ loco.cv29 = get_or-replicate 1024 28 loco.cv29 0 (omega arith) in (
      with_cvs registers cvs,
      record {
        possible = possible cvs;
        cvs = all_alike loco.cv29 small;
        numbers = small_numbers loco registers cvs e mode;
      },
    )

-- what `LocoRegisters::apply_with_value` ensures
pub record Applied (packet : Packet) (r r' : LocoRegisters) (cv29 cv29' value value' : ℕ) : Type 0 where
  pub possible : (cvs after : List ℕ) → is_state (with_cvs r cvs) ≡ true → is_state (with_cvs r' after) ≡ true
  pub same_who : (cvs after : List ℕ) → loco_who (with_cvs r' after) ≡ loco_who (with_cvs r cvs)
  pub stored : (cvs : List ℕ) → AreStored cvs cv29 (accessed_cv r.address r.pending packet) value
      → AreStored (with_value cvs (accessed_cv r.address r.pending packet) value') cv29'
      (accessed_cv r.address r.pending packet) value'
  pub step : (cvs : List ℕ) → AreStored cvs cv29 (accessed_cv r.address r.pending packet) value
      → loco_map (with_cvs r' (with_value cvs (accessed_cv r.address r.pending packet) value'))
      ≡ step (loco_who (with_cvs r cvs)) (loco_map (with_cvs r cvs)) packet
  pub unheard : (cvs : List ℕ) → AreStored cvs cv29 (accessed_cv r.address r.pending packet) value
      → hears (loco_who (with_cvs r cvs)) packet ≡ false
      → loco_map (with_cvs r' (with_value cvs (accessed_cv r.address r.pending packet) value'))
      ≡ loco_map (with_cvs r cvs)
  pub kept : (cvs : List ℕ) → AreStored cvs cv29 (accessed_cv r.address r.pending packet) value → (it : Register)
      → set_from (loco_map (with_cvs r cvs)) packet it ≡ None
      → loco_map (with_cvs r' (with_value cvs (accessed_cv r.address r.pending packet) value')) it
      ≡ loco_map (with_cvs r cvs) it

-- the same as `AppliesToValue`, of the state with the registers `r` and the CVs `cvs`
applied_to : (packet : Packet) (r r' : LocoRegisters) (cvs : List ℕ) (value value' : ℕ) (old loco : DccSmallLoco)
    → IsSmallLoco old (with_cvs r cvs) → Applied packet r r' old.cv29 loco.cv29 value value'
    → loco.registers ≡ register_numbers r' → HasValue cvs (accessed_cv r.address r.pending packet) value
    → AppliesToValue packet (with_cvs r cvs) value loco value'
applied_to packet r r' cvs value value' old loco is a e has =
    let cv = accessed_cv r.address r.pending packet in
    let stored : AreStored cvs old.cv29 cv value =
    record { all = is.cvs; mode = sym (ap (λ (l : DccSmallLoco). l.cv29) is.numbers); accessed = has } in
    let now : AreStored (with_value cvs cv value') loco.cv29 cv value' = a.stored cvs stored in
    record {
      after = with_cvs r' (with_value cvs cv value');
      is = record {
        possible = a.possible cvs (with_value cvs cv value') is.possible;
        cvs = now.all;
        numbers = small_numbers loco r' (with_value cvs cv value') e now.mode;
      };
      cvs = refl;
      applied = record {
        same_who = a.same_who cvs (with_value cvs cv value');
        step = a.step cvs stored;
        unheard = a.unheard cvs stored;
        kept = a.kept cvs stored;
      };
    }

pub applies_to_value : (packet : Packet) (r r' : LocoRegisters) (before : LocoState) (value value' : ℕ)
    (old loco : DccSmallLoco) → r ≡ registers_in before → IsSmallLoco old before
    → Applied packet r r' old.cv29 loco.cv29 value value' → loco.registers ≡ register_numbers r'
    → HasValue before.cvs (loco_cv before packet) value → AppliesToValue packet before value loco value'
applies_to_value packet r r' before value value' old loco same is a e has =
    let was : with_cvs r before.cvs ≡ before = ap (λ (it : LocoRegisters). with_cvs it before.cvs) same in
    subst (λ (s : LocoState). AppliesToValue packet s value loco value') was
    (applied_to packet r r' before.cvs value value' old loco
    (subst (λ (s : LocoState). IsSmallLoco old s) (sym was) is) a e
    (subst (λ (s : LocoState). HasValue before.cvs (loco_cv s packet) value) (sym was) has))
