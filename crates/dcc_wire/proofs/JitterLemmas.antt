-- Classes decide the outcomes, and small errors of sent half-bits change no class.
use Rattle.std.proofs.Common.{◌≡◌, ℕ, ◌≤◌, Bool, true, false, List, [], ◌∷◌, ◌++◌, refl, sym, ap, ◌∙◌, arith, map}
use Rattle.std.specs.List.{AllZip}
use Rattle.std.proofs.lemmas.Bool.Decides.{nat_tests}
use Rattle.std.proofs.lemmas.List.{map-append}
use Rattle.dcc_wire.specs.declared.half.Half.{Half}
use Rattle.dcc_wire.specs.declared.half.Half.TheVariants.{One, Zero, Bad}
use Rattle.dcc_wire.specs.declared.timing.Timing.{Timing}
use Rattle.dcc_wire.specs.Framing.{seen, starts}
use Rattle.dcc_wire.specs.Half.{class_of}
use Rattle.dcc_wire.specs.Jitter.{IsWithin, AreWithin, AllNominal, CanBeSentAs, CanLast}
use Rattle.dcc_wire.specs.Sending.{durations_of, sent, sent_bits, Sent, sent_all, at_last_halves, AllFrames}
use Rattle.dcc_wire.specs.Inner.OutcomesAt.{outcomes_at}
use Rattle.dcc_wire.proofs.SendingLemmas.{seen-sent_all}
use Rattle.dcc_wire.proofs.OutcomesAt.{seen_at}

pub seen-classes : (durations others : List ℕ) → map class_of durations ≡ map class_of others
    → seen durations ≡ seen others
seen-classes durations others e =
    seen_at durations ∙ ap (λ halves. outcomes_at halves (starts halves)) e ∙ sym (seen_at others)

-- an error of up to `error` microseconds does not change the class of this half-bit
abbrev IsFirm : ℕ → ℕ → Type 0
IsFirm error us = (measured : ℕ) → IsWithin error us measured → class_of measured ≡ class_of us

record Firm (error : ℕ) (timing : Timing) : Type 0 where
  one : IsFirm error timing.one
  first : IsFirm error timing.zero_first
  second : IsFirm error timing.zero_second

AllFirm : ℕ → List Sent → Type 0
AllFirm error [] = Unit {0}
AllFirm error (packet ∷ packets) = Firm error packet.timing × AllFirm error packets

firm_one : (us : ℕ) → 55 ≤ us → us ≤ 61 → IsFirm 3 us
firm_one us least most measured within = grind (arith, nat_tests)

firm_zero : (us : ℕ) → 95 ≤ us → us ≤ 9900 → IsFirm 3 us
firm_zero us least most measured within = grind (arith, nat_tests)

record Limits (timing : Timing) : Type 0 where
  one : (55 ≤ timing.one) × (timing.one ≤ 61)
  first : (95 ≤ timing.zero_first) × (timing.zero_first ≤ 9900)
  second : (95 ≤ timing.zero_second) × (timing.zero_second ≤ 9900)

limits : (timing : Timing) → Limits timing
limits timing = grind (arith, nat_tests, timing.sendable)

firm : (timing : Timing) → Firm 3 timing
firm timing =
    let l = limits timing in record {
      one = firm_one timing.one l.one.0 l.one.1;
      first = firm_zero timing.zero_first l.first.0 l.first.1;
      second = firm_zero timing.zero_second l.second.0 l.second.1;
    }

all_firm : (packets : List Sent) → AllFirm 3 packets
unfolding AllFirm
all_firm [] = tt
all_firm (packet ∷ packets) = (firm packet.timing, all_firm packets)

nominal_one : (us : ℕ) → us ≡ 58 → IsFirm 6 us
nominal_one us is measured within = grind (arith, nat_tests)

nominal_zero : (us : ℕ) → us ≡ 100 → IsFirm 6 us
nominal_zero us is measured within = grind (arith, nat_tests)

nominal_firm : (packets : List Sent) → AllNominal packets → AllFirm 6 packets
unfolding AllNominal AllFirm
nominal_firm [] all = tt
nominal_firm (packet ∷ packets) all = (
  record {
    one = nominal_one packet.timing.one all.0.0;
    first = nominal_zero packet.timing.zero_first all.0.1;
    second = nominal_zero packet.timing.zero_second all.0.2;
  },
  nominal_firm packets all.1,
)

-- the half-bits of bits, with errors, before further half-bits with errors
same_bits : (error : ℕ) (timing : Timing) → Firm error timing → (bits : List Bool) (more measured : List ℕ)
    → ((m : List ℕ) → AreWithin error more m → map class_of m ≡ map class_of more)
    → AreWithin error (durations_of timing bits ++ more) measured
    → map class_of measured ≡ map class_of (durations_of timing bits ++ more)
unfolding durations_of
same_bits error timing f [] more measured next within = next measured within
same_bits error timing f (true ∷ bits) more [] next within = absurd within
same_bits error timing f (true ∷ bits) more (a ∷ []) next within = absurd within.1
same_bits error timing f (true ∷ bits) more (a ∷ b ∷ measured) next within =
    rw (f.one a within.0, f.one b within.1.0, same_bits error timing f bits more measured next within.1.1)
same_bits error timing f (false ∷ bits) more [] next within = absurd within
same_bits error timing f (false ∷ bits) more (a ∷ []) next within = absurd within.1
same_bits error timing f (false ∷ bits) more (a ∷ b ∷ measured) next within =
    rw (f.first a within.0, f.second b within.1.0, same_bits error timing f bits more measured next within.1.1)

same_classes_of : (error : ℕ) (packets : List Sent) (measured : List ℕ) → AllFirm error packets
    → AreWithin error (sent_all packets) measured → map class_of measured ≡ map class_of (sent_all packets)
unfolding sent_all sent AllFirm
same_classes_of error [] [] all within = refl
same_classes_of error [] (a ∷ measured) all within = absurd within
same_classes_of error (packet ∷ packets) measured all within =
    same_bits error packet.timing all.0 (sent_bits packet.bytes packet.timing.preamble) (sent_all packets) measured
    (λ m. same_classes_of error packets m all.1) within

pub same_classes : (packets : List Sent) (measured : List ℕ) → AreWithin 3 (sent_all packets) measured
    → map class_of measured ≡ map class_of (sent_all packets)
same_classes packets measured within = same_classes_of 3 packets measured (all_firm packets) within

-- half-bits of the same classes, before and after which other half-bits come
same_anywhere : (durations before measured after : List ℕ) → map class_of measured ≡ map class_of durations
    → seen (before ++ measured ++ after) ≡ seen (before ++ durations ++ after)
same_anywhere durations before measured after e =
    seen-classes (before ++ measured ++ after) (before ++ durations ++ after) (simp (map-append, e))

pub measured-anywhere : (packets : List Sent) (before measured after : List ℕ) → AreWithin 3 (sent_all packets) measured
    → seen (before ++ measured ++ after) ≡ seen (before ++ sent_all packets ++ after)
measured-anywhere packets before measured after within =
    same_anywhere (sent_all packets) before measured after (same_classes packets measured within)

pub measured-seen : (packets : List Sent) (measured : List ℕ) → AllFrames packets
    → AreWithin 3 (sent_all packets) measured → seen measured ≡ at_last_halves 0 packets
measured-seen packets measured frames within =
    seen-classes measured (sent_all packets) (same_classes packets measured within) ∙ seen-sent_all packets frames

pub nominal-seen : (packets : List Sent) (measured : List ℕ) → AllFrames packets → AllNominal packets
    → AreWithin 6 (sent_all packets) measured → seen measured ≡ at_last_halves 0 packets
nominal-seen packets measured frames all within =
    seen-classes measured (sent_all packets) (same_classes_of 6 packets measured (nominal_firm packets all) within)
    ∙ seen-sent_all packets frames

-- half-bits that differ from bit to bit

varied_half : (half : Half) (us measured : ℕ) → CanLast half us → IsWithin 3 us measured → class_of measured ≡ half
varied_half One us measured lasts within = grind (arith, nat_tests)
varied_half Zero us measured lasts within = grind (arith, nat_tests)
varied_half Bad us measured lasts within = absurd lasts

varied_classes : (halves : List Half) (durations measured : List ℕ) → AllZip CanLast halves durations
    → AreWithin 3 durations measured → map class_of measured ≡ halves
varied_classes [] [] [] all within = refl
varied_classes [] [] (m ∷ measured) all within = absurd within
varied_classes [] (us ∷ durations) measured all within = absurd all
varied_classes (half ∷ halves) [] measured all within = absurd all
varied_classes (half ∷ halves) (us ∷ durations) [] all within = absurd within
varied_classes (half ∷ halves) (us ∷ durations) (m ∷ measured) all within =
    rw (varied_half half us m all.0 within.0, varied_classes halves durations measured all.1 within.1)

pub varied-anywhere : (packets : List Sent) (before durations measured after : List ℕ)
    → CanBeSentAs packets durations → AreWithin 3 durations measured
    → seen (before ++ measured ++ after) ≡ seen (before ++ sent_all packets ++ after)
varied-anywhere packets before durations measured after can within =
    same_anywhere (sent_all packets) before measured after
    (varied_classes (map class_of (sent_all packets)) durations measured can within)

pub varied-seen : (packets : List Sent) (durations measured : List ℕ) → AllFrames packets
    → CanBeSentAs packets durations → AreWithin 3 durations measured → seen measured ≡ at_last_halves 0 packets
varied-seen packets durations measured frames can within =
    seen-classes measured (sent_all packets)
    (varied_classes (map class_of (sent_all packets)) durations measured can within) ∙ seen-sent_all packets frames
