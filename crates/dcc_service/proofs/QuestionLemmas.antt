-- What a decoder answers to the frames of a question.
use Rattle.std.proofs.Common.{◌≡◌, ℕ, ◌-◌, ◌<◌, ◌≤◌, Bool, true, false, Option, Some, None, List, [], ◌∷◌, ◌++◌}
use Rattle.std.proofs.Common.{length, get_or, set, cond, refl, sym, ap, ◌∙◌, subst, arith}
use Rattle.std.specs.Prelude.{◌||◌}
use Rattle.std.specs.List.{list_any}
use Rattle.std.proofs.lemmas.List.{get_or-set_same, set-get_or}
use Rattle.dcc_service.specs.declared.packet.ServicePacket.{ServicePacket}
use Rattle.dcc_service.specs.declared.packet.ServicePacket.TheVariants.{Write, Verify, BitWrite, BitVerify}
use Rattle.dcc_packet.specs.Cvs.{is_writable}
use Rattle.dcc_service.specs.Machine.{ServiceState, Step, reset_bytes, acted_on, is_acknowledged}
use Rattle.dcc_service.specs.Question.{question_bytes, Steps, after_question, four_no_then}
use Rattle.dcc_service.specs.Table.{service_spelling}
use Rattle.dcc_packet.specs.Bits.{with_bit}
use Rattle.dcc_packet.proofs.BitLemmas.{with_bit-again}

-- in service, with this packet pending or none
abbrev waiting : Option ServicePacket → List ℕ → ServiceState
waiting pending cvs = record { in_service = true; pending = pending; cvs = cvs }

after_reset : (before after : ServiceState) (answer : Bool) → Step before reset_bytes after answer
    → (after ≡ waiting None before.cvs) × (answer ≡ false)
after_reset before after answer step = step.reset refl

after_first : (packet : ServicePacket) (cvs : List ℕ) (after : ServiceState) (answer : Bool)
    → Step (waiting None cvs) (service_spelling packet) after answer → (after ≡ waiting (Some packet) cvs)
    × (answer ≡ false)
after_first packet cvs after answer step = step.first packet refl refl (λ e. cc)

after_again : (packet : ServicePacket) (cvs : List ℕ) (after : ServiceState) (answer : Bool)
    → Step (waiting (Some packet) cvs) (service_spelling packet) after answer
    → (after ≡ waiting (Some packet) (acted_on packet cvs)) × (answer ≡ is_acknowledged packet cvs)
after_again packet cvs after answer step = step.again packet refl refl refl

-- with a known first step, the rest
known : (before : ServiceState) (frame : List ℕ) (frames : List (List ℕ)) (after : ServiceState) (answers : List Bool)
    (next : ServiceState) (answer : Bool)
    → ((s : ServiceState) (a : Bool) → Step before frame s a → (s ≡ next) × (a ≡ answer))
    → Steps before (frame ∷ frames) after answers
    → (rest : List Bool) × (answers ≡ answer ∷ rest) × Steps next frames after rest
unfolding Steps
known before frame frames after [] next answer is steps = absurd steps
known before frame frames after (a ∷ rest) next answer is (s, step, more) =
    let e = is s a step in
    (rest, ap (λ b. b ∷ rest) e.1, subst (λ (t : ServiceState). Steps t frames after rest) e.0 more)

-- without frames nothing happens
nothing : (before after : ServiceState) (answers : List Bool) → Steps before [] after answers
    → (after ≡ before) × (answers ≡ [])
unfolding Steps
nothing before after [] steps = (steps, refl)
nothing before after (a ∷ rest) steps = absurd steps

pub get_or-written : (cvs : List ℕ) (i value : ℕ) → i < length cvs → set (set cvs i value) i value ≡ set cvs i value
get_or-written cvs i value h =
    let e : get_or (set cvs i value) i 0 ≡ value = get_or-set_same cvs i value 0 h in
    ap (λ v. set (set cvs i value) i v) (sym e) ∙ set-get_or (set cvs i value) i 0

twice : (w : Bool) (cvs : List ℕ) (i value : ℕ) → i < length cvs
    → cond w (set (cond w (set cvs i value) cvs) i value) (cond w (set cvs i value) cvs) ≡ cond w (set cvs i value) cvs
twice true cvs i value h = get_or-written cvs i value h
twice false cvs i value h = refl

same_bit_again : (w : Bool) (cvs : List ℕ) (i k : ℕ) (one : Bool) → i < length cvs → k ≤ 7
    → cond w
    (set (cond w (set cvs i (with_bit (get_or cvs i 0) k one)) cvs) i
    (with_bit (get_or (cond w (set cvs i (with_bit (get_or cvs i 0) k one)) cvs) i 0) k one))
    (cond w (set cvs i (with_bit (get_or cvs i 0) k one)) cvs)
    ≡ cond w (set cvs i (with_bit (get_or cvs i 0) k one)) cvs
same_bit_again false cvs i k one h p = refl
same_bit_again true cvs i k one h p =
    let value : ℕ = with_bit (get_or cvs i 0) k one in
    let e : get_or (set cvs i value) i 0 ≡ value = get_or-set_same cvs i value 0 h in
    let kept : with_bit value k one ≡ value = with_bit-again (get_or cvs i 0) k one in
    ap (λ v. set (set cvs i value) i (with_bit v k one)) e ∙ ap (λ v. set (set cvs i value) i v) kept
    ∙ get_or-written cvs i value h

-- to act on a packet twice is to act on it once
pub acted_on-twice : (packet : ServicePacket) (cvs : List ℕ) → length cvs ≡ 1024
    → acted_on packet (acted_on packet cvs) ≡ acted_on packet cvs
acted_on-twice (Write cv value) cvs count =
    twice (is_writable cv) cvs (cv.number - 1) value (omega (arith, cv.in_range))
acted_on-twice (Verify cv value) cvs count = refl
acted_on-twice (BitWrite cv bits one) cvs count =
    same_bit_again (is_writable cv) cvs (cv.number - 1) bits.place one (omega (arith, cv.in_range)) bits.in_range
acted_on-twice (BitVerify cv bits one) cvs count = refl

-- and it is acknowledged alike
pub acknowledged-again : (packet : ServicePacket) (cvs : List ℕ)
    → is_acknowledged packet (acted_on packet cvs) ≡ is_acknowledged packet cvs
acknowledged-again (Write cv value) cvs = refl
acknowledged-again question cvs = refl

after_settled : (packet : ServicePacket) (cvs : List ℕ) → length cvs ≡ 1024 → (after : ServiceState) (answer : Bool)
    → Step (waiting (Some packet) (acted_on packet cvs)) (service_spelling packet) after answer
    → (after ≡ waiting (Some packet) (acted_on packet cvs)) × (answer ≡ is_acknowledged packet cvs)
after_settled packet cvs count after answer step =
    let e = after_again packet (acted_on packet cvs) after answer step in
    (e.0 ∙ ap (waiting (Some packet)) (acted_on-twice packet cvs count), e.1 ∙ acknowledged-again packet cvs)

-- the answers to the frames of a question, and the state behind them
pub answers_of : (packet : ServicePacket) (before after : ServiceState) (answers : List Bool) → length before.cvs ≡ 1024
    → Steps before (question_bytes packet) after answers
    → (after ≡ after_question before packet) × (answers ≡ four_no_then (is_acknowledged packet before.cvs))
answers_of packet before after answers count steps =
    let cvs : List ℕ = before.cvs in
    let done : List ℕ = acted_on packet cvs in
    let truth : Bool = is_acknowledged packet cvs in
    let a = known before reset_bytes _ after answers (waiting None cvs) false (after_reset before) steps in
    let b = known (waiting None cvs) reset_bytes _ after a.0 (waiting None cvs) false (after_reset (waiting None cvs))
    a.2 in
    let c = known (waiting None cvs) reset_bytes _ after b.0 (waiting None cvs) false (after_reset (waiting None cvs))
    b.2 in
    let d = known (waiting None cvs) (service_spelling packet) _ after c.0 (waiting (Some packet) cvs) false
    (after_first packet cvs) c.2 in
    let e = known (waiting (Some packet) cvs) (service_spelling packet) _ after d.0 (waiting (Some packet) done) truth
    (after_again packet cvs) d.2 in
    let f = known (waiting (Some packet) done) (service_spelling packet) _ after e.0 (waiting (Some packet) done) truth
    (after_settled packet cvs count) e.2 in
    let g = known (waiting (Some packet) done) (service_spelling packet) _ after f.0 (waiting (Some packet) done) truth
    (after_settled packet cvs count) f.2 in
    let h = known (waiting (Some packet) done) (service_spelling packet) _ after g.0 (waiting (Some packet) done) truth
    (after_settled packet cvs count) g.2 in
    let end = nothing (waiting (Some packet) done) after h.0 h.2 in
    let all : answers ≡ false ∷ false ∷ false ∷ false ∷ truth ∷ truth ∷ truth ∷ truth ∷ [] =
    cc (a.1, b.1, c.1, d.1, e.1, f.1, g.1, h.1, end.1) in
    (end.0, all)

-- one frame more
pub Steps-more : (before : ServiceState) (frames : List (List ℕ)) (middle : ServiceState) (answers : List Bool)
    (frame : List ℕ) (after : ServiceState) (answer : Bool)
    → Steps before frames middle answers → Step middle frame after answer
    → Steps before (frames ++ frame ∷ []) after (answers ++ answer ∷ [])
unfolding Steps
Steps-more before [] middle [] frame after answer steps step =
    (after, subst (λ (s : ServiceState). Step s frame after answer) steps step, refl)
Steps-more before [] middle (a ∷ answers) frame after answer steps step = absurd steps
Steps-more before (f ∷ frames) middle [] frame after answer steps step = absurd steps
Steps-more before (f ∷ frames) middle (a ∷ answers) frame after answer (next, first, more) step =
    (next, first, Steps-more next frames middle answers frame after answer more step)

-- one of the eight answers is a yes where the packet is acknowledged
pub any_of_answers : (truth : Bool) → list_any (λ answer. answer) (four_no_then truth) ≡ truth
any_of_answers true = refl
any_of_answers false = refl

-- one more answer
pub any-more : (answers : List Bool) (answer : Bool)
    → list_any (λ a. a) (answers ++ answer ∷ []) ≡ list_any (λ a. a) answers || answer
any-more [] true = refl
any-more (false ∷ answers) answer = any-more answers answer
any-more answers answer = refl
