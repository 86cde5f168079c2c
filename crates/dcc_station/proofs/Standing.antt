-- After a stop, no packet sets a speed to a step.
use Rattle.std.proofs.Common.{◌≡◌, refl, Bool, true, false, cond, List, [], ◌∷◌, ◌++◌, Option, Some, None}
use Rattle.std.proofs.Common.{inl, inr, ℕ, zero, suc, ◌+◌, ◌-◌, ◌<◌, arith, length}
use Rattle.std.specs.Prelude.{not, filter, nat_le, is_some, ◌&&◌}
use Rattle.std.specs.List.{AllByRecursion, list_any}
use Rattle.std.proofs.lemmas.Bool.Decides.{nat_tests}
use Rattle.dcc_packet.specs.declared.address.Address.{Address}
use Rattle.dcc_packet.specs.declared.address.Address.TheVariants.{Broadcast, Short, Long}
use Rattle.dcc_packet.specs.declared.instruction.What.TheVariants.{Speed28, Speed128}
use Rattle.dcc_packet.specs.declared.packet.Packet.{Packet}
use Rattle.dcc_packet.specs.declared.packet.Packet.TheVariants.{Loco, Idle}
use Rattle.dcc_packet.specs.declared.speed.SpeedBits28.{SpeedBits28}
use Rattle.dcc_packet.specs.declared.speed.SpeedBits128.{SpeedBits128}
use Rattle.dcc_regs.specs.declared.register.Who.TheVariants.{Loco as LocoWho}
use Rattle.dcc_regs.specs.declared.register.SpeedMode.TheVariants.{Steps28}
use Rattle.dcc_regs.specs.declared.register.Register.TheVariants.{Speed as SpeedRegister}
use Rattle.dcc_regs.specs.Heard.{hears, heard}
use Rattle.dcc_regs.specs.Result.{RegisterMap, result}
use Rattle.dcc_regs.specs.Safety.{can_move, is_standing}
use Rattle.dcc_regs.proofs.SafetyLemmas.{last_stop_stops}
use Rattle.dcc_regs.proofs.ConflictLemmas.{conflict_from}
use Rattle.dcc_regs.proofs.HearsByBytes.{hears_at}
use Rattle.dcc_station.specs.Commands.{is_refreshed}
use Rattle.dcc_station.specs.Inner.Kept.{kept_in}
use Rattle.dcc_station.specs.Sending.{Sending, Displaces, Leaves, Refreshes, EntriesAfter, HandsOut, copies}
use Rattle.dcc_station.specs.Sending.{with_command, with_entry, with_stop, forgotten, has_address, stopped}
use Rattle.dcc_station.specs.Sending.{stop_packet, not_withdrawn}
use Rattle.dcc_station.specs.Stops.{RunsWithout, stays, accepts_one, returns_one, forgets_one, stops_one}
use Rattle.dcc_station.specs.Stops.{NoStepAfterStops, LocosStandAfterStops, LocoStandsUntilItsOwnStep, moves_loco}
use Rattle.dcc_station.specs.Stops.{NoWithdrawnCommandIsSent}
use Rattle.dcc_station.specs.Stops.{StandingGoesOnByPackets, StandingGoesOnByCommands}
use Rattle.dcc_station.specs.Stops.{StandingGoesOnByForgetting, StandingGoesOnByStops}
use Rattle.dcc_station.proofs.EntriesForgotten.{all_left}
use Rattle.dcc_station.proofs.LeftToldRight.{ended_or_left}
use Rattle.dcc_station.proofs.Transparent.{all_append, all_dropped}

-- what the stop tells of entries that set a speed to a step: none stays
ended28 : (own : Address) (f : Bool) (bits : SpeedBits28) → is_refreshed (Loco own (Speed28 f bits)) ≡ true
    → can_move (Loco own (Speed28 f bits)) ≡ true → kept_in stop_packet own (Speed28 f bits) ≡ Some false
unfolding is_refreshed
ended28 own f bits h moves = grind (arith, nat_tests, h, moves)

ended128 : (own : Address) (f : Bool) (bits : SpeedBits128) → is_refreshed (Loco own (Speed128 f bits)) ≡ true
    → can_move (Loco own (Speed128 f bits)) ≡ true → kept_in stop_packet own (Speed128 f bits) ≡ Some false
unfolding is_refreshed
ended128 own f bits h moves = grind (arith, nat_tests, h, moves)

-- a speed with 128 steps of all locomotives conflicts with the stop
apart_for_all : (f : Bool) (bits : SpeedBits128) → can_move (Loco Broadcast (Speed128 f bits)) ≡ true
    → Displaces stop_packet (Loco Broadcast (Speed128 f bits))
apart_for_all f bits moves = inr (inl (conflict_from stop_packet (Loco Broadcast (Speed128 f bits))
    (record {
      who = LocoWho None;
      first = hears_at None stop_packet;
      second = hears_at None (Loco Broadcast (Speed128 f bits));
    })
    (Steps28, record { register = SpeedRegister; differ = λ same. grind (arith, nat_tests, moves, same) })))

-- the first copy of the stop displaces each packet that sets a speed to a step
moving_is_displaced : (e : Packet) → can_move e ≡ true → Displaces stop_packet e
unfolding is_refreshed
moving_is_displaced (Loco Broadcast (Speed28 f bits)) moves = absurd (grind (arith, nat_tests, moves))
moving_is_displaced (Loco Broadcast (Speed128 f bits)) moves = apart_for_all f bits moves
moving_is_displaced (Loco (Short a) (Speed28 f bits)) moves =
    (ended_or_left stop_packet (Short a) (Speed28 f bits) false (ended28 (Short a) f bits refl moves)).0 refl
moving_is_displaced (Loco (Short a) (Speed128 f bits)) moves =
    (ended_or_left stop_packet (Short a) (Speed128 f bits) false (ended128 (Short a) f bits refl moves)).0 refl
moving_is_displaced (Loco (Long a) (Speed28 f bits)) moves =
    (ended_or_left stop_packet (Long a) (Speed28 f bits) false (ended28 (Long a) f bits refl moves)).0 refl
moving_is_displaced (Loco (Long a) (Speed128 f bits)) moves =
    (ended_or_left stop_packet (Long a) (Speed128 f bits) false (ended128 (Long a) f bits refl moves)).0 refl
moving_is_displaced e moves = absurd (grind (arith, moves))

-- packets for which `moves` is false, for example those that set no speed to a step
module _ (moves : Packet → Bool) (fewer : (p : Packet) → can_move p ≡ false → moves p ≡ false) where
  abbrev pub Still : Packet → Type 0
  Still p = moves p ≡ false

  -- the entries after the first copy of the stop
  left_by_stop : (l kept : List Packet) → Leaves stop_packet l kept → AllByRecursion Still kept
  left_by_stop [] kept e = rw e tt
  left_by_stop (e ∷ l) kept (inl gone) = left_by_stop l kept gone.1
  left_by_stop (e ∷ l) kept (inr (apart, (rest, is, left))) =
      rw is (by_case (can_move e) refl, left_by_stop l rest left)
    where
      by_case : (steps : Bool) → can_move e ≡ steps → moves e ≡ false
      by_case true steps = absurd (apart (moving_is_displaced e steps))
      by_case false still = fewer e still

  -- the entries after the first copy of another packet
  left_by : (p : Packet) (l kept : List Packet) → AllByRecursion Still l → Leaves p l kept → AllByRecursion Still kept
  left_by p [] kept all e = rw e tt
  left_by p (e ∷ l) kept all (inl gone) = left_by p l kept all.1 gone.1
  left_by p (e ∷ l) kept all (inr (apart, (rest, is, left))) = rw is (all.0, left_by p l rest all.1 left)

  refreshed : (slots : ℕ) (p : Packet) (l new : List Packet) → Still p
      → ((kept : List Packet) → Leaves p l kept → AllByRecursion Still kept) → Refreshes slots p l new
      → AllByRecursion Still new
  refreshed slots p l new still leaves (kept, left, is) = rw is (by_case (is_refreshed p))
    where
      by_case : (t : Bool) → AllByRecursion Still (cond t (with_entry slots kept p) kept)
      by_case true = all_dropped Still (length (kept ++ p ∷ []) - slots) (kept ++ p ∷ [])
          (all_append Still kept (p ∷ []) (leaves kept left) (still, tt))
      by_case false = leaves kept left

  -- no entry sets a speed to a step, or the first copy of the stop is still to be sent
  abbrev pub StillEntries : Bool → ℕ → List Packet → Type 0
  StillEntries true zero entries = Unit {0}
  StillEntries stopping sent entries = AllByRecursion Still entries

  any_still : (stopping : Bool) (sent : ℕ) (entries : List Packet) → AllByRecursion Still entries
      → StillEntries stopping sent entries
  any_still true zero entries all = tt
  any_still true (suc sent) entries all = all
  any_still false sent entries all = all

  still_forgotten : (stopping : Bool) (sent : ℕ) (entries : List Packet) (to : Address)
      → StillEntries stopping sent entries → StillEntries stopping sent (filter (λ e. not (has_address to e)) entries)
  still_forgotten true zero entries to all = tt
  still_forgotten true (suc sent) entries to all = all_left (λ e. not (has_address to e)) Still entries all
  still_forgotten false sent entries to all = all_left (λ e. not (has_address to e)) Still entries all

  -- neither a command nor an entry sets a speed to a step
  pub record Calm (s : Sending) : Type 0 where
    pub waiting : AllByRecursion Still s.waiting
    pub entries : StillEntries s.stopping s.sent s.entries

  -- after one more copy of the stop or a command
  once_more : (stopping : Bool) (waiting rest after : List Packet) (sent : ℕ) (s : Sending) (t : Bool)
      → AllByRecursion Still waiting → AllByRecursion Still rest → AllByRecursion Still after
      → Calm (cond t (record s { waiting = rest; stopping = false; sent = 0; entries = after })
      (record s { waiting = waiting; stopping = stopping; sent = sent + 1; entries = after }))
  once_more stopping waiting rest after sent s true waits others all = record { waiting = others; entries = all }
  once_more stopping waiting rest after sent s false waits others all =
      record { waiting = waits; entries = any_still stopping (sent + 1) after all }

  after_stop : (sent slots : ℕ) (l after : List Packet) → StillEntries true sent l
      → EntriesAfter sent slots stop_packet l after → AllByRecursion Still after
  after_stop zero slots l after all changed =
      refreshed slots stop_packet l after (fewer stop_packet refl) (left_by_stop l) changed
  after_stop (suc sent) slots l after all same = rw same all

  after_command : (sent slots : ℕ) (p : Packet) (l after : List Packet) → Still p → AllByRecursion Still l
      → EntriesAfter sent slots p l after → AllByRecursion Still after
  after_command zero slots p l after still all changed =
      refreshed slots p l after still (λ kept. left_by p l kept all) changed
  after_command (suc sent) slots p l after still all same = rw same all

  -- one more packet
  next_is_still : (stopping : Bool) (waiting entries : List Packet) (sent : ℕ) (s new : Sending) (out : Packet)
      → AllByRecursion Still waiting → StillEntries stopping sent entries
      → HandsOut (with_stop stopping waiting) entries
      (record s { waiting = waiting; stopping = stopping; sent = sent; entries = entries }) out new
      → Still out × Calm new
  next_is_still true waiting entries sent s new out waits all (is, (after, changed, as_said)) =
      rw (is, as_said) (
        fewer stop_packet refl,
        once_more true waiting waiting after sent s (nat_le (copies s.repeats stop_packet) (sent + 1))
            waits waits (after_stop sent s.slots entries after all changed),
      )
  next_is_still false (p ∷ rest) entries sent s new out waits all (is, (after, changed, as_said)) =
      rw (is, as_said) (
        waits.0,
        once_more false (p ∷ rest) rest after sent s (nat_le (copies s.repeats p) (sent + 1))
            waits waits.1 (after_command sent s.slots p entries after waits.0 all changed),
      )
  next_is_still false [] (e ∷ later) sent s new out waits all (is, as_said) =
      rw (is, as_said) (all.0, record { waiting = tt; entries = all_append Still later (e ∷ []) all.1 (all.0, tt) })
  next_is_still false [] [] sent s new out waits all (is, as_said) =
      rw (is, as_said) (fewer Idle refl, record { waiting = tt; entries = tt })

  stays_still : (l : List Packet) → AllByRecursion Still (not_withdrawn l)
  stays_still [] = tt
  stays_still (p ∷ l) = by_case (can_move p) refl (stays_still l)
    where
      by_case : (steps : Bool) → can_move p ≡ steps → AllByRecursion Still (not_withdrawn l)
          → AllByRecursion Still (cond (not steps) (p ∷ not_withdrawn l) (not_withdrawn l))
      by_case true steps rest = rest
      by_case false still rest = (fewer p still, rest)

  pub stopped_is_calm : (s : Sending) → Calm (stopped s)
  stopped_is_calm s = record { waiting = stays_still s.waiting; entries = tt }

  pub run_is_still : (s new : Sending) (packets : List Packet) → RunsWithout moves s packets new → Calm s
      → AllByRecursion Still packets
  run_is_still _ _ _ (stays s) calm = tt
  run_is_still _ _ _ (accepts_one s new packets p still run) calm =
      run_is_still (with_command s p) new packets run
      (record { waiting = all_append Still s.waiting (p ∷ []) calm.waiting (still, tt); entries = calm.entries })
  run_is_still _ _ _ (returns_one s between new p packets next run) calm =
      let both = next_is_still s.stopping s.waiting s.entries s.sent s between p calm.waiting calm.entries next in
      (both.0, run_is_still between new packets run both.1)
  run_is_still _ _ _ (forgets_one s new packets to run) calm =
      run_is_still (forgotten s to) new packets run
      (record { waiting = calm.waiting; entries = still_forgotten s.stopping s.sent s.entries to calm.entries })
  run_is_still _ _ _ (stops_one s new packets run) calm =
      run_is_still (stopped s) new packets run (stopped_is_calm s)

  abbrev pub BeginsWithStop : List Packet → Type 0
  BeginsWithStop [] = Unit {0}
  BeginsWithStop (p ∷ later) = p ≡ stop_packet

  -- while a stop waits, the next packet is the stop
  first_of_stopping : (stopping : Bool) (waiting entries : List Packet) (s new : Sending) (out : Packet)
      → stopping ≡ true → HandsOut (with_stop stopping waiting) entries s out new → out ≡ stop_packet
  first_of_stopping true waiting entries s new out is next = next.0
  first_of_stopping false waiting entries s new out is next = absurd (cc)

  pub begins_with_stop : (s new : Sending) (packets : List Packet) → RunsWithout moves s packets new → s.stopping ≡ true
      → BeginsWithStop packets
  begins_with_stop _ _ _ (stays s) is = tt
  begins_with_stop _ _ _ (accepts_one s new packets p still run) is =
      begins_with_stop (with_command s p) new packets run is
  begins_with_stop _ _ _ (returns_one s between new p packets next run) is =
      first_of_stopping s.stopping s.waiting s.entries s between p is next
  begins_with_stop _ _ _ (forgets_one s new packets to run) is = begins_with_stop (forgotten s to) new packets run is
  begins_with_stop _ _ _ (stops_one s new packets run) is = begins_with_stop (stopped s) new packets run refl

none_moves : (moves : Packet → Bool) (l : List Packet) → AllByRecursion (λ p. moves p ≡ false) l
    → list_any moves l ≡ false
none_moves moves [] all = refl
none_moves moves (p ∷ l) all = rw (all.0, none_moves moves l all.1) refl

pub no_step : NoStepAfterStops
no_step s new first packets run =
    let same = λ (p : Packet) (still : can_move p ≡ false). still in
    let all = run_is_still can_move same (stopped s) new (first ∷ packets) run (stopped_is_calm can_move same s) in
    let begins = begins_with_stop can_move same (stopped s) new (first ∷ packets) run refl in
    (begins, none_moves can_move (first ∷ packets) all)

pub no_withdrawn : NoWithdrawnCommandIsSent
no_withdrawn moves s new packets fewer run =
    none_moves moves packets (run_is_still moves fewer (stopped s) new packets run (stopped_is_calm moves fewer s))

pub stop_is_heard : (active : Option Address) → hears (LocoWho active) stop_packet ≡ true
stop_is_heard active = hears_at active stop_packet

and_false : (b : Bool) → (b && false) ≡ false
and_false true = refl
and_false false = refl

still_for : (active : Option Address) (p : Packet) → can_move p ≡ false → moves_loco active p ≡ false
still_for active p still = rw still (and_false (hears (LocoWho active) p))

none_heard_moves : (moves : Packet → Bool) (active : Option Address)
    → ((p : Packet) → moves p ≡ false → moves_loco active p ≡ false) → (l : List Packet)
    → AllByRecursion (λ p. moves p ≡ false) l → list_any can_move (heard (LocoWho active) l) ≡ false
none_heard_moves moves active own [] all = refl
none_heard_moves moves active own (p ∷ l) all =
    by_case (hears (LocoWho active) p) (own p all.0) (none_heard_moves moves active own l all.1)
  where
    by_case : (h : Bool) → (h && can_move p) ≡ false → list_any can_move (heard (LocoWho active) l) ≡ false
        → list_any can_move (cond h (p ∷ heard (LocoWho active) l) (heard (LocoWho active) l)) ≡ false
    by_case true still rest = rw (still, rest) refl
    by_case false still rest = rest

-- a locomotive stands while no packet that it hears sets a speed to a step
stands : (moves : Packet → Bool) → ((p : Packet) → can_move p ≡ false → moves p ≡ false)
    → (s new : Sending) (before packets : List Packet) (active : Option Address) (start : RegisterMap)
    → ((p : Packet) → moves p ≡ false → moves_loco active p ≡ false)
    → RunsWithout moves (stopped s) packets new → 0 < length packets → is_some (start SpeedRegister) ≡ true
    → is_standing (result (LocoWho active) start (before ++ packets) SpeedRegister) ≡ true
stands moves fewer s new before [] active start own run some there = absurd (omega (arith, some))
stands moves fewer s new before (first ∷ packets) active start own run some there =
    let all = run_is_still moves fewer (stopped s) new (first ∷ packets) run (stopped_is_calm moves fewer s) in
    let is = begins_with_stop moves fewer (stopped s) new (first ∷ packets) run refl in
    rw is (last_stop_stops (LocoWho active) start before stop_packet packets there (stop_is_heard active) refl
    (none_heard_moves moves active own packets all.1))

pub locos_stand : LocosStandAfterStops
locos_stand s new before packets active start run some there =
    stands can_move (λ p still. still) s new before packets active start (still_for active) run some there

pub loco_stands_until_its_own_step : LocoStandsUntilItsOwnStep
loco_stands_until_its_own_step s new before packets active start run some there =
    stands (moves_loco active) (still_for active) s new before packets active start (λ p still. still) run some there

pub one_packet : StandingGoesOnByPackets
one_packet moves _ _ new _ p (stays s) next = returns_one s new new p [] next (stays new)
one_packet moves _ _ new _ p (accepts_one s between packets q still run) next =
    accepts_one s new (packets ++ p ∷ []) q still (one_packet moves (with_command s q) between new packets p run next)
one_packet moves _ _ new _ p (returns_one s first between q packets returned run) next =
    returns_one s first new q (packets ++ p ∷ []) returned (one_packet moves first between new packets p run next)
one_packet moves _ _ new _ p (forgets_one s between packets to run) next =
    forgets_one s new (packets ++ p ∷ []) to (one_packet moves (forgotten s to) between new packets p run next)
one_packet moves _ _ new _ p (stops_one s between packets run) next =
    stops_one s new (packets ++ p ∷ []) (one_packet moves (stopped s) between new packets p run next)

pub one_command : StandingGoesOnByCommands
one_command moves _ _ _ p (stays s) calm = accepts_one s (with_command s p) [] p calm (stays (with_command s p))
one_command moves _ _ _ p (accepts_one s between packets q still run) calm =
    accepts_one s (with_command between p) packets q still
    (one_command moves (with_command s q) between packets p run calm)
one_command moves _ _ _ p (returns_one s first between q packets returned run) calm =
    returns_one s first (with_command between p) q packets returned (one_command moves first between packets p run calm)
one_command moves _ _ _ p (forgets_one s between packets to run) calm =
    forgets_one s (with_command between p) packets to (one_command moves (forgotten s to) between packets p run calm)
one_command moves _ _ _ p (stops_one s between packets run) calm =
    stops_one s (with_command between p) packets (one_command moves (stopped s) between packets p run calm)

pub one_forgetting : StandingGoesOnByForgetting
one_forgetting moves _ _ _ to (stays s) = forgets_one s (forgotten s to) [] to (stays (forgotten s to))
one_forgetting moves _ _ _ to (accepts_one s between packets q still run) =
    accepts_one s (forgotten between to) packets q still
    (one_forgetting moves (with_command s q) between packets to run)
one_forgetting moves _ _ _ to (returns_one s first between q packets returned run) =
    returns_one s first (forgotten between to) q packets returned (one_forgetting moves first between packets to run)
one_forgetting moves _ _ _ to (forgets_one s between packets own run) =
    forgets_one s (forgotten between to) packets own (one_forgetting moves (forgotten s own) between packets to run)
one_forgetting moves _ _ _ to (stops_one s between packets run) =
    stops_one s (forgotten between to) packets (one_forgetting moves (stopped s) between packets to run)

pub one_stop : StandingGoesOnByStops
one_stop moves _ _ _ (stays s) = stops_one s (stopped s) [] (stays (stopped s))
one_stop moves _ _ _ (accepts_one s between packets q still run) =
    accepts_one s (stopped between) packets q still (one_stop moves (with_command s q) between packets run)
one_stop moves _ _ _ (returns_one s first between q packets returned run) =
    returns_one s first (stopped between) q packets returned (one_stop moves first between packets run)
one_stop moves _ _ _ (forgets_one s between packets own run) =
    forgets_one s (stopped between) packets own (one_stop moves (forgotten s own) between packets run)
one_stop moves _ _ _ (stops_one s between packets run) =
    stops_one s (stopped between) packets (one_stop moves (stopped s) between packets run)
