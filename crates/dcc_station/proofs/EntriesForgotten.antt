-- The entries that do not have an address.
use Rattle.std.proofs.Common.{◌≡◌, ◌∙◌, refl, ap, Bool, true, false, cond, List, [], ◌∷◌, ◌++◌, append_assoc}
use Rattle.std.proofs.Common.{add-one, Option, None, ℕ, suc, ◌+◌, ◌<◌, arith, length, take, drop, get_or, drop-cons}
use Rattle.std.proofs.lemmas.List.{take_more}
use Rattle.std.proofs.lemmas.List.Filters.{length-filter_both}
use Rattle.std.proofs.Math.Seq.{take-length, drop-length}
use Rattle.std.proofs.lemmas.List.Elements.{filter-append}
use Rattle.std.specs.Prelude.{◌≢◌, Some, filter, not}
use Rattle.std.specs.List.{AllByRecursion}
use Rattle.std.specs.Option.{option_map_or}
use Rattle.dcc_packet.specs.Address.{same_address}
use Rattle.dcc_packet.specs.declared.address.Address.{Address}
use Rattle.dcc_packet.specs.declared.address.Address.TheVariants.{Broadcast, Short, Long}
use Rattle.dcc_packet.specs.declared.packet.Packet.{Packet}
use Rattle.dcc_packet.specs.declared.packet.Packet.TheVariants.{Idle}
use Rattle.dcc_regs.specs.Heard.{address_of}
use Rattle.dcc_station.specs.Commands.{is_refreshed}
use Rattle.dcc_station.specs.Sending.{has_address, without_address}

-- the packets after the first `at` of the packets `old` were passed: those that a test keeps go to
-- the end
abbrev pub passed : (Packet → Bool) → ℕ → List Packet → List Packet
passed keeps at old = drop at old ++ filter keeps (take at old)

-- one more packet is passed
pub passed_more : (keeps : Packet → Bool) (at : ℕ) (old now : List Packet) → at < length old
    → now ≡ passed keeps at old → drop 1 now ++ filter keeps (take 1 now) ≡ passed keeps (at + 1) old
passed_more keeps at old now inside is =
    let e = get_or old at Idle in
    let next = drop-cons old at Idle inside in
    let kept = filter keeps (take at old) in
    let here : now ≡ e ∷ drop (suc at) old ++ kept = is ∙ ap (λ l. l ++ kept) next in
    let one : filter keeps (take (at + 1) old) ≡ kept ++ filter keeps (e ∷ []) =
    ap (filter keeps) (take_more old at Idle inside) ∙ filter-append keeps (take at old) (e ∷ []) in
    rw (here, one, add-one at) (append_assoc (drop (suc at) old) kept (filter keeps (e ∷ [])))

-- all packets are passed
pub passed_all : (keeps : Packet → Bool) (at : ℕ) (old : List Packet) → at ≡ length old
    → passed keeps at old ≡ filter keeps old
passed_all keeps at old past = rw (past, drop-length old, take-length old) refl

-- a property of all packets holds for those that stay
pub all_left : (keeps : Packet → Bool) (P : Packet → Type 0) (l : List Packet) → AllByRecursion P l
    → AllByRecursion P (filter keeps l)
all_left keeps P [] all = tt
all_left keeps P (e ∷ l) all = by_case (keeps e) (all_left keeps P l all.1)
  where
    by_case : (stays : Bool) → AllByRecursion P (filter keeps l)
        → AllByRecursion P (cond stays (e ∷ filter keeps l) (filter keeps l))
    by_case true rest = (all.0, rest)
    by_case false rest = rest

-- the packets that go and those that stay are all packets
pub both_parts : (goes : Packet → Bool) (l : List Packet)
    → length (filter (λ e. not (goes e)) l) + length (filter goes l) ≡ length l
both_parts goes l =
    let both = length-filter_both goes (λ e. not (goes e)) (λ e. refl) l in omega (arith, both)

same_itself : (a : Address) → same_address a a ≡ true
same_itself Broadcast = refl
same_itself (Short a) = grind arith
same_itself (Long a) = grind arith

-- an entry has the address of a packet exactly if the address is said to be equal
address_said : (to : Address) (own : Option Address) → option_map_or (λ a. same_address a to) own false ≡ false
    → own ≢ Some to
address_said to None none is = absurd (cc)
address_said to (Some own) other is =
    let self = same_itself to in
    let same : own ≡ to = cc in
    absurd (grind (arith, (rw same at other), self))

-- no entry that stays has the address
pub none_has : (to : Address) (l : List Packet)
    → AllByRecursion (λ (entry : Packet). address_of entry ≢ Some to) (without_address to l)
none_has to [] = tt
none_has to (e ∷ l) = by_case (has_address to e) refl (none_has to l)
  where
    by_case : (has : Bool) → has_address to e ≡ has
        → AllByRecursion (λ (entry : Packet). address_of entry ≢ Some to) (without_address to l)
        → AllByRecursion (λ (entry : Packet). address_of entry ≢ Some to)
        (cond (not has) (e ∷ without_address to l) (without_address to l))
    by_case true is rest = rest
    by_case false is rest = (address_said to (address_of e) is, rest)

-- the number of entries that go
pub fewer : (to : Address) (l : List Packet)
    → length (without_address to l) + length (filter (has_address to) l) ≡ length l
fewer to l = both_parts (has_address to) l

-- a packet that is refreshed is no broadcast
refreshed_is_to_one : (e : Packet) → is_refreshed e ≡ true → has_address Broadcast e ≡ false
unfolding is_refreshed
refreshed_is_to_one e refreshed = grind (arith, refreshed)

pub none_to_all : (l : List Packet) → AllByRecursion (λ e. is_refreshed e ≡ true) l
    → without_address Broadcast l ≡ l
none_to_all [] all = refl
none_to_all (e ∷ l) all =
    rw (refreshed_is_to_one e all.0) (ap (λ rest. e ∷ rest) (none_to_all l all.1))
