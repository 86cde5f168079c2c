-- Two blocks, held by numbers: their members and the order of those that conflict.
use Rattle.std.proofs.Common.{ℕ, ◌<◌, ◌≡◌, ◌∙◌, refl, sym, ap, subst, List, [], ◌∷◌, ◌++◌, length, arith}
use Rattle.std.proofs.Common.{Option, inl, inr, Some, cond, get_or, map}
use Rattle.std.specs.Prelude.{Contains, ◌↔◌, filter}
use Rattle.std.specs.List.{dedup}
use Rattle.std.specs.Option.{unwrap_or}
use Rattle.std.specs.Ordering.{nat_cmp}
use Rattle.std.specs.BTreeMap.{is_at}
use Rattle.std.proofs.Math.Bool.{or_comm}
use Rattle.std.proofs.Math.Path.{fun_ext}
use Rattle.std.proofs.lemmas.Bool.{cases_order}
use Rattle.std.proofs.lemmas.List.{map-append, get_or_default}
use Rattle.std.proofs.lemmas.List.Elements.{Contains-get_or}
use Rattle.dcc_wire.specs.Frames.{IsFrame}
use Rattle.dcc_packet.specs.declared.packet.Packet.{Packet}
use Rattle.dcc_packet.specs.declared.packet.Packet.TheVariants.{Idle}
use Rattle.dcc_packet.specs.SamePacket.{same}
use Rattle.dcc_packet.specs.Spelling.{spelling}
use Rattle.dcc_regs.specs.Conflict.{Conflict}
use Rattle.dcc_regs.proofs.LawLemmas.{conflict_is_mutual}
use Rattle.dcc_order.specs.AlikeLists.{turns}
use Rattle.dcc_order.specs.Verdicts.{SameMembers, SameOrder}
use Rattle.dcc_order.specs.FrameNumbers.{frame_number, IsIndex}
use Rattle.dcc_order.specs.Held.{Held}
use Rattle.dcc_order.specs.NumberedBlocks.{AreHeld, blocks_numbered, packets_numbered, Numbered, NumberedAlike}
use Rattle.dcc_order.specs.Members.{member_number, EachOnce}
use Rattle.dcc_order.specs.Turns.{turns_of}
use Rattle.dcc_order.proofs.Contained.{contains_all, contains_map}
use Rattle.dcc_order.proofs.MemberLaws.{number_is, index_more, Grows, number-within, stands_at, place_contains}
use Rattle.dcc_order.proofs.MemberLaws.{known_member, new_member}
use Rattle.dcc_order.proofs.TurnLaws.{same_turns_counted}

numbered_push : (members : List Packet) (ns : List ℕ) (n : ℕ) → Numbered members ns → n < length members
    → Numbered members (ns ++ n ∷ [])
numbered_push members [] n all here = (here, tt)
numbered_push members (m ∷ ns) n all here = (all.0, numbered_push members ns n all.1 here)

-- numbers and their packets where the members grow
module _ {members more : List Packet} {n : ℕ} {x : Packet} (g : Grows members more n x) where
  numbered_more : (ns : List ℕ) → Numbered members ns → Numbered more ns
  numbered_more [] all = tt
  numbered_more (m ∷ ns) all = ((g.kept m Idle all.0).0, numbered_more ns all.1)

  packets_more : (ns : List ℕ) → Numbered members ns → packets_numbered more ns ≡ packets_numbered members ns
  packets_more [] all = refl
  packets_more (m ∷ ns) all = rw ((g.kept m Idle all.0).1, packets_more ns all.1) refl

  packets_push : (ns : List ℕ) → Numbered members ns → packets_numbered more (ns ++ n ∷ [])
      ≡ packets_numbered members ns ++ x ∷ []
  packets_push ns all =
      map-append (λ n. get_or more n Idle) ns (n ∷ [])
      ∙ rw (packets_more ns all, stands_at more x Idle (rw g.number g.inside), g.number) refl

module _ {members : List Packet} {numbers others : List ℕ} {before : Held} (found : ℕ → Option ℕ) (x : Packet)
    (key count number : ℕ) (size : count ≡ length members) (held : AreHeld members numbers others)
    (view_is : blocks_numbered members numbers others ≡ before)
    (index : IsIndex found members) (frame : IsFrame (spelling x)) (is : key ≡ frame_number (spelling x))
    (told : number ≡ unwrap_or (found key) count) where
  its_number : number ≡ member_number members x
  its_number = number_is found members x key number index frame is (rw (← size) told)

  -- a number that is not how many there are is that of a member
  known : (number ≡ count → ⊥) → Grows members members number x
  known apart = rw its_number (known_member members x (omega (arith, its_number, apart, number-within members x, size)))

  -- a packet that is no member is not in the first block
  pub is_foreign : number ≡ count → Contains before.first x → ⊥
  is_foreign e h =
      let m = (held.each_once.same_set x).1 (subst (λ (v : Held). Contains v.first x) (sym view_is) h) in
      let place = ap (member_number members) (sym m.2) ∙ held.each_once.once m.0 x m.1 in
      omega (arith, place, its_number, size, m.1)

  -- a packet of the second block that is a member
  pub push_second : (number ≡ count → ⊥) → AreHeld members numbers (others ++ number ∷ [])
      × (blocks_numbered members numbers (others ++ number ∷ []) ≡ record before { second = before.second ++ x ∷ [] })
  push_second apart = (
    search (held, numbered_push members others number held.second_numbered (known apart).inside),
    rw (← view_is, packets_push (known apart) others held.second_numbered) refl,
  )

  -- one more packet of the first block
  pushed : (more : List Packet) → Grows members more number x → AreHeld more (numbers ++ number ∷ []) others
      × (blocks_numbered more (numbers ++ number ∷ []) others ≡ record before { first = before.first ++ x ∷ [] })
  pushed more g =
      let push = packets_push g numbers held.first_numbered in (
        record {
          each_once = rw push (g.are (packets_numbered members numbers) held.each_once);
          first_numbered = numbered_push more numbers number (numbered_more g numbers held.first_numbered) g.inside;
          second_numbered = numbered_more g others held.second_numbered;
        },
        rw (← view_is, push, packets_more g others held.second_numbered) refl,
      )

  pub push_known : (number ≡ count → ⊥) → AreHeld members (numbers ++ number ∷ []) others
      × (blocks_numbered members (numbers ++ number ∷ []) others ≡ record before { first = before.first ++ x ∷ [] })
  push_known apart = pushed members (known apart)

  -- a packet that is no member yet
  grown : number ≡ count → Grows members (members ++ x ∷ []) number x
  grown none = rw (none, size) (new_member members x (sym its_number ∙ none ∙ size))

  pub push_new : number ≡ count → AreHeld (members ++ x ∷ []) (numbers ++ number ∷ []) others
      × (blocks_numbered (members ++ x ∷ []) (numbers ++ number ∷ []) others
      ≡ record before { first = before.first ++ x ∷ [] })
  push_new none = pushed (members ++ x ∷ []) (grown none)

  pub index_new : number ≡ count → (then_found : ℕ → Option ℕ)
      → ((q : ℕ) → then_found q ≡ cond (is_at (nat_cmp key) q) (Some number) (found q))
      → IsIndex then_found (members ++ x ∷ [])
  index_new none then_found put = index_more found members x key number index frame is then_found (grown none) put

numbers_back : (members : List Packet) → EachOnce members → (ns : List ℕ) → Numbered members ns
    → map (member_number members) (packets_numbered members ns) ≡ ns
numbers_back _ _ [] _ = refl
numbers_back members once (n ∷ ns) all = rw (once n Idle all.0, numbers_back members once ns all.1) refl

-- two packets take turns, whichever is named first
turned : (p q : Packet) (left right : List Packet) → turns p q left ≡ turns p q right → turns q p left ≡ turns q p right
turned p q left right =
    subst (λ t. dedup same (filter t left) ≡ dedup same (filter t right))
    (fun_ext (λ x. or_comm (same p x) (same q x)))

module _ {ms : List Packet} {numbers others : List ℕ} (held : AreHeld ms numbers others) where
  abbrev at : ℕ → Packet
  at k = get_or ms k Idle

  abbrev first : List Packet
  first = packets_numbered ms numbers

  abbrev second : List Packet
  second = packets_numbered ms others

  stands : (k : ℕ) → k < length ms → Contains first (at k)
  stands k below = (held.each_once.same_set (at k)).0 (Contains-get_or ms k Idle below)

  -- a packet of the first block, at its number
  placed : (p : Packet) → Contains first p → (k : ℕ) × (k < length ms) × (at k ≡ p)
  placed p h =
      let m = (held.each_once.same_set p).1 h in (m.0, m.1, get_or_default ms m.0 Idle p m.1 ∙ m.2)

  its_numbers : map (member_number ms) second ≡ others
  its_numbers = numbers_back ms held.each_once.once others held.second_numbered

  -- the blocks have the same packets exactly where the second has each number
  pub members_by_numbers : ((k : ℕ) → k < length ms → Contains others k) ↔ SameMembers first second
  members_by_numbers = (
    λ each p. (
      λ h. let m = placed p h in subst (Contains second) m.2 (contains_map at others m.0 (each m.0 m.1)),
      λ h. (held.each_once.same_set p).0 (place_contains ms p
          (contains_all (λ n. n < length ms) others (member_number ms p) held.second_numbered (number_in p h))),
    ),
    λ same k below. rw (held.each_once.once k Idle below) at (number_in (at k) ((same (at k)).0 (stands k below))),
  )
    where
      number_in : (p : Packet) → Contains second p → Contains others (member_number ms p)
      number_in p h = rw its_numbers at (contains_map (member_number ms) second p h)

  told : (own rival : ℕ) → own < length ms → rival < own → Conflict (at own) (at rival)
      → (turns (at own) (at rival) first ≡ turns (at own) (at rival) second)
      ↔ (turns_of own rival numbers ≡ turns_of own rival others)
  told own rival own_in before clash =
      rw (numbers_back ms held.each_once.once numbers held.first_numbered, its_numbers) at
      (same_turns_counted ms held.each_once.once own rival own_in (omega (arith, before, own_in))
      (λ e. clash.apart (cc)) first second)

  -- any two packets that conflict take the same turns exactly where the number of one of them does with each before it
  pub order_by_numbers : ((own : ℕ) → own < length ms → NumberedAlike ms numbers others own) ↔ SameOrder first second
  order_by_numbers = (
    λ each p q hp hq clash.
        let one = placed p hp in
        let other = placed q hq in
        let there : Conflict (at one.0) (at other.0) = rw (one.2, other.2) clash in
        let back = conflict_is_mutual (at one.0) (at other.0) there in
        rw (← one.2, ← other.2) (elim (cases_order one.0 other.0) [
          | inl e ↦ absurd (there.apart (cc))
          | inr (inl low) ↦ turned (at other.0) (at one.0) first second (numbered each other.0 one.0 other.1 low back)
          | inr (inr low) ↦ numbered each one.0 other.0 one.1 low there
        ]),
    λ order own own_in rival d e before clash.
        let rival_in : rival < length ms = omega (arith, before, own_in) in
        let there : Conflict (at own) (at rival) = rw
        (get_or_default ms own Idle d own_in, get_or_default ms rival Idle e rival_in) clash in
        (told own rival own_in before there).0
        (order (at own) (at rival) (stands own own_in) (stands rival rival_in) there),
  )
    where
      numbered : ((own : ℕ) → own < length ms → NumberedAlike ms numbers others own) → (own rival : ℕ)
          → own < length ms → rival < own
          → Conflict (at own) (at rival) → turns (at own) (at rival) first ≡ turns (at own) (at rival) second
      numbered each own rival own_in before clash =
          (told own rival own_in before clash).1 (each own own_in rival Idle Idle before clash)
