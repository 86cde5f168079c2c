-- Turns: how they are told in short, and counted by the numbers of packets.
use Rattle.std.proofs.Common.{ℕ, zero, suc, ◌≡◌, ◌∙◌, refl, sym, ap, Bool, true, false, cond, List, [], ◌∷◌, ◌++◌}
use Rattle.std.proofs.Common.{Option, Some, None, length, arith, add-one, inl, inr, ◌<◌, ◌≤◌, ◌+◌, eqb, subst, get_or}
use Rattle.std.proofs.Common.{map}
use Rattle.std.specs.Prelude.{◌↔◌, filter, not, ◌⊎◌, Contains, IsTrue}
use Rattle.std.proofs.lemmas.Bool.{cases_Bool, ne_eqb, or_right, false≢true}
use Rattle.std.proofs.lemmas.List.{length-append, append-nil, map-append}
use Rattle.std.proofs.lemmas.List.Elements.{filter-append, Contains-append_left, Contains-push, Contains-push_cases}
use Rattle.std.proofs.lemmas.Bool.Decides.{eqb_tells, nat_tests}
use Rattle.std.proofs.lemmas.List.Sums.{fold-append}
use Rattle.dcc_packet.specs.declared.packet.Packet.{Packet}
use Rattle.dcc_packet.specs.SamePacket.{same}
use Rattle.dcc_packet.specs.declared.packet.Packet.TheVariants.{Idle}
use Rattle.dcc_packet.proofs.SameFrames.{same-refl}
use Rattle.dcc_regs.specs.Result.{is_repeated}
use Rattle.dcc_order.specs.AlikeLists.{turns}
use Rattle.dcc_order.specs.declared.turns.Turns.{Turns}
use Rattle.dcc_order.specs.Turns.{last_behind, own_turn, rival_turn, no_turns, with_turn, turns_of, Counted}
use Rattle.dcc_order.specs.Members.{member_number, EachOnce}
use Rattle.dcc_order.proofs.AlikeBlocks.{same_tells, is_one_of, without_repeats, deduped, last_behind-unrepeated}
use Rattle.dcc_order.proofs.Contained.{contains_none, snoc}
use Rattle.dcc_order.proofs.MemberLaws.{stands_at}

last_behind-append : (before : Option Packet) (l : List Packet) (x : Packet) → last_behind before (l ++ x ∷ []) ≡ Some x
last_behind-append before [] x = refl
last_behind-append before (y ∷ l) x = last_behind-append (Some y) l x

unrepeated-append : (before : Option Packet) (l : List Packet) (x : Packet)
    → without_repeats before (l ++ x ∷ []) ≡ without_repeats before l
    ++ cond (is_repeated (last_behind before l) x) [] (x ∷ [])
unrepeated-append before [] x = refl
unrepeated-append before (y ∷ l) x = elim (cases_Bool (is_repeated before y)) [
  | inl e ↦ rw e (unrepeated-append (Some y) l x)
  | inr e ↦ rw (e, unrepeated-append (Some y) l x) refl
]

-- turns with one packet more that takes one unless it had the last
abbrev with_packet : List Packet → Packet → List Packet
with_packet taken x = taken ++ cond (is_repeated (last_behind None taken) x) [] (x ∷ [])

-- the turns of two packets with one more packet
turns-append : (p q : Packet) (block : List Packet) (x : Packet)
    → turns p q (block ++ x ∷ []) ≡ cond (is_one_of p q x) (with_packet (turns p q block) x) (turns p q block)
turns-append p q block x = rw (
  deduped (filter (is_one_of p q) (block ++ x ∷ [])),
  deduped (filter (is_one_of p q) block),
  filter-append (is_one_of p q) block (x ∷ []),
  last_behind-unrepeated None (filter (is_one_of p q) block),
) (elim (cases_Bool (is_one_of p q x)) [
  | inl e ↦ rw e (unrepeated-append None (filter (is_one_of p q) block) x)
  | inr e ↦ rw (e, append-nil (filter (is_one_of p q) block)) refl
])

-- two packets that take so many turns, the rival the last or not
abbrev ended : Packet → Packet → Bool → ℕ → List Packet
ended p q last zero = []
ended p q last (suc n) = ended p q (not last) n ++ cond last q p ∷ []

module _ (p q : Packet) where
  -- turns as they are told in short
  abbrev Told : List Packet → Turns → Type 0
  Told taken t = (taken ≡ ended p q t.rival_last t.count) × (t.count ≡ 0 → t.rival_last ≡ false)

  -- the packet itself comes, or its rival
  abbrev turn_of : Bool → Turns → Turns
  turn_of rival t = cond rival (rival_turn t) (own_turn t)

  module _ (apart : p ≡ q → ⊥) where
    differ : (same p q ≡ false) × (same q p ≡ false)
    differ = (grind (arith, same_tells p q), grind (arith, same_tells q p))

    comes : (rival last : Bool) (n : ℕ) → (n ≡ 0 → last ≡ false)
        → Told (with_packet (ended p q last n) (cond rival q p))
        (turn_of rival (record { count = n; rival_last = last }))
    comes true last zero none = rw (none refl) (refl, λ e. absurd (omega arith))
    comes false last zero none = rw (none refl) (refl, λ e. refl)
    comes true true (suc n) none =
        rw (last_behind-append None (ended p q false n) q, same-refl q, append-nil) (refl, none)
    comes false false (suc n) none =
        rw (last_behind-append None (ended p q true n) p, same-refl p, append-nil, ne_eqb (suc n) 0 (omega arith))
        (refl, none)
    comes true false (suc n) none =
        rw (last_behind-append None (ended p q true n) p, differ.0, add-one (suc n)) (refl, λ e. absurd (omega arith))
    comes false true (suc n) none =
        rw (last_behind-append None (ended p q false n) q, differ.1, add-one (suc n)) (refl, λ e. refl)

    one_comes : (rival : Bool) {taken : List Packet} {t : Turns} → Told taken t
        → Told (with_packet taken (cond rival q p)) (turn_of rival t)
    one_comes rival {t = t} told = rw told.0 (comes rival t.rival_last t.count told.1)

    length_ended : (last : Bool) (n : ℕ) → length (ended p q last n) ≡ n
    length_ended last zero = refl
    length_ended last (suc n) =
        omega (arith, length_ended (not last) n, length-append (ended p q (not last) n) (cond last q p ∷ []))

    last_told : (last : Bool) (n : ℕ) → (n ≡ 0 → last ≡ false) → is_repeated (last_behind None (ended p q last n)) q
        ≡ last
    last_told last zero none = sym (none refl)
    last_told true (suc n) none = rw (last_behind-append None (ended p q false n) q) (same-refl q)
    last_told false (suc n) none = rw (last_behind-append None (ended p q true n) p) differ.0

    read : {taken : List Packet} {t : Turns} → Told taken t
        → (let z : Turns = record { count = length taken; rival_last = is_repeated (last_behind None taken) q } in z)
        ≡ t
    read {t = t} told = rw told.0
        (λ i. record {
          count = length_ended t.rival_last t.count i;
          rival_last = last_told t.rival_last t.count told.1 i;
        })

    -- two lists of turns are the same exactly where they are told so
    same_told : {one other : List Packet} {t u : Turns} → Told one t → Told other u → (one ≡ other) ↔ (t ≡ u)
    same_told told then = (
      λ e. sym (read told)
          ∙ ap (λ l. let z : Turns = record { count = length l; rival_last = is_repeated (last_behind None l) q } in z)
          e
          ∙ read then,
      λ e. told.0 ∙ ap (λ (z : Turns). ended p q z.rival_last z.count) e ∙ sym then.0,
    )

-- one more number
turns_of-more : (own rival : ℕ) (numbers : List ℕ) (n : ℕ)
    → turns_of own rival (numbers ++ n ∷ []) ≡ with_turn own rival (turns_of own rival numbers) n
turns_of-more own rival numbers n = fold-append (with_turn own rival) no_turns numbers (n ∷ [])

turn_count : (own rival : ℕ) (taken : Turns) (number : ℕ) → (with_turn own rival taken number).count ≤ taken.count + 1
turn_count own rival taken number =
    grind (arith, nat_tests, cases_Bool taken.rival_last, cases_Bool (eqb number own), cases_Bool (eqb number rival))

-- there are no more turns than numbers
turns_fit : (own rival : ℕ) (numbers : List ℕ) → (turns_of own rival numbers).count ≤ length numbers
turns_fit own rival = snoc (λ numbers. (turns_of own rival numbers).count ≤ length numbers) (omega arith)
    (λ numbers n few. rw (turns_of-more own rival numbers n)
    (omega (arith, few, turn_count own rival (turns_of own rival numbers) n, length-append numbers (n ∷ []))))

-- so counted turns are no more than the numbers that came
pub few_turns : {turns : List Turns} {own count : ℕ} {ns : List ℕ} (most : ℕ) → Counted turns own count ns
    → length ns < most → (rival : ℕ) (d : Turns) → rival < length turns → (get_or turns rival d).count < most
few_turns {own = own} {ns = ns} most counted few rival d inside =
    rw (counted.told rival d inside) (omega (arith, turns_fit own rival ns))

module _ (members : List Packet) (once : EachOnce members) (own rival : ℕ) (own_in : own < length members)
    (rival_in : rival < length members) where
  abbrev at : ℕ → Packet
  at k = get_or members k Idle

  -- a packet with a number is the member of that place, and one with another number is another packet
  placed : (x : Packet) (k : ℕ) → k < length members
      → ((eqb (member_number members x) k ≡ true) × (at k ≡ x))
      ⊎ ((eqb (member_number members x) k ≡ false) × (same (at k) x ≡ false))
  placed x k inside = elim (eqb_tells (member_number members x) k) [
    | inl (t, is) ↦ inl (t, rw (← is) (sym (stands_at members x Idle (rw is inside))))
    | inr (f, other) ↦ inr (
      f,
      elim (same_tells (at k) x) [
        | inl (t, is) ↦ absurd (other (rw (← is) (once k Idle inside)))
        | inr (t, apart) ↦ t
      ],
    )
  ]

  -- turns that are counted by numbers tell those of the packets
  turns_counted : (at own ≡ at rival → ⊥) → (block : List Packet)
      → Told (at own) (at rival) (turns (at own) (at rival) block)
      (turns_of own rival (map (member_number members) block))
  turns_counted apart = snoc
      (λ block. Told (at own) (at rival) (turns (at own) (at rival) block)
      (turns_of own rival (map (member_number members) block))) (refl, λ e. refl)
      (λ block x told. rw (
        map-append (member_number members) block (x ∷ []),
        turns_of-more own rival (map (member_number members) block) (member_number members x),
        turns-append (at own) (at rival) block x,
      ) (elim (placed x own own_in) [
        | inl (i, is) ↦ rw (i, ← is, same-refl (at own)) (one_comes (at own) (at rival) apart false told)
        | inr (i, not_own) ↦ elim (placed x rival rival_in) [
          | inl (j, is) ↦ rw (
            i,
            j,
            ← is,
            or_right (same (at own) (at rival)) (same (at rival) (at rival))
                (same-refl (at rival)),
          )
              (one_comes (at own) (at rival) apart true told)
          | inr (j, not_rival) ↦ rw (i, j, not_own, not_rival) told
        ]
      ]))

  -- members that are two packets take the same turns in two blocks exactly where the count is the same
  pub same_turns_counted : (at own ≡ at rival → ⊥) → (left right : List Packet)
      → (turns (at own) (at rival) left ≡ turns (at own) (at rival) right) ↔
      (turns_of own rival (map (member_number members) left) ≡ turns_of own rival (map (member_number members) right))
  same_turns_counted apart left right =
      same_told (at own) (at rival) apart (turns_counted apart left) (turns_counted apart right)

-- whether a number is among others, told by turns: the rival is the last that came where it came at all, and the packet
-- itself did not
pub has_come : (own rival : ℕ) (ns : List ℕ) → ((k : ℕ) → Contains ns k → k < own)
    → IsTrue (turns_of own rival ns).rival_last ↔ Contains ns rival
has_come own rival = snoc
    (λ ns. ((k : ℕ) → Contains ns k → k < own) → IsTrue (turns_of own rival ns).rival_last ↔ Contains ns rival)
    (λ low. (λ t. absurd (false≢true t), λ h. absurd (contains_none rival h)))
    (λ ns n so_far low.
    let before = so_far (λ k h. low k (Contains-append_left ns (n ∷ []) k h)) in
    let other : n ≡ own → ⊥ = λ e. absurd (omega (arith, low n (Contains-push ns n), e)) in
    rw (turns_of-more own rival ns n, ne_eqb n own other) (elim (eqb_tells n rival) [
      | inl (e, is) ↦ rw e (
        λ t. subst (Contains (ns ++ n ∷ [])) is (Contains-push ns n),
        λ h. grind (arith, cases_Bool (turns_of own rival ns).rival_last),
      )
      | inr (e, apart) ↦ rw e (
        λ t. Contains-append_left ns (n ∷ []) rival (before.0 t),
        λ h. before.1 (elim (Contains-push_cases ns n rival h) [ inl old ↦ old | inr is ↦ absurd (apart is) ]),
      )
    ]))
