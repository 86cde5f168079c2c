-- The numbers of a state give it back.
use Rattle.std.proofs.Common.{◌≡◌, ◌≤◌, ℕ, true, Ok, refl, sym, ◌∙◌, arith}
use Rattle.std.specs.Prelude.{Option, None, Some}
use Rattle.dcc_packet.specs.declared.fault.PacketFault.TheVariants as faults
use Rattle.dcc_packet.specs.declared.address.Address.{Address}
use Rattle.dcc_packet.specs.declared.address.Address.TheVariants.{Broadcast, Short, Long}
use Rattle.dcc_packet.specs.declared.address.ShortAddress.{ShortAddress}
use Rattle.dcc_packet.specs.declared.address.LongAddress.{LongAddress}
use Rattle.dcc_packet.specs.Values.{short_of, long_of}
use Rattle.dcc_regs.specs.Addresses.{is_active}
use Rattle.dcc_c.specs.Locos.{own_kind, own_number}
use Rattle.dcc_packet.proofs.UpTo.{up_to_ok, from_one_to_ok}

pub short_back : (number : ℕ) (own : ShortAddress) → number ≡ own.number → short_of number ≡ Ok (Short own)
short_back number own e =
    rw e (from_one_to_ok 127 own.number faults.Short (λ h. Short (record { number = own.number; in_range = h }))
    own.in_range)

pub long_back : (number : ℕ) (own : LongAddress) → number ≡ own.number → long_of number ≡ Ok (Long own)
long_back number own e =
    rw e (up_to_ok 10239 own.number faults.Long (λ h. Long (record { number = own.number; in_range = h })) own.in_range)

pub is_none : (own : Option Address) → is_active own ≡ true → own_kind own ≡ 0 → None ≡ own
is_none None a e = refl
is_none (Some Broadcast) a e = absurd (cc)
is_none (Some (Short own)) a e = absurd (omega arith)
is_none (Some (Long own)) a e = absurd (omega arith)

pub is_short : (own : Option Address) → own_kind own ≡ 1 → (address : ShortAddress) × (own ≡ Some (Short address))
is_short None e = absurd (omega arith)
is_short (Some Broadcast) e = absurd (omega arith)
is_short (Some (Short own)) e = (own, refl)
is_short (Some (Long own)) e = absurd (omega arith)

pub is_long : (own : Option Address) → own_kind own ≡ 2 → (address : LongAddress) × (own ≡ Some (Long address))
is_long None e = absurd (omega arith)
is_long (Some Broadcast) e = absurd (omega arith)
is_long (Some (Short own)) e = absurd (omega arith)
is_long (Some (Long own)) e = (own, refl)

-- what the numbers of a short or a long address come to
pub short_is : (own : Option Address) (number : ℕ) (r : Option Address) → own_kind own ≡ 1 → number ≡ own_number own
    → ((address : ShortAddress) → number ≡ address.number → r ≡ Some (Short address)) → r ≡ own
short_is own number r k n back =
    let there = is_short own k in
    back there.0 (rw there.1 at n) ∙ sym there.1

pub long_is : (own : Option Address) (number : ℕ) (r : Option Address) → own_kind own ≡ 2 → number ≡ own_number own
    → ((address : LongAddress) → number ≡ address.number → r ≡ Some (Long address)) → r ≡ own
long_is own number r k n back =
    let there = is_long own k in
    back there.0 (rw there.1 at n) ∙ sym there.1

-- where there is no address there is no kind above 0
pub no_kind : (own : Option Address) (kind : ℕ) → own ≡ None → own_kind own ≡ kind → 1 ≤ kind → ⊥
no_kind own kind none k some = let zero_kind = rw none at k in omega arith
