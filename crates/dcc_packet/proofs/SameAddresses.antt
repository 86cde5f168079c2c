-- Addresses of one kind are the same where their numbers are.
use Rattle.std.proofs.Common.{◌≡◌, ap, IsTrue, nat_eq}
use Rattle.std.proofs.lemmas.Bool.Decides.{Decides-eqb}
use Rattle.dcc_packet.specs.declared.address.Address.TheVariants.{Short, Long}
use Rattle.dcc_packet.specs.declared.address.ShortAddress.{ShortAddress}
use Rattle.dcc_packet.specs.declared.address.LongAddress.{LongAddress}
use Rattle.dcc_packet.proofs.Same.{same_short, same_long}

pub one_short : (a b : ShortAddress)
    → (IsTrue (nat_eq a.number b.number) → Short a ≡ Short b) × (Short a ≡ Short b → IsTrue (nat_eq a.number b.number))
one_short a b =
    let numbers = Decides-eqb a.number b.number in (
      λ h. ap Short (same_short a b (numbers.0 h)),
      λ e. let same : a ≡ b = cc in numbers.1 (ap (λ (x : ShortAddress). x.number) same),
    )

pub one_long : (a b : LongAddress)
    → (IsTrue (nat_eq a.number b.number) → Long a ≡ Long b) × (Long a ≡ Long b → IsTrue (nat_eq a.number b.number))
one_long a b =
    let numbers = Decides-eqb a.number b.number in (
      λ h. ap Long (same_long a b (numbers.0 h)),
      λ e. let same : a ≡ b = cc in numbers.1 (ap (λ (x : LongAddress). x.number) same),
    )
