-- The verdict is Alike exactly where two lists are alike.
use Rattle.std.proofs.Common.{◌≡◌, List, ℕ, ◌+◌, inl, inr}
use Rattle.std.specs.Prelude.{◌↔◌, ◌⊎◌, ◌≢◌}
use Rattle.dcc_packet.specs.declared.packet.Packet.{Packet}
use Rattle.dcc_regs.specs.declared.register.Who.{Who}
use Rattle.dcc_order.specs.declared.verdict.Verdict.{Verdict}
use Rattle.dcc_order.specs.declared.verdict.Verdict.TheVariants.{Alike, Writes}
use Rattle.dcc_order.specs.AlikeLists.{Cut, LastBlock, Block, AlikeBlocks, AlikeCuts, AlikeFor, cut_for}
use Rattle.dcc_order.specs.Verdicts.{IsVerdict, IsVerdictFrom, BlocksVerdict}

-- two blocks are not alike and the verdict says so, or they are and what is behind them decides
blocks : (k : ℕ) (left right : List Packet) (v : Verdict) (further : Type 0) → BlocksVerdict k left right v further
    → ((v ≢ Alike) × (AlikeBlocks left right → ⊥)) ⊎ (AlikeBlocks left right × further)
blocks k left right v further d = elim d [
  | inl bad ↦ inl (λ e. cc, λ alike. bad.0 alike.members)
  | inr (inl bad) ↦ inl (λ e. cc, λ alike. bad.1 alike.order)
  | inr (inr (m, o, rest)) ↦ inr (record { members = m; order = o }, rest)
]

pub cuts_alike : (k : ℕ) (x y : Cut) (v : Verdict) → IsVerdictFrom k x y v → (v ≡ Alike) ↔ AlikeCuts x y
cuts_alike k (LastBlock left) (LastBlock right) v d = elim (blocks k left right v (v ≡ Alike) d) [
  | inl bad ↦ (λ e. absurd (bad.0 e), λ alike. absurd (bad.1 alike))
  | inr (alike, e) ↦ (λ h. alike, λ h. e)
]
cuts_alike k (Block left w x) (Block right u y) v d = elim (blocks k left right v
    (((w ≢ u) × (v ≡ Writes)) ⊎ ((w ≡ u) × IsVerdictFrom (k + 1) x y v)) d) [
      | inl bad ↦ (λ e. absurd (bad.0 e), λ alike. absurd (bad.1 alike.0))
      | inr (alike, inl (apart, e)) ↦ (λ h. cc, λ all. absurd (apart all.1))
      | inr (alike, inr (same, rest)) ↦
          (let behind = cuts_alike (k + 1) x y v rest in (λ e. (alike, same, behind.0 e), λ all. behind.1 all.2))
    ]
cuts_alike k (LastBlock left) (Block right u y) v d = (
  λ h. elim (blocks k left right v (v ≡ Writes) d) [ inl bad ↦ bad.0 h | inr (alike, e) ↦ cc ],
  λ all. absurd all,
)
cuts_alike k (Block left w x) (LastBlock right) v d = (
  λ h. elim (blocks k left right v (v ≡ Writes) d) [ inl bad ↦ bad.0 h | inr (alike, e) ↦ cc ],
  λ all. absurd all,
)

pub alike_is : (who : Who) (left right : List Packet) (v : Verdict) → IsVerdict who left right v
    → (v ≡ Alike) ↔ AlikeFor who left right
alike_is who left right = cuts_alike 0 (cut_for who left) (cut_for who right)
