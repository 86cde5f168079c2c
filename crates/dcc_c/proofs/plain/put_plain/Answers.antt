use Rattle.std.proofs.Common.{◌≡◌, ℕ, ◌-◌, ◌++◌, ◌∙◌, List, length, replicate, ap, refl}
use Rattle.std.proofs.lemmas.List.{drop-replicate}
use Rattle.dcc_c.specs.Frames.{zeros_behind}
use Rattle.dcc_c.proofs.plain.put_plain.Goals as goal

as_padded : (put bytes words : List ℕ) → put ≡ bytes → bytes ≡ words
    → put ++ replicate (256 - length bytes) 0 ≡ zeros_behind 256 words
as_padded put bytes words e f = rw (e, f) refl

pub returns : goal.returns
returns c =
    let zeros = drop-replicate (length c.as_slice-bytes.result.now) 256 0 in
    ap (λ (rest : List ℕ). c.copy_from_slice.new.self ++ rest) zeros
    ∙ as_padded _ _ _ c.copy_from_slice.ensures.after c.as_slice-bytes.ensures.value
