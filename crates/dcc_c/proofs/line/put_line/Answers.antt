use Rattle.std.proofs.Common.{◌≡◌, ℕ, ◌-◌, ◌++◌, ◌∙◌, List, length, replicate, ap, refl}
use Rattle.std.proofs.lemmas.List.{drop-replicate}
use Rattle.dcc_c.specs.Frames.{zeros_behind}
use Rattle.dcc_c.proofs.line.put_line.Goals as goal

as_padded : (put bytes line : List ℕ) → put ≡ bytes → bytes ≡ line
    → put ++ replicate (41 - length bytes) 0 ≡ zeros_behind 41 line
as_padded put bytes line e f = rw (e, f) refl

pub returns : goal.returns
returns c =
    let read = c.as_bytes-bytes.ensures.value ∙ c.as_str.ensures.value ∙ c.put_line.ensures in
    let zeros = drop-replicate (length c.as_bytes-bytes.result.now) 41 0 in
    ap (λ (rest : List ℕ). c.copy_from_slice.new.self ++ rest) zeros
    ∙ as_padded _ _ _ c.copy_from_slice.ensures.after read
