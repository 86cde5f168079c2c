-- The texts of the causes of a packet that is found in joined half-bits.
use Rattle.std.proofs.Common.{◌≡◌, ℕ, List, [], ◌∷◌, ◌++◌, Bool, true, false, Option, Some, None, refl, sym, ap, ◌∙◌}
use Rattle.std.proofs.Common.{append_assoc, append-nil, codes, decimal, ◌||◌, ◌==◌, if◌then◌else◌}
use Rattle.std.proofs.lemmas.List.Concat.{flat_map-append}
use Rattle.std.specs.List.{flat_map, join_by}
use Rattle.std.specs.Option.{is_some, option_map, option_to_list}
use Rattle.dcc_lost.specs.declared.joined.SpikedPacket.{SpikedPacket}
use Rattle.dcc_listen.specs.LostListing.{cause_texts, causes_text, off_limits_text, preamble_text}
use Rattle.dcc_listen.specs.SpikedListing.{spiked_causes_text}
use Rattle.dcc_listen.specs.Inner.SpikedRuns.{spikes_behind}

abbrev has_text : List (List ℕ) → Bool
has_text [] = false
has_text (text ∷ texts) = true

join_more : (separator text : List ℕ) (texts : List (List ℕ))
    → join_by (λ text. text) separator texts ++ ((if has_text texts then separator else []) ++ text)
    ≡ join_by (λ text. text) separator (texts ++ text ∷ [])
join_more separator text [] = sym (append-nil text)
join_more separator text (first ∷ texts) =
    append_assoc first (flat_map (λ y. separator ++ y) texts) (separator ++ text)
    ∙ ap (λ l. first ++ l) (ap (λ l. flat_map (λ y. separator ++ y) texts ++ l) (sym (append-nil (separator ++ text)))
    ∙ sym (flat_map-append (λ y. separator ++ y) texts (text ∷ [])))

texts_of : {A B C : Type 0} (f : A → List ℕ) (g : B → List ℕ) (h : C → List ℕ) (a : Option A) (b : Option B)
    (c : Option C)
    → has_text (option_to_list (option_map f a) ++ option_to_list (option_map g b) ++ option_to_list (option_map h c))
    ≡ (is_some a || is_some b || is_some c)
texts_of f g h None None None = refl
texts_of f g h None None (Some c) = refl
texts_of f g h None (Some b) None = refl
texts_of f g h None (Some b) (Some c) = refl
texts_of f g h (Some a) None None = refl
texts_of f g h (Some a) None (Some c) = refl
texts_of f g h (Some a) (Some b) None = refl
texts_of f g h (Some a) (Some b) (Some c) = refl

behind : (none : Bool) (texts : List (List ℕ)) (text : List ℕ)
    → join_by (λ text. text) (codes ", ") texts
    ++ (if none then [] else (if has_text texts then codes ", " else []) ++ text)
    ≡ join_by (λ text. text) (codes ", ") (texts ++ (if none then [] else text ∷ []))
behind true texts text =
    append-nil (join_by (λ text. text) (codes ", ") texts)
    ∙ ap (join_by (λ text. text) (codes ", ")) (sym (append-nil texts))
behind false texts text = join_more (codes ", ") text texts

pub all_spiked_causes : (half : ℕ) (packet : SpikedPacket) (has_cause : Bool)
    → has_cause ≡ (is_some packet.lost.preamble || is_some packet.lost.ones || is_some packet.lost.zeros)
    → causes_text half packet.lost ++ spikes_behind has_cause packet.spikes ≡ spiked_causes_text half packet
all_spiked_causes half packet has_cause is =
    let has = is ∙ sym (texts_of (preamble_text half) (off_limits_text (codes "ones")) (off_limits_text (codes "zeros"))
    packet.lost.preamble packet.lost.ones packet.lost.zeros) in
    ap (λ b. causes_text half packet.lost ++ spikes_behind b packet.spikes) has
    ∙ behind (packet.spikes == 0) (cause_texts half packet.lost) (codes "spikes " ++ decimal packet.spikes)
