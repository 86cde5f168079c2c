-- What is written for a field is read again.
use Rattle.std.proofs.Common.{◌≡◌, ℕ, List, [], ◌∷◌, ◌++◌, Result, Ok, refl, sym, ap, ◌∙◌}
use Rattle.std.proofs.Common.{append_assoc}
use Rattle.std.proofs.lemmas.List.{append-nil}
use Rattle.dcc_packet.specs.declared.fault.PacketFault.{PacketFault}
use Rattle.dcc_packet.specs.Words.{Word}
use Rattle.dcc_packet.specs.Written.{spaced_words}
use Rattle.dcc_packet.proofs.AllLemmas.{all_append}
use Rattle.dcc_packet.specs.Fields.{FieldOf, one_word, both, whole, IsToken, IsReadBack}

pub one_word_back : {A : Type 0} (rule : Word → Result A PacketFault) (word : A → Word)
    → ((x : A) → rule (word x) ≡ Ok x) → ((x : A) → IsToken (word x)) → IsReadBack (one_word rule word)
one_word_back rule word back token = record { back = λ x rest h. rw (back x) refl; tokens = λ x h. (token x, tt) }

pub both_back : {A B : Type 0} (first : FieldOf A) (second : FieldOf B) → IsReadBack first → IsReadBack second
    → IsReadBack (both first second)
both_back first second one two =
    record {
      back = λ x rest h.
          rw (
            append_assoc (first.written x.0) (second.written x.1) rest,
            one.back x.0 (second.written x.1 ++ rest) h.0,
            two.back x.1 rest h.1,
          ) refl;
      tokens = λ x h.
          all_append IsToken (first.written x.0) (second.written x.1) (one.tokens x.0 h.0) (two.tokens x.1 h.1);
    }

-- a line of a field
pub whole_back : {A : Type 0} (field : FieldOf A) → IsReadBack field → (x : A) → field.Fits x
    → whole field (field.written x) ≡ Ok x
whole_back field h x fits =
    let read : field.read (field.written x) ≡ Ok (x, []) =
    ap field.read (sym (append-nil (field.written x))) ∙ h.back x [] fits in
    rw read refl

-- words behind words
pub spaced_both : (ws more : List Word) → spaced_words (ws ++ more) ≡ spaced_words ws ++ spaced_words more
spaced_both [] more = refl
spaced_both (w ∷ ws) more =
    ap (λ (bytes : List ℕ). 32 ∷ (w ++ bytes)) (spaced_both ws more)
    ∙ ap (λ (bytes : List ℕ). 32 ∷ bytes) (sym (append_assoc w (spaced_words ws) (spaced_words more)))

-- text, the words of a field, and those of the one behind it
pub put_both : (ws more : List Word) (old mid new : List ℕ) → mid ≡ old ++ spaced_words ws
    → new ≡ mid ++ spaced_words more → new ≡ old ++ spaced_words (ws ++ more)
put_both ws more old mid new first second =
    second ∙ ap (λ (bytes : List ℕ). bytes ++ spaced_words more) first
    ∙ append_assoc old (spaced_words ws) (spaced_words more)
    ∙ ap (λ (bytes : List ℕ). old ++ bytes) (sym (spaced_both ws more))
