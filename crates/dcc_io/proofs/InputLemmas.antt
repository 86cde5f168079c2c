-- The line feed that closes an input.
use Rattle.std.proofs.Common.{◌≡◌, ℕ, ◌<◌, List, [], ◌∷◌, ◌++◌, length, Bool, true, false, Option, None, Some, IfSome}
use Rattle.std.proofs.Common.{refl, sym, ap, rules, arith, length-append}
use Rattle.std.specs.Io.KnownBytes.{Keeps}
use Rattle.dcc_io.specs.TextPlace.{lines_with}
use Rattle.dcc_io.specs.ReaderState.{StartsWithByte, IsAtEnd}
use Rattle.dcc_io.specs.InputState.{closed_text}
use Rattle.dcc_io.proofs.TookLemmas.{lines_with-some}

-- at the end of what a reader has, the line feed is what is left
pub begins_with_close : (closed : Bool) (old new : Option (List ℕ)) → closed ≡ false → IsAtEnd old → Keeps old new
    → StartsWithByte (closed_text closed old) 10 (closed_text true new)
begins_with_close closed (Some xs) (Some ys) is_open at_end kept = rw (is_open, at_end) refl
begins_with_close closed old new is_open at_end kept = search rules

-- nothing comes behind that line feed
pub ends_behind_close : (text : Option (List ℕ)) → IsAtEnd (closed_text true text)
ends_behind_close None = tt
ends_behind_close (Some xs) = refl

-- the line feed that closes a text stands on no line
pub no_line_of_close : (lines line : ℕ) (text : Option (List ℕ))
    → IfSome (closed_text true text) (λ rest. lines ≡ lines_with lines line rest)
no_line_of_close lines line None = tt
no_line_of_close lines line (Some xs) = refl

-- any other byte stands on its line
pub line_of_byte : (closed : Bool) (lines line : ℕ) (text : Option (List ℕ)) → closed ≡ false
    → IfSome (closed_text closed text) (λ rest. line ≡ lines_with lines line rest)
line_of_byte closed lines line None is_open = tt
line_of_byte closed lines line (Some xs) is_open =
    rw is_open (sym (lines_with-some lines line (xs ++ 10 ∷ []) (simp length-append (omega arith))))

-- behind any other byte the line feed is still to come
pub more_behind : (closed : Bool) (byte : ℕ) (text : Option (List ℕ)) → closed ≡ false
    → IfSome (closed_text closed text) (λ rest. rest ≡ [] → byte ≡ 10)
more_behind closed byte None is_open = tt
more_behind closed byte (Some xs) is_open =
    rw is_open (λ none. let few = ap length none in absurd (omega (arith, length-append xs (10 ∷ []))))

-- and so something is still to come of an input that is not closed
pub more_to_come : (closed : Bool) (text : Option (List ℕ)) → closed ≡ false
    → IfSome (closed_text closed text) (λ bytes. 0 < length bytes)
more_to_come closed None is_open = tt
more_to_come closed (Some xs) is_open = rw is_open (simp length-append (omega arith))
