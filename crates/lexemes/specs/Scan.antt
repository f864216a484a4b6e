-- What a function that reads a lexeme answers, in terms of the parser of that lexeme. Assumes nothing.
use Rattle.std.specs.Prelude.{◌≡◌, ℕ, List, ◌++◌, Ok, Err, Result}
use Rattle.std.specs.Borrow.{Bor}
use Rattle.grammar.specs.Parse.{ok, bad, res, Parser}
use Rattle.lexemes.specs.declared.mismatch.Mismatch.{Mismatch}

-- t is left of the text s: something stands in front of it
abbrev pub Left : List ℕ → List ℕ → Type 0
Left t s = (u : List ℕ) × (s ≡ u ++ t)

-- of the text s the parser reads a, and leaves t
pub record Reads {A : Type 0} (p : Parser A) (s : List ℕ) (a : A) (t : List ℕ) : Type 0 where
  pub left : Left t s
  pub reads : p s ≡ res (ok a) t

-- in the text s the parser fails where t is left
pub record Fails {A : Type 0} (p : Parser A) (s t : List ℕ) : Type 0 where
  pub left : Left t s
  pub fails : p s ≡ res bad t

-- of the text s the parser reads something, and leaves t
abbrev pub Passes : {A : Type 0} → Parser A → List ℕ → List ℕ → Type 0
Passes {A} p s t = (a : A) × Reads p s a t

-- of the text s the parser leaves what stands in Ok, or fails where the mismatch is
abbrev pub Goes : {A : Type 0} → Parser A → List ℕ → Result (Bor (List ℕ)) Mismatch → Type 0
Goes p s (Ok t) = Passes p s t.now
Goes p s (Err e) = Fails p s e.rest.now
