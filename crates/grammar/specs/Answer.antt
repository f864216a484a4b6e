-- What the reader answers of a whole text, and what that means. Assumes nothing.
use Rattle.std.specs.Prelude.{◌≡◌, ℕ, suc, ◌-◌, ◌<◌, ◌≤◌, true, List, [], ◌∷◌, ◌++◌, length, take, slice_index}
use Rattle.grammar.specs.Parse.{ok, bad, deep, Res, res, within, Opening}
use Rattle.grammar.specs.Layout.{Layout, levels}
use Rattle.grammar.specs.Grammar.{Sentence}
use Rattle.grammar.specs.Pieces.{Pieces, print, layout}
use Rattle.grammar.specs.Reader.{text_p}

pub data Answer : Type 0 where
  Read : Pieces → Answer
  BadText : ℕ → Answer
  TooDeep : Answer

abbrev pub whole : List ℕ → Res Pieces → Answer
whole s (res (ok a) []) = Read a
whole s (res (ok a) (b ∷ t)) = BadText (length s - length (b ∷ t))
whole s (res bad t) = BadText (length s - length t)
whole s (res deep t) = TooDeep

-- what the reader that takes at most n levels answers
abbrev pub read : ℕ → List ℕ → Answer
read n s = whole s (text_p n s)

-- the bytes begin some sentence
abbrev pub Opens : List ℕ → Type 0
Opens u = (w : List ℕ) × (y : Layout) × Sentence y (u ++ w)

-- the bytes begin some sentence of at most n levels
abbrev pub OpensWithin : ℕ → List ℕ → Type 0
OpensWithin n u = (w : List ℕ) × (y : Layout) × Sentence y (u ++ w) × (levels y ≤ n)

-- k is the length of the longest start that begins some sentence
pub record Stops (s : List ℕ) (k : ℕ) : Type 0 where
  pub fits : k ≤ length s
  pub opens : Opens (take k s)
  pub longest : (j : ℕ) → k < j → j ≤ length s → Opens (take j s) → ⊥

-- The byte at k is an opening bracket where the grammar takes a value: what stands before it begins a sentence of at most n
-- levels, and together with it begins some sentence, but none of at most n levels.
pub record Deepens (n : ℕ) (s : List ℕ) (k : ℕ) : Type 0 where
  pub fits : k < length s
  pub bracket : within Opening (slice_index s k) ≡ true
  pub before : OpensWithin n (take k s)
  pub opens : Opens (take (suc k) s)
  pub deeper : OpensWithin n (take (suc k) s) → ⊥

-- What each answer of the reader of n levels says of the text.
pub data Judged (n : ℕ) (s : List ℕ) : Answer → Type 0 where
  good : (a : Pieces) → Sentence (layout a) s → levels (layout a) ≤ n → print a ≡ s → Judged n s (Read a)
  bad_text : (k : ℕ) → Stops s k → OpensWithin n (take k s) → ((y : Layout) → Sentence y s → ⊥) → Judged n s (BadText k)
  too_deep : (k : ℕ) → Deepens n s k → Judged n s TooDeep

-- The reader is right: it judges every text; it takes every sentence of at most n levels, with its layout; it answers BadText k or
-- TooDeep wherever the text is so; and a sentence has one layout.
pub record Right (n : ℕ) : Type 0 where
  pub judges : (s : List ℕ) → Judged n s (read n s)
  pub accepts : (s : List ℕ) (y : Layout) → Sentence y s → levels y ≤ n → (a : Pieces) × (read n s ≡ Read a) × (layout a ≡ y)
  pub refuses : (s : List ℕ) (k : ℕ) → Stops s k → OpensWithin n (take k s) → ((y : Layout) → Sentence y s → ⊥) → read n s ≡ BadText k
  pub deepens : (s : List ℕ) (k : ℕ) → Deepens n s k → read n s ≡ TooDeep
  pub one_layout : (s : List ℕ) (y z : Layout) → Sentence y s → Sentence z s → y ≡ z
