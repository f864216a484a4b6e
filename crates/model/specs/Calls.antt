-- The questions that a caller may ask, each with what it takes: handles, ordinals, bytes, and how large the room is that is lent. Assumes nothing.
use Rattle.std.specs.Prelude.{ℕ, List}
use Rattle.model.specs.Nodes.{Handle}

-- each question; none of them changes the document
pub data Question : Type 0 where
  Root : Question
  Edits : Question
  Value : Handle → Question
  Kind : Handle → Question
  Path : Handle → ℕ → Question
  At : List ℕ → Question
  Find : Handle → List ℕ → Question
  Parent : Handle → Question
  Previous : Handle → Question
  Next : Handle → Question
  Child : Handle → ℕ → Question
  Element : Handle → Question
  Trailing : Handle → Question
  Text : Handle → ℕ → Question
  Indent : Handle → ℕ → Question
  IndentOr : List ℕ → Question
  Newline : ℕ → Question
  Uses : Handle → ℕ → Question
