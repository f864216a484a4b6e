-- What is gathered on the way back over siblings. Assumes nothing.
use Rattle.std.proofs.Common.{◌≡◌, ℕ, ◌+◌, true, false, List, [], ◌∷◌, ◌++◌, ◌⊎◌, inl, inr, length, Some, None, Option, sym, refl, ap, ◌∙◌, append_assoc, length-append}
use mathlib.Core.Bool.{false≢true}
use Rattle.std.specs.Option.{is_some, option_or, option_map}
use Rattle.std.proofs.lemmas.Bool.{cond-true, cond-false}
use Rattle.grammar.specs.Layout as said
use Rattle.model.specs.Nodes.{Nodes, blank, break, remark, Class, gap, mark, value, class}
use Rattle.model.specs.Asks.{spelt, sort_of, is_blank, gather, indent_at, indent_from}
use Rattle.tree.specs.declared.class.Class as told
use Rattle.tree.specs.declared.class.Class.TheVariants.{Comma, Mark, Value}
use Rattle.tree.specs.declared.node.Node.{Node}
use Rattle.tree.specs.declared.walks.Preceding.{Preceding}
use Rattle.tree.specs.Steps.{spot}
use Rattle.tree.specs.Classes.{plain}
use Rattle.tree.specs.Walks.{preceding_left, before_left}
use Rattle.tree.proofs.Classes.{is_comma_lem, is_mark, class_is_value}
use Rattle.tree.proofs.Listed.{turn_back, left_back, none_back}
use Rattle.indents.specs.Blanks.{blanks}

-- what is gathered is the last of the blanks before the end, and those that are left are the others
abbrev pub Gathered : Option (List ℕ) → Option Node → Nodes → Type 0
Gathered None None bs = Unit {0}
Gathered None (Some n) bs = ⊥
Gathered (Some u) None bs = ⊥
Gathered (Some u) (Some n) bs = blanks (spot n).here.before ≡ blanks bs ++ u

-- the blanks before the end
abbrev told_blanks : Option Node → Option (List ℕ)
told_blanks o = option_map (λ n. blanks (spot n).here.before) o

-- where no blanks are left, what is gathered is all of them
gathered_whole : (end : Option Node) (bs : Nodes) (u : Option (List ℕ)) → blanks bs ≡ [] → Gathered u end bs → told_blanks end ≡ u
gathered_whole None bs None e g = refl
gathered_whole None bs (Some u) e g = absurd g
gathered_whole (Some n) bs None e g = absurd g
gathered_whole (Some n) bs (Some u) e g = ap Some (g ∙ ap (λ z. z ++ u) e)

-- some bytes are gathered so, and the indent is what they and the siblings that are left come to
abbrev pub Going : Option Node → Nodes → Nodes → Type 0
Going end bs all = (u : Option (List ℕ)) × Gathered u end bs × (indent_from u bs ≡ indent_from None all)

-- the end that is known stays, and where none is known the node m is it
pub or_first : (end : Option Node) (m : Node) → is_some end ≡ false → option_or end (Some m) ≡ Some m
or_first None m e = refl
or_first (Some j) m e = absurd (false≢true (sym e))

pub or_kept : (end : Option Node) (m : Node) → is_some end ≡ true → option_or end (Some m) ≡ end
or_kept None m e = absurd (false≢true e)
or_kept (Some j) m e = refl

-- A turn of a loop: the sibling that came, with those that are left behind it.
module _ (a b : Preceding) (n : Node) (t : preceding_left a ≡ spot n ∷ preceding_left b) where
  indent_is : (c : Class) → class (sort_of (spot n)) ≡ c → (u : Option (List ℕ))
      → indent_from u (before_left a) ≡ indent_at c u (indent_from (gather (spelt (sort_of (spot n))) u) (before_left b)) (indent_from None (before_left b))
  indent_is c e u =
      ap (indent_from u) (turn_back a b n t)
      ∙ ap (λ c. indent_at c u (indent_from (gather (spelt (sort_of (spot n))) u) (before_left b)) (indent_from None (before_left b))) e

  -- Whitespace is the last of the blanks
  pub blanks_more : is_blank (class (sort_of (spot n))) ≡ true → blanks (before_left a) ≡ blanks (before_left b) ++ spelt (sort_of (spot n))
  blanks_more e =
      ap (λ z. blanks z) (turn_back a b n t) ∙ cond-true (is_blank (class (sort_of (spot n)))) (blanks (before_left b) ++ spelt (sort_of (spot n))) [] e

  pub blanks_long : is_blank (class (sort_of (spot n))) ≡ true → length (blanks (before_left a)) ≡ length (blanks (before_left b)) + length (spelt (sort_of (spot n)))
  blanks_long e = ap length (blanks_more e) ∙ length-append (blanks (before_left b)) (spelt (sort_of (spot n)))

  -- and what is none ends them
  pub blanks_over : is_blank (class (sort_of (spot n))) ≡ false → blanks (before_left a) ≡ []
  blanks_over e =
      ap (λ z. blanks z) (turn_back a b n t) ∙ cond-false (is_blank (class (sort_of (spot n)))) (blanks (before_left b) ++ spelt (sort_of (spot n))) [] e

  -- what is left stands before it
  pub left_before : (spot n).here.before ≡ before_left b
  left_before = left_back a b n t

  -- the node m is the one behind the sibling
  pub going_blank : (end : Option Node) (m : Node) (all : Nodes) → class (sort_of (spot n)) ≡ gap blank → (spot m).here.before ≡ before_left a → Going end (before_left a) all
      → Going (option_or end (Some m)) (before_left b) all
  going_blank None m all e h (None, g, w) =
      (Some (spelt (sort_of (spot n))), ap (λ z. blanks z) h ∙ blanks_more (ap is_blank e), sym (indent_is (gap blank) e None) ∙ w)
  going_blank None m all e h (Some u, g, w) = absurd g
  going_blank (Some j) m all e h (None, g, w) = absurd g
  going_blank (Some j) m all e h (Some u, g, w) =
      let t = spelt (sort_of (spot n)) in (
        Some (t ++ u),
        g ∙ (ap (λ z. z ++ u) (blanks_more (ap is_blank e)) ∙ append_assoc (blanks (before_left b)) t u),
        sym (indent_is (gap blank) e (Some u)) ∙ w,
      )

  pub going_remark : (end : Option Node) (all : Nodes) (c : said.Comment) → class (sort_of (spot n)) ≡ gap (remark c) → Going end (before_left a) all → Going None (before_left b) all
  going_remark end all c e (u, g, w) = (None, tt, sym (indent_is (gap (remark c)) e u) ∙ w)

  -- a Newline ends the line
  pub ends_break : (end : Option Node) (all : Nodes) → class (sort_of (spot n)) ≡ gap break → Going end (before_left a) all → told_blanks end ≡ indent_from None all
  ends_break end all e (u, g, w) = gathered_whole end (before_left a) u (blanks_over (ap is_blank e)) g ∙ (sym (indent_is (gap break) e u) ∙ w)

  -- all else is no indent
  pub ends_mark : (end : Option Node) (all : Nodes) (m : said.Mark) → class (sort_of (spot n)) ≡ mark m → Going end (before_left a) all → None ≡ indent_from None all
  ends_mark end all m e (u, g, w) = sym (indent_is (mark m) e u) ∙ w

  pub ends_value : (end : Option Node) (all : Nodes) → class (sort_of (spot n)) ≡ value → Going end (before_left a) all → None ≡ indent_from None all
  ends_value end all e (u, g, w) = sym (indent_is value e u) ∙ w

  pub ends_other : (end : Option Node) (all : Nodes) (r : told.Class) → r ≡ plain (class (sort_of (spot n))) → (r ≡ Comma) ⊎ ((r ≡ Mark) ⊎ (r ≡ Value)) → Going end (before_left a) all
      → None ≡ indent_from None all
  ends_other end all r l (inl e) g = ends_mark end all said.Comma (is_comma_lem _ (sym e ∙ l)) g
  ends_other end all r l (inr (inl e)) g = let m = is_mark (class (sort_of (spot n))) (sym e ∙ l) in ends_mark end all m.0 m.1 g
  ends_other end all r l (inr (inr e)) g = ends_value end all (class_is_value _ (sym e ∙ l)) g

-- where nothing is left, all is gathered
pub ends_all : (a : Preceding) (end : Option Node) (all : Nodes) → preceding_left a ≡ [] → Going end (before_left a) all → told_blanks end ≡ indent_from None all
ends_all a end all h (u, g, w) =
    let e = none_back a h in
    gathered_whole end (before_left a) u (ap (λ z. blanks z) e) g ∙ (ap (indent_from u) (sym e) ∙ w)
