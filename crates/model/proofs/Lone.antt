-- A document has one value at most, so every value and member of it has a path. Assumes nothing.
use Rattle.std.proofs.Common.{◌≡◌, ℕ, zero, suc, Bool, true, false, List, Some, sym, refl, ap, ◌∙◌, arith}
use mathlib.Core.Bool.{false≢true}
use Rattle.std.proofs.lemmas.Option.{none-some}
use Rattle.grammar.specs.Layout.{Line, Block, Mark, Parts, nil, part}
use Rattle.grammar.specs.Pieces.{Leaf, null, boolean, number, string, name, token, whitespace, newline, comment}
use Rattle.forest.specs.Forest.{end, node}
use Rattle.model.specs.Nodes.{Handle, handle, Sort, root, within, single, Nodes, blank, break, remark, Class, gap, mark, value, class, pieces, parts, parts_at, label_of}
use Rattle.model.specs.Asks.{at}
use Rattle.model.specs.Fits.{top, items, next, here, step, run, Ends, role, takes, Taken, Document}
use Rattle.model.proofs.Prints.{no_dead}

-- no mark stands among the root's children
leaf_unmarked : (x : Leaf) (m : Mark) → takes top (role (single x)) ≡ true → class (single x) ≡ mark m → ⊥
leaf_unmarked null m t e = (let z : ◌≡◌ {A = ℕ} 0 1 = cc in omega arith)
leaf_unmarked (boolean b) m t e = (let z : ◌≡◌ {A = ℕ} 0 1 = cc in omega arith)
leaf_unmarked (number u) m t e = (let z : ◌≡◌ {A = ℕ} 0 1 = cc in omega arith)
leaf_unmarked (string u) m t e = (let z : ◌≡◌ {A = ℕ} 0 1 = cc in omega arith)
leaf_unmarked (name u) m t e = false≢true t
leaf_unmarked (token u) m t e = false≢true t
leaf_unmarked (whitespace u) m t e = (let z : ◌≡◌ {A = ℕ} 0 1 = cc in omega arith)
leaf_unmarked (newline u) m t e = (let z : ◌≡◌ {A = ℕ} 0 1 = cc in omega arith)
leaf_unmarked (comment u) m t e = (let z : ◌≡◌ {A = ℕ} 0 1 = cc in omega arith)

-- no node of a mark's class is taken at the root
unmarked : (s : Sort) (m : Mark) → takes top (role s) ≡ true → class s ≡ mark m → ⊥
unmarked root m t e = (let z : ◌≡◌ {A = ℕ} 0 1 = cc in omega arith)
unmarked (within b) m t e = (let z : ◌≡◌ {A = ℕ} 0 1 = cc in omega arith)
unmarked (single x) m t e = leaf_unmarked x m t e

-- behind the value there is none
none_after : (l : Bool) (ts : Nodes) → Taken top ts → Ends top (run (here next l) ts) → parts ts ≡ nil
none_after l end t e = refl
none_after l (node p i ks ts) t e = go (class i.sort) l (unmarked i.sort) refl e (λ k. none_after k ts t.1)
  where
    go : (c : Class) (l : Bool) → ((m : Mark) → takes top (role i.sort) ≡ true → class i.sort ≡ mark m → ⊥) → class i.sort ≡ c → Ends top (run (step (here next l) c) ts)
        → ((k : Bool) → Ends top (run (here next k) ts) → parts ts ≡ nil) → parts_at c (handle p i) (label_of i.sort (pieces ks)) (parts ks) (parts ts) ≡ nil
    go (gap blank) true u z e f = absurd (no_dead top ts e)
    go (gap blank) false u z e f = f false e
    go (gap break) true u z e f = f false e
    go (gap break) false u z e f = f false e
    go (gap (remark c)) true u z e f = absurd (no_dead top ts e)
    go (gap (remark (Line x))) false u z e f = f true e
    go (gap (remark (Block x))) false u z e f = f false e
    go (mark n) l u z e f = absurd (u n t.0 z)
    go value true u z e f = absurd (no_dead top ts e)
    go value false u z e f = absurd (no_dead top ts e)

-- parts are none, or one
abbrev pub Lone : Parts Handle → Type 0
Lone nil = Unit {0}
Lone (part i l ks ts) = ts ≡ nil

-- from where a value may come, one comes at most
lone_from : (l : Bool) (ts : Nodes) → Taken top ts → Ends top (run (here items l) ts) → Lone (parts ts)
lone_from l end t e = tt
lone_from l (node p i ks ts) t e = go (class i.sort) l (unmarked i.sort) refl e (λ k. lone_from k ts t.1) (none_after false ts t.1)
  where
    go : (c : Class) (l : Bool) → ((m : Mark) → takes top (role i.sort) ≡ true → class i.sort ≡ mark m → ⊥) → class i.sort ≡ c → Ends top (run (step (here items l) c) ts)
        → ((k : Bool) → Ends top (run (here items k) ts) → Lone (parts ts)) → (Ends top (run (here next false) ts) → parts ts ≡ nil) → Lone (parts_at c (handle p i) (label_of i.sort (pieces ks)) (parts ks) (parts ts))
    go (gap blank) true u z e f g = absurd (no_dead top ts e)
    go (gap blank) false u z e f g = f false e
    go (gap break) true u z e f g = f false e
    go (gap break) false u z e f g = f false e
    go (gap (remark c)) true u z e f g = absurd (no_dead top ts e)
    go (gap (remark (Line x))) false u z e f g = f true e
    go (gap (remark (Block x))) false u z e f g = f false e
    go (mark n) l u z e f g = absurd (u n t.0 z)
    go value true u z e f g = absurd (no_dead top ts e)
    go value false u z e f g = g e

-- a document has one value at most
pub lone : (ts : Nodes) → Document ts → Lone (parts ts)
lone ts d = lone_from false ts d.fits.taken d.fits.ends

-- so what is at an ordinal is at the first
pub first_only : (v : Parts Handle) (n : ℕ) (q : List ℕ) (h : Handle) → Lone v → at v n q ≡ Some h → n ≡ 0
first_only nil n q h l e = absurd (none-some h e)
first_only (part i m ks ts) zero q h l e = refl
first_only (part i m ks ts) (suc n) q h l e = absurd (none-some h (ap (λ y. at y n q) (sym l) ∙ e))
