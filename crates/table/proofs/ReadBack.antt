-- The forest that a table stands for is read back from it.
use Rattle.std.proofs.Common.{◌≡◌, ℕ, zero, suc, ◌≤◌, eqb, List, length, refl, ap, ◌∙◌, arith}
use Rattle.std.proofs.lemmas.Bool.{ne_eqb, cond-false}
use Rattle.forest.specs.Forest.{Forest, end, node, count, size, head_or}
use Rattle.forest.specs.Links.{none, Owns, Nexts, Firsts}
use Rattle.forest.proofs.Frames.{one_eq}
use Rattle.table.specs.declared.node.Own.{Own}
use Rattle.table.specs.declared.node.Node.{Node}
use Rattle.table.specs.Nodes.{own_of, next_of, first_of, read}
use Rattle.table.specs.Sound.{Sound}
use Rattle.table.proofs.Standing.{none_out}

pub read_back : (xs : List Node) (n : ℕ) (ts : Forest Own) → size ts ≤ n → count none ts ≡ 0
    → Owns (own_of xs) ts → Firsts (first_of xs) ts → Nexts (next_of xs) ts → read xs n (head_or ts none) ≡ ts
read_back xs zero end l z i f x = refl
read_back xs (suc n) end l z i f x = refl
read_back xs zero (node p j ks ts) l z i f x = absurd (omega arith)
read_back xs (suc n) (node p j ks ts) l z i f x =
    cond-false (eqb p none) end (node p (own_of xs p) (read xs n (first_of xs p)) (read xs n (next_of xs p))) (ne_eqb p none (λ e. omega (arith, one_eq p none e)))
    ∙ (ap (λ y. node p y (read xs n (first_of xs p)) (read xs n (next_of xs p))) i.0
    ∙ (ap (λ y. node p j y (read xs n (next_of xs p))) (ap (λ y. read xs n y) f.0 ∙ read_back xs n ks (omega arith) (omega arith) i.1 f.1 x.1)
    ∙ ap (λ y. node p j ks y) (ap (λ y. read xs n y) x.0 ∙ read_back xs n ts (omega arith) (omega arith) i.2 f.2 x.2)))

pub sound_read : (xs : List Node) (free : List ℕ) (ts : Forest Own) → Sound xs free ts → read xs (length xs) (head_or ts none) ≡ ts
sound_read xs free ts h =
    read_back xs (length xs) ts (omega (arith, h.sized))
    (none_out xs free ts h)
    h.holds.owns h.holds.firsts h.holds.nexts
