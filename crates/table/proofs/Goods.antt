-- What each write makes of a good table.
use Rattle.std.proofs.Common.{◌≡◌, ℕ, ◌+◌, ◌<◌, ◌≤◌, List, [], ◌∷◌, ◌++◌, length, sym, ap, ◌∙◌, subst, append-nil, arith}
use Rattle.forest.specs.Forest.{Forest, count, size, places}
use Rattle.forest.specs.Edits.{ins_after, ins_first, delete, kids, family}
use Rattle.table.specs.declared.node.Own.{Own}
use Rattle.table.specs.declared.node.Node.{Node}
use Rattle.table.specs.Nodes.{forest_at}
use Rattle.table.specs.Writes.{link_after, link_first, unlinked}
use Rattle.table.specs.Sound.{Sound, Good, Loose, Released}
use Rattle.table.proofs.ReadBack.{sound_read}
use Rattle.table.proofs.Added.{top_within}
use Rattle.table.proofs.After.{after_sound, is_linked}
use Rattle.table.proofs.First.{first_sound, is_headed}
use Rattle.table.proofs.Removes.{is_cut, loose_read, loose_size, is_loose, remove_sound}

-- a sound table's forest is the one that is read back
pub sound_tree : (xs : List Node) (fs : List ℕ) (ts : Forest Own) → Sound xs fs ts → forest_at xs 0 ≡ ts
sound_tree xs fs ts h = ap (λ k. forest_at xs k) (sym h.starts) ∙ sound_read xs fs ts h

pub sound_good : (xs : List Node) (fs : List ℕ) (ts : Forest Own) (room : ℕ) → Sound xs fs ts → length xs ≤ room → Good xs fs room × (forest_at xs 0 ≡ ts)
sound_good xs fs ts room h l =
    (record { sound = subst (λ y. Sound xs fs y) (sym (sound_tree xs fs ts h)) h; roomy = l }, sound_tree xs fs ts h)

-- a leaf at the place n on top of the stack, after s
module _ (xs : List Node) (fs : List ℕ) (n s room : ℕ) (all : List ℕ) (top : all ≡ fs ++ n ∷ []) (g : Good xs all room) (c : 0 < count s (forest_at xs 0)) where
  ts : Forest Own
  ts = forest_at xs 0

  S : Sound xs (fs ++ n ∷ []) (forest_at xs 0)
  S = subst (λ y. Sound xs y (forest_at xs 0)) top g.sound

  pub top_in : n < length xs
  top_in = top_within xs fs n (forest_at xs 0) S

  pub first_good : (i : Own) → (i.number ≡ 0 → ⊥) → (ys : List Node) → ys ≡ link_first xs s n i
      → Good ys fs room × (forest_at ys 0 ≡ ins_first s n i (forest_at xs 0))
  first_good i nz ys e =
      subst (λ y. Good y fs room × (forest_at y 0 ≡ ins_first s n i (forest_at xs 0))) (sym e)
      (sound_good (link_first xs s n i) fs (ins_first s n i (forest_at xs 0)) room (first_sound xs fs n s (forest_at xs 0) S c i nz)
      (omega (arith, g.roomy, (is_headed xs fs n s (forest_at xs 0) S c i).long)))

  module _ (r : s ≡ 0 → ⊥) where
    pub after_good : (i : Own) → (i.number ≡ 0 → ⊥) → (ys : List Node) → ys ≡ link_after xs s n i
        → Good ys fs room × (forest_at ys 0 ≡ ins_after s n i (forest_at xs 0))
    after_good i nz ys e =
        subst (λ y. Good y fs room × (forest_at y 0 ≡ ins_after s n i (forest_at xs 0))) (sym e)
        (sound_good (link_after xs s n i) fs (ins_after s n i (forest_at xs 0)) room (after_sound xs fs n s (forest_at xs 0) S c r i nz)
        (omega (arith, g.roomy, (is_linked xs fs n s (forest_at xs 0) S c r i).long)))

-- without the node c, which is cut off and then given back
module _ (xs : List Node) (fs : List ℕ) (room c : ℕ) (g : Good xs fs room) (o : 0 < count c (forest_at xs 0)) (r : c ≡ 0 → ⊥) (ys : List Node) (e : ys ≡ unlinked xs c) where
  pub cut_loose : Loose ys c (forest_at ys c)
  cut_loose =
      subst (λ y. Loose y c (forest_at y c)) (sym e)
      (subst (λ y. Loose (unlinked xs c) c y) (sym (loose_read xs fs (forest_at xs 0) g.sound c o r)) (is_loose xs fs (forest_at xs 0) g.sound c o r))

  read_family : places (forest_at ys c) ≡ family c (forest_at xs 0)
  read_family = ap (λ y. places (forest_at y c)) e ∙ (ap places (loose_read xs fs (forest_at xs 0) g.sound c o r) ∙ ap (λ y. c ∷ y) (append-nil (places (kids c (forest_at xs 0)))))

  pub cut_room : length fs + size (forest_at ys c) ≤ room
  cut_room =
      omega (arith, ap (λ y. size (forest_at y c)) e ∙ ap size (loose_read xs fs (forest_at xs 0) g.sound c o r), loose_size xs fs (forest_at xs 0) g.sound c o r, g.roomy)

  pub remove_good : (zs : List Node) (more : List ℕ) → Released ys fs (forest_at ys c) zs more
      → Good zs more room × (forest_at zs 0 ≡ delete c (forest_at xs 0))
  remove_good zs more w =
      let w' : Released (unlinked xs c) fs (forest_at (unlinked xs c) c) zs more = subst (λ y. Released y fs (forest_at y c) zs more) e w in
      sound_good zs more (delete c (forest_at xs 0)) room (remove_sound xs fs (forest_at xs 0) g.sound c o r zs more w')
      (omega (arith, g.roomy, w'.long, (is_cut xs fs (forest_at xs 0) g.sound c o r).long))

  pub remove_stack : (zs : List Node) (more : List ℕ) → Released ys fs (forest_at ys c) zs more → more ≡ fs ++ family c (forest_at xs 0)
  remove_stack zs more w = w.stack ∙ ap (λ y. fs ++ y) read_family
