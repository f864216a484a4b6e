-- The removal of a node with all below it.
use Rattle.std.proofs.Common.{◌≡◌, ℕ, ◌+◌, ◌<◌, ◌≤◌, List, length, refl, subst, inl, arith}
use Rattle.forest.specs.Forest.{Forest, count, size}
use Rattle.forest.specs.Edits.{delete, kids}
use Rattle.forest.specs.Links.{none}
use Rattle.forest.proofs.Frames.{owns_kept}
use Rattle.forest.proofs.Deletes.{del_count, del_size, kid_owns, prev_self, up_self}
use Rattle.table.specs.declared.node.Own.{Own}
use Rattle.table.specs.declared.node.Node.{Node}
use Rattle.table.specs.Nodes.{forest_at, own_of, up_of, prev_of}
use Rattle.table.specs.Writes.{unlinked}
use Rattle.table.specs.Sound.{Sound, Loose, Released}
use Rattle.table.proofs.ReadBack.{read_back}
use Rattle.table.proofs.Standing.{each_once, all_in, none_out, c_once, next_within, prev_within, up_within}
use Rattle.table.proofs.Cuts.{Cut, cut, cut_loose, cut_sound, subtree}

module _ (xs : List Node) (free : List ℕ) (ts : Forest Own) (h : Sound xs free ts) (c : ℕ) (o : 0 < count c ts) (nz : c ≡ 0 → ⊥) where
  pub is_cut : Cut xs c (unlinked xs c)
  is_cut = cut xs c (all_in xs free ts h c o) (up_within xs free ts h c o nz) (prev_within xs free ts h c o) (next_within xs free ts h c o)
      (prev_self c (prev_of xs) none ts (each_once xs free ts h) (none_out xs free ts h) (inl refl) (c_once xs free ts h c o) h.holds.prevs)

  pub is_loose : Loose (unlinked xs c) c (subtree xs c ts)
  is_loose = cut_loose xs (unlinked xs c) c ts is_cut (each_once xs free ts h) (none_out xs free ts h) (c_once xs free ts h c o) (all_in xs free ts h) h.small
      (up_self c (up_of xs) none ts (each_once xs free ts h) (none_out xs free ts h) (c_once xs free ts h c o) h.holds.ups) h.holds

  pub loose_size : size (subtree xs c ts) + length free ≤ length xs
  loose_size = omega (arith, h.sized, del_size c ts (c_once xs free ts h c o))

  pub loose_read : forest_at (unlinked xs c) c ≡ subtree xs c ts
  loose_read =
      read_back (unlinked xs c) (length (unlinked xs c)) (subtree xs c ts) (omega (arith, loose_size, is_cut.long))
      (omega (arith, del_count c none ts (c_once xs free ts h c o), none_out xs free ts h))
      (is_cut.own_all c, owns_kept (own_of xs) (own_of (unlinked xs c)) (kids c ts) (λ k _. is_cut.own_all k) (kid_owns c (own_of xs) ts (c_once xs free ts h c o) h.holds.owns), tt)
      is_loose.firsts is_loose.nexts

  pub remove_sound : (zs : List Node) (more : List ℕ) → Released (unlinked xs c) free (forest_at (unlinked xs c) c) zs more → Sound zs more (delete c ts)
  remove_sound zs more w =
      cut_sound xs free ts h c o nz (unlinked xs c) is_cut zs more (subst (λ y. Released (unlinked xs c) free y zs more) loose_read w)
