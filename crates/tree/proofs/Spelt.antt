-- What a node prints itself, by groups of kinds. Assumes nothing.
use Rattle.std.proofs.Common.{◌≡◌, ℕ, ◌⊎◌, [], List, Some, inl, inr}
use Rattle.table.specs.declared.kind.Kind.TheVariants.{Root, Array, Object, Property, Number, String, Name, Whitespace, LineComment, BlockComment}
use Rattle.table.specs.declared.node.Own as record_of
use Rattle.table.specs.Tables as table
use Rattle.forest.specs.Asks.{own_in}
use Rattle.std.specs.Prelude.{vec_items}
use Rattle.model.specs.Asks.{spelt}
use Rattle.tree.specs.declared.tree.Tree.{Tree}
use Rattle.tree.specs.Sorts.{bytes_in}
use Rattle.tree.specs.Places.{spot_of, Stands}
use Rattle.tree.specs.Trees.{kids}
use Rattle.tree.proofs.Seen.{spelt_is}

module _ (t : Tree) (k : ℕ) (s : Stands k (kids t)) (o : record_of.Own) (e : Some o ≡ own_in k (table.tree t.table)) where
  -- the root and the containers print nothing themselves
  pub bare : (o.kind ≡ Root) ⊎ (o.kind ≡ Array) ⊎ (o.kind ≡ Object) ⊎ (o.kind ≡ Property) → ◌≡◌ {A = List ℕ} [] (spelt (spot_of k (kids t)).here.own.sort)
  bare (inl z) = spelt_is t k s o e Root z
  bare (inr (inl z)) = spelt_is t k s o e Array z
  bare (inr (inr (inl z))) = spelt_is t k s o e Object z
  bare (inr (inr (inr z))) = spelt_is t k s o e Property z

  -- a leaf whose bytes are stored prints them
  pub kept : (o.kind ≡ Name) ⊎ (o.kind ≡ Number) ⊎ (o.kind ≡ String) ⊎ (o.kind ≡ Whitespace) ⊎ (o.kind ≡ LineComment) ⊎ (o.kind ≡ BlockComment)
      → bytes_in (vec_items t.store) o ≡ spelt (spot_of k (kids t)).here.own.sort
  kept (inl z) = spelt_is t k s o e Name z
  kept (inr (inl z)) = spelt_is t k s o e Number z
  kept (inr (inr (inl z))) = spelt_is t k s o e String z
  kept (inr (inr (inr (inl z)))) = spelt_is t k s o e Whitespace z
  kept (inr (inr (inr (inr (inl z))))) = spelt_is t k s o e LineComment z
  kept (inr (inr (inr (inr (inr z))))) = spelt_is t k s o e BlockComment z
