-- One child of the root goes, and what is left when all have gone.
use mathlib.Core.Logic.{∥∥₁_elim}
use Rattle.std.proofs.Common.{◌≡◌, ℕ, suc, ◌+◌, ◌<◌, ◌≤◌, Bool, true, false, cond, ◌||◌, eqb, ltb, List, [], ◌∷◌, ◌++◌, reverse, length, Some, None, vec_items, vec_len, vec_capacity, sym, refl, ap, ◌∙◌, subst, append_assoc, arith, length-append}
use mathlib.Core.List.{reverse-append}
use native.Mathlib.Bridge.{le_prop}
use Rattle.std.proofs.lemmas.List.{length-reverse}
use Rattle.std.proofs.lemmas.Bool.{cond-true, cond-false, eq-eqb, ne_eqb, lt-ltb, le-ltb}
use Rattle.refusal.specs.declared.Refusal.TheVariants.{NoNode, NoText, Worn, BadMemory}
use Rattle.grammar.specs.Layout.{levels}
use Rattle.grammar.specs.Pieces.{layout}
use Rattle.table.specs.declared.kind.Kind.TheVariants as kinds
use Rattle.forest.specs.Forest.{Forest, end, node, one, count, size, places, map}
use Rattle.forest.specs.Asks.{head_of, first_in}
use Rattle.forest.specs.Edits.{delete, kids as kids_of, family}
use Rattle.forest.proofs.Frames.{one_same}
use Rattle.forest.proofs.Places.{length_places}
use Rattle.forest.proofs.Maps.{map_places}
use Rattle.table.specs.declared.node.Own as record_of
use Rattle.table.specs.declared.table.Table.{Table}
use Rattle.table.specs.Tables as table
use Rattle.table.proofs.Seen as of_table
use Rattle.model.specs.Nodes.{pieces}
use Rattle.model.specs.Asks.{tree}
use Rattle.model.specs.Fits.{Document}
use Rattle.model.specs.State.{State, Work, Given, Refused, Clear, accepted, judged, worn, cutting, missing, freeing, finished}
use Rattle.tree.specs.declared.tree.Tree.{Tree}
use Rattle.tree.specs.Cleared.{alone}
use Rattle.tree.specs.Sorts.{sort_for, bytes_in, own_for, Inside}
use Rattle.tree.specs.Well.{below, whole, kids_in, Well}
use Rattle.tree.specs.Trees.{kids, state}
use Rattle.tree.proofs.Seen.{root_is, bytes_inside}

-- the first child of the root: a node of the table, and not the root
module _ (t : Table) (c : ℕ) (e : Some c ≡ first_in 0 (table.tree t)) where
  record First : Type 0 where
    own : record_of.Own
    child : record_of.Own
    below_it : Forest record_of.Own
    behind_it : Forest record_of.Own
    is : table.tree t ≡ node 0 own (node c child below_it behind_it) end
    other : c ≡ 0 → ⊥

  first_child : First
  first_child = go (of_table.tree_root t)
    where
      take : (i : record_of.Own) (ks : Forest record_of.Own) → table.tree t ≡ node 0 i ks end → Some c ≡ head_of ks → First
      take i end q z = let w : ◌≡◌ {A = ℕ} 0 1 = cc in absurd (omega arith)
      take i (node p j js rs) q z =
          let w : p ≡ c = cc in
          let m : table.tree t ≡ node 0 i (node c j js rs) end = q ∙ ap (λ y. node 0 i (node y j js rs) end) w in
          record { own = i; child = j; below_it = js; behind_it = rs; is = m; other = λ y. omega (arith, of_table.tree_distinct t 0, ap (λ x. count 0 x) (m ∙ ap (λ x. node 0 i (node x j js rs) end) y)) }

      go : ((i : record_of.Own) × ((ks : Forest record_of.Own) × (table.tree t ≡ node 0 i ks end))) → First
      go (i, (ks, q)) = take i ks q (e ∙ ap (λ y. first_in 0 y) q)

  pub child_there : 0 < count c (table.tree t)
  child_there = (let f = first_child in let o : one c c ≡ 1 = one_same c in omega (arith, ap (λ y. count c y) f.is))

  pub child_inner : c ≡ 0 → ⊥
  child_inner = first_child.other

  module _ (u : Table) (d : table.tree u ≡ delete c (table.tree t)) (g : table.free u ≡ reverse (family c (table.tree t)) ++ table.free t) where
    -- the tree without it
    left : table.tree u ≡ node 0 first_child.own first_child.behind_it end
    left =
        let f = first_child in
        let R : Forest record_of.Own = f.behind_it in
        let N : Forest record_of.Own = node c f.child f.below_it R in
        d ∙ (ap (delete c) f.is
        ∙ (cond-false (eqb 0 c) end (node 0 f.own (delete c N) end) (ne_eqb 0 c (λ z. f.other (sym z)))
        ∙ ap (λ y. node 0 f.own y end) (cond-true (eqb c c) R (node c f.child (delete c f.below_it) (delete c R)) (eq-eqb c c refl))))

    kin : family c (table.tree t) ≡ c ∷ places first_child.below_it
    kin =
        let f = first_child in
        let N : Forest record_of.Own = node c f.child f.below_it f.behind_it in
        let o : one c c ≡ 1 = one_same c in
        ap (λ y. c ∷ places y) (ap (kids_of c) f.is
        ∙ (cond-false (eqb 0 c) N (cond (ltb 0 (count c N)) (kids_of c N) end) (ne_eqb 0 c (λ z. f.other (sym z)))
        ∙ (cond-true (ltb 0 (count c N)) (kids_of c N) end (lt-ltb 0 (count c N) (omega arith))
        ∙ cond-true (eqb c c) f.below_it (cond (ltb 0 (count c f.below_it)) (kids_of c f.below_it) (kids_of c f.behind_it)) (eq-eqb c c refl))))

    pub fewer : size (table.tree u) < size (table.tree t)
    fewer = (let f = first_child in omega (arith, ap (λ y. size y) left, ap (λ y. size y) f.is))

    pub same_root : alone (table.tree u) ≡ alone (table.tree t)
    same_root = ap alone left ∙ sym (ap alone first_child.is)

    pub given_back : reverse (places (below (table.tree u))) ++ table.free u ≡ reverse (places (below (table.tree t))) ++ table.free t
    given_back =
        let f = first_child in
        let A : List ℕ = c ∷ places f.below_it in
        let B : List ℕ = places f.behind_it in
        ap (λ y. reverse (places (below y)) ++ table.free u) left
        ∙ (ap (λ y. reverse B ++ y) (g ∙ ap (λ y. reverse y ++ table.free t) kin)
        ∙ (sym (append_assoc (reverse B) (reverse A) (table.free t))
        ∙ (ap (λ y. y ++ table.free t) (sym (reverse-append A B)) ∙ ap (λ y. reverse (places (below y)) ++ table.free t) (sym f.is))))

-- none is left
pub all_gone : (t : Table) → None ≡ first_in 0 (table.tree t) → (table.tree t ≡ alone (table.tree t)) × (places (below (table.tree t)) ≡ [])
all_gone t e = go (of_table.tree_root t)
  where
    end_of : (i : record_of.Own) (ks : Forest record_of.Own) → table.tree t ≡ node 0 i ks end → None ≡ head_of ks → (table.tree t ≡ alone (table.tree t)) × (places (below (table.tree t)) ≡ [])
    end_of i end q z = (q ∙ sym (ap alone q), ap (λ y. places (below y)) q)
    end_of i (node p j js rs) q z = let w : ◌≡◌ {A = ℕ} 0 1 = cc in absurd (omega arith)

    go : ((i : record_of.Own) × ((ks : Forest record_of.Own) × (table.tree t ≡ node 0 i ks end))) → (table.tree t ≡ alone (table.tree t)) × (places (below (table.tree t)) ≡ [])
    go (i, (ks, q)) = end_of i ks q (e ∙ ap (λ y. first_in 0 y) q)

-- what the ghost field says of the sizes
limits : (t : Tree) → (length (vec_items t.store) ≤ t.room) × (t.room ≤ vec_capacity t.store) × (t.room ≤ 1048576) × (1 < t.fresh) × (t.fresh ≤ 4294967296)
limits t =
    let a : length (vec_items t.store) ≤ t.room = ∥∥₁_elim t.ok le_prop (λ w. w.used) in
    let b : t.room ≤ vec_capacity t.store = ∥∥₁_elim t.ok le_prop (λ w. w.roomy) in
    let c : t.room ≤ 1048576 = ∥∥₁_elim t.ok le_prop (λ w. w.large) in
    let d : 1 < t.fresh = ∥∥₁_elim t.ok le_prop (λ w. w.begun) in
    let e : t.fresh ≤ 4294967296 = ∥∥₁_elim t.ok le_prop (λ w. w.few) in
    (a, b, c, d, e)

-- what clear answers: Worn where no further edit is counted, and else its plan
module _ (d : State) (w : Work) (r : 0 < d.records) (u : d.used ≤ d.store) (f : d.fresh ≤ 4294967296) where
  judged_clear : (b : Bool) → worn d (cutting end) ≡ b → accepted d w Clear ≡ cond b (Refused Worn) (Given (cutting end))
  judged_clear b e =
      ap (λ y. cond (y || false) (Refused BadMemory) (judged d (cutting end))) (ne_eqb d.records 0 (λ z. omega arith))
      ∙ (cond-false (ltb d.records 1) (Refused NoNode) _ (le-ltb d.records 1 (omega arith))
      ∙ (cond-false (ltb d.store (d.used + 0)) (Refused NoText) _ (le-ltb d.store (d.used + 0) (omega arith)) ∙ ap (λ y. cond y (Refused Worn) (Given (cutting end))) e))

  pub clear_worn : d.edits ≡ 4294967295 → accepted d w Clear ≡ Refused Worn
  clear_worn e = judged_clear true (ap (λ y. y || ltb 4294967296 (d.fresh + 0)) (lt-ltb 4294967295 (d.edits + 1) (omega arith)))

  pub clear_goes : d.edits < 4294967295 → accepted d w Clear ≡ Given (cutting end)
  clear_goes e =
      judged_clear false (ap (λ y. y || ltb 4294967296 (d.fresh + 0)) (le-ltb 4294967295 (d.edits + 1) (omega arith)) ∙ le-ltb 4294967296 (d.fresh + 0) (omega arith))

-- every place is missing in an empty tree
missing_all : (ps : List ℕ) → missing ps end ≡ ps
missing_all [] = refl
missing_all (p ∷ ps) = ap (λ y. p ∷ y) (missing_all ps)

freeing_reverse : (ps fs : List ℕ) → freeing ps fs ≡ reverse ps ++ fs
freeing_reverse [] fs = refl
freeing_reverse (p ∷ ps) fs =
    freeing_reverse ps (p ∷ fs) ∙ (sym (append_assoc (reverse ps) (p ∷ []) fs) ∙ ap (λ y. y ++ fs) (sym (reverse-append (p ∷ []) ps)))

-- the tree t whose table has become v, with the root alone in it
module _ (t : Tree) (v : Table) (forest : table.tree v ≡ alone (table.tree t.table))
    (given : table.free v ≡ reverse (places (below (table.tree t.table))) ++ table.free t.table) where
  abbrev Root : Type 0
  Root = (i : record_of.Own) × (ks : Forest record_of.Own) × (table.tree t.table ≡ node 0 i ks end) × (i.number ≡ 1) × (i.kind ≡ kinds.Root)

  root_left : (r : Root) → table.tree v ≡ node 0 r.0 end end
  root_left r = forest ∙ ap alone r.2

  no_kids : kids_in v (vec_items t.store) ≡ end
  unfolding kids_in whole
  no_kids = ap (λ y. below (map (own_for (vec_items t.store)) y)) (root_left (root_is t))

  whole_left : whole v (vec_items t.store) ≡ tree end
  unfolding whole
  whole_left =
      let r = root_is t in
      let f = own_for (vec_items t.store) in
      ap (map f) (root_left r)
      ∙ ap (λ y. node 0 y end end) (ap (λ y. record { number = y; sort = sort_for r.0.kind (bytes_in (vec_items t.store) r.0) }) r.3 ∙ ap (λ y. record { number = 1; sort = sort_for y (bytes_in (vec_items t.store) r.0) }) r.4)

  pub cleared_well : Well v (vec_items t.store) t.fresh t.room (vec_capacity t.store)
  cleared_well =
      let l = limits t in
      let r = root_is t in
      record {
        rooted = whole_left ∙ ap tree (sym no_kids);
        document = subst Document (sym no_kids) (record { fits = record { ends = tt; taken = tt }; whole = tt });
        shallow = subst (λ y. levels (layout (pieces y)) ≤ 64) (sym no_kids) (omega arith);
        inside = subst (Inside (length (vec_items t.store))) (sym (root_left r)) ((subst (Inside (length (vec_items t.store))) r.2 (bytes_inside t)).0, tt, tt);
        used = l.0;
        roomy = l.1;
        large = l.2;
        begun = l.3;
        few = l.4;
      }

  places_are : places (below (table.tree t.table)) ≡ places (kids t)
  unfolding kids_in whole
  places_are =
      let r = root_is t in
      let f = own_for (vec_items t.store) in
      ap (λ y. places (below y)) r.2 ∙ (sym (map_places f r.1) ∙ ap (λ y. places (below (map f y))) (sym r.2))

  records_same : table.records v ≡ table.records t.table
  records_same =
      let r = root_is t in
      let P : List ℕ = places (below (table.tree t.table)) in
      omega (
        arith,
        of_table.tree_size v,
        of_table.tree_size t.table,
        ap (λ y. size y) (root_left r),
        ap (λ y. size y) r.2,
        ap length given,
        length-append (reverse P) (table.free t.table),
        length-reverse P,
        ap (λ y. length (places (below y))) r.2,
        length_places r.1,
      )

  pub cleared_state : record { kids = kids_in v (vec_items t.store); fresh = t.fresh; used = vec_len t.store; edits = t.edits + 1; records = table.records v; store = t.room; free = table.free v } ≡ finished (state t) (cutting end)
  cleared_state =
      let a : t.fresh ≡ t.fresh + 0 = omega arith in
      let b : vec_len t.store ≡ vec_len t.store + 0 = omega arith in
      let e : t.edits + 1 ≡ suc t.edits = omega arith in
      let g : table.free v ≡ freeing (missing (places (kids t)) end) (table.free t.table) =
      given ∙ (ap (λ y. reverse y ++ table.free t.table) places_are ∙ (sym (freeing_reverse (places (kids t)) (table.free t.table)) ∙ ap (λ y. freeing y (table.free t.table)) (sym (missing_all (places (kids t)))))) in
      λ i. record { kids = no_kids i; fresh = a i; used = b i; edits = e i; records = records_same i; store = t.room; free = g i }

-- the sizes, as clear asks for them
pub clear_sizes : (t : Tree) → (0 < (state t).records) × ((state t).used ≤ (state t).store) × ((state t).fresh ≤ 4294967296)
clear_sizes t =
    let l = limits t in
    let r = root_is t in
    let n : vec_len t.store ≡ length (vec_items t.store) = t.store.ok.0 in
    (omega (arith, of_table.tree_size t.table, ap (λ y. size y) r.2), omega (arith, l.0), l.4)
