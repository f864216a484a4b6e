-- A builder that began with the root alone, and was told a text that fits, has the document that load gives. Assumes nothing.
use Rattle.std.proofs.Common.{◌≡◌, ℕ, zero, suc, ◌+◌, ◌-◌, ◌<◌, ◌≤◌, List, [], ◌∷◌, length, vec_items, vec_len, vec_capacity, sym, refl, ap, ◌∙◌, subst, ⊎_elim, append-nil, add-one, arith}
use Rattle.std.proofs.lemmas.Bool.{cases_eq}
use Rattle.grammar.specs.Layout.{levels}
use Rattle.grammar.specs.Pieces.{Pieces, nodes, stored, layout}
use Rattle.grammar.specs.Answer.{Answer, Read, read, Judged, good, bad_text, too_deep}
use Rattle.grammar.proofs.Whole.{right}
use Rattle.forest.specs.Forest.{end, node, count, size, occurs, map}
use Rattle.forest.proofs.Frames.{one_eq, one_other}
use Rattle.table.specs.Tables as table
use Rattle.table.proofs.Seen.{tree_size, records_few}
use Rattle.text.specs.Events.{events}
use Rattle.checking.specs.Counted.{fold}
use Rattle.model.specs.Nodes.{loaded, pieces}
use Rattle.model.specs.Asks as asks
use Rattle.model.specs.Fits.{Document}
use Rattle.model.specs.State.{up_from, loaded_state}
use Rattle.model.proofs.Loads.{pieces_numbered}
use Rattle.model.proofs.Loaded.{loads}
use Rattle.model.proofs.Places.{up_length}
use Rattle.tree.specs.Sorts.{own_for, Inside}
use Rattle.tree.specs.Well.{Well, below, whole, kids_in}
use Rattle.loader.specs.declared.builder.Builder.{Builder}
use Rattle.loader.specs.Sites.{Site, Built, site_of, step, root_own, bare_site, built_state}
use Rattle.loader.proofs.Grown.{laid, laid_size, Ready, grows}
use Rattle.loader.proofs.Sorted.{laid_sorts, laid_inside}

run_up : (k n : ℕ) → table.run k n ≡ up_from k n
run_up k zero = refl
run_up k (suc n) = ap (λ y. k ∷ y) (ap (λ y. table.run y n) (add-one k) ∙ run_up (suc k) n)

up_low : (k p n : ℕ) → k < p → occurs k (up_from p n) ≡ 0
up_low k p zero h = refl
up_low k p (suc n) h = omega (arith, one_other p k (λ e. omega arith), up_low k (suc p) n (omega arith))

up_once : (k p n : ℕ) → occurs k (up_from p n) ≤ 1
up_once k p zero = omega arith
up_once k p (suc n) =
    ⊎_elim (λ e. omega (arith, one_eq p k e, up_low k (suc p) n (omega arith))) (λ d. omega (arith, one_other p k d, up_once k (suc p) n)) (cases_eq p k)

level_of : (s : List ℕ) (a : Pieces) → {x : Answer} → Judged 64 s x → x ≡ Read a → levels (layout a) ≤ 64
level_of s a (good b l d p) e = let i : b ≡ a = cc in subst (λ y. levels (layout y) ≤ 64) i d
level_of s a (bad_text k h o f) e = let z : ◌≡◌ {A = ℕ} 0 1 = cc in absurd (omega arith)
level_of s a (too_deep k h) e = let z : ◌≡◌ {A = ℕ} 0 1 = cc in absurd (omega arith)

module _ (r m : ℕ) (a : Pieces) (few : suc (nodes a) ≤ r) (short : length (stored a) ≤ m) where
  apart : (k n : ℕ) → count k (node 0 root_own end end) + occurs k (up_from 1 n) ≤ 1
  apart k n =
      ⊎_elim (λ e. omega (arith, one_eq 0 k e, up_low k 1 n (omega arith))) (λ d. omega (arith, one_other 0 k d, up_once k 1 n)) (cases_eq 0 k)

  bare_ready : Ready (bare_site r m) 1 2 (r - suc (nodes a)) a
  bare_ready =
      let e : r - 1 ≡ nodes a + (r - suc (nodes a)) = omega arith in
      record {
        frees = run_up 1 (r - 1) ∙ ap (λ y. up_from 1 y) e;
        numbers = refl;
        holds = omega arith;
        apart = λ k. apart k (nodes a + (r - suc (nodes a)));
        stands = refl;
      }

  full : Site
  full = record {
    tree = node 0 root_own (laid 1 2 0 a) end;
    free = up_from (suc (nodes a)) (r - suc (nodes a));
    bytes = stored a;
    room = m;
    at = 0;
  }

  filled : fold step (bare_site r m) (events a) ≡ full
  unfolding full
  filled =
      let e : 1 + nodes a ≡ suc (nodes a) = omega arith in
      grows a (bare_site r m) 1 2 (r - suc (nodes a)) bare_ready
      ∙ ap (λ y. record { tree = node 0 root_own (laid 1 2 0 a) end; free = up_from y (r - suc (nodes a)); bytes = stored a; room = m; at = 0 }) e

  module _ (c b : Builder) (began : site_of c ≡ bare_site r m) (built : Built c (events a) b) where
    site : site_of b ≡ full
    unfolding Built
    site = built ∙ (ap (λ s. fold step s (events a)) began ∙ filled)

    tree_is : table.tree b.table ≡ node 0 root_own (laid 1 2 0 a) end
    unfolding full
    tree_is = ap (λ (s : Site). s.tree) site

    free_is : table.free b.table ≡ up_from (suc (nodes a)) (r - suc (nodes a))
    unfolding full
    free_is = ap (λ (s : Site). s.free) site

    bytes_is : vec_items b.store ≡ stored a
    unfolding full
    bytes_is = ap (λ (s : Site). s.bytes) site

    room_is : b.room ≡ m
    unfolding full
    room_is = ap (λ (s : Site). s.room) site

    store_long : vec_len b.store ≡ length (vec_items b.store)
    store_long = b.store.ok.0

    sorted : map (own_for (vec_items b.store)) (laid 1 2 0 a) ≡ loaded a
    sorted = laid_sorts 1 2 0 a [] [] (vec_items b.store) (bytes_is ∙ sym (append-nil (stored a))) refl

    whole_is : whole b.table (vec_items b.store) ≡ asks.tree (loaded a)
    unfolding whole
    whole_is = ap (λ y. map (own_for (vec_items b.store)) y) tree_is ∙ ap (λ y. asks.tree y) sorted

    kids_is : kids_in b.table (vec_items b.store) ≡ loaded a
    unfolding kids_in
    kids_is = ap below whole_is

    size_is : size (table.tree b.table) ≡ suc (nodes a)
    size_is = ap (λ y. size y) tree_is ∙ omega (arith, laid_size 1 2 0 a)

    records_is : table.records b.table ≡ r
    records_is = omega (arith, tree_size b.table, size_is, ap length free_is, up_length (suc (nodes a)) (r - suc (nodes a)))

    -- what it has built is a document
    pub built_well : (t : List ℕ) → read 64 t ≡ Read a → Well b.table (vec_items b.store) (size (table.tree b.table) + 1) b.room (vec_capacity b.store)
    built_well t e = record {
      rooted = whole_is ∙ ap (λ y. asks.tree y) (sym kids_is);
      document = subst Document (sym kids_is) (loads 64 t a e);
      shallow = subst (λ y. levels (layout (pieces y)) ≤ 64) (sym kids_is)
          (subst (λ y. levels (layout y) ≤ 64) (sym (pieces_numbered 1 2 a)) (level_of t a ((right 64).judges t) e));
      inside = subst (λ y. Inside (length (vec_items b.store)) y) (sym tree_is)
          (omega arith, laid_inside 1 2 0 (length (vec_items b.store)) a (omega (arith, ap length bytes_is)), tt);
      used = omega (arith, b.used, store_long);
      roomy = b.roomy;
      large = b.large;
      begun = omega (arith, size_is);
      few = omega (arith, tree_size b.table, records_few b.table);
    }

    -- in the state that load gives
    pub built_state_lem : built_state b ≡ loaded_state r m a
    built_state_lem =
        let f : size (table.tree b.table) + 1 ≡ suc (suc (nodes a)) = omega (arith, size_is) in
        let u : vec_len b.store ≡ length (stored a) = store_long ∙ ap length bytes_is in
        λ i. record { kids = kids_is i; fresh = f i; used = u i; edits = 0; records = records_is i; store = room_is i; free = free_is i }
