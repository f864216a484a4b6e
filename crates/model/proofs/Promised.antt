-- The promise: what every history of a loaded document gives. Assumes nothing.
use Rattle.std.proofs.Common.{◌≡◌, ℕ, zero, suc, ◌≤◌, Bool, true, false, cond, ◌||◌, T, eqb, ltb, List, [], ◌∷◌, length, Some, None, Option, sym, refl, ap, ◌∙◌, subst, inl, inr, arith}
use mathlib.Core.Bool.{false≢true}
use Rattle.std.proofs.lemmas.Bool.{cond_both, cond-true, eq-eqb, ltb-true}
use Rattle.std.proofs.lemmas.Option.{same_Some, none-some}
use Rattle.grammar.specs.Layout.{meaning, levels, notes, Parts, nil, part}
use Rattle.grammar.specs.Pieces.{Pieces, layout}
use Rattle.grammar.specs.Answer.{Read, Judged, good}
use Rattle.grammar.proofs.Whole.{right}
use Rattle.forest.specs.Forest.{end, node, count}
use Rattle.refusal.specs.declared.Refusal.TheVariants.{NotHere, Gone, BadMemory, Short}
use Rattle.model.specs.Nodes.{Handle, handle, same, Sort, root, within, single, Nodes, Class, gap, mark, value, class, pieces, parts, parts_at, label_of}
use Rattle.model.specs.Asks.{Spot, tree, named, numbered_so, then, is_some, sort_of, is_root, bracketed, root_handle, at, at_path, way_to, path_to, path, or_else, inside, behind}
use Rattle.model.specs.Fits.{bare}
use Rattle.model.specs.Written.{Value}
use Rattle.model.specs.Sources.{Sourced}
use Rattle.model.specs.State.{State, Outcome, Refused, Given, and_then, unless, present, load, Plan, Edit, Remove, Replace, SetValue, SetRoot, Clear, SetTrailingCommas, EnsureMultiline, map_edit, Work, levels_of, planned, accepted, after_outcome, unloaded, print_answer, path_answer, commas_plan, multiline_plan}
use Rattle.model.specs.Account.{Call, Do, Print, Ask, Account, with_handles, opened, layout_of, done, next, account}
use Rattle.model.specs.Accounted.{RemovesSo, ReplacesSo, SetsSo}
use Rattle.model.specs.Promise.{printing, answered, at_of, takes, makes, after_call, Run, over, goes, fed, feds, makes_all, account_of, in_account, Known, Promise, Over, meant, ThePromise}
use Rattle.model.specs.Given.{Held}
use Rattle.model.proofs.Edited.{at_once}
use Rattle.model.proofs.Stand.{stand}
use Rattle.model.proofs.Spots.{Spotted, the_root, a_node, spot_found}
use Rattle.model.proofs.Lying.{named_spot, same_refl, way_past, way_down}
use Rattle.model.proofs.Places.{held_placed, load_ways, load_held}
use Rattle.model.proofs.Moves.{found_at, at_found, held_once, gone_kind, sourced_showing, load_document, loaded_lasting}
use Rattle.model.proofs.Leaves.{accepted_planned}
use Rattle.model.proofs.Settled.{account_laws, has_parent}
use Rattle.model.proofs.Puts.{with_at}
use Rattle.model.proofs.Lone.{Lone, lone}
use Rattle.model.proofs.Whereabouts.{standing, stands_there, depth, meaning_levels}
use Rattle.model.proofs.Agrees.{Agree, reads, is_loaded, at_of_lem, named_of, edit_agrees}

-- a newly loaded document is within 64 levels
load_shallow : (r m : ℕ) (t : List ℕ) (d : State) → load r m t ≡ Given d → depth (parts d.kids) ≤ 64
load_shallow r m t d = load_ways (λ y. depth (parts y.kids) ≤ 64) r m t d (λ a e l. omega (arith, meaning_levels (layout a), ap levels_of (stand.loaded_says a).1, within_levels (subst (Judged 64 t) e ((right 64).judges t))))
  where
    within_levels : {a : Pieces} → Judged 64 t (Read a) → levels (layout a) ≤ 64
    within_levels (good a s l p) = l

-- one value at most, with the handles that its paths answer
with_own_lem : (f : List ℕ → Option Handle) (v : Parts Handle) → Lone v → ((p : List ℕ) → f p ≡ at v 0 p) → with_handles f (bare v) ≡ v
with_own_lem f nil o e = refl
with_own_lem f (part i l ks ts) o e = with_at f (part i l ks ts) o e

-- a newly loaded document and its opened account agree
opened_agrees : (r m : ℕ) (t : List ℕ) (d : State) → load r m t ≡ Given d → Agree d (opened (layout_of (printing d)) (at_of d))
opened_agrees r m t d l =
    let D = load_document r m t d l in
    let H = load_held r m t d l in
    let S = load_shallow r m t d l in
    let y = reads d D S in
    record {
      document = D;
      held = H;
      shallow = S;
      value = ap (λ z. with_handles (at_of d) (meaning z)) y ∙ (ap (with_handles (at_of d)) (sym (stand.document_says d.kids D).1) ∙ with_own_lem (at_of d) (parts d.kids) (lone d.kids D) (at_of_lem d H));
      remarks = ap notes y ∙ sym (stand.document_says d.kids D).0;
      left = λ h n. absurd n;
    }

module _ {S : Type 0} (says : S → Value) (k : (s : S) → Sourced (says s)) where
  -- one call keeps document and account agreeing
  call_agrees : (d : State) (c : Call S) (a : Account) → Agree d a → Agree (after_call says d c) (next says a (fed says d c))
  call_agrees d (Do e w) a A = go (accepted d w (map_edit says e)) refl
    where
      go : (o : Outcome Plan) → accepted d w (map_edit says e) ≡ o → Agree (after_outcome d o) (cond (is_some (answered o)) (done a (map_edit says e) (layout_of (printing d)) (at_of (after_outcome d o))) a)
      go (Refused r) q = A
      go (Given x) q = edit_agrees d w (map_edit says e) a A (sourced_showing says k e) x q
  call_agrees d (Print n) a A = A
  call_agrees d (Ask h) a A = A

  -- so do all
  run_agrees : (d : State) (cs : List (Call S)) (e : State) → Run says d cs e → (a : Account) → Agree d a → Agree e (account says a (feds says d cs))
  run_agrees _ _ _ (over d) a A = A
  run_agrees _ _ _ (goes d c cs e r) a A = run_agrees (after_call says d c) cs e r (next says a (fed says d c)) (call_agrees d c a A)

  -- what one call does is what an accepted edit makes, or nothing
  call_made : (d : State) (c : Call S) → after_call says d c ≡ cond (takes says d c) (makes says d c) d
  call_made d (Do e w) = go (accepted d w (map_edit says e)) refl
    where
      go : (o : Outcome Plan) → accepted d w (map_edit says e) ≡ o → after_outcome d o ≡ cond (is_some (answered o)) (after_outcome d (planned d (map_edit says e))) d
      go (Refused r) q = refl
      go (Given x) q = ap (after_outcome d) (sym (accepted_planned d w (map_edit says e) x q))
  call_made d (Print n) = refl
  call_made d (Ask h) = refl

  -- a run is what the accepted edits make
  run_made : (d : State) (cs : List (Call S)) (e : State) → Run says d cs e → e ≡ makes_all says d (feds says d cs)
  run_made _ _ _ (over d) = refl
  run_made _ _ _ (goes d c cs e r) = run_made (after_call says d c) cs e r ∙ ap (λ y. makes_all says y (feds says (after_call says d c) cs)) (call_made d c)

-- printing with room enough
prints_all : (e : State) → Held e → (n : ℕ) → length (printing e) ≤ n → print_answer e n ≡ Given (printing e)
prints_all e H n l =
    ap (λ b. unless b BadMemory (unless (ltb n (length (printing e))) (Short (length (printing e))) (Given (printing e)))) (is_loaded e H)
    ∙ cond_both (ltb n (length (printing e))) (Refused (Short (length (printing e)))) (Given (printing e)) (λ y. y ≡ Given (printing e)) (λ z. absurd (omega (arith, ltb-true n (length (printing e)) z))) (λ z. refl)

-- what stands at a path has that way
at_way : (ts : Nodes) (n : ℕ) (q : List ℕ) (h : Handle) → at (parts ts) n q ≡ Some h → count h.place ts ≤ 1 → way_to h (parts ts) ≡ Some (n, q)
at_way end n q h e o = absurd (none-some h e)
at_way (node p i ks ts) n q h e o = go (λ j q. at_way ks j q h) (λ j q. at_way ts j q h) (class i.sort) refl n q e
  where
    V : Class → Parts Handle
    V c = parts_at c (handle p i) (label_of i.sort (pieces ks)) (parts ks) (parts ts)

    go : ((j : ℕ) (q : List ℕ) → at (parts ks) j q ≡ Some h → count h.place ks ≤ 1 → way_to h (parts ks) ≡ Some (j, q)) → ((j : ℕ) (q : List ℕ) → at (parts ts) j q ≡ Some h → count h.place ts ≤ 1 → way_to h (parts ts) ≡ Some (j, q))
        → (c : Class) → class i.sort ≡ c → (n : ℕ) (q : List ℕ) → at (V c) n q ≡ Some h → way_to h (V c) ≡ Some (n, q)
    go A B (gap g) z n q e = (let c = stands_there h ts n q e in way_past h p i ks ts n q o c (B n q e (omega arith)) (gap g))
    go A B (mark g) z n q e = (let c = stands_there h ts n q e in way_past h p i ks ts n q o c (B n q e (omega arith)) (mark g))
    go A B value z zero [] e = cond-true (same (handle p i) h) (Some (0, [])) (or_else (inside (way_to h (parts ks))) (behind (way_to h (parts ts)))) (ap (λ y. same y h) (same_Some (handle p i) h e) ∙ same_refl h)
    go A B value z zero (j ∷ q) e = (let c = stands_there h ks j q e in sym (ap (λ c. way_to h (parts_at c (handle p i) (label_of i.sort (pieces ks)) (parts ks) (parts ts))) z) ∙ way_down h p i ks ts j q z o c (A j q e (omega arith)))
    go A B value z (suc n) q e = (let c = stands_there h ts n q e in way_past h p i ks ts n q o c (B n q e (omega arith)) value)

-- what stands at a path answers with it
path_answers : (e : State) → Held e → (p : List ℕ) (h : Handle) (n : ℕ) → 128 ≤ n → at_path (parts e.kids) p ≡ Some h → path_answer e h n ≡ Given p
path_answers e H p h n l a =
    let x = standing e.kids 0 p h a in
    let s = at_found h.place [] end (tree e.kids) x.own x.kids (held_once e H h.place) (inr (inl x.stands)) in
    let m : named h e.kids ≡ Some s.0 = ap (λ y. then y (numbered_so h.number)) s.1 ∙ cond-true (eqb s.0.here.own.number h.number) (Some s.0) None (eq-eqb s.0.here.own.number h.number (ap (λ y. y.number) s.2 ∙ x.number)) in
    let w : path h (parts e.kids) ≡ Some p = ap path_to (at_way e.kids 0 p h a ((held_placed e H).once h.place)) in
    cond_both (ltb n 128) (Refused BadMemory) (unless (unloaded e) BadMemory (and_then (present Gone (named h e.kids)) (λ s. present NotHere (path h (parts e.kids))))) (λ y. y ≡ Given p)
    (λ z. absurd (omega (arith, ltb-true n 128 z)))
    (λ z. (ap (λ b. unless b BadMemory (and_then (present Gone (named h e.kids)) (λ s. present NotHere (path h (parts e.kids))))) (is_loaded e H)
    ∙ (ap (λ y. and_then (present Gone y) (λ s. present NotHere (path h (parts e.kids)))) m ∙ ap (present NotHere) w)))

-- KNOWN HANDLES

-- a path in the document is one in the account
has : (e : State) (a : Account) → Agree e a → (h : Handle) (p : List ℕ) → path h (parts e.kids) ≡ Some p → T (in_account a h)
has e a A h p q = subst (λ o. T (is_some o)) (sym (ap (path h) A.value ∙ q)) tt

-- a value or member that is named and is not the root has a path
node_has : (e : State) (a : Account) → Agree e a → (h : Handle) (s : Spot) → named h e.kids ≡ Some s → class (sort_of s) ≡ value → Spotted h.place e.kids s → (s.here.own.sort ≡ root → T (in_account a h)) → T (in_account a h)
node_has e a A h s n c (the_root _ z _ _ _) r = r z
node_has e a A h s n c (a_node _ _ q) r =
    let f = has_parent h.place e.kids s.here.own s.kids s.ups q in
    let x = account_laws.named_has_path h e.kids s f.0 f.1 A.document (held_placed e A.held) n f.2 c in
    has e a A h x.0 x.1.has_path

-- an array or object is a value
bracketed_value : (s : Sort) → bracketed s ≡ true → class s ≡ value
bracketed_value root e = refl
bracketed_value (within b) e = refl
bracketed_value (single x) e = absurd (false≢true e)

-- so is what is the root or one of these
either_value : (s : Sort) → is_root s || bracketed s ≡ true → class s ≡ value
either_value root e = refl
either_value (within b) e = refl
either_value (single x) e = absurd (false≢true e)

-- a test that gave a plan held
held_test : (b : Bool) (x y : Plan) → cond b (Given x) (Refused NotHere) ≡ Given y → b ≡ true
held_test true x y e = refl
held_test false x y e = (let z : ◌≡◌ {A = ℕ} 0 1 = cc in absurd (omega arith))

-- the second of two tests is enough
or_right : (b c : Bool) → T c → T (b || c)
or_right true c t = tt
or_right false c t = t

-- the root, or a node with a path
commas_known : (e : State) (a : Account) → Agree e a → (h : Handle) (s : Spot) → named h e.kids ≡ Some s → class (sort_of s) ≡ value → Spotted h.place e.kids s → T (same root_handle h || in_account a h)
commas_known e a A h s n c (the_root z r pl ks us) =
    let m = named_spot h e.kids s n in
    let f = found_at h.place [] end (tree e.kids) s m.0 in
    let o = at_once h.place (record { number = 1; sort = root }) s.here.own e.kids s.kids (tree e.kids) (held_once e A.held h.place) (inl (sym z, refl, refl)) f in
    let i : root_handle ≡ h = (let x : 1 ≡ h.number = ap (λ y. y.number) o.0 ∙ m.1 in λ t. record { place = sym z t; number = x t }) in
    subst (λ b. T (b || in_account a h)) (sym (ap (λ y. same y h) i ∙ same_refl h)) tt
commas_known e a A h s n c (a_node x y q) =
    let f = has_parent h.place e.kids s.here.own s.kids s.ups q in
    let x = account_laws.named_has_path h e.kids s f.0 f.1 A.document (held_placed e A.held) n f.2 c in
    or_right (same root_handle h) (in_account a h) (has e a A h x.0 x.1.has_path)

-- a root is no array or object
unbracketed : (s : Sort) → s ≡ root → bracketed s ≡ true → ⊥
unbracketed s e b = false≢true (sym (ap bracketed e) ∙ b)

-- an edit that is accepted takes a handle that is in the account
known_by : {S : Type 0} (says : S → Value) → ((s : S) → Sourced (says s)) → (e : State) (a : Account) → Agree e a → (x : Edit S) (w : Work) (y : Plan) → accepted e w (map_edit says x) ≡ Given y → Known a x
known_by says k e a A (Remove h) w y q =
    let R : RemovesSo e h (Given y) = subst (RemovesSo e h) (accepted_planned e w (Remove h) y q) (account_laws.plans_accounted e h (held_placed e A.held) A.document).0 in
    has e a A h R.0 R.1
known_by says k e a A (Replace h v) w y q =
    let R : ReplacesSo e h (says v) (Given y) = subst (ReplacesSo e h (says v)) (accepted_planned e w (Replace h (says v)) y q) ((account_laws.plans_accounted e h (held_placed e A.held) A.document).1 (says v) ((k v).one, (k v).shaped, (k v).shows)) in
    has e a A h R.0 R.1
known_by says k e a A (SetValue h v) w y q =
    let R : SetsSo e h (says v) (Given y) = subst (SetsSo e h (says v)) (accepted_planned e w (SetValue h (says v)) y q) ((account_laws.set_plans_accounted e (says v) (held_placed e A.held) A.document ((k v).one, (k v).shaped, (k v).shows)).0 h) in
    has e a A h R.0 R.1
known_by says k e a A (SetRoot v) w y q = tt
known_by says k e a A Clear w y q = tt
known_by says k e a A (SetTrailingCommas h m) w y q =
    let n = named_of e h (λ s. cond (is_root (sort_of s) || bracketed (sort_of s)) (Given (commas_plan e m s)) (Refused NotHere)) y (accepted_planned e w (SetTrailingCommas h m) y q) in
    let s : Spot = n.0 in
    commas_known e a A h s n.1 (either_value (sort_of s) (held_test (is_root (sort_of s) || bracketed (sort_of s)) (commas_plan e m s) y n.2)) (spot_found h.place e.kids s (named_spot h e.kids s n.1).0)
known_by says k e a A (EnsureMultiline h) w y q =
    let n = named_of e h (λ s. cond (bracketed (sort_of s)) (Given (multiline_plan e s)) (Refused NotHere)) y (accepted_planned e w (EnsureMultiline h) y q) in
    let s : Spot = n.0 in
    let b = held_test (bracketed (sort_of s)) (multiline_plan e s) y n.2 in
    node_has e a A h s n.1 (bracketed_value (sort_of s) b) (spot_found h.place e.kids s (named_spot h e.kids s n.1).0) (λ z. absurd (unbracketed (sort_of s) z b))

-- THE PROMISE

-- of agreeing document and account
promise_of : {S : Type 0} (says : S → Value) → ((s : S) → Sourced (says s)) → (d : State) (cs : List (Call S)) (e : State) (a : Account) → Agree e a → e ≡ makes_all says d (feds says d cs) → Promise says d cs e a
promise_of {S} says k d cs e a A m = record {
  bytes = subst (λ y. (n : ℕ) → length (printing y) ≤ n → print_answer e n ≡ Given (printing y)) m (prints_all e A.held);
  laid = layout (pieces e.kids);
  sentence = stand.document_prints e.kids A.document;
  unique = λ y s. (right 64).one_layout (printing e) y (layout (pieces e.kids)) s (stand.document_prints e.kids A.document);
  value = sym (stand.document_says e.kids A.document).1 ∙ ap bare (sym A.value);
  remarks = sym (stand.document_says e.kids A.document).0 ∙ sym A.remarks;
  found = λ p. (ap (λ b. unless b BadMemory (present NotHere (at_path (parts e.kids) p))) (is_loaded e A.held) ∙ ap (λ v. present NotHere (at_path v p)) (sym A.value));
  path_found = λ p h n l f. path_answers e A.held p h n l (ap (λ v. at_path v p) (sym A.value) ∙ f);
  gone = λ h i. gone_kind (unloaded e) (named h e.kids) (is_loaded e A.held) (λ s z. none-some s (sym ((A.left h i).0) ∙ z));
  single = held_once e A.held;
  known = known;
}
  where
    known : (x : Edit S) (w : Work) → takes says e (Do x w) ≡ true → Known a x
    known x w = go (accepted e w (map_edit says x)) refl
      where
        go : (o : Outcome Plan) → accepted e w (map_edit says x) ≡ o → is_some (answered o) ≡ true → Known a x
        go (Refused r) q t = absurd (false≢true t)
        go (Given y) q t = known_by says k e a A x w y q

-- over every source that shows what sources must
pub promise_over : {S : Type 0} (says : S → Value) → Over S says
promise_over says k r m t d l cs e q =
    (promise_of says k d cs e (account_of says d cs) (run_agrees says k d cs e q (opened (layout_of (printing d)) (at_of d)) (opened_agrees r m t d l)) (run_made says k d cs e q), loaded_lasting says r m t d l cs e q)

-- the promise
pub the_promise : ThePromise
the_promise = promise_over meant (λ s. s.1)
