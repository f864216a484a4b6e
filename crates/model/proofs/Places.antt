-- Places and numbers are handed out once: so it is after load, and so it stays. Assumes nothing.
use Rattle.std.proofs.Common.{◌≡◌, ℕ, zero, suc, ◌+◌, ◌-◌, ◌<◌, ◌≤◌, Bool, true, false, cond, eqb, ltb, List, [], ◌∷◌, length, drop, refl, ap, ◌∙◌, subst, inl, inr, arith, length-drop, drop-drop}
use Rattle.std.proofs.lemmas.Bool.{cond_both, cond-true, cond-false, cases_lt, eqb-true, eqb-false, lt-ltb, le-ltb, ltb-false}
use Rattle.grammar.specs.Pieces.{Pieces, end as no_pieces, leaf, box, nodes, stored}
use Rattle.grammar.specs.Answer.{Answer, Read, BadText as Bad, TooDeep as Deep, read}
use Rattle.forest.specs.Forest.{end, node, one, count, size, places, occurs}
use Rattle.forest.proofs.Frames.{one_same, one_eq, one_other}
use Rattle.forest.proofs.Places.{occurs-++, occurs_places, length_places}
use Rattle.model.specs.Nodes.{Nodes, loaded}
use Rattle.model.specs.Numbers.{numbers}
use Rattle.model.specs.Asks.{living}
use Rattle.model.specs.Edits.{Supply, skip, sown}
use Rattle.model.specs.Written.{Value}
use Rattle.refusal.specs.declared.Refusal.{Refusal}
use Rattle.refusal.specs.declared.Refusal.TheVariants.{BadMemory, TooDeep, NoNode, NoText, Worn, BadText}
use Rattle.model.specs.State.{State, Outcome, Refused, Given, and_then, unless, Plan, Edit, Work, up_from, loaded_state, loading, load, bad_memory, planned, missing, freeing, supply_of, finished, worn, judged, accepted, after_outcome, after}
use Rattle.model.specs.Changes.{Placed}
use Rattle.model.specs.Given.{below, often, Held}
use Rattle.model.proofs.Loads.{size_numbered, places_numbered, numbers_numbered}
use Rattle.model.proofs.Tally.{tally}
use Rattle.model.proofs.Sowing.{Sows, Sowing, planned_sows}

-- below it counts one
pub below_yes : (k n : ℕ) → k < n → below k n ≡ 1
below_yes k n l = cond-true (ltb k n) 1 0 (lt-ltb k n l)

-- and else none
pub below_no : (k n : ℕ) → n ≤ k → below k n ≡ 0
below_no k n l = cond-false (ltb k n) 1 0 (le-ltb k n l)

-- one at most
pub below_le : (k n : ℕ) → below k n ≤ 1
below_le k n = cond_both (ltb k n) 1 0 (λ y. y ≤ 1) (λ e. omega arith) (λ e. omega arith)

-- one more
below_one : (k n : ℕ) → one n k + below k n ≡ below k (n + 1)
below_one k n = elim (cases_lt k n) [
  | inl l ↦ omega (arith, one_other n k (λ e. omega arith), below_yes k n l, below_yes k (n + 1) (omega arith))
  | inr l ↦ elim (cases_lt n k) [
    | inl m ↦ omega (arith, one_other n k (λ e. omega arith), below_no k n l, below_no k (n + 1) (omega arith))
    | inr m ↦ omega (arith, one_eq n k (omega arith), below_no k n l, below_yes k (n + 1) (omega arith))
  ]
]

-- below the same number as often
below_same : (k m n : ℕ) → m ≡ n → below k m ≡ below k n
below_same k m n e = ap (below k) e

-- sums that are counts
pub tally_count : (k : ℕ) (ts : Nodes) → tally (λ p i. one p k) ts ≡ count k ts
tally_count k end = refl
tally_count k (node p i ks ts) = omega (arith, tally_count k ks, tally_count k ts)

-- as often as a number stands
tally_often : (n : ℕ) (ts : Nodes) → tally (λ p i. one i.number n) ts ≡ often n ts
tally_often n end = refl
tally_often n (node p i ks ts) = omega (arith, tally_often n ks, tally_often n ts)

-- as many as there are nodes
tally_size : (ts : Nodes) → tally (λ p i. 1) ts ≡ size ts
tally_size end = refl
tally_size (node p i ks ts) = omega (arith, tally_size ks, tally_size ts)

-- a number stands as often as in the list of numbers
often_numbers : (n : ℕ) (ts : Nodes) → occurs n (numbers ts) ≡ often n ts
often_numbers n end = refl
often_numbers n (node p i ks ts) = omega (arith, occurs-++ n (numbers ks) (numbers ts), often_numbers n ks, often_numbers n ts)

-- NEW NODES

-- take the first free places
sown_places : (k n : ℕ) (ps : List ℕ) (a : Pieces) → nodes a ≤ length ps → count k (sown (record { places = ps; number = n }) a) + occurs k (drop (nodes a) ps) ≡ occurs k ps
sown_places k n ps no_pieces l = omega arith
sown_places k n [] (leaf x r) l = absurd (omega arith)
sown_places k n (p ∷ ps) (leaf x r) l = omega (arith, sown_places k (n + 1) ps r (omega arith))
sown_places k n [] (box b c r) l = absurd (omega arith)
sown_places k n (p ∷ ps) (box b c r) l =
    omega (arith, sown_places k (n + 1) ps c (omega arith), sown_places k (n + suc (nodes c)) (drop (nodes c) ps) r (omega (arith, length-drop (nodes c) ps)), ap (occurs k) (drop-drop (nodes r) (nodes c) ps))

-- and the next numbers
pub sown_often : (m : ℕ) (s : Supply) (a : Pieces) → often m (sown s a) + below m s.number ≡ below m (s.number + nodes a)
sown_often m s no_pieces = omega (arith, below_same m s.number (s.number + 0) (omega arith))
sown_often m s (leaf x r) = omega (arith, below_one m s.number, sown_often m (skip 1 s) r, below_same m ((s.number + 1) + nodes r) (s.number + suc (nodes r)) (omega arith))
sown_often m s (box b c r) =
    omega (
      arith,
      below_one m s.number,
      sown_often m (skip 1 s) c,
      sown_often m (skip (suc (nodes c)) s) r,
      below_same m ((s.number + 1) + nodes c) (s.number + suc (nodes c)) (omega arith),
      below_same m ((s.number + suc (nodes c)) + nodes r) (s.number + suc (nodes c + nodes r)) (omega arith),
    )

-- there are as many as pieces
sown_size : (s : Supply) (a : Pieces) → size (sown s a) ≡ nodes a
sown_size s no_pieces = refl
sown_size s (leaf x r) = omega (arith, sown_size (skip 1 s) r)
sown_size s (box b c r) = omega (arith, sown_size (skip 1 s) c, sown_size (skip (suc (nodes c)) s) r)

-- FREE PLACES

-- a list without x where it stands first
abbrev less : ℕ → List ℕ → List ℕ
less x [] = []
less x (y ∷ b) = cond (eqb y x) b (y ∷ less x b)

-- x stands there once less, and all else as often
less_occurs : (k x : ℕ) (b : List ℕ) → 0 < occurs x b → occurs k b ≡ one x k + occurs k (less x b)
less_occurs k x [] l = absurd (omega arith)
less_occurs k x (y ∷ b) l = cond_both (eqb y x) b (y ∷ less x b) (λ z. one y k + occurs k b ≡ one x k + occurs k z)
    (λ e. omega (arith, ap (λ z. one z k) (eqb-true y x e))) (λ e. omega (arith, less_occurs k x b (omega (arith, one_other y x (eqb-false y x e)))))

-- and the list is one shorter
less_length : (x : ℕ) (b : List ℕ) → 0 < occurs x b → length b ≡ suc (length (less x b))
less_length x [] l = absurd (omega arith)
less_length x (y ∷ b) l = cond_both (eqb y x) b (y ∷ less x b) (λ z. suc (length b) ≡ suc (length z))
    (λ e. refl) (λ e. omega (arith, less_length x b (omega (arith, one_other y x (eqb-false y x e)))))

-- lists in which each stands as often are as long
same_length : (a b : List ℕ) → ((k : ℕ) → occurs k a ≡ occurs k b) → length a ≡ length b
same_length [] [] h = refl
same_length [] (y ∷ b) h = absurd (omega (arith, h y, one_same y))
same_length (x ∷ a) b h =
    let l : 0 < occurs x b = omega (arith, h x, one_same x) in
    omega (arith, less_length x b l, same_length a (less x b) (λ k. omega (arith, h k, less_occurs k x b l)))

-- the places left free are free besides those that were
freeing_occurs : (k : ℕ) (ps free : List ℕ) → occurs k (freeing ps free) ≡ occurs k ps + occurs k free
freeing_occurs k [] free = omega arith
freeing_occurs k (p ∷ ps) free = omega (arith, freeing_occurs k ps (p ∷ free))

-- and as many more
freeing_length : (ps free : List ℕ) → length (freeing ps free) ≡ length ps + length free
freeing_length [] free = omega arith
freeing_length (p ∷ ps) free = omega (arith, freeing_length ps (p ∷ free))

-- a place that no node has any more is left free
missing_gone : (k : ℕ) (ps : List ℕ) (ks : Nodes) → count k ks ≡ 0 → occurs k (missing ps ks) ≡ occurs k ps
missing_gone k [] ks z = refl
missing_gone k (p ∷ ps) ks z = cond_both (eqb (count p ks) 0) (p ∷ missing ps ks) (missing ps ks) (λ y. occurs k y ≡ one p k + occurs k ps)
    (λ e. omega (arith, missing_gone k ps ks z))
    (λ e. omega (arith, missing_gone k ps ks z, one_other p k (λ q. eqb-false (count p ks) 0 e (ap (λ y. count y ks) q ∙ z))))

-- a place that a node still has is not
missing_stays : (k : ℕ) (ps : List ℕ) (ks : Nodes) → 0 < count k ks → occurs k (missing ps ks) ≡ 0
missing_stays k [] ks z = refl
missing_stays k (p ∷ ps) ks z = cond_both (eqb (count p ks) 0) (p ∷ missing ps ks) (missing ps ks) (λ y. occurs k y ≡ 0)
    (λ e. omega (arith, missing_stays k ps ks z, one_other p k (λ q. omega (arith, eqb-true (count p ks) 0 e, ap (λ y. count y ks) q))))
    (λ e. missing_stays k ps ks z)

-- the places of what goes and of what stays are those there were
missing_count : (k : ℕ) (us ts : Nodes) → count k us ≤ count k ts → count k ts ≤ 1 → count k us + occurs k (missing (places ts) us) ≡ count k ts
missing_count k us ts l o = elim (cases_lt 0 (count k us)) [
  | inl z ↦ omega (arith, missing_stays k (places ts) us z)
  | inr z ↦ omega (arith, missing_gone k (places ts) us (omega arith), occurs_places k ts)
]

-- as many places are left free as nodes go
missing_size : (us ts : Nodes) → ((k : ℕ) → count k us ≤ count k ts) → ((k : ℕ) → count k ts ≤ 1) → size us + length (missing (places ts) us) ≡ size ts
missing_size us ts l o =
    let e = same_length (freeing (places us) (missing (places ts) us)) (places ts)
    (λ k. omega (arith, freeing_occurs k (places us) (missing (places ts) us), occurs_places k us, occurs_places k ts, missing_count k us ts (l k) (o k))) in
    omega (arith, e, freeing_length (places us) (missing (places ts) us), length_places us, length_places ts)

-- LOAD

-- each number of a row stands in it once
up_occurs : (k p n : ℕ) → occurs k (up_from p n) + below k p ≡ below k (p + n)
up_occurs k p zero = omega (arith, below_same k p (p + 0) (omega arith))
up_occurs k p (suc n) = omega (arith, below_one k p, up_occurs k (suc p) n, below_same k (suc p) (p + 1) (omega arith), below_same k (suc p + n) (p + suc n) (omega arith))

-- a row is as long as it says
pub up_length : (p n : ℕ) → length (up_from p n) ≡ n
up_length p zero = refl
up_length p (suc n) = omega (arith, up_length (suc p) n)

-- a newly loaded document hands out each place and number once
loaded_held : (r m : ℕ) (a : Pieces) → suc (nodes a) ≤ r → Held (loaded_state r m a)
loaded_held r m a l = record {
  split = λ k. omega (
    arith,
    below_one k 0,
    below_no k 0 (omega arith),
    occurs_places k (loaded a),
    ap (occurs k) (places_numbered 1 2 a),
    up_occurs k 1 (nodes a),
    up_occurs k (suc (nodes a)) (r - suc (nodes a)),
    below_same k (1 + nodes a) (suc (nodes a)) (omega arith),
    below_same k (suc (nodes a) + (r - suc (nodes a))) r (omega arith),
  );
  sized = omega (arith, size_numbered 1 2 a, up_length (suc (nodes a)) (r - suc (nodes a)));
  given = λ n. omega (arith, below_one n 1, often_numbers n (loaded a), ap (occurs n) (numbers_numbered 1 2 a), up_occurs n 2 (nodes a), below_same n (2 + nodes a) (suc (suc (nodes a))) (omega arith));
}

-- a document that load gives is that of the pieces read, and has room for them
pub load_ways : (P : State → Type 0) (r m : ℕ) (t : List ℕ) (d : State) → ((a : Pieces) → read 64 t ≡ Read a → suc (nodes a) ≤ r → P (loaded_state r m a)) → load r m t ≡ Given d → P d
load_ways P r m t d k = cond_both _ (Refused BadMemory) (loading r m (read 64 t)) (λ y. y ≡ Given d → P d) (λ z e. absurd (refused BadMemory e)) (λ z. go (read 64 t) refl)
  where
    refused : (q : Refusal) → Refused q ≡ Given d → ⊥
    refused q e = (let x : ◌≡◌ {A = ℕ} 0 1 = cc in omega arith)

    go : (x : Answer) → read 64 t ≡ x → loading r m x ≡ Given d → P d
    go (Read a) w = cond_both (ltb r (suc (nodes a))) (Refused NoNode) (unless (ltb m (length (stored a))) NoText (Given (loaded_state r m a))) (λ y. y ≡ Given d → P d)
        (λ z e. absurd (refused NoNode e))
        (λ z. cond_both (ltb m (length (stored a))) (Refused NoText) (Given (loaded_state r m a)) (λ y. y ≡ Given d → P d) (λ x e. absurd (refused NoText e))
        (λ x e. (let y : loaded_state r m a ≡ d = cc in subst P y (k a w (ltb-false r (suc (nodes a)) z)))))
    go (Bad p) w = λ e. absurd (refused (BadText p) e)
    go Deep w = λ e. absurd (refused TooDeep e)

-- so does what load gives
pub load_held : (r m : ℕ) (t : List ℕ) (d : State) → load r m t ≡ Given d → Held d
load_held r m t d = load_ways Held r m t d (λ a e l. loaded_held r m a l)

-- EDITS

-- places are distinct, and none is the root's
pub held_placed : (d : State) → Held d → Placed d.kids
held_placed d h = record { once = λ k. omega (arith, h.split k, below_le k d.records); rootless = omega (arith, h.split 0, below_le 0 d.records, one_same 0) }

-- a plan that cuts and adds, with room for what it adds
finished_held : (d : State) (x : Plan) → Held d → Sows d x → living x.cut + nodes x.adds ≤ d.records → Held (finished d x)
finished_held d x h s room =
    let p = held_placed d h in
    let P = (supply_of d x).places in
    let M = missing (places d.kids) x.cut in
    let fewer : (k : ℕ) → count k x.cut ≤ count k d.kids = λ k. omega (arith, s.less (λ p i. one p k), tally_count k x.cut, tally_count k d.kids) in
    let Z : size x.cut + length M ≡ size d.kids = missing_size x.cut d.kids fewer p.once in
    let L : length P ≡ length M + length d.free = freeing_length M d.free in
    let R : nodes x.adds ≤ length P = omega (arith, h.sized) in
    record {
      split = λ k. omega (
        arith,
        h.split k,
        s.adds (λ p i. one p k) (supply_of d x),
        tally_count k x.cut,
        tally_count k (x.grow (supply_of d x)),
        tally_count k (sown (supply_of d x) x.adds),
        sown_places k d.fresh P x.adds R,
        freeing_occurs k M d.free,
        missing_count k x.cut d.kids (fewer k) (p.once k),
      );
      sized = omega (arith, h.sized, s.adds (λ p i. 1) (supply_of d x), tally_size x.cut, tally_size (x.grow (supply_of d x)), tally_size (sown (supply_of d x) x.adds), sown_size (supply_of d x) x.adds, length-drop (nodes x.adds) P);
      given = λ n. omega (
        arith,
        h.given n,
        s.less (λ p i. one i.number n),
        s.adds (λ p i. one i.number n) (supply_of d x),
        tally_often n x.cut,
        tally_often n d.kids,
        tally_often n (x.grow (supply_of d x)),
        tally_often n (sown (supply_of d x) x.adds),
        sown_often n (supply_of d x) x.adds,
      );
    }

-- an accepted edit cuts and adds, and has room
abbrev pub Roomy : State → Outcome Plan → Type 0
Roomy d (Refused r) = Unit {0}
Roomy d (Given x) = Sows d x × (living x.cut + nodes x.adds ≤ d.records)

-- so does every edit that is accepted
pub accepted_roomy : (d : State) (w : Work) (e : Edit Value) → Held d → Roomy d (accepted d w e)
accepted_roomy d w e h = refuse (bad_memory d w e) BadMemory _ (λ z. go (planned d e) (planned_sows d (held_placed d h) e))
  where
    refuse : (b : Bool) (r : Refusal) (o : Outcome Plan) → (b ≡ false → Roomy d o) → Roomy d (unless b r o)
    refuse true r o k = tt
    refuse false r o k = k refl

    go : (o : Outcome Plan) → Sowing d o → Roomy d (and_then o (judged d))
    go (Refused r) s = tt
    go (Given x) s = refuse (ltb 64 x.deep) TooDeep _ (λ a. refuse (ltb d.records (living x.cut + nodes x.adds)) NoNode _ (λ b.
        refuse _ NoText _ (λ c. refuse (worn d x) Worn (Given x) (λ f. (s, ltb-false d.records (living x.cut + nodes x.adds) b)))))

-- every edit, accepted or refused, keeps it
pub after_held : (d : State) (w : Work) (e : Edit Value) → Held d → Held (after d w e)
after_held d w e h = go (accepted d w e) (accepted_roomy d w e h)
  where
    go : (o : Outcome Plan) → Roomy d o → Held (after_outcome d o)
    go (Refused r) s = h
    go (Given x) s = finished_held d x h s.0 s.1

-- so places are distinct after every edit
pub after_placed : (d : State) (w : Work) (e : Edit Value) → Held d → Placed (after d w e).kids
after_placed d w e h = held_placed (after d w e) (after_held d w e h)
