-- What the judgement on a text, and the order of the refusals, come to. Assumes nothing.
use Rattle.std.proofs.Common.{◌≡◌, ℕ, suc, ◌<◌, ◌≤◌, false, cond, ltb, List, [], ◌∷◌, length, Ok, Err, Result, sym, refl, ap, ◌∙◌, subst, arith}
use Rattle.std.proofs.lemmas.Bool.{lt-ltb, le-ltb}
use Rattle.refusal.specs.declared.Refusal.{Refusal}
use Rattle.refusal.specs.declared.Refusal.TheVariants.{BadText, TooDeep, NoNode, NoText, BadMemory}
use Rattle.grammar.specs.Parse.{ok, bad, deep, Res, res}
use Rattle.grammar.specs.Pieces.{Pieces, nodes, stored}
use Rattle.grammar.specs.Reader.{text_p}
use Rattle.grammar.specs.Answer as answer
use Rattle.grammar.specs.Answer.{Answer, Read, whole, read}
use Rattle.text.specs.declared.fault.Fault.TheVariants.{Bad, Deep}
use Rattle.text.specs.Events.{Event, events}
use Rattle.text.specs.Reports.{Rest, Makes}
use Rattle.checking.specs.declared.extent.Extent.{Extent}
use Rattle.checking.specs.Checked.{extent_of, judged, checked}
use Rattle.model.specs.State.{Refused, Given, unless, loaded_state, load, loading}
use Rattle.loader.specs.declared.error.LoadError.{LoadError}
use Rattle.loader.specs.declared.error.LoadError.TheVariants as error
use Rattle.loader.specs.Loaded.{bad_sizes, RefusedSo, Fitting}

-- a text that is not too long
pub taken : (t : List ℕ) → length t ≤ 1048576 → checked t ≡ judged (read 64 t)
taken t h = ap (λ v. cond v (Err BadMemory) (judged (read 64 t))) (le-ltb 1048576 (length t) h)

module _ (r m : ℕ) where
  loading_nodes : (a : Pieces) → r < suc (nodes a) → loading r m (Read a) ≡ Refused NoNode
  loading_nodes a h =
      ap (λ v. unless v NoNode (unless (ltb m (length (stored a))) NoText (Given (loaded_state r m a)))) (lt-ltb r (suc (nodes a)) h)

  loading_stored : (a : Pieces) → suc (nodes a) ≤ r → m < length (stored a) → loading r m (Read a) ≡ Refused NoText
  loading_stored a h k =
      ap (λ v. unless v NoNode (unless (ltb m (length (stored a))) NoText (Given (loaded_state r m a)))) (le-ltb r (suc (nodes a)) h)
      ∙ ap (λ v. unless v NoText (Given (loaded_state r m a))) (lt-ltb m (length (stored a)) k)

  loading_given : (a : Pieces) → suc (nodes a) ≤ r → length (stored a) ≤ m → loading r m (Read a) ≡ Given (loaded_state r m a)
  loading_given a h k =
      ap (λ v. unless v NoNode (unless (ltb m (length (stored a))) NoText (Given (loaded_state r m a)))) (le-ltb r (suc (nodes a)) h)
      ∙ ap (λ v. unless v NoText (Given (loaded_state r m a))) (le-ltb m (length (stored a)) k)

  -- what the check counts
  module _ (e : Extent) where
    extent_is : (a : Pieces) → ◌≡◌ {A = Result Extent Refusal} (Ok e) (Ok (extent_of a)) → e ≡ extent_of a
    extent_is a h = cc

    neither : (f : Refusal) → ◌≡◌ {A = Result Extent Refusal} (Ok e) (Err f) → ⊥
    neither f h = let z : ◌≡◌ {A = ℕ} 0 1 = cc in omega arith

    pub nodes_refused : (x : Answer) → Ok e ≡ judged x → r < e.nodes → loading r m x ≡ Refused NoNode
    nodes_refused (Read a) h l = loading_nodes a (omega (arith, ap (λ (y : Extent). y.nodes) (extent_is a h)))
    nodes_refused (answer.BadText p) h l = absurd (neither (BadText p) h)
    nodes_refused answer.TooDeep h l = absurd (neither TooDeep h)

    pub stored_refused : (x : Answer) → Ok e ≡ judged x → e.nodes ≤ r → m < e.stored → loading r m x ≡ Refused NoText
    stored_refused (Read a) h l k =
        loading_stored a (omega (arith, ap (λ (y : Extent). y.nodes) (extent_is a h))) (omega (arith, ap (λ (y : Extent). y.stored) (extent_is a h)))
    stored_refused (answer.BadText p) h l k = absurd (neither (BadText p) h)
    stored_refused answer.TooDeep h l k = absurd (neither TooDeep h)

    pub all_fits : (x : Answer) → Ok e ≡ judged x → e.nodes ≤ r → e.stored ≤ m → Fitting r m x
    all_fits (Read a) h l k =
        (omega (arith, ap (λ (y : Extent). y.nodes) (extent_is a h)), omega (arith, ap (λ (y : Extent). y.stored) (extent_is a h)))
    all_fits (answer.BadText p) h l k = absurd (neither (BadText p) h)
    all_fits answer.TooDeep h l k = absurd (neither TooDeep h)

  pub text_refused : (f : Refusal) (x : Answer) → Err f ≡ judged x → loading r m x ≡ Refused f
  text_refused f (Read a) h = absurd (never f (extent_of a) h)
    where
      never : (f : Refusal) (e : Extent) → ◌≡◌ {A = Result Extent Refusal} (Err f) (Ok e) → ⊥
      never f e h = let z : ◌≡◌ {A = ℕ} 0 1 = cc in omega arith
  text_refused f (answer.BadText p) h = ap Refused (same f (BadText p) h)
    where
      same : (f g : Refusal) → ◌≡◌ {A = Result Extent Refusal} (Err f) (Err g) → g ≡ f
      same f g h = cc
  text_refused f answer.TooDeep h = ap Refused (same f TooDeep h)
    where
      same : (f g : Refusal) → ◌≡◌ {A = Result Extent Refusal} (Err f) (Err g) → g ≡ f
      same f g h = cc

  -- a text that fits is read
  pub fitting_read : (x : Answer) → Fitting r m x → (a : Pieces) × (x ≡ Read a) × (suc (nodes a) ≤ r) × (length (stored a) ≤ m)
  fitting_read (Read a) h = (a, refl, h.0, h.1)
  fitting_read (answer.BadText p) h = absurd h
  fitting_read answer.TooDeep h = absurd h

  module _ (t : List ℕ) (fine : bad_sizes r m t ≡ false) where
    -- where the sizes are taken, the reader's answer decides
    load_is : load r m t ≡ loading r m (read 64 t)
    load_is = ap (λ v. unless v BadMemory (loading r m (read 64 t))) fine

    pub load_given : (a : Pieces) → read 64 t ≡ Read a → suc (nodes a) ≤ r → length (stored a) ≤ m → load r m t ≡ Given (loaded_state r m a)
    load_given a e h k = load_is ∙ (ap (λ y. loading r m y) e ∙ loading_given a h k)

    pub load_refused : (e : Refusal) → loading r m (read 64 t) ≡ Refused e → RefusedSo r m t (error.Refused e)
    load_refused e h = load_is ∙ h

    pub want_memory : (e : LoadError) → e ≡ error.NoMemory → RefusedSo r m t e
    want_memory e h = subst (λ y. RefusedSo r m t y) (sym h) fine

-- a reading of a text that the reader takes comes to its end, and tells all of it
module _ {S : Type 0} (after : S → List Event → S → Type 0) (t : List ℕ) (a : Pieces) where
  read_ok : (x : Res Pieces) → whole t x ≡ Read a → x ≡ res (ok a) []
  read_ok (res (ok b) []) e = cc
  read_ok (res (ok b) (c ∷ u)) e = let z : ◌≡◌ {A = ℕ} 0 1 = cc in absurd (omega arith)
  read_ok (res bad u) e = let z : ◌≡◌ {A = ℕ} 0 1 = cc in absurd (omega arith)
  read_ok (res deep u) e = let z : ◌≡◌ {A = ℕ} 0 1 = cc in absurd (omega arith)

  pub all_told : read 64 t ≡ Read a → (b c : S) (r : Rest) → Makes after (text_p 64) t b r c → after b (events a) c
  all_told e b c (Ok u) h =
      let x = read_ok (text_p 64 t) e in
      let y = h.1.reads in
      let i : h.0 ≡ a = cc in
      subst (λ z. after b (events z) c) i h.2
  all_told e b c (Err (Bad u)) h =
      let x = read_ok (text_p 64 t) e in
      let y = h.fails in
      let z : ◌≡◌ {A = ℕ} 0 1 = cc in
      absurd (omega arith)
  all_told e b c (Err Deep) h =
      let x = read_ok (text_p 64 t) e in
      let y = h.1 in
      let z : ◌≡◌ {A = ℕ} 0 1 = cc in
      absurd (omega arith)
