-- One call more, and the run of states that the calls lead through.
use Rattle.std.proofs.Common.{◌≡◌, ℕ, suc, ◌+◌, ◌-◌, ◌<◌, ◌≤◌, List, [], ◌∷◌, ◌++◌, length, get_or, take, drop, set, sym, refl, ap, ◌∙◌, subst, append_assoc, add-one, arith, length-append, length-take-le}
use Rattle.std.proofs.lemmas.List.{take_more, set_split, take_at, drop_at, drop-drop, length-drop}
use Rattle.model.specs.Promise.{meant, Run, over, goes, after_call}
use Rattle.replay.specs.declared.call.Call.{Call}
use Rattle.replay.specs.declared.call.Call.TheVariants.{Print, Root, Edits, Value, Kind, Path, At, Find, ParentInfo, PreviousSibling, NextSibling, ChildAtIndex, ElementIndex, TrailingComma, Text, NewlineKind, UsesTrailingCommas, Clear}
use Rattle.replay.specs.declared.answer.Answer.{Answer}
use Rattle.replay.specs.Carried.{World, answer_to, carried, carried_all, answers_to, call_for, calls_for}

-- first some calls, then others
carried-++ : (w : World) (xs ys : List Call) → carried_all w (xs ++ ys) ≡ carried_all (carried_all w xs) ys
carried-++ w [] ys = refl
carried-++ w (x ∷ xs) ys = carried-++ (carried w x) xs ys

answers-++ : (w : World) (xs ys : List Call) → answers_to w (xs ++ ys) ≡ answers_to w xs ++ answers_to (carried_all w xs) ys
answers-++ w [] ys = refl
answers-++ w (x ∷ xs) ys = ap (λ z. answer_to w x ∷ z) (answers-++ (carried w x) xs ys)

answers_long : (w : World) (xs : List Call) → length (answers_to w xs) ≡ length xs
answers_long w [] = refl
answers_long w (x ∷ xs) = omega (arith, answers_long (carried w x) xs)

-- a list of answers with one more at its place
put_next : (A old : List Answer) (i : ℕ) (a : Answer) → length A ≡ i → i < length old → set (A ++ drop i old) i a ≡ (A ++ a ∷ []) ++ drop (i + 1) old
put_next A old i a e l =
    let L : List Answer = A ++ drop i old in
    let n : length L ≡ length A + length (drop i old) = length-append A (drop i old) in
    let d : length (drop i old) ≡ length old - i = length-drop i old in
    let t : take i L ≡ A = take_at A (drop i old) i e in
    let r : drop (suc i) L ≡ drop (i + 1) old =
    ap (λ z. drop z L) (sym (add-one i)) ∙ (sym (drop-drop 1 i L) ∙ (ap (drop 1) (drop_at A (drop i old) i e) ∙ drop-drop 1 i old)) in
    set_split L i a (omega arith) ∙ (ap (λ z. z ++ a ∷ drop (suc i) L) t ∙ (ap (λ z. A ++ a ∷ z) r ∙ sym (append_assoc A (a ∷ []) (drop (i + 1) old))))

-- one call more
module _ (w : World) (cs : List Call) (i : ℕ) (l : i < length cs) (d : Call) (u : World) (inv : u ≡ carried_all w (take i cs)) where
  pub more_world : (v : World) → v ≡ carried u (get_or cs i d) → v ≡ carried_all w (take (i + 1) cs)
  more_world v e =
      e ∙ (ap (λ z. carried z (get_or cs i d)) inv ∙ (sym (carried-++ w (take i cs) (get_or cs i d ∷ [])) ∙ ap (carried_all w) (sym (take_more cs i d l))))

  pub more_answers : (old now-held : List Answer) (a : Answer) → length cs ≤ length old → now-held ≡ answers_to w (take i cs) ++ drop i old → a ≡ answer_to u (get_or cs i d)
      → set now-held i a ≡ answers_to w (take (i + 1) cs) ++ drop (i + 1) old
  more_answers old now-held a r e f =
      let A : List Answer = answers_to w (take i cs) in
      let n : length A ≡ i = answers_long w (take i cs) ∙ length-take-le i cs (omega arith) in
      ap (λ z. set z i a) e
      ∙ (put_next A old i a n (omega arith)
      ∙ ap (λ z. z ++ drop (i + 1) old) (ap (λ z. A ++ z ∷ []) (f ∙ ap (λ z. answer_to z (get_or cs i d)) inv) ∙ (sym (answers-++ w (take i cs) (get_or cs i d ∷ [])) ∙ ap (answers_to w) (sym (take_more cs i d l)))))

-- a call leads from state to state as the definitions of runs have it
step_state : (w : World) (c : Call) → (carried w c).state ≡ after_call meant w.state (call_for w c)
step_state w Print = refl
step_state w Root = refl
step_state w Edits = refl
step_state w (Value h) = refl
step_state w (Kind h) = refl
step_state w (Path h) = refl
step_state w (At p) = refl
step_state w (Find h t) = refl
step_state w (ParentInfo h) = refl
step_state w (PreviousSibling h) = refl
step_state w (NextSibling h) = refl
step_state w (ChildAtIndex h n) = refl
step_state w (ElementIndex h) = refl
step_state w (TrailingComma h) = refl
step_state w (Text h) = refl
step_state w NewlineKind = refl
step_state w (UsesTrailingCommas h) = refl
step_state w Clear = refl

-- and so does the whole list
pub runs : (w : World) (cs : List Call) → Run meant w.state (calls_for w cs) (carried_all w cs).state
runs w [] = over w.state
runs w (c ∷ cs) =
    goes w.state (call_for w c) (calls_for (carried w c) cs) (carried_all (carried w c) cs).state
    (subst (λ y. Run meant y (calls_for (carried w c) cs) (carried_all (carried w c) cs).state) (step_state w c) (runs (carried w c) cs))
