-- What a counter has counted of the pieces of a text. Assumes nothing.
use Rattle.std.proofs.Common.{◌≡◌, ℕ, suc, ◌+◌, ◌-◌, ◌^◌, ◌≤◌, max, Bool, true, false, ◌∷◌, ◌++◌, length, sym, refl, ap, ◌∙◌, arith, length-append}
use Rattle.grammar.specs.Layout.{levels, notes}
use Rattle.grammar.specs.Pieces.{Leaf, null, boolean, number, string, name, token, whitespace, newline, comment, Box, array, object, property, Pieces, end, leaf, box, own, print, kept, nodes, stored, lay}
use Rattle.text.specs.Events.{Event, Put, Enter, Leave, events}
use Rattle.checking.specs.Counted.{plus, fold, fold_app, remark, level, node_step, byte_step, note_step, level_step}

-- so much for each leaf, and so much for each container
abbrev weigh : (Leaf → ℕ) → (Box → ℕ) → Pieces → ℕ
weigh w v end = 0
weigh w v (leaf x r) = w x + weigh w v r
weigh w v (box k c r) = v k + (weigh w v c + weigh w v r)

module _ (f : ℕ → Event → ℕ) (w : Leaf → ℕ) (v : Box → ℕ) (at_put : (n : ℕ) (x : Leaf) → n + w x ≤ 2 ^ 64 - 1 → f n (Put x) ≡ n + w x) (at-enter : (n : ℕ) (k : Box) → n + v k ≤ 2 ^ 64 - 1 → f n (Enter k) ≡ n + v k) (at-leave : (n : ℕ) (k : Box) → f n (Leave k) ≡ n) where
  fold_weighs : (x : Pieces) (n : ℕ) → n + weigh w v x ≤ 2 ^ 64 - 1 → fold f n (events x) ≡ n + weigh w v x
  fold_weighs end n h = omega arith
  fold_weighs (leaf x r) n h =
      let e = at_put n x (omega arith) in
      let k = fold_weighs r (n + w x) (omega arith) in
      ap (λ z. fold f z (events r)) e ∙ k ∙ omega arith
  fold_weighs (box k c r) n h =
      let e = at-enter n k (omega arith) in
      let inner = fold_weighs c (n + v k) (omega arith) in
      let outer = fold_weighs r (n + v k + weigh w v c) (omega arith) in
      ap (λ z. fold f z (events c ++ Leave k ∷ events r)) e
      ∙ sym (fold_app f (n + v k) (events c) (Leave k ∷ events r))
      ∙ ap (λ z. fold f z (Leave k ∷ events r)) inner
      ∙ ap (λ z. fold f z (events r)) (at-leave (n + v k + weigh w v c) k)
      ∙ outer ∙ omega arith

-- nodes, bytes and comments as weights
nodes_weigh : (x : Pieces) → weigh (λ _. 1) (λ _. 1) x ≡ nodes x
nodes_weigh end = refl
nodes_weigh (leaf y r) = omega (arith, nodes_weigh r)
nodes_weigh (box k c r) = omega (arith, nodes_weigh c, nodes_weigh r)

stored_weigh : (x : Pieces) → weigh (λ y. length (kept y)) (λ _. 0) x ≡ length (stored x)
stored_weigh end = refl
stored_weigh (leaf y r) = omega (arith, stored_weigh r, length-append (kept y) (stored r))
stored_weigh (box k c r) = omega (arith, stored_weigh c, stored_weigh r, length-append (stored c) (stored r))

notes_weigh : (x : Pieces) (b : Bool) → weigh remark (λ _. 0) x ≡ length (notes (lay x b))
notes_weigh end b = refl
notes_weigh (leaf null r) b = omega (arith, notes_weigh r false)
notes_weigh (leaf (boolean v) r) b = omega (arith, notes_weigh r false)
notes_weigh (leaf (number t) r) b = omega (arith, notes_weigh r false)
notes_weigh (leaf (string t) r) b = omega (arith, notes_weigh r false)
notes_weigh (leaf (name t) r) b = omega (arith, notes_weigh r false)
notes_weigh (leaf (token m) r) b = omega (arith, notes_weigh r false)
notes_weigh (leaf (whitespace t) r) b = omega (arith, notes_weigh r b)
notes_weigh (leaf (newline k) r) b = omega (arith, notes_weigh r true)
notes_weigh (leaf (comment c) r) b = omega (arith, notes_weigh r false)
notes_weigh (box k c r) b = omega (arith, notes_weigh c false, notes_weigh r false, length-append (notes (lay c false)) (notes (lay r false)))

-- levels
abbrev deep : Pieces → ℕ
deep end = 0
deep (leaf x r) = deep r
deep (box k c r) = max (level k + deep c) (deep r)

levels_deep : (x : Pieces) (b : Bool) → levels (lay x b) ≡ deep x
levels_deep end b = refl
levels_deep (leaf null r) b = omega (arith, levels_deep r false)
levels_deep (leaf (boolean v) r) b = omega (arith, levels_deep r false)
levels_deep (leaf (number t) r) b = omega (arith, levels_deep r false)
levels_deep (leaf (string t) r) b = omega (arith, levels_deep r false)
levels_deep (leaf (name t) r) b = levels_deep r false
levels_deep (leaf (token m) r) b = levels_deep r false
levels_deep (leaf (whitespace t) r) b = levels_deep r b
levels_deep (leaf (newline k) r) b = levels_deep r true
levels_deep (leaf (comment c) r) b = levels_deep r false
levels_deep (box array c r) b = omega (arith, levels_deep c false, levels_deep r false)
levels_deep (box object c r) b = omega (arith, levels_deep c false, levels_deep r false)
levels_deep (box property c r) b = omega (arith, levels_deep c false, levels_deep r false)

levels_fold : (x : Pieces) (d l : ℕ) → d ≤ l → d + deep x ≤ 2 ^ 64 - 1 → fold level_step (d, l) (events x) ≡ (d, max l (d + deep x))
levels_fold end d l h k = let e : l ≡ max l (d + 0) = omega arith in ap (λ z. (d, z)) e
levels_fold (leaf x r) d l h k = levels_fold r d l h k
levels_fold (box b c r) d l h k =
    let e : plus d (level b) ≡ d + level b = omega arith in
    let inner = levels_fold c (d + level b) (max l (d + level b)) (omega arith) (omega arith) in
    let back : d + level b - level b ≡ d = omega arith in
    let outer = levels_fold r d (max (max l (d + level b)) (d + level b + deep c)) (omega arith) (omega arith) in
    let last : max (max (max l (d + level b)) (d + level b + deep c)) (d + deep r) ≡ max l (d + max (level b + deep c) (deep r)) = omega arith in
    ap (λ z. fold level_step (z, max l z) (events c ++ Leave b ∷ events r)) e
    ∙ sym (fold_app level_step (d + level b, max l (d + level b)) (events c) (Leave b ∷ events r))
    ∙ ap (λ z. fold level_step z (Leave b ∷ events r)) inner
    ∙ ap (λ z. fold level_step (z, max (max l (d + level b)) (d + level b + deep c)) (events r)) back
    ∙ outer
    ∙ ap (λ z. (d, z)) last

-- all of them are few
kept_short : (x : Leaf) → length (kept x) ≤ length (own x)
kept_short null = omega arith
kept_short (boolean b) = omega arith
kept_short (number t) = omega arith
kept_short (string t) = omega arith
kept_short (name t) = omega arith
kept_short (token m) = omega arith
kept_short (whitespace t) = omega arith
kept_short (newline k) = omega arith
kept_short (comment c) = omega arith

stored_short : (x : Pieces) → length (stored x) ≤ length (print x)
stored_short end = omega arith
stored_short (leaf y r) = omega (arith, kept_short y, stored_short r, length-append (kept y) (stored r), length-append (own y) (print r))
stored_short (box k c r) = omega (arith, stored_short c, stored_short r, length-append (stored c) (stored r), length-append (print c) (print r))

remark_one : (x : Leaf) → remark x ≤ 1
remark_one null = omega arith
remark_one (boolean b) = omega arith
remark_one (number t) = omega arith
remark_one (string t) = omega arith
remark_one (name t) = omega arith
remark_one (token m) = omega arith
remark_one (whitespace t) = omega arith
remark_one (newline k) = omega arith
remark_one (comment c) = omega arith

notes_few : (x : Pieces) → weigh remark (λ _. 0) x ≤ nodes x
notes_few end = omega arith
notes_few (leaf y r) = omega (arith, notes_few r, remark_one y)
notes_few (box k c r) = omega (arith, notes_few c, notes_few r)

level_one : (k : Box) → level k ≤ 1
level_one array = omega arith
level_one object = omega arith
level_one property = omega arith

deep_few : (x : Pieces) → deep x ≤ nodes x
deep_few end = omega arith
deep_few (leaf y r) = omega (arith, deep_few r)
deep_few (box k c r) = omega (arith, deep_few c, deep_few r, level_one k)

-- what is counted of pieces that are few
module _ (x : Pieces) (few : nodes x ≤ 2097152) (short : length (print x) ≤ 1048576) where
  pub nodes_counted : fold node_step 1 (events x) ≡ suc (nodes x)
  nodes_counted =
      fold_weighs node_step (λ _. 1) (λ _. 1) (λ n y h. omega arith) (λ n k h. omega arith) (λ n k. refl) x 1 (omega (arith, nodes_weigh x)) ∙ omega (arith, nodes_weigh x)

  pub stored_counted : fold byte_step 0 (events x) ≡ length (stored x)
  stored_counted =
      fold_weighs byte_step (λ y. length (kept y)) (λ _. 0) (λ n y h. omega arith) (λ n k h. omega arith) (λ n k. refl) x 0 (omega (arith, stored_weigh x, stored_short x)) ∙ omega (arith, stored_weigh x)

  pub notes_counted : fold note_step 0 (events x) ≡ length (notes (lay x false))
  notes_counted =
      fold_weighs note_step remark (λ _. 0) (λ n y h. omega arith) (λ n k h. omega arith) (λ n k. refl) x 0 (omega (arith, notes_few x)) ∙ omega (arith, notes_weigh x false)

  pub levels_counted : fold level_step (0, 0) (events x) ≡ (0, levels (lay x false))
  levels_counted =
      let e : max 0 (0 + deep x) ≡ levels (lay x false) = omega (arith, levels_deep x false) in
      levels_fold x 0 0 (omega arith) (omega (arith, deep_few x)) ∙ ap (λ z. (0, z)) e
