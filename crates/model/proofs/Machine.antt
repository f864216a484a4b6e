-- The machine that reads a child list: what it does at trivia, tokens and values, forwards and backwards. Assumes nothing.
use Rattle.std.proofs.Common.{◌≡◌, ℕ, Bool, true, false, sym, refl, ap, ◌∙◌, arith}
use Rattle.grammar.specs.Layout.{Line, Block, Mark, Open, Close, Comma, Colon, Name}
use Rattle.forest.specs.Forest.{end, node}
use Rattle.model.specs.Nodes.{Nodes, Gap, blank, break, remark, Class, gap, mark, value, class}
use Rattle.model.specs.Edits.{onto}
use Rattle.model.specs.Fits.{Owner, top, of, Pos, start, items, next, named, only, shut, State, here, dead, loose, spaced, gapped, marked, valued, step, run, begin, Ends}
use Rattle.model.proofs.Prints.{no_dead}

-- the machine after the siblings before, nearest first
abbrev pub back : State → Nodes → State
back q end = q
back q (node p i ks bs) = step (back q bs) (class i.sort)

pub run_onto : (q : State) (bs ts : Nodes) → run q (onto bs ts) ≡ run (back q bs) ts
run_onto q end ts = refl
run_onto q (node p i ks bs) ts = run_onto q bs (node p i ks ts)

-- what trivia may lead to
pub gap_ways : (P : State → Type 0) (q : Pos) (l : Bool) (g : Gap) → P dead → ((k : Bool) → P (here q k)) → P (gapped q l g)
gap_ways P q l g d h = go (loose q) l g
  where
    go : (b l : Bool) (g : Gap) → P (spaced b q l g)
    go false l g = d
    go true true blank = d
    go true true break = h false
    go true true (remark c) = d
    go true false blank = h false
    go true false break = h false
    go true false (remark (Line t)) = h true
    go true false (remark (Block t)) = h false

pub gap_goes : (f : Owner) (q : Pos) (l : Bool) (g : Gap) (ts : Nodes) → Ends f (run (gapped q l g) ts) → (k : Bool) × Ends f (run (here q k) ts)
gap_goes f q l g ts = gap_ways (λ s. Ends f (run s ts) → (k : Bool) × Ends f (run (here q k) ts)) q l g (λ e. absurd (no_dead f ts e)) (λ k e. (k, e))

-- a Newline ends a line comment
pub break_goes : (f : Owner) (q : Pos) (l : Bool) (ts : Nodes) → Ends f (run (gapped q l break) ts) → Ends f (run (here q false) ts)
break_goes f q l ts e = go (loose q) l e
  where
    go : (b l : Bool) → Ends f (run (spaced b q l break) ts) → Ends f (run (here q false) ts)
    go false l e = absurd (no_dead f ts e)
    go true true e = e
    go true false e = e

-- any class but a Newline wants that no line comment is open
pub blank_goes : (f : Owner) (q : Pos) (l : Bool) (ts : Nodes) → Ends f (run (gapped q l blank) ts) → Ends f (run (here q false) ts)
blank_goes f q l ts e = go (loose q) l e
  where
    go : (b l : Bool) → Ends f (run (spaced b q l blank) ts) → Ends f (run (here q false) ts)
    go false l e = absurd (no_dead f ts e)
    go true true e = absurd (no_dead f ts e)
    go true false e = e

pub blank_plain : (f : Owner) (q : Pos) (l : Bool) (ts : Nodes) → Ends f (run (gapped q l blank) ts) → Ends f (run (gapped q false blank) ts)
blank_plain f q l ts e = go (loose q) l e
  where
    go : (b l : Bool) → Ends f (run (spaced b q l blank) ts) → Ends f (run (spaced b q false blank) ts)
    go false l e = e
    go true true e = absurd (no_dead f ts e)
    go true false e = e

pub mark_goes : (f : Owner) (q : Pos) (l : Bool) (m : Mark) (ts : Nodes) → Ends f (run (step (here q l) (mark m)) ts) → Ends f (run (marked q m) ts)
mark_goes f q true m ts e = absurd (no_dead f ts e)
mark_goes f q false m ts e = e

pub value_goes : (f : Owner) (q : Pos) (l : Bool) (ts : Nodes) → Ends f (run (step (here q l) value) ts) → Ends f (run (valued q) ts)
value_goes f q true ts e = absurd (no_dead f ts e)
value_goes f q false ts e = e

pub end_goes : (f : Owner) (q : Pos) (l : Bool) → Ends f (here q l) → Ends f (here q false)
end_goes top start l e = e
end_goes top items l e = e
end_goes top next l e = e
end_goes top named l e = e
end_goes top only l e = e
end_goes top shut l e = e
end_goes (of b) start l e = e
end_goes (of b) items l e = e
end_goes (of b) next l e = e
end_goes (of b) named l e = e
end_goes (of b) only l e = e
end_goes (of b) shut true e = absurd e
end_goes (of b) shut false e = e

pub dead_here : (q : Pos) (l : Bool) → dead ≡ here q l → ⊥
dead_here q l e = (let z : ◌≡◌ {A = ℕ} 0 1 = cc in omega arith)

-- a child list whose machine stands at a name or a colon is a property's
abbrev pub Unnamed : State → Type 0
Unnamed (here start l) = Unit {0}
Unnamed (here items l) = Unit {0}
Unnamed (here next l) = Unit {0}
Unnamed (here named l) = ⊥
Unnamed (here only l) = ⊥
Unnamed (here shut l) = Unit {0}
Unnamed dead = Unit {0}

abbrev pub Untitled : Class → Type 0
Untitled (gap g) = Unit {0}
Untitled (mark Open) = Unit {0}
Untitled (mark Close) = Unit {0}
Untitled (mark Comma) = Unit {0}
Untitled (mark Colon) = Unit {0}
Untitled (mark Name) = ⊥
Untitled value = Unit {0}

unnamed_pos : (q : Pos) (l k : Bool) → Unnamed (here q l) → Unnamed (here q k)
unnamed_pos start l k h = h
unnamed_pos items l k h = h
unnamed_pos next l k h = h
unnamed_pos named l k h = h
unnamed_pos only l k h = h
unnamed_pos shut l k h = h

unnamed_mark : (q : Pos) (m : Mark) → Unnamed (here q false) → Untitled (mark m) → Unnamed (marked q m)
unnamed_mark start Open h u = tt
unnamed_mark start Close h u = tt
unnamed_mark start Comma h u = tt
unnamed_mark start Colon h u = tt
unnamed_mark start Name h u = absurd u
unnamed_mark items Open h u = tt
unnamed_mark items Close h u = tt
unnamed_mark items Comma h u = tt
unnamed_mark items Colon h u = tt
unnamed_mark items Name h u = tt
unnamed_mark next Open h u = tt
unnamed_mark next Close h u = tt
unnamed_mark next Comma h u = tt
unnamed_mark next Colon h u = tt
unnamed_mark next Name h u = tt
unnamed_mark named m h u = absurd h
unnamed_mark only m h u = absurd h
unnamed_mark shut m h u = tt

unnamed_value : (q : Pos) → Unnamed (here q false) → Unnamed (valued q)
unnamed_value start h = tt
unnamed_value items h = tt
unnamed_value next h = tt
unnamed_value named h = absurd h
unnamed_value only h = absurd h
unnamed_value shut h = tt

pub unnamed_step : (q : State) (c : Class) → Unnamed q → Untitled c → Unnamed (step q c)
unnamed_step dead c h u = tt
unnamed_step (here q l) (gap g) h u = gap_ways Unnamed q l g tt (λ k. unnamed_pos q l k h)
unnamed_step (here q true) (mark m) h u = tt
unnamed_step (here q false) (mark m) h u = unnamed_mark q m h u
unnamed_step (here q true) value h u = tt
unnamed_step (here q false) value h u = unnamed_value q h

-- where a value stands, an item is due
pub value_inv : (f : Owner) (q : State) (ts : Nodes) → Unnamed q → Ends f (run (step q value) ts) → q ≡ here items false
value_inv f dead ts u e = absurd (no_dead f ts e)
value_inv f (here q true) ts u e = absurd (no_dead f ts e)
value_inv f (here start false) ts u e = absurd (no_dead f ts e)
value_inv f (here items false) ts u e = refl
value_inv f (here next false) ts u e = absurd (no_dead f ts e)
value_inv f (here named false) ts u e = absurd u
value_inv f (here only false) ts u e = absurd u
value_inv f (here shut false) ts u e = absurd (no_dead f ts e)

-- which state was before trivia
pub gap_inv : (q : State) (g : Gap) (p : Pos) (l : Bool) → step q (gap g) ≡ here p l → (k : Bool) × (q ≡ here p k) × (spaced true p k g ≡ here p l)
gap_inv dead g p l e = absurd (dead_here p l e)
gap_inv (here r k) g p l e = (let h = go (loose r) k g e in (k, ap (λ y. here y k) h.0, h.1))
  where
    go : (b k : Bool) (g : Gap) → spaced b r k g ≡ here p l → (r ≡ p) × (spaced true p k g ≡ here p l)
    go false k g e = absurd (dead_here p l e)
    go true true blank e = absurd (dead_here p l e)
    go true true break e = (cc, cc)
    go true true (remark c) e = absurd (dead_here p l e)
    go true false blank e = (cc, cc)
    go true false break e = (cc, cc)
    go true false (remark (Line t)) e = (cc, cc)
    go true false (remark (Block t)) e = (cc, cc)

-- trivia does the same wherever it may stand
pub gap_same : (p r : Pos) (k l : Bool) (g : Gap) → spaced true p k g ≡ here p l → spaced true r k g ≡ here r l
gap_same p r true l blank e = absurd (dead_here p l e)
gap_same p r true l break e = (let z : false ≡ l = cc in ap (here r) z)
gap_same p r true l (remark c) e = absurd (dead_here p l e)
gap_same p r false l blank e = (let z : false ≡ l = cc in ap (here r) z)
gap_same p r false l break e = (let z : false ≡ l = cc in ap (here r) z)
gap_same p r false l (remark (Line t)) e = (let z : true ≡ l = cc in ap (here r) z)
gap_same p r false l (remark (Block t)) e = (let z : false ≡ l = cc in ap (here r) z)

-- nothing leads to the start
pub start_inv : (q : State) (c : Class) (l : Bool) → step q c ≡ here start l → ⊥
start_inv q (gap g) l e = (let h = gap_inv q g start l e in dead_here start l (sym (ap (λ y. step y (gap g)) h.1) ∙ e))
start_inv dead (mark m) l e = dead_here start l e
start_inv dead value l e = dead_here start l e
start_inv (here q true) (mark m) l e = dead_here start l e
start_inv (here q true) value l e = dead_here start l e
start_inv (here q false) (mark m) l e = go q m e
  where
    go : (q : Pos) (m : Mark) → marked q m ≡ here start l → ⊥
    go start Open e = (let z : ◌≡◌ {A = ℕ} 0 1 = cc in omega arith)
    go start Close e = dead_here start l e
    go start Comma e = dead_here start l e
    go start Colon e = dead_here start l e
    go start Name e = (let z : ◌≡◌ {A = ℕ} 0 1 = cc in omega arith)
    go items Open e = dead_here start l e
    go items Close e = (let z : ◌≡◌ {A = ℕ} 0 1 = cc in omega arith)
    go items Comma e = dead_here start l e
    go items Colon e = dead_here start l e
    go items Name e = dead_here start l e
    go next Open e = dead_here start l e
    go next Close e = (let z : ◌≡◌ {A = ℕ} 0 1 = cc in omega arith)
    go next Comma e = (let z : ◌≡◌ {A = ℕ} 0 1 = cc in omega arith)
    go next Colon e = dead_here start l e
    go next Name e = dead_here start l e
    go named Open e = dead_here start l e
    go named Close e = dead_here start l e
    go named Comma e = dead_here start l e
    go named Colon e = (let z : ◌≡◌ {A = ℕ} 0 1 = cc in omega arith)
    go named Name e = dead_here start l e
    go only m e = dead_here start l e
    go shut m e = dead_here start l e
start_inv (here q false) value l e = go q e
  where
    go : (q : Pos) → valued q ≡ here start l → ⊥
    go start e = dead_here start l e
    go items e = (let z : ◌≡◌ {A = ℕ} 0 1 = cc in omega arith)
    go next e = dead_here start l e
    go named e = dead_here start l e
    go only e = (let z : ◌≡◌ {A = ℕ} 0 1 = cc in omega arith)
    go shut e = dead_here start l e

-- a token that leads to where an item is due is a comma behind an item, or the opening bracket
pub data Opened (q : State) (l : Bool) : Mark → Type 0 where
  by_comma : q ≡ here next l → Opened q l Comma
  by_open : q ≡ here start l → Opened q l Open

pub items_mark : (q : State) (m : Mark) (l : Bool) → step q (mark m) ≡ here items l → Opened q l m
items_mark dead m l e = absurd (dead_here items l e)
items_mark (here q true) m l e = absurd (dead_here items l e)
items_mark (here start false) Open l e = by_open (let z : false ≡ l = cc in ap (here start) z)
items_mark (here start false) Close l e = absurd (dead_here items l e)
items_mark (here start false) Comma l e = absurd (dead_here items l e)
items_mark (here start false) Colon l e = absurd (dead_here items l e)
items_mark (here start false) Name l e = (let z : ◌≡◌ {A = ℕ} 0 1 = cc in absurd (omega arith))
items_mark (here items false) Open l e = absurd (dead_here items l e)
items_mark (here items false) Close l e = (let z : ◌≡◌ {A = ℕ} 0 1 = cc in absurd (omega arith))
items_mark (here items false) Comma l e = absurd (dead_here items l e)
items_mark (here items false) Colon l e = absurd (dead_here items l e)
items_mark (here items false) Name l e = absurd (dead_here items l e)
items_mark (here next false) Open l e = absurd (dead_here items l e)
items_mark (here next false) Close l e = (let z : ◌≡◌ {A = ℕ} 0 1 = cc in absurd (omega arith))
items_mark (here next false) Comma l e = by_comma (let z : false ≡ l = cc in ap (here next) z)
items_mark (here next false) Colon l e = absurd (dead_here items l e)
items_mark (here next false) Name l e = absurd (dead_here items l e)
items_mark (here named false) Open l e = absurd (dead_here items l e)
items_mark (here named false) Close l e = absurd (dead_here items l e)
items_mark (here named false) Comma l e = absurd (dead_here items l e)
items_mark (here named false) Colon l e = (let z : ◌≡◌ {A = ℕ} 0 1 = cc in absurd (omega arith))
items_mark (here named false) Name l e = absurd (dead_here items l e)
items_mark (here only false) m l e = absurd (dead_here items l e)
items_mark (here shut false) m l e = absurd (dead_here items l e)

pub items_value : (q : State) (l : Bool) → step q value ≡ here items l → ⊥
items_value dead l e = dead_here items l e
items_value (here q true) l e = dead_here items l e
items_value (here start false) l e = dead_here items l e
items_value (here items false) l e = (let z : ◌≡◌ {A = ℕ} 0 1 = cc in omega arith)
items_value (here next false) l e = dead_here items l e
items_value (here named false) l e = dead_here items l e
items_value (here only false) l e = (let z : ◌≡◌ {A = ℕ} 0 1 = cc in omega arith)
items_value (here shut false) l e = dead_here items l e

pub begin_pos : (f : Owner) → (p : Pos) × (begin f ≡ here p false)
begin_pos top = (items, refl)
begin_pos (of b) = (start, refl)

pub begin_unnamed : (f : Owner) → Unnamed (begin f)
begin_unnamed top = tt
begin_unnamed (of b) = tt
