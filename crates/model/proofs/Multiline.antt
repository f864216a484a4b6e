-- ensure_multiline keeps the document, its comments and its value. Assumes nothing.
use Rattle.std.proofs.Common.{◌≡◌, ℕ, Bool, true, false, List, [], ◌∷◌, ◌++◌, sym, refl, ap, ◌∙◌, subst}
use mathlib.Core.Bool.{false≢true}
use Rattle.std.proofs.lemmas.Bool.{cond_both}
use Rattle.grammar.specs.Classes.{Blank}
use Rattle.grammar.specs.Grammar.{All}
use Rattle.grammar.specs.Layout.{Open, Close, Comma, Colon, Name}
use Rattle.grammar.specs.Pieces.{whitespace, newline, Pieces, end as no_pieces, leaf, box, nodes}
use Rattle.forest.specs.Forest.{end, node, append}
use Rattle.model.specs.Nodes.{handle, Own, Nodes, Gap, blank, break, remark, Class, gap, mark, value, class, pieces, label_of, parts, parts_at}
use Rattle.model.specs.Edits.{Supply, skip, sown, shuts, Piece, opens, closes, space, cut, stuff, piece_of, begun, loose as dropped?, unspaced, Lines, unless_empty, part_start, lead, spread_out}
use Rattle.model.specs.Fits.{Owner, Pos, start, items, next, named, only, shut, State, here, dead, loose, spaced, step, run, begin, Ends, title, takes, Taken, Fits, Whole, comments, remarks_of}
use Rattle.model.proofs.Prints.{no_dead}
use Rattle.model.proofs.Machine.{Untitled}
use Rattle.model.proofs.Loaded.{break_shuts}
use Rattle.model.proofs.Removes.{Kept, each_kept, kept_taken, kept_fits, sort_untitled}
use Rattle.model.specs.Changes.{Each, Blanked}

-- THE WHITESPACE THAT GOES

-- only Whitespace goes
space_is : (c : Class) (b l : Bool) → dropped? (piece_of c) b l ≡ true → c ≡ gap blank
space_is (gap blank) b l e = refl
space_is (gap break) b l e = absurd (false≢true e)
space_is (gap (remark c)) b l e = absurd (false≢true e)
space_is (mark Open) b l e = absurd (false≢true e)
space_is (mark Close) b l e = absurd (false≢true e)
space_is (mark Comma) b l e = absurd (false≢true e)
space_is (mark Colon) b l e = absurd (false≢true e)
space_is (mark Name) b l e = absurd (false≢true e)
space_is value b l e = absurd (false≢true e)

-- and the machine stands where it stood
blank_stays : (f : Owner) (q : State) (ts : Nodes) → Ends f (run (step q (gap blank)) ts) → Ends f (run q ts)
blank_stays f dead ts e = e
blank_stays f (here q l) ts e = go (loose q) l e
  where
    go : (b l : Bool) → Ends f (run (spaced b q l blank) ts) → Ends f (run (here q l) ts)
    go false l e = absurd (no_dead f ts e)
    go true true e = absurd (no_dead f ts e)
    go true false e = e

unspaced_ends : (f : Owner) (q : State) (b : Bool) (ts : Nodes) → Ends f (run q ts) → Ends f (run q (unspaced b ts))
unspaced_ends f q b end e = e
unspaced_ends f q b (node p i ks ts) e =
    let x = piece_of (class i.sort) in
    cond_both (dropped? x b (shuts ts)) (unspaced (begun x b) ts) (node p i ks (unspaced (begun x b) ts)) (λ y. Ends f (run q y))
    (λ z. unspaced_ends f q (begun x b) ts (blank_stays f q ts (subst (λ c. Ends f (run (step q c) ts)) (space_is (class i.sort) b (shuts ts) z) e)))
    (λ z. unspaced_ends f (step q (class i.sort)) (begun x b) ts e)

unspaced_each : (P : Own → Nodes → Type 0) (b : Bool) (ts : Nodes) → Each P ts → Each P (unspaced b ts)
unspaced_each P b end h = tt
unspaced_each P b (node p i ks ts) h =
    let x = piece_of (class i.sort) in
    cond_both (dropped? x b (shuts ts)) (unspaced (begun x b) ts) (node p i ks (unspaced (begun x b) ts)) (Each P)
    (λ z. unspaced_each P (begun x b) ts h.1) (λ z. (h.0, unspaced_each P (begun x b) ts h.1))

pub unspaced_comments : (b : Bool) (ts : Nodes) → comments (unspaced b ts) ≡ comments ts
unspaced_comments b end = refl
unspaced_comments b (node p i ks ts) =
    let x = piece_of (class i.sort) in
    cond_both (dropped? x b (shuts ts)) (unspaced (begun x b) ts) (node p i ks (unspaced (begun x b) ts)) (λ y. comments y ≡ comments (node p i ks ts))
    (λ z. unspaced_comments (begun x b) ts ∙ sym (ap (λ c. remarks_of c (comments ks) ++ comments ts) (space_is (class i.sort) b (shuts ts) z)))
    (λ z. ap (λ y. remarks_of (class i.sort) (comments ks) ++ y) (unspaced_comments (begun x b) ts))

pub unspaced_parts : (b : Bool) (ts : Nodes) → parts (unspaced b ts) ≡ parts ts
unspaced_parts b end = refl
unspaced_parts b (node p i ks ts) =
    let x = piece_of (class i.sort) in
    cond_both (dropped? x b (shuts ts)) (unspaced (begun x b) ts) (node p i ks (unspaced (begun x b) ts)) (λ y. parts y ≡ parts (node p i ks ts))
    (λ z. unspaced_parts (begun x b) ts ∙ sym (ap (λ c. parts_at c (handle p i) (label_of i.sort (pieces ks)) (parts ks) (parts ts)) (space_is (class i.sort) b (shuts ts) z)))
    (λ z. ap (parts_at (class i.sort) (handle p i) (label_of i.sort (pieces ks)) (parts ks)) (unspaced_parts (begun x b) ts))

-- THE LINES THAT ARE WRITTEN

-- a Newline, and it may be Whitespace
pub data Lining : Pieces → Type 0 where
  no_line : Lining no_pieces
  new_line : (k : Rattle.grammar.specs.Pieces.Break) → Lining (leaf (newline k) no_pieces)
  new_lined : (k : Rattle.grammar.specs.Pieces.Break) (t : List ℕ) → All Blank t → Lining (leaf (newline k) (leaf (whitespace t) no_pieces))

part_lining : (l : Lines) (b : Bool) → Blanked l → Lining (part_start l b)
part_lining l true h = no_line
part_lining l false h = new_lined l.newline l.inner h.inner_blank

close_lining : (l : Lines) (t : List ℕ) → All Blank t → Lining (leaf (newline l.newline) (unless_empty t))
close_lining l [] h = new_line l.newline
close_lining l (b ∷ t) h = new_lined l.newline (b ∷ t) h

lead_lining : (l : Lines) (x : Piece) (b : Bool) → Blanked l → Lining (lead l x b)
lead_lining l opens b h = no_line
lead_lining l closes b h = close_lining l l.current h.current_blank
lead_lining l space b h = no_line
lead_lining l cut b h = part_lining l b h
lead_lining l stuff b h = part_lining l b h

-- they may be written where trivia may stand, and end a line comment
lining_ends : (f : Owner) (q : Pos) (l : Bool) (s : Supply) {a : Pieces} (ts : Nodes) → loose q ≡ true → Lining a → Ends f (run (here q l) ts) → Ends f (run (here q false) ts) → Ends f (run (here q l) (append (sown s a) ts))
lining_ends f q l s ts z no_line e d = e
lining_ends f q l s ts z (new_line k) e d = subst (λ y. Ends f (run y ts)) (sym (ap (λ v. spaced v q l break) z ∙ break_shuts q l)) d
lining_ends f q l s ts z (new_lined k t h) e d = subst (λ y. Ends f (run (step y (gap blank)) ts)) (sym (ap (λ v. spaced v q l break) z ∙ break_shuts q l)) (subst (λ v. Ends f (run (spaced v q false blank) ts)) (sym z) d)

lining_each : (f : Owner) (s : Supply) {a : Pieces} (ts : Nodes) → Lining a → Each (Kept f) ts → Each (Kept f) (append (sown s a) ts)
lining_each f s ts no_line h = h
lining_each f s ts (new_line k) h = ((refl, (tt, tt), tt), h)
lining_each f s ts (new_lined k t b) h = ((refl, (tt, tt), tt), ((refl, (b, tt), tt), h))

lining_comments : (s : Supply) {a : Pieces} (ts : Nodes) → Lining a → comments (append (sown s a) ts) ≡ comments ts
lining_comments s ts no_line = refl
lining_comments s ts (new_line k) = refl
lining_comments s ts (new_lined k t b) = refl

lining_parts : (s : Supply) {a : Pieces} (ts : Nodes) → Lining a → parts (append (sown s a) ts) ≡ parts ts
lining_parts s ts no_line = refl
lining_parts s ts (new_line k) = refl
lining_parts s ts (new_lined k t b) = refl

-- what comes next wants no line comment open, but for a Newline
no_line_open : (f : Owner) (q : Pos) (l : Bool) (c : Class) (ts : Nodes) → Ends f (run (step (here q l) c) ts) → Ends f (run (step (here q false) c) ts)
no_line_open f q false c ts e = e
no_line_open f q true (mark m) ts e = absurd (no_dead f ts e)
no_line_open f q true value ts e = absurd (no_dead f ts e)
no_line_open f q true (gap g) ts e = go (loose q) g e
  where
    go : (b : Bool) (g : Gap) → Ends f (run (spaced b q true g) ts) → Ends f (run (spaced b q false g) ts)
    go false g e = e
    go true blank e = absurd (no_dead f ts e)
    go true break e = e
    go true (remark c) e = absurd (no_dead f ts e)

-- trivia may stand before everything but the opening bracket and a name
abbrev Loosely : Piece → Type 0
Loosely opens = ⊥
Loosely closes = Unit {0}
Loosely space = Unit {0}
Loosely cut = Unit {0}
Loosely stuff = Unit {0}

loose_before : (f : Owner) (q : Pos) (l : Bool) (c : Class) (ts : Nodes) → Untitled c → Loosely (piece_of c) → Ends f (run (step (here q l) c) ts) → loose q ≡ true
loose_before f start l (gap g) ts u w e = absurd (no_dead f ts e)
loose_before f start true (mark m) ts u w e = absurd (no_dead f ts e)
loose_before f start false (mark Open) ts u w e = absurd w
loose_before f start false (mark Close) ts u w e = absurd (no_dead f ts e)
loose_before f start false (mark Comma) ts u w e = absurd (no_dead f ts e)
loose_before f start false (mark Colon) ts u w e = absurd (no_dead f ts e)
loose_before f start false (mark Name) ts u w e = absurd u
loose_before f start true value ts u w e = absurd (no_dead f ts e)
loose_before f start false value ts u w e = absurd (no_dead f ts e)
loose_before f items l c ts u w e = refl
loose_before f next l c ts u w e = refl
loose_before f named l c ts u w e = refl
loose_before f only l c ts u w e = refl
loose_before f shut l (gap g) ts u w e = absurd (no_dead f ts e)
loose_before f shut true (mark m) ts u w e = absurd (no_dead f ts e)
loose_before f shut false (mark m) ts u w e = absurd (no_dead f ts e)
loose_before f shut true value ts u w e = absurd (no_dead f ts e)
loose_before f shut false value ts u w e = absurd (no_dead f ts e)

lead_ends : (f : Owner) (q : State) (l : Lines) (b : Bool) (s : Supply) (c : Class) (p : ℕ) (i : Own) (ks ts : Nodes) → class i.sort ≡ c → Blanked l → Untitled c → Ends f (run (step q c) ts) → Ends f (run q (append (sown s (lead l (piece_of c) b)) (node p i ks ts)))
lead_ends f dead l b s c p i ks ts v h u e = absurd (no_dead f ts e)
lead_ends f (here q k) l b s c p i ks ts v h u e = go c v u e
  where
    lined : (c : Class) → class i.sort ≡ c → Untitled c → Loosely (piece_of c) → Ends f (run (step (here q k) c) ts) → Ends f (run (here q k) (append (sown s (lead l (piece_of c) b)) (node p i ks ts)))
    lined c v u w e = lining_ends f q k s (node p i ks ts) (loose_before f q k c ts u w e) (lead_lining l (piece_of c) b h)
        (subst (λ y. Ends f (run (step (here q k) y) ts)) (sym v) e) (subst (λ y. Ends f (run (step (here q false) y) ts)) (sym v) (no_line_open f q k c ts e))

    go : (c : Class) → class i.sort ≡ c → Untitled c → Ends f (run (step (here q k) c) ts) → Ends f (run (here q k) (append (sown s (lead l (piece_of c) b)) (node p i ks ts)))
    go (gap blank) v u e = lined (gap blank) v u tt e
    go (gap break) v u e = lined (gap break) v u tt e
    go (gap (remark c)) v u e = lined (gap (remark c)) v u tt e
    go (mark Open) v u e = subst (λ y. Ends f (run (step (here q k) y) ts)) (sym v) e
    go (mark Close) v u e = lined (mark Close) v u tt e
    go (mark Comma) v u e = lined (mark Comma) v u tt e
    go (mark Colon) v u e = lined (mark Colon) v u tt e
    go (mark Name) v u e = absurd u
    go value v u e = lined value v u tt e

spread_ends : (f : Owner) (q : State) (l : Lines) (b : Bool) (s : Supply) (ts : Nodes) → Blanked l → takes f title ≡ false → Taken f ts → Ends f (run q ts) → Ends f (run q (spread_out l b s ts))
spread_ends f q l b s end h n t e = e
spread_ends f q l b s (node p i ks ts) h n t e =
    let x = piece_of (class i.sort) in
    let r : Supply = skip (nodes (lead l x b)) s in
    lead_ends f q l b s (class i.sort) p i ks (spread_out l (begun x b) r ts) refl h (sort_untitled f i.sort n t.0) (spread_ends f (step q (class i.sort)) l (begun x b) r ts h n t.1 e)

spread_each : (f : Owner) (l : Lines) (b : Bool) (s : Supply) (ts : Nodes) → Blanked l → Each (Kept f) ts → Each (Kept f) (spread_out l b s ts)
spread_each f l b s end h k = tt
spread_each f l b s (node p i ks ts) h k =
    let x = piece_of (class i.sort) in
    let r : Supply = skip (nodes (lead l x b)) s in
    lining_each f s (node p i ks (spread_out l (begun x b) r ts)) (lead_lining l x b h) (k.0, spread_each f l (begun x b) r ts h k.1)

pub spread_comments : (l : Lines) (b : Bool) (s : Supply) (ts : Nodes) → Blanked l → comments (spread_out l b s ts) ≡ comments ts
spread_comments l b s end h = refl
spread_comments l b s (node p i ks ts) h =
    let x = piece_of (class i.sort) in
    let r : Supply = skip (nodes (lead l x b)) s in
    lining_comments s (node p i ks (spread_out l (begun x b) r ts)) (lead_lining l x b h) ∙ ap (λ y. remarks_of (class i.sort) (comments ks) ++ y) (spread_comments l (begun x b) r ts h)

pub spread_parts : (l : Lines) (b : Bool) (s : Supply) (ts : Nodes) → Blanked l → parts (spread_out l b s ts) ≡ parts ts
spread_parts l b s end h = refl
spread_parts l b s (node p i ks ts) h =
    let x = piece_of (class i.sort) in
    let r : Supply = skip (nodes (lead l x b)) s in
    lining_parts s (node p i ks (spread_out l (begun x b) r ts)) (lead_lining l x b h) ∙ ap (parts_at (class i.sort) (handle p i) (label_of i.sort (pieces ks)) (parts ks)) (spread_parts l (begun x b) r ts h)

-- ensure_multiline keeps a child list that is no property's
pub multiline_fits : (f : Owner) (l : Lines) (s : Supply) (ts : Nodes) → Blanked l → takes f title ≡ false → Fits f ts → Whole ts → Fits f (spread_out l false s (unspaced false ts)) × Whole (spread_out l false s (unspaced false ts))
multiline_fits f l s ts h n d w =
    let a = unspaced_each (Kept f) false ts (each_kept f ts d.taken w) in
    kept_fits f (spread_out l false s (unspaced false ts))
    (spread_ends f (begin f) l false s (unspaced false ts) h n (kept_taken f (unspaced false ts) a) (unspaced_ends f (begin f) false ts d.ends))
    (spread_each f l false s (unspaced false ts) h a)
