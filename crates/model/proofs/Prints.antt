-- A document prints a sentence, whose layout is the tree's own. Assumes nothing.
use Rattle.std.proofs.Common.{◌≡◌, ℕ, Bool, true, false, List, [], ◌∷◌, ◌++◌, sym, refl, ap, ◌∙◌, subst, append-nil}
use mathlib.Core.Bool.{false≢true}
use Rattle.grammar.specs.Classes.{Blank}
use Rattle.grammar.specs.Layout.{Comment, Line, Block, Open, Close, Comma, Colon, Name, Label, Null, Boolean, Numeral, Text, Array, Object, Member, Layout, stop, mark as tick, item}
use Rattle.grammar.specs.Grammar.{All, Many, StringChar, quoted, LineComment, Between, after, Trivia, Frame, brackets, braces, closer, shut as shutting, Value, null as a_null, truth, falsity, numeral, text, array as an_array, object as an_object, Item, element as an_element, member as a_member, Items, close, last, more, Sentence, nothing, something}
use Rattle.grammar.specs.Pieces.{Token, open_array, close_array, open_object, close_object, comma, colon, Break, Leaf, null, boolean, number, string, name, token, whitespace, newline, comment, Box, array, object, property, Pieces, end as no_pieces, leaf, box, token_byte, boolean_bytes, inner, name_of, print, lay}
use Rattle.grammar.proofs.Sentences.{inner_quoted}
use Rattle.forest.specs.Forest.{end, node}
use Rattle.model.specs.Nodes.{Sort, root, within, single, Nodes, blank, break, remark, mark, value, class, piece, pieces}
use Rattle.model.specs.Fits.{Owner, top, of, Pos, start, items, next, named, only, shut, here, dead, spaced, gapped, step, run, Ends, element, member, title, role, signs, takes, Taken, Fits, Quoted, Remarked, Spelled, Holds, Whole, Document}
use Rattle.model.proofs.Fronts.{Front, done, space_on, break_on, block_on, line_on, stopped, stopped_open, lexeme, idle}

-- nothing ends well once the machine is dead
pub no_dead : (f : Owner) (ts : Nodes) → Ends f (run dead ts) → ⊥
no_dead top end e = e
no_dead (of b) end e = e
no_dead f (node p i ks ts) e = no_dead f ts e

-- behind an item: a comma, or the closing bracket
abbrev After : Frame → Layout → List ℕ → Type 0
After f y u = (g : Between) (l : Label) (k : Layout) (s t : List ℕ) → Trivia false g s → Item f l k t → Items f (after g (λ b. item b l k y)) (s ++ (t ++ u))

-- what is to be read at each place of the machine
abbrev Goal : Owner → Pos → Layout → List ℕ → Type 0
Goal top start y u = Unit {0}
Goal top items y u = Sentence y u
Goal top next y u = (g : Between) (l : Label) (k : Layout) (s t : List ℕ) → Trivia false g s → Value l k t → Sentence (after g (λ b. item b l k y)) (s ++ (t ++ u))
Goal top named y u = Unit {0}
Goal top only y u = Unit {0}
Goal top shut y u = Unit {0}
Goal (of array) start y u = Unit {0}
Goal (of array) items y u = Items brackets y u
Goal (of array) next y u = After brackets y u
Goal (of array) named y u = Unit {0}
Goal (of array) only y u = Unit {0}
Goal (of array) shut y u = Unit {0}
Goal (of object) start y u = Unit {0}
Goal (of object) items y u = Items braces y u
Goal (of object) next y u = After braces y u
Goal (of object) named y u = Unit {0}
Goal (of object) only y u = Unit {0}
Goal (of object) shut y u = Unit {0}
Goal (of property) start y u = Unit {0}
Goal (of property) items y u = Unit {0}
Goal (of property) next y u = Unit {0}
Goal (of property) named y u = (n : List ℕ) → Many StringChar n → Item braces (Member n) (tick false Name y) (quoted n ++ u)
Goal (of property) only y u = (n : List ℕ) (g : Between) (s : List ℕ) → Many StringChar n → Trivia false g s → Item braces (Member n) (tick false Name (after g (λ b. tick b Colon y))) (quoted n ++ (s ++ 58 ∷ u))
Goal (of property) shut y u = Unit {0}

-- the whole child list of a container
abbrev Begun : Owner → Pieces → Type 0
Begun top a = Unit {0}
Begun (of array) a = Value Array (lay a false) (print a)
Begun (of object) a = Value Object (lay a false) (print a)
Begun (of property) a = Item braces (Member (name_of a)) (lay a false) (print a)

-- with a line comment open in front, or without
abbrev Fronts : Bool → (Layout → List ℕ → Type 0) → Pieces → Type 0
Fronts false G a = Front G a
Fronts true G a = (t : List ℕ) → LineComment t → Front G (leaf (comment (Line t)) a)

abbrev Reads : Owner → Pos → Bool → Pieces → Type 0
Reads f start l a = Begun f a
Reads f items l a = Fronts l (Goal f items) a
Reads f next l a = Fronts l (Goal f next) a
Reads f named l a = Fronts l (Goal f named) a
Reads f only l a = Fronts l (Goal f only) a
Reads f shut l a = a ≡ no_pieces

-- where nothing is asked, with a line comment open or without
idles : (l : Bool) (a : Pieces) → Fronts l (λ _ _. Unit {0}) a
idles false a = idle a
idles true a = λ t c. idle (leaf (comment (Line t)) a)

-- the end
sentence_next : (g : Between) (r : List ℕ) → Trivia true g r → Goal top next (after g stop) r
sentence_next h r th g l k s t tg v = something tg v th

end_reads : (f : Owner) (q : Pos) (l : Bool) → Ends f (here q l) → Reads f q l no_pieces
end_reads top start l e = absurd e
end_reads top items false e = stopped (Goal top items) (λ g s t. nothing t)
end_reads top items true e = stopped_open (Goal top items) (λ g s t. nothing t)
end_reads top next false e = stopped (Goal top next) sentence_next
end_reads top next true e = stopped_open (Goal top next) sentence_next
end_reads top named l e = absurd e
end_reads top only l e = absurd e
end_reads top shut l e = absurd e
end_reads (of b) start l e = absurd e
end_reads (of b) items l e = absurd e
end_reads (of b) next l e = absurd e
end_reads (of b) named l e = absurd e
end_reads (of b) only l e = absurd e
end_reads (of b) shut l e = refl

-- trivia
module _ (G : Layout → List ℕ → Type 0) (f : Owner) (q : Pos) (ts : Nodes) (r : (k : Bool) → Ends f (run (here q k) ts) → Fronts k G (pieces ts)) where
  blank_front : (l : Bool) (v : List ℕ) → All Blank v → Ends f (run (spaced true q l blank) ts) → Fronts l G (leaf (whitespace v) (pieces ts))
  blank_front false v h e = space_on G (pieces ts) (r false e) v h
  blank_front true v h e = absurd (no_dead f ts e)

  break_front : (l : Bool) (k : Break) → Ends f (run (spaced true q l break) ts) → Fronts l G (leaf (newline k) (pieces ts))
  break_front false k e = break_on G (pieces ts) (r false e) k
  break_front true k e = λ t c. line_on G (pieces ts) (r false e) t k c

  remark_front : (l : Bool) (c : Comment) → Remarked c → Ends f (run (spaced true q l (remark c)) ts) → Fronts l G (leaf (comment c) (pieces ts))
  remark_front false (Line t) h e = r true e t h
  remark_front false (Block t) h e = block_on G (pieces ts) (r false e) t h
  remark_front true c h e = absurd (no_dead f ts e)

-- what the rest of the siblings gives
abbrev Later : Owner → Nodes → Type 0
Later f ts = (q : Pos) (l : Bool) → Ends f (run (here q l) ts) → Reads f q l (pieces ts)

blank_at : (f : Owner) (q : Pos) (l : Bool) (ts : Nodes) (v : List ℕ) → All Blank v → Ends f (run (gapped q l blank) ts) → Later f ts → Reads f q l (leaf (whitespace v) (pieces ts))
blank_at f start l ts v h e r = absurd (no_dead f ts e)
blank_at f items l ts v h e r = blank_front (Goal f items) f items ts (r items) l v h e
blank_at f next l ts v h e r = blank_front (Goal f next) f next ts (r next) l v h e
blank_at f named l ts v h e r = blank_front (Goal f named) f named ts (r named) l v h e
blank_at f only l ts v h e r = blank_front (Goal f only) f only ts (r only) l v h e
blank_at f shut l ts v h e r = absurd (no_dead f ts e)

break_at : (f : Owner) (q : Pos) (l : Bool) (ts : Nodes) (k : Break) → Ends f (run (gapped q l break) ts) → Later f ts → Reads f q l (leaf (newline k) (pieces ts))
break_at f start l ts k e r = absurd (no_dead f ts e)
break_at f items l ts k e r = break_front (Goal f items) f items ts (r items) l k e
break_at f next l ts k e r = break_front (Goal f next) f next ts (r next) l k e
break_at f named l ts k e r = break_front (Goal f named) f named ts (r named) l k e
break_at f only l ts k e r = break_front (Goal f only) f only ts (r only) l k e
break_at f shut l ts k e r = absurd (no_dead f ts e)

remark_at : (f : Owner) (q : Pos) (l : Bool) (ts : Nodes) (c : Comment) → Remarked c → Ends f (run (gapped q l (remark c)) ts) → Later f ts → Reads f q l (leaf (comment c) (pieces ts))
remark_at f start l ts c h e r = absurd (no_dead f ts e)
remark_at f items l ts c h e r = remark_front (Goal f items) f items ts (r items) l c h e
remark_at f next l ts c h e r = remark_front (Goal f next) f next ts (r next) l c h e
remark_at f named l ts c h e r = remark_front (Goal f named) f named ts (r named) l c h e
remark_at f only l ts c h e r = remark_front (Goal f only) f only ts (r only) l c h e
remark_at f shut l ts c h e r = absurd (no_dead f ts e)

-- a value or a property, of the label x with k inside, as the pieces c in front of the rest
module _ (ts : Nodes) (x : Label) (k : Layout) (t : List ℕ) (c : Pieces) (laid : (b : Bool) → lay c b ≡ item b x k (lay (pieces ts) false)) (printed : print c ≡ t ++ print (pieces ts)) where
  item_front : (F : Frame) → Item F x k t → Front (After F) (pieces ts) → Front (Items F) c
  item_front F v m = lexeme (Items F) c (λ b. item b x k (lay (pieces ts) false)) (t ++ print (pieces ts)) laid printed
      (λ g s tg. done (After F) (pieces ts) m g x k s t tg v)

  top_front : Value x k t → Front (Goal top next) (pieces ts) → Front Sentence c
  top_front v m = lexeme Sentence c (λ b. item b x k (lay (pieces ts) false)) (t ++ print (pieces ts)) laid printed
      (λ g s tg. done (Goal top next) (pieces ts) m g x k s t tg v)

  only_front : Value x k t → pieces ts ≡ no_pieces → Front (Goal (of property) only) c
  only_front v z = lexeme (Goal (of property) only) c (λ b. item b x k (stop false)) t
      (λ b. laid b ∙ ap (λ y. item b x k (lay y false)) z) (printed ∙ (ap (λ y. t ++ print y) z ∙ append-nil t))
      (λ h r th n g s ms tg. a_member ms tg th v)

  value_items : (f : Owner) → takes f element ≡ true → Value x k t → Front (Goal f next) (pieces ts) → Front (Goal f items) c
  value_items top w v m = top_front v m
  value_items (of array) w v m = item_front brackets (an_element v) m
  value_items (of object) w v m = absurd (false≢true w)
  value_items (of property) w v m = idle c

  value_only : (f : Owner) → Value x k t → pieces ts ≡ no_pieces → Front (Goal f only) c
  value_only top v z = idle c
  value_only (of array) v z = idle c
  value_only (of object) v z = idle c
  value_only (of property) v z = only_front v z

  value_at : (f : Owner) (q : Pos) (l : Bool) → takes f element ≡ true → Value x k t → Ends f (run (step (here q l) value) ts) → Later f ts → Reads f q l c
  value_at f q true w v e r = absurd (no_dead f ts e)
  value_at f start false w v e r = absurd (no_dead f ts e)
  value_at f items false w v e r = value_items f w v (r next false e)
  value_at f next false w v e r = absurd (no_dead f ts e)
  value_at f named false w v e r = absurd (no_dead f ts e)
  value_at f only false w v e r = value_only f v (r shut false e)
  value_at f shut false w v e r = absurd (no_dead f ts e)

  member_items : (f : Owner) → takes f member ≡ true → Item braces x k t → Front (Goal f next) (pieces ts) → Front (Goal f items) c
  member_items top w v m = absurd (false≢true w)
  member_items (of array) w v m = absurd (false≢true w)
  member_items (of object) w v m = item_front braces v m
  member_items (of property) w v m = absurd (false≢true w)

  member_only : (f : Owner) → takes f member ≡ true → Front (Goal f only) c
  member_only top w = idle c
  member_only (of array) w = idle c
  member_only (of object) w = idle c
  member_only (of property) w = absurd (false≢true w)

  member_at : (f : Owner) (q : Pos) (l : Bool) → takes f member ≡ true → Item braces x k t → Ends f (run (step (here q l) value) ts) → Later f ts → Reads f q l c
  member_at f q true w v e r = absurd (no_dead f ts e)
  member_at f start false w v e r = absurd (no_dead f ts e)
  member_at f items false w v e r = member_items f w v (r next false e)
  member_at f next false w v e r = absurd (no_dead f ts e)
  member_at f named false w v e r = absurd (no_dead f ts e)
  member_at f only false w v e r = member_only f w
  member_at f shut false w v e r = absurd (no_dead f ts e)

-- the closing bracket
module _ (F : Frame) (b : Box) (m : Token) (ts : Nodes) (z : pieces ts ≡ no_pieces)
    (laid : (d : Bool) → lay (leaf (token m) no_pieces) d ≡ shutting d) (byte : token_byte m ≡ closer F) where
  laid_close : (d : Bool) → lay (leaf (token m) (pieces ts)) d ≡ shutting d
  laid_close d = ap (λ y. lay (leaf (token m) y) d) z ∙ laid d

  printed_close : print (leaf (token m) (pieces ts)) ≡ closer F ∷ []
  printed_close = ap (λ y. print (leaf (token m) y)) z ∙ ap (λ y. y ∷ []) byte

  close_items : Front (Items F) (leaf (token m) (pieces ts))
  close_items = lexeme (Items F) (leaf (token m) (pieces ts)) shutting (closer F ∷ []) laid_close printed_close (λ g s t. close t)

  close_next : Front (After F) (leaf (token m) (pieces ts))
  close_next = lexeme (After F) (leaf (token m) (pieces ts)) shutting (closer F ∷ []) laid_close printed_close (λ h r th g l k s t tg v. last tg v th)

-- a comma
comma_next : (F : Frame) (ts : Nodes) → Front (Items F) (pieces ts) → Front (After F) (leaf (token comma) (pieces ts))
comma_next F ts m = lexeme (After F) (leaf (token comma) (pieces ts)) (λ d. tick d Comma (lay (pieces ts) false)) (44 ∷ print (pieces ts)) (λ b. refl) refl
    (λ h r th g l k s t tg v. more tg v th (done (Items F) (pieces ts) m))

-- a colon
colon_named : (ts : Nodes) → Front (Goal (of property) only) (pieces ts) → Front (Goal (of property) named) (leaf (token colon) (pieces ts))
colon_named ts m = lexeme (Goal (of property) named) (leaf (token colon) (pieces ts)) (λ d. tick d Colon (lay (pieces ts) false)) (58 ∷ print (pieces ts)) (λ b. refl) refl
    (λ g s tg n ms. done (Goal (of property) only) (pieces ts) m n g s ms tg)

open_at : (f : Owner) (m : Token) (q : Pos) (l : Bool) (ts : Nodes) → Ends f (run (step (here q l) (mark Open)) ts) → (Ends f (run (here items false) ts) → Begun f (leaf (token m) (pieces ts))) → Reads f q l (leaf (token m) (pieces ts))
open_at f m q true ts e r = absurd (no_dead f ts e)
open_at f m start false ts e r = r e
open_at f m items false ts e r = absurd (no_dead f ts e)
open_at f m next false ts e r = absurd (no_dead f ts e)
open_at f m named false ts e r = absurd (no_dead f ts e)
open_at f m only false ts e r = absurd (no_dead f ts e)
open_at f m shut false ts e r = absurd (no_dead f ts e)

close_at : (f : Owner) (m : Token) (q : Pos) (l : Bool) (ts : Nodes) → Ends f (run (step (here q l) (mark Close)) ts) → Later f ts
    → (pieces ts ≡ no_pieces → Front (Goal f items) (leaf (token m) (pieces ts))) → (pieces ts ≡ no_pieces → Front (Goal f next) (leaf (token m) (pieces ts))) → Reads f q l (leaf (token m) (pieces ts))
close_at f m q true ts e r i n = absurd (no_dead f ts e)
close_at f m start false ts e r i n = absurd (no_dead f ts e)
close_at f m items false ts e r i n = i (r shut false e)
close_at f m next false ts e r i n = n (r shut false e)
close_at f m named false ts e r i n = absurd (no_dead f ts e)
close_at f m only false ts e r i n = absurd (no_dead f ts e)
close_at f m shut false ts e r i n = absurd (no_dead f ts e)

comma_at_lem : (f : Owner) (q : Pos) (l : Bool) (ts : Nodes) → Ends f (run (step (here q l) (mark Comma)) ts) → (Ends f (run (here items false) ts) → Front (Goal f next) (leaf (token comma) (pieces ts))) → Reads f q l (leaf (token comma) (pieces ts))
comma_at_lem f q true ts e r = absurd (no_dead f ts e)
comma_at_lem f start false ts e r = absurd (no_dead f ts e)
comma_at_lem f items false ts e r = absurd (no_dead f ts e)
comma_at_lem f next false ts e r = r e
comma_at_lem f named false ts e r = absurd (no_dead f ts e)
comma_at_lem f only false ts e r = absurd (no_dead f ts e)
comma_at_lem f shut false ts e r = absurd (no_dead f ts e)

colon_at : (f : Owner) (q : Pos) (l : Bool) (ts : Nodes) → Ends f (run (step (here q l) (mark Colon)) ts) → (Ends f (run (here only false) ts) → Front (Goal f named) (leaf (token colon) (pieces ts))) → Reads f q l (leaf (token colon) (pieces ts))
colon_at f q true ts e r = absurd (no_dead f ts e)
colon_at f start false ts e r = absurd (no_dead f ts e)
colon_at f items false ts e r = absurd (no_dead f ts e)
colon_at f next false ts e r = absurd (no_dead f ts e)
colon_at f named false ts e r = r e
colon_at f only false ts e r = absurd (no_dead f ts e)
colon_at f shut false ts e r = absurd (no_dead f ts e)

name_at : (f : Owner) (t : List ℕ) (q : Pos) (l : Bool) (ts : Nodes) → Ends f (run (step (here q l) (mark Name)) ts) → (Ends f (run (here named false) ts) → Begun f (leaf (name t) (pieces ts))) → Reads f q l (leaf (name t) (pieces ts))
name_at f t q true ts e r = absurd (no_dead f ts e)
name_at f t start false ts e r = r e
name_at f t items false ts e r = absurd (no_dead f ts e)
name_at f t next false ts e r = absurd (no_dead f ts e)
name_at f t named false ts e r = absurd (no_dead f ts e)
name_at f t only false ts e r = absurd (no_dead f ts e)
name_at f t shut false ts e r = absurd (no_dead f ts e)

token_at : (f : Owner) (m : Token) (q : Pos) (l : Bool) (ts : Nodes) → signs f m ≡ true → Ends f (run (step (here q l) (class (single (token m)))) ts) → Later f ts → Reads f q l (leaf (token m) (pieces ts))
token_at top m q l ts w e r = absurd (false≢true w)
token_at (of array) open_array q l ts w e r = open_at (of array) open_array q l ts e (λ z. an_array (done (Items brackets) (pieces ts) (r items false z)))
token_at (of array) close_array q l ts w e r = close_at (of array) close_array q l ts e r (λ z. close_items brackets array close_array ts z (λ d. refl) refl) (λ z. close_next brackets array close_array ts z (λ d. refl) refl)
token_at (of array) open_object q l ts w e r = absurd (false≢true w)
token_at (of array) close_object q l ts w e r = absurd (false≢true w)
token_at (of array) comma q l ts w e r = comma_at_lem (of array) q l ts e (λ z. comma_next brackets ts (r items false z))
token_at (of array) colon q l ts w e r = absurd (false≢true w)
token_at (of object) open_array q l ts w e r = absurd (false≢true w)
token_at (of object) close_array q l ts w e r = absurd (false≢true w)
token_at (of object) open_object q l ts w e r = open_at (of object) open_object q l ts e (λ z. an_object (done (Items braces) (pieces ts) (r items false z)))
token_at (of object) close_object q l ts w e r = close_at (of object) close_object q l ts e r (λ z. close_items braces object close_object ts z (λ d. refl) refl) (λ z. close_next braces object close_object ts z (λ d. refl) refl)
token_at (of object) comma q l ts w e r = comma_at_lem (of object) q l ts e (λ z. comma_next braces ts (r items false z))
token_at (of object) colon q l ts w e r = absurd (false≢true w)
token_at (of property) open_array q l ts w e r = absurd (false≢true w)
token_at (of property) close_array q l ts w e r = absurd (false≢true w)
token_at (of property) open_object q l ts w e r = absurd (false≢true w)
token_at (of property) close_object q l ts w e r = absurd (false≢true w)
token_at (of property) comma q l ts w e r = absurd (false≢true w)
token_at (of property) colon q l ts w e r = colon_at (of property) q l ts e (λ z. colon_named ts (r only false z))

name_begun : (t : List ℕ) (ts : Nodes) → Quoted t → Front (Goal (of property) named) (pieces ts) → Begun (of property) (leaf (name t) (pieces ts))
name_begun t ts (n, e, ms) m =
    subst (λ y. Begun (of property) (leaf (name y) (pieces ts))) (sym e)
    (subst (λ y. Item braces (Member y) (tick false Name (lay (pieces ts) false)) (quoted n ++ print (pieces ts))) (sym (inner_quoted n)) (done (Goal (of property) named) (pieces ts) m n ms))

title_at : (f : Owner) (t : List ℕ) (q : Pos) (l : Bool) (ts : Nodes) → takes f title ≡ true → Quoted t → Ends f (run (step (here q l) (mark Name)) ts) → Later f ts → Reads f q l (leaf (name t) (pieces ts))
title_at top t q l ts w h e r = absurd (false≢true w)
title_at (of array) t q l ts w h e r = absurd (false≢true w)
title_at (of object) t q l ts w h e r = absurd (false≢true w)
title_at (of property) t q l ts w h e r = name_at (of property) t q l ts e (λ z. name_begun t ts h (r named false z))

boolean_value : (b : Bool) → Value (Boolean b) (stop false) (boolean_bytes b)
boolean_value true = truth
boolean_value false = falsity

string_value : (t : List ℕ) → Quoted t → Value (Text (inner t)) (stop false) t
string_value t (u, e, ms) = subst (λ y. Value (Text (inner y)) (stop false) y) (sym e) (subst (λ y. Value (Text y) (stop false) (quoted u)) (sym (inner_quoted u)) (text ms))

leaf_at : (x : Leaf) (f : Owner) (q : Pos) (l : Bool) (ks ts : Nodes) → takes f (role (single x)) ≡ true → Spelled x → Ends f (run (step (here q l) (class (single x))) ts) → Later f ts → Reads f q l (leaf x (pieces ts))
leaf_at null f q l ks ts w h e r = value_at ts Null (stop false) (110 ∷ 117 ∷ 108 ∷ 108 ∷ []) (leaf null (pieces ts)) (λ b. refl) refl f q l w a_null e r
leaf_at (boolean b) f q l ks ts w h e r = value_at ts (Boolean b) (stop false) (boolean_bytes b) (leaf (boolean b) (pieces ts)) (λ d. refl) refl f q l w (boolean_value b) e r
leaf_at (number t) f q l ks ts w h e r = value_at ts (Numeral t) (stop false) t (leaf (number t) (pieces ts)) (λ d. refl) refl f q l w (numeral h) e r
leaf_at (string t) f q l ks ts w h e r = value_at ts (Text (inner t)) (stop false) t (leaf (string t) (pieces ts)) (λ d. refl) refl f q l w (string_value t h) e r
leaf_at (name t) f q l ks ts w h e r = title_at f t q l ts w h e r
leaf_at (token m) f q l ks ts w h e r = token_at f m q l ts w e r
leaf_at (whitespace v) f q l ks ts w h e r = blank_at f q l ts v h e r
leaf_at (newline k) f q l ks ts w h e r = break_at f q l ts k e r
leaf_at (comment c) f q l ks ts w h e r = remark_at f q l ts c h e r

box_at : (b : Box) (f : Owner) (q : Pos) (l : Bool) (ks ts : Nodes) → takes f (role (within b)) ≡ true → Begun (of b) (pieces ks) → Ends f (run (step (here q l) value) ts) → Later f ts → Reads f q l (box b (pieces ks) (pieces ts))
box_at array f q l ks ts w v e r = value_at ts Array (lay (pieces ks) false) (print (pieces ks)) (box array (pieces ks) (pieces ts)) (λ b. refl) refl f q l w v e r
box_at object f q l ks ts w v e r = value_at ts Object (lay (pieces ks) false) (print (pieces ks)) (box object (pieces ks) (pieces ts)) (λ b. refl) refl f q l w v e r
box_at property f q l ks ts w v e r = member_at ts (Member (name_of (pieces ks))) (lay (pieces ks) false) (print (pieces ks)) (box property (pieces ks) (pieces ts)) (λ b. refl) refl f q l w v e r

node_at : (s : Sort) (f : Owner) (q : Pos) (l : Bool) (ks ts : Nodes) → takes f (role s) ≡ true → Holds s ks → Ends f (run (step (here q l) (class s)) ts) → Later f ts → ((b : Box) → Fits (of b) ks → Begun (of b) (pieces ks)) → Reads f q l (piece s (pieces ks) (pieces ts))
node_at root f q l ks ts w h e r v = absurd h
node_at (within b) f q l ks ts w h e r v = box_at b f q l ks ts w (v b h) e r
node_at (single x) f q l ks ts w h e r v = leaf_at x f q l ks ts w h.0 e r

reads : (ts : Nodes) (f : Owner) (q : Pos) (l : Bool) → Taken f ts → Whole ts → Ends f (run (here q l) ts) → Reads f q l (pieces ts)
reads end f q l w h e = end_reads f q l e
reads (node p i ks ts) f q l w h e =
    node_at i.sort f q l ks ts w.0 h.0 e (λ q l. reads ts f q l w.1 h.2) (λ b z. reads ks (of b) start false z.taken h.1 z.ends)

-- A document prints a sentence, and the sentence's layout is the tree's own.
pub prints : (ts : Nodes) → Document ts → Sentence (lay (pieces ts) false) (print (pieces ts))
prints ts d = done Sentence (pieces ts) (reads ts top items false d.fits.taken d.whole d.fits.ends)
