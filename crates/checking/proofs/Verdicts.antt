-- What the check of a text answers, by what the reader has read. Assumes nothing.
use Rattle.std.proofs.Common.{◌≡◌, ℕ, ◌≤◌, cond, List, [], ◌∷◌, length, Ok, Err, sym, refl, ap, ◌∙◌, subst, append-nil, arith, le-ltb}
use Rattle.grammar.specs.Parse.{ok, res}
use Rattle.grammar.specs.Pieces.{Pieces, print, nodes}
use Rattle.grammar.specs.Reader.{text_p}
use Rattle.grammar.specs.Answer.{whole, read}
use Rattle.lexemes.specs.Scan.{Reads}
use Rattle.lexemes.proofs.Laws.{Law1}
use Rattle.checking.specs.declared.counter.Counter.{Counter}
use Rattle.checking.specs.declared.extent.Extent.{Extent}
use Rattle.refusal.specs.declared.Refusal.TheVariants as refusal
use Rattle.text.specs.Events.{events}
use Rattle.checking.specs.Counted.{Counted}
use Rattle.checking.specs.Checked.{extent_of, judged, checked}
use Rattle.text.proofs.Spells.{says_text}
use Rattle.text.proofs.Firm.{Sure1, Fine, fine_text}
use Rattle.checking.proofs.Tallies.{nodes_counted, stored_counted, notes_counted, levels_counted}

-- extents with the same figures
same : (e x : Extent) → e.nodes ≡ x.nodes → e.stored ≡ x.stored → e.levels ≡ x.levels → e.comments ≡ x.comments → e ≡ x
same e x n t l m = go
  where
    go : ◌≡◌ {A = Extent} (record { nodes = e.nodes; stored = e.stored; levels = e.levels; comments = e.comments }) (record { nodes = x.nodes; stored = x.stored; levels = x.levels; comments = x.comments })
    go = cc

module _ (s : List ℕ) (short : length s ≤ 1048576) where
  taken : checked s ≡ judged (read 64 s)
  taken = ap (λ v. cond v (Err refusal.BadMemory) (judged (read 64 s))) (le-ltb 1048576 (length s) short)

  module _ (a : Pieces) (t : List ℕ) (r : Reads (text_p 64) s a t) (h : length t ≡ 0) where
    at_end : text_p 64 s ≡ res (ok a) []
    at_end = r.reads ∙ ap (res (ok a)) (none t h)
      where
        none : (t : List ℕ) → length t ≡ 0 → t ≡ []
        none [] z = refl
        none (b ∷ t) z = absurd (omega arith)

    prints : s ≡ print a
    prints = (subst (Law1 print (λ _. 0) s) at_end (says_text 64 s)).0 ∙ append-nil (print a)

    few : nodes a ≤ 2097152
    few = let f : Fine a = subst (Sure1 Fine) at_end (fine_text 64 s) in omega (arith, f, ap length prints)

    small : length (print a) ≤ 1048576
    small = omega (arith, ap length prints)

    -- a reader that does, and what a counter has counted
    pub finished : (b : Counter) → Counted (record { seen = record { nodes = 1; stored = 0; levels = 0; comments = 0 }; depth = 0 }) (events a) b → Ok b.seen ≡ checked s
    finished b c =
        let n = c.nodes ∙ nodes_counted a few small in
        let t = c.stored ∙ stored_counted a few small in
        let l = ap (λ z. z.1) (c.levels ∙ levels_counted a few small) in
        let m = c.comments ∙ notes_counted a few small in
        ap Ok (same b.seen (extent_of a) n t l m) ∙ sym (taken ∙ ap (λ z. judged (whole s z)) at_end)
