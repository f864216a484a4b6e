-- The laws of the definitions, from their lemmas. Assumes nothing.
use Rattle.std.proofs.Common.{ℕ, ◌+◌, ◌≤◌, false, List, refl, ap, inl, inr, arith}
use Rattle.std.proofs.lemmas.Bool.{cases_lt}
use Rattle.grammar.specs.Pieces.{Pieces, nodes, print as print_pieces}
use Rattle.forest.specs.Forest.{count}
use Rattle.model.specs.State.{after}
use Rattle.model.specs.Nodes.{Nodes, loaded}
use Rattle.model.specs.Written.{Value, Style, written}
use Rattle.model.specs.Changes.{IsBracketed, IsContainer, Placed}
use Rattle.model.specs.Laws.{Laws, Writable}
use Rattle.model.proofs.Escaping.{escaped_string, escaped_says}
use Rattle.model.proofs.Loads.{pieces_numbered, size_numbered, places_numbered, numbers_numbered, count_inside, count_outside, comments_numbered, value_numbered, whole_comments, whole_value}
use Rattle.model.proofs.Loaded.{Stands, loads}
use Rattle.model.proofs.Prints.{prints}
use Rattle.model.proofs.Edited.{document_under, comments_around, parts_edited}
use Rattle.model.proofs.Commas.{bracketed_commas}
use Rattle.model.proofs.Writes.{written_stands}
use Rattle.model.proofs.Exchanges.{exchange_parts}
use Rattle.model.proofs.Says.{written_says, written_quiet, exchange_comments}
use Rattle.model.proofs.Steps.{step_document}
use Rattle.model.proofs.Lines.{removal_comments}
use Rattle.model.proofs.Fewer.{remove_placed, never_placed}
use Rattle.model.proofs.Kept.{remove_document, remove_value, never_document, never_comments, never_value, lines_document, lines_comments, lines_value, multiline_document, multiline_comments, multiline_value, exchange_kept, root_document}

writable_stands : (st : Style) (t : List ℕ) (v : Value) → Writable st t v → Stands (written st t v)
writable_stands st t v w = written_stands st t v w.step_blank w.indent_blank w.one w.shaped w.shows

container : (c : ℕ) (ts : Nodes) → IsBracketed c ts → IsContainer c ts
container c ts b j ks a = (let x = b j ks a in (x.0, x.1))

placed : (a : Pieces) → Placed (loaded a)
placed a = record { once = each; rootless = count_outside 0 1 2 a (inl (omega arith)) }
  where
    each : (k : ℕ) → count k (loaded a) ≤ 1
    each k = elim (cases_lt k 1) [
      | inl l ↦ omega (arith, count_outside k 1 2 a (inl l))
      | inr g ↦ elim (cases_lt k (1 + nodes a)) [ inl l ↦ omega (arith, count_inside k 1 2 a g l) | inr h ↦ omega (arith, count_outside k 1 2 a (inr h)) ]
    ]

pub stand : Laws
stand = record {
  escaped_is_a_string = λ t m. escaped_string m;
  escaped_says_the_text = λ t m. escaped_says m;
  loaded_prints = λ a. ap print_pieces (pieces_numbered 1 2 a);
  loaded_places = λ a. (size_numbered 1 2 a, places_numbered 1 2 a, numbers_numbered 1 2 a);
  loaded_once = λ a k. ((λ h l. count_inside k 1 2 a h (omega arith)), (λ l. count_outside k 1 2 a (inr (omega arith))), count_outside 0 1 2 a (inl (omega arith)));
  loaded_says = λ a. (comments_numbered 1 2 a false, value_numbered 1 2 a false);
  loads_a_document = loads;
  document_prints = prints;
  document_says = λ ts d. (whole_comments ts false d.whole, whole_value ts false d.whole);
  change_keeps_the_document = document_under;
  change_of_comments = comments_around;
  change_of_value = λ c f g ts k. parts_edited c f g ts k;
  clear_keeps = (record { fits = record { ends = tt; taken = tt }; whole = tt }, refl, refl);
  remove_keeps = λ c k ts b v d. (remove_document c k ts b v d, remove_value c k ts b v);
  never_keeps = λ c ts b d. (never_document c ts (container c ts b) d, never_comments c ts, never_value c ts b d);
  if_multiline_keeps = λ c b s ts h z d. (lines_document c b s ts (λ j ks a. (let x = h j ks a in (x.0, x.1, bracketed_commas b x.0 x.2))) z d, lines_comments c b s ts, lines_value c b s ts h d);
  multiline_keeps = λ c l s ts h b d. (multiline_document c l s ts h b d, multiline_comments c l s ts h, multiline_value c l s ts h b);
  written_says = λ st t v s w. (written_says st t v s w.shaped, written_quiet st t v s);
  exchange_keeps = λ c k s st t v ts w b e d. exchange_kept c k s (written st t v) ts (writable_stands st t v w) b e d;
  exchange_puts = λ k us ks v. (exchange_parts k us ks v, exchange_comments k us ks v);
  root_keeps = λ n s st t v ts w h d. root_document n s (written st t v) ts (writable_stands st t v w) h d;
  loaded_placed = placed;
  edit_keeps_the_document = step_document;
  edit_prints = λ d w e p doc h. prints (after d w e).kids (step_document d w e p doc h);
  removal_comments = removal_comments;
  cuts_leave_places = λ c k ts p. (remove_placed c k ts p, never_placed c ts p);
}
