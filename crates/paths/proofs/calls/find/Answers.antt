use Rattle.std.proofs.Common.{◌&&◌, sym, ap, ◌∙◌, rules}
use borrow.Author.Tests.{tests}
use Rattle.std.specs.Option.{option_map}
use Rattle.grammar.specs.Pieces.{name_of}
use Rattle.refusal.specs.declared.Refusal.TheVariants.{NotHere}
use Rattle.model.specs.Nodes.{pieces}
use Rattle.model.specs.Asks.{sort_of, spot_handle, is_object, is_property, same_bytes, find}
use Rattle.model.specs.State.{Given}
use Rattle.tree.specs.Sorts.{handle_for}
use Rattle.tree.specs.Steps.{spot}
use Rattle.tree.proofs.Consumers.{found_sibling}
use Rattle.tree.proofs.Listed.{mapped}
use Rattle.document.specs.Documents.{state_of}
use Rattle.document.proofs.Asked.{here_where}
use Rattle.paths.proofs.Titles.{find_on}
use Rattle.paths.proofs.calls.find.Goals as goal
use Rattle.paths.proofs.calls.find.Goals.{in-Object, in_default}

pub returns : goal.returns
returns c =
    let s = spot c.in_ok-node.node in
    let u = c.args.name.now in
    let found = found_sibling _ _ _ c.find-property.result (λ s. is_property (sort_of s) && same_bytes (name_of (pieces s.kids)) u) c.find-property.ensures.ran c.children.ensures.spots (λ x b q k. search (rules, tests)) in
    ap Given (mapped _ handle_for spot_handle c.find-property.result c.map.result c.map.ensures.cases (λ n y p. search rules) ∙ (ap (option_map spot_handle) found ∙ find_on u _ _ s.kids))
    ∙ sym (here_where (state_of c.args.document.now) (handle_for c.args.handle) (λ s. Given (find u s.kids)) (λ s. is_object (sort_of s)) NotHere s c.in_ok-node.ensures
    (elim c.match-matches.branch [ in-Object w ↦ sym (ap is_object w.in-Object.ensures.1) | in_default w ↦ cc ]))
