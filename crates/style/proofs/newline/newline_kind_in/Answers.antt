-- The first Newline that is found is the document's, since the root is none.
use Rattle.std.proofs.Common.{◌∷◌, map, ap, ◌∙◌}
use Rattle.model.specs.Asks.{first_of, layers}
use Rattle.tree.specs.Trees.{kids}
use Rattle.style.specs.Breaks.{kind_for}
use Rattle.style.proofs.Breaks.{name_for, names_at, names_found, first_kind}
use Rattle.style.proofs.newline.newline_kind_in.Goals as goal

pub returns : goal.returns
returns c =
    ap kind_for c.unwrap_or.ensures
    ∙ first_kind c.first_by_level.result (kids c.args.tree.now) (c.first_by_level.ensures names_at (λ n r p. names_found r ∙ ap (map name_for) p.1)
    ∙ ap (λ s. first_of (names_at s.here.own.sort s.kids ∷ layers names_at s.kids)) c.root.ensures.spot)
