-- A leaf is added as a node of its kind with the bytes that are kept. Assumes nothing.
use Rattle.grammar.specs.Pieces.{kept}
use Rattle.table.specs.Tables.{free}
use Rattle.text.specs.Events.{leaf_for}
use Rattle.loader.specs.Kinds.{leaf_kind}
use Rattle.loader.specs.Sites.{Built, site_of}
use Rattle.loader.proofs.Standing.{put_told}
use Rattle.loader.proofs.telling.BuilderSink.put.Goals as goal

pub returns : goal.returns
unfolding Built
returns c =
    let x = leaf_for c.args.kind c.args.bytes.now in
    put_told (site_of c.args.self.now) (site_of c.add.new.self) (free c.args.self.now.table) c.kind_of.result (leaf_kind x) (c.kind_of.ensures c.args.bytes.now)
    c.kept.result.now (kept x) c.add.ensures.site c.kept.ensures
