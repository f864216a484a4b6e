-- What the crates above see of a tree: the state of a document. Assumes nothing.
use Rattle.std.specs.Prelude.{vec_items, vec_len}
use Rattle.table.specs.Tables as table
use Rattle.model.specs.Nodes.{Nodes}
use Rattle.model.specs.State.{State}
use Rattle.tree.specs.declared.tree.Tree.{Tree}
use Rattle.tree.specs.Well.{kids_in}

-- the root's children
abbrev pub kids : Tree → Nodes
kids t = kids_in t.table (vec_items t.store)

-- the document's state
abbrev pub state : Tree → State
state t = record {
  kids = kids t;
  fresh = t.fresh;
  used = vec_len t.store;
  edits = t.edits;
  records = table.records t.table;
  store = t.room;
  free = table.free t.table;
}
