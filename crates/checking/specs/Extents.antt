-- How the extent of a document is printed. Assumes nothing.
use Rattle.std.specs.Prelude.{ℕ, List, ◌++◌, codes, decimal}
use Rattle.checking.specs.declared.extent.Extent.{Extent}

-- as it is printed: `18 nodes, 2 levels, 1 comments, 16 bytes to store`
abbrev pub printed : Extent → List ℕ
printed e =
    decimal e.nodes ++ (codes " nodes, " ++ (decimal e.levels ++ (codes " levels, "
    ++ (decimal e.comments ++ (codes " comments, " ++ (decimal e.stored ++ codes " bytes to store"))))))
