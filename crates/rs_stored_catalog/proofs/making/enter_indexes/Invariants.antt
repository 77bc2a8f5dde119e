use Rattle.std.proofs.Common.{◌≡◌, map}
use Rattle.rs_catalog_pages.specs.Items.{IndexItem}
use Rattle.rs_catalog_pages.specs.Said.{said_index, said_table}
use Rattle.rs_file_meaning.specs.States.{named_index}
use Rattle.rs_stored_catalog.proofs.Entering.{so_far}
use Rattle.rs_stored_catalog.proofs.making.enter_indexes.Given as goal

-- the indexes so far
abbrev pub invariant-loop-index : goal.invariant-loop-index
invariant-loop-index l = l.catalog ≡ record l.fn.catalog { indexes = so_far (λ (x : IndexItem). x.name) (λ x. (named_index (map said_table l.tables) x).1) (map said_index l.indexes) l.index-index }
