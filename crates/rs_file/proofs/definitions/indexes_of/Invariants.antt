-- The indexes of the items so far that are of the table.
use Rattle.std.proofs.Common.{◌≡◌, ◌==◌, map, take}
use Rattle.std.specs.List.{AllByRecursion, AllZip, filter}
use Rattle.rs_catalog_pages.specs.Said.{said_directory, said_index}
use Rattle.rs_file.specs.Contents.{IsIndex}
use Rattle.rs_file.proofs.definitions.indexes_of.Given as goal

abbrev pub invariant-loop-item : goal.invariant-loop-item
invariant-loop-item l = record {
  found : AllZip (IsIndex l.schema.items (said_directory l.directory)) (filter (λ index. index.table == l.number) (map said_index (take l.item-index l.items))) l.indexes.items;
  committed : AllByRecursion (λ index. index.committed ≡ index.working) l.indexes.items;
}
