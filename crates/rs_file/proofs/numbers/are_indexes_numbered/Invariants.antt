-- The indexes so far have numbers of their own, and are of tables.
use Rattle.std.proofs.Common.{◌≡◌, ◌<◌, map}
use Rattle.std.specs.List.{AllWithin}
use Rattle.rs_page_owners.specs.Counts.{times}
use Rattle.rs_file.proofs.numbers.are_indexes_numbered.Given as goal

abbrev pub invariant-loop-index : goal.invariant-loop-index
invariant-loop-index l =
    AllWithin (λ index. (index.number < 64) × (times (map (λ other. other.number) l.indexes) index.number ≡ 1)
    × (0 < times (map (λ table. table.number) l.tables) index.table)) l.indexes 0 l.index-index
