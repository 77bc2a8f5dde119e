-- The tables so far have numbers of their own.
use Rattle.std.proofs.Common.{◌≡◌, ◌<◌, map}
use Rattle.std.specs.List.{AllWithin}
use Rattle.rs_page_owners.specs.Counts.{times}
use Rattle.rs_file.proofs.numbers.are_tables_numbered.Given as goal

abbrev pub invariant-loop-table : goal.invariant-loop-table
invariant-loop-table l =
    AllWithin (λ table. (table.number < 128) × (times (map (λ other. other.number) l.tables) table.number ≡ 1)) l.tables 0 l.table-index
