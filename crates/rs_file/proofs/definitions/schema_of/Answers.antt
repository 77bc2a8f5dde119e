-- The types of all columns.
use Rattle.std.proofs.Common.{◌≤◌, ◌∙◌, length, map, sym, ap, arith}
use Rattle.std.proofs.lemmas.List.{take_all}
use Rattle.std.proofs.lemmas.Simd.{map-map}
use Rattle.rs_catalog_pages.specs.Said.{said_column}
use Rattle.rs_catalog_pages.specs.declared.items.StoredColumn.{StoredColumn}
use Rattle.rs_file.specs.Contents.{type_of}
use Rattle.rs_file.proofs.definitions.schema_of.Goals as goal

pub returns-clause-columns : goal.returns-clause-columns
returns-clause-columns c =
    let columns = c.args.table.now.columns.list.items in
    let whole : length columns ≤ c.loop-column.column-index = omega arith in
    c.loop-column.invariant.types ∙ ap (map (λ (column : StoredColumn). type_of (said_column column))) (take_all c.loop-column.column-index columns whole)
    ∙ sym (map-map type_of said_column columns)
