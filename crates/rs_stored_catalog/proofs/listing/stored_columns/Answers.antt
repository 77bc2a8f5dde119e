use Rattle.std.proofs.Common.{map, sym, ap, ◌∙◌}
use Rattle.std.proofs.lemmas.List.{take_all}
use Rattle.std.proofs.lemmas.Simd.{map-map}
use Rattle.rs_syntax.specs.View.{column_tree}
use Rattle.rs_syntax.specs.declared.commands.ColumnDefinition.{ColumnDefinition}
use Rattle.rs_stored_catalog.specs.Listing.{listed_column}
use Rattle.rs_stored_catalog.proofs.listing.stored_columns.Goals as goal

pub returns : goal.returns
returns c =
    c.loop-column.invariant ∙ ap (map (λ (column : ColumnDefinition). listed_column (column_tree column))) (take_all _ _ c.loop-column-test.false)
    ∙ sym (map-map listed_column column_tree c.args.columns.now)
