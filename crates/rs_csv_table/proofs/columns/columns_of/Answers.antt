-- One column more.
use Rattle.std.proofs.Common.{◌∙◌, ◌++◌, ◌∷◌, [], ap, arith, map, sym}
use Rattle.std.proofs.lemmas.List.FromFn.{map-range_with_len_more}
use Rattle.std.specs.List.{range_with_len}
use Rattle.rs_csv_table.specs.Columns.{column_in}
use Rattle.rs_csv_table.specs.declared.columns.Column.{Column}
use Rattle.rs_csv_table.specs.Records.{records_of}
use Rattle.rs_csv_table.proofs.columns.columns_of.Goals as goal

pub loop-place-preserved : goal.loop-place-preserved
loop-place-preserved c =
    let records = records_of c.args.records.now in
    c.in_ok-push.ensures.items
    ∙ ap (λ l. l ++ c.column_in.result ∷ []) c.loop-place.invariant
    ∙ ap (λ (column : Column). map (column_in records) (range_with_len 0 c.loop-place.place) ++ column ∷ []) c.column_in.ensures
    ∙ sym (map-range_with_len_more (column_in records) 0 c.loop-place.place c.loop-place.place (omega arith))
