use Rattle.std.proofs.Common.{get_or, sym}
use Rattle.std.proofs.lemmas.List.{map_more}
use Rattle.rs_value.specs.Row.{null}
use Rattle.rs_value.proofs.KeptRows.{keeps_both, keeps_is}
use Rattle.rs_value.proofs.kept_making.columns_in.Goals as goal

pub loop-column-preserved : goal.loop-column-preserved
loop-column-preserved c row h =
    keeps_is _ _ _ _ (sym c.in_ok-extend_from_slice.ensures.ok)
    (sym (map_more (λ column. get_or row column null) c.args.columns.now c.loop-column.column-index 0 c.loop-column-test.true))
    (keeps_both c.loop-column.bytes.items _ _ _ (c.loop-column.invariant row h) (c.column_bytes.ensures row h))
