use Rattle.std.proofs.Common.{take, map, get_or}
use Rattle.rs_value.specs.Kept.{Keeps}
use Rattle.rs_value.specs.Row.{Row, null}
use Rattle.rs_value.proofs.kept_making.columns_in.Given as goal

abbrev pub invariant-loop-column : goal.invariant-loop-column
invariant-loop-column l = (row : Row) → Keeps l.kept row → Keeps l.bytes.items (map (λ column. get_or row column null) (take l.column-index l.columns))
