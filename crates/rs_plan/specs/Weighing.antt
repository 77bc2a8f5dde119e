-- In which plans the numbers of records have a part.
use Rattle.std.specs.Prelude.{Bool, true, false, ◌||◌}
use Rattle.rs_facts.specs.Query.{Query, table_rows, where_rows, dissolve_rows, rename_column, overlay_rows, cover_rows, merge_rows, minus_rows, window_rows, transform_rows, gaps_rows}
use Rattle.rs_plan.specs.Counted.{Counted}

-- there is an OVERLAY in the query
abbrev pub has_overlay : Query → Bool
has_overlay (table_rows name) = false
has_overlay (where_rows query condition) = has_overlay query
has_overlay (dissolve_rows query columns) = has_overlay query
has_overlay (rename_column query column name) = has_overlay query
has_overlay (overlay_rows a b) = true
has_overlay (cover_rows m n a b) = has_overlay a || has_overlay b
has_overlay (merge_rows a b) = has_overlay a || has_overlay b
has_overlay (minus_rows a b) = has_overlay a || has_overlay b
has_overlay (window_rows query window) = has_overlay query
has_overlay (transform_rows query name pieces) = has_overlay query
has_overlay (gaps_rows query) = has_overlay query

-- the same indexes, and no table has records
abbrev pub uncounted : Counted → Counted
uncounted counted = record { records = λ table. 0; indexes = counted.indexes }
