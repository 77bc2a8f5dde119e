-- What spans take together, row by row or all rows alike.
use Rattle.std.specs.Prelude.{Bool, true, false, ◌&&◌, nat_le, nat_lt, []}
use Rattle.std.specs.Ordering.{match_ordering, eq_by_cmp}
use Rattle.rs_value.specs.Row.{Row, row_cmp}
use Rattle.rs_facts.specs.Runs.{Stretch, stretch}
use Rattle.rs_sweep.specs.declared.taken.Rows.{Rows}
use Rattle.rs_sweep.specs.declared.taken.Rows.TheVariants.{All, Each}
use Rattle.rs_sweep.specs.declared.taken.Taken.{Taken}

-- the row, or none where rows are not told apart
abbrev pub key : Rows → Row → Row
key All row = []
key Each row = row

abbrev pub keyed : Rows → Stretch → Stretch
keyed rows span = stretch span.lo span.hi (key rows span.row)

abbrev pub taken_of : Rows → Taken → Stretch
taken_of rows taken = stretch taken.first.now.lo taken.hi (key rows taken.first.now.tuple)

-- whether a stretch is of a lesser row, or lies before a span of its row
unfoldable pub ends_before : Stretch → Stretch → Bool
ends_before stretch span = match_ordering (row_cmp stretch.row span.row) true (nat_le stretch.hi span.lo) false

-- whether a stretch is of the span's row and begins before it ends
unfoldable pub is_met : Stretch → Stretch → Bool
is_met stretch span = nat_lt stretch.lo span.hi && eq_by_cmp row_cmp stretch.row span.row
