-- What a source gives of a table within a part of a route.
use Rattle.std.specs.Prelude.{◌≡◌, ℕ, Bool, List}
use Rattle.rs_value.specs.Row.{Datum, Row}
use Rattle.rs_value.specs.View.{literal_datum}
use Rattle.rs_value.specs.declared.comparison.Comparison.TheVariants as comparisons
use Rattle.rs_facts.specs.Condition.{column, written, compare, meets}
use Rattle.rs_facts.specs.Fact.{RowSet, keep}
use Rattle.rs_facts.specs.Operators.{windowed}
use Rattle.rs_facts.specs.Runs.{Stretch}
use Rattle.rs_facts.specs.Spans.{places_of, ArePlaced}
use Rattle.rs_coalesce.specs.Joined.{AreJoined}
use Rattle.rs_sweep.specs.Lists.{AreWide}
use Rattle.rs_exec.specs.Snapshot.{NumberedTable, Snapshots}
use Rattle.rs_exec.specs.declared.source.Asked.{Asked}
use Rattle.rs_exec.specs.declared.source.Part.{Part}
use Rattle.rs_exec.specs.declared.source.Part.TheVariants as parts
use Rattle.rs_exec.specs.declared.source.SoughtValue.{SoughtValue}

-- the same rows inside the part, and none elsewhere
abbrev pub inside : Part → ℕ → RowSet → RowSet
inside parts.Whole k rows = rows
inside (parts.Between from to) k rows = windowed from to k rows

abbrev pub table_asked : Asked → NumberedTable
table_asked asked = record { number = asked.table; kind = asked.kind; width = asked.width }

-- the rows of the table on the route at the version, at each thousandth
abbrev pub rows_asked : Snapshots → Asked → ℕ → RowSet
rows_asked snapshots asked k = (snapshots asked.version).rows (table_asked asked) asked.route k

-- the row's value in the column at the place is this one
abbrev pub has_datum : ℕ → Datum → Row → Bool
has_datum place datum row = meets (compare (column place) comparisons.Equal (written datum)) row

abbrev pub has_value : SoughtValue → Row → Bool
has_value sought row = has_datum sought.column (literal_datum sought.value.now) row

-- In each of the snapshots the spans mean the table's rows inside the part, and no two are one run. Whatever the snapshots,
-- they are of the table's kind, and as wide as its columns.
pub record AreGiven (stands : Snapshots → Type 0) (asked : Asked) (part : Part) (spans : List Stretch) : Type 0 where
  pub means : (snapshots : Snapshots) → stands snapshots → (k : ℕ) → inside part k (places_of spans k) ≡ inside part k (rows_asked snapshots asked k)
  pub joined : (snapshots : Snapshots) → stands snapshots → AreJoined asked.kind spans
  pub placed : ArePlaced asked.kind spans
  pub wide : AreWide asked.width spans

-- the same of the rows that have the value
pub record AreGivenOfValue (stands : Snapshots → Type 0) (asked : Asked) (part : Part) (sought : SoughtValue) (spans : List Stretch) : Type 0 where
  pub means : (snapshots : Snapshots) → stands snapshots → (k : ℕ) → keep (has_value sought) (inside part k (places_of spans k)) ≡ keep (has_value sought) (inside part k (rows_asked snapshots asked k))
  pub joined : (snapshots : Snapshots) → stands snapshots → AreJoined asked.kind spans
  pub placed : ArePlaced asked.kind spans
  pub wide : AreWide asked.width spans
