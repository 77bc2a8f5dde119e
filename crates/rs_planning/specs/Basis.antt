-- What a plan is chosen by: the tables, how many records they have, and the indexes.
use Rattle.std.specs.Prelude.{ℕ, ◌+◌, length, sum_by}
use Rattle.std.specs.FinMap as names
use Rattle.rs_facts.specs.Fact.{Name, Names}
use Rattle.rs_facts.specs.Query.{World, facts_of, table_kind}
use Rattle.rs_facts.specs.Runs.{runs_of}

-- what an index is of: a table, and the place of one of its columns
pub record IndexedColumn : Type 0 where
  pub table : Name
  pub column : ℕ

pub record Basis : Type 0 where
  pub world : World
  -- how many records a table has
  pub record_count : Name → ℕ
  -- by name
  pub indexes : Names IndexedColumn

-- The number of maximal runs of a table's facts. A point may stand at a route's end, so the end itself is looked at.
abbrev pub runs_counted : World → Name → ℕ
runs_counted world table = sum_by (λ route. length (runs_of (table_kind (names.get world.tables table)) (facts_of (names.get world.tables table) route.0) route.1.start (route.1.finish + 1))) (names.entries world.routes)

-- by the present number of runs
abbrev pub present_basis : World → Names IndexedColumn → Basis
present_basis world indexes = record { world = world; record_count = runs_counted world; indexes = indexes }
