-- What a plan is evaluated against, by numbers.
use Rattle.std.specs.Prelude.{ℕ, Option}
use Rattle.rs_value.specs.declared.column.Kind.{Kind}
use Rattle.rs_facts.specs.Fact.{Places}
use Rattle.rs_facts.specs.Query.{RouteEnds}

-- a table by its number, with its kind and how many columns it has
pub record NumberedTable : Type 0 where
  pub number : ℕ
  pub kind : Kind
  pub width : ℕ

-- The rows of each table on the route of each number, and where that route starts and ends. Where the table with the number
-- is of another kind or width, there are none, and a route that is not there has no ends.
pub record Snapshot : Type 0 where
  pub rows : NumberedTable → ℕ → Places
  pub ends : ℕ → Option RouteEnds

-- by version
abbrev pub Snapshots : Type 0
Snapshots = ℕ → Snapshot
