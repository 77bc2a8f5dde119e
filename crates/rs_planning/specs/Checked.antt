-- What a checked query keeps to beside being well formed, and what tables keep to.
use Rattle.std.specs.Prelude.{◌≡◌, ℕ, ◌+◌, ◌<◌, true, List, length, Some}
use Rattle.std.specs.List.{AllByRecursion}
use Rattle.std.specs.FinMap as names
use Rattle.rs_value.specs.Row.{Row}
use Rattle.rs_facts.specs.Fact.{Name, contains}
use Rattle.rs_facts.specs.Condition.{Condition}
use Rattle.rs_facts.specs.Query.{Table, World, Query, table_rows, where_rows, dissolve_rows, rename_column, overlay_rows, cover_rows, merge_rows, minus_rows, window_rows, transform_rows, gaps_rows}
use Rattle.rs_facts.specs.WellFormed.{width_of}
use Rattle.rs_planning.specs.Conjuncts.{columns_read}

-- the places are those of columns of rows of this width
abbrev pub AreBelow : ℕ → List ℕ → Type 0
AreBelow width places = AllByRecursion (λ place. place < width) places

-- each condition reads such columns alone
abbrev pub ReadBelow : ℕ → List Condition → Type 0
ReadBelow width conditions = AllByRecursion (λ condition. AreBelow width (columns_read condition)) conditions

-- The columns of each condition and of each DISSOLVE are columns of the operand. A checked query keeps to it: the checks
-- look each name up among the operand's columns, and refuse the one that is none.
abbrev pub NamesItsColumns : World → Query → Type 0
NamesItsColumns world (table_rows name) = Unit {0}
NamesItsColumns world (where_rows query condition) = NamesItsColumns world query × AreBelow (width_of world query) (columns_read condition)
NamesItsColumns world (dissolve_rows query columns) = NamesItsColumns world query × AreBelow (width_of world query) columns
NamesItsColumns world (rename_column query column name) = NamesItsColumns world query
NamesItsColumns world (overlay_rows a b) = NamesItsColumns world a × NamesItsColumns world b
NamesItsColumns world (cover_rows m n a b) = NamesItsColumns world a × NamesItsColumns world b
NamesItsColumns world (merge_rows a b) = NamesItsColumns world a × NamesItsColumns world b
NamesItsColumns world (minus_rows a b) = NamesItsColumns world a × NamesItsColumns world b
NamesItsColumns world (window_rows query window) = NamesItsColumns world query
NamesItsColumns world (transform_rows query name pieces) = NamesItsColumns world query
NamesItsColumns world (gaps_rows query) = NamesItsColumns world query

-- how many nodes the query has: each operator and each table is one
abbrev pub nodes_of : Query → ℕ
nodes_of (table_rows name) = 1
nodes_of (where_rows query condition) = nodes_of query + 1
nodes_of (dissolve_rows query columns) = nodes_of query + 1
nodes_of (rename_column query column name) = nodes_of query + 1
nodes_of (overlay_rows a b) = nodes_of a + nodes_of b + 1
nodes_of (cover_rows m n a b) = nodes_of a + nodes_of b + 1
nodes_of (merge_rows a b) = nodes_of a + nodes_of b + 1
nodes_of (minus_rows a b) = nodes_of a + nodes_of b + 1
nodes_of (window_rows query window) = nodes_of query + 1
nodes_of (transform_rows query name pieces) = nodes_of query + 1
nodes_of (gaps_rows query) = nodes_of query + 1

-- each row of a table has a value for each of its columns
abbrev pub RowsHaveTheirWidth : World → Type 0
RowsHaveTheirWidth world = (name : Name) (table : Table) → names.get world.tables name ≡ Some table → (route : Name) (k : ℕ) (row : Row) → contains (table.facts route k) row ≡ true → length row ≡ length table.columns
