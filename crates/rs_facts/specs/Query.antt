-- The rows of a query at one thousandth, its kind and its columns.
--
-- The query is a checked one: its tables are there, its columns go by place, views are opened, and windows are located.
use Rattle.std.specs.Prelude.{ℕ, List, [], ◌∷◌, ◌++◌, map, get_or, set, Option, Some, None, if◌then◌else◌}
use Rattle.std.specs.FinMap as names
use Rattle.rs_value.specs.declared.column.Kind.{Kind}
use Rattle.rs_value.specs.declared.column.Kind.TheVariants as kinds
use Rattle.rs_value.specs.declared.column.ColumnType.{ColumnType}
use Rattle.rs_value.specs.declared.column.ColumnType.TheVariants as types
use Rattle.rs_facts.specs.Fact.{Name, Names, RowSet, none, keep, Facts, no_facts}
use Rattle.rs_facts.specs.Insert.{same_name}
use Rattle.rs_facts.specs.Condition.{Condition, meets}
use Rattle.rs_facts.specs.Operators.{dissolved, overlaid, covered, merged, without, windowed, carried, gapped}

-- where a route starts and where it ends, in thousandths
pub record RouteEnds : Type 0 where
  pub start : ℕ
  pub finish : ℕ

-- a column's name and type
abbrev pub Column : Type 0
Column = Name × ColumnType

pub record Table : Type 0 where
  pub kind : Kind
  pub columns : List Column
  pub facts : Facts

-- what a query is answered from
pub record World : Type 0 where
  pub routes : Names RouteEnds
  pub tables : Names Table

-- a whole route, or the part of it from one thousandth on and below another
pub data Window : Type 0 where
  on_route : Name → Window
  between : Name → ℕ → ℕ → Window  -- route, from, to

-- A piece of an alignment: the part of a route from one thousandth on and below another is carried onto another route,
-- or onto the same, its first thousandth to `onto`.
pub record Piece : Type 0 where
  pub from_route : Name
  pub from : ℕ
  pub to : ℕ
  pub onto_route : Name
  pub onto : ℕ

pub data Query : Type 0 where
  table_rows : Name → Query
  where_rows : Query → Condition → Query
  dissolve_rows : Query → List ℕ → Query  -- the places of the columns named
  rename_column : Query → ℕ → Name → Query  -- the column's place, its new name
  overlay_rows : Query → Query → Query
  cover_rows : ℕ → ℕ → Query → Query → Query  -- how many columns the operands have
  merge_rows : Query → Query → Query
  minus_rows : Query → Query → Query
  window_rows : Query → Window → Query
  transform_rows : Query → Name → List Piece → Query  -- the alignment's name, its pieces
  gaps_rows : Query → Query

abbrev pub facts_of : Option Table → Facts
facts_of (Some table) = table.facts
facts_of None = no_facts

abbrev pub table_kind : Option Table → Kind
table_kind (Some table) = table.kind
table_kind None = kinds.Line

abbrev pub table_columns : Option Table → List Column
table_columns (Some table) = table.columns
table_columns None = []

-- the same rows inside the window, and none outside
abbrev pub seen_through : Window → Name → ℕ → RowSet → RowSet
seen_through (on_route name) route k rows = if same_name name route then rows else none
seen_through (between name from to) route k rows = if same_name name route then windowed from to k rows else none

-- what one piece carries to each thousandth of each route
abbrev pub carried_by : Piece → Facts → Facts
carried_by piece facts route j = if same_name piece.onto_route route then carried piece.from piece.to piece.onto (facts piece.from_route) j else none

-- TRANSFORM: what any of the pieces carries there
abbrev pub transformed : List Piece → Facts → Facts
transformed [] facts route j = none
transformed (piece ∷ pieces) facts route j = merged (carried_by piece facts route j) (transformed pieces facts route j)

-- GAPS on a route by its ends; nothing where there is no route
abbrev pub gapped_on : Option RouteEnds → ℕ → RowSet → RowSet
gapped_on (Some ends) k rows = gapped ends.start ends.finish k rows
gapped_on None k rows = none

-- which rows the query has on a route at a thousandth
abbrev pub rows_at : World → Query → Name → ℕ → RowSet
rows_at world (table_rows name) route k = facts_of (names.get world.tables name) route k
rows_at world (where_rows query condition) route k = keep (meets condition) (rows_at world query route k)
rows_at world (dissolve_rows query columns) route k = dissolved columns (rows_at world query route k)
rows_at world (rename_column query column name) route k = rows_at world query route k
rows_at world (overlay_rows a b) route k = overlaid (rows_at world a route k) (rows_at world b route k)
rows_at world (cover_rows m n a b) route k = covered m n (rows_at world a route k) (rows_at world b route k)
rows_at world (merge_rows a b) route k = merged (rows_at world a route k) (rows_at world b route k)
rows_at world (minus_rows a b) route k = without (rows_at world a route k) (rows_at world b route k)
rows_at world (window_rows query window) route k = seen_through window route k (rows_at world query route k)
rows_at world (transform_rows query name pieces) route k = transformed pieces (rows_at world query) route k
rows_at world (gaps_rows query) route k = gapped_on (names.get world.routes route) k (rows_at world query route k)

-- lines over lines make lines; where either has points, points
abbrev pub overlaid_kind : Kind → Kind → Kind
overlaid_kind kinds.Line kinds.Line = kinds.Line
overlaid_kind kinds.Line kinds.Point = kinds.Point
overlaid_kind kinds.Point kinds.Line = kinds.Point
overlaid_kind kinds.Point kinds.Point = kinds.Point

-- whether the query's rows are points or lines
abbrev pub kind_of : World → Query → Kind
kind_of world (table_rows name) = table_kind (names.get world.tables name)
kind_of world (where_rows query condition) = kind_of world query
kind_of world (dissolve_rows query columns) = kind_of world query
kind_of world (rename_column query column name) = kind_of world query
kind_of world (overlay_rows a b) = overlaid_kind (kind_of world a) (kind_of world b)
kind_of world (cover_rows m n a b) = kind_of world a
kind_of world (merge_rows a b) = kind_of world a
kind_of world (minus_rows a b) = kind_of world a
kind_of world (window_rows query window) = kind_of world query
kind_of world (transform_rows query name pieces) = kind_of world query
kind_of world (gaps_rows query) = kinds.Line

-- the column at a place; past the end one without a name
abbrev pub column_at : List Column → ℕ → Column
column_at columns place = get_or columns place ([], types.Int)

-- the column at a place has another name
abbrev pub renamed_at : ℕ → Name → List Column → List Column
renamed_at place name columns = set columns place (name, (column_at columns place).1)

-- the columns of the query's rows, from the left
abbrev pub columns_of : World → Query → List Column
columns_of world (table_rows name) = table_columns (names.get world.tables name)
columns_of world (where_rows query condition) = columns_of world query
columns_of world (dissolve_rows query columns) = map (column_at (columns_of world query)) columns
columns_of world (rename_column query column name) = renamed_at column name (columns_of world query)
columns_of world (overlay_rows a b) = columns_of world a ++ columns_of world b
columns_of world (cover_rows m n a b) = columns_of world a ++ columns_of world b
columns_of world (merge_rows a b) = columns_of world a
columns_of world (minus_rows a b) = columns_of world a
columns_of world (window_rows query window) = columns_of world query
columns_of world (transform_rows query name pieces) = columns_of world query
columns_of world (gaps_rows query) = []
