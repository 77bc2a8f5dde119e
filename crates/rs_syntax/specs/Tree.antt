-- A command as a value. A name is its bytes.
use Rattle.std.specs.Prelude.{ℕ, List, Option}
use Rattle.rs_methods.specs.Position.{PositionExpression}
use Rattle.rs_methods.specs.declared.position.Method.{Method}
use Rattle.rs_value.specs.declared.column.Kind.{Kind}
use Rattle.rs_value.specs.declared.column.ColumnType.{ColumnType}
use Rattle.rs_value.specs.declared.comparison.Comparison.{Comparison}
use Rattle.rs_value.specs.Row.{Datum, Row}

-- where an event is put: along a span between two positions, or at one
pub data EventLocationTree : Type 0 where
  along : PositionExpression → PositionExpression → EventLocationTree
  at_point : PositionExpression → EventLocationTree

-- a whole route, or the part of it between two positions
pub data WindowTree : Type 0 where
  whole_route : List ℕ → WindowTree  -- route
  part_of_route : List ℕ → PositionExpression → PositionExpression → WindowTree  -- route, from, to

-- a piece of an alignment: the part of a route from one measure on and below another, and from which measure on it is
-- carried onto a route
pub record PieceTree : Type 0 where
  pub from_route : List ℕ
  pub from : ℕ
  pub to : ℕ
  pub onto_route : List ℕ
  pub onto : ℕ

-- what a column is compared with: a column by its name, or a value written out
pub data OperandTree : Type 0 where
  column_named : List ℕ → OperandTree
  written_value : Datum → OperandTree

-- a condition, its columns by name; `a AND b AND c` is `a` and the rest, and so with OR
pub data ConditionTree : Type 0 where
  compare : List ℕ → Comparison → OperandTree → ConditionTree
  is_null : List ℕ → ConditionTree
  is_not_null : List ℕ → ConditionTree
  negated : ConditionTree → ConditionTree
  bracketed : ConditionTree → ConditionTree
  both : ConditionTree → ConditionTree → ConditionTree
  either : ConditionTree → ConditionTree → ConditionTree

-- a query, its tables, views, columns and alignments by name
pub data QueryTree : Type 0 where
  named : List ℕ → QueryTree
  filtered : QueryTree → ConditionTree → QueryTree
  dissolved : QueryTree → List (List ℕ) → QueryTree
  renamed : QueryTree → List ℕ → List ℕ → QueryTree  -- the column's name, its new name
  overlaid : QueryTree → QueryTree → QueryTree
  covered : QueryTree → QueryTree → QueryTree
  merged : QueryTree → QueryTree → QueryTree
  subtracted : QueryTree → QueryTree → QueryTree
  windowed : QueryTree → WindowTree → QueryTree
  transformed : QueryTree → List ℕ → QueryTree  -- the alignment's name
  gapped : QueryTree → QueryTree

pub data CommandTree : Type 0 where
  define_route : List ℕ → ℕ → ℕ → CommandTree  -- name, start, finish
  define_table : Kind → List ℕ → List (List ℕ × ColumnType) → CommandTree  -- kind, name, columns
  define_referent : List ℕ → List ℕ → PositionExpression → CommandTree  -- route, name, position
  define_index : List ℕ → List ℕ → List ℕ → CommandTree  -- name, table, column
  define_view : List ℕ → QueryTree → List ℕ → CommandTree  -- name, query, the query's text as written
  define_alignment : List ℕ → List PieceTree → CommandTree  -- name, pieces
  move_referent : List ℕ → List ℕ → PositionExpression → CommandTree  -- route, name, position
  drop_route : List ℕ → CommandTree  -- name
  drop_table : List ℕ → CommandTree  -- name
  drop_index : List ℕ → CommandTree  -- name
  drop_view : List ℕ → CommandTree  -- name
  drop_alignment : List ℕ → CommandTree  -- name
  drop_referent : List ℕ → List ℕ → CommandTree  -- route, name
  insert : List ℕ → List ℕ → EventLocationTree → Row → CommandTree  -- table, route, place, values
  remove : List ℕ → WindowTree → Option ConditionTree → CommandTree  -- table, where, which rows
  translate : List ℕ → PositionExpression → Method → CommandTree  -- route, position, the method wanted
  select : QueryTree → Method → CommandTree  -- query, the method of its positions
  total : QueryTree → List (List ℕ) → Option (List ℕ) → CommandTree  -- query, the columns of its groups, the column summed
  explain : QueryTree → CommandTree  -- query
  open_cursor : List ℕ → QueryTree → Method → CommandTree  -- name, query, the method of its positions
  fetch : List ℕ → ℕ → CommandTree  -- the cursor's name, how many lines
  close_cursor : List ℕ → CommandTree  -- name
  save : CommandTree
  reopen : CommandTree
