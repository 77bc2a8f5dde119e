-- What one operator asks of its checked operands, and what a checked query keeps.
use Rattle.std.specs.Prelude.{◌≡◌, Bool, not, ◌||◌, List, length, map, Result, Ok}
use Rattle.std.specs.List.{list_any}
use Rattle.rs_refusal.specs.declared.refusal.Refusal.{Refusal}
use Rattle.rs_refusal.specs.declared.refusal.Refusal.TheVariants.{PointOrLineWanted, ColumnsDiffer, ColumnTwice, KindsDiffer}
use Rattle.rs_value.specs.declared.column.Kind.{Kind}
use Rattle.rs_value.specs.declared.column.Kind.TheVariants as kinds
use Rattle.rs_facts.specs.Fact.{Name}
use Rattle.rs_facts.specs.Insert.{same_name}
use Rattle.rs_facts.specs.Query.{Column, World, Query, where_rows, dissolve_rows, rename_column, overlay_rows, cover_rows, merge_rows, minus_rows, gaps_rows, kind_of, columns_of}
use Rattle.rs_facts.specs.WellFormed.{IsWellFormed}
use Rattle.rs_syntax.specs.Tree.{ConditionTree, QueryTree}
use Rattle.rs_syntax.specs.View.{column_tree}
use Rattle.rs_machine.specs.State.{State, world_of}
use Rattle.rs_machine.specs.Checks.{◌>>=◌, unless, same_kind, some_name_twice, column_names}
use Rattle.rs_machine.specs.Checking.{column_place, column_places, condition_checked, may_stand_together, same_columns, nodes_checked}
use Rattle.rs_checker.specs.declared.checked.Checked.{Checked}
use Rattle.rs_checker.specs.declared.operand.CheckedOperand.{CheckedOperand}
use Rattle.rs_checker.specs.declared.node.BinaryOperator.{BinaryOperator}
use Rattle.rs_checker.specs.declared.node.BinaryOperator.TheVariants as binary
use Rattle.rs_checker.specs.CheckedView.{query_of}

abbrev pub seen_columns : Checked → List Column
seen_columns checked = map column_tree checked.columns.items

-- the same query off the heap
abbrev pub checked_of : CheckedOperand → Checked
checked_of operand = record { query = operand.query.value; kind = operand.kind; columns = operand.columns }

-- It can be evaluated, and its kind and its columns are those that it says.
pub record Stands (world : World) (checked : Checked) : Type 0 where
  pub well_formed : IsWellFormed world (query_of checked.query)
  pub kind : checked.kind ≡ kind_of world (query_of checked.query)
  pub columns : seen_columns checked ≡ columns_of world (query_of checked.query)

-- It is the query that is expected, and stands wherever its operands do.
pub record IsStep (expected : Result Query Refusal) (Operands : World → Type 0) (made : Checked) : Type 0 where
  pub query : expected ≡ Ok (query_of made.query)
  pub stands : (world : World) → Operands world → Stands world made

-- It is what the machine makes of the query in this state, its views opened.
pub record IsNode (state : State) (query : QueryTree) (checked : Checked) : Type 0 where
  pub is : nodes_checked state query ≡ Ok (query_of checked.query)
  pub stands : Stands (world_of state) checked

-- ---- one operator over operands of these columns

abbrev pub filter_step : List Column → Query → ConditionTree → Result Query Refusal
filter_step columns query condition = do
  test ← condition_checked columns condition
  Ok (where_rows query test)

abbrev pub dissolve_step : List Column → Query → List Name → Result Query Refusal
dissolve_step columns query names = do
  places ← column_places columns names
  _ ← unless (not (some_name_twice names)) ColumnTwice
  Ok (dissolve_rows query places)

abbrev pub may_rename : List Column → Name → Name → Bool
may_rename columns from to = same_name from to || not (list_any (same_name to) (column_names columns))

abbrev pub rename_step : List Column → Query → Name → Name → Result Query Refusal
rename_step columns query from to = do
  place ← column_place columns from
  _ ← unless (may_rename columns from to) ColumnTwice
  Ok (rename_column query place to)

abbrev pub overlay_step : List Column → List Column → Query → Query → Result Query Refusal
overlay_step left right a b = do
  _ ← may_stand_together left right
  Ok (overlay_rows a b)

abbrev pub kinds_agree : Kind → Kind → Result (Unit {0}) Refusal
kinds_agree one other = unless (same_kind one other) KindsDiffer

abbrev pub may_cover : Kind → Kind → List Column → List Column → Result (Unit {0}) Refusal
may_cover one other left right = do
  _ ← may_stand_together left right
  kinds_agree one other

abbrev pub cover_step : Kind → Kind → List Column → List Column → Query → Query → Result Query Refusal
cover_step one other left right a b = do
  _ ← may_cover one other left right
  Ok (cover_rows (length left) (length right) a b)

abbrev pub alike : Kind → Kind → List Column → List Column → Result (Unit {0}) Refusal
alike one other left right = do
  _ ← unless (same_columns left right) ColumnsDiffer
  kinds_agree one other

abbrev pub merge_step : Kind → Kind → List Column → List Column → Query → Query → Result Query Refusal
merge_step one other left right a b = do
  _ ← alike one other left right
  Ok (merge_rows a b)

abbrev pub minus_step : Kind → Kind → List Column → List Column → Query → Query → Result Query Refusal
minus_step one other left right a b = do
  _ ← alike one other left right
  Ok (minus_rows a b)

abbrev pub are_lines : Kind → Result (Unit {0}) Refusal
are_lines kind = unless (same_kind kind kinds.Line) PointOrLineWanted

abbrev pub gaps_step : Kind → Query → Result Query Refusal
gaps_step kind query = do
  _ ← are_lines kind
  Ok (gaps_rows query)

-- ---- any operator over two operands

abbrev pub binary_step : BinaryOperator → Kind → Kind → List Column → List Column → Query → Query → Result Query Refusal
binary_step binary.Overlay one other left right a b = overlay_step left right a b
binary_step binary.Cover one other left right a b = cover_step one other left right a b
binary_step binary.Merge one other left right a b = merge_step one other left right a b
binary_step binary.Minus one other left right a b = minus_step one other left right a b
