-- The checks of a query, and the query with its names looked up.
--
-- Three passes: each name of a table or view, then each of an alignment, from the left; the size of the query with its
-- views opened; then its nodes, operands before the node, from the left, a view as its query in its place.
use Rattle.std.specs.Prelude.{ℕ, suc, ◌+◌, Bool, true, false, not, ◌&&◌, ◌||◌, nat_le, List, [], ◌∷◌, length, Option, Some, None, Result, Ok, if◌then◌else◌}
use Rattle.std.specs.List.{list_any}
use Rattle.rs_refusal.specs.declared.refusal.Refusal.{Refusal}
use Rattle.rs_refusal.specs.declared.refusal.Refusal.TheVariants.{NoSuchName, NoSuchColumn, Limit, PointOrLineWanted, WrongValues, ColumnsDiffer, ColumnTwice, KindsDiffer}
use Rattle.rs_value.specs.declared.column.TheConstants.{COLUMNS}
use Rattle.rs_value.specs.declared.column.Kind.TheVariants as kinds
use Rattle.rs_value.specs.declared.column.ColumnType.{ColumnType}
use Rattle.rs_value.specs.declared.column.ColumnType.TheVariants as types
use Rattle.rs_value.specs.Row.{Datum, null, number, text, Row}
use Rattle.rs_facts.specs.Fact.{Name}
use Rattle.rs_facts.specs.Insert.{same_name}
use Rattle.rs_facts.specs.Condition as conditions
use Rattle.rs_facts.specs.Query.{Column, column_at, Window, on_route, between, Query, table_rows, where_rows, dissolve_rows, rename_column, overlay_rows, cover_rows, merge_rows, minus_rows, window_rows, transform_rows, gaps_rows, kind_of, columns_of}
use Rattle.rs_syntax.specs.Tree.{WindowTree, whole_route, part_of_route, OperandTree, column_named, written_value, ConditionTree, compare, is_null, is_not_null, negated, bracketed, both, either, QueryTree, named, filtered, dissolved, renamed, overlaid, covered, merged, subtracted, windowed, transformed, gapped}
use Rattle.rs_machine.specs.declared.limits.TheConstants.{NODES, DEPTH}
use Rattle.rs_machine.specs.State.{State, world_of, has}
use Rattle.rs_machine.specs.Checks.{◌>>=◌, unless, found, route_named, table_named, alignment_named, has_table_or_view, span_on, same_kind, some_name_twice, column_names}
use Rattle.rs_machine.specs.Opening.{names_in, alignments_in, opened, nodes, depth}

-- ---- columns by name

-- the place of the first column of this name, the leftmost 0
abbrev pub place_in : List Name → Name → Option ℕ
place_in [] name = None
place_in (first ∷ others) name = if same_name name first then Some 0 else after_first (place_in others name)
  where
    after_first : Option ℕ → Option ℕ
    after_first None = None
    after_first (Some place) = Some (suc place)

abbrev pub column_place : List Column → Name → Result ℕ Refusal
column_place columns name = found (place_in (column_names columns) name) NoSuchColumn

-- the place of each, from the left
abbrev pub column_places : List Column → List Name → Result (List ℕ) Refusal
column_places columns [] = Ok []
column_places columns (name ∷ more) = do
  place ← column_place columns name
  places ← column_places columns more
  Ok (place ∷ places)

-- a name is in both
abbrev pub share_a_name : List Name → List Name → Bool
share_a_name left right = list_any (λ name. list_any (same_name name) right) left

-- ---- conditions

-- both of numbers or both of texts, however long
abbrev pub same_class : ColumnType → ColumnType → Bool
same_class types.Int types.Int = true
same_class types.Int (types.Text most) = false
same_class (types.Text most) types.Int = false
same_class (types.Text most) (types.Text other) = true

-- a value may be compared with what such a column holds
abbrev pub suits_class : ColumnType → Datum → Bool
suits_class type null = true
suits_class types.Int (number n) = true
suits_class types.Int (text bytes) = false
suits_class (types.Text most) (number n) = false
suits_class (types.Text most) (text bytes) = true

abbrev pub column_type : List Column → ℕ → ColumnType
column_type columns place = (column_at columns place).1

-- what a column of that type is compared with: 22, then 33
abbrev pub operand_checked : List Column → ColumnType → OperandTree → Result conditions.Term Refusal
operand_checked columns type (column_named name) = do
  place ← column_place columns name
  _ ← unless (same_class type (column_type columns place)) WrongValues
  Ok (conditions.column place)
operand_checked columns type (written_value datum) = do
  _ ← unless (suits_class type datum) WrongValues
  Ok (conditions.written datum)

-- a condition over these columns, atom by atom from the left
abbrev pub condition_checked : List Column → ConditionTree → Result conditions.Condition Refusal
condition_checked columns (compare name comparison operand) = do
  place ← column_place columns name
  term ← operand_checked columns (column_type columns place) operand
  Ok (conditions.compare (conditions.column place) comparison term)
condition_checked columns (is_null name) = do
  place ← column_place columns name
  Ok (conditions.tests_null (conditions.column place))
condition_checked columns (is_not_null name) = do
  place ← column_place columns name
  Ok (conditions.negated (conditions.tests_null (conditions.column place)))
condition_checked columns (negated condition) = do
  inside ← condition_checked columns condition
  Ok (conditions.negated inside)
condition_checked columns (bracketed condition) = do
  inside ← condition_checked columns condition
  Ok (conditions.bracketed inside)
condition_checked columns (both a b) = do
  left ← condition_checked columns a
  right ← condition_checked columns b
  Ok (conditions.both left right)
condition_checked columns (either a b) = do
  left ← condition_checked columns a
  right ← condition_checked columns b
  Ok (conditions.either left right)

-- which rows REMOVE takes; all of them where no condition is written
abbrev pub removal_checked : List Column → Option ConditionTree → Result (Row → Bool) Refusal
removal_checked columns None = Ok (λ row. true)
removal_checked columns (Some condition) = do
  test ← condition_checked columns condition
  Ok (conditions.meets test)

-- ---- nodes, their operands being checked

-- the columns together: not too many, and no name twice
abbrev pub may_stand_together : List Column → List Column → Result (Unit {0}) Refusal
may_stand_together left right = do
  _ ← unless (nat_le (length left + length right) COLUMNS) Limit
  unless (not (share_a_name (column_names left) (column_names right))) ColumnTwice

-- the same names, of the same classes, in the same order
abbrev pub same_columns : List Column → List Column → Bool
same_columns [] [] = true
same_columns (a ∷ left) (b ∷ right) = same_name a.0 b.0 && same_class a.1 b.1 && same_columns left right
same_columns [] (b ∷ right) = false
same_columns (a ∷ left) [] = false

abbrev pub kinds_agree : State → Query → Query → Result (Unit {0}) Refusal
kinds_agree state a b = unless (same_kind (kind_of (world_of state) a) (kind_of (world_of state) b)) KindsDiffer

abbrev pub columns_in : State → Query → List Column
columns_in state query = columns_of (world_of state) query

abbrev pub filter_checked : State → Query → ConditionTree → Result Query Refusal
filter_checked state query condition = do
  test ← condition_checked (columns_in state query) condition
  Ok (where_rows query test)

abbrev pub dissolve_checked : State → Query → List Name → Result Query Refusal
dissolve_checked state query columns = do
  places ← column_places (columns_in state query) columns
  _ ← unless (not (some_name_twice columns)) ColumnTwice
  Ok (dissolve_rows query places)

-- another column may not have the new name
abbrev pub rename_checked : State → Query → Name → Name → Result Query Refusal
rename_checked state query from to = do
  place ← column_place (columns_in state query) from
  _ ← unless (same_name from to || not (list_any (same_name to) (column_names (columns_in state query)))) ColumnTwice
  Ok (rename_column query place to)

abbrev pub overlay_checked : State → Query → Query → Result Query Refusal
overlay_checked state a b = do
  _ ← may_stand_together (columns_in state a) (columns_in state b)
  Ok (overlay_rows a b)

abbrev pub cover_checked : State → Query → Query → Result Query Refusal
cover_checked state a b = do
  _ ← may_stand_together (columns_in state a) (columns_in state b)
  _ ← kinds_agree state a b
  Ok (cover_rows (length (columns_in state a)) (length (columns_in state b)) a b)

-- MERGE and MINUS
abbrev pub alike : State → Query → Query → Result (Unit {0}) Refusal
alike state a b = do
  _ ← unless (same_columns (columns_in state a) (columns_in state b)) ColumnsDiffer
  kinds_agree state a b

abbrev pub window_checked : State → WindowTree → Result Window Refusal
window_checked state (whole_route route) = do
  _ ← route_named state route
  Ok (on_route route)
window_checked state (part_of_route route from to) = do
  ends ← route_named state route
  span ← span_on state route ends from to
  Ok (between route span.0 span.1)

-- lines alone have gaps
abbrev pub gaps_checked : State → Query → Result Query Refusal
gaps_checked state query = do
  _ ← unless (same_kind (kind_of (world_of state) query) kinds.Line) PointOrLineWanted
  Ok (gaps_rows query)

-- ---- the columns of totals

-- the columns whose values make a group: 22 from the left, then 41
abbrev pub group_checked : List Column → List Name → Result (List ℕ) Refusal
group_checked columns names = do
  places ← column_places columns names
  _ ← unless (not (some_name_twice names)) ColumnTwice
  Ok places

abbrev pub holds_numbers : ColumnType → Bool
holds_numbers types.Int = true
holds_numbers (types.Text most) = false

-- the column that is summed, if any: 22, then 33
abbrev pub summed_checked : List Column → Option Name → Result (Option ℕ) Refusal
summed_checked columns None = Ok None
summed_checked columns (Some name) = do
  place ← column_place columns name
  _ ← unless (holds_numbers (column_type columns place)) WrongValues
  Ok (Some place)

-- ---- the passes

abbrev pub names_known : State → List Name → Result (Unit {0}) Refusal
names_known state [] = Ok tt
names_known state (name ∷ names) = do
  _ ← unless (has_table_or_view state name) NoSuchName
  names_known state names

abbrev pub alignments_known : State → List Name → Result (Unit {0}) Refusal
alignments_known state [] = Ok tt
alignments_known state (name ∷ names) = do
  _ ← unless (has state.alignments name) NoSuchName
  alignments_known state names

-- a query whose views are opened, not too large
abbrev pub fits_limits : QueryTree → Bool
fits_limits query = nat_le (nodes query) NODES && nat_le (depth query) DEPTH

-- a query whose views are opened: operands first, from the left
abbrev pub nodes_checked : State → QueryTree → Result Query Refusal
nodes_checked state (named name) = do
  _ ← table_named state name
  Ok (table_rows name)
nodes_checked state (filtered operand condition) = do
  query ← nodes_checked state operand
  filter_checked state query condition
nodes_checked state (dissolved operand columns) = do
  query ← nodes_checked state operand
  dissolve_checked state query columns
nodes_checked state (renamed operand from to) = do
  query ← nodes_checked state operand
  rename_checked state query from to
nodes_checked state (overlaid left right) = do
  a ← nodes_checked state left
  b ← nodes_checked state right
  overlay_checked state a b
nodes_checked state (covered left right) = do
  a ← nodes_checked state left
  b ← nodes_checked state right
  cover_checked state a b
nodes_checked state (merged left right) = do
  a ← nodes_checked state left
  b ← nodes_checked state right
  _ ← alike state a b
  Ok (merge_rows a b)
nodes_checked state (subtracted left right) = do
  a ← nodes_checked state left
  b ← nodes_checked state right
  _ ← alike state a b
  Ok (minus_rows a b)
nodes_checked state (windowed operand window) = do
  query ← nodes_checked state operand
  located ← window_checked state window
  Ok (window_rows query located)
nodes_checked state (transformed operand alignment) = do
  query ← nodes_checked state operand
  pieces ← alignment_named state alignment
  Ok (transform_rows query alignment pieces)
nodes_checked state (gapped operand) = do
  query ← nodes_checked state operand
  gaps_checked state query

-- the query with its names looked up, or the first refusal
abbrev pub checked : State → QueryTree → Result Query Refusal
checked state query = do
  _ ← names_known state (names_in query)
  _ ← alignments_known state (alignments_in query)
  _ ← unless (fits_limits (opened state.views query)) Limit
  nodes_checked state (opened state.views query)
