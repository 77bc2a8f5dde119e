-- The lines of EXPLAIN of some checked queries, computed.
use Rattle.std.proofs.Common.{◌≡◌, ℕ, pos, List, [], ◌∷◌, cond, refl, Some}
use Rattle.std.specs.Prelude.{codes}
use Rattle.std.specs.Fmt.{digits}
use Rattle.std.specs.FinMap as names
use Rattle.rs_value.specs.declared.column.Kind.TheVariants as kinds
use Rattle.rs_value.specs.declared.column.ColumnType.TheVariants as types
use Rattle.rs_value.specs.declared.comparison.Comparison.TheVariants as comparisons
use Rattle.rs_value.specs.Row.{Datum, number, text}
use Rattle.rs_facts.specs.Fact.{Name, name_cmp, no_facts}
use Rattle.rs_facts.specs.Insert.{same_name}
use Rattle.rs_facts.specs.Condition.{Condition, column, written, compare, tests_null, both, either, bracketed, negated}
use Rattle.rs_facts.specs.Query.{Column, Table, World, on_route, between, Query, table_rows, where_rows, dissolve_rows, rename_column, overlay_rows, cover_rows, merge_rows, minus_rows, window_rows, transform_rows, gaps_rows}
use Rattle.rs_planning.specs.Basis.{IndexedColumn, Basis}
use Rattle.rs_planning.specs.Explain.{explained_by}

-- ---- tables

abbrev pave : Name
pave = codes "pave"

abbrev speed : Name
speed = codes "speed"

abbrev lanes : Name
lanes = codes "lanes"

abbrev table : Column → Table
table one = record { kind = kinds.Line; columns = one ∷ []; facts = no_facts }

-- `pave (surf TEXT(8))`, `speed (kph INT)`, `lanes (lanes INT)`
abbrev world : World
world = record {
  routes = names.empty;
  tables = names.from_sorted ((lanes, table (lanes, types.Int)) ∷ (pave, table (codes "surf", types.Text 8)) ∷ (speed, table (codes "kph", types.Int)) ∷ []);
}

pave_there : names.get world.tables pave ≡ Some (table (codes "surf", types.Text 8))
unfolding name_cmp
pave_there = names.get-from_sorted name_cmp _ pave tt

speed_there : names.get world.tables speed ≡ Some (table (codes "kph", types.Int))
unfolding name_cmp
speed_there = names.get-from_sorted name_cmp _ speed tt

-- so many records of `pave`, one of each other table
abbrev basis : ℕ → List (Name × IndexedColumn) → Basis
basis many indexes = record { world = world; record_count = λ name. cond (same_name name pave) many 1; indexes = names.from_sorted indexes }

abbrev indexed : ℕ → Name → IndexedColumn
indexed place name = record { table = name; column = place }

-- `ps` of `pave (surf)`
abbrev on_surf : List (Name × IndexedColumn)
on_surf = (codes "ps", indexed 0 pave) ∷ []

-- `k` of `speed (kph)`, `p` and `ps` of `pave (surf)`
abbrev on_each : List (Name × IndexedColumn)
on_each = (codes "k", indexed 0 speed) ∷ (codes "p", indexed 0 pave) ∷ (codes "ps", indexed 0 pave) ∷ []

none_there : (many : ℕ) → names.entries (basis many []).indexes ≡ []
none_there many = names.entries-from_sorted name_cmp [] tt

one_there : (many : ℕ) → names.entries (basis many on_surf).indexes ≡ on_surf
unfolding name_cmp
one_there many = names.entries-from_sorted name_cmp on_surf tt

each_there : (many : ℕ) → names.entries (basis many on_each).indexes ≡ on_each
unfolding name_cmp
each_there many = names.entries-from_sorted name_cmp on_each tt

-- ---- conditions

abbrev equals : ℕ → Datum → Condition
equals place datum = compare (column place) comparisons.Equal (written datum)

abbrev is_ac : ℕ → Condition
is_ac place = equals place (text (codes "AC"))

abbrev is_fast : ℕ → Condition
is_fast place = compare (column place) comparisons.Greater (written (number (pos 50)))

abbrev is_eighty : ℕ → Condition
is_eighty place = equals place (number (pos 80))

abbrev pave_and_speed : Query
pave_and_speed = overlay_rows (table_rows pave) (table_rows speed)

-- ---- an OVERLAY: its operands by weight, its conjuncts each where its columns are

-- WHERE(OVERLAY(pave, speed), kph > 50 AND surf = 'AC')
abbrev fast_asphalt : Query
fast_asphalt = where_rows pave_and_speed (both (is_fast 1) (is_ac 0))

by_weight : explained_by (basis 2 []) fast_asphalt ≡ codes "0 OVERLAY 2" ∷ codes "1 SCAN speed 0 1" ∷ codes "1 SCAN pave 0 1" ∷ []
unfolding name_cmp digits
by_weight = simp (pave_there, none_there) refl

by_index : explained_by (basis 2 on_surf) fast_asphalt ≡ codes "0 OVERLAY 2" ∷ codes "1 SCAN speed 0 1" ∷ codes "1 INDEX ps pave 0 1" ∷ []
unfolding name_cmp digits
by_index = simp (pave_there, one_there) refl

by_least_index : explained_by (basis 2 on_each) fast_asphalt ≡ codes "0 OVERLAY 2" ∷ codes "1 SCAN speed 0 1" ∷ codes "1 INDEX p pave 0 1" ∷ []
unfolding name_cmp digits
by_least_index = simp (pave_there, each_there) refl

-- WHERE(OVERLAY(pave, speed), kph = 80 OR surf = 'AC'): an outermost OR is one conjunct
either_is_one : explained_by (basis 1 on_each) (where_rows pave_and_speed (either (is_eighty 1) (is_ac 0)))
    ≡ codes "0 WHERE 1" ∷ codes "1 OVERLAY 2" ∷ codes "2 SCAN pave 0 0" ∷ codes "2 SCAN speed 0 0" ∷ []
unfolding name_cmp digits
either_is_one = simp (pave_there, each_there) refl

-- WHERE(OVERLAY(speed, pave), (surf = 'AC') AND NOT (kph = 80) AND kph = 80): in brackets and under NOT no index is found
brackets_find_none : explained_by (basis 2 on_each) (where_rows (overlay_rows (table_rows speed) (table_rows pave)) (both (bracketed (is_ac 1)) (both (negated (is_eighty 0)) (is_eighty 0))))
    ≡ codes "0 OVERLAY 2" ∷ codes "1 INDEX k speed 0 2" ∷ codes "1 SCAN pave 0 1" ∷ []
unfolding name_cmp digits
brackets_find_none = simp (speed_there, each_there) refl

-- OVERLAY(OVERLAY(pave, speed), lanes): one node, of one weight as they were written
three_in_a_row : explained_by (basis 1 []) (overlay_rows pave_and_speed (table_rows lanes)) ≡ codes "0 OVERLAY 3" ∷ codes "1 SCAN pave 0 0" ∷ codes "1 SCAN speed 0 0" ∷ codes "1 SCAN lanes 0 0" ∷ []
unfolding name_cmp digits
three_in_a_row = simp none_there refl

-- OVERLAY(lanes, RENAME(WHERE(OVERLAY(pave, speed), surf = 'AC'), kph TO limit)): neither RENAME nor a WHERE that goes down parts two OVERLAYs
nothing_between : explained_by (basis 3 []) (overlay_rows (table_rows lanes) (rename_column (where_rows pave_and_speed (is_ac 0)) 1 (codes "limit")))
    ≡ codes "0 OVERLAY 3" ∷ codes "1 SCAN lanes 0 0" ∷ codes "1 SCAN speed 0 0" ∷ codes "1 SCAN pave 0 1" ∷ []
unfolding name_cmp digits
nothing_between = simp (pave_there, none_there) refl

-- OVERLAY(WHERE(OVERLAY(pave, speed), surf = 'AC' OR kph = 80), lanes): a WHERE that stays does, and its operand weighs what its leaves do
where_between : explained_by (basis 1 []) (overlay_rows (where_rows pave_and_speed (either (is_ac 0) (is_eighty 1))) (table_rows lanes))
    ≡ codes "0 OVERLAY 2" ∷ codes "1 SCAN lanes 0 0" ∷ codes "1 WHERE 1" ∷ codes "2 OVERLAY 2" ∷ codes "3 SCAN pave 0 0" ∷ codes "3 SCAN speed 0 0" ∷ []
unfolding name_cmp digits
where_between = simp (pave_there, none_there) refl

-- ---- other nodes

-- WINDOW(pave, A FROM 1 TO 2)
by_range : explained_by (basis 1 []) (window_rows (table_rows pave) (between (codes "A") 1000 2000)) ≡ codes "0 RANGE pave 1 0" ∷ []
unfolding name_cmp digits
by_range = simp none_there refl

-- WHERE(WINDOW(WINDOW(pave, A), A FROM 1 TO 2), surf IS NULL AND surf = 'AC')
by_index_in_windows : explained_by (basis 1 on_surf) (where_rows (window_rows (window_rows (table_rows pave) (on_route (codes "A"))) (between (codes "A") 1000 2000)) (both (tests_null (column 0)) (is_ac 0)))
    ≡ codes "0 INDEX ps pave 2 2" ∷ []
unfolding name_cmp digits
by_index_in_windows = simp one_there refl

-- COVER(pave, speed)
cover_alone : explained_by (basis 1 []) (cover_rows 1 1 (table_rows pave) (table_rows speed)) ≡ codes "0 COVER" ∷ codes "1 SCAN pave 0 0" ∷ codes "1 SCAN speed 0 0" ∷ []
unfolding name_cmp digits
cover_alone = simp none_there refl

-- WHERE(WINDOW(COVER(pave, speed), A), surf = 'AC' AND kph = 80): windows go into both operands, conditions into neither
cover_below : explained_by (basis 1 on_each) (where_rows (window_rows (cover_rows 1 1 (table_rows pave) (table_rows speed)) (on_route (codes "A"))) (both (is_ac 0) (is_eighty 1)))
    ≡ codes "0 WHERE 2" ∷ codes "1 COVER" ∷ codes "2 RANGE pave 1 0" ∷ codes "2 RANGE speed 1 0" ∷ []
unfolding name_cmp digits
cover_below = simp each_there refl

-- WINDOW(WHERE(TRANSFORM(WINDOW(pave, A), re), surf = 'AC'), B): windows stay above, conditions go into the operand
transform_below : explained_by (basis 1 on_surf) (window_rows (where_rows (transform_rows (window_rows (table_rows pave) (on_route (codes "A"))) (codes "re") []) (is_ac 0)) (on_route (codes "B")))
    ≡ codes "0 WINDOW 1" ∷ codes "1 TRANSFORM re" ∷ codes "2 INDEX ps pave 1 1" ∷ []
unfolding name_cmp digits
transform_below = simp one_there refl

-- WINDOW(GAPS(WHERE(pave, surf = 'AC')), A): windows stay above
gaps_below : explained_by (basis 1 on_surf) (window_rows (gaps_rows (where_rows (table_rows pave) (is_ac 0))) (on_route (codes "A"))) ≡ codes "0 WINDOW 1" ∷ codes "1 GAPS" ∷ codes "2 INDEX ps pave 0 1" ∷ []
unfolding name_cmp digits
gaps_below = simp one_there refl

-- WHERE(DISSOLVE(OVERLAY(speed, pave), (surf, kph)), surf = 'AC' AND kph > 50)
dissolve_below : explained_by (basis 1 on_surf) (where_rows (dissolve_rows (overlay_rows (table_rows speed) (table_rows pave)) (1 ∷ 0 ∷ [])) (both (is_ac 0) (is_fast 1)))
    ≡ codes "0 DISSOLVE 2" ∷ codes "1 OVERLAY 2" ∷ codes "2 SCAN speed 0 1" ∷ codes "2 INDEX ps pave 0 1" ∷ []
unfolding name_cmp digits
dissolve_below = simp (speed_there, one_there) refl

-- WHERE(MINUS(MERGE(pave, pave), WINDOW(pave, A)), surf = 'AC')
merge_and_minus_below : explained_by (basis 1 on_surf) (where_rows (minus_rows (merge_rows (table_rows pave) (table_rows pave)) (window_rows (table_rows pave) (on_route (codes "A")))) (is_ac 0))
    ≡ codes "0 MINUS" ∷ codes "1 MERGE" ∷ codes "2 INDEX ps pave 0 1" ∷ codes "2 INDEX ps pave 0 1" ∷ codes "1 INDEX ps pave 1 1" ∷ []
unfolding name_cmp digits
merge_and_minus_below = simp one_there refl
