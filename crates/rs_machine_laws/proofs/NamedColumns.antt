-- A query that is checked names columns of its operands alone, and in a lawful state its plan means it.
use Rattle.std.proofs.Common.{◌≡◌, ℕ, ◌<◌, not, ◌||◌, List, [], ◌∷◌, ◌++◌, length, Ok, refl, sym, subst, ◌∙◌, arith}
use Rattle.std.proofs.lemmas.List.{length-map}
use Rattle.std.specs.List.{AllByRecursion, list_any}
use Rattle.rs_refusal.specs.declared.refusal.Refusal.TheVariants.{PointOrLineWanted, WrongValues, ColumnTwice}
use Rattle.rs_value.specs.declared.column.ColumnType.{ColumnType}
use Rattle.rs_value.specs.declared.column.Kind.TheVariants.{Line}
use Rattle.rs_value.specs.Row.{Row}
use Rattle.rs_value.specs.Values.{IsRowOf}
use Rattle.rs_facts.specs.Condition as conditions
use Rattle.rs_facts.specs.Fact.{Name}
use Rattle.rs_facts.specs.Insert.{same_name}
use Rattle.rs_facts.specs.Query.{Column, Query, table_rows, where_rows, dissolve_rows, rename_column, overlay_rows, cover_rows, merge_rows, minus_rows, window_rows, transform_rows, gaps_rows, kind_of}
use Rattle.rs_facts.specs.WellFormed.{IsWellFormed}
use Rattle.rs_planning.specs.Basis.{Basis}
use Rattle.rs_planning.specs.Checked.{AreBelow, NamesItsColumns, RowsHaveTheirWidth}
use Rattle.rs_planning.specs.Conjuncts.{column_of_term, columns_read}
use Rattle.rs_planning.specs.Laws.{Means, PlansMeanTheirQueries, PlansAreWellFormed}
use Rattle.rs_planning.specs.Rule.{plan_of}
use Rattle.rs_planning.specs.WellFormedPlan.{IsWellFormedPlan}
use Rattle.rs_syntax.specs.Tree.{OperandTree, column_named, written_value, ConditionTree, compare, is_null, is_not_null, negated, bracketed, both, either, QueryTree, named, filtered, dissolved, renamed, overlaid, covered, merged, subtracted, windowed, transformed, gapped}
use Rattle.rs_machine.specs.State.{State, world_of}
use Rattle.rs_machine.specs.Checks.{unless, table_named, alignment_named, same_kind, some_name_twice, column_names, column_types}
use Rattle.rs_machine.specs.Opening.{opened}
use Rattle.rs_machine.specs.Checking.{column_place, column_places, same_class, suits_class, column_type, operand_checked, condition_checked, columns_in, may_stand_together, kinds_agree, alike, window_checked, nodes_checked, checked}
use Rattle.rs_machine.specs.Lawful.{IsLawful}
use Rattle.rs_machine_laws.proofs.Checked.{ok_same, then_ok}
use Rattle.rs_machine_laws.proofs.Columns.{column-stands}
use Rattle.rs_machine_laws.proofs.WellFormedQueries.{checked-sound}
use Rattle.rs_machine_laws.proofs.Windows.{checks-passed}

every-append : {X : Type 0} (P : X → Type 0) (xs ys : List X) → AllByRecursion P xs → AllByRecursion P ys → AllByRecursion P (xs ++ ys)
every-append P [] ys a b = b
every-append P (x ∷ xs) ys a b = (a.0, every-append P xs ys a.1 b)

-- ---- columns that are found by their names

pub place-below : (columns : List Column) (name : Name) (place : ℕ) → column_place columns name ≡ Ok place → place < length columns
place-below columns name place e = subst (λ n. place < n) (length-map columns (λ (column : Column). column.0)) (column-stands columns name place e).within

places-below : (columns : List Column) (list : List Name) (places : List ℕ) → column_places columns list ≡ Ok places → AreBelow (length columns) places
places-below columns [] places e = subst (AreBelow (length columns)) (ok_same [] places e) tt
places-below columns (name ∷ more) places e =
    let first = then_ok (column_place columns name) _ places e in
    let rest = then_ok (column_places columns more) _ places first.2 in
    subst (AreBelow (length columns)) (ok_same (first.0 ∷ rest.0) places rest.2) (place-below columns name first.0 first.1, places-below columns more rest.0 rest.1)

-- ---- conditions

abbrev IsRead : List Column → conditions.Condition → Type 0
IsRead columns condition = AreBelow (length columns) (columns_read condition)

operand-below : (columns : List Column) (type : ColumnType) (operand : OperandTree) (term : conditions.Term) → operand_checked columns type operand ≡ Ok term → AreBelow (length columns) (column_of_term term)
operand-below columns type (column_named name) term e =
    let place = then_ok (column_place columns name) _ term e in
    let may_be = then_ok (unless (same_class type (column_type columns place.0)) WrongValues) _ term place.2 in
    subst (λ t. AreBelow (length columns) (column_of_term t)) (ok_same (conditions.column place.0) term may_be.2) (place-below columns name place.0 place.1, tt)
operand-below columns type (written_value datum) term e =
    let may_be = then_ok (unless (suits_class type datum) WrongValues) _ term e in
    subst (λ t. AreBelow (length columns) (column_of_term t)) (ok_same (conditions.written datum) term may_be.2) tt

condition-below : (columns : List Column) (tree : ConditionTree) (condition : conditions.Condition) → condition_checked columns tree ≡ Ok condition → IsRead columns condition
condition-below columns (compare name comparison operand) condition e =
    let place = then_ok (column_place columns name) _ condition e in
    let term = then_ok (operand_checked columns (column_type columns place.0) operand) _ condition place.2 in
    subst (IsRead columns) (ok_same (conditions.compare (conditions.column place.0) comparison term.0) condition term.2)
    (place-below columns name place.0 place.1, operand-below columns (column_type columns place.0) operand term.0 term.1)
condition-below columns (is_null name) condition e =
    let place = then_ok (column_place columns name) _ condition e in
    subst (IsRead columns) (ok_same (conditions.tests_null (conditions.column place.0)) condition place.2) (place-below columns name place.0 place.1, tt)
condition-below columns (is_not_null name) condition e =
    let place = then_ok (column_place columns name) _ condition e in
    subst (IsRead columns) (ok_same (conditions.negated (conditions.tests_null (conditions.column place.0))) condition place.2) (place-below columns name place.0 place.1, tt)
condition-below columns (negated tree) condition e =
    let inside = then_ok (condition_checked columns tree) _ condition e in
    subst (IsRead columns) (ok_same (conditions.negated inside.0) condition inside.2) (condition-below columns tree inside.0 inside.1)
condition-below columns (bracketed tree) condition e =
    let inside = then_ok (condition_checked columns tree) _ condition e in
    subst (IsRead columns) (ok_same (conditions.bracketed inside.0) condition inside.2) (condition-below columns tree inside.0 inside.1)
condition-below columns (both a b) condition e =
    let left = then_ok (condition_checked columns a) _ condition e in
    let right = then_ok (condition_checked columns b) _ condition left.2 in
    subst (IsRead columns) (ok_same (conditions.both left.0 right.0) condition right.2)
    (every-append _ (columns_read left.0) (columns_read right.0) (condition-below columns a left.0 left.1) (condition-below columns b right.0 right.1))
condition-below columns (either a b) condition e =
    let left = then_ok (condition_checked columns a) _ condition e in
    let right = then_ok (condition_checked columns b) _ condition left.2 in
    subst (IsRead columns) (ok_same (conditions.either left.0 right.0) condition right.2)
    (every-append _ (columns_read left.0) (columns_read right.0) (condition-below columns a left.0 left.1) (condition-below columns b right.0 right.1))

-- ---- all nodes

abbrev pub Named : State → Query → Type 0
Named state query = NamesItsColumns (world_of state) query

pub nodes-named : (state : State) (tree : QueryTree) (query : Query) → nodes_checked state tree ≡ Ok query → Named state query
nodes-named state (named name) query e =
    let table = then_ok (table_named state name) _ query e in
    subst (Named state) (ok_same (table_rows name) query table.2) tt
nodes-named state (filtered a condition) query e =
    let x = then_ok (nodes_checked state a) _ query e in
    let test = then_ok (condition_checked (columns_in state x.0) condition) _ query x.2 in
    subst (Named state) (ok_same (where_rows x.0 test.0) query test.2) (nodes-named state a x.0 x.1, condition-below (columns_in state x.0) condition test.0 test.1)
nodes-named state (dissolved a columns) query e =
    let x = then_ok (nodes_checked state a) _ query e in
    let places = then_ok (column_places (columns_in state x.0) columns) _ query x.2 in
    let once = then_ok (unless (not (some_name_twice columns)) ColumnTwice) _ query places.2 in
    subst (Named state) (ok_same (dissolve_rows x.0 places.0) query once.2) (nodes-named state a x.0 x.1, places-below (columns_in state x.0) columns places.0 places.1)
nodes-named state (renamed a from to) query e =
    let x = then_ok (nodes_checked state a) _ query e in
    let place = then_ok (column_place (columns_in state x.0) from) _ query x.2 in
    let may_be = same_name from to || not (list_any (same_name to) (column_names (columns_in state x.0))) in
    let new = then_ok (unless may_be ColumnTwice) _ query place.2 in
    subst (Named state) (ok_same (rename_column x.0 place.0 to) query new.2) (nodes-named state a x.0 x.1)
nodes-named state (overlaid a b) query e =
    let x = then_ok (nodes_checked state a) _ query e in
    let y = then_ok (nodes_checked state b) _ query x.2 in
    let stand = then_ok (may_stand_together (columns_in state x.0) (columns_in state y.0)) _ query y.2 in
    subst (Named state) (ok_same (overlay_rows x.0 y.0) query stand.2) (nodes-named state a x.0 x.1, nodes-named state b y.0 y.1)
nodes-named state (covered a b) query e =
    let x = then_ok (nodes_checked state a) _ query e in
    let y = then_ok (nodes_checked state b) _ query x.2 in
    let stand = then_ok (may_stand_together (columns_in state x.0) (columns_in state y.0)) _ query y.2 in
    let kinds = then_ok (kinds_agree state x.0 y.0) _ query stand.2 in
    subst (Named state) (ok_same (cover_rows (length (columns_in state x.0)) (length (columns_in state y.0)) x.0 y.0) query kinds.2) (nodes-named state a x.0 x.1, nodes-named state b y.0 y.1)
nodes-named state (merged a b) query e =
    let x = then_ok (nodes_checked state a) _ query e in
    let y = then_ok (nodes_checked state b) _ query x.2 in
    let z = then_ok (alike state x.0 y.0) _ query y.2 in
    subst (Named state) (ok_same (merge_rows x.0 y.0) query z.2) (nodes-named state a x.0 x.1, nodes-named state b y.0 y.1)
nodes-named state (subtracted a b) query e =
    let x = then_ok (nodes_checked state a) _ query e in
    let y = then_ok (nodes_checked state b) _ query x.2 in
    let z = then_ok (alike state x.0 y.0) _ query y.2 in
    subst (Named state) (ok_same (minus_rows x.0 y.0) query z.2) (nodes-named state a x.0 x.1, nodes-named state b y.0 y.1)
nodes-named state (windowed a window) query e =
    let x = then_ok (nodes_checked state a) _ query e in
    let located = then_ok (window_checked state window) _ query x.2 in
    subst (Named state) (ok_same (window_rows x.0 located.0) query located.2) (nodes-named state a x.0 x.1)
nodes-named state (transformed a name) query e =
    let x = then_ok (nodes_checked state a) _ query e in
    let pieces = then_ok (alignment_named state name) _ query x.2 in
    subst (Named state) (ok_same (transform_rows x.0 name pieces.0) query pieces.2) (nodes-named state a x.0 x.1)
nodes-named state (gapped a) query e =
    let x = then_ok (nodes_checked state a) _ query e in
    let line = then_ok (unless (same_kind (kind_of (world_of state) x.0) Line) PointOrLineWanted) _ query x.2 in
    subst (Named state) (ok_same (gaps_rows x.0) query line.2) (nodes-named state a x.0 x.1)

pub checked-named : (state : State) (tree : QueryTree) (query : Query) → checked state tree ≡ Ok query → NamesItsColumns (world_of state) query
checked-named state tree query e = nodes-named state (opened state.views tree) query (checks-passed state tree query e).passes

-- ---- rows of tables

row-wide : (types : List ColumnType) (row : Row) → IsRowOf types row → length row ≡ length types
row-wide [] [] is = refl
row-wide [] (datum ∷ row) is = absurd is
row-wide (type ∷ types) [] is = absurd is
row-wide (type ∷ types) (datum ∷ row) is = let rest = row-wide types row is.1 in omega (arith, rest)

pub rows-wide : (state : State) → IsLawful state → RowsHaveTheirWidth (world_of state)
rows-wide state lawful name table there route k row e =
    row-wide (column_types table.columns) row ((lawful.tables name table there).facts route k row e).fits
    ∙ length-map table.columns (λ (column : Column). column.1)

-- ---- plans

pub plan-means : PlansMeanTheirQueries → (state : State) (tree : QueryTree) (query : Query) → IsLawful state → checked state tree ≡ Ok query → (basis : Basis) → basis.world ≡ world_of state → Means basis.world (plan_of basis query) query
plan-means law state tree query lawful e basis same =
    law basis query (subst RowsHaveTheirWidth (sym same) (rows-wide state lawful)) (subst (λ world. IsWellFormed world query) (sym same) (checked-sound state tree query lawful e).well_formed)
    (subst (λ world. NamesItsColumns world query) (sym same) (checked-named state tree query e))

pub plan-formed : PlansAreWellFormed → (state : State) (tree : QueryTree) (query : Query) → IsLawful state → checked state tree ≡ Ok query → (basis : Basis) → basis.world ≡ world_of state → IsWellFormedPlan basis.world (plan_of basis query)
plan-formed law state tree query lawful e basis same =
    law basis query (subst (λ world. IsWellFormed world query) (sym same) (checked-sound state tree query lawful e).well_formed)
    (subst (λ world. NamesItsColumns world query) (sym same) (checked-named state tree query e))
