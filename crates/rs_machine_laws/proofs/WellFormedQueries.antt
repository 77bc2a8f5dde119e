-- A query that is checked is well formed, and its columns have names of their own.
use Rattle.std.proofs.Common.{◌≡◌, ◌+◌, ◌≤◌, false, not, ◌||◌, List, ◌++◌, length, length-append, Some, Ok, refl, sym, subst, arith}
use Rattle.std.specs.Prelude.{nat_le}
use Rattle.std.specs.List.{list_any}
use Rattle.std.specs.FinMap as names
use Rattle.std.proofs.lemmas.Bool.{leb-true}
use Rattle.std.proofs.lemmas.List.{length-map, length-set, map-append}
use Rattle.rs_refusal.specs.declared.refusal.Refusal.TheVariants.{NoSuchName, Limit, PointOrLineWanted, ColumnsDiffer, ColumnTwice, KindsDiffer}
use Rattle.rs_value.specs.declared.column.Kind.TheVariants.{Line}
use Rattle.rs_value.specs.declared.column.TheConstants.{COLUMNS}
use Rattle.rs_facts.specs.Fact.{Name}
use Rattle.rs_facts.specs.Insert.{same_name}
use Rattle.rs_facts.specs.Query.{Column, Table, column_at, World, Query, table_rows, where_rows, dissolve_rows, rename_column, overlay_rows, cover_rows, merge_rows, minus_rows, window_rows, transform_rows, gaps_rows, table_columns, kind_of, columns_of}
use Rattle.rs_facts.specs.WellFormed.{width_of, IsWellFormed}
use Rattle.rs_syntax.specs.Tree.{QueryTree, named, filtered, dissolved, renamed, overlaid, covered, merged, subtracted, windowed, transformed, gapped}
use Rattle.rs_machine.specs.State.{State, world_of}
use Rattle.rs_machine.specs.Checks.{unless, table_named, alignment_named, same_kind, some_name_twice, column_names}
use Rattle.rs_machine.specs.Opening.{opened}
use Rattle.rs_machine.specs.Checking.{column_place, column_places, share_a_name, condition_checked, may_stand_together, same_columns, kinds_agree, columns_in, dissolve_checked, rename_checked, overlay_checked, cover_checked, alike, window_checked, nodes_checked, checked}
use Rattle.rs_machine.specs.Lawful.{AreDistinct, IsLawful}
use Rattle.rs_machine_laws.proofs.Checked.{ok_same, passed, not_true, was_found, then_ok, same_kind-same, distinct}
use Rattle.rs_machine_laws.proofs.Columns.{column-stands, are-chosen, no_more_chosen, distinct_together, distinct_renamed, same_widths}
use Rattle.rs_machine_laws.proofs.Windows.{checks-passed}

-- ---- no query is too wide

pub few_columns : (world : World) (query : Query) → IsWellFormed world query → width_of world query ≤ COLUMNS
few_columns world (table_rows name) is = subst (λ found. length (table_columns found) ≤ COLUMNS) (sym is.1) is.2
few_columns world (where_rows a condition) is = few_columns world a is
few_columns world (dissolve_rows a columns) is = let few = is.1 in omega (arith, length-map columns (column_at (columns_of world a)))
few_columns world (rename_column a place name) is =
    let few = few_columns world a is in omega (arith, length-set (columns_of world a) place (name, (column_at (columns_of world a) place).1))
few_columns world (overlay_rows a b) is = omega (arith, is.2, length-append (columns_of world a) (columns_of world b))
few_columns world (cover_rows m n a b) is = omega (arith, is.2, is.3, is.4, length-append (columns_of world a) (columns_of world b))
few_columns world (merge_rows a b) is = few_columns world a is.0
few_columns world (minus_rows a b) is = few_columns world a is.0
few_columns world (window_rows a window) is = few_columns world a is
few_columns world (transform_rows a name pieces) is = few_columns world a is.0
few_columns world (gaps_rows a) is = omega arith

-- ---- what a checked query keeps to

pub record IsSoundQuery (state : State) (query : Query) : Type 0 where
  pub well_formed : IsWellFormed (world_of state) query
  pub distinct : AreDistinct (column_names (columns_in state query))

table-sound : (state : State) (name : Name) (table : Table) → IsLawful state → names.get state.tables name ≡ Some table → IsSoundQuery state (table_rows name)
table-sound state name table lawful there =
    let columns = (lawful.tables name table there).columns in
    record {
      well_formed = (table, there, columns.few);
      distinct = subst (λ found. AreDistinct (column_names (table_columns found))) (sym there) columns.distinct;
    }

dissolve-sound : (state : State) (a : Query) (columns : List Name) (query : Query) → IsSoundQuery state a → dissolve_checked state a columns ≡ Ok query → IsSoundQuery state query
dissolve-sound state a columns query is e =
    let places = then_ok (column_places (columns_in state a) columns) _ query e in
    let once = then_ok (unless (not (some_name_twice columns)) ColumnTwice) _ query places.2 in
    let none = not_true (some_name_twice columns) (passed (not (some_name_twice columns)) ColumnTwice once.0 once.1) in
    let are = are-chosen (columns_in state a) columns places.0 places.1 in
    let few = no_more_chosen (columns_in state a) columns places.0 are none in
    let most = few_columns (world_of state) a is.well_formed in
    subst (IsSoundQuery state) (ok_same (dissolve_rows a places.0) query once.2) (record {
      well_formed = (is.well_formed, omega arith);
      distinct = subst AreDistinct (sym are.named) (distinct columns none);
    })

rename-sound : (state : State) (a : Query) (from to : Name) (query : Query) → IsSoundQuery state a → rename_checked state a from to ≡ Ok query → IsSoundQuery state query
rename-sound state a from to query is e =
    let place = then_ok (column_place (columns_in state a) from) _ query e in
    let may_be = same_name from to || not (list_any (same_name to) (column_names (columns_in state a))) in
    let new = then_ok (unless may_be ColumnTwice) _ query place.2 in
    subst (IsSoundQuery state) (ok_same (rename_column a place.0 to) query new.2) (record {
      well_formed = is.well_formed;
      distinct = distinct_renamed (columns_in state a) from to place.0 (column-stands (columns_in state a) from place.0 place.1) (passed may_be ColumnTwice new.0 new.1) is.distinct;
    })

-- ---- two operands

record StandTogether (left right : List Column) : Type 0 where
  few : length left + length right ≤ COLUMNS
  apart : share_a_name (column_names left) (column_names right) ≡ false

together : (left right : List Column) (u : Unit {0}) → may_stand_together left right ≡ Ok u → StandTogether left right
together left right u e =
    let few = then_ok (unless (nat_le (length left + length right) COLUMNS) Limit) _ u e in
    record {
      few = leb-true (length left + length right) COLUMNS (passed (nat_le (length left + length right) COLUMNS) Limit few.0 few.1);
      apart = not_true (share_a_name (column_names left) (column_names right)) (passed (not (share_a_name (column_names left) (column_names right))) ColumnTwice u few.2);
    }

distinct-together : (left right : List Column) → StandTogether left right → AreDistinct (column_names left) → AreDistinct (column_names right) → AreDistinct (column_names (left ++ right))
distinct-together left right stand one other =
    subst AreDistinct (sym (map-append (λ (column : Column). column.0) left right)) (distinct_together (column_names left) (column_names right) one other stand.apart)

one_kind : (state : State) (a b : Query) (u : Unit {0}) → kinds_agree state a b ≡ Ok u → kind_of (world_of state) a ≡ kind_of (world_of state) b
one_kind state a b u e = same_kind-same (kind_of (world_of state) a) (kind_of (world_of state) b) (passed (same_kind (kind_of (world_of state) a) (kind_of (world_of state) b)) KindsDiffer u e)

overlay-sound : (state : State) (a b query : Query) → IsSoundQuery state a → IsSoundQuery state b → overlay_checked state a b ≡ Ok query → IsSoundQuery state query
overlay-sound state a b query one other e =
    let stand = then_ok (may_stand_together (columns_in state a) (columns_in state b)) _ query e in
    let are = together (columns_in state a) (columns_in state b) stand.0 stand.1 in
    subst (IsSoundQuery state) (ok_same (overlay_rows a b) query stand.2) (record {
      well_formed = (one.well_formed, other.well_formed, are.few);
      distinct = distinct-together (columns_in state a) (columns_in state b) are one.distinct other.distinct;
    })

cover-sound : (state : State) (a b query : Query) → IsSoundQuery state a → IsSoundQuery state b → cover_checked state a b ≡ Ok query → IsSoundQuery state query
cover-sound state a b query one other e =
    let stand = then_ok (may_stand_together (columns_in state a) (columns_in state b)) _ query e in
    let kinds = then_ok (kinds_agree state a b) _ query stand.2 in
    let are = together (columns_in state a) (columns_in state b) stand.0 stand.1 in
    subst (IsSoundQuery state) (ok_same (cover_rows (length (columns_in state a)) (length (columns_in state b)) a b) query kinds.2) (record {
      well_formed = (one.well_formed, other.well_formed, are.few, refl, refl, one_kind state a b kinds.0 kinds.1);
      distinct = distinct-together (columns_in state a) (columns_in state b) are one.distinct other.distinct;
    })

-- operands of MERGE and MINUS
record AreAlike (state : State) (a b : Query) : Type 0 where
  kind : kind_of (world_of state) a ≡ kind_of (world_of state) b
  width : width_of (world_of state) a ≡ width_of (world_of state) b

are-alike : (state : State) (a b : Query) (u : Unit {0}) → alike state a b ≡ Ok u → AreAlike state a b
are-alike state a b u e =
    let columns = then_ok (unless (same_columns (columns_in state a) (columns_in state b)) ColumnsDiffer) _ u e in
    record {
      kind = one_kind state a b u columns.2;
      width = same_widths (columns_in state a) (columns_in state b) (passed (same_columns (columns_in state a) (columns_in state b)) ColumnsDiffer columns.0 columns.1);
    }

merge-sound : (state : State) (a b : Query) → IsSoundQuery state a → IsSoundQuery state b → AreAlike state a b → IsSoundQuery state (merge_rows a b)
merge-sound state a b one other are = record { well_formed = (one.well_formed, other.well_formed, are.kind, are.width); distinct = one.distinct }

minus-sound : (state : State) (a b : Query) → IsSoundQuery state a → IsSoundQuery state b → AreAlike state a b → IsSoundQuery state (minus_rows a b)
minus-sound state a b one other are = record { well_formed = (one.well_formed, other.well_formed, are.kind, are.width); distinct = one.distinct }

-- ---- all nodes

nodes-sound : (state : State) (tree : QueryTree) (query : Query) → IsLawful state → nodes_checked state tree ≡ Ok query → IsSoundQuery state query
nodes-sound state (named name) query lawful e =
    let table = then_ok (table_named state name) _ query e in
    subst (IsSoundQuery state) (ok_same (table_rows name) query table.2) (table-sound state name table.0 lawful (was_found (names.get state.tables name) NoSuchName table.0 table.1))
nodes-sound state (filtered a condition) query lawful e =
    let x = then_ok (nodes_checked state a) _ query e in
    let is = nodes-sound state a x.0 lawful x.1 in
    let test = then_ok (condition_checked (columns_in state x.0) condition) _ query x.2 in
    subst (IsSoundQuery state) (ok_same (where_rows x.0 test.0) query test.2) (record { well_formed = is.well_formed; distinct = is.distinct })
nodes-sound state (dissolved a columns) query lawful e =
    let x = then_ok (nodes_checked state a) _ query e in
    dissolve-sound state x.0 columns query (nodes-sound state a x.0 lawful x.1) x.2
nodes-sound state (renamed a from to) query lawful e =
    let x = then_ok (nodes_checked state a) _ query e in
    rename-sound state x.0 from to query (nodes-sound state a x.0 lawful x.1) x.2
nodes-sound state (overlaid a b) query lawful e =
    let x = then_ok (nodes_checked state a) _ query e in
    let y = then_ok (nodes_checked state b) _ query x.2 in
    overlay-sound state x.0 y.0 query (nodes-sound state a x.0 lawful x.1) (nodes-sound state b y.0 lawful y.1) y.2
nodes-sound state (covered a b) query lawful e =
    let x = then_ok (nodes_checked state a) _ query e in
    let y = then_ok (nodes_checked state b) _ query x.2 in
    cover-sound state x.0 y.0 query (nodes-sound state a x.0 lawful x.1) (nodes-sound state b y.0 lawful y.1) y.2
nodes-sound state (merged a b) query lawful e =
    let x = then_ok (nodes_checked state a) _ query e in
    let y = then_ok (nodes_checked state b) _ query x.2 in
    let z = then_ok (alike state x.0 y.0) _ query y.2 in
    subst (IsSoundQuery state) (ok_same (merge_rows x.0 y.0) query z.2)
    (merge-sound state x.0 y.0 (nodes-sound state a x.0 lawful x.1) (nodes-sound state b y.0 lawful y.1) (are-alike state x.0 y.0 z.0 z.1))
nodes-sound state (subtracted a b) query lawful e =
    let x = then_ok (nodes_checked state a) _ query e in
    let y = then_ok (nodes_checked state b) _ query x.2 in
    let z = then_ok (alike state x.0 y.0) _ query y.2 in
    subst (IsSoundQuery state) (ok_same (minus_rows x.0 y.0) query z.2)
    (minus-sound state x.0 y.0 (nodes-sound state a x.0 lawful x.1) (nodes-sound state b y.0 lawful y.1) (are-alike state x.0 y.0 z.0 z.1))
nodes-sound state (windowed a window) query lawful e =
    let x = then_ok (nodes_checked state a) _ query e in
    let is = nodes-sound state a x.0 lawful x.1 in
    let located = then_ok (window_checked state window) _ query x.2 in
    subst (IsSoundQuery state) (ok_same (window_rows x.0 located.0) query located.2) (record { well_formed = is.well_formed; distinct = is.distinct })
nodes-sound state (transformed a name) query lawful e =
    let x = then_ok (nodes_checked state a) _ query e in
    let is = nodes-sound state a x.0 lawful x.1 in
    let pieces = then_ok (alignment_named state name) _ query x.2 in
    let lie = (lawful.alignments name pieces.0 (was_found (names.get state.alignments name) NoSuchName pieces.0 pieces.1)).lie in
    subst (IsSoundQuery state) (ok_same (transform_rows x.0 name pieces.0) query pieces.2) (record { well_formed = (is.well_formed, lie); distinct = is.distinct })
nodes-sound state (gapped a) query lawful e =
    let x = then_ok (nodes_checked state a) _ query e in
    let is = nodes-sound state a x.0 lawful x.1 in
    let line = then_ok (unless (same_kind (kind_of (world_of state) x.0) Line) PointOrLineWanted) _ query x.2 in
    subst (IsSoundQuery state) (ok_same (gaps_rows x.0) query line.2) (record { well_formed = is.well_formed; distinct = tt })

pub checked-sound : (state : State) (tree : QueryTree) (query : Query) → IsLawful state → checked state tree ≡ Ok query → IsSoundQuery state query
checked-sound state tree query lawful e = nodes-sound state (opened state.views tree) query lawful (checks-passed state tree query e).passes
