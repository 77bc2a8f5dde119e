-- A query that is checked has as many nodes as it is written with, its views opened.
use Rattle.std.proofs.Common.{◌≡◌, ◌+◌, not, ◌||◌, length, Ok, refl, ap, subst}
use Rattle.std.specs.List.{list_any}
use Rattle.rs_refusal.specs.declared.refusal.Refusal.TheVariants.{PointOrLineWanted, ColumnTwice}
use Rattle.rs_value.specs.declared.column.Kind.TheVariants.{Line}
use Rattle.rs_facts.specs.Insert.{same_name}
use Rattle.rs_facts.specs.Query.{Query, table_rows, where_rows, dissolve_rows, rename_column, overlay_rows, cover_rows, merge_rows, minus_rows, window_rows, transform_rows, gaps_rows, kind_of}
use Rattle.rs_planning.specs.Checked.{nodes_of}
use Rattle.rs_syntax.specs.Tree.{QueryTree, named, filtered, dissolved, renamed, overlaid, covered, merged, subtracted, windowed, transformed, gapped}
use Rattle.rs_machine.specs.State.{State, world_of}
use Rattle.rs_machine.specs.Checks.{unless, table_named, alignment_named, same_kind, some_name_twice, column_names}
use Rattle.rs_machine.specs.Opening.{nodes}
use Rattle.rs_machine.specs.Checking.{column_place, column_places, condition_checked, columns_in, may_stand_together, kinds_agree, alike, window_checked, nodes_checked}
use Rattle.rs_machine_laws.proofs.Checked.{ok_same, then_ok}

abbrev HasAsMany : QueryTree → Query → Type 0
HasAsMany tree query = nodes_of query ≡ nodes tree

pub as-many : (state : State) (tree : QueryTree) (query : Query) → nodes_checked state tree ≡ Ok query → nodes_of query ≡ nodes tree
as-many state (named name) query e =
    let table = then_ok (table_named state name) _ query e in
    subst (HasAsMany (named name)) (ok_same (table_rows name) query table.2) refl
as-many state (filtered a condition) query e =
    let x = then_ok (nodes_checked state a) _ query e in
    let test = then_ok (condition_checked (columns_in state x.0) condition) _ query x.2 in
    subst (HasAsMany (filtered a condition)) (ok_same (where_rows x.0 test.0) query test.2) (ap (λ n. n + 1) (as-many state a x.0 x.1))
as-many state (dissolved a columns) query e =
    let x = then_ok (nodes_checked state a) _ query e in
    let places = then_ok (column_places (columns_in state x.0) columns) _ query x.2 in
    let once = then_ok (unless (not (some_name_twice columns)) ColumnTwice) _ query places.2 in
    subst (HasAsMany (dissolved a columns)) (ok_same (dissolve_rows x.0 places.0) query once.2) (ap (λ n. n + 1) (as-many state a x.0 x.1))
as-many state (renamed a from to) query e =
    let x = then_ok (nodes_checked state a) _ query e in
    let place = then_ok (column_place (columns_in state x.0) from) _ query x.2 in
    let may_be = same_name from to || not (list_any (same_name to) (column_names (columns_in state x.0))) in
    let new = then_ok (unless may_be ColumnTwice) _ query place.2 in
    subst (HasAsMany (renamed a from to)) (ok_same (rename_column x.0 place.0 to) query new.2) (ap (λ n. n + 1) (as-many state a x.0 x.1))
as-many state (overlaid a b) query e =
    let x = then_ok (nodes_checked state a) _ query e in
    let y = then_ok (nodes_checked state b) _ query x.2 in
    let stand = then_ok (may_stand_together (columns_in state x.0) (columns_in state y.0)) _ query y.2 in
    subst (HasAsMany (overlaid a b)) (ok_same (overlay_rows x.0 y.0) query stand.2) (λ i. as-many state a x.0 x.1 i + as-many state b y.0 y.1 i + 1)
as-many state (covered a b) query e =
    let x = then_ok (nodes_checked state a) _ query e in
    let y = then_ok (nodes_checked state b) _ query x.2 in
    let stand = then_ok (may_stand_together (columns_in state x.0) (columns_in state y.0)) _ query y.2 in
    let kinds = then_ok (kinds_agree state x.0 y.0) _ query stand.2 in
    subst (HasAsMany (covered a b)) (ok_same (cover_rows (length (columns_in state x.0)) (length (columns_in state y.0)) x.0 y.0) query kinds.2) (λ i. as-many state a x.0 x.1 i + as-many state b y.0 y.1 i + 1)
as-many state (merged a b) query e =
    let x = then_ok (nodes_checked state a) _ query e in
    let y = then_ok (nodes_checked state b) _ query x.2 in
    let z = then_ok (alike state x.0 y.0) _ query y.2 in
    subst (HasAsMany (merged a b)) (ok_same (merge_rows x.0 y.0) query z.2) (λ i. as-many state a x.0 x.1 i + as-many state b y.0 y.1 i + 1)
as-many state (subtracted a b) query e =
    let x = then_ok (nodes_checked state a) _ query e in
    let y = then_ok (nodes_checked state b) _ query x.2 in
    let z = then_ok (alike state x.0 y.0) _ query y.2 in
    subst (HasAsMany (subtracted a b)) (ok_same (minus_rows x.0 y.0) query z.2) (λ i. as-many state a x.0 x.1 i + as-many state b y.0 y.1 i + 1)
as-many state (windowed a window) query e =
    let x = then_ok (nodes_checked state a) _ query e in
    let located = then_ok (window_checked state window) _ query x.2 in
    subst (HasAsMany (windowed a window)) (ok_same (window_rows x.0 located.0) query located.2) (ap (λ n. n + 1) (as-many state a x.0 x.1))
as-many state (transformed a name) query e =
    let x = then_ok (nodes_checked state a) _ query e in
    let pieces = then_ok (alignment_named state name) _ query x.2 in
    subst (HasAsMany (transformed a name)) (ok_same (transform_rows x.0 name pieces.0) query pieces.2) (ap (λ n. n + 1) (as-many state a x.0 x.1))
as-many state (gapped a) query e =
    let x = then_ok (nodes_checked state a) _ query e in
    let line = then_ok (unless (same_kind (kind_of (world_of state) x.0) Line) PointOrLineWanted) _ query x.2 in
    subst (HasAsMany (gapped a)) (ok_same (gaps_rows x.0) query line.2) (ap (λ n. n + 1) (as-many state a x.0 x.1))
