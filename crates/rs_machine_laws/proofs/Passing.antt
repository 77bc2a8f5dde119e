-- A query that passes the checks of its nodes passes them, each window as wide as its route, where what it names is kept.
use Rattle.std.proofs.Common.{◌≡◌, ◌∙◌, ℕ, zero, suc, ◌||◌, not, List, ◌++◌, length, map, Option, Some, None, Result, Ok, refl, sym, ap}
use Rattle.std.specs.Prelude.{unwrap_or}
use Rattle.std.specs.FinMap as names
use Rattle.std.specs.List.{list_any}
use Rattle.rs_facts.specs.Fact.{Name, Names}
use Rattle.rs_facts.specs.Insert.{same_name}
use Rattle.rs_facts.specs.Query.{Column, Piece, Query, RouteEnds, Table, Window, between, column_at, columns_of, cover_rows, dissolve_rows, gaps_rows, kind_of, merge_rows, minus_rows, on_route, overlaid_kind, overlay_rows, rename_column, renamed_at, table_columns, table_kind, table_rows, transform_rows, where_rows, window_rows}
use Rattle.rs_machine.specs.Checking.{alike, column_place, column_places, condition_checked, cover_checked, dissolve_checked, filter_checked, gaps_checked, may_stand_together, nodes_checked, overlay_checked, rename_checked, same_columns, window_checked}
use Rattle.rs_machine.specs.Checks.{◌>>=◌, alignment_named, column_names, found, route_named, same_kind, some_name_twice, span_on, table_named, unless, window_route}
use Rattle.rs_machine.specs.Lawful.{Each, IsLawful, widened}
use Rattle.rs_machine.specs.Opening.{opened, opened_once, opened_times}
use Rattle.rs_machine.specs.State.{State, world_of}
use Rattle.rs_refusal.specs.declared.refusal.Refusal.{Refusal}
use Rattle.rs_refusal.specs.declared.refusal.Refusal.TheVariants.{ColumnTwice, ColumnsDiffer, KindsDiffer, NoSuchName, NoSuchRoute, PointOrLineWanted}
use Rattle.rs_syntax.specs.Tree.{QueryTree, WindowTree, covered, dissolved, filtered, gapped, merged, named, overlaid, part_of_route, renamed, subtracted, transformed, whole_route, windowed}
use Rattle.rs_value.specs.declared.column.Kind.{Kind}
use Rattle.rs_value.specs.declared.column.Kind.TheVariants.{Line}
use Rattle.rs_machine_laws.proofs.Checked.{ok_same, then_ok, was_found}

-- ---- windows

pub widened_twice : (query : QueryTree) → widened (widened query) ≡ widened query
widened_twice (named name) = refl
widened_twice (filtered query condition) = ap (λ q. filtered q condition) (widened_twice query)
widened_twice (dissolved query columns) = ap (λ q. dissolved q columns) (widened_twice query)
widened_twice (renamed query from to) = ap (λ q. renamed q from to) (widened_twice query)
widened_twice (overlaid a b) = λ i. overlaid (widened_twice a i) (widened_twice b i)
widened_twice (covered a b) = λ i. covered (widened_twice a i) (widened_twice b i)
widened_twice (merged a b) = λ i. merged (widened_twice a i) (widened_twice b i)
widened_twice (subtracted a b) = λ i. subtracted (widened_twice a i) (widened_twice b i)
widened_twice (windowed query window) = ap (λ q. windowed q (whole_route (window_route window))) (widened_twice query)
widened_twice (transformed query alignment) = ap (λ q. transformed q alignment) (widened_twice query)
widened_twice (gapped query) = ap gapped (widened_twice query)

abbrev pub HasRoute : State → Name → Type 0
HasRoute state route = (ends : RouteEnds) × (names.get state.routes route ≡ Some ends)

window_there : (state : State) (window : WindowTree) (located : Window) → window_checked state window ≡ Ok located → HasRoute state (window_route window)
window_there state (whole_route route) located e =
    let first = then_ok (route_named state route) (λ _. Ok (on_route route)) located e in
    (first.0, was_found (names.get state.routes route) NoSuchRoute first.0 first.1)
window_there state (part_of_route route from to) located e =
    let first = then_ok (route_named state route) (λ ends. span_on state route ends from to >>= (λ span. Ok (between route span.0 span.1))) located e in
    (first.0, was_found (names.get state.routes route) NoSuchRoute first.0 first.1)

-- ---- what a query names

-- a table of the same kind and columns is there
pub record IsStill (tables : Names Table) (name : Name) (table : Table) : Type 0 where
  pub other : Table
  pub there : names.get tables name ≡ Some other
  pub kind : other.kind ≡ table.kind
  pub columns : other.columns ≡ table.columns

module _ (old new : State) where
  abbrev pub TableKept : Name → Type 0
  TableKept name = (table : Table) → names.get old.tables name ≡ Some table → IsStill new.tables name table

  abbrev pub RouteKept : Name → Type 0
  RouteKept route = HasRoute old route → HasRoute new route

  abbrev pub AlignmentKept : Name → Type 0
  AlignmentKept name = (pieces : List Piece) → names.get old.alignments name ≡ Some pieces → names.get new.alignments name ≡ Some pieces

  abbrev pub Kept : QueryTree → Type 0
  Kept (named name) = TableKept name
  Kept (filtered query condition) = Kept query
  Kept (dissolved query columns) = Kept query
  Kept (renamed query from to) = Kept query
  Kept (overlaid a b) = Kept a × Kept b
  Kept (covered a b) = Kept a × Kept b
  Kept (merged a b) = Kept a × Kept b
  Kept (subtracted a b) = Kept a × Kept b
  Kept (windowed query window) = Kept query × RouteKept (window_route window)
  Kept (transformed query alignment) = Kept query × AlignmentKept alignment
  Kept (gapped query) = Kept query

  kept_widened : (query : QueryTree) → Kept query → Kept (widened query)
  kept_widened (named name) kept = kept
  kept_widened (filtered query condition) kept = kept_widened query kept
  kept_widened (dissolved query columns) kept = kept_widened query kept
  kept_widened (renamed query from to) kept = kept_widened query kept
  kept_widened (overlaid a b) kept = (kept_widened a kept.0, kept_widened b kept.1)
  kept_widened (covered a b) kept = (kept_widened a kept.0, kept_widened b kept.1)
  kept_widened (merged a b) kept = (kept_widened a kept.0, kept_widened b kept.1)
  kept_widened (subtracted a b) kept = (kept_widened a kept.0, kept_widened b kept.1)
  kept_widened (windowed query window) kept = (kept_widened query kept.0, kept.1)
  kept_widened (transformed query alignment) kept = (kept_widened query kept.0, kept.1)
  kept_widened (gapped query) kept = kept_widened query kept

  -- where each view's query is kept, an opened one is
  kept_name : (name : Name) (at : Option QueryTree) → names.get old.views name ≡ at → Each old.views (λ n q. Kept q) → Kept (named name) → Kept (unwrap_or at (named name))
  kept_name name None there each kept = kept
  kept_name name (Some query) there each kept = each name query there

  kept_once : Each old.views (λ n q. Kept q) → (query : QueryTree) → Kept query → Kept (opened_once old.views query)
  kept_once each (named name) kept = kept_name name (names.get old.views name) refl each kept
  kept_once each (filtered query condition) kept = kept_once each query kept
  kept_once each (dissolved query columns) kept = kept_once each query kept
  kept_once each (renamed query from to) kept = kept_once each query kept
  kept_once each (overlaid a b) kept = (kept_once each a kept.0, kept_once each b kept.1)
  kept_once each (covered a b) kept = (kept_once each a kept.0, kept_once each b kept.1)
  kept_once each (merged a b) kept = (kept_once each a kept.0, kept_once each b kept.1)
  kept_once each (subtracted a b) kept = (kept_once each a kept.0, kept_once each b kept.1)
  kept_once each (windowed query window) kept = (kept_once each query kept.0, kept.1)
  kept_once each (transformed query alignment) kept = (kept_once each query kept.0, kept.1)
  kept_once each (gapped query) kept = kept_once each query kept

  kept_times : Each old.views (λ n q. Kept q) → (times : ℕ) (query : QueryTree) → Kept query → Kept (opened_times times old.views query)
  kept_times each zero query kept = kept
  kept_times each (suc times) query kept = kept_times each times (opened_once old.views query) (kept_once each query kept)

  pub kept_opened : Each old.views (λ n q. Kept q) → (query : QueryTree) → Kept query → Kept (opened old.views query)
  unfolding opened
  kept_opened each query kept = kept_times each (names.len old.views) query kept

  -- ---- the nodes

  -- the query passes in the new state, with the columns and the kind that it had
  pub record Passes (query : QueryTree) (was : Query) : Type 0 where
    pub made : Query
    pub is : nodes_checked new query ≡ Ok made
    pub columns : columns_of (world_of new) made ≡ columns_of (world_of old) was
    pub kind : kind_of (world_of new) made ≡ kind_of (world_of old) was

  abbrev Columns : Query → List Column
  Columns query = columns_of (world_of old) query

  abbrev KindOf : Query → Kind
  KindOf query = kind_of (world_of old) query

  cover_by : Query → Query → List Column → List Column → Kind → Kind → Result Query Refusal
  cover_by a b left right k l = may_stand_together left right >>= (λ _. unless (same_kind k l) KindsDiffer >>= (λ _. Ok (cover_rows (length left) (length right) a b)))

  alike_by : List Column → List Column → Kind → Kind → Result (Unit {0}) Refusal
  alike_by left right k l = unless (same_columns left right) ColumnsDiffer >>= (λ _. unless (same_kind k l) KindsDiffer)

  same_alike : (a b x y : Query) → columns_of (world_of new) a ≡ Columns x → columns_of (world_of new) b ≡ Columns y → kind_of (world_of new) a ≡ KindOf x → kind_of (world_of new) b ≡ KindOf y
      → alike new a b ≡ alike old x y
  unfolding alike_by
  same_alike a b x y ca cb ka kb =
      ap (λ (c : List Column). alike_by c (columns_of (world_of new) b) (kind_of (world_of new) a) (kind_of (world_of new) b)) ca
      ∙ ap (λ (c : List Column). alike_by (Columns x) c (kind_of (world_of new) a) (kind_of (world_of new) b)) cb
      ∙ ap (λ (k : Kind). alike_by (Columns x) (Columns y) k (kind_of (world_of new) b)) ka
      ∙ ap (λ (k : Kind). alike_by (Columns x) (Columns y) (KindOf x) k) kb

  same_cover : (a b x y : Query) → columns_of (world_of new) a ≡ Columns x → columns_of (world_of new) b ≡ Columns y → kind_of (world_of new) a ≡ KindOf x → kind_of (world_of new) b ≡ KindOf y
      → cover_checked new a b ≡ cover_by a b (Columns x) (Columns y) (KindOf x) (KindOf y)
  unfolding cover_by
  same_cover a b x y ca cb ka kb =
      ap (λ (c : List Column). cover_by a b c (columns_of (world_of new) b) (kind_of (world_of new) a) (kind_of (world_of new) b)) ca
      ∙ ap (λ (c : List Column). cover_by a b (Columns x) c (kind_of (world_of new) a) (kind_of (world_of new) b)) cb
      ∙ ap (λ (k : Kind). cover_by a b (Columns x) (Columns y) k (kind_of (world_of new) b)) ka
      ∙ ap (λ (k : Kind). cover_by a b (Columns x) (Columns y) (KindOf x) k) kb

  pub passes : (query : QueryTree) → Kept query → (was : Query) → nodes_checked old query ≡ Ok was → Passes (widened query) was
  unfolding cover_by
  passes (named name) kept was e =
      let first = then_ok (table_named old name) (λ _. Ok (table_rows name)) was e in
      let there : names.get old.tables name ≡ Some first.0 = was_found (names.get old.tables name) NoSuchName first.0 first.1 in
      let still = kept first.0 there in
      let same : table_rows name ≡ was = ok_same (table_rows name) was first.2 in
      record {
        made = table_rows name;
        is = ap (λ (o : Option Table). found o NoSuchName >>= (λ _. Ok (table_rows name))) still.there;
        columns = ap table_columns still.there ∙ still.columns ∙ sym (ap table_columns there) ∙ ap Columns same;
        kind = ap table_kind still.there ∙ still.kind ∙ sym (ap table_kind there) ∙ ap KindOf same;
      }
  passes (filtered query condition) kept was e =
      let inner = then_ok (nodes_checked old query) (λ q. filter_checked old q condition) was e in
      let tests = then_ok (condition_checked (Columns inner.0) condition) (λ test. Ok (where_rows inner.0 test)) was inner.2 in
      let rest = passes query kept inner.0 inner.1 in
      let same : where_rows inner.0 tests.0 ≡ was = ok_same (where_rows inner.0 tests.0) was tests.2 in
      record {
        made = where_rows rest.made tests.0;
        is = ap (λ (r : Result Query Refusal). r >>= (λ q. filter_checked new q condition)) rest.is
            ∙ ap (λ (columns : List Column). condition_checked columns condition >>= (λ test. Ok (where_rows rest.made test))) rest.columns
            ∙ ap (λ r. r >>= (λ test. Ok (where_rows rest.made test))) tests.1;
        columns = rest.columns ∙ ap Columns same;
        kind = rest.kind ∙ ap KindOf same;
      }
  passes (dissolved query columns) kept was e =
      let inner = then_ok (nodes_checked old query) (λ q. dissolve_checked old q columns) was e in
      let places = then_ok (column_places (Columns inner.0) columns) (λ places. unless (not (some_name_twice columns)) ColumnTwice >>= (λ _. Ok (dissolve_rows inner.0 places))) was inner.2 in
      let once = then_ok (unless (not (some_name_twice columns)) ColumnTwice) (λ _. Ok (dissolve_rows inner.0 places.0)) was places.2 in
      let rest = passes query kept inner.0 inner.1 in
      let same : dissolve_rows inner.0 places.0 ≡ was = ok_same (dissolve_rows inner.0 places.0) was once.2 in
      record {
        made = dissolve_rows rest.made places.0;
        is = ap (λ (r : Result Query Refusal). r >>= (λ q. dissolve_checked new q columns)) rest.is
            ∙ ap (λ (cs : List Column). column_places cs columns >>= (λ places. unless (not (some_name_twice columns)) ColumnTwice >>= (λ _. Ok (dissolve_rows rest.made places)))) rest.columns
            ∙ ap (λ r. r >>= (λ places. unless (not (some_name_twice columns)) ColumnTwice >>= (λ _. Ok (dissolve_rows rest.made places)))) places.1
            ∙ ap (λ r. r >>= (λ _. Ok (dissolve_rows rest.made places.0))) once.1;
        columns = ap (λ (cs : List Column). map (column_at cs) places.0) rest.columns ∙ ap Columns same;
        kind = rest.kind ∙ ap KindOf same;
      }
  passes (renamed query from to) kept was e =
      let inner = then_ok (nodes_checked old query) (λ q. rename_checked old q from to) was e in
      let place = then_ok (column_place (Columns inner.0) from)
      (λ place. unless (same_name from to || not (list_any (same_name to) (column_names (Columns inner.0)))) ColumnTwice >>= (λ _. Ok (rename_column inner.0 place to))) was inner.2 in
      let once = then_ok (unless (same_name from to || not (list_any (same_name to) (column_names (Columns inner.0)))) ColumnTwice) (λ _. Ok (rename_column inner.0 place.0 to)) was place.2 in
      let rest = passes query kept inner.0 inner.1 in
      let same : rename_column inner.0 place.0 to ≡ was = ok_same (rename_column inner.0 place.0 to) was once.2 in
      record {
        made = rename_column rest.made place.0 to;
        is = ap (λ (r : Result Query Refusal). r >>= (λ q. rename_checked new q from to)) rest.is
            ∙ ap (λ (cs : List Column). column_place cs from >>= (λ place. unless (same_name from to || not (list_any (same_name to) (column_names cs))) ColumnTwice >>= (λ _. Ok (rename_column rest.made place to)))) rest.columns
            ∙ ap (λ r. r >>= (λ place. unless (same_name from to || not (list_any (same_name to) (column_names (Columns inner.0)))) ColumnTwice >>= (λ _. Ok (rename_column rest.made place to)))) place.1
            ∙ ap (λ r. r >>= (λ _. Ok (rename_column rest.made place.0 to))) once.1;
        columns = ap (renamed_at place.0 to) rest.columns ∙ ap Columns same;
        kind = rest.kind ∙ ap KindOf same;
      }
  passes (overlaid a b) kept was e =
      let one = then_ok (nodes_checked old a) (λ x. nodes_checked old b >>= (λ y. overlay_checked old x y)) was e in
      let two = then_ok (nodes_checked old b) (λ y. overlay_checked old one.0 y) was one.2 in
      let apart = then_ok (may_stand_together (Columns one.0) (Columns two.0)) (λ _. Ok (overlay_rows one.0 two.0)) was two.2 in
      let left = passes a kept.0 one.0 one.1 in
      let right = passes b kept.1 two.0 two.1 in
      let same : overlay_rows one.0 two.0 ≡ was = ok_same (overlay_rows one.0 two.0) was apart.2 in
      record {
        made = overlay_rows left.made right.made;
        is = ap (λ (r : Result Query Refusal). r >>= (λ x. nodes_checked new (widened b) >>= (λ y. overlay_checked new x y))) left.is
            ∙ ap (λ (r : Result Query Refusal). r >>= (λ y. overlay_checked new left.made y)) right.is
            ∙ ap (λ (cs : List Column). may_stand_together cs (columns_of (world_of new) right.made) >>= (λ _. Ok (overlay_rows left.made right.made))) left.columns
            ∙ ap (λ (cs : List Column). may_stand_together (Columns one.0) cs >>= (λ _. Ok (overlay_rows left.made right.made))) right.columns
            ∙ ap (λ r. r >>= (λ _. Ok (overlay_rows left.made right.made))) apart.1;
        columns = ap (λ (cs : List Column). cs ++ columns_of (world_of new) right.made) left.columns ∙ ap (λ (cs : List Column). Columns one.0 ++ cs) right.columns ∙ ap Columns same;
        kind = ap (λ (k : Kind). overlaid_kind k (kind_of (world_of new) right.made)) left.kind ∙ ap (λ (k : Kind). overlaid_kind (KindOf one.0) k) right.kind ∙ ap KindOf same;
      }
  passes (covered a b) kept was e =
      let one = then_ok (nodes_checked old a) (λ x. nodes_checked old b >>= (λ y. cover_checked old x y)) was e in
      let two = then_ok (nodes_checked old b) (λ y. cover_checked old one.0 y) was one.2 in
      let rows = λ (x y : Query). cover_rows (length (Columns one.0)) (length (Columns two.0)) x y in
      let apart = then_ok (may_stand_together (Columns one.0) (Columns two.0)) (λ _. unless (same_kind (KindOf one.0) (KindOf two.0)) KindsDiffer >>= (λ _. Ok (rows one.0 two.0))) was two.2 in
      let agree = then_ok (unless (same_kind (KindOf one.0) (KindOf two.0)) KindsDiffer) (λ _. Ok (rows one.0 two.0)) was apart.2 in
      let left = passes a kept.0 one.0 one.1 in
      let right = passes b kept.1 two.0 two.1 in
      let same : rows one.0 two.0 ≡ was = ok_same (rows one.0 two.0) was agree.2 in
      record {
        made = rows left.made right.made;
        is = ap (λ (r : Result Query Refusal). r >>= (λ x. nodes_checked new (widened b) >>= (λ y. cover_checked new x y))) left.is
            ∙ ap (λ (r : Result Query Refusal). r >>= (λ y. cover_checked new left.made y)) right.is
            ∙ same_cover left.made right.made one.0 two.0 left.columns right.columns left.kind right.kind
            ∙ ap (λ r. r >>= (λ _. unless (same_kind (KindOf one.0) (KindOf two.0)) KindsDiffer >>= (λ _. Ok (rows left.made right.made)))) apart.1
            ∙ ap (λ r. r >>= (λ _. Ok (rows left.made right.made))) agree.1;
        columns = ap (λ (cs : List Column). cs ++ columns_of (world_of new) right.made) left.columns ∙ ap (λ (cs : List Column). Columns one.0 ++ cs) right.columns ∙ ap Columns same;
        kind = left.kind ∙ ap KindOf same;
      }
  passes (merged a b) kept was e =
      let one = then_ok (nodes_checked old a) (λ x. nodes_checked old b >>= (λ y. alike old x y >>= (λ _. Ok (merge_rows x y)))) was e in
      let two = then_ok (nodes_checked old b) (λ y. alike old one.0 y >>= (λ _. Ok (merge_rows one.0 y))) was one.2 in
      let agree = then_ok (alike old one.0 two.0) (λ _. Ok (merge_rows one.0 two.0)) was two.2 in
      let left = passes a kept.0 one.0 one.1 in
      let right = passes b kept.1 two.0 two.1 in
      let same : merge_rows one.0 two.0 ≡ was = ok_same (merge_rows one.0 two.0) was agree.2 in
      record {
        made = merge_rows left.made right.made;
        is = ap (λ (r : Result Query Refusal). r >>= (λ x. nodes_checked new (widened b) >>= (λ y. alike new x y >>= (λ _. Ok (merge_rows x y))))) left.is
            ∙ ap (λ (r : Result Query Refusal). r >>= (λ y. alike new left.made y >>= (λ _. Ok (merge_rows left.made y)))) right.is
            ∙ ap (λ r. r >>= (λ _. Ok (merge_rows left.made right.made))) (same_alike left.made right.made one.0 two.0 left.columns right.columns left.kind right.kind ∙ agree.1);
        columns = left.columns ∙ ap Columns same;
        kind = left.kind ∙ ap KindOf same;
      }
  passes (subtracted a b) kept was e =
      let one = then_ok (nodes_checked old a) (λ x. nodes_checked old b >>= (λ y. alike old x y >>= (λ _. Ok (minus_rows x y)))) was e in
      let two = then_ok (nodes_checked old b) (λ y. alike old one.0 y >>= (λ _. Ok (minus_rows one.0 y))) was one.2 in
      let agree = then_ok (alike old one.0 two.0) (λ _. Ok (minus_rows one.0 two.0)) was two.2 in
      let left = passes a kept.0 one.0 one.1 in
      let right = passes b kept.1 two.0 two.1 in
      let same : minus_rows one.0 two.0 ≡ was = ok_same (minus_rows one.0 two.0) was agree.2 in
      record {
        made = minus_rows left.made right.made;
        is = ap (λ (r : Result Query Refusal). r >>= (λ x. nodes_checked new (widened b) >>= (λ y. alike new x y >>= (λ _. Ok (minus_rows x y))))) left.is
            ∙ ap (λ (r : Result Query Refusal). r >>= (λ y. alike new left.made y >>= (λ _. Ok (minus_rows left.made y)))) right.is
            ∙ ap (λ r. r >>= (λ _. Ok (minus_rows left.made right.made))) (same_alike left.made right.made one.0 two.0 left.columns right.columns left.kind right.kind ∙ agree.1);
        columns = left.columns ∙ ap Columns same;
        kind = left.kind ∙ ap KindOf same;
      }
  passes (windowed query window) kept was e =
      let inner = then_ok (nodes_checked old query) (λ q. window_checked old window >>= (λ located. Ok (window_rows q located))) was e in
      let located = then_ok (window_checked old window) (λ located. Ok (window_rows inner.0 located)) was inner.2 in
      let still = kept.1 (window_there old window located.0 located.1) in
      let rest = passes query kept.0 inner.0 inner.1 in
      let route = window_route window in
      let same : window_rows inner.0 located.0 ≡ was = ok_same (window_rows inner.0 located.0) was located.2 in
      record {
        made = window_rows rest.made (on_route route);
        is = ap (λ (r : Result Query Refusal). r >>= (λ q. window_checked new (whole_route route) >>= (λ located. Ok (window_rows q located)))) rest.is
            ∙ ap (λ (o : Option RouteEnds). (found o NoSuchRoute >>= (λ _. Ok (on_route route))) >>= (λ located. Ok (window_rows rest.made located))) still.1;
        columns = rest.columns ∙ ap Columns same;
        kind = rest.kind ∙ ap KindOf same;
      }
  passes (transformed query alignment) kept was e =
      let inner = then_ok (nodes_checked old query) (λ q. alignment_named old alignment >>= (λ pieces. Ok (transform_rows q alignment pieces))) was e in
      let pieces = then_ok (alignment_named old alignment) (λ pieces. Ok (transform_rows inner.0 alignment pieces)) was inner.2 in
      let still = kept.1 pieces.0 (was_found (names.get old.alignments alignment) NoSuchName pieces.0 pieces.1) in
      let rest = passes query kept.0 inner.0 inner.1 in
      let same : transform_rows inner.0 alignment pieces.0 ≡ was = ok_same (transform_rows inner.0 alignment pieces.0) was pieces.2 in
      record {
        made = transform_rows rest.made alignment pieces.0;
        is = ap (λ (r : Result Query Refusal). r >>= (λ q. alignment_named new alignment >>= (λ pieces. Ok (transform_rows q alignment pieces)))) rest.is
            ∙ ap (λ (o : Option (List Piece)). found o NoSuchName >>= (λ pieces. Ok (transform_rows rest.made alignment pieces))) still;
        columns = rest.columns ∙ ap Columns same;
        kind = rest.kind ∙ ap KindOf same;
      }
  passes (gapped query) kept was e =
      let inner = then_ok (nodes_checked old query) (λ q. gaps_checked old q) was e in
      let line = then_ok (unless (same_kind (KindOf inner.0) Line) PointOrLineWanted) (λ _. Ok (gaps_rows inner.0)) was inner.2 in
      let rest = passes query kept inner.0 inner.1 in
      let same : gaps_rows inner.0 ≡ was = ok_same (gaps_rows inner.0) was line.2 in
      record {
        made = gaps_rows rest.made;
        is = ap (λ (r : Result Query Refusal). r >>= (λ q. gaps_checked new q)) rest.is
            ∙ ap (λ (k : Kind). unless (same_kind k Line) PointOrLineWanted >>= (λ _. Ok (gaps_rows rest.made))) rest.kind
            ∙ ap (λ r. r >>= (λ _. Ok (gaps_rows rest.made))) line.1;
        columns = ap Columns same;
        kind = ap KindOf same;
      }

  -- with windows that are wide already
  pub passes_wide : (query : QueryTree) → Kept query → (was : Query) → nodes_checked old (widened query) ≡ Ok was → (made : Query) × (nodes_checked new (widened query) ≡ Ok made)
  passes_wide query kept was e =
      let wide = passes (widened query) (kept_widened query kept) was e in
      (wide.made, sym (ap (nodes_checked new) (widened_twice query)) ∙ wide.is)

-- its nodes pass their checks, each window as wide as its route
abbrev pub Passing : State → QueryTree → Type 0
Passing state query = (made : Query) × (nodes_checked state (widened query) ≡ Ok made)

-- what passed in the one state passes in the other, opened in the same way
pub pass_on : (old new : State) → IsLawful old → Each old.views (λ name query. Kept old new query) → Each old.views (λ name query. Passing new (opened old.views query))
pass_on old new lawful kept name query there =
    let is = lawful.views.each name query there in
    passes_wide old new (opened old.views query) (kept_opened old new kept query (kept name query there)) is.checked is.passes
