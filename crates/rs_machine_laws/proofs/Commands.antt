-- Each accepted command leaves a lawful state.
use Rattle.std.proofs.Common.{◌≡◌, ◌∙◌, ℕ, ◌+◌, ◌<◌, ◌≤◌, Bool, true, false, ◌&&◌, ◌||◌, List, Option, Some, is_some, length, not, Result, Ok, Err, IfOk, refl, sym, ap, subst, arith}
use Rattle.std.specs.Prelude.{if◌then◌else◌, nat_le, nat_lt, drop}
use Rattle.std.specs.FinMap as names
use Rattle.std.proofs.lemmas.Bool.{ltb-true, leb-true, and_parts}
use Rattle.rs_refusal.specs.declared.refusal.Refusal.{Refusal}
use Rattle.rs_refusal.specs.declared.refusal.Refusal.TheVariants.{InUse, NameTaken, NoSuchRoute, NoSuchName, NoSuchReferent, Limit, EmptySpan, PointOrLineWanted, ColumnTwice, NoSuchCursor, CursorNameTaken, TooManyCursors}
use Rattle.rs_value.specs.declared.column.Kind.{Kind}
use Rattle.rs_value.specs.declared.column.TheConstants.{COLUMNS, ROW_BYTES}
use Rattle.rs_value.specs.Encoding.{row_width}
use Rattle.rs_value.specs.Row.{Row}
use Rattle.rs_facts.specs.Fact.{Name, Names}
use Rattle.rs_facts.specs.Insert.{same_name}
use Rattle.rs_facts.specs.Totals.{totalled}
use Rattle.rs_facts.specs.Query.{RouteEnds, Column, Table}
use Rattle.rs_planning.specs.Basis.{IndexedColumn}
use Rattle.rs_methods.specs.Position.{PositionExpression, start_name}
use Rattle.rs_methods.specs.declared.position.Method.{Method}
use Rattle.rs_syntax.specs.Tree.{EventLocationTree, WindowTree, PieceTree, ConditionTree, QueryTree, CommandTree, define_route, define_table, define_referent, define_index, define_view, define_alignment, move_referent, drop_route, drop_table, drop_index, drop_view, drop_alignment, drop_referent, insert, remove, translate, select, total, explain, open_cursor, fetch, close_cursor, save, reopen}
use Rattle.rs_syntax.specs.Sound.{IsName, IsQuery, IsSound}
use Rattle.rs_machine.specs.State.{State, no_cursors, has, cursors_at}
use Rattle.rs_machine.specs.Checks.{◌>>=◌, unless, route_named, table_named, view_named, alignment_named, index_named, cursor_named, pieces_checked, has_table_or_view, has_referent, position_on, event_span, location_kind, window_span, window_route, same_kind, some_name_twice, column_names, column_types, row_fits}
use Rattle.rs_machine.specs.Opening.{some_view, names_query, names_alignment, names_route, names_referent, some_piece_on}
use Rattle.rs_machine.specs.Checking.{column_place, checked, removal_checked, columns_in, group_checked, summed_checked}
use Rattle.rs_machine.specs.declared.limits.TheConstants.{ROUTES, REFERENTS, TABLES, INDEXES, VIEWS, ALIGNMENTS, PIECES, CHANGES, SESSIONS, CURSORS}
use Rattle.rs_machine.specs.Step.{Effect, may_change, no_cursor_waits, index_defined, index_dropped, lines_of, cursor_opened, rows_fetched, cursor_closed, with_route, with_table, with_facts_along, without_facts, without_route, empty_table, has_fact_on, some_table, referents_at, with_referents, route_defined, route_dropped, table_defined, table_dropped, view_defined, view_dropped, alignment_defined, alignment_dropped, referent_defined, referent_moved, referent_dropped, row_inserted, rows_removed, rows_along, outcome}
use Rattle.rs_machine.specs.Lawful.{Each, IsRoute, IsPlaceOf, MayHoldAt, IsReferent, IsTable, IsViewMeant, IsAlignment, IsIndex, IsLawful}
use Rattle.rs_machine_laws.proofs.Names.{either_false, each_empty, each_weaker, each_inserted, each_removed, len_none, len_more, len_same, len_less, same_name-true, same_name-false, same_name-back, still_there}
use Rattle.rs_machine_laws.proofs.Passing.{TableKept}
use Rattle.rs_machine_laws.proofs.Keeping.{put_still, still_same}
use Rattle.rs_machine_laws.proofs.Checked.{passed, not_true, was_found, or_right, position-lies, event-lies, same_kind-same, distinct}
use Rattle.rs_machine_laws.proofs.Rows.{row_fits-row}
use Rattle.rs_machine_laws.proofs.Facts.{referent-more, table-more, table-empty, row-along, table-less, table-route_gone, referent-route_gone}
use Rattle.rs_machine_laws.proofs.Windows.{checks-passed}
use Rattle.rs_machine_laws.proofs.Alignments.{pieces-made, alignments-more, alignments-gone}
use Rattle.rs_machine_laws.proofs.NamedColumns.{place-below}
use Rattle.rs_machine_laws.proofs.Indexes.{index-table_more, index-table_changed, indexes-table_gone, fewer_indexes, none-cursors, with_other_cursors, at_session, cursors-more, cursors-same, cursors-less}
use Rattle.rs_machine_laws.proofs.Views.{none_there, table_no_view, views-route_more, views-route_gone, views-table_put, views-table_gone, order-view_more, views-view_more, order-view_gone, views-view_gone, views-alignment_more, views-alignment_gone, views-referent_put, views-referent_gone, views-indexes}

-- an accepted command leaves a lawful state
pub record Keeps (result : Result Effect Refusal) : Type 0 where
  pub lawful : IfOk result (λ effect. IsLawful effect.state)

-- what is so of all that a check lets through
through : {A : Type 0} (check : Result A Refusal) (next : A → Result Effect Refusal) → ((a : A) → check ≡ Ok a → Keeps (next a)) → Keeps (check >>= next)
through (Ok a) next each = each a refl
through (Err refusal) next each = record { lawful = tt }

one_change : (state : State) (u : Unit {0}) → may_change state ≡ Ok u → state.changes + 1 ≤ CHANGES
one_change state u e = let less = ltb-true state.changes CHANGES (passed (nat_lt state.changes CHANGES) Limit u e) in omega arith

-- ---- routes

route_added : (state : State) (name : Name) (start finish : ℕ) → IsLawful state → has state.routes name ≡ false → IsRoute name (record { start = start; finish = finish })
    → nat_lt (names.len state.routes) ROUTES ≡ true → state.changes + 1 ≤ CHANGES → IsLawful (with_route state name start finish)
route_added state name start finish lawful new is room change =
    let ends : RouteEnds = record { start = start; finish = finish } in
    record {
      routes = each_inserted state.routes IsRoute name ends is lawful.routes;
      referents_named = record { each = lawful.referents_named.each };
      referents = λ route. each_weaker (state.referents route) (IsReferent state.routes route) (IsReferent (names.insert state.routes name ends) route) (referent-more state.routes name ends route new) (lawful.referents route);
      tables = each_weaker state.tables (IsTable state.routes) (IsTable (names.insert state.routes name ends)) (table-more state.routes name ends new) lawful.tables;
      views = record { each = views-route_more state name start finish lawful; order = lawful.views.order };
      alignments = alignments-more state name ends new lawful.alignments;
      indexes = lawful.indexes;
      cursors = lawful.cursors;
      limits = record {
        routes = len_more state.routes name ends ROUTES room;
        referents = lawful.limits.referents;
        tables = lawful.limits.tables;
        indexes = lawful.limits.indexes;
        views = lawful.limits.views;
        alignments = lawful.limits.alignments;
        changes = change;
      };
    }

route_defined-lawful : (state : State) (name : Name) (start finish : ℕ) → IsSound (define_route name start finish) → IsLawful state → Keeps (route_defined state name start finish)
route_defined-lawful state name start finish sound lawful =
    through (unless (not (has state.routes name)) NameTaken) _ (λ u new.
    through (unless (nat_lt start finish) EmptySpan) _ (λ v order.
    through (unless (nat_lt (names.len state.routes) ROUTES) Limit) _ (λ w room.
    through (may_change state) _ (λ x change. record {
      lawful = route_added state name start finish lawful
          (not_true (has state.routes name) (passed _ NameTaken u new))
          (record { named = sound.0; start_is_measure = sound.1; end_is_measure = sound.2; start_below_end = ltb-true start finish (passed _ EmptySpan v order) })
          (passed _ Limit w room)
          (one_change state x change);
    }))))

-- a route without facts on which no view's window is
route_gone : (state : State) (name : Name) (ends : RouteEnds) → IsLawful state → names.get state.routes name ≡ Some ends → some_table state (has_fact_on name ends) ≡ false → some_piece_on state name ≡ false → some_view state (names_route name) ≡ false
    → state.changes + 1 ≤ CHANGES → IsLawful (without_route state name)
unfolding referents_at
route_gone state name ends lawful there no_facts no_pieces no_window change = record {
  routes = each_removed state.routes IsRoute name lawful.routes;
  referents_named = record { each = λ route. named_at route (same_name route name) };
  referents = λ route. lie_at route (same_name route name) refl;
  tables = λ q table at. table-route_gone state.routes name ends q table there (none_there (has_fact_on name ends) state.tables no_facts q table at) (lawful.tables q table at);
  views = record { each = views-route_gone state name lawful no_window; order = lawful.views.order };
  alignments = alignments-gone state name no_pieces lawful.alignments;
  indexes = lawful.indexes;
  cursors = lawful.cursors;
  limits = record {
    routes = len_less state.routes name ROUTES lawful.limits.routes;
    referents = λ route. few_at route (same_name route name);
    tables = lawful.limits.tables;
    indexes = lawful.limits.indexes;
    views = lawful.limits.views;
    alignments = lawful.limits.alignments;
    changes = change;
  };
}
  where
    named_at : (route : Name) (same : Bool) → Each (if same then names.empty else state.referents route) (λ n measure. IsName n)
    named_at route true = each_empty _
    named_at route false = lawful.referents_named.each route

    lie_at : (route : Name) (same : Bool) → same_name route name ≡ same → Each (if same then names.empty else state.referents route) (IsReferent (names.remove state.routes name) route)
    lie_at route true same = each_empty _
    lie_at route false other = each_weaker (state.referents route) (IsReferent state.routes route) (IsReferent (names.remove state.routes name) route) (referent-route_gone state.routes name route other) (lawful.referents route)

    few_at : (route : Name) (same : Bool) → names.len (if same then names.empty else state.referents route) ≤ REFERENTS
    few_at route true = len_none ℕ REFERENTS
    few_at route false = lawful.limits.referents route

route_dropped-lawful : (state : State) (name : Name) → IsLawful state → Keeps (route_dropped state name)
route_dropped-lawful state name lawful =
    through (route_named state name) _ (λ ends there.
    through (unless (not (some_table state (has_fact_on name ends) || some_piece_on state name || some_view state (names_route name))) InUse) _ (λ u unused.
    through (no_cursor_waits state) _ (λ w none_open.
    through (may_change state) _ (λ v change.
    let free = either_false (some_table state (has_fact_on name ends) || some_piece_on state name) (some_view state (names_route name)) (not_true _ (passed _ InUse u unused)) in
    let none = either_false (some_table state (has_fact_on name ends)) (some_piece_on state name) free.0 in
    record { lawful = route_gone state name ends lawful (was_found (names.get state.routes name) NoSuchRoute ends there) none.0 none.1 free.1 (one_change state v change) }))))

-- ---- tables

table_put : (state : State) (name : Name) (table : Table) → IsLawful state → has state.views name ≡ false → ((n : Name) → TableKept state (with_table state name table) n) → IsTable state.routes name table → Each state.indexes (IsIndex (names.insert state.tables name table))
    → names.len (names.insert state.tables name table) ≤ TABLES → state.changes + 1 ≤ CHANGES → IsLawful (with_table state name table)
table_put state name table lawful no_view still is indexes few change = record {
  routes = lawful.routes;
  referents_named = record { each = lawful.referents_named.each };
  referents = lawful.referents;
  tables = each_inserted state.tables (IsTable state.routes) name table is lawful.tables;
  views = record { each = views-table_put state name table lawful no_view still; order = lawful.views.order };
  alignments = lawful.alignments;
  indexes = indexes;
  cursors = lawful.cursors;
  limits = record { routes = lawful.limits.routes; referents = lawful.limits.referents; tables = few; indexes = lawful.limits.indexes; views = lawful.limits.views; alignments = lawful.limits.alignments; changes = change };
}

table_defined-lawful : (state : State) (kind : Kind) (name : Name) (columns : List Column) → IsSound (define_table kind name columns) → IsLawful state → Keeps (table_defined state kind name columns)
table_defined-lawful state kind name columns sound lawful =
    through (unless (not (has_table_or_view state name)) NameTaken) _ (λ u new.
    through (unless (not (some_name_twice (column_names columns))) ColumnTwice) _ (λ v once.
    through (unless (nat_le (length columns) COLUMNS) Limit) _ (λ w few.
    through (unless (nat_le (row_width (column_types columns)) ROW_BYTES) Limit) _ (λ z narrow.
    through (unless (nat_lt (names.len state.tables) TABLES) Limit) _ (λ x room.
    through (may_change state) _ (λ y change. record {
      lawful = table_put state name (empty_table kind columns) lawful
          (either_false (has state.tables name) (has state.views name) (not_true (has_table_or_view state name) (passed _ NameTaken u new))).1
          (λ n one at. still_same (names.insert state.tables name (empty_table kind columns)) n one
          (still_there state.tables name (empty_table kind columns) n one (either_false (has state.tables name) (has state.views name) (not_true (has_table_or_view state name) (passed _ NameTaken u new))).0 at))
          (table-empty state.routes name kind columns sound.0 (record {
            some = sound.1;
            few = leb-true (length columns) COLUMNS (passed _ Limit w few);
            narrow = leb-true (row_width (column_types columns)) ROW_BYTES (passed _ Limit z narrow);
            sound = sound.2;
            distinct = distinct (column_names columns) (not_true (some_name_twice (column_names columns)) (passed _ ColumnTwice v once));
          }))
          (each_weaker state.indexes (IsIndex state.tables) (IsIndex (names.insert state.tables name (empty_table kind columns)))
          (index-table_more state.tables name (empty_table kind columns) (either_false (has state.tables name) (has state.views name) (not_true (has_table_or_view state name) (passed _ NameTaken u new))).0)
          lawful.indexes)
          (len_more state.tables name (empty_table kind columns) TABLES (passed _ Limit x room))
          (one_change state y change);
    }))))))

-- a table that is there has other facts
table_changed : (state : State) (name : Name) (table changed : Table) → IsLawful state → names.get state.tables name ≡ Some table → changed.kind ≡ table.kind → changed.columns ≡ table.columns → IsTable state.routes name changed → state.changes + 1 ≤ CHANGES → IsLawful (with_table state name changed)
table_changed state name table changed lawful there kind columns is change =
    table_put state name changed lawful (table_no_view state name lawful (ap is_some there)) (put_still state.tables name table changed there kind columns) is
    (each_weaker state.indexes (IsIndex state.tables) (IsIndex (names.insert state.tables name changed)) (index-table_changed state.tables name table changed there columns) lawful.indexes)
    (len_same state.tables name changed TABLES (ap is_some there) lawful.limits.tables) change

inserted-lawful : (state : State) (table route : Name) (place : EventLocationTree) (row : Row) → IsSound (insert table route place row) → IsLawful state → Keeps (row_inserted state table route place row)
inserted-lawful state name route place row sound lawful =
    through (route_named state route) _ (λ ends on.
    through (table_named state name) _ (λ table there.
    through (event_span state route ends place) _ (λ span lies.
    through (unless (same_kind table.kind (location_kind place)) PointOrLineWanted) _ (λ u kinds.
    through (row_fits table.columns row) _ (λ v fits.
    through (may_change state) _ (λ w change.
    let is_there = was_found (names.get state.tables name) NoSuchName table there in
    let kind = same_kind-same table.kind (location_kind place) (passed _ PointOrLineWanted u kinds) in
    record {
      lawful = table_changed state name table (with_facts_along table route span.0 span.1 row) lawful is_there refl refl
          (row-along state.routes name table route ends span row
          (was_found (names.get state.routes route) NoSuchRoute ends on)
          (λ k low high. subst (λ q. MayHoldAt q k ends) (sym kind) (event-lies state route ends place span lies k low high))
          (row_fits-row table.columns row v sound.4 fits)
          (lawful.tables name table is_there))
          (one_change state w change);
    }))))))

removed-lawful : (state : State) (name : Name) (window : WindowTree) (condition : Option ConditionTree) → IsLawful state → Keeps (rows_removed state name window condition)
removed-lawful state name window condition lawful =
    through (route_named state (window_route window)) _ (λ ends on.
    through (table_named state name) _ (λ table there.
    through (window_span state ends window) _ (λ span lies.
    through (removal_checked table.columns condition) _ (λ goes passes.
    through (may_change state) _ (λ u change.
    let is_there = was_found (names.get state.tables name) NoSuchName table there in
    record {
      lawful = table_changed state name table (without_facts table (window_route window) span.0 span.1 goes) lawful is_there refl refl
          (table-less state.routes name table (window_route window) span.0 span.1 goes (lawful.tables name table is_there))
          (one_change state u change);
    })))))

table_dropped-lawful : (state : State) (name : Name) → IsLawful state → Keeps (table_dropped state name)
table_dropped-lawful state name lawful =
    through (table_named state name) _ (λ table there.
    through (unless (not (some_view state (names_query name))) InUse) _ (λ u unused.
    through (no_cursor_waits state) _ (λ w none_open.
    through (may_change state) _ (λ v change. record {
      lawful = record {
        routes = lawful.routes;
        referents_named = record { each = lawful.referents_named.each };
        referents = lawful.referents;
        tables = each_removed state.tables (IsTable state.routes) name lawful.tables;
        views = record { each = views-table_gone state name lawful (not_true (some_view state (names_query name)) (passed _ InUse u unused)); order = lawful.views.order };
        alignments = lawful.alignments;
        indexes = indexes-table_gone state name lawful.indexes;
        cursors = lawful.cursors;
        limits = record { routes = lawful.limits.routes; referents = lawful.limits.referents; tables = len_less state.tables name TABLES lawful.limits.tables; indexes = fewer_indexes state name INDEXES lawful.limits.indexes; views = lawful.limits.views; alignments = lawful.limits.alignments; changes = one_change state v change };
      };
    }))))

-- ---- indexes

index_defined-lawful : (state : State) (name of column : Name) → IsName name → IsLawful state → Keeps (index_defined state name of column)
index_defined-lawful state name of column named lawful =
    through (table_named state of) _ (λ table there.
    through (column_place table.columns column) _ (λ place found.
    through (unless (not (has state.indexes name)) NameTaken) _ (λ u new.
    through (unless (nat_lt (names.len state.indexes) INDEXES) Limit) _ (λ v room.
    through (may_change state) _ (λ w change.
    let index : IndexedColumn = record { table = of; column = place } in
    let is : IsIndex state.tables name index = record {
      named = named;
      table = table;
      there = was_found (names.get state.tables of) NoSuchName table there;
      column = place-below table.columns column place found;
    } in
    record {
      lawful = record {
        routes = lawful.routes;
        referents_named = record { each = lawful.referents_named.each };
        referents = lawful.referents;
        tables = lawful.tables;
        views = record { each = views-indexes state (names.insert state.indexes name index) (state.changes + 1) lawful; order = lawful.views.order };
        alignments = lawful.alignments;
        indexes = each_inserted state.indexes (IsIndex state.tables) name index is lawful.indexes;
        cursors = lawful.cursors;
        limits = record { routes = lawful.limits.routes; referents = lawful.limits.referents; tables = lawful.limits.tables; indexes = len_more state.indexes name index INDEXES (passed _ Limit v room); views = lawful.limits.views; alignments = lawful.limits.alignments; changes = one_change state w change };
      };
    })))))

index_dropped-lawful : (state : State) (name : Name) → IsLawful state → Keeps (index_dropped state name)
index_dropped-lawful state name lawful =
    through (index_named state name) _ (λ index there.
    through (no_cursor_waits state) _ (λ u none_open.
    through (may_change state) _ (λ v change. record {
      lawful = record {
        routes = lawful.routes;
        referents_named = record { each = lawful.referents_named.each };
        referents = lawful.referents;
        tables = lawful.tables;
        views = record { each = views-indexes state (names.remove state.indexes name) (state.changes + 1) lawful; order = lawful.views.order };
        alignments = lawful.alignments;
        indexes = each_removed state.indexes (IsIndex state.tables) name lawful.indexes;
        cursors = lawful.cursors;
        limits = record { routes = lawful.limits.routes; referents = lawful.limits.referents; tables = lawful.limits.tables; indexes = len_less state.indexes name INDEXES lawful.limits.indexes; views = lawful.limits.views; alignments = lawful.limits.alignments; changes = one_change state v change };
      };
    })))

-- ---- views

view_defined-lawful : (state : State) (name : Name) (query : QueryTree) → IsName name → IsQuery query → IsLawful state → Keeps (view_defined state name query)
view_defined-lawful state name query named sound lawful =
    through (checked state query) _ (λ made passes.
    through (unless (not (has_table_or_view state name)) NameTaken) _ (λ u new.
    through (unless (nat_lt (names.len state.views) VIEWS) Limit) _ (λ v room.
    through (may_change state) _ (λ w change.
    let is = checks-passed state query made passes in
    let none = not_true (has_table_or_view state name) (passed _ NameTaken u new) in
    record {
      lawful = record {
        routes = lawful.routes;
        referents_named = record { each = lawful.referents_named.each };
        referents = lawful.referents;
        tables = lawful.tables;
        views = record { each = views-view_more state name query lawful none is.known named sound made is; order = order-view_more state name query lawful none is.known };
        alignments = lawful.alignments;
        indexes = lawful.indexes;
        cursors = lawful.cursors;
        limits = record { routes = lawful.limits.routes; referents = lawful.limits.referents; tables = lawful.limits.tables; indexes = lawful.limits.indexes; views = len_more state.views name query VIEWS (passed _ Limit v room); alignments = lawful.limits.alignments; changes = one_change state w change };
      };
    }))))

view_dropped-lawful : (state : State) (name : Name) → IsLawful state → Keeps (view_dropped state name)
view_dropped-lawful state name lawful =
    through (view_named state name) _ (λ dropped there.
    through (unless (not (some_view state (names_query name))) InUse) _ (λ u unused.
    through (may_change state) _ (λ v change.
    let is_there = was_found (names.get state.views name) NoSuchName dropped there in
    let free = not_true (some_view state (names_query name)) (passed _ InUse u unused) in
    record {
      lawful = record {
        routes = lawful.routes;
        referents_named = record { each = lawful.referents_named.each };
        referents = lawful.referents;
        tables = lawful.tables;
        views = record { each = views-view_gone state name dropped lawful is_there free; order = order-view_gone state name dropped lawful is_there free };
        alignments = lawful.alignments;
        indexes = lawful.indexes;
        cursors = lawful.cursors;
        limits = record { routes = lawful.limits.routes; referents = lawful.limits.referents; tables = lawful.limits.tables; indexes = lawful.limits.indexes; views = len_less state.views name VIEWS lawful.limits.views; alignments = lawful.limits.alignments; changes = one_change state v change };
      };
    })))

-- ---- alignments

alignment_defined-lawful : (state : State) (name : Name) (written : List PieceTree) → IsName name → 1 ≤ length written → IsLawful state → Keeps (alignment_defined state name written)
alignment_defined-lawful state name written named some lawful =
    through (unless (not (has state.alignments name)) NameTaken) _ (λ u new.
    through (unless (nat_lt (names.len state.alignments) ALIGNMENTS && nat_le (length written) PIECES) Limit) _ (λ v room.
    through (pieces_checked state.routes written) _ (λ pieces made.
    through (may_change state) _ (λ w change.
    let limits = and_parts (nat_lt (names.len state.alignments) ALIGNMENTS) (nat_le (length written) PIECES) (passed _ Limit v room) in
    let are = pieces-made state.routes written pieces made in
    let few = leb-true (length written) PIECES limits.1 in
    let many = are.many in
    record {
      lawful = record {
        routes = lawful.routes;
        referents_named = record { each = lawful.referents_named.each };
        referents = lawful.referents;
        tables = lawful.tables;
        views = record { each = views-alignment_more state name pieces lawful (not_true (has state.alignments name) (passed _ NameTaken u new)); order = lawful.views.order };
        alignments = each_inserted state.alignments (IsAlignment state.routes) name pieces (record { named = named; some = omega arith; few = omega arith; lie = are.lie }) lawful.alignments;
        indexes = lawful.indexes;
        cursors = lawful.cursors;
        limits = record { routes = lawful.limits.routes; referents = lawful.limits.referents; tables = lawful.limits.tables; indexes = lawful.limits.indexes; views = lawful.limits.views; alignments = len_more state.alignments name pieces ALIGNMENTS limits.0; changes = one_change state w change };
      };
    }))))

alignment_dropped-lawful : (state : State) (name : Name) → IsLawful state → Keeps (alignment_dropped state name)
alignment_dropped-lawful state name lawful =
    through (alignment_named state name) _ (λ pieces there.
    through (unless (not (some_view state (names_alignment name))) InUse) _ (λ u unused.
    through (may_change state) _ (λ v change. record {
      lawful = record {
        routes = lawful.routes;
        referents_named = record { each = lawful.referents_named.each };
        referents = lawful.referents;
        tables = lawful.tables;
        views = record { each = views-alignment_gone state name lawful (not_true (some_view state (names_alignment name)) (passed _ InUse u unused)); order = lawful.views.order };
        alignments = each_removed state.alignments (IsAlignment state.routes) name lawful.alignments;
        indexes = lawful.indexes;
        cursors = lawful.cursors;
        limits = record { routes = lawful.limits.routes; referents = lawful.limits.referents; tables = lawful.limits.tables; indexes = lawful.limits.indexes; views = lawful.limits.views; alignments = len_less state.alignments name ALIGNMENTS lawful.limits.alignments; changes = one_change state v change };
      };
    })))

-- ---- referents

-- one route has other referents
referents_put : (state : State) (route : Name) (referents : Names ℕ) → IsLawful state → Each referents (λ name measure. IsName name) → Each referents (IsReferent state.routes route)
    → Each state.views (IsViewMeant (with_referents state route referents)) → names.len referents ≤ REFERENTS → state.changes + 1 ≤ CHANGES → IsLawful (with_referents state route referents)
unfolding referents_at
referents_put state route referents lawful named are views few change = record {
  routes = lawful.routes;
  referents_named = record { each = λ r. named_at r (same_name r route) };
  referents = λ r. lie_at r (same_name r route) refl;
  tables = lawful.tables;
  views = record { each = views; order = lawful.views.order };
  alignments = lawful.alignments;
  indexes = lawful.indexes;
  cursors = lawful.cursors;
  limits = record {
    routes = lawful.limits.routes;
    referents = λ r. few_at r (same_name r route);
    tables = lawful.limits.tables;
    indexes = lawful.limits.indexes;
    views = lawful.limits.views;
    alignments = lawful.limits.alignments;
    changes = change;
  };
}
  where
    named_at : (r : Name) (same : Bool) → Each (if same then referents else state.referents r) (λ name measure. IsName name)
    named_at r true = named
    named_at r false = lawful.referents_named.each r

    lie_at : (r : Name) (same : Bool) → same_name r route ≡ same → Each (if same then referents else state.referents r) (IsReferent state.routes r)
    lie_at r true same = subst (λ n. Each referents (IsReferent state.routes n)) (sym (same_name-true r route same)) are
    lie_at r false same = lawful.referents r

    few_at : (r : Name) (same : Bool) → names.len (if same then referents else state.referents r) ≤ REFERENTS
    few_at r true = few
    few_at r false = lawful.limits.referents r

-- one referent stands somewhere on its route
referent_put : (state : State) (route name : Name) (ends : RouteEnds) (measure : ℕ) → IsLawful state → IsName name → same_name start_name name ≡ false → names.get state.routes route ≡ Some ends → IsPlaceOf measure ends
    → names.len (names.insert (state.referents route) name measure) ≤ REFERENTS → state.changes + 1 ≤ CHANGES → IsLawful (with_referents state route (names.insert (state.referents route) name measure))
referent_put state route name ends measure lawful named other there lies few change =
    referents_put state route (names.insert (state.referents route) name measure) lawful
    (each_inserted (state.referents route) (λ n m. IsName n) name measure named (lawful.referents_named.each route))
    (each_inserted (state.referents route) (IsReferent state.routes route) name measure
    (record { not_start = same_name-false name start_name (same_name-back name start_name ∙ other); lies = record { ends = ends; there = there; is_so = lies } })
    (lawful.referents route))
    (views-referent_put state route name measure lawful)
    few
    change

referent_defined-lawful : (state : State) (route name : Name) (position : PositionExpression) → IsName name → IsLawful state → Keeps (referent_defined state route name position)
referent_defined-lawful state route name position named lawful =
    through (route_named state route) _ (λ ends there.
    through (position_on state route ends position) _ (λ measure lies.
    through (unless (not (has_referent state route name)) NameTaken) _ (λ u new.
    through (unless (nat_lt (names.len (state.referents route)) REFERENTS) Limit) _ (λ v room.
    through (may_change state) _ (λ w change. record {
      lawful = referent_put state route name ends measure lawful named
          (either_false (same_name start_name name) (has (state.referents route) name) (not_true (has_referent state route name) (passed _ NameTaken u new))).0
          (was_found (names.get state.routes route) NoSuchRoute ends there)
          (position-lies state route ends position measure lies)
          (len_more (state.referents route) name measure REFERENTS (passed _ Limit v room))
          (one_change state w change);
    })))))

referent_moved-lawful : (state : State) (route name : Name) (position : PositionExpression) → IsName name → IsLawful state → Keeps (referent_moved state route name position)
referent_moved-lawful state route name position named lawful =
    through (route_named state route) _ (λ ends there.
    through (unless (has_referent state route name) NoSuchReferent) _ (λ u has_it.
    through (unless (not (same_name start_name name)) InUse) _ (λ v other.
    through (position_on state route ends position) _ (λ measure lies.
    through (may_change state) _ (λ w change.
    let is_other = not_true (same_name start_name name) (passed _ InUse v other) in
    record {
      lawful = referent_put state route name ends measure lawful named is_other
          (was_found (names.get state.routes route) NoSuchRoute ends there)
          (position-lies state route ends position measure lies)
          (len_same (state.referents route) name measure REFERENTS (or_right (same_name start_name name) (has (state.referents route) name) (passed _ NoSuchReferent u has_it) is_other) (lawful.limits.referents route))
          (one_change state w change);
    })))))

referent_dropped-lawful : (state : State) (route name : Name) → IsLawful state → Keeps (referent_dropped state route name)
referent_dropped-lawful state route name lawful =
    through (route_named state route) _ (λ ends there.
    through (unless (has_referent state route name) NoSuchReferent) _ (λ u has_it.
    through (unless (not (same_name start_name name || some_view state (names_referent route name))) InUse) _ (λ v unused.
    through (may_change state) _ (λ w change.
    let free = either_false (same_name start_name name) (some_view state (names_referent route name)) (not_true _ (passed _ InUse v unused)) in
    record {
      lawful = referents_put state route (names.remove (state.referents route) name) lawful
          (each_removed (state.referents route) (λ n m. IsName n) name (lawful.referents_named.each route))
          (each_removed (state.referents route) (IsReferent state.routes route) name (lawful.referents route))
          (views-referent_gone state route name lawful free.1)
          (len_less (state.referents route) name REFERENTS (lawful.limits.referents route))
          (one_change state w change);
    }))))

-- ---- cursors

cursor_opened-lawful : (state : State) (session : ℕ) (name : Name) (tree : QueryTree) (method : Method) → session < SESSIONS → IsName name → IsLawful state → Keeps (cursor_opened state session name tree method)
cursor_opened-lawful state session name tree method below named lawful =
    through (checked state tree) _ (λ query is.
    through (unless (not (has (state.cursors session) name)) CursorNameTaken) _ (λ u new.
    through (unless (nat_lt (names.len (state.cursors session)) CURSORS) TooManyCursors) _ (λ v room.
    let lines = lines_of state query method in
    record {
      lawful = with_other_cursors state (cursors_at session (names.insert (state.cursors session) name lines) state.cursors) lawful
          (at_session session (names.insert (state.cursors session) name lines) state.cursors
          (cursors-more session (state.cursors session) name lines below named (passed _ TooManyCursors v room) (lawful.cursors session))
          lawful.cursors);
    })))

rows_fetched-lawful : (state : State) (session : ℕ) (name : Name) (rows : ℕ) → IsLawful state → Keeps (rows_fetched state session name rows)
rows_fetched-lawful state session name rows lawful =
    through (cursor_named state session name) _ (λ lines there. record {
      lawful = with_other_cursors state (cursors_at session (names.insert (state.cursors session) name (drop rows lines)) state.cursors) lawful
          (at_session session (names.insert (state.cursors session) name (drop rows lines)) state.cursors
          (cursors-same session (state.cursors session) name lines (drop rows lines) (was_found (names.get (state.cursors session) name) NoSuchCursor lines there) (lawful.cursors session))
          lawful.cursors);
    })

cursor_closed-lawful : (state : State) (session : ℕ) (name : Name) → IsLawful state → Keeps (cursor_closed state session name)
cursor_closed-lawful state session name lawful =
    through (cursor_named state session name) _ (λ lines there. record {
      lawful = with_other_cursors state (cursors_at session (names.remove (state.cursors session) name) state.cursors) lawful
          (at_session session (names.remove (state.cursors session) name) state.cursors (cursors-less session (state.cursors session) name (lawful.cursors session)) lawful.cursors);
    })

-- ---- the step

pub outcome-lawful : (state : State) (session : ℕ) (tree : CommandTree) → session < SESSIONS → IsSound tree → IsLawful state → Keeps (outcome state session tree)
outcome-lawful state session (define_route name start finish) below sound lawful = route_defined-lawful state name start finish sound lawful
outcome-lawful state session (define_table kind name columns) below sound lawful = table_defined-lawful state kind name columns sound lawful
outcome-lawful state session (define_referent route name position) below sound lawful = referent_defined-lawful state route name position sound.1 lawful
outcome-lawful state session (move_referent route name position) below sound lawful = referent_moved-lawful state route name position sound.1 lawful
outcome-lawful state session (define_index name table column) below sound lawful = index_defined-lawful state name table column sound.0 lawful
outcome-lawful state session (define_view name query text) below sound lawful = view_defined-lawful state name query sound.0 sound.1 lawful
outcome-lawful state session (define_alignment name pieces) below sound lawful = alignment_defined-lawful state name pieces sound.0 sound.1 lawful
outcome-lawful state session (drop_route name) below sound lawful = route_dropped-lawful state name lawful
outcome-lawful state session (drop_table name) below sound lawful = table_dropped-lawful state name lawful
outcome-lawful state session (drop_index name) below sound lawful = index_dropped-lawful state name lawful
outcome-lawful state session (drop_view name) below sound lawful = view_dropped-lawful state name lawful
outcome-lawful state session (drop_alignment name) below sound lawful = alignment_dropped-lawful state name lawful
outcome-lawful state session (drop_referent route name) below sound lawful = referent_dropped-lawful state route name lawful
outcome-lawful state session (insert table route place row) below sound lawful = inserted-lawful state table route place row sound lawful
outcome-lawful state session (remove table window condition) below sound lawful = removed-lawful state table window condition lawful
outcome-lawful state session (translate route position method) below sound lawful =
    through (route_named state route) _ (λ ends there. through (position_on state route ends position) _ (λ measure lies. record { lawful = lawful }))
outcome-lawful state session (select query method) below sound lawful = through (checked state query) _ (λ query is. record { lawful = lawful })
outcome-lawful state session (total tree by summed) below sound lawful =
    through (checked state tree) _ (λ query is.
    through (group_checked (columns_in state query) by) _ (λ group groups.
    through (summed_checked (columns_in state query) summed) _ (λ column sums.
    through (totalled group column (rows_along state query)) _ (λ totals are. record { lawful = lawful }))))
outcome-lawful state session (explain tree) below sound lawful = through (checked state tree) _ (λ query is. record { lawful = lawful })
outcome-lawful state session (open_cursor name query method) below sound lawful = cursor_opened-lawful state session name query method below sound.0 lawful
outcome-lawful state session (fetch name rows) below sound lawful = rows_fetched-lawful state session name rows lawful
outcome-lawful state session (close_cursor name) below sound lawful = cursor_closed-lawful state session name lawful
outcome-lawful state session save below sound lawful = record { lawful = lawful }
outcome-lawful state session reopen below sound lawful = record { lawful = with_other_cursors state no_cursors lawful none-cursors }

pub step-lawful : (state : State) (session : ℕ) (tree : CommandTree) (effect : Effect) → session < SESSIONS → IsSound tree → IsLawful state → outcome state session tree ≡ Ok effect → IsLawful effect.state
step-lawful state session tree effect below sound lawful is = let kept : Keeps (Ok effect) = subst Keeps is (outcome-lawful state session tree below sound lawful) in kept.lawful
