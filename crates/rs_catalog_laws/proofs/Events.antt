-- The spans of tables on routes stay those of what is defined when a route or a table comes or goes, and when a table has other
-- spans on a route.
use Rattle.std.proofs.Common.{◌≡◌, ℕ, Bool, true, false, nat_eq, ◌&&◌, ⊎_elim, List, [], length, Some, None, refl, sym, ap, subst, ◌∙◌}
use Rattle.std.specs.FinMap as names
use Rattle.rs_facts.specs.Fact.{Name}
use Rattle.rs_facts.specs.Runs.{Stretch}
use Rattle.rs_facts.specs.Spans.{places_of, AreKept}
use Rattle.rs_catalog.specs.Changes.{with_route, without_route, with_table, without_table}
use Rattle.rs_catalog.specs.Definitions.{RouteItem, TableItem, Definitions, IsFree, AreDefinitions}
use Rattle.rs_catalog.specs.Events.{LieOn, AreSpansOf, AreEventsOf}
use Rattle.rs_catalog.proofs.MapLaws.{cases_insert, before_remove}
use Rattle.rs_catalog_laws.proofs.Numbers.{false_true, same_number, cases_number, other_number, apart_numbers, only_of_number, apart_from_removed, free_before_insert, free_before_remove}
use Rattle.rs_catalog_laws.proofs.SpanRows.{rows_of_spans, spans_of_rows, nothing_lies, nothing_is_kept, AreRowsOn}

module _ (definitions : Definitions) (spans : ℕ → ℕ → List Stretch) (are : AreEventsOf definitions spans) where
  -- ---- a route

  pub events_with_route : (name : Name) (item : RouteItem) → names.get definitions.routes name ≡ None → IsFree (λ item. item.number) definitions.routes item.number → AreEventsOf (with_route definitions name item) spans
  events_with_route name item new free = record {
    spans = are.spans;
    on_routes = λ q table there other route on. ⊎_elim
        (λ (own : (other ≡ name) × (item ≡ route)). nothing_lies table.kind route.ends (spans table.number route.number) (ap (λ (r : RouteItem). spans table.number r.number) (sym own.1) ∙ are.no_route item.number free table.number))
        (λ was. are.on_routes q table there other route was)
        (cases_insert definitions.routes name item other route on);
    no_table = are.no_table;
    no_route = λ route still. are.no_route route (free_before_insert (λ (r : RouteItem). r.number) definitions.routes name item route new still);
  }

  pub events_without_route : (name : Name) (item : RouteItem) → names.get definitions.routes name ≡ Some item → ((table : ℕ) → spans table item.number ≡ []) → AreEventsOf (without_route definitions name) spans
  events_without_route name item there none = record {
    spans = are.spans;
    on_routes = λ q table at other route on. are.on_routes q table at other route (before_remove definitions.routes name other route on);
    no_table = are.no_table;
    no_route = λ route free table. ⊎_elim
        (λ (same : route ≡ item.number). ap (spans table) same ∙ none table)
        (λ off. are.no_route route (free_before_remove (λ (r : RouteItem). r.number) definitions.routes name item route there off free) table)
        (cases_number route item.number);
  }

  -- ---- a table

  pub events_with_table : (name : Name) (item : TableItem) → names.get definitions.tables name ≡ None → IsFree (λ item. item.number) definitions.tables item.number → AreEventsOf (with_table definitions name item) spans
  events_with_table name item new free = record {
    spans = λ q table there route. ⊎_elim
        (λ (own : (q ≡ name) × (item ≡ table)). nothing_is_kept table (spans table.number route) (none table own.1 route))
        (λ was. are.spans q table was route)
        (cases_insert definitions.tables name item q table there);
    on_routes = λ q table there other route on. ⊎_elim
        (λ (own : (q ≡ name) × (item ≡ table)). nothing_lies table.kind route.ends (spans table.number route.number) (none table own.1 route.number))
        (λ was. are.on_routes q table was other route on)
        (cases_insert definitions.tables name item q table there);
    no_table = λ table still. are.no_table table (free_before_insert (λ (t : TableItem). t.number) definitions.tables name item table new still);
    no_route = are.no_route;
  }
    where
      none : (table : TableItem) → item ≡ table → (route : ℕ) → spans table.number route ≡ []
      none table own route = ap (λ (t : TableItem). spans t.number route) (sym own) ∙ are.no_table item.number free route

  -- the table's spans go, and those of the others stay
  module _ (name : Name) (item : TableItem) (after : ℕ → ℕ → List Stretch) (defined : AreDefinitions definitions) (there : names.get definitions.tables name ≡ Some item)
      (gone : (route : ℕ) → after item.number route ≡ []) (others : (table : ℕ) → (table ≡ item.number → ⊥) → (route : ℕ) → after table route ≡ spans table route) where
    still : (q : Name) (table : TableItem) → names.get (names.remove definitions.tables name) q ≡ Some table → (route : ℕ) → after table.number route ≡ spans table.number route
    still q table at = others table.number (apart_from_removed (λ (t : TableItem). t.number) definitions.tables defined.table_numbers name q item table there at)

    pub events_without_table : AreEventsOf (without_table definitions name) after
    events_without_table = record {
      spans = λ q table at route. subst (AreSpansOf table) (sym (still q table at route)) (are.spans q table (before_remove definitions.tables name q table at) route);
      on_routes = λ q table at other route on.
          subst (λ (s : List Stretch). LieOn table.kind route.ends (places_of s)) (sym (still q table at route.number))
          (are.on_routes q table (before_remove definitions.tables name q table at) other route on);
      no_table = λ table free route. ⊎_elim
          (λ (same : table ≡ item.number). ap (λ n. after n route) same ∙ gone route)
          (λ off. others table (apart_numbers table item.number off) route ∙ are.no_table table (free_before_remove (λ (t : TableItem). t.number) definitions.tables name item table there off free) route)
          (cases_number table item.number);
      no_route = λ route free table. ⊎_elim
          (λ (same : table ≡ item.number). ap (λ n. after n route) same ∙ gone route)
          (λ off. others table (apart_numbers table item.number off) route ∙ are.no_route route free table)
          (cases_number table item.number);
    }

  -- ---- the spans of one table on one route

  module _ (name route : Name) (table : TableItem) (on : RouteItem) (table_there : names.get definitions.tables name ≡ Some table) (route_there : names.get definitions.routes route ≡ Some on) where
    -- the rows that the table has there
    pub rows_there : AreRowsOn table on.ends (places_of (spans table.number on.number))
    rows_there = record {
      wide = rows_of_spans (λ row. length row ≡ length table.columns) (spans table.number on.number) (are.spans name table table_there on.number).wide;
      lies = are.on_routes name table table_there route on route_there;
    }

    -- these are others, and no other spans are
    module _ (after : ℕ → ℕ → List Stretch) (defined : AreDefinitions definitions) (only : (t r : ℕ) → (nat_eq t table.number && nat_eq r on.number) ≡ false → after t r ≡ spans t r)
        (kept : AreKept table.kind (after table.number on.number)) (fit : AreRowsOn table on.ends (places_of (after table.number on.number))) where
      left : (a b : Bool) → (a && b) ≡ true → a ≡ true
      left true b e = refl
      left false b e = e

      right : (a b : Bool) → (a && b) ≡ true → b ≡ true
      right true b e = e
      right false b e = false_true e

      off_right : (a b : Bool) → b ≡ false → (a && b) ≡ false
      off_right true b off = off
      off_right false b off = refl

      own_item : (q : Name) (item : TableItem) → names.get definitions.tables q ≡ Some item → nat_eq item.number table.number ≡ true → item ≡ table
      own_item q item there e = only_of_number (λ (t : TableItem). t.number) definitions.tables defined.table_numbers q name item table there table_there (same_number item.number table.number e)

      own_route : (q : Name) (r : RouteItem) → names.get definitions.routes q ≡ Some r → nat_eq r.number on.number ≡ true → r ≡ on
      own_route q r there e = only_of_number (λ (r : RouteItem). r.number) definitions.routes defined.route_numbers q route r on there route_there (same_number r.number on.number e)

      own_spans : AreSpansOf table (after table.number on.number)
      own_spans = record { kept = kept; wide = spans_of_rows (λ row. length row ≡ length table.columns) table.kind (after table.number on.number) kept fit.wide }

      pub events_with_spans : AreEventsOf definitions after
      events_with_spans = record {
        spans = λ q item there r. elim (nat_eq item.number table.number && nat_eq r on.number) as (λ b. (nat_eq item.number table.number && nat_eq r on.number) ≡ b → AreSpansOf item (after item.number r)) [
          | true ↦ λ e.
              let own : item ≡ table = own_item q item there (left _ _ e) in
              let here : r ≡ on.number = same_number r on.number (right _ _ e) in
              subst (λ (t : TableItem). AreSpansOf t (after t.number r)) (sym own) (subst (λ n. AreSpansOf table (after table.number n)) (sym here) own_spans)
          | false ↦ λ e. subst (AreSpansOf item) (sym (only item.number r e)) (are.spans q item there r)
        ] refl;
        on_routes = λ q item there other r at. elim (nat_eq item.number table.number && nat_eq r.number on.number) as (λ b. (nat_eq item.number table.number && nat_eq r.number on.number) ≡ b → LieOn item.kind r.ends (places_of (after item.number r.number))) [
          | true ↦ λ e.
              let own : item ≡ table = own_item q item there (left _ _ e) in
              let here : r ≡ on = own_route other r at (right _ _ e) in
              subst (λ (t : TableItem). LieOn t.kind r.ends (places_of (after t.number r.number))) (sym own) (subst (λ (n : RouteItem). LieOn table.kind n.ends (places_of (after table.number n.number))) (sym here) fit.lies)
          | false ↦ λ e. subst (λ (s : List Stretch). LieOn item.kind r.ends (places_of s)) (sym (only item.number r.number e)) (are.on_routes q item there other r at)
        ] refl;
        no_table = λ t free r. only t r (ap (λ b. b && nat_eq r on.number) (other_number t table.number (λ same. free name table table_there (sym same)))) ∙ are.no_table t free r;
        no_route = λ r free t. only t r (off_right (nat_eq t table.number) (nat_eq r on.number) (other_number r on.number (λ same. free route on route_there (sym same)))) ∙ are.no_route r free t;
      }
