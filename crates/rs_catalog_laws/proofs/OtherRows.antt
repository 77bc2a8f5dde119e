-- What a change of one table's rows on one route does to the state.
use Rattle.std.proofs.Common.{◌≡◌, ℕ, Bool, true, false, cond, List, Option, Some, None, refl, sym, ap, ◌∙◌}
use Rattle.std.proofs.Math.Path.{fun_ext}
use Rattle.std.specs.Option.{option_map}
use Rattle.std.specs.FinMap as names
use Rattle.std.specs.FinMap.{get-insert, same_map}
use Rattle.rs_value.specs.Row.{Row}
use Rattle.rs_facts.specs.Fact.{Name, Names, Places, Facts}
use Rattle.rs_facts.specs.Insert.{same_name, on_route, with_row, missing, new_facts}
use Rattle.rs_facts.specs.Remove.{without_rows, going, removed_facts}
use Rattle.rs_facts.specs.Query.{Table}
use Rattle.rs_facts.specs.Runs.{Stretch}
use Rattle.rs_facts.specs.Spans.{places_of}
use Rattle.rs_machine.specs.Step.{with_table, with_facts_along, without_facts}
use Rattle.rs_catalog.specs.Definitions.{RouteItem, TableItem, Definitions, AreDefinitions, on_numbered, no_places, facts_from, table_from, tables_from, Rest, state_from}
use Rattle.rs_catalog.proofs.NameOrder.{name_cmp-total, name_cmp-antisymmetric}
use Rattle.rs_catalog.proofs.MapLaws.{same_name-true, some_same}
use Rattle.rs_catalog.proofs.StateLaws.{get-tables_from}
use Rattle.rs_catalog_laws.specs.Rest.{ChangesRows, one_more}
use Rattle.rs_catalog_laws.proofs.Numbers.{apart_from_other}
use Rattle.rs_catalog_laws.proofs.States.{same_state, facts_at, same_facts, table_at, with_facts, same_table}

module _ (definitions : Definitions) (name route : Name) (table : TableItem) (on : RouteItem) (spans after : ℕ → ℕ → List Stretch) (are : AreDefinitions definitions)
    (table_there : names.get definitions.tables name ≡ Some table) (route_there : names.get definitions.routes route ≡ Some on)
    (changes : ChangesRows table.number on.number spans after) where
  -- the rows that the table has on the route now, and the facts that it had
  abbrev now : Places
  now = places_of (after table.number on.number)

  abbrev before : Facts
  before = facts_from definitions.routes (spans table.number)

  -- ---- the table has other facts on the route, and no other table

  facts_changed : facts_from definitions.routes (after table.number) ≡ on_route route now before
  unfolding facts_from on_route
  facts_changed = fun_ext (λ other.
      let at : Option RouteItem → Places = on_numbered no_places (λ number. places_of (after table.number number)) in
      elim (same_name other route) as (λ b. same_name other route ≡ b → at (names.get definitions.routes other) ≡ cond b now (facts_from definitions.routes (spans table.number) other)) [
        | true ↦ λ e. ap at (ap (names.get definitions.routes) (same_name-true other route e) ∙ route_there)
        | false ↦ λ e. elim (names.get definitions.routes other) as (λ o. names.get definitions.routes other ≡ o → at o ≡ on_numbered no_places (λ number. places_of (spans table.number number)) o) [
          | None ↦ λ f. refl
          | Some item ↦ λ f. changes.elsewhere item.number (apart_from_other (λ (r : RouteItem). r.number) definitions.routes are.route_numbers other route item on e f route_there)
        ] refl
      ] refl)

  tables_changed : tables_from definitions after ≡ names.insert (tables_from definitions spans) name (with_facts table (on_route route now before))
  tables_changed = same_map name_cmp-total name_cmp-antisymmetric _ _ (λ q.
      let at : Option TableItem → Option Table = option_map (table_from definitions.routes after) in
      get-tables_from definitions after q
      ∙ elim (same_name q name) as (λ b. same_name q name ≡ b → at (names.get definitions.tables q) ≡ cond b (Some (with_facts table (on_route route now before))) (names.get (tables_from definitions spans) q)) [
        | true ↦ λ e. ap at (ap (names.get definitions.tables) (same_name-true q name e) ∙ table_there) ∙ same_table table _ _ facts_changed
        | false ↦ λ e. elim (names.get definitions.tables q) as (λ o. names.get definitions.tables q ≡ o → at o ≡ option_map (table_from definitions.routes spans) o) [
          | None ↦ λ f. refl
          | Some item ↦ λ f. same_table item _ _ (same_facts definitions.routes (spans item.number) (after item.number)
              (changes.others item.number (apart_from_other (λ (t : TableItem). t.number) definitions.tables are.table_numbers q name item table e f table_there)))
        ] refl ∙ sym (get-tables_from definitions spans q)
      ] refl
      ∙ sym (get-insert name_cmp-total (tables_from definitions spans) name (with_facts table (on_route route now before)) q))

  pub state_with_rows : (referents : ℕ → Names ℕ) (rest : Rest)
      → state_from definitions referents after (one_more rest) ≡ with_table (state_from definitions referents spans rest) name (with_facts table (on_route route now before))
  state_with_rows referents rest = same_state _ _ refl refl tables_changed refl refl refl refl refl

  -- ---- a row is put, and rows are taken away

  facts_there : before route ≡ places_of (spans table.number on.number)
  facts_there = facts_at definitions.routes (spans table.number) route on route_there

  module _ (referents : ℕ → Names ℕ) (rest : Rest) where
    changed_to : (places : Places) → now ≡ places
        → state_from definitions referents after (one_more rest) ≡ with_table (state_from definitions referents spans rest) name (with_facts table (on_route route places before))
    changed_to places is = state_with_rows referents rest
        ∙ ap (λ (places : Places). with_table (state_from definitions referents spans rest) name (with_facts table (on_route route places before))) is

    pub state_with_row : (lo hi : ℕ) (row : Row) → now ≡ with_row lo hi row (places_of (spans table.number on.number))
        → state_from definitions referents after (one_more rest) ≡ with_table (state_from definitions referents spans rest) name (with_facts_along (table_from definitions.routes spans table) route lo hi row)
    state_with_row lo hi row is = changed_to (with_row lo hi row (before route)) (is ∙ ap (with_row lo hi row) (sym facts_there))

    pub state_without_rows : (lo hi : ℕ) (goes : Row → Bool) → now ≡ without_rows lo hi goes (places_of (spans table.number on.number))
        → state_from definitions referents after (one_more rest) ≡ with_table (state_from definitions referents spans rest) name (without_facts (table_from definitions.routes spans table) route lo hi goes)
    state_without_rows lo hi goes is = changed_to (without_rows lo hi goes (before route)) (is ∙ ap (without_rows lo hi goes) (sym facts_there))

-- ---- the table as the state has it

module _ (definitions : Definitions) (name route : Name) (table : TableItem) (on : RouteItem) (referents : ℕ → Names ℕ) (spans after : ℕ → ℕ → List Stretch) (rest : Rest) where
  own_table : (there : Table) → names.get definitions.tables name ≡ Some table → names.get (tables_from definitions spans) name ≡ Some there → table_from definitions.routes spans table ≡ there
  own_table there table_there is = some_same _ there (sym (table_at definitions spans name table table_there) ∙ is)

  module _ (lo hi : ℕ) where
    pub row_more : (row : Row) (there : Table)
        → AreDefinitions definitions → names.get definitions.tables name ≡ Some table → names.get definitions.routes route ≡ Some on
        → names.get (tables_from definitions spans) name ≡ Some there → ChangesRows table.number on.number spans after
        → places_of (after table.number on.number) ≡ with_row lo hi row (places_of (spans table.number on.number))
        → (state_from definitions referents after (one_more rest) ≡ with_table (state_from definitions referents spans rest) name (with_facts_along there route lo hi row))
        × (new_facts there.facts route lo hi row ≡ missing lo hi row (places_of (spans table.number on.number)))
    row_more row there are table_there route_there is changes after_is =
        let own = own_table there table_there is in (
          state_with_row definitions name route table on spans after are table_there route_there changes referents rest lo hi row after_is
              ∙ ap (λ (t : Table). with_table (state_from definitions referents spans rest) name (with_facts_along t route lo hi row)) own,
          ap (λ (t : Table). new_facts t.facts route lo hi row) (sym own) ∙ ap (missing lo hi row) (facts_at definitions.routes (spans table.number) route on route_there),
        )

    pub rows_less : (goes : Row → Bool) (there : Table)
        → AreDefinitions definitions → names.get definitions.tables name ≡ Some table → names.get definitions.routes route ≡ Some on
        → names.get (tables_from definitions spans) name ≡ Some there → ChangesRows table.number on.number spans after
        → places_of (after table.number on.number) ≡ without_rows lo hi goes (places_of (spans table.number on.number))
        → (state_from definitions referents after (one_more rest) ≡ with_table (state_from definitions referents spans rest) name (without_facts there route lo hi goes))
        × (removed_facts there.facts route lo hi goes ≡ going lo hi goes (places_of (spans table.number on.number)))
    rows_less goes there are table_there route_there is changes after_is =
        let own = own_table there table_there is in (
          state_without_rows definitions name route table on spans after are table_there route_there changes referents rest lo hi goes after_is
              ∙ ap (λ (t : Table). with_table (state_from definitions referents spans rest) name (without_facts t route lo hi goes)) own,
          ap (λ (t : Table). removed_facts t.facts route lo hi goes) (sym own) ∙ ap (going lo hi goes) (facts_at definitions.routes (spans table.number) route on route_there),
        )
