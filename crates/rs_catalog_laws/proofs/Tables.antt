-- What the definition and the removal of a table, an index, a view or an alignment do to the state.
use Rattle.std.proofs.Common.{◌≡◌, ℕ, true, false, cond, not, List, Some, None, refl, sym, ap, ◌∙◌}
use Rattle.std.specs.FinMap as names
use Rattle.std.specs.FinMap.{get-insert, get-remove, same_map}
use Rattle.rs_facts.specs.Fact.{Name, Names, Facts}
use Rattle.rs_facts.specs.Insert.{same_name}
use Rattle.rs_facts.specs.Query.{Piece}
use Rattle.rs_facts.specs.Runs.{Stretch}
use Rattle.rs_facts.specs.Spans.{places_of}
use Rattle.rs_syntax.specs.QueryView.{query_tree}
use Rattle.rs_machine.specs.Step as machine
use Rattle.rs_machine.specs.Step.{empty_table}
use Rattle.rs_catalog.specs.Changes.{is_of_another, indexes_of_others, with_index, without_index, with_table, without_table, with_view, without_view, with_alignment, without_alignment}
use Rattle.rs_catalog.specs.Definitions.{TableItem, IndexItem, ViewItem, indexed_column, Definitions, AreDefinitions, no_places, table_from, tables_from, referents_from, Rest, state_from}
use Rattle.rs_catalog.proofs.NameOrder.{name_cmp-total, name_cmp-antisymmetric}
use Rattle.rs_catalog.proofs.Names.{map_values-insert}
use Rattle.rs_catalog.proofs.MapLaws.{none_some, same_name-true}
use Rattle.rs_catalog.proofs.DefinitionLaws.{get-others}
use Rattle.rs_catalog.proofs.StateLaws.{tables_from-without_table, indexes_of-without_table, indexes_of-with_index, indexes_of-without_index, views_of-with_view, views_of-without_view}
use Rattle.rs_catalog_laws.specs.Rest.{one_more}
use Rattle.rs_catalog_laws.proofs.Numbers.{apart_from_removed}
use Rattle.rs_catalog_laws.proofs.States.{same_state, same_tables, same_facts, no_facts_of, with_facts}

module _ (definitions : Definitions) (name : Name) (referents : ℕ → Names ℕ) (spans : ℕ → ℕ → List Stretch) (rest : Rest) where
  -- ---- a table

  tables_with_table : (item : TableItem) → ((route : ℕ) → places_of (spans item.number route) ≡ no_places)
      → tables_from (with_table definitions name item) spans ≡ names.insert (tables_from definitions spans) name (empty_table item.kind item.columns)
  unfolding tables_from
  tables_with_table item none =
      map_values-insert (table_from definitions.routes spans) definitions.tables name item
      ∙ ap (λ (facts : Facts). names.insert (tables_from definitions spans) name (with_facts item facts)) (no_facts_of definitions.routes (spans item.number) none)

  pub state_with_table : (item : TableItem) → ((route : ℕ) → places_of (spans item.number route) ≡ no_places)
      → state_from (with_table definitions name item) referents spans (one_more rest) ≡ machine.with_table (state_from definitions referents spans rest) name (empty_table item.kind item.columns)
  unfolding referents_from
  state_with_table item none = same_state _ _ refl refl (tables_with_table item none) refl refl refl refl refl

  pub state_without_table : state_from (without_table definitions name) referents spans (one_more rest) ≡ machine.without_table (state_from definitions referents spans rest) name
  unfolding referents_from
  state_without_table = same_state _ _ refl refl (tables_from-without_table definitions spans name) refl refl (indexes_of-without_table definitions name) refl refl

  -- the table goes with its rows; the other tables have the rows that they had
  pub state_without_table_and_rows : (after : ℕ → ℕ → List Stretch) (item : TableItem) → AreDefinitions definitions → names.get definitions.tables name ≡ Some item
      → ((table : ℕ) → (table ≡ item.number → ⊥) → (route : ℕ) → places_of (after table route) ≡ places_of (spans table route))
      → state_from (without_table definitions name) referents after (one_more rest) ≡ machine.without_table (state_from definitions referents spans rest) name
  unfolding referents_from
  state_without_table_and_rows after item are there others = same_state _ _ refl refl
      (same_tables (without_table definitions name) (without_table definitions name) spans after refl
      (λ q table at. same_facts definitions.routes (spans table.number) (after table.number) (others table.number (apart_from_removed (λ (t : TableItem). t.number) definitions.tables are.table_numbers name q item table there at)))
      ∙ tables_from-without_table definitions spans name)
      refl refl (indexes_of-without_table definitions name) refl refl

  -- ---- an index

  pub state_with_index : (item : IndexItem) → state_from (with_index definitions name item) referents spans (one_more rest) ≡ machine.with_index (state_from definitions referents spans rest) name (indexed_column item)
  unfolding referents_from tables_from
  state_with_index item = same_state _ _ refl refl refl refl refl (indexes_of-with_index definitions name item) refl refl

  pub state_without_index : state_from (without_index definitions name) referents spans (one_more rest) ≡ machine.without_index (state_from definitions referents spans rest) name
  unfolding referents_from tables_from
  state_without_index = same_state _ _ refl refl refl refl refl (indexes_of-without_index definitions name) refl refl

  -- ---- a view

  pub state_with_view : (item : ViewItem) → state_from (with_view definitions name item) referents spans (one_more rest) ≡ machine.with_view (state_from definitions referents spans rest) name (query_tree item.query)
  unfolding referents_from tables_from
  state_with_view item = same_state _ _ refl refl refl (views_of-with_view definitions name item) refl refl refl refl

  pub state_without_view : state_from (without_view definitions name) referents spans (one_more rest) ≡ machine.without_view (state_from definitions referents spans rest) name
  unfolding referents_from tables_from
  state_without_view = same_state _ _ refl refl refl (views_of-without_view definitions name) refl refl refl refl

  -- ---- an alignment

  pub state_with_alignment : (pieces : List Piece) → state_from (with_alignment definitions name pieces) referents spans (one_more rest) ≡ machine.with_alignment (state_from definitions referents spans rest) name pieces
  unfolding referents_from tables_from
  state_with_alignment pieces = refl

  pub state_without_alignment : state_from (without_alignment definitions name) referents spans (one_more rest) ≡ machine.without_alignment (state_from definitions referents spans rest) name
  unfolding referents_from tables_from
  state_without_alignment = refl

-- ---- a table that was added and taken out again

-- no index is of a table that is not there
none_of : (definitions : Definitions) (name : Name) → AreDefinitions definitions → names.get definitions.tables name ≡ None → indexes_of_others name definitions.indexes ≡ definitions.indexes
none_of definitions name are new = same_map name_cmp-total name_cmp-antisymmetric _ _ (λ q.
    get-others name definitions.indexes q
    ∙ elim (names.get definitions.indexes q) as (λ o. names.get definitions.indexes q ≡ o → cond (is_of_another name o) o None ≡ o) [
      | None ↦ λ at. refl
      | Some item ↦ λ at. elim (same_name name item.table) as (λ b. same_name name item.table ≡ b → cond (not b) (Some item) None ≡ Some item) [
        | true ↦ λ same. none_some ((are.indexes q item at).1).table (sym new ∙ ap (names.get definitions.tables) (same_name-true name item.table same) ∙ ((are.indexes q item at).1).there)
        | false ↦ λ apart. refl
      ] refl
    ] refl)

pub taken_back : (old added : Definitions) (name : Name) (item : TableItem) → AreDefinitions old → names.get old.tables name ≡ None → added ≡ with_table old name item → without_table added name ≡ old
taken_back old added name item are new is = ap (λ (d : Definitions). without_table d name) is
    ∙ (λ i. record { routes = old.routes; tables = back i; indexes = none_of old name are new i; views = old.views; alignments = old.alignments })
  where
    back : names.remove (names.insert old.tables name item) name ≡ old.tables
    back = same_map name_cmp-total name_cmp-antisymmetric _ _ (λ q.
        get-remove name_cmp-total (names.insert old.tables name item) name q ∙ ap (cond (same_name q name) None) (get-insert name_cmp-total old.tables name item q)
        ∙ elim (same_name q name) as (λ b. same_name q name ≡ b → cond b None (cond b (Some item) (names.get old.tables q)) ≡ names.get old.tables q) [
          | true ↦ λ e. sym (ap (names.get old.tables) (same_name-true q name e) ∙ new)
          | false ↦ λ e. refl
        ] refl)
