-- Laws of the state that is made of definitions, referents and spans by their numbers.
use Rattle.std.proofs.Common.{◌≡◌, ℕ, List, Some, None, refl, sym, ap, ◌∙◌}
use Rattle.std.proofs.Math.Path.{fun_ext}
use Rattle.std.specs.Option.{option_map}
use Rattle.std.specs.FinMap as names
use Rattle.std.specs.FinMap.{same_map}
use Rattle.rs_facts.specs.Fact.{Name, Names, Places, Facts, no_facts}
use Rattle.rs_facts.specs.Query.{Table}
use Rattle.rs_facts.specs.Runs.{Stretch}
use Rattle.rs_facts.specs.Spans.{places_of}
use Rattle.rs_machine.specs.State.{State}
use Rattle.rs_catalog.specs.Definitions.{RouteItem, TableItem, Definitions, Rest, on_numbered, no_places, facts_from, table_from, tables_from, state_from}
use Rattle.rs_catalog.proofs.NameOrder.{name_cmp-total, name_cmp-antisymmetric}
use Rattle.rs_catalog.proofs.StateLaws.{get-tables_from}
use Rattle.rs_catalog_laws.specs.Rest.{SameRows}

pub same_state : (a b : State) → a.routes ≡ b.routes → a.referents ≡ b.referents → a.tables ≡ b.tables → a.views ≡ b.views → a.alignments ≡ b.alignments → a.indexes ≡ b.indexes → a.changes ≡ b.changes → a.cursors ≡ b.cursors → a ≡ b
same_state a b routes referents tables views alignments indexes changes cursors i =
    record { routes = routes i; referents = referents i; tables = tables i; views = views i; alignments = alignments i; indexes = indexes i; changes = changes i; cursors = cursors i }

-- ---- facts

-- what a table has on a route, by its spans
pub facts_at : (routes : Names RouteItem) (spans : ℕ → List Stretch) (route : Name) (item : RouteItem) → names.get routes route ≡ Some item → facts_from routes spans route ≡ places_of (spans item.number)
unfolding facts_from
facts_at routes spans route item there = ap (on_numbered no_places (λ number. places_of (spans number))) there

pub facts_nowhere : (routes : Names RouteItem) (spans : ℕ → List Stretch) (route : Name) → names.get routes route ≡ None → facts_from routes spans route ≡ no_places
unfolding facts_from
facts_nowhere routes spans route none = ap (on_numbered no_places (λ number. places_of (spans number))) none

-- spans with the same rows are the same facts
pub same_facts : (routes : Names RouteItem) (old new : ℕ → List Stretch) → ((route : ℕ) → places_of (new route) ≡ places_of (old route)) → facts_from routes new ≡ facts_from routes old
unfolding facts_from
same_facts routes old new alike =
    let facts : (ℕ → Places) → Facts = λ at route. on_numbered no_places at (names.get routes route) in
    ap facts (fun_ext alike)

pub no_facts_of : (routes : Names RouteItem) (spans : ℕ → List Stretch) → ((route : ℕ) → places_of (spans route) ≡ no_places) → facts_from routes spans ≡ no_facts
unfolding facts_from
no_facts_of routes spans none = fun_ext (λ route. elim (names.get routes route) as (λ o. on_numbered no_places (λ number. places_of (spans number)) o ≡ no_places) [
  | None ↦ refl
  | Some item ↦ none item.number
])

-- ---- tables

pub table_at : (definitions : Definitions) (spans : ℕ → ℕ → List Stretch) (name : Name) (item : TableItem) → names.get definitions.tables name ≡ Some item
    → names.get (tables_from definitions spans) name ≡ Some (table_from definitions.routes spans item)
table_at definitions spans name item there = get-tables_from definitions spans name ∙ ap (option_map (table_from definitions.routes spans)) there

-- a table of an item with facts
abbrev pub with_facts : TableItem → Facts → Table
with_facts item facts = record { kind = item.kind; columns = item.columns; facts = facts }

pub same_table : (item : TableItem) (a b : Facts) → a ≡ b → Some (with_facts item a) ≡ Some (with_facts item b)
same_table item a b same = ap (λ (facts : Facts). Some (with_facts item facts)) same

-- the same tables, each with the same facts
pub same_tables : (old new : Definitions) (spans after : ℕ → ℕ → List Stretch) → new.tables ≡ old.tables
    → ((name : Name) (item : TableItem) → names.get old.tables name ≡ Some item → facts_from new.routes (after item.number) ≡ facts_from old.routes (spans item.number))
    → tables_from new after ≡ tables_from old spans
same_tables old new spans after tables facts = same_map name_cmp-total name_cmp-antisymmetric _ _ (λ q.
    get-tables_from new after q ∙ ap (λ (m : Names TableItem). option_map (table_from new.routes after) (names.get m q)) tables
    ∙ elim (names.get old.tables q) as (λ o. names.get old.tables q ≡ o → option_map (table_from new.routes after) o ≡ option_map (table_from old.routes spans) o) [
      | None ↦ λ f. refl
      | Some item ↦ λ f. same_table item _ _ (facts q item f)
    ] refl
    ∙ sym (get-tables_from old spans q))

pub same_rows : (definitions : Definitions) (spans after : ℕ → ℕ → List Stretch) → SameRows spans after → tables_from definitions after ≡ tables_from definitions spans
same_rows definitions spans after alike = same_tables definitions definitions spans after refl (λ name item there. same_facts definitions.routes (spans item.number) (after item.number) (alike item.number))

pub state_of_same_rows : (definitions : Definitions) (referents : ℕ → Names ℕ) (spans after : ℕ → ℕ → List Stretch) (rest : Rest)
    → SameRows spans after → state_from definitions referents after rest ≡ state_from definitions referents spans rest
state_of_same_rows definitions referents spans after rest alike = same_state _ _ refl refl (same_rows definitions spans after alike) refl refl refl refl refl
