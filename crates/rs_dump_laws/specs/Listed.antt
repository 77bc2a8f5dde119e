-- The parts of a state, listed in the order of names.
use Rattle.std.specs.Prelude.{◌≡◌, ℕ, List, flat_map, map, Some}
use Rattle.std.specs.FinMap as names
use Rattle.rs_facts.specs.Fact.{Name}
use Rattle.rs_facts.specs.Query.{RouteEnds, Table}
use Rattle.rs_facts.specs.Runs.{Stretch}
use Rattle.rs_facts.specs.Spans.{AreAllRunsOf}
use Rattle.rs_syntax.specs.Tree.{QueryTree}
use Rattle.rs_machine.specs.State.{State}
use Rattle.rs_dump_laws.specs.Parts.{Parts, PlacedReferent, PlacedRow}

abbrev pub placed_referent : Name → (Name × ℕ) → PlacedReferent
placed_referent route referent = record { route = route; name = referent.0; measure = referent.1 }

abbrev pub placed_row : Name → Name → Stretch → PlacedRow
placed_row table route span = record { table = table; route = route; span = span }

-- route by route
abbrev pub listed_referents : State → List PlacedReferent
listed_referents state = flat_map (λ route. map (placed_referent route.0) (names.entries (state.referents route.0))) (names.entries state.routes)

-- table by table and route by route, of each table and route these spans
abbrev pub listed_rows : State → (Name → Name → List Stretch) → List PlacedRow
listed_rows state spans =
    flat_map (λ table. flat_map (λ route. map (placed_row table.0 route.0) (spans table.0 route.0)) (names.entries state.routes)) (names.entries state.tables)

-- the spans of each table on each route are all maximal runs of its facts there
abbrev pub AreRunsOfTables : State → (Name → Name → List Stretch) → Type 0
AreRunsOfTables state spans =
    (name : Name) (table : Table) → names.get state.tables name ≡ Some table → (route : Name) (ends : RouteEnds) → names.get state.routes route ≡ Some ends
    → AreAllRunsOf table.kind (table.facts route) (spans name route)

-- the parts with these spans as rows, and these views
abbrev pub listed_parts : State → (Name → Name → List Stretch) → List (Name × QueryTree) → Parts
listed_parts state spans views = record {
  routes = names.entries state.routes;
  referents = listed_referents state;
  tables = names.entries state.tables;
  rows = listed_rows state spans;
  alignments = names.entries state.alignments;
  views = views;
  indexes = names.entries state.indexes;
}
