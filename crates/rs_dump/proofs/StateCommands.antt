-- The commands of definitions and referents: as a state tells them, and as they were written.
use Rattle.std.proofs.Common.{◌≡◌, ◌∙◌, ℕ, List, ap, map, refl}
use Rattle.std.specs.Prelude.{Option, Some, None, flat_map, option_map}
use Rattle.std.specs.FinMap as names
use Rattle.rs_catalog.specs.Definitions.{Definitions, IndexItem, Numbered, Rest, RouteItem, TableItem, on_numbered, referents_from, state_from, table_from, tables_from}
use Rattle.rs_catalog.specs.Definitions as catalog
use Rattle.rs_catalog.specs.Referents.{HeldReferents, referents_on}
use Rattle.rs_catalog.proofs.Names.{each_entry, entries-map_values}
use Rattle.rs_catalog.proofs.StateLaws.{get-tables_from}
use Rattle.rs_dump.specs.Sections.{columns_in, index_commands, index_of, referent_commands, referents_beside, referents_of_route, route_commands, table_commands}
use Rattle.rs_dump_laws.specs.Dump.{index_command, referent_command, route_command, table_command}
use Rattle.rs_dump_laws.specs.Listed.{listed_referents, placed_referent}
use Rattle.rs_facts.specs.Fact.{Name}
use Rattle.rs_facts.specs.Query.{Column, RouteEnds, column_at, table_columns}
use Rattle.rs_facts.specs.Runs.{Stretch}
use Rattle.rs_machine.specs.State.{State}
use Rattle.rs_syntax.specs.Tree.{CommandTree, define_index}
use Rattle.rs_dump.proofs.Elements.{all_weaker}
use Rattle.rs_dump.proofs.Mapped.{flat_alike, flat_mapped, map_flat, map_same, map_twice}

abbrev pub state_of : Definitions → Numbered HeldReferents → (ℕ → ℕ → List Stretch) → Rest → State
state_of definitions held spans_on rest = state_from definitions (λ (route : ℕ). referents_on held route) spans_on rest

-- a route as the state knows it
abbrev pub with_ends : Name × RouteItem → Name × RouteEnds
with_ends entry = (entry.0, entry.1.ends)

module _ (definitions : Definitions) (held : Numbered HeldReferents) (spans_on : ℕ → ℕ → List Stretch) (rest : Rest) where
  abbrev the_state : State
  the_state = state_of definitions held spans_on rest

  -- ---- definitions

  pub same_routes : map route_command (names.entries the_state.routes) ≡ route_commands definitions
  same_routes =
      ap (map route_command) (entries-map_values (λ (item : RouteItem). item.ends) definitions.routes)
      ∙ map_twice with_ends route_command (names.entries definitions.routes)

  pub same_tables : map table_command (names.entries the_state.tables) ≡ table_commands definitions
  unfolding tables_from
  same_tables =
      ap (map table_command) (entries-map_values (table_from definitions.routes spans_on) definitions.tables)
      ∙ map_twice (λ (entry : Name × TableItem). (entry.0, table_from definitions.routes spans_on entry.1)) table_command (names.entries definitions.tables)

  columns_of_item : (found : Option TableItem) → table_columns (option_map (table_from definitions.routes spans_on) found) ≡ columns_in found
  columns_of_item None = refl
  columns_of_item (Some item) = refl

  same_columns : (table : Name) → table_columns (names.get the_state.tables table) ≡ columns_in (names.get definitions.tables table)
  same_columns table = ap table_columns (get-tables_from definitions spans_on table) ∙ columns_of_item (names.get definitions.tables table)

  pub same_indexes : map (index_command the_state) (names.entries the_state.indexes) ≡ index_commands definitions
  same_indexes =
      ap (map (index_command the_state)) (entries-map_values catalog.indexed_column definitions.indexes)
      ∙ map_twice (λ (entry : Name × IndexItem). (entry.0, catalog.indexed_column entry.1)) (index_command the_state) (names.entries definitions.indexes)
      ∙ map_same (λ (entry : Name × IndexItem). index_command the_state (entry.0, catalog.indexed_column entry.1)) (index_of definitions) (names.entries definitions.indexes)
      (λ entry. ap (λ (columns : List Column). define_index entry.0 entry.1.table (column_at columns entry.1.column).0) (same_columns entry.1.table))

  -- ---- referents

  referents_there : (name : Name) (route : RouteItem) → names.get definitions.routes name ≡ Some route → the_state.referents name ≡ referents_on held route.number
  unfolding referents_from
  referents_there name route there = ap (on_numbered names.empty (λ (number : ℕ). referents_on held number)) there

  abbrev commands_on : Name × RouteEnds → List CommandTree
  commands_on route = map referent_command (map (placed_referent route.0) (names.entries (the_state.referents route.0)))

  one_route : (entry : Name × RouteItem) → names.get definitions.routes entry.0 ≡ Some entry.1 → commands_on (with_ends entry) ≡ referents_beside held entry
  one_route entry there =
      map_twice (placed_referent entry.0) referent_command (names.entries (the_state.referents entry.0))
      ∙ ap (referents_of_route entry.0) (ap names.entries (referents_there entry.0 entry.1 there))

  pub same_referents : map referent_command (listed_referents the_state) ≡ referent_commands definitions held
  same_referents =
      map_flat (λ (route : Name × RouteEnds). map (placed_referent route.0) (names.entries (the_state.referents route.0))) referent_command (names.entries the_state.routes)
      ∙ ap (flat_map commands_on) (entries-map_values (λ (item : RouteItem). item.ends) definitions.routes)
      ∙ flat_mapped with_ends commands_on (names.entries definitions.routes)
      ∙ flat_alike (λ (entry : Name × RouteItem). commands_on (with_ends entry)) (referents_beside held) (names.entries definitions.routes)
      (all_weaker (λ (entry : Name × RouteItem). names.get definitions.routes entry.0 ≡ Some entry.1) (λ entry. commands_on (with_ends entry) ≡ referents_beside held entry) one_route
      (names.entries definitions.routes) (each_entry definitions.routes))
