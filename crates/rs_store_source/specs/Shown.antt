-- What a store shows to the evaluation of plans: at each live version, the rows of its tables on its routes, and where these
-- start and end.
use Rattle.std.specs.Prelude.{◌≡◌, ◌≤◌, ◌==◌, ◌&&◌, ◌-◌, ◌^◌, ℕ, Bool, true, false, nat_le, if◌then◌else◌, List, [], ◌∷◌, length, Option, Some, None}
use Rattle.std.specs.FinMap as names
use Rattle.std.specs.List.{list_any}
use Rattle.rs_catalog.specs.Definitions.{Definitions, RouteItem, TableItem, no_places}
use Rattle.rs_disk.specs.declared.disk.Disk as disk
use Rattle.rs_exec.specs.Given.{table_asked}
use Rattle.rs_exec.specs.Snapshot.{NumberedTable, Snapshot, Snapshots}
use Rattle.rs_exec.specs.declared.source.Asked.{Asked}
use Rattle.rs_exec.specs.declared.source.Part.{Part}
use Rattle.rs_file.specs.Contents.{Contents}
use Rattle.rs_table_reads.specs.declared.window.RouteWindow.{RouteWindow}
use Rattle.rs_exec.specs.declared.source.Part.TheVariants as parts
use Rattle.rs_facts.specs.Fact.{Name, Places, none}
use Rattle.rs_facts.specs.Query.{RouteEnds}
use Rattle.rs_facts.specs.Spans.{places_of}
use Rattle.rs_file_meaning.specs.Seen.{born_by, spans_seen}
use Rattle.rs_file_meaning.specs.States.{routes_named}
use Rattle.rs_machine.specs.State.{State}
use Rattle.rs_store.specs.Kept.{StandsIn, StoreState}
use Rattle.rs_value.specs.declared.column.Kind.{Kind}
use Rattle.rs_value.specs.declared.column.Kind.TheVariants.{Line, Point}

-- ---- tables by their numbers

abbrev pub same_kind : Kind → Kind → Bool
same_kind Line Line = true
same_kind Line Point = false
same_kind Point Line = false
same_kind Point Point = true

-- the table has this number and this kind, and so many columns
unfoldable pub is_table : NumberedTable → TableItem → Bool
is_table table item = item.number == table.number && (same_kind item.kind table.kind && length item.columns == table.width)

-- some table of the definitions has
abbrev pub table_there : Definitions → NumberedTable → Bool
table_there definitions table = list_any (λ entry. is_table table entry.1) (names.entries definitions.tables)

-- the item as a table by its number
abbrev pub numbered_as : TableItem → NumberedTable
numbered_as item = record { number = item.number; kind = item.kind; width = length item.columns }

-- ---- snapshots

-- the rows that the version sees of a table on a route
abbrev pub places_seen : Contents → ℕ → ℕ → ℕ → Places
places_seen contents version table route = places_of (spans_seen contents version table route)

-- the ends of the route with this number; none where no route has it
abbrev pub ends_with : List (Name × RouteItem) → ℕ → Option RouteEnds
ends_with [] number = None
ends_with (route ∷ routes) number = if route.1.number == number then Some route.1.ends else ends_with routes number

-- among the routes that the version sees
abbrev pub ends_seen : Contents → ℕ → ℕ → Option RouteEnds
ends_seen contents version = ends_with (names.entries (routes_named (born_by version contents.definitions.routes)))

-- the tables that are there have the rows that the version sees, and no other has any; so it is of routes and their ends
abbrev pub snapshot_at : Definitions → Contents → ℕ → Snapshot
snapshot_at definitions contents version = record {
  rows = λ table route. if table_there definitions table then places_seen contents version table.number route else no_places;
  ends = ends_seen contents version;
}

-- no table has a row, and no route is there
abbrev pub no_snapshot : Snapshot
no_snapshot = record { rows = λ table route. no_places; ends = λ route. None }

-- those of the versions from the oldest one up to the one that was accepted last; no other has a row or a route
abbrev pub shown_from : Definitions → Contents → ℕ → ℕ → Snapshots
shown_from definitions contents oldest accepted version =
    if nat_le oldest version && nat_le version accepted then snapshot_at definitions contents version else no_snapshot

-- no table has a row anywhere
abbrev pub HasNoRows : Snapshot → Type 0
HasNoRows snapshot = (table : NumberedTable) (route k : ℕ) → snapshot.rows table route k ≡ none

-- no route is there
abbrev pub HasNoRoutes : Snapshot → Type 0
HasNoRoutes snapshot = (route : ℕ) → snapshot.ends route ≡ None

module _ {D : Type 0} (d : disk.Ghosts D) where
  -- The store stands in a state, from the oldest version on. Each version from there up to the one that was accepted last has what it
  -- sees of the tables of the catalogue and of the routes, and all others have nothing.
  pub record Shows (oldest : ℕ) (store : StoreState D) (snapshots : Snapshots) : Type 0 where
    pub state : State
    pub stands : StandsIn d oldest store state
    pub live : (version : ℕ) → oldest ≤ version → version ≤ store.file.accepted → snapshots version ≡ snapshot_at store.catalog stands.contents version
    pub others : (version : ℕ) → (oldest ≤ version → version ≤ store.file.accepted → ⊥) → HasNoRows (snapshots version)
    pub nowhere : (version : ℕ) → (oldest ≤ version → version ≤ store.file.accepted → ⊥) → HasNoRoutes (snapshots version)

-- ---- what is asked

-- the version is from the oldest one up to the one that was accepted last, and the table is there
abbrev pub is_shown : Definitions → ℕ → ℕ → Asked → Bool
is_shown definitions oldest accepted asked = nat_le oldest asked.version && (nat_le asked.version accepted && table_there definitions (table_asked asked))

-- the first thousandth of a part, and the first after it; no route reaches the last one of all
abbrev pub first_of : Part → ℕ
first_of parts.Whole = 0
first_of (parts.Between from to) = from

abbrev pub behind_of : Part → ℕ
behind_of parts.Whole = 2 ^ 32 - 1
behind_of (parts.Between from to) = to

-- what is read of a store where this part of a route is asked for
abbrev pub window_of : Asked → Part → RouteWindow
window_of asked part = record { kind = asked.kind; version = asked.version; route = asked.route; from = first_of part; to = behind_of part }
