-- What an engine keeps, and which machine it is.
use Rattle.std.specs.Prelude.{◌≡◌, ◌≤◌, ℕ, Some}
use Rattle.std.specs.Coded.{Coded}
use Rattle.std.specs.FinMap as names
use Rattle.rs_answers.specs.Versions.{LiesOnRoutes, SeenVersion}
use Rattle.rs_catalog.specs.Definitions.{Definitions, no_definitions}
use Rattle.rs_command_checks.specs.declared.checks.Checks.{Checks}
use Rattle.rs_cursor.specs.Held.{IsOldest, cursors_by, held_of, lines_left}
use Rattle.rs_cursor.specs.declared.cursor.Cursor.{Cursor}
use Rattle.rs_disk.specs.declared.disk.Disk as disk
use Rattle.rs_engine.specs.Ahead.{AreAhead}
use Rattle.rs_engine.specs.contracts.engine.open.OpenCursors as open_cursors
use Rattle.rs_engine.specs.declared.engine.open.OpenCursors.{OpenCursors}
use Rattle.rs_facts.specs.Fact.{Name}
use Rattle.rs_file.specs.Contents.{Contents}
use Rattle.rs_file_meaning.specs.Seen.{born_by, referents_seen}
use Rattle.rs_file_meaning.specs.States.{routes_named, tables_named}
use Rattle.rs_machine.specs.Lawful.{IsLawful}
use Rattle.rs_machine.specs.Served.{Machine}
use Rattle.rs_machine.specs.State.{Cursors, State}
use Rattle.rs_pages.specs.declared.pages.TheConstants.{GREATEST_LIMIT}
use Rattle.rs_store_source.specs.Kept.{StandsIn, StoreState}
use Rattle.rs_store_source.specs.Shown.{snapshot_at}

-- the store of the file, the oldest version that is looked at, and the cursors of each session with lines that one gives next
pub record EngineState (D : Type 0) : Type 0 where
  pub store : StoreState D
  pub oldest : ℕ
  pub cursors : OpenCursors

-- what commands are checked against is what the engine has in memory
pub record AreChecksOf {D : Type 0} (engine : EngineState D) (checks : Checks) : Type 0 where
  pub catalog : checks.catalog.now ≡ engine.store.catalog
  pub referents : checks.referents.now ≡ engine.store.referents
  pub cursors : checks.cursors.now ≡ engine.cursors.held
  pub changes : checks.changes ≡ engine.store.file.accepted

-- the oldest version that the engine's cursors look at, or the version `most` where that is older
abbrev pub IsOldestIn : {D : Type 0} → EngineState D → ℕ → ℕ → Type 0
IsOldestIn engine = IsOldest (held_of engine.cursors.held)

abbrev pub open_cursors_code : Coded OpenCursors
open_cursors_code = open_cursors.the_row.coded

-- ---- what versions see

-- the tables of a file's contents, as the catalogue has them
abbrev pub tables_in : Contents → Definitions
tables_in contents = record no_definitions { tables = tables_named contents.definitions.tables }

-- what a version sees of the contents
abbrev pub seen_at : Contents → ℕ → SeenVersion
seen_at contents version = record {
  routes = routes_named (born_by version contents.definitions.routes);
  referents = referents_seen contents version;
  snapshot = snapshot_at (tables_in contents) contents version;
}

-- the cursor looks at a version from the oldest one up to the one that was accepted last, in which its plan has rows on routes alone
pub record IsLive (oldest accepted : ℕ) (versions : ℕ → SeenVersion) (cursor : Cursor) : Type 0 where
  pub from : oldest ≤ cursor.version
  pub upto : cursor.version ≤ accepted
  pub lies : LiesOnRoutes (versions cursor.version) cursor.plan

-- so does each cursor of each session, and lines that were formed ahead are the lines of theirs
pub record AreLive (oldest accepted : ℕ) (versions : ℕ → SeenVersion) (cursors : OpenCursors) : Type 0 where
  pub each : (session : ℕ) (name : Name) (cursor : Cursor) → names.get (held_of cursors.held session) name ≡ Some cursor → IsLive oldest accepted versions cursor
  pub ahead : AreAhead versions cursors

-- ---- the machine

-- a state beside other cursors
abbrev pub with_cursors : (ℕ → Cursors) → State → State
with_cursors cursors state = record state { cursors = cursors }

module _ {D : Type 0} (d : disk.Ghosts D) where
  -- The store stands in the machine's state without its cursors, from the oldest version on that is looked at. Each of the machine's
  -- cursors has still to give the lines that one of the engine's has, from its place on, of the version that it looks at. The machine's
  -- counts are those of the disk and of the pages. The file has no more pages than a file may have.
  pub record IsMachine (engine : EngineState D) (machine : Machine) : Type 0 where
    pub state : State
    pub stands : StandsIn d engine.oldest engine.store state
    pub live : AreLive engine.oldest engine.store.file.accepted (seen_at stands.contents) engine.cursors
    pub is : machine.state ≡ with_cursors (cursors_by (lines_left (seen_at stands.contents)) engine.cursors.held) state
    pub lawful : IsLawful machine.state
    pub failures : machine.failures ≡ d.failures engine.store.pager.disk
    pub full_refusals : machine.full_refusals ≡ engine.store.pager.full_refusals
    pub within : engine.store.pager.limit ≤ GREATEST_LIMIT
