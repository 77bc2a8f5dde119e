-- What a change makes of a file: a part changes, records are cleared, and the next version is the one that was accepted last.
use Rattle.std.specs.Prelude.{◌≡◌, ◌≢◌, ◌≤◌, ◌+◌, ◌-◌, ◌⊎◌, ℕ, Contains}
use Rattle.rs_catalog.specs.Definitions.{Definitions, Numbered}
use Rattle.rs_catalog.specs.Referents.{HeldReferents}
use Rattle.rs_catalog_pages.specs.Items.{CatalogueItems, TableItem}
use Rattle.rs_change_laws.specs.Standing.{AreInMemory, IsOpenedFile, StandsAt}
use Rattle.rs_facts.specs.Fact.{Name}
use Rattle.rs_file_parts.specs.Contents.{Contents, HoldsAll}
use Rattle.rs_file_parts.specs.OpenedFile.{OpenedFile}
use Rattle.rs_file_meaning.specs.Live.{KeepsLive}
use Rattle.rs_file_meaning.specs.Meant.{IsMeant}
use Rattle.rs_file_meaning.specs.Seen.{events_of}
use Rattle.rs_file_meaning.specs.States.{IsState}
use Rattle.rs_file_parts.specs.Clearing.{ClearsAsMany, clearable}
use Rattle.rs_machine.specs.State.{State}
use Rattle.rs_pages.specs.PageMap.{PageMap}
use Rattle.rs_table_changes.specs.Turns.{EventsTurn, ReferentsTurn}

-- ---- records

-- no table has the name
abbrev pub HasNoTable : CatalogueItems → Name → Type 0
HasNoTable definitions name = (table : TableItem) → Contains definitions.tables table → table.name ≢ name

-- What a change itself makes of records, before any are cleared. Of each table that is defined after it, and of the referents, some that
-- lived have died at the version, others were born at it, and all others are the same. Each such table was defined before, or none had
-- its name: a table that is dropped takes its records with it, and no other record goes.
pub record HasTurned (version : ℕ) (old between : Contents) : Type 0 where
  pub tables : (table : TableItem) → Contains between.definitions.tables table → Contains old.definitions.tables table ⊎ HasNoTable old.definitions table.name
  pub events : (table : TableItem) → Contains between.definitions.tables table → EventsTurn version (events_of old table.number) (events_of between table.number)
  pub referents : ReferentsTurn version old.referents.referents between.referents.referents

-- how many records have died by the version
abbrev pub died_by : ℕ → Contents → ℕ
died_by = clearable

-- Of the records that no version from the oldest on sees, 64 are gone, or all where they are fewer; and at most 64 more than the
-- change itself has ended.
pub record ClearsEnough (oldest : ℕ) (old between now : Contents) : Type 0 where
  pub most : ℕ
  pub gone : ℕ
  pub least : 64 ≤ most
  pub few : most ≤ 64 + (died_by (old.directory.accepted + 1) between - died_by old.directory.accepted old)
  pub cleared : ClearsAsMany oldest most gone between (record now { directory = between.directory })

-- ---- in the pages

-- A change is completed once its part has changed: records are cleared, the next version is the one that was accepted last, and the
-- file holds all that.
pub record Completes (oldest : ℕ) (old between : Contents) (map : PageMap) (file : OpenedFile) : Type 0 where
  pub contents : Contents
  pub same : between.directory ≡ old.directory
  pub clears : ClearsEnough oldest old between contents
  pub next : contents.directory.accepted ≡ old.directory.accepted + 1
  pub holds : HoldsAll map contents
  pub opened : IsOpenedFile file contents

-- the contents have changed so, and that is completed
pub record HasChanged (oldest : ℕ) (old : Contents) (map : PageMap) (file : OpenedFile) (change : Contents → Type 0) : Type 0 where
  pub between : Contents
  pub changed : change between
  pub completes : Completes oldest old between map file

-- whatever contents the file held with what was open have changed so
pub record ChangesFile (oldest : ℕ) (old new : PageMap) (was is : OpenedFile) (change : Contents → Contents → Type 0) : Type 0 where
  pub each : (contents : Contents) → HoldsAll old contents → IsOpenedFile was contents → HasChanged oldest contents new is (change contents)

-- the file holds no contents with what is open
pub record HoldsNoFile (map : PageMap) (file : OpenedFile) : Type 0 where
  pub none : (contents : Contents) → HoldsAll map contents → IsOpenedFile file contents → ⊥

-- ---- in values

-- the same contents, with the next version as the one that was accepted last
abbrev pub next_of : Contents → Contents
next_of contents = record contents { directory = record contents.directory { accepted = contents.directory.accepted + 1 } }

-- Where contents have changed so, their records have turned, live versions see what they saw, and the next one means what it says: with
-- these definitions and referents in memory it has this state.
pub record GivesState (oldest : ℕ) (old between : Contents) (definitions : Definitions) (held : Numbered HeldReferents) (state : State) : Type 0 where
  pub turned : HasTurned (old.directory.accepted + 1) old between
  pub live : KeepsLive oldest old between
  pub meant : IsMeant (old.directory.accepted + 1) (next_of between)
  pub memory : AreInMemory definitions held (next_of between)
  pub is : IsState (next_of between) state

-- The file stands for the state of the next version, and live versions see what they saw. Between the change itself and that, enough of
-- the records are cleared that no live version sees.
pub record Becomes (oldest : ℕ) (old : Contents) (map : PageMap) (file : OpenedFile) (definitions : Definitions) (held : Numbered HeldReferents) (state : State) : Type 0 where
  pub between : Contents
  pub turned : HasTurned (old.directory.accepted + 1) old between
  pub stands : StandsAt oldest map file definitions held state
  pub clears : ClearsEnough oldest old between stands.contents
  pub next : stands.contents.directory.accepted ≡ old.directory.accepted + 1
  pub live : KeepsLive oldest old stands.contents
