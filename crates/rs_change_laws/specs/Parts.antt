-- What each change makes of its part of a file's contents.
use Rattle.std.specs.Prelude.{◌≡◌, ◌≢◌, ◌+◌, ℕ, Bool, Contains, List, [], ◌∷◌, ◌++◌, Option, length}
use Rattle.rs_catalog_pages.specs.Items.{CatalogueItems}
use Rattle.rs_cell_versions.specs.declared.cell.TheConstants.{LIVING}
use Rattle.rs_facts.specs.Runs.{Stretch}
use Rattle.rs_facts.specs.declared.condition.Condition.{Condition}
use Rattle.rs_file_parts.specs.Contents.{Contents, TableContents}
use Rattle.rs_file_parts.specs.Calls.{ChangesDefinitions, ChangesReferents, EndsNamed}
use Rattle.rs_table_changes.specs.Changes.{Inserts, Removes}
use Rattle.rs_value.specs.declared.column.ColumnType.{ColumnType}
use Rattle.rs_value.specs.declared.column.Kind.{Kind}
use Rattle.rs_versioned.specs.Events.{Event}
use Rattle.rs_versioned.specs.Records.{HasEnded, HasOneMore}
use Rattle.rs_versioned.specs.Referents.{ReferentRecord, kept_referents}

-- ---- the events of a table

-- the events of the table at this place have changed so, and all else stays
pub record ChangesTableAt (place : ℕ) (change : List Event → List Event → Type 0) (old now : Contents) : Type 0 where
  pub before : List TableContents
  pub table : TableContents
  pub next : TableContents
  pub after : List TableContents
  pub long : length before ≡ place
  pub were : old.tables ≡ before ++ table ∷ after
  pub are : now ≡ record old { tables = before ++ next ∷ after }
  pub types : next.types ≡ table.types
  pub changed : change table.events next.events

-- a row was put along the span of the route, and so many of its facts are new
abbrev pub InsertsRow : ℕ → Kind → ℕ → Stretch → ℕ → Contents → Contents → Type 0
InsertsRow place kind route span count old now =
    ChangesTableAt place (Inserts kind old.directory.accepted (old.directory.accepted + 1) route span count) old now

-- the rows that go were taken away between two thousandths of the route, so many facts
abbrev pub RemovesRows : ℕ → ℕ → ℕ → ℕ → Option Condition → ℕ → Contents → Contents → Type 0
RemovesRows place route lo hi goes count old now =
    ChangesTableAt place (Removes old.directory.accepted (old.directory.accepted + 1) route lo hi goes count) old now

-- ---- referents

-- the referent of this name on the route lives from the next version on
abbrev pub living_referent : ℕ → ℕ → List ℕ → ℕ → ReferentRecord
living_referent version route name measure = record { route = route; name = name; measure = measure; born = version; died = LIVING }

abbrev pub PutsReferent : ℕ → List ℕ → ℕ → Contents → Contents → Type 0
PutsReferent route name measure old now =
    ChangesReferents (HasOneMore (living_referent (old.directory.accepted + 1) route name measure)) old now

abbrev pub EndsReferent : ℕ → List ℕ → Contents → Contents → Type 0
EndsReferent route name old now = ChangesReferents (λ were are. (found : Bool) × EndsNamed (old.directory.accepted + 1) route name found were are) old now

-- it has ended and lives at another measure
abbrev pub MovesReferent : ℕ → List ℕ → ℕ → Contents → Contents → Type 0
MovesReferent route name measure old now = (between : Contents) × EndsReferent route name old between × PutsReferent route name measure between now

-- the living referents of the route have all ended, one after another
abbrev pub EndAll : ℕ → List ReferentRecord → List ReferentRecord → List ReferentRecord → Type 0
EndAll version [] old now = now ≡ old
EndAll version (one ∷ gone) old now = (next : List ReferentRecord) × HasEnded kept_referents version one old next × EndAll version gone next now

pub record EndsAllOn (version route : ℕ) (old now : List ReferentRecord) : Type 0 where
  pub gone : List ReferentRecord
  pub are_on : (one : ReferentRecord) → Contains gone one → (one.route ≡ route) × (one.died ≡ LIVING)
  pub ended : EndAll version gone old now
  pub none_left : (one : ReferentRecord) → Contains now one → one.route ≡ route → one.died ≢ LIVING

-- ---- definitions

-- the route's referents have ended, and the definitions are others
abbrev pub DropsRoute : ℕ → CatalogueItems → Contents → Contents → Type 0
DropsRoute route definitions old now = (between : Contents) × ChangesReferents (EndsAllOn (old.directory.accepted + 1) route) old between
    × ChangesDefinitions definitions between now

-- ---- tables and indexes, with the definitions that name them

-- a table of these columns without events and indexes has come at the place
pub record PutsTable (place : ℕ) (types : List ColumnType) (definitions : CatalogueItems) (old now : Contents) : Type 0 where
  pub before : List TableContents
  pub table : TableContents
  pub after : List TableContents
  pub long : length before ≡ place
  pub were : old.tables ≡ before ++ after
  pub are : now.tables ≡ before ++ table ∷ after
  pub types_are : table.types ≡ types
  pub no_events : table.events ≡ []
  pub no_indexes : table.indexes ≡ []
  pub definitions_are : now.definitions ≡ definitions
  pub rest : now ≡ record old { definitions = now.definitions; pages = now.pages; tables = now.tables }

-- the table at the place has gone with its indexes
pub record TakesTable (place : ℕ) (definitions : CatalogueItems) (old now : Contents) : Type 0 where
  pub before : List TableContents
  pub table : TableContents
  pub after : List TableContents
  pub long : length before ≡ place
  pub were : old.tables ≡ before ++ table ∷ after
  pub are : now.tables ≡ before ++ after
  pub definitions_are : now.definitions ≡ definitions
  pub rest : now ≡ record old { definitions = now.definitions; pages = now.pages; tables = now.tables }

-- the table at the place has other indexes, and the same events
pub record ChangesIndexes (place : ℕ) (definitions : CatalogueItems) (old now : Contents) : Type 0 where
  pub before : List TableContents
  pub table : TableContents
  pub next : TableContents
  pub after : List TableContents
  pub long : length before ≡ place
  pub were : old.tables ≡ before ++ table ∷ after
  pub are : now.tables ≡ before ++ next ∷ after
  pub types : next.types ≡ table.types
  pub events : next.events ≡ table.events
  pub definitions_are : now.definitions ≡ definitions
  pub rest : now ≡ record old { definitions = now.definitions; pages = now.pages; tables = now.tables }
