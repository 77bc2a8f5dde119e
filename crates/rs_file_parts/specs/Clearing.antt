-- What clearing a file's contents takes out.
use Rattle.std.specs.Prelude.{◌≡◌, ◌<◌, ◌+◌, ℕ, List, Some, count_by, length, min, nat_le, slice_get}
use Rattle.std.specs.List.{AllZip, sum_by}
use Rattle.rs_cell_versions.specs.declared.cell.TheConstants.{LIVING}
use Rattle.rs_file.specs.Contents.{Contents, TableContents}
use Rattle.rs_versioned.specs.Events.{Event, kept_events}
use Rattle.rs_versioned.specs.Records.{HasCleared}
use Rattle.rs_versioned.specs.Referents.{ReferentRecord, kept_referents}

-- how many of these no version from the oldest on sees
abbrev pub clearable_events : ℕ → List Event → ℕ
clearable_events oldest events = count_by (λ event. nat_le event.died oldest) events

abbrev pub clearable_referents : ℕ → List ReferentRecord → ℕ
clearable_referents oldest referents = count_by (λ one. nat_le one.died oldest) referents

-- and of all events and referents
abbrev pub clearable : ℕ → Contents → ℕ
clearable oldest contents = sum_by (λ table. clearable_events oldest table.events) contents.tables + clearable_referents oldest contents.referents.referents

-- how many events and referents there are
abbrev pub records_in : Contents → ℕ
records_in contents = sum_by (λ table. length table.events) contents.tables + length contents.referents.referents

-- some events of a table are gone, none of which a version from the oldest on sees
pub record ClearsTable (oldest : ℕ) (was is : TableContents) : Type 0 where
  pub types : is.types ≡ was.types
  pub cells : List (List ℕ)
  pub cleared : HasCleared (kept_events was.types) oldest cells was.events is.events

-- and some referents
pub record ClearsReferents (oldest : ℕ) (was is : List ReferentRecord) : Type 0 where
  pub cells : List (List ℕ)
  pub cleared : HasCleared kept_referents oldest cells was is

-- the definitions and the directory stay, and of the events of each table and of the referents some are gone that no version from
-- the oldest on sees
pub record ClearsParts (oldest : ℕ) (old now : Contents) : Type 0 where
  pub definitions : now.definitions ≡ old.definitions
  pub directory : now.directory ≡ old.directory
  pub tables : AllZip (ClearsTable oldest) old.tables now.tables
  pub referents : ClearsReferents oldest old.referents.referents now.referents.referents

-- so many are gone, which is all of them or as many as were asked for
pub record ClearsAsMany (oldest most gone : ℕ) (old now : Contents) : Type 0 where
  pub parts : ClearsParts oldest old now
  pub many : records_in old ≡ records_in now + gone
  pub as_many : oldest < LIVING → gone ≡ min most (clearable oldest old)

-- the table at this place came first: of its events so many are gone as no version from the oldest on sees, or as many as were asked for
pub record ClearsFirst (oldest most place : ℕ) (old now : Contents) : Type 0 where
  pub first : oldest < LIVING → (was is : TableContents) → slice_get old.tables place ≡ Some was → slice_get now.tables place ≡ Some is
      → length was.events ≡ length is.events + min most (clearable_events oldest was.events)
