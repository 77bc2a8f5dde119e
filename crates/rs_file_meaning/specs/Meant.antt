-- Which contents of a file are meant: each definition passes the checks and limits of DEFINE, and in each version, from the oldest
-- that is looked at up to the one that was accepted last, records are the runs of facts on routes that are there. Nothing is asked
-- of records that none of these versions sees: those of a dropped route stay, and its number is given again.
use Rattle.std.specs.Prelude.{◌≤◌, ℕ, List}
use Rattle.std.specs.List.{AllZip}
use Rattle.rs_catalog_meaning.specs.Meaning.{AreMeant}
use Rattle.rs_catalog_meaning.specs.Stating.{kind_of}
use Rattle.rs_catalog_pages.specs.Items.{RouteItem, TableItem}
use Rattle.rs_file.specs.Contents.{Contents, TableContents}
use Rattle.rs_versioned.specs.Meant.{AreEventsMeant, AreReferentsMeant}
use Rattle.rs_file_meaning.specs.Seen.{routes_at}

-- the version has just the runs of the table's facts, on routes that it sees
abbrev pub IsTableMeant : List RouteItem → ℕ → TableItem → TableContents → Type 0
IsTableMeant routes version item table = AreEventsMeant (routes_at version routes) (kind_of item.kind) version table.events

-- what the version sees is meant: the events of each table, and the referents
pub record AreRecordsMeant (version : ℕ) (contents : Contents) : Type 0 where
  pub tables : AllZip (IsTableMeant contents.definitions.routes version) contents.definitions.tables contents.tables
  pub referents : AreReferentsMeant (routes_at version contents.definitions.routes) version contents.referents.referents

-- The definitions are meant, and the records from the oldest version on; what views say is asked of the state. Where the oldest
-- version is later than the accepted one, nothing is asked of records.
pub record IsMeant (oldest : ℕ) (contents : Contents) : Type 0 where
  pub definitions : AreMeant contents.definitions
  pub records : (version : ℕ) → oldest ≤ version → version ≤ contents.directory.accepted → AreRecordsMeant version contents
