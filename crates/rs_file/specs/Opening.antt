-- What opening a file answers. Pages are told by how often they were reached before and after it.
use Rattle.std.specs.Prelude.{◌≡◌, ◌≤◌, ◌<◌, ◌+◌, ◌*◌, ◌^◌, ◌==◌, ℕ, List, false, filter, length, map, replicate}
use Rattle.std.specs.List.{AllByRecursion, AllZip}
use Rattle.rs_page.specs.declared.header.TheConstants.{PAGE_ROOM}
use Rattle.rs_attr.specs.Tables.{all_of}
use Rattle.rs_catalog_pages.specs.Directory.{DirectoryItems, HasDirectory, TreeItem}
use Rattle.rs_catalog_pages.specs.Fitting.{FitsCatalogue}
use Rattle.rs_catalog_pages.specs.Items.{CatalogueItems, TableItem}
use Rattle.rs_catalog_pages.specs.Loading.{LoadsCatalogue}
use Rattle.rs_catalog_pages.specs.Said.{said_catalogue}
use Rattle.rs_file.specs.Contents.{AreNumbered, Contents, HoldsAll, IsIndex, IsTable, LiesTable, TableContents, table_pages, type_of}
use Rattle.rs_file.specs.FreePages.{ReachesFree}
use Rattle.rs_file.specs.Meant.{HasMeantRecords, AreRecordsMeantOn, IsTableMeant}
use Rattle.rs_file.specs.declared.opened.OpenedFile.{OpenedFile}
use Rattle.rs_file.specs.declared.opened.OpenedTable.{OpenedTable}
use Rattle.rs_page_owners.specs.Counts.{◌&◌, one_at, times}
use Rattle.rs_pages.specs.PageMap.{PageMap}
use Rattle.rs_page_marks.specs.Marks.{taken}
use Rattle.rs_value.specs.declared.column.TheConstants.{COLUMNS}
use Rattle.rs_attr.specs.ToldRecords.{ToldRecords}
use Rattle.rs_versioned.specs.Events.{event_width}
use Rattle.rs_versioned.specs.Meant.{AreReferentsMeant}
use Rattle.rs_versioned.specs.declared.route_span.RouteSpan.{RouteSpan}
use Rattle.rs_versioned.specs.Opening.{OpensRecords}
use Rattle.rs_versioned.specs.Referents.{kept_referents}
use Rattle.rs_versioned.specs.Tables.{ReferentTableState}
use Rattle.rs_attr.specs.Version.{died_of}

-- what the directory says of a tree of records, with the version that was accepted last
abbrev pub told_of : TreeItem → ℕ → ToldRecords
told_of tree accepted = record { root = tree.root; living = tree.living; garbage = tree.garbage; accepted = accepted }

-- the table and its indexes are those of the contents
pub record IsOpened (opened : OpenedTable) (table : TableContents) : Type 0 where
  pub types : opened.records.types ≡ table.types
  pub stands : opened.records.working ≡ table.standing
  pub indexes : opened.indexes.items ≡ table.indexes

-- whatever the pages are: the table has the columns of its item, three entries of its tree fit a page, its indexes are those of
-- its number, and nothing has changed since the last commit
pub record IsTableOf (directory : DirectoryItems) (definitions : CatalogueItems) (item : TableItem) (opened : OpenedTable) : Type 0 where
  pub few : length item.columns ≤ COLUMNS
  pub types : opened.records.types ≡ map type_of item.columns
  pub fits : 3 * (8 + event_width opened.records.types) ≤ PAGE_ROOM
  pub indexes : AllZip (IsIndex opened.records.types directory) (filter (λ index. index.table == item.number) definitions.indexes) opened.indexes.items
  pub committed : opened.records.committed ≡ opened.records.working
  pub indexes_committed : AllByRecursion (λ index. index.committed ≡ index.working) opened.indexes.items
  pub order : AllByRecursion (λ dead. died_of dead ≤ directory.accepted) opened.records.working.dead

-- the table lies there as its item and the directory say, it is meant beside these routes, and each of its pages and of its
-- indexes' was reached once more
pub record OpensOne (routes : List RouteSpan) (map : PageMap) (directory : DirectoryItems) (definitions : CatalogueItems) (item : TableItem) (opened : OpenedTable) (before after : ℕ → ℕ) : Type 0 where
  pub table : TableContents
  pub is : IsTable directory definitions.indexes item table
  pub lies : LiesTable map directory.accepted table
  pub meant : IsTableMeant routes directory.accepted item table
  pub as_opened : IsOpened opened table
  pub reached : (number : ℕ) → after number ≡ (before & table_pages table) number

-- no table that is meant lies there as the item and the directory say, in pages that weren't reached before
pub record OpensNotOne (routes : List RouteSpan) (map : PageMap) (directory : DirectoryItems) (definitions : CatalogueItems) (item : TableItem) (before : ℕ → ℕ) : Type 0 where
  pub none : (table : TableContents) → IsTable directory definitions.indexes item table → LiesTable map directory.accepted table
      → IsTableMeant routes directory.accepted item table → ((number : ℕ) → (before & table_pages table) number ≤ 1) → ⊥

-- the tables lie there as these items and the directory say, they are meant, and each of their pages was reached once more
pub record OpensTables (routes : List RouteSpan) (file : PageMap) (directory : DirectoryItems) (definitions : CatalogueItems) (items : List TableItem) (opened : List OpenedTable) (before after : ℕ → ℕ) : Type 0 where
  pub tables : List TableContents
  pub are : AllZip (IsTable directory definitions.indexes) items tables
  pub lie : AllByRecursion (LiesTable file directory.accepted) tables
  pub meant : AllZip (IsTableMeant routes directory.accepted) items tables
  pub as_opened : AllZip IsOpened opened tables
  pub reached : (number : ℕ) → after number ≡ (before & all_of (map table_pages tables)) number

-- no tables that are meant lie there as the definitions and the directory say, in pages that weren't reached before
pub record OpensNoTables (routes : List RouteSpan) (file : PageMap) (directory : DirectoryItems) (definitions : CatalogueItems) (before : ℕ → ℕ) : Type 0 where
  pub none : (tables : List TableContents) → AllZip (IsTable directory definitions.indexes) definitions.tables tables
      → AllByRecursion (LiesTable file directory.accepted) tables → AllZip (IsTableMeant routes directory.accepted) definitions.tables tables
      → ((number : ℕ) → (before & all_of (map table_pages tables)) number ≤ 1) → ⊥

-- the tables, the referents and the free pages lie there as the definitions and the directory say, and each of their pages was
-- reached once more
pub record OpensParts (routes : List RouteSpan) (map : PageMap) (directory : DirectoryItems) (definitions : CatalogueItems) (opened : List OpenedTable) (state : ReferentTableState) (before after : ℕ → ℕ) : Type 0 where
  pub with_tables : ℕ → ℕ
  pub with_referents : ℕ → ℕ
  pub tables : OpensTables routes map directory definitions definitions.tables opened before with_tables
  pub referents : OpensRecords kept_referents map (told_of directory.referents directory.accepted) (AreReferentsMeant routes directory.accepted) state.working with_tables with_referents
  pub free : ReachesFree map with_referents after

-- the numbers past the last page, page 0, the directory, and these pages
abbrev pub reached_first : PageMap → List ℕ → ℕ → ℕ
reached_first map pages = taken (replicate map.fields.pages false) & (one_at 0 & (one_at 1 & times pages))

-- no contents with these definitions and this directory are there whose records are meant, where just the pages of the definitions were reached before
pub record OpensNoParts (routes : List RouteSpan) (map : PageMap) (directory : DirectoryItems) (definitions : CatalogueItems) (before : ℕ → ℕ) : Type 0 where
  pub none : (contents : Contents) → contents.directory ≡ directory → contents.definitions ≡ definitions
      → ((number : ℕ) → before number ≡ reached_first map contents.pages number) → HoldsAll map contents → AreRecordsMeantOn routes contents → ⊥

-- whatever the pages are: the definitions and the directory fit one another
pub record AreSound (definitions : CatalogueItems) (directory : DirectoryItems) : Type 0 where
  pub fits : FitsCatalogue definitions
  pub numbered : AreNumbered definitions directory
  pub limit : directory.accepted < 2 ^ 63
  pub routes : AllByRecursion (λ route. route.born ≤ directory.accepted) definitions.routes

-- the directory and the definitions are there, and the pages of the definitions were each reached once more
pub record LoadsSaid (map : PageMap) (pages : List ℕ) (definitions : CatalogueItems) (directory : DirectoryItems) (before after : ℕ → ℕ) : Type 0 where
  pub has : HasDirectory map directory
  pub loads : LoadsCatalogue map before after pages definitions

-- no contents whose records are meant are there, whose definitions lie in pages that weren't reached before
pub record LoadsNothingSaid (map : PageMap) (before : ℕ → ℕ) : Type 0 where
  pub none : (contents : Contents) → ((number : ℕ) → (before & times contents.pages) number ≤ 1) → HoldsAll map contents → HasMeantRecords contents → ⊥

-- the file holds these contents, opened, whose records are meant
pub record LoadsContents (map : PageMap) (file : OpenedFile) : Type 0 where
  pub contents : Contents
  pub holds : HoldsAll map contents
  pub meant : HasMeantRecords contents
  pub definitions : contents.definitions ≡ said_catalogue file.definitions
  pub pages : contents.pages ≡ file.pages.items
  pub tables : AllZip IsOpened file.tables.items contents.tables
  pub referents : contents.referents.standing ≡ file.referents.working
  pub accepted : contents.directory.accepted ≡ file.accepted

-- whatever the pages are: there is a directory that the definitions fit, the tables are theirs, and nothing has changed since the
-- last commit
pub record IsFile (file : OpenedFile) : Type 0 where
  pub directory : DirectoryItems
  pub accepted : directory.accepted ≡ file.accepted
  pub sound : AreSound (said_catalogue file.definitions) directory
  pub tables : AllZip (IsTableOf directory (said_catalogue file.definitions)) (said_catalogue file.definitions).tables file.tables.items
  pub committed : file.referents.committed ≡ file.referents.working
  pub order : AllByRecursion (λ dead. died_of dead ≤ file.accepted) file.referents.working.dead

-- the file holds no contents whose records are meant
pub record HoldsNothing (map : PageMap) : Type 0 where
  pub none : (contents : Contents) → HoldsAll map contents → HasMeantRecords contents → ⊥
