-- Definitions of a catalogue at rest that are written anew, without a table or an index, as a file is to take them.
use Rattle.std.proofs.Common.{◌≡◌, ◌≤◌, ◌<◌, ◌+◌, ◌∙◌, subst, sym, arith}
use Rattle.std.specs.List.{AllByRecursion}
use Rattle.rs_catalog.specs.Changes as changes
use Rattle.rs_catalog.specs.Definitions.{AreDefinitions, Definitions, IndexItem, TableItem}
use Rattle.rs_catalog.proofs.DefinitionLaws.{are_definitions-without_index, are_definitions-without_table}
use Rattle.rs_catalog_pages.specs.Items.{CatalogueItems}
use Rattle.rs_catalog_pages.specs.Said.{said_catalogue}
use Rattle.rs_catalog_pages.specs.declared.items.StoredCatalogue.{StoredCatalogue}
use Rattle.rs_facts.specs.Fact.{Name}
use Rattle.rs_file.specs.Contents.{AreGivenOnce}
use Rattle.rs_file.specs.declared.opened.OpenedFile.{OpenedFile}
use Rattle.rs_machine.specs.declared.limits.TheConstants.{CHANGES}
use Rattle.rs_store.specs.Indexing.{without_index_numbered}
use Rattle.rs_store.specs.Kept.{IsAtRest}
use Rattle.rs_store.specs.Rewriting.{AreNumbersSmall}
use Rattle.rs_store.specs.Tabling.{without_number}
use Rattle.rs_stored_catalog.specs.Listing.{listed_index, listed_table, listing_of}
use Rattle.rs_stored_catalog.specs.Relisting.{HasIndexMore, LosesTable}
use Rattle.rs_store.proofs.Given.{given_once, small_numbers}
use Rattle.rs_store.proofs.Indexed.{index_less}
use Rattle.rs_store.proofs.Settled.{births_listed}
use Rattle.rs_store.proofs.TableLess.{listed_less}

-- they are listed so, each number is given once, and all fit their fields; the routes were born by the next version
pub record AreWritten (file : OpenedFile) (stored : StoredCatalogue) (next : Definitions) : Type 0 where
  pub says : said_catalogue stored ≡ listing_of next
  pub births : AllByRecursion (λ route. route.born ≤ file.accepted + 1) (said_catalogue stored).routes
  pub small : AreNumbersSmall (said_catalogue stored)
  pub given : AreGivenOnce (said_catalogue stored)

written_by : (file : OpenedFile) (stored : StoredCatalogue) (next : Definitions) → file.accepted < CHANGES → AreDefinitions next → said_catalogue stored ≡ listing_of next
    → AllByRecursion (λ route. route.born ≤ file.accepted + 1) (listing_of next).routes → AreWritten file stored next
written_by file stored next room are says births = record {
  says = says;
  births = subst (λ (items : CatalogueItems). AllByRecursion (λ route. route.born ≤ file.accepted + 1) items.routes) (sym says) births;
  small = subst AreNumbersSmall (sym says) (small_numbers next (file.accepted + 1) are births (omega (arith, room)));
  given = subst AreGivenOnce (sym says) (given_once next are);
}

-- all definitions of a catalogue
pub all_written : (file : OpenedFile) (stored : StoredCatalogue) (catalog : Definitions) → file.accepted < CHANGES → AreDefinitions catalog → said_catalogue stored ≡ listing_of catalog
    → AllByRecursion (λ route. route.born ≤ file.accepted + 1) (listing_of catalog).routes → AreWritten file stored catalog
all_written = written_by

module _ (file : OpenedFile) (stored : StoredCatalogue) (catalog : Definitions) (name : Name) (rests : IsAtRest file catalog) (room : file.accepted < CHANGES) (are : AreDefinitions catalog) where
  -- all but a table with its indexes
  pub without_table_written : (one : TableItem) → LosesTable (listed_table (name, one)) (listing_of catalog) (listing_of (changes.without_table catalog name))
      → said_catalogue stored ≡ without_number one.number (listing_of catalog) → AreWritten file stored (changes.without_table catalog name)
  without_table_written one loses said =
      written_by file stored (changes.without_table catalog name) room (are_definitions-without_table catalog name are)
      (said ∙ listed_less (listing_of catalog) (listing_of (changes.without_table catalog name)) (listed_table (name, one)) loses (given_once catalog are).tables_once)
      (births_listed file catalog rests)

  -- all but an index
  pub without_index_written : (one : IndexItem) → HasIndexMore (listed_index (name, one)) (listing_of (changes.without_index catalog name)) (listing_of catalog)
      → said_catalogue stored ≡ without_index_numbered one.number (listing_of catalog) → AreWritten file stored (changes.without_index catalog name)
  without_index_written one more said =
      written_by file stored (changes.without_index catalog name) room (are_definitions-without_index catalog name are)
      (said ∙ index_less (listing_of catalog) (listing_of (changes.without_index catalog name)) (listed_index (name, one)) more (given_once catalog are).indexes_once)
      (births_listed file catalog rests)
