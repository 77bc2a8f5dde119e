-- Definitions with the same tables and indexes leave what is open ready to be changed.
use Rattle.std.proofs.Common.{◌≡◌, ◌<◌, ◌≤◌, List, map, subst, sym}
use Rattle.std.specs.List.{AllByRecursion, AllZip}
use Rattle.rs_catalog_pages.specs.Directory.{DirectoryItems}
use Rattle.rs_catalog_pages.specs.Items.{CatalogueItems, IndexItem, TableItem}
use Rattle.rs_catalog_pages.specs.Said.{said_catalogue}
use Rattle.rs_catalog_pages.specs.declared.directory_items.TheConstants.{INDEXES, TABLES}
use Rattle.rs_file.specs.Contents.{AreGivenOnce, AreNumbered}
use Rattle.rs_file.specs.Slots.{IsIndexOf, IsOfItem, indexes_on}
use Rattle.rs_file.specs.declared.opened.OpenedFile.{OpenedFile}
use Rattle.rs_file.specs.declared.opened.OpenedTable.{OpenedTable}
use Rattle.rs_file_parts.specs.Parts.{IsReady}
use Rattle.rs_file_parts.proofs.Lists.{each_weaker}
use Rattle.rs_page_owners.specs.Counts.{times}

module _ (one other : CatalogueItems) (tables : other.tables ≡ one.tables) (indexes : other.indexes ≡ one.indexes) where
  given_too : AreGivenOnce one → AreGivenOnce other
  given_too given = record {
    tables_below = subst (AllByRecursion (λ (table : TableItem). table.number < TABLES)) (sym tables) given.tables_below;
    tables_once = λ n. subst (λ (ts : List TableItem). times (map (λ table. table.number) ts) n ≤ 1) (sym tables) (given.tables_once n);
    indexes_below = subst (AllByRecursion (λ (index : IndexItem). index.number < INDEXES)) (sym indexes) given.indexes_below;
    indexes_once = λ n. subst (λ (is : List IndexItem). times (map (λ index. index.number) is) n ≤ 1) (sym indexes) (given.indexes_once n);
    of_tables = subst (λ (ts : List TableItem). AllByRecursion (λ index. 0 < times (map (λ table. table.number) ts) index.table) other.indexes) (sym tables)
        (subst (AllByRecursion (λ (index : IndexItem). 0 < times (map (λ table. table.number) one.tables) index.table)) (sym indexes) given.of_tables);
  }

  -- and the directory has nothing under the numbers of others
  pub numbered_too : (directory : DirectoryItems) → AreNumbered one directory → AreNumbered other directory
  numbered_too directory numbered = record {
    given = given_too numbered.given;
    no_table = λ n below none. numbered.no_table n below (subst (λ (ts : List TableItem). times (map (λ table. table.number) ts) n ≡ 0) tables none);
    no_index = λ n below none. numbered.no_index n below (subst (λ (is : List IndexItem). times (map (λ index. index.number) is) n ≡ 0) indexes none);
  }

  of_item_too : (item : TableItem) (opened : OpenedTable) → IsOfItem one item opened → IsOfItem other item opened
  of_item_too item opened of = record {
    few = of.few;
    types = of.types;
    fits = of.fits;
    indexes = subst (λ (is : List IndexItem). AllZip (IsIndexOf opened.records.types) (indexes_on is item.number) opened.indexes.items) (sym indexes) of.indexes;
  }

pub ready_defined : (was is : OpenedFile) → IsReady was → is.tables.items ≡ was.tables.items → (said_catalogue is.definitions).tables ≡ (said_catalogue was.definitions).tables
    → (said_catalogue is.definitions).indexes ≡ (said_catalogue was.definitions).indexes → IsReady is
ready_defined was is ready opened tables indexes =
    let one = said_catalogue was.definitions in
    let other = said_catalogue is.definitions in
    record {
      given = given_too one other tables indexes ready.given;
      tables = subst (λ (os : List OpenedTable). AllZip (IsOfItem other) other.tables os) (sym opened)
          (subst (λ (ts : List TableItem). AllZip (IsOfItem other) ts was.tables.items) (sym tables)
          (each_weaker (IsOfItem one) (IsOfItem other) (of_item_too one other tables indexes) one.tables was.tables.items ready.tables));
    }
