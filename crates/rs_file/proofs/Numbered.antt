-- Numbers of stored tables and indexes, and of what they say.
use Rattle.std.proofs.Common.{◌≡◌, ◌<◌, ◌≤◌, ℕ, Some, List, map, slice_get, sym, ap, subst, ◌∙◌}
use Rattle.std.specs.List.{AllByRecursion}
use Rattle.std.proofs.lemmas.Simd.{map-map}
use Rattle.rs_catalog_pages.specs.Items.{IndexItem, TableItem}
use Rattle.rs_catalog_pages.specs.Said.{said_catalogue, said_directory, said_index, said_table, said_tree}
use Rattle.rs_catalog_pages.specs.declared.directory_items.StoredDirectory.{StoredDirectory}
use Rattle.rs_catalog_pages.specs.declared.directory_items.StoredRoot.{StoredRoot}
use Rattle.rs_catalog_pages.specs.declared.directory_items.StoredTree.{StoredTree}
use Rattle.rs_catalog_pages.specs.declared.items.StoredCatalogue.{StoredCatalogue}
use Rattle.rs_catalog_pages.specs.declared.items.StoredIndex.{StoredIndex}
use Rattle.rs_catalog_pages.specs.declared.items.StoredTable.{StoredTable}
use Rattle.rs_file.specs.Contents.{AreNumbered, index_numbers, no_tree, table_numbers}
use Rattle.rs_file.proofs.Numbering.{AreOnce, each_said, said_each}
use Rattle.rs_page_owners.specs.Counts.{times}

-- of stored tables, indexes, trees and roots
abbrev of_tables : List StoredTable → List ℕ
of_tables = map (λ (table : StoredTable). table.number)

abbrev of_indexes : List StoredIndex → List ℕ
of_indexes = map (λ (index : StoredIndex). index.number)

abbrev pub TablesNumbered : List StoredTable → Type 0
TablesNumbered tables = AreOnce (λ (table : StoredTable). table.number) 128 tables

abbrev pub IndexesNumbered : List StoredTable → List StoredIndex → Type 0
IndexesNumbered tables indexes =
    AllByRecursion (λ (index : StoredIndex). index.number < 64) indexes × ((number : ℕ) → times (of_indexes indexes) number ≤ 1)
    × AllByRecursion (λ (index : StoredIndex). 0 < times (of_tables tables) index.table) indexes

abbrev pub NoOtherTree : List StoredTable → List StoredTree → Type 0
NoOtherTree tables trees = (number : ℕ) → number < 128 → times (of_tables tables) number ≡ 0 → slice_get (map said_tree trees) number ≡ Some no_tree

abbrev pub NoOtherRoot : List StoredIndex → List StoredRoot → Type 0
NoOtherRoot indexes roots = (number : ℕ) → number < 64 → times (of_indexes indexes) number ≡ 0
    → slice_get (map (λ (root : StoredRoot). root.root) roots) number ≡ Some 0

-- a fact of two lists, at the lists that they are
pub of_both : {A B : Type 0} (P : A → B → Type 0) (a b : A) (x y : B) → a ≡ b → x ≡ y → P a x → P b y
of_both P a b x y same alike fact = subst (P b) alike (subst (λ c. P c x) same fact)

-- the numbers are those of what is said
said_tables : (catalogue : StoredCatalogue) → table_numbers (said_catalogue catalogue) ≡ of_tables catalogue.tables.items
said_tables catalogue = map-map (λ (table : TableItem). table.number) said_table catalogue.tables.items

said_indexes : (catalogue : StoredCatalogue) → index_numbers (said_catalogue catalogue) ≡ of_indexes catalogue.indexes.items
said_indexes catalogue = map-map (λ (index : IndexItem). index.number) said_index catalogue.indexes.items

-- what is said is numbered where what is stored is
pub said_numbered : (catalogue : StoredCatalogue) (directory : StoredDirectory) → TablesNumbered catalogue.tables.items
    → IndexesNumbered catalogue.tables.items catalogue.indexes.items → NoOtherTree catalogue.tables.items directory.tables.list.items
    → NoOtherRoot catalogue.indexes.items directory.indexes.list.items → AreNumbered (said_catalogue catalogue) (said_directory directory)
said_numbered catalogue directory tables indexes trees roots = record {
  given = record {
    tables_below = each_said said_table (λ (table : TableItem). table.number < 128) catalogue.tables.items tables.0;
    tables_once = λ n. subst (λ numbers. times numbers n ≤ 1) (sym (said_tables catalogue)) (tables.1 n);
    indexes_below = each_said said_index (λ (index : IndexItem). index.number < 64) catalogue.indexes.items indexes.0;
    indexes_once = λ n. subst (λ numbers. times numbers n ≤ 1) (sym (said_indexes catalogue)) (indexes.1 n);
    of_tables = each_said said_index (λ (index : IndexItem). 0 < times (table_numbers (said_catalogue catalogue)) index.table) catalogue.indexes.items
        (subst (λ numbers. AllByRecursion (λ (index : StoredIndex). 0 < times numbers index.table) catalogue.indexes.items) (sym (said_tables catalogue)) indexes.2);
  };
  no_table = λ n below none. trees n below (ap (λ numbers. times numbers n) (sym (said_tables catalogue)) ∙ none);
  no_index = λ n below none. roots n below (ap (λ numbers. times numbers n) (sym (said_indexes catalogue)) ∙ none);
}

-- and only there
pub tables_numbered : (catalogue : StoredCatalogue) (directory : StoredDirectory) → AreNumbered (said_catalogue catalogue) (said_directory directory)
    → TablesNumbered catalogue.tables.items
tables_numbered catalogue directory numbered = (
  said_each said_table (λ (table : TableItem). table.number < 128) catalogue.tables.items numbered.given.tables_below,
  λ n. subst (λ numbers. times numbers n ≤ 1) (said_tables catalogue) (numbered.given.tables_once n),
)

pub indexes_numbered : (catalogue : StoredCatalogue) (directory : StoredDirectory) → AreNumbered (said_catalogue catalogue) (said_directory directory)
    → IndexesNumbered catalogue.tables.items catalogue.indexes.items
indexes_numbered catalogue directory numbered = (
  said_each said_index (λ (index : IndexItem). index.number < 64) catalogue.indexes.items numbered.given.indexes_below,
  λ n. subst (λ numbers. times numbers n ≤ 1) (said_indexes catalogue) (numbered.given.indexes_once n),
  subst (λ numbers. AllByRecursion (λ (index : StoredIndex). 0 < times numbers index.table) catalogue.indexes.items) (said_tables catalogue)
      (said_each said_index (λ (index : IndexItem). 0 < times (table_numbers (said_catalogue catalogue)) index.table) catalogue.indexes.items numbered.given.of_tables),
)

pub no_other_tree : (catalogue : StoredCatalogue) (directory : StoredDirectory) → AreNumbered (said_catalogue catalogue) (said_directory directory)
    → NoOtherTree catalogue.tables.items directory.tables.list.items
no_other_tree catalogue directory numbered = λ n below none. numbered.no_table n below (ap (λ numbers. times numbers n) (said_tables catalogue) ∙ none)

pub no_other_root : (catalogue : StoredCatalogue) (directory : StoredDirectory) → AreNumbered (said_catalogue catalogue) (said_directory directory)
    → NoOtherRoot catalogue.indexes.items directory.indexes.list.items
no_other_root catalogue directory numbered = λ n below none. numbered.no_index n below (ap (λ numbers. times numbers n) (said_indexes catalogue) ∙ none)
