-- The directory says what stood there at the last commit: so it is where nothing has changed since, and it stays so while that stays.
use Rattle.std.proofs.Common.{◌≡◌, ℕ, Some, List, [], ◌∷◌, sym, ap, ◌∙◌, subst}
use Rattle.std.specs.List.{AllByRecursion, AllZip}
use Rattle.rs_attr.specs.Entries.{Field}
use Rattle.rs_attr.specs.Tables.{IndexState, kept_parts}
use Rattle.rs_attr.specs.Versioned.{Standing}
use Rattle.rs_catalog_pages.specs.Directory.{DirectoryItems}
use Rattle.rs_catalog_pages.specs.Items.{IndexItem, TableItem}
use Rattle.rs_catalog_pages.specs.Said.{said_catalogue}
use Rattle.rs_file.specs.Contents.{AreSaid, Contents, IsIndex, IsTable, TableContents, item_of}
use Rattle.rs_file.specs.Opening.{IsOpened}
use Rattle.rs_file.specs.Slots.{indexes_on}
use Rattle.rs_file.specs.declared.opened.OpenedFile.{OpenedFile}
use Rattle.rs_file.specs.declared.opened.OpenedTable.{OpenedTable}
use Rattle.rs_file_parts.specs.Parts.{IsCommitted, IsOpenedFile, IsTableCommitted, KeepsOpened}
use Rattle.rs_file_parts.specs.Slots.{HadRoot, HadRoots, HadSlots, HadTree}
use Rattle.rs_value.specs.declared.column.ColumnType.{ColumnType}

module _ (directory : DirectoryItems) where
  roots_now : (types : List ColumnType) (items : List IndexItem) (indexes : List IndexState) → AllZip (IsIndex types directory) items indexes
      → AllByRecursion (λ (index : IndexState). index.committed ≡ index.working) indexes → AllZip (HadRoot directory.indexes) items indexes
  roots_now types [] [] are same = tt
  roots_now types [] (s ∷ ss) are same = absurd are
  roots_now types (i ∷ is) [] are same = absurd are
  roots_now types (i ∷ is) (s ∷ ss) are same = (are.0.root ∙ ap (λ (r : ℕ). Some r) (sym same.0), roots_now types is ss are.1 same.1)

  table_now : (indexes : List IndexItem) (item : TableItem) (table : TableContents) (opened : OpenedTable) → IsTable directory indexes item table → IsOpened opened table
      → IsTableCommitted opened → HadTree directory.tables item opened × HadRoots indexes directory.indexes item opened
  table_now indexes item table opened is are committed = (
    is.stands ∙ ap (λ (s : Standing). Some (item_of s)) (sym are.stands ∙ sym committed.records),
    roots_now table.types (indexes_on indexes item.number) opened.indexes.items
        (subst (AllZip (IsIndex table.types directory) (indexes_on indexes item.number)) (sym are.indexes) is.indexes) committed.indexes,
  )

  tables_now : (indexes : List IndexItem) (items : List TableItem) (tables : List TableContents) (opened : List OpenedTable) → AllZip (IsTable directory indexes) items tables
      → AllZip IsOpened opened tables → AllByRecursion IsTableCommitted opened → AllZip (HadTree directory.tables) items opened × AllZip (HadRoots indexes directory.indexes) items opened
  tables_now indexes [] [] [] said are committed = (tt, tt)
  tables_now indexes [] [] (o ∷ os) said are committed = absurd are
  tables_now indexes [] (t ∷ ts) opened said are committed = absurd said
  tables_now indexes (item ∷ items) [] opened said are committed = absurd said
  tables_now indexes (item ∷ items) (t ∷ ts) [] said are committed = absurd are
  tables_now indexes (item ∷ items) (t ∷ ts) (o ∷ os) said are committed =
      let one = table_now indexes item t o said.0 are.0 committed.0 in
      let rest = tables_now indexes items ts os said.1 are.1 committed.1 in
      ((one.0, rest.0), (one.1, rest.1))

  roots_kept : (items : List IndexItem) (were are : List IndexState) → kept_parts are ≡ kept_parts were → AllZip (HadRoot directory.indexes) items were → AllZip (HadRoot directory.indexes) items are
  roots_kept [] [] [] same had = tt
  roots_kept [] [] (n ∷ ns) same had = absurd (let wrong = same in cc)
  roots_kept [] (w ∷ ws) are same had = absurd had
  roots_kept (i ∷ is) [] are same had = absurd had
  roots_kept (i ∷ is) (w ∷ ws) [] same had = absurd (let wrong = same in cc)
  roots_kept (i ∷ is) (w ∷ ws) (n ∷ ns) same had =
      let rest : kept_parts ns ≡ kept_parts ws = cc in
      let pair : (n.field, n.committed) ≡ (w.field, w.committed) = cc in
      let first : w.committed ≡ n.committed = sym (ap (λ (p : Field × ℕ). p.1) pair) in
      (had.0 ∙ ap (λ (r : ℕ). Some r) first, roots_kept is ws ns rest had.1)

  tables_kept : (indexes : List IndexItem) (items : List TableItem) (were are : List OpenedTable) → AllZip KeepsOpened were are
      → AllZip (HadTree directory.tables) items were → AllZip (HadRoots indexes directory.indexes) items were
      → AllZip (HadTree directory.tables) items are × AllZip (HadRoots indexes directory.indexes) items are
  tables_kept indexes [] [] [] keeps trees roots = (tt, tt)
  tables_kept indexes [] [] (n ∷ ns) keeps trees roots = absurd keeps
  tables_kept indexes [] (w ∷ ws) are keeps trees roots = absurd trees
  tables_kept indexes (item ∷ items) [] are keeps trees roots = absurd trees
  tables_kept indexes (item ∷ items) (w ∷ ws) [] keeps trees roots = absurd keeps
  tables_kept indexes (item ∷ items) (w ∷ ws) (n ∷ ns) keeps trees roots =
      let rest = tables_kept indexes items ws ns keeps.1 trees.1 roots.1 in (
        (trees.0 ∙ ap (λ (s : Standing). Some (item_of s)) (sym keeps.0.committed), rest.0),
        (roots_kept (indexes_on indexes item.number) w.indexes.items n.indexes.items keeps.0.kept roots.0, rest.1),
      )

-- where nothing has changed since the last commit, the directory of the contents says what stood there then
pub had_now : (contents : Contents) (was : OpenedFile) → IsCommitted was → AreSaid contents → IsOpenedFile was contents → HadSlots was contents.directory
had_now contents was committed said opened =
    let both = tables_now contents.directory (said_catalogue was.definitions).indexes (said_catalogue was.definitions).tables contents.tables was.tables.items
    (subst (λ d. AllZip (IsTable contents.directory d.indexes) d.tables contents.tables) opened.definitions said.tables) opened.tables committed.tables in
    record { trees = both.0; roots = both.1 }

-- it says so of other definitions of the same tables and indexes
pub had_kept : (directory : DirectoryItems) (was is : OpenedFile) → (said_catalogue is.definitions).tables ≡ (said_catalogue was.definitions).tables
    → (said_catalogue is.definitions).indexes ≡ (said_catalogue was.definitions).indexes → AllZip KeepsOpened was.tables.items is.tables.items
    → HadSlots was directory → HadSlots is directory
had_kept directory was is tables indexes keeps had =
    let both = tables_kept directory (said_catalogue was.definitions).indexes (said_catalogue was.definitions).tables was.tables.items is.tables.items keeps had.trees had.roots in
    record {
      trees = subst (λ (items : List TableItem). AllZip (HadTree directory.tables) items is.tables.items) (sym tables) both.0;
      roots = subst (λ (items : List TableItem). AllZip (HadRoots (said_catalogue is.definitions).indexes directory.indexes) items is.tables.items) (sym tables)
          (subst (λ (items : List IndexItem). AllZip (HadRoots items directory.indexes) (said_catalogue was.definitions).tables is.tables.items) (sym indexes) both.1);
    }
