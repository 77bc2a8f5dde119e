-- A table that is opened, or that isn't there.
use Rattle.std.proofs.Common.{◌≡◌, ◌==◌, ℕ, Some, List, [], ◌∷◌, filter, map, slice_get, refl, sym, ap, subst, ◌∙◌, arith}
use Rattle.std.specs.List.{AllZip}
use Rattle.rs_attr.specs.Entries.{Field, HoldsIndex}
use Rattle.rs_attr.specs.Opening.{OpensNoTable, OpensTable}
use Rattle.rs_attr.specs.Tables.{AreOn, HoldIndexes, HoldsTable, IndexState}
use Rattle.rs_catalog_pages.specs.Directory.{DirectoryItems, TreeItem}
use Rattle.rs_attr.specs.declared.told.ToldTable.{ToldTable}
use Rattle.rs_catalog_pages.specs.Items.{CatalogueItems, IndexItem, TableItem, kind_of}
use Rattle.rs_attr.specs.ToldRecords.{ToldRecords}
use Rattle.rs_file.specs.Contents.{IsIndex, item_of, no_tree, type_of}
use Rattle.rs_file.specs.Opening.{IsTableOf, OpensNotOne, OpensOne, told_of}
use Rattle.rs_file.specs.declared.opened.OpenedTable.{OpenedTable}
use Rattle.rs_file.proofs.One.{field_one, or_else}
use Rattle.rs_pages.specs.PageMap.{PageMap}
use Rattle.rs_value.specs.declared.column.ColumnType.{ColumnType}
use Rattle.rs_value.specs.declared.column.Kind.{Kind}
use Rattle.rs_versioned.specs.Meant.{AreEventsMeant}
use Rattle.rs_versioned.specs.Opening.{StandsAs}
use Rattle.rs_versioned.specs.declared.route_span.RouteSpan.{RouteSpan}

-- the indexes are of cells of their table's width
pub are_on : (types : List ColumnType) (directory : DirectoryItems) (items : List IndexItem) (indexes : List IndexState) → AllZip (IsIndex types directory) items indexes → AreOn types indexes
are_on types directory [] [] all = tt
are_on types directory [] (i ∷ is) all = absurd all
are_on types directory (item ∷ items) [] all = absurd all
are_on types directory (item ∷ items) (i ∷ is) all = (all.0.column.cell_width, are_on types directory items is all.1)

-- indexes of the same items have the same trees
hold_these : (file : PageMap) (directory : DirectoryItems) (types : List ColumnType) (items : List IndexItem) (is js : List IndexState) (cells : List (List ℕ)) (uses : List (ℕ → ℕ))
    → AllZip (IsIndex types directory) items is → AllZip (IsIndex types directory) items js → HoldIndexes file is cells uses → HoldIndexes file js cells uses
hold_these file directory types [] [] [] cells uses a b hold = hold
hold_these file directory types [] [] (j ∷ js) cells uses a b hold = absurd b
hold_these file directory types [] (i ∷ is) js cells uses a b hold = absurd a
hold_these file directory types (item ∷ items) [] js cells uses a b hold = absurd a
hold_these file directory types (item ∷ items) (i ∷ is) [] cells uses a b hold = absurd b
hold_these file directory types (item ∷ items) (i ∷ is) (j ∷ js) cells [] a b hold = absurd hold
hold_these file directory types (item ∷ items) (i ∷ is) (j ∷ js) cells (u ∷ us) a b hold =
    let field : i.field ≡ j.field = field_one file 0 directory types item.column i.field j.field a.0.column b.0.column in
    let root : i.working ≡ j.working = ap (or_else 0) (sym a.0.root ∙ b.0.root) in (
      subst (λ (r : ℕ). HoldsIndex j.field file r cells u) root (subst (λ (f : Field). HoldsIndex f file i.working cells u) field hold.0),
      hold_these file directory types items is js cells us a.1 b.1 hold.1,
    )

module _ (routes : List RouteSpan) (file : PageMap) (directory : DirectoryItems) (definitions : CatalogueItems) (item : TableItem) (before : ℕ → ℕ) where
  module _ (types : List ColumnType) (are : types ≡ map type_of item.columns) where
    -- no table is there where one of its indexes is none
    pub none_of_indexes : ((states : List IndexState) → AllZip (IsIndex types directory) (filter (λ index. index.table == item.number) definitions.indexes) states → ⊥)
        → OpensNotOne routes file directory definitions item before
    none_of_indexes none = record {
      none = λ table is lies meant fresh.
          none table.indexes (subst (λ (ts : List ColumnType). AllZip (IsIndex ts directory) (filter (λ (index : IndexItem). index.table == item.number) definitions.indexes) table.indexes)
          (is.types ∙ sym are) is.indexes);
    }

    -- nor where none lies there with the indexes of its items
    pub none_of_pages : (tree : TreeItem) (told : ToldTable) (indexes : List IndexState) → slice_get directory.tables item.number ≡ Some tree
        → told.schema.items ≡ types → told.kind ≡ kind_of item.kind → told.records ≡ told_of tree directory.accepted
        → AllZip (IsIndex types directory) (filter (λ index. index.table == item.number) definitions.indexes) indexes
        → OpensNoTable file told indexes routes before → OpensNotOne routes file directory definitions item before
    none_of_pages tree told indexes slot columns kind records of_items missing = record {
      none = λ table is lies meant fresh.
          let same : table.types ≡ told.schema.items = is.types ∙ sym are ∙ sym columns in
          let said : tree ≡ item_of table.standing = ap (or_else no_tree) (sym slot ∙ is.stands) in
          let items = filter (λ (index : IndexItem). index.table == item.number) definitions.indexes in
          let accepted : directory.accepted ≡ told.records.accepted = sym (ap (λ (r : ToldRecords). r.accepted) records) in
          let theirs = subst (λ (ts : List ColumnType). AllZip (IsIndex ts directory) items table.indexes) same is.indexes in
          let ours = subst (λ (ts : List ColumnType). AllZip (IsIndex ts directory) items indexes) (sym columns) of_items in
          let holds = subst (λ (n : ℕ). HoldsTable told.schema.items file table.standing table.indexes n table.events table.used table.uses) accepted
          (subst (λ (ts : List ColumnType). HoldsTable ts file table.standing table.indexes directory.accepted table.events table.used table.uses) same lies) in
          missing.none table.standing table.events table.used table.uses
          (record {
            root = sym (ap (λ (i : TreeItem). i.root) said) ∙ sym (ap (λ (r : ToldRecords). r.root) records);
            living = sym (ap (λ (i : TreeItem). i.living) said) ∙ sym (ap (λ (r : ToldRecords). r.living) records);
            garbage = sym (ap (λ (i : TreeItem). i.garbage) said) ∙ sym (ap (λ (r : ToldRecords). r.garbage) records);
          })
          (record { records = holds.records; entries = hold_these file directory told.schema.items items table.indexes indexes holds.records.cells table.uses theirs ours holds.entries })
          (subst (λ (n : ℕ). AreEventsMeant routes told.kind n table.events) accepted (subst (λ (k : Kind). AreEventsMeant routes k directory.accepted table.events) (sym kind) meant))
          (λ n. omega (arith, fresh n));
    }

  -- where it lies there, it is opened
  pub one_of_pages : (tree : TreeItem) (told : ToldTable) → slice_get directory.tables item.number ≡ Some tree → (opened : OpenedTable) (after : ℕ → ℕ) → IsTableOf directory definitions item opened
      → opened.records.types ≡ told.schema.items → told.kind ≡ kind_of item.kind → told.records ≡ told_of tree directory.accepted
      → OpensTable file told opened.records.working opened.indexes.items routes before after → OpensOne routes file directory definitions item opened before after
  one_of_pages tree told slot opened after of columns kind records opens =
      let accepted : told.records.accepted ≡ directory.accepted = ap (λ (r : ToldRecords). r.accepted) records in
      let as_told : StandsAs (told_of tree directory.accepted) opened.records.working = subst (λ (r : ToldRecords). StandsAs r opened.records.working) records opens.as_told in
      record {
        table = record { types = opened.records.types; standing = opened.records.working; indexes = opened.indexes.items; events = opens.events; used = opens.used; uses = opens.uses };
        is = record {
          few = of.few;
          types = of.types;
          fits = of.fits;
          stands = slot ∙ ap Some (λ i. record { root = sym as_told.root i; living = sym as_told.living i; garbage = sym as_told.garbage i });
          indexes = of.indexes;
        };
        lies = subst (λ (n : ℕ). HoldsTable opened.records.types file opened.records.working opened.indexes.items n opens.events opens.used opens.uses) accepted
            (subst (λ (ts : List ColumnType). HoldsTable ts file opened.records.working opened.indexes.items told.records.accepted opens.events opens.used opens.uses) (sym columns) opens.holds);
        meant = subst (λ (n : ℕ). AreEventsMeant routes (kind_of item.kind) n opens.events) accepted (subst (λ (k : Kind). AreEventsMeant routes k told.records.accepted opens.events) kind opens.meant);
        as_opened = record { types = refl; stands = refl; indexes = refl };
        reached = opens.reached;
      }
