-- A file holds one thing at the most.
use Rattle.std.proofs.Common.{◌≡◌, ℕ, Option, Some, None, List, [], ◌∷◌, ◌==◌, filter, refl, sym, ap, subst, ◌∙◌, arith}
use Rattle.std.specs.List.{AllByRecursion, AllZip}
use Rattle.rs_attr.specs.Entries.{Field, HoldsIndex, IsColumn}
use Rattle.rs_attr.specs.Tables.{HoldIndexes, IndexState, all_of}
use Rattle.rs_attr.proofs.Indexes.{index_pages}
use Rattle.rs_attr.proofs.Placing.{all_of-cons}
use Rattle.rs_catalog_pages.specs.Directory.{DirectoryItems, TreeItem}
use Rattle.rs_catalog_pages.specs.Items.{CatalogueItems, IndexItem, SaysCatalogue, TableItem}
use Rattle.rs_catalog_pages.proofs.Chains.{holds_bytes, holds_pages, says_one}
use Rattle.rs_catalog_pages.proofs.Directories.{directory_is_one}
use Rattle.rs_file.specs.Contents.{Contents, HoldsAll, IsIndex, IsTable, LiesTable, SameContents, SameTable, TableContents, index_roots, item_of, no_tree}
use Rattle.rs_pages.specs.PageMap.{PageMap}
use Rattle.rs_tree.specs.Tree.{IsTree}
use Rattle.rs_tree.proofs.Ones.{tree_has_its_pages}
use Rattle.rs_value.specs.declared.column.ColumnType.{ColumnType}
use Rattle.rs_value.specs.declared.column.ColumnType.TheVariants as types
use Rattle.rs_versioned.specs.Events.{kept_events}
use Rattle.rs_versioned.specs.Records.{HoldsRecords, Kept}
use Rattle.rs_versioned.specs.Referents.{kept_referents}
use Rattle.rs_versioned.proofs.KeptRecords.{events_are_kept}
use Rattle.rs_versioned.proofs.KeptReferents.{referents_are_kept}
use Rattle.rs_versioned.proofs.Staying.{held_one}
use Rattle.rs_attr.specs.Versioned.{Standing}

-- what is there, where it is known that something is
abbrev pub or_else : {A : Type 0} → A → Option A → A
or_else other None = other
or_else other (Some one) = one

-- records at one root have the same pages
pub records_pages : {R : Type 0} (kept : Kept R) (file : PageMap) (stands lies : Standing) (accepted : ℕ) (one other : List R) (used uses : ℕ → ℕ) → stands.root ≡ lies.root
    → HoldsRecords kept file stands accepted one used → HoldsRecords kept file lies accepted other uses → (n : ℕ) → used n ≡ uses n
records_pages kept file stands lies accepted one other used uses root holds has =
    tree_has_its_pages kept.form file lies.root holds.cells has.cells used uses (subst (λ (r : ℕ). IsTree kept.form file r holds.cells used) root holds.holds.tree) has.holds.tree

make_field : ColumnType → ℕ → ℕ → Field
make_field column start width = record { column = column; start = start; cell_width = width }

module _ (file : PageMap) (accepted : ℕ) (directory : DirectoryItems) where
  -- the index of a column has one field and one root
  pub field_one : (columns : List ColumnType) (column : ℕ) (f g : Field) → IsColumn columns column f → IsColumn columns column g → f ≡ g
  unfolding make_field
  field_one columns column f g a b =
      let same : f.column ≡ g.column = ap (or_else types.Int) (sym a.type ∙ b.type) in
      ap (λ (c : ColumnType). make_field c f.start f.cell_width) same
      ∙ ap (λ (s : ℕ). make_field g.column s f.cell_width) (a.start ∙ sym b.start)
      ∙ ap (λ (w : ℕ). make_field g.column g.start w) (a.cell_width ∙ sym b.cell_width)

  -- and the same pages
  record SameIndexes (is js : List IndexState) (us vs : List (ℕ → ℕ)) : Type 0 where
    indexes : index_roots is ≡ index_roots js
    pages : (n : ℕ) → all_of us n ≡ all_of vs n

  indexes_one : (columns : List ColumnType) (items : List IndexItem) (is js : List IndexState) (cells others : List (List ℕ)) (us vs : List (ℕ → ℕ))
      → AllZip (IsIndex columns directory) items is → AllZip (IsIndex columns directory) items js → HoldIndexes file is cells us → HoldIndexes file js others vs → SameIndexes is js us vs
  indexes_one columns [] [] [] cells others [] [] a b x y = record { indexes = refl; pages = λ n. refl }
  indexes_one columns [] [] [] cells others (u ∷ us) vs a b x y = absurd x
  indexes_one columns [] [] [] cells others [] (v ∷ vs) a b x y = absurd y
  indexes_one columns [] [] (j ∷ js) cells others us vs a b x y = absurd b
  indexes_one columns [] (i ∷ is) js cells others us vs a b x y = absurd a
  indexes_one columns (item ∷ items) [] js cells others us vs a b x y = absurd a
  indexes_one columns (item ∷ items) (i ∷ is) [] cells others us vs a b x y = absurd b
  indexes_one columns (item ∷ items) (i ∷ is) (j ∷ js) cells others [] vs a b x y = absurd x
  indexes_one columns (item ∷ items) (i ∷ is) (j ∷ js) cells others (u ∷ us) [] a b x y = absurd y
  indexes_one columns (item ∷ items) (i ∷ is) (j ∷ js) cells others (u ∷ us) (v ∷ vs) a b x y =
      let field : i.field ≡ j.field = field_one columns item.column i.field j.field a.0.column b.0.column in
      let root : i.working ≡ j.working = ap (or_else 0) (sym a.0.root ∙ b.0.root) in
      let rest = indexes_one columns items is js cells others us vs a.1 b.1 x.1 y.1 in
      let here = subst (λ (r : ℕ). HoldsIndex j.field file r cells u) root (subst (λ (f : Field). HoldsIndex f file i.working cells u) field x.0) in
      record {
        indexes = ap (λ (f : Field). (f, i.working) ∷ index_roots is) field
            ∙ ap (λ (r : ℕ). (j.field, r) ∷ index_roots is) root
            ∙ ap (λ (l : List (Field × ℕ)). (j.field, j.working) ∷ l) rest.indexes;
        pages = λ n. omega (arith, all_of-cons u us n, all_of-cons v vs n, rest.pages n, index_pages j.field file j.working cells others u v here y.0 n);
      }

  -- tables of the same definition are the same
  pub table_one : (items : List IndexItem) (item : TableItem) (one other : TableContents) → IsTable directory items item one → IsTable directory items item other
      → LiesTable file accepted one → LiesTable file accepted other → SameTable one other
  table_one items item one other is are lies lie =
      let same : one.types ≡ other.types = is.types ∙ sym are.types in
      let stands : item_of one.standing ≡ item_of other.standing = ap (or_else no_tree) (sym is.stands ∙ are.stands) in
      let root : one.standing.root ≡ other.standing.root = ap (λ (i : TreeItem). i.root) stands in
      let records = subst (λ (ts : List ColumnType). HoldsRecords (kept_events ts) file one.standing accepted one.events one.used) same lies.records in
      let said = subst (λ (ts : List ColumnType). AllZip (IsIndex ts directory) (filter (λ (index : IndexItem). index.table == item.number) items) one.indexes) same is.indexes in
      let indexes = indexes_one other.types (filter (λ (index : IndexItem). index.table == item.number) items) one.indexes other.indexes lies.records.cells lie.records.cells one.uses other.uses said are.indexes lies.entries lie.entries in
      record {
        types = same;
        events = held_one (kept_events other.types) (events_are_kept other.types) file one.standing other.standing accepted accepted one.events other.events one.used other.used root records lie.records;
        stands = stands;
        indexes = indexes.indexes;
        pages = λ n. omega (arith, records_pages (kept_events other.types) file one.standing other.standing accepted one.events other.events one.used other.used root records lie.records n, indexes.pages n);
      }

  pub tables_one : (items : List IndexItem) (definitions : List TableItem) (one other : List TableContents) → AllZip (IsTable directory items) definitions one → AllZip (IsTable directory items) definitions other
      → AllByRecursion (LiesTable file accepted) one → AllByRecursion (LiesTable file accepted) other → AllZip SameTable one other
  tables_one items [] [] [] is are lies lie = tt
  tables_one items [] [] (p ∷ ps) is are lies lie = absurd are
  tables_one items [] (o ∷ os) other is are lies lie = absurd is
  tables_one items (d ∷ ds) [] other is are lies lie = absurd is
  tables_one items (d ∷ ds) (o ∷ os) [] is are lies lie = absurd are
  tables_one items (d ∷ ds) (o ∷ os) (p ∷ ps) is are lies lie = (table_one items d o p is.0 are.0 lies.0 lie.0, tables_one items ds os ps is.1 are.1 lies.1 lie.1)

pub one_thing : (file : PageMap) (one other : Contents) → HoldsAll file one → HoldsAll file other → SameContents one other
one_thing file one other holds has =
    let a = holds.parts.definitions in
    let b = has.parts.definitions in
    let bytes : a.bytes ≡ b.bytes = holds_bytes file one.pages other.pages a.bytes b.bytes a.holds b.holds in
    let definitions : one.definitions ≡ other.definitions = says_one b.bytes one.definitions other.definitions (subst (λ bs. SaysCatalogue bs one.definitions) bytes a.says) b.says in
    let directory : one.directory ≡ other.directory = directory_is_one file one.directory other.directory holds.directory has.directory in
    let said = subst (λ (d : CatalogueItems). AllZip (IsTable other.directory d.indexes) d.tables one.tables) definitions
    (subst (λ (d : DirectoryItems). AllZip (IsTable d one.definitions.indexes) one.definitions.tables one.tables) directory holds.said.tables) in
    let lie = subst (λ (d : DirectoryItems). AllByRecursion (LiesTable file d.accepted) one.tables) directory holds.parts.tables in
    let referents = subst (λ (d : DirectoryItems). HoldsRecords kept_referents file one.referents.standing d.accepted one.referents.referents one.referents.used) directory holds.parts.referents in
    let stands : item_of one.referents.standing ≡ item_of other.referents.standing = sym holds.said.referents ∙ ap (λ (d : DirectoryItems). d.referents) directory ∙ has.said.referents in
    let root : one.referents.standing.root ≡ other.referents.standing.root = ap (λ (i : TreeItem). i.root) stands in
    record {
      definitions = definitions;
      pages = holds_pages file one.pages other.pages a.bytes b.bytes a.holds b.holds;
      directory = directory;
      tables = tables_one file other.directory.accepted other.directory other.definitions.indexes other.definitions.tables one.tables other.tables said has.said.tables lie has.parts.tables;
      referents = held_one kept_referents referents_are_kept file one.referents.standing other.referents.standing other.directory.accepted other.directory.accepted one.referents.referents
          other.referents.referents one.referents.used other.referents.used root referents has.parts.referents;
      referents_stand = stands;
      referents_pages = records_pages kept_referents file one.referents.standing other.referents.standing other.directory.accepted one.referents.referents other.referents.referents one.referents.used
          other.referents.used root referents has.parts.referents;
    }
