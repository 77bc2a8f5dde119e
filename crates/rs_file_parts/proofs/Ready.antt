-- What is open can be changed, before a change and after it.
use Rattle.std.proofs.Common.{◌≡◌, List, [], ◌∷◌, refl, sym, ap, ◌∙◌, subst, map}
use Rattle.std.specs.List.{AllByRecursion, AllZip}
use Rattle.rs_attr.specs.Tables.{AreOn, IndexState, kept_parts}
use Rattle.rs_catalog_pages.specs.Items.{CatalogueItems, TableItem}
use Rattle.rs_catalog_pages.specs.Said.{said_catalogue}
use Rattle.rs_cell_versions.specs.Version.{HaveDiedBy}
use Rattle.rs_file.specs.Contents.{AreGivenOnce}
use Rattle.rs_file.proofs.Slotted.{of_items, stays_of_item}
use Rattle.rs_versioned.specs.Events.{event_width}
use Rattle.rs_file.specs.Opening.{IsFile, IsTableOf}
use Rattle.rs_file.specs.Slots.{IsIndexOf, IsOfItem, indexes_on}
use Rattle.rs_file.specs.declared.opened.OpenedFile.{OpenedFile}
use Rattle.rs_file.specs.declared.opened.OpenedTable.{OpenedTable}
use Rattle.rs_file_parts.specs.Parts.{HaveAllDiedBy, IsCommitted, IsReady, IsTableCommitted, KeepsCommitted, KeepsOpened}
use Rattle.rs_file_parts.proofs.Lists.{each_right, each_same, each_then}

fields_of : (indexes : List IndexState) → map (λ part. part.0) (kept_parts indexes) ≡ map (λ index. index.field) indexes
fields_of [] = refl
fields_of (i ∷ is) = ap (λ fs. i.field ∷ fs) (fields_of is)

-- where those parts stay, the fields do
fields_stay : (one other : List IndexState) → kept_parts one ≡ kept_parts other → map (λ index. index.field) one ≡ map (λ index. index.field) other
fields_stay one other same = sym (fields_of one) ∙ ap (map (λ part. part.0)) same ∙ fields_of other

-- indexes of a table's columns are on its cells
pub on_cells : (definitions : CatalogueItems) (item : TableItem) (opened : OpenedTable) → IsOfItem definitions item opened → AreOn opened.records.types opened.indexes.items
on_cells definitions item opened of =
    each_right (IsIndexOf opened.records.types) (λ (index : IndexState). index.field.cell_width ≡ event_width opened.records.types) (λ one index is. is.column.cell_width)
    (indexes_on definitions.indexes item.number) opened.indexes.items of.indexes

pub all_on_cells : (file : OpenedFile) → IsReady file → AllByRecursion (λ (table : OpenedTable). AreOn table.records.types table.indexes.items) file.tables.items
all_on_cells file ready =
    let definitions = said_catalogue file.definitions in
    each_right (IsOfItem definitions) (λ (table : OpenedTable). AreOn table.records.types table.indexes.items) (on_cells definitions) definitions.tables file.tables.items ready.tables

-- ---- a file that was loaded

pub loaded_ready : (file : OpenedFile) → IsFile file → IsReady file
loaded_ready file is = record {
  given = is.sound.numbered.given;
  tables = of_items is.directory (said_catalogue file.definitions) (said_catalogue file.definitions).tables file.tables.items is.tables;
}

pub loaded_committed : (file : OpenedFile) → IsFile file → IsCommitted file
loaded_committed file is =
    let definitions = said_catalogue file.definitions in
    record {
      tables = each_right (IsTableOf is.directory definitions) IsTableCommitted (λ item table of. record { records = of.committed; indexes = of.indexes_committed }) definitions.tables file.tables.items is.tables;
      referents = is.committed;
    }

pub loaded_order : (file : OpenedFile) → IsFile file → HaveAllDiedBy file.accepted file
loaded_order file is =
    let definitions = said_catalogue file.definitions in
    record {
      tables = each_right (IsTableOf is.directory definitions) (λ (table : OpenedTable). HaveDiedBy file.accepted table.records.working.dead)
          (λ item table of. subst (λ n. HaveDiedBy n table.records.working.dead) is.accepted of.order) definitions.tables file.tables.items is.tables;
      referents = is.order;
    }

-- ---- a file whose parts change

pub same_kept : (table : OpenedTable) → KeepsOpened table table
same_kept table = record { types = refl; committed = refl; kept = refl }

pub kept_then : (was between is : OpenedTable) → KeepsOpened was between → KeepsOpened between is → KeepsOpened was is
kept_then was between is one other = record { types = other.types ∙ one.types; committed = other.committed ∙ one.committed; kept = other.kept ∙ one.kept }

pub keeps_none : (file : OpenedFile) → KeepsCommitted file file
keeps_none file = record { definitions = refl; pages = refl; accepted = refl; tables = each_same KeepsOpened same_kept file.tables.items; referents = refl }

pub keeps_then : (was between is : OpenedFile) → KeepsCommitted was between → KeepsCommitted between is → KeepsCommitted was is
keeps_then was between is one other = record {
  definitions = other.definitions ∙ one.definitions;
  pages = other.pages ∙ one.pages;
  accepted = other.accepted ∙ one.accepted;
  tables = each_then KeepsOpened KeepsOpened KeepsOpened kept_then was.tables.items between.tables.items is.tables.items one.tables other.tables;
  referents = other.referents ∙ one.referents;
}

-- tables that keep their columns and the fields of their indexes keep what is open ready
pub ready_of : (was is : OpenedFile) (R : OpenedTable → OpenedTable → Type 0)
    → ((one other : OpenedTable) → R one other → (other.records.types ≡ one.records.types) × (map (λ index. index.field) other.indexes.items ≡ map (λ index. index.field) one.indexes.items))
    → is.definitions ≡ was.definitions → AllZip R was.tables.items is.tables.items → IsReady was → IsReady is
ready_of was is R keeps definitions tables ready =
    let said = said_catalogue was.definitions in
    let same : said ≡ said_catalogue is.definitions = ap said_catalogue (sym definitions) in
    record {
      given = subst AreGivenOnce same ready.given;
      tables = subst (λ (d : CatalogueItems). AllZip (IsOfItem d) d.tables is.tables.items) same
          (each_then (IsOfItem said) R (IsOfItem said) (λ item one other of kept. stays_of_item said item one other of (keeps one other kept).0 (keeps one other kept).1)
          said.tables was.tables.items is.tables.items ready.tables tables);
    }

pub ready_after : (was is : OpenedFile) → KeepsCommitted was is → IsReady was → IsReady is
ready_after was is keeps ready =
    ready_of was is KeepsOpened (λ one other kept. (kept.types, fields_stay other.indexes.items one.indexes.items kept.kept)) keeps.definitions keeps.tables ready
