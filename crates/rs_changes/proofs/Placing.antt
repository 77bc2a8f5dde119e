-- A table that is put among those that are open, or taken from them.
use Rattle.std.proofs.Common.{◌≡◌, ◌<◌, ◌≤◌, ℕ, Some, List, [], ◌∷◌, ◌++◌, get_or, length, sym, ap, ◌∙◌, subst, arith}
use Rattle.std.proofs.lemmas.List.{length-append}
use Rattle.std.proofs.lemmas.Option.{slice_get-get_or}
use Rattle.std.specs.List.{AllByRecursion, insert, remove}
use Rattle.rs_catalog_pages.specs.Items.{CatalogueItems}
use Rattle.rs_catalog_pages.specs.Said.{said_catalogue}
use Rattle.rs_cell_versions.specs.Version.{HaveDiedBy}
use Rattle.rs_file.specs.Slots.{IsOfItem}
use Rattle.rs_file.specs.declared.opened.OpenedFile.{OpenedFile}
use Rattle.rs_file.specs.declared.opened.OpenedTable.{OpenedTable}
use Rattle.rs_file_parts.specs.Parts.{HaveAllDiedBy, IsReady}
use Rattle.rs_changes.specs.Tables.{HasTableAt, IsTablePut, LosesTableAt}
use Rattle.rs_file_parts.proofs.Lists.{stands_at}
use Rattle.rs_changes.proofs.Among.{all_beside, all_between, insert_between, parted, remove_between, zip_lengths}
use Rattle.rs_value.specs.declared.column.ColumnType.{ColumnType}

-- the place of a table that is to come, and of one that is to go
pub place_to_come : (definitions : CatalogueItems) (file : OpenedFile) (place : ℕ) (types : List ColumnType) → IsReady file → HasTableAt place types (said_catalogue file.definitions) definitions
    → place ≤ length file.tables.items
place_to_come definitions file place types ready more =
    omega (
      arith,
      more.tables.long,
      ap length more.tables.was,
      length-append more.tables.before more.tables.after,
      zip_lengths (IsOfItem (said_catalogue file.definitions)) (said_catalogue file.definitions).tables file.tables.items ready.tables,
    )

pub place_to_go : (definitions : CatalogueItems) (file : OpenedFile) (place : ℕ) → IsReady file → LosesTableAt place (said_catalogue file.definitions) definitions
    → place < length file.tables.items
place_to_go definitions file place ready less =
    omega (
      arith,
      less.tables.long,
      ap length less.tables.is,
      length-append less.tables.before (less.item ∷ less.tables.after),
      zip_lengths (IsOfItem (said_catalogue file.definitions)) (said_catalogue file.definitions).tables file.tables.items ready.tables,
    )

abbrev Died : ℕ → OpenedTable → Type 0
Died version table = HaveDiedBy version table.records.working.dead

pub order_with_table : (place : ℕ) (types : List ColumnType) (version : ℕ) (was is : OpenedFile) → place ≤ length was.tables.items → IsTablePut place types was is → HaveAllDiedBy version was
    → HaveAllDiedBy version is
order_with_table place types version was is inside put order =
    let p = parted was.tables.items place inside in
    let are : is.tables.items ≡ p.before ++ put.table ∷ p.after = put.tables ∙ ap (λ (ts : List OpenedTable). insert ts place put.table) p.are ∙ insert_between p.before p.after place put.table p.long in
    record {
      tables = subst (AllByRecursion (Died version)) (sym are)
          (all_between (Died version) p.before put.table p.after (subst (AllByRecursion (Died version)) p.are order.tables)
          (subst (HaveDiedBy version) (sym put.none_dead) tt));
      referents = subst (HaveDiedBy version) (sym (ap (λ (f : OpenedFile). f.referents.working.dead) put.rest)) order.referents;
    }

pub order_without_table : (place version : ℕ) (tables : List OpenedTable) → place < length tables → AllByRecursion (Died version) tables → AllByRecursion (Died version) (remove tables place)
order_without_table place version [] inside all = absurd (omega arith)
order_without_table place version (t ∷ ts) inside all =
    let one = get_or (t ∷ ts) place t in
    let s = stands_at (t ∷ ts) place one (slice_get-get_or (t ∷ ts) place t inside) in
    subst (AllByRecursion (Died version)) (sym (ap (λ (xs : List OpenedTable). remove xs place) s.are ∙ remove_between s.before s.after place one s.long))
    (all_beside (Died version) s.before one s.after (subst (AllByRecursion (Died version)) s.are all))

-- what was taken out is put back
pub put_again : (place : ℕ) (tables : List OpenedTable) (one : OpenedTable) → place < length tables → one ≡ get_or tables place one → insert (remove tables place) place one ≡ tables
put_again place tables one inside is =
    let s = stands_at tables place one (slice_get-get_or tables place one inside ∙ ap (λ (t : OpenedTable). Some t) (sym is)) in
    ap (λ (ts : List OpenedTable). insert (remove ts place) place one) s.are ∙ ap (λ (ts : List OpenedTable). insert ts place one) (remove_between s.before s.after place one s.long)
    ∙ insert_between s.before s.after place one s.long ∙ sym s.are
