-- One table of what is open changes at its place, at the next version.
use Rattle.std.proofs.Common.{◌≡◌, ◌<◌, ◌≤◌, ◌+◌, ◌-◌, ◌∙◌, ℕ, Some, List, [], ◌∷◌, ◌++◌, Result, length, get_or, set, sym, ap, subst, arith}
use Rattle.std.specs.Prelude.{slice_get}
use Rattle.std.proofs.lemmas.Option.{slice_get-get_or}
use Rattle.std.specs.List.{AllByRecursion, AllZip, sum_by}
use Rattle.std.proofs.lemmas.List.Sums.{sum_by-append, sum_by-cons}
use Rattle.rs_attr.specs.Calls.{KeepsTable}
use Rattle.rs_attr.specs.Tables.{ChangesTable, HoldsTable, IndexState}
use Rattle.rs_cell_versions.specs.Version.{HaveDiedBy}
use Rattle.rs_cell_versions.specs.Versioned.{Standing}
use Rattle.rs_file.specs.Contents.{LiesTable, TableContents, beside_table}
use Rattle.rs_file.specs.Opening.{IsOpened}
use Rattle.rs_file.specs.declared.opened.OpenedFile.{OpenedFile}
use Rattle.rs_file.specs.declared.opened.OpenedTable.{OpenedTable}
use Rattle.rs_file.proofs.Parts.{shares_table}
use Rattle.rs_table_changes.specs.Calls.{HoldsNoTableBy}
use Rattle.rs_file_parts.specs.Parts.{HaveAllDiedBy, KeepsCommitted, KeepsOpened}
use Rattle.rs_table_changes.specs.Calls as events
use Rattle.rs_table_changes.specs.Changes.{ThenCleared}
use Rattle.rs_changes.specs.Calls.{LeavesFile}
use Rattle.rs_changes.specs.Garbage.{GrowsAt, dead_of, garbage_of}
use Rattle.rs_changes.specs.InPlace.{ChangesThenCleared, MakesAt}
use Rattle.rs_file_parts.proofs.Lists.{Stands, all_one, beside, stands_at}
use Rattle.rs_file_parts.proofs.Made.{ChangesAt, makes_weaker}
use Rattle.rs_file_parts.proofs.Placed.{place_all, place_made}
use Rattle.rs_page_owners.proofs.Working.{works_of}
use Rattle.rs_pages.specs.PageMap.{PageMap}
use Rattle.rs_pages.proofs.PlainStore.{at_set}
use Rattle.rs_pages.specs.declared.pages.Pages.{Ghosts}
use Rattle.rs_tree.proofs.Lists.{inside_has, zip_lengths}
use Rattle.rs_refusal.specs.declared.refusal.Refusal.{Refusal}
use Rattle.rs_change_laws.specs.Changing.{HoldsNoFile}
use Rattle.rs_changes.proofs.Wholes.{storing_by_works}
use Rattle.rs_value.specs.declared.column.ColumnType.{ColumnType}
use Rattle.rs_versioned.specs.Events.{Event}

-- a table that lies there, by what is open of it
opened_lies : (map : PageMap) (accepted : ℕ) (opened : OpenedTable) (table : TableContents) → IsOpened opened table → LiesTable map accepted table
    → HoldsTable opened.records.types map opened.records.working opened.indexes.items accepted table.events table.used table.uses
opened_lies map accepted opened table is lies =
    subst (λ (ts : List ColumnType). HoldsTable ts map opened.records.working opened.indexes.items accepted table.events table.used table.uses) (sym is.types)
    (subst (λ (s : Standing). HoldsTable table.types map s opened.indexes.items accepted table.events table.used table.uses) (sym is.stands)
    (subst (λ (xs : List IndexState). HoldsTable table.types map table.standing xs accepted table.events table.used table.uses) (sym is.indexes) lies))

-- what died by a version died by a later one
died_later : (version later : ℕ) → version ≤ later → (dead : List (List ℕ)) → HaveDiedBy version dead → HaveDiedBy later dead
died_later version later upto [] all = tt
died_later version later upto (d ∷ dead) all = (omega (arith, all.0, upto), died_later version later upto dead all.1)

tables_later : (version later : ℕ) → version ≤ later → (tables : List OpenedTable) → AllByRecursion (λ (table : OpenedTable). HaveDiedBy version table.records.working.dead) tables
    → AllByRecursion (λ (table : OpenedTable). HaveDiedBy later table.records.working.dead) tables
tables_later version later upto [] all = tt
tables_later version later upto (t ∷ tables) all = (died_later version later upto t.records.working.dead all.0, tables_later version later upto tables all.1)

pub order_later : (version later : ℕ) (file : OpenedFile) → version ≤ later → HaveAllDiedBy version file → HaveAllDiedBy later file
order_later version later file upto order = record {
  tables = tables_later version later upto file.tables.items order.tables;
  referents = died_later version later upto file.referents.working.dead order.referents;
}

-- ---- one table

-- how many more of it are dead is how many more of the file are
pub grown_by : (place : ℕ) (was is : OpenedFile) → place < length was.tables.items → KeepsCommitted was is → GrowsAt place was is → (before after ended : ℕ)
    → ((table : OpenedTable) → slice_get was.tables.items place ≡ Some table → before ≡ dead_of table)
    → ((table : OpenedTable) → slice_get is.tables.items place ≡ Some table → after ≡ dead_of table) → ended ≡ after - before → ended ≤ garbage_of is - garbage_of was
grown_by place was is inside keeps grows before after ended were are less =
    let one = inside_has was.tables.items place inside in
    let now = inside_has is.tables.items place (omega (arith, inside, zip_lengths KeepsOpened was.tables.items is.tables.items keeps.tables)) in
    omega (arith, less, were one.0 one.1, are now.0 now.1, grows.each one.0 now.0 one.1 now.1)

module _ (was : OpenedFile) (place : ℕ) (one : OpenedTable) (below : place < length was.tables.items) (is_there : one ≡ get_or was.tables.items place one) where
  pub opened_there : slice_get was.tables.items place ≡ Some one
  opened_there = slice_get-get_or was.tables.items place one below ∙ ap Some (sym is_there)

  stands : Stands was.tables.items place one
  stands = stands_at was.tables.items place one opened_there

  -- where no such table lies there up to the version, the file holds no contents
  none_by : (map : PageMap) (version : ℕ) → was.accepted ≤ version → HoldsNoTableBy version one.records.types map one.records.working one.indexes.items → HoldsNoFile map was
  none_by map version later none = record {
    none = λ contents holds opened.
        let accepted : ℕ = contents.directory.accepted in
        let at = beside IsOpened stands.before one stands.after contents.tables (subst (λ (ts : List OpenedTable). AllZip IsOpened ts contents.tables) stands.are opened.tables) in
        let lies = all_one (LiesTable map accepted) at.first at.one at.last (subst (AllByRecursion (LiesTable map accepted)) at.are holds.parts.tables) in
        none.none accepted at.one.events at.one.used at.one.uses (beside_table contents (at.first ++ at.last)) (omega (arith, opened.accepted, later)) (opened_lies map accepted one at.one at.goes lies)
        (shares_table map accepted contents holds.parts at.first at.last at.one at.are);
  }

  -- so a call on the table leaves the file
  pub leaves_placed : {P T : Type 0} (pages : Ghosts P) (version : ℕ) (result : Result T Refusal) (old new : P) → was.accepted ≤ version → events.Leaves pages one version result old new
      → LeavesFile pages was result old new
  leaves_placed pages version result old new later leaves =
      let damaged : Type 0 = pages.is_tied old → HoldsNoTableBy version one.records.types (pages.store old).map one.records.working one.indexes.items in
      let none : Type 0 = pages.is_tied old → HoldsNoFile (pages.store old).map was in
      record {
        keeps = leaves.keeps;
        stores = storing_by_works none result (pages.store old) (pages.store new)
            (works_of damaged none result (pages.store old) (pages.store new) (λ (wrong : damaged) tied. none_by (pages.store old).map version later (wrong tied)) leaves.works);
      }

  pub order_placed : HaveAllDiedBy was.accepted was → HaveDiedBy (was.accepted + 1) one.records.working.dead
  order_placed order =
      died_later was.accepted (was.accepted + 1) (omega arith) one.records.working.dead
      (all_one (λ (table : OpenedTable). HaveDiedBy was.accepted table.records.working.dead) stands.before one stands.after
      (subst (AllByRecursion (λ (table : OpenedTable). HaveDiedBy was.accepted table.records.working.dead)) stands.are order.tables))

  -- where no fewer of its records are dead, no fewer are of the file
  pub garbage_placed : (now : OpenedTable) → length one.records.working.dead ≤ length now.records.working.dead
      → garbage_of was ≤ length was.referents.working.dead + sum_by dead_of (set was.tables.items place now)
  garbage_placed now more =
      omega (
        arith,
        more,
        ap (sum_by dead_of) stands.are,
        sum_by-append dead_of stands.before (one ∷ stands.after),
        sum_by-cons dead_of one stands.after,
        ap (sum_by dead_of) (stands.changed now),
        sum_by-append dead_of stands.before (now ∷ stands.after),
        sum_by-cons dead_of now stands.after,
      )

  -- and as many more are as there are more of its own
  pub grows_placed : (now : OpenedTable) (is : OpenedFile) → is.tables.items ≡ set was.tables.items place now → is.referents.working ≡ was.referents.working → GrowsAt place was is
  grows_placed now is tables referents = record {
    each = λ a b at there.
        let first : a ≡ one = let here = opened_there in cc in
        let second : b ≡ now = let here = at_set was.tables.items place now below in let same = ap (λ (ts : List OpenedTable). slice_get ts place) tables in cc in
        omega (
          arith,
          ap dead_of first,
          ap dead_of second,
          ap (λ (s : Standing). length s.dead) referents,
          ap (sum_by dead_of) tables,
          ap (sum_by dead_of) stands.are,
          sum_by-append dead_of stands.before (one ∷ stands.after),
          sum_by-cons dead_of one stands.after,
          ap (sum_by dead_of) (stands.changed now),
          sum_by-append dead_of stands.before (now ∷ stands.after),
          sum_by-cons dead_of now stands.after,
        );
  }

  module _ (now : OpenedTable) (keeps : KeepsTable one.records now.records one.indexes.items now.indexes.items) where
    pub tables_died : HaveAllDiedBy was.accepted was → HaveDiedBy (was.accepted + 1) now.records.working.dead
        → AllByRecursion (λ (table : OpenedTable). HaveDiedBy (was.accepted + 1) table.records.working.dead) (set was.tables.items place now)
    tables_died order died =
        place_all was place one below is_there now keeps (λ (table : OpenedTable). HaveDiedBy (was.accepted + 1) table.records.working.dead) (λ before. died)
        (tables_later was.accepted (was.accepted + 1) (omega arith) was.tables.items order.tables)

    -- a change of the table is one of the file's parts
    pub made_placed : (old new : PageMap) (is : OpenedFile) (level : ℕ) (change : List Event → List Event → Type 0) → is.tables.items ≡ set was.tables.items place now → is.definitions ≡ was.definitions
        → is.pages ≡ was.pages → is.referents.working ≡ was.referents.working
        → ChangesTable one.records.types old new one.records.working now.records.working one.indexes.items now.indexes.items was.accepted (was.accepted + 1) (ThenCleared level one.records.types change)
        → MakesAt old new was is place level change
    made_placed old new is level change tables definitions pages referents changes =
        makes_weaker (ChangesAt one.records.types place (ThenCleared level one.records.types change)) (ChangesThenCleared place level change)
        (λ contents next at. record {
          before = at.before;
          table = at.table;
          next = at.next;
          after = at.after;
          long = at.long;
          were = at.were;
          are = at.are;
          types = at.types;
          changed = subst (λ (ts : List ColumnType). ThenCleared level ts change at.table.events at.next.events) (sym at.columns_are) at.changed;
        })
        old new was is was.accepted (was.accepted + 1)
        (place_made was place one below is_there now keeps old new is was.accepted (was.accepted + 1) (ThenCleared level one.records.types change) tables definitions pages referents (omega arith) changes)
