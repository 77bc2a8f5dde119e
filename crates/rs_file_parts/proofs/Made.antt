-- One change of contents after another, and a change of one part as a change of the contents.
use Rattle.std.proofs.Common.{◌≡◌, ◌≤◌, ℕ, List, ◌∷◌, ◌++◌, length, refl, sym, ap, ◌∙◌, subst}
use Rattle.std.specs.List.{AllByRecursion, AllZip}
use Rattle.rs_attr.specs.Tables.{ChangesTable, HoldsNoTable, HoldsTable, IndexState}
use Rattle.rs_catalog_pages.specs.Said.{said_catalogue}
use Rattle.rs_cell_versions.specs.Versioned.{HoldsNone, Standing}
use Rattle.rs_file.specs.Contents.{Contents, LiesTable, ReferentContents, TableContents, beside_referents, beside_table, table_pages}
use Rattle.rs_file.specs.Opening.{IsOpened}
use Rattle.rs_file.specs.declared.opened.OpenedFile.{OpenedFile}
use Rattle.rs_file.specs.declared.opened.OpenedTable.{OpenedTable}
use Rattle.rs_file.proofs.Parts.{referents_changed, referents_leave_directory, shares_referents, shares_table, table_changed, table_leaves_directory}
use Rattle.rs_file_parts.specs.Calls.{ChangesReferents}
use Rattle.rs_file_parts.specs.Parts.{HoldsNoParts, Makes}
use Rattle.rs_file_parts.proofs.Lists.{all_one, beside, together}
use Rattle.rs_pages.specs.PageMap.{PageMap}
use Rattle.rs_value.specs.declared.column.ColumnType.{ColumnType}
use Rattle.rs_versioned.specs.Events.{Event}
use Rattle.rs_versioned.specs.Records.{ChangesRecords, HoldsRecords}
use Rattle.rs_versioned.specs.Referents.{ReferentRecord, kept_referents, referent_form}

-- ---- changes in a row

-- two changes in a row are one
pub makes_then : (one other both : Contents → Contents → Type 0) → ((old next now : Contents) → one old next → other next now → both old now)
    → (old mid new : PageMap) (was between is : OpenedFile) (from at to : ℕ) → Makes old mid was between from at one → Makes mid new between is at to other
    → Makes old new was is from to both
makes_then one other both joined old mid new was between is from at to first second = record {
  each = λ contents holds opened.
      let half = first.each contents holds opened in
      let whole = second.each half.contents half.holds half.opened in
      record {
        contents = whole.contents;
        holds = whole.holds;
        opened = whole.opened;
        directory = whole.directory ∙ half.directory;
        changed = joined contents half.contents whole.contents half.changed whole.changed;
      };
}

-- a change that says more says less
pub makes_weaker : (one other : Contents → Contents → Type 0) → ((old now : Contents) → one old now → other old now)
    → (old new : PageMap) (was is : OpenedFile) (from to : ℕ) → Makes old new was is from to one → Makes old new was is from to other
makes_weaker one other weaker old new was is from to makes = record {
  each = λ contents holds opened.
      let made = makes.each contents holds opened in
      record { contents = made.contents; holds = made.holds; opened = made.opened; directory = made.directory; changed = weaker contents made.contents made.changed };
}

-- no change
pub makes_none : (change : Contents → Contents → Type 0) → ((contents : Contents) → change contents contents)
    → (map : PageMap) (file : OpenedFile) (accepted : ℕ) → Makes map map file file accepted accepted change
makes_none change none map file accepted = record {
  each = λ contents holds opened. record { contents = contents; holds = holds; opened = opened; directory = refl; changed = none contents };
}

-- what no contents lie for after a change, none lay for before it
pub none_before : (change : ℕ → Contents → Contents → Type 0) (old mid : PageMap) (was is : OpenedFile)
    → ((accepted : ℕ) → Makes old mid was is accepted accepted (change accepted)) → HoldsNoParts mid is → HoldsNoParts old was
none_before change old mid was is makes none = record {
  none = λ accepted contents holds opened.
      let made = (makes accepted).each contents holds opened in
      none.none accepted made.contents made.holds made.opened;
}

-- ---- one table

-- one table of the contents, at this place, has become another with the same columns, these
pub record ChangesAt (columns : List ColumnType) (place : ℕ) (change : List Event → List Event → Type 0) (old now : Contents) : Type 0 where
  pub before : List TableContents
  pub table : TableContents
  pub next : TableContents
  pub after : List TableContents
  pub long : length before ≡ place
  pub were : old.tables ≡ before ++ table ∷ after
  pub are : now ≡ record old { tables = before ++ next ∷ after }
  pub columns_are : table.types ≡ columns
  pub types : next.types ≡ table.types
  pub changed : change table.events next.events

-- a table that lies there, by what is open of it
opened_lies : (map : PageMap) (accepted : ℕ) (opened : OpenedTable) (table : TableContents) → IsOpened opened table → LiesTable map accepted table
    → HoldsTable opened.records.types map opened.records.working opened.indexes.items accepted table.events table.used table.uses
opened_lies map accepted opened table is lies =
    subst (λ (ts : List ColumnType). HoldsTable ts map opened.records.working opened.indexes.items accepted table.events table.used table.uses) (sym is.types)
    (subst (λ (s : Standing). HoldsTable table.types map s opened.indexes.items accepted table.events table.used table.uses) (sym is.stands)
    (subst (λ (xs : List IndexState). HoldsTable table.types map table.standing xs accepted table.events table.used table.uses) (sym is.indexes) lies))

module _ (was : OpenedFile) (before after : List OpenedTable) (table : OpenedTable) (were : was.tables.items ≡ before ++ table ∷ after) where
  -- no such table, no such file
  pub no_table : (map : PageMap) → HoldsNoTable table.records.types map table.records.working table.indexes.items → HoldsNoParts map was
  no_table map none = record {
    none = λ accepted contents holds opened.
        let at = beside IsOpened before table after contents.tables (subst (λ (ts : List OpenedTable). AllZip IsOpened ts contents.tables) were opened.tables) in
        let lies = all_one (LiesTable map accepted) at.first at.one at.last (subst (AllByRecursion (LiesTable map accepted)) at.are holds.tables) in
        none.none accepted at.one.events at.one.used at.one.uses (beside_table contents (at.first ++ at.last)) (opened_lies map accepted table at.one at.goes lies)
        (shares_table map accepted contents holds at.first at.last at.one at.are);
  }

  -- a changed table, a changed file
  pub table_made : (old new : PageMap) (is : OpenedFile) (now : OpenedTable) (from to : ℕ) (change : List Event → List Event → Type 0)
      → is.tables.items ≡ before ++ now ∷ after → is.definitions ≡ was.definitions → is.pages ≡ was.pages → is.referents.working ≡ was.referents.working
      → now.records.types ≡ table.records.types → from ≤ to
      → ChangesTable table.records.types old new table.records.working now.records.working table.indexes.items now.indexes.items from to change
      → Makes old new was is from to (ChangesAt table.records.types (length before) change)
  table_made old new is now from to change are definitions pages referents types later changes = record {
    each = λ contents holds opened.
        let at = beside IsOpened before table after contents.tables (subst (λ (ts : List OpenedTable). AllZip IsOpened ts contents.tables) were opened.tables) in
        let lies = all_one (LiesTable old from) at.first at.one at.last (subst (AllByRecursion (LiesTable old from)) at.are holds.tables) in
        let become = changes.each at.one.events at.one.used at.one.uses (beside_table contents (at.first ++ at.last)) (opened_lies old from table at.one at.goes lies)
        (shares_table old from contents holds at.first at.last at.one at.are) in
        let next : TableContents = record {
          types = at.one.types;
          standing = now.records.working;
          indexes = now.indexes.items;
          events = become.events;
          used = become.after;
          uses = become.afters;
        } in
        let there : LiesTable new to next =
        subst (λ (ts : List ColumnType). HoldsTable ts new now.records.working now.indexes.items to become.events become.after become.afters) at.goes.types become.holds in
        let other : IsOpened now next = record { types = types ∙ at.goes.types; stands = refl; indexes = refl } in
        record {
          contents = record contents { tables = at.first ++ next ∷ at.last };
          holds = table_changed old from contents holds new to later at.first at.last at.one next at.are there become.moves;
          opened = record {
            definitions = opened.definitions ∙ sym (ap said_catalogue definitions);
            pages = opened.pages ∙ sym (ap (λ (v : _). v.items) pages);
            tables = subst (λ (ts : List OpenedTable). AllZip IsOpened ts (at.first ++ next ∷ at.last)) (sym are)
                (together IsOpened before now after at.first next at.last at.firsts other at.lasts);
            referents = opened.referents ∙ sym referents;
          };
          directory = table_leaves_directory old from contents holds new at.first at.last at.one (table_pages next) at.are become.moves;
          changed = record {
            before = at.first;
            table = at.one;
            next = next;
            after = at.last;
            long = at.long;
            were = at.are;
            are = refl;
            columns_are = sym at.goes.types;
            types = refl;
            changed = become.changed;
          };
        };
  }

-- ---- the referents

-- no such referents, no such file
pub no_referents : (map : PageMap) (was : OpenedFile) → HoldsNone referent_form map was.referents.working → HoldsNoParts map was
no_referents map was none = record {
  none = λ accepted contents holds opened.
      let there = subst (λ (s : Standing). HoldsRecords kept_referents map s accepted contents.referents.referents contents.referents.used) opened.referents holds.referents in
      none.none there.cells contents.referents.used (beside_referents contents) there.holds (shares_referents map accepted contents holds);
}

-- changed referents, a changed file
pub referents_made : (old new : PageMap) (was is : OpenedFile) (from to : ℕ) (change : List ReferentRecord → List ReferentRecord → Type 0)
    → is.tables.items ≡ was.tables.items → is.definitions ≡ was.definitions → is.pages ≡ was.pages → from ≤ to
    → ChangesRecords kept_referents old new was.referents.working is.referents.working from to change
    → Makes old new was is from to (ChangesReferents change)
referents_made old new was is from to change tables definitions pages later changes = record {
  each = λ contents holds opened.
      let there = subst (λ (s : Standing). HoldsRecords kept_referents old s from contents.referents.referents contents.referents.used) opened.referents holds.referents in
      let become = changes.each contents.referents.referents contents.referents.used (beside_referents contents) there (shares_referents old from contents holds) in
      let now : ReferentContents = record { standing = is.referents.working; referents = become.records; used = become.after } in
      record {
        contents = record contents { referents = now };
        holds = referents_changed old from contents holds new to later now become.holds become.moves;
        opened = record {
          definitions = opened.definitions ∙ sym (ap said_catalogue definitions);
          pages = opened.pages ∙ sym (ap (λ (v : _). v.items) pages);
          tables = subst (λ (ts : List OpenedTable). AllZip IsOpened ts contents.tables) (sym tables) opened.tables;
          referents = refl;
        };
        directory = referents_leave_directory old from contents holds new become.after become.moves;
        changed = record { rest = refl; changed = become.changed };
      };
}
