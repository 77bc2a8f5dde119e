-- A table without events comes to a file, or goes from it.
use Rattle.std.proofs.Common.{◌≡◌, ◌<◌, ◌≤◌, ◌+◌, ℕ, List, [], ◌∷◌, ◌++◌, length, min, refl, sym, ap, ◌∙◌, subst, arith}
use Rattle.std.specs.List.{AllByRecursion, AllZip, insert, remove, sum_by}
use Rattle.std.proofs.lemmas.List.Sorted.{length_permutation}
use Rattle.rs_attr.specs.Tables.{HoldIndexes, IndexState, all_of}
use Rattle.rs_attr.proofs.Placing.{all_of-cons}
use Rattle.rs_catalog_pages.specs.Items.{CatalogueItems}
use Rattle.rs_catalog_pages.specs.Said.{said_catalogue}
use Rattle.rs_cell_versions.specs.declared.cell.TheConstants.{LIVING}
use Rattle.rs_cell_versions.proofs.Sizes.{no_cells_no_pages}
use Rattle.rs_file.specs.Contents.{Contents, LiesTable, TableContents, table_pages}
use Rattle.rs_file.specs.Opening.{IsOpened}
use Rattle.rs_file.specs.declared.opened.OpenedFile.{OpenedFile}
use Rattle.rs_file.specs.declared.opened.OpenedTable.{OpenedTable}
use Rattle.rs_file.proofs.Parts.{table_comes, table_goes}
use Rattle.rs_file_parts.specs.Clearing.{ClearsAsMany, ClearsReferents, ClearsTable, clearable, clearable_events}
use Rattle.rs_file_parts.specs.Parts.{Makes}
use Rattle.rs_changes.specs.Tables.{ComesTable}
use Rattle.rs_file_parts.proofs.Lists.{all_one, beside, together}
use Rattle.rs_page_owners.specs.Counts.{no_pages}
use Rattle.rs_pages.specs.PageMap.{PageMap}
use Rattle.rs_change_laws.specs.Parts.{ChangesTableAt, TakesTable}
use Rattle.rs_changes.proofs.Among.{apart, beside_back, insert_between, joined, parted, remove_between}
use Rattle.rs_changes.proofs.Commuting.{events_in, split_by, split_sum, weigh}
use Rattle.rs_changes.proofs.Indexed.{no_entries}
use Rattle.rs_changes.proofs.Next.{Commutes}
use Rattle.rs_tree.specs.Tree.{IsTree}
use Rattle.rs_value.specs.declared.column.ColumnType.{ColumnType}
use Rattle.rs_versioned.specs.Events.{Event, SaysEvent, kept_events}
use Rattle.rs_versioned.specs.Records.{HasNone, HoldsRecords}

-- a table comes
pub table_made : (place : ℕ) (types : List ColumnType) (was is : OpenedFile) (table : OpenedTable) → place ≤ length was.tables.items → table.records.types ≡ types
    → table.indexes.items ≡ [] → ((map : PageMap) (accepted : ℕ) → HoldsRecords (kept_events types) map table.records.working accepted [] no_pages)
    → is.tables.items ≡ insert was.tables.items place table → is.definitions ≡ was.definitions → is.pages ≡ was.pages → is.referents.working ≡ was.referents.working
    → (map : PageMap) (accepted : ℕ) → Makes map map was is accepted accepted (ComesTable place types)
table_made place types was is table inside types_are no_indexes empty tables definitions pages referents map accepted = record {
  each = λ contents holds opened.
      let p = parted was.tables.items place inside in
      let at = apart IsOpened p.before p.after contents.tables (subst (λ (ts : List OpenedTable). AllZip IsOpened ts contents.tables) p.are opened.tables) in
      let one : TableContents = record { types = types; standing = table.records.working; indexes = []; events = []; used = no_pages; uses = [] } in
      let lies : LiesTable map accepted one = record { records = empty map accepted; entries = tt } in
      let goes : IsOpened table one = record { types = types_are; stands = refl; indexes = no_indexes } in
      record {
        contents = record contents { tables = at.first ++ one ∷ at.last };
        holds = table_comes map accepted contents holds at.first at.last one at.are lies (λ n. refl);
        opened = record {
          definitions = opened.definitions ∙ sym (ap said_catalogue definitions);
          pages = opened.pages ∙ sym (ap (λ (v : _). v.items) pages);
          tables = subst (λ (ts : List OpenedTable). AllZip IsOpened ts (at.first ++ one ∷ at.last))
              (sym (tables ∙ ap (λ (ts : List OpenedTable). insert ts place table) p.are ∙ insert_between p.before p.after place table p.long))
              (together IsOpened p.before table p.after at.first one at.last at.firsts goes at.lasts);
          referents = opened.referents ∙ sym referents;
        };
        directory = refl;
        changed = record {
          before = at.first;
          table = one;
          after = at.last;
          long = at.long ∙ p.long;
          were = at.are;
          are = refl;
          types_are = refl;
          no_events = refl;
          no_indexes = refl;
        };
      };
}

-- a table without events has no pages
say_none : (types : List ColumnType) (cells : List (List ℕ)) → AllZip (SaysEvent types) cells [] → cells ≡ []
say_none types [] say = refl
say_none types (c ∷ cs) say = absurd say

indexes_none : (map : PageMap) (indexes : List IndexState) (uses : List (ℕ → ℕ)) → HoldIndexes map indexes [] uses → (n : ℕ) → all_of uses n ≡ 0
indexes_none map [] [] hold n = refl
indexes_none map [] (u ∷ us) hold n = absurd hold
indexes_none map (i ∷ is) [] hold n = absurd hold
indexes_none map (i ∷ is) (u ∷ us) hold n = omega (arith, all_of-cons u us n, no_entries i.field map i.working u hold.0 n, indexes_none map is us hold.1 n)

pub eventless : (map : PageMap) (accepted : ℕ) (table : TableContents) → table.events ≡ [] → LiesTable map accepted table → (n : ℕ) → table_pages table n ≡ 0
eventless map accepted table none lies n =
    let empty : lies.records.cells ≡ [] = say_none table.types lies.records.cells (subst (AllZip (SaysEvent table.types) lies.records.cells) none lies.records.say) in
    omega (
      arith,
      no_cells_no_pages (kept_events table.types).form map table.standing.root table.used
          (subst (λ (cs : List (List ℕ)). IsTree (kept_events table.types).form map table.standing.root cs table.used) empty lies.records.holds.tree) n,
      indexes_none map table.indexes table.uses (subst (λ (cs : List (List ℕ)). HoldIndexes map table.indexes cs table.uses) empty lies.entries) n,
    )

-- ---- a table goes

-- the events of the table at the place are gone, and then records were cleared
pub record EmptiedAndCleared (oldest gone place : ℕ) (old now : Contents) : Type 0 where
  pub mid : Contents
  pub emptied : ChangesTableAt place HasNone old mid
  pub cleared : ClearsAsMany oldest 64 gone mid now

pub emptied_and_cleared : (oldest gone place : ℕ) (old mid now : Contents) → ChangesTableAt place (HasNone {R = Event}) old mid → ClearsAsMany oldest 64 gone mid now
    → EmptiedAndCleared oldest gone place old now
emptied_and_cleared oldest gone place old mid now emptied cleared = record { mid = mid; emptied = emptied; cleared = cleared }

-- the table at the place has gone, and of the others records were cleared
pub record GoesCleared (oldest gone place : ℕ) (old now : Contents) : Type 0 where
  pub first : List TableContents
  pub table : TableContents
  pub last : List TableContents
  pub long : length first ≡ place
  pub were : old.tables ≡ first ++ table ∷ last
  pub before : List TableContents
  pub after : List TableContents
  pub are : now.tables ≡ before ++ after
  pub firsts : AllZip (ClearsTable oldest) first before
  pub lasts : AllZip (ClearsTable oldest) last after
  pub referents : ClearsReferents oldest old.referents.referents now.referents.referents
  pub many : sum_by events_in (first ++ last) + length old.referents.referents ≡ (sum_by events_in (before ++ after) + length now.referents.referents) + gone
  pub as_many : oldest < LIVING → gone ≡ min 64 (clearable oldest (record old { tables = first ++ last }))

perm_none : {X : Type 0} (xs : List X) → length xs ≡ 0 → xs ≡ []
perm_none [] none = refl
perm_none (x ∷ xs) none = absurd (omega arith)

-- a table without events is cleared of none
still_none : (oldest : ℕ) (one other : TableContents) → one.events ≡ [] → ClearsTable oldest one other → other.events ≡ []
still_none oldest one other none clears =
    perm_none other.events (omega (arith, length_both clears.cleared.gone other.events, length_permutation one.events (clears.cleared.gone ++ other.events) clears.cleared.rest, ap length none)) where
      length_both : {X : Type 0} (xs ys : List X) → length (xs ++ ys) ≡ length xs + length ys
      length_both [] ys = omega arith
      length_both (x ∷ xs) ys = omega (arith, length_both xs ys)

pub table_leaves : (oldest gone place : ℕ) (old new : PageMap) (was mid is : OpenedFile) (version : ℕ) → Makes old new was mid version version (EmptiedAndCleared oldest gone place)
    → is.tables.items ≡ remove mid.tables.items place → is.definitions ≡ mid.definitions → is.pages ≡ mid.pages → is.referents.working ≡ mid.referents.working
    → Makes old new was is version version (GoesCleared oldest gone place)
table_leaves oldest gone place old new was mid is version makes tables definitions pages referents = record {
  each = λ contents holds opened.
      let made = makes.each contents holds opened in
      let e = made.changed.emptied in
      let clears = made.changed.cleared in
      let R = ClearsTable oldest in
      let all = subst (λ (c : Contents). ClearsAsMany oldest 64 gone c made.contents) e.are clears in
      let at = beside R e.before e.next e.after made.contents.tables all.parts.tables in
      let lies = all_one (LiesTable new version) at.first at.one at.last (subst (AllByRecursion (LiesTable new version)) at.are made.holds.tables) in
      let none = still_none oldest e.next at.one e.changed at.goes in
      let o = beside_back IsOpened mid.tables.items at.first at.one at.last (subst (AllZip IsOpened mid.tables.items) at.are made.opened.tables) in
      let zero : weigh oldest e.next ≡ 0 = ap (clearable_events oldest) e.changed in
      let left : Contents = record contents { tables = e.before ++ e.after } in
      let same : clearable oldest (record contents { tables = e.before ++ e.next ∷ e.after }) ≡ clearable oldest left = omega (arith, zero, split_sum oldest e.before e.next e.after) in
      let whole : sum_by events_in (e.before ++ e.next ∷ e.after) + length contents.referents.referents
      ≡ (sum_by events_in made.contents.tables + length made.contents.referents.referents) + gone = all.many in
      let empty : events_in e.next ≡ 0 = ap length e.changed in
      let still : events_in at.one ≡ 0 = ap length none in
      record {
        contents = record made.contents { tables = at.first ++ at.last };
        holds = table_goes new version made.contents made.holds at.first at.last at.one at.are (eventless new version at.one none lies);
        opened = record {
          definitions = made.opened.definitions ∙ sym (ap said_catalogue definitions);
          pages = made.opened.pages ∙ sym (ap (λ (v : _). v.items) pages);
          tables = subst (λ (ts : List OpenedTable). AllZip IsOpened ts (at.first ++ at.last))
              (sym (tables ∙ ap (λ (ts : List OpenedTable). remove ts place) o.are ∙ remove_between o.first o.last place o.one (o.long ∙ at.long ∙ e.long)))
              (joined IsOpened o.first o.last at.first at.last o.firsts o.lasts);
          referents = made.opened.referents ∙ sym referents;
        };
        directory = made.directory;
        changed = record {
          first = e.before;
          table = e.table;
          last = e.after;
          long = e.long;
          were = e.were;
          before = at.first;
          after = at.last;
          are = refl;
          firsts = at.firsts;
          lasts = at.lasts;
          referents = all.parts.referents;
          many = omega (arith, whole, empty, still, split_by events_in e.before e.next e.after, split_by events_in at.first at.one at.last, ap (sum_by events_in) at.are);
          as_many = λ below. all.as_many below ∙ ap (min 64) same;
        };
      };
}

pub table_gone : (oldest gone : ℕ) (definitions : CatalogueItems) (pages : List ℕ) (place : ℕ) (old now : Contents) → GoesCleared oldest gone place old now
    → Commutes oldest definitions pages (TakesTable place definitions) old now
table_gone oldest gone definitions pages place old now goes = record {
  between = record old { definitions = definitions; pages = pages; tables = goes.first ++ goes.last };
  gone = gone;
  changed = record {
    before = goes.first;
    table = goes.table;
    after = goes.last;
    long = goes.long;
    were = goes.were;
    are = refl;
    definitions_are = refl;
    rest = refl;
  };
  same = refl;
  cleared = record {
    parts = record {
      definitions = refl;
      directory = refl;
      tables = subst (AllZip (ClearsTable oldest) (goes.first ++ goes.last)) (sym goes.are) (joined (ClearsTable oldest) goes.first goes.last goes.before goes.after goes.firsts goes.lasts);
      referents = goes.referents;
    };
    many = omega (arith, goes.many, ap (sum_by events_in) goes.are);
    as_many = goes.as_many;
  };
}
