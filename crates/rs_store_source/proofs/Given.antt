-- What is asked of a store and given.
use Rattle.std.proofs.Common.{◌≡◌, ◌≤◌, ◌&&◌, ◌||◌, ◌==◌, ◌∙◌, ℕ, suc, Bool, true, false, cond, nat_le, Some, List, [], ◌∷◌, ap, inl, inr, length, refl, subst, sym, arith}
use Rattle.std.specs.FinMap as names
use Rattle.std.specs.List.{AllByRecursion, list_any}
use Rattle.std.proofs.lemmas.Bool.{and_parts, eqb-true, false≢true, le-leb, leb-true}
use Rattle.std.proofs.lemmas.List.{length-map}
use Rattle.rs_coalesce.specs.Joined.{AreJoined}
use Rattle.rs_coalesce.proofs.Separate.{joined-from_separate}
use Rattle.rs_catalog.specs.Definitions.{Definitions, TableItem, no_places}
use Rattle.rs_catalog.proofs.Names.{each_entry}
use Rattle.rs_disk.specs.declared.disk.Disk as disk
use Rattle.rs_exec.specs.Given.{AreGiven, AreGivenOfValue, has_value, inside, rows_asked, table_asked}
use Rattle.rs_exec.specs.Snapshot.{NumberedTable, Snapshot, Snapshots}
use Rattle.rs_exec.specs.declared.source.Asked.{Asked}
use Rattle.rs_exec.specs.declared.source.Part.{Part}
use Rattle.rs_exec.specs.declared.source.SoughtValue.{SoughtValue}
use Rattle.rs_facts.specs.Fact.{Name, keep, none}
use Rattle.rs_facts.specs.Query.{Column}
use Rattle.rs_facts.specs.Runs.{Stretch}
use Rattle.rs_facts.specs.Spans.{ArePlaced, places_of}
use Rattle.rs_file.specs.Contents.{Contents}
use Rattle.rs_file_meaning.specs.Seen.{events_of, routes_at}
use Rattle.rs_machine.specs.Checks.{column_types}
use Rattle.rs_pager.specs.Maps.{committed}
use Rattle.rs_store.specs.Kept.{Keeps, StoreState}
use Rattle.rs_store.specs.Reading.{GivesValue}
use Rattle.rs_store.specs.declared.reading.IndexKey.{IndexKey}
use Rattle.rs_sweep.specs.Lists.{AreWide}
use Rattle.rs_table_reads.specs.Found.{spans_with}
use Rattle.rs_table_reads.specs.Read.{spans_in}
use Rattle.rs_table_reads.specs.declared.window.RouteWindow.{RouteWindow}
use Rattle.rs_value.specs.Row.{Row}
use Rattle.rs_value.specs.Values.{IsRowOf}
use Rattle.rs_value.specs.View.{literal_datum}
use Rattle.rs_value.specs.declared.column.ColumnType.{ColumnType}
use Rattle.rs_value.specs.declared.column.Kind.{Kind}
use Rattle.rs_versioned.specs.Meant.{AreEventsMeant}
use Rattle.rs_store_source.specs.Shown.{Shows, is_shown, is_table, places_seen, same_kind, table_there, window_of}
use Rattle.rs_store_source.proofs.Apart.{spans_joined, value_joined}
use Rattle.rs_store_source.proofs.OfValue.{keep_inside, kept_of_value}
use Rattle.rs_store_source.proofs.SameKind.{kind_same}
use Rattle.rs_store_source.proofs.Tables.{all_lie, events_meant}
use Rattle.rs_store_source.proofs.Within.{NoneLeftOut, RowsWithin, means_inside}

-- ---- the table that is asked

-- a table of the definitions that has the number, the kind and the width
pub record HasTable (definitions : Definitions) (table : NumberedTable) : Type 0 where
  pub name : Name
  pub item : TableItem
  pub there : names.get definitions.tables name ≡ Some item
  pub number : item.number ≡ table.number
  pub kind : item.kind ≡ table.kind
  pub width : length item.columns ≡ table.width

module _ (definitions : Definitions) (table : NumberedTable) where
  found_among : (entries : List (Name × TableItem)) → AllByRecursion (λ e. names.get definitions.tables e.0 ≡ Some e.1) entries → list_any (λ (e : Name × TableItem). is_table table e.1) entries ≡ true
      → HasTable definitions table
  unfolding is_table
  found_among [] each any = absurd (false≢true any)
  found_among (e ∷ es) each any = by_test (is_table table e.1) (found_among es each.1) refl any where
    by_test : (b : Bool) → (list_any (λ (e : Name × TableItem). is_table table e.1) es ≡ true → HasTable definitions table) → is_table table e.1 ≡ b → (b || list_any (λ (e : Name × TableItem). is_table table e.1) es) ≡ true → HasTable definitions table
    by_test true more is any =
        let parts = and_parts (e.1.number == table.number) (same_kind e.1.kind table.kind && length e.1.columns == table.width) is in
        let rest = and_parts (same_kind e.1.kind table.kind) (length e.1.columns == table.width) parts.1 in
        record {
          name = e.0;
          item = e.1;
          there = each.0;
          number = eqb-true e.1.number table.number parts.0;
          kind = kind_same e.1.kind table.kind rest.0;
          width = eqb-true (length e.1.columns) table.width rest.1;
        }
    by_test false more is any = more any

  pub table_found : table_there definitions table ≡ true → HasTable definitions table
  table_found any = found_among (names.entries definitions.tables) (each_entry definitions.tables) any

-- ---- the width of rows

row_width : (types : List ColumnType) (row : Row) → IsRowOf types row → length row ≡ length types
row_width [] [] is = refl
row_width [] (datum ∷ row) is = absurd is
row_width (type ∷ types) [] is = absurd is
row_width (type ∷ types) (datum ∷ row) is = ap suc (row_width types row is.1)

rows_wide : (types : List ColumnType) (width : ℕ) → length types ≡ width → (spans : List Stretch) → AllByRecursion (λ (span : Stretch). IsRowOf types span.row) spans → AreWide width spans
rows_wide types width many [] all = tt
rows_wide types width many (span ∷ spans) all = (row_width types span.row all.0 ∙ many, rows_wide types width many spans all.1)

-- ---- what is given

-- versions that are not live
dead_below : (oldest version accepted : ℕ) → nat_le oldest version ≡ false → oldest ≤ version → version ≤ accepted → ⊥
dead_below oldest version accepted e low high = false≢true (sym e ∙ le-leb oldest version low)

dead_above : (oldest version accepted : ℕ) → nat_le version accepted ≡ false → oldest ≤ version → version ≤ accepted → ⊥
dead_above oldest version accepted e low high = false≢true (sym e ∙ le-leb version accepted high)

module _ {D : Type 0} (d : disk.Ghosts D) (oldest : ℕ) (store : StoreState D) (asked : Asked) (part : Part) where
  -- nothing is shown where the version is not live or the table is not there
  none_shown : (lower upper there : Bool) → nat_le oldest asked.version ≡ lower → nat_le asked.version store.file.accepted ≡ upper → table_there store.catalog (table_asked asked) ≡ there
      → (lower && (upper && there)) ≡ false → (snapshots : Snapshots) → Shows d oldest store snapshots → (k : ℕ) → rows_asked snapshots asked k ≡ none
  none_shown false upper there low high is off snapshots shows k =
      shows.others asked.version (dead_below oldest asked.version store.file.accepted low) (table_asked asked) asked.route k
  none_shown true false there low high is off snapshots shows k =
      shows.others asked.version (dead_above oldest asked.version store.file.accepted high) (table_asked asked) asked.route k
  none_shown true true true low high is off snapshots shows k = absurd (false≢true (sym off))
  none_shown true true false low high is off snapshots shows k =
      ap (λ (s : Snapshot). s.rows (table_asked asked) asked.route k)
      (shows.live asked.version (leb-true oldest asked.version low) (leb-true asked.version store.file.accepted high))
      ∙ ap (λ (b : Bool). (cond b (places_seen shows.stands.contents asked.version asked.table asked.route) no_places) k) is

  pub given_none : is_shown store.catalog oldest store.file.accepted asked ≡ false → AreGiven (Shows d oldest store) asked part []
  given_none off = record {
    means = λ snapshots shows k. ap (inside part k) (sym (none_shown (nat_le oldest asked.version) (nat_le asked.version store.file.accepted) (table_there store.catalog (table_asked asked)) refl refl refl off snapshots shows k));
    joined = λ snapshots shows. joined-from_separate asked.kind [] tt;
    placed = tt;
    wide = tt;
  }

  module _ (left : NoneLeftOut) (rows : RowsWithin) (on : is_shown store.catalog oldest store.file.accepted asked ≡ true) where
    low : oldest ≤ asked.version
    low = leb-true oldest asked.version (and_parts (nat_le oldest asked.version) (nat_le asked.version store.file.accepted && table_there store.catalog (table_asked asked)) on).0

    upper : (nat_le asked.version store.file.accepted && table_there store.catalog (table_asked asked)) ≡ true
    upper = (and_parts (nat_le oldest asked.version) (nat_le asked.version store.file.accepted && table_there store.catalog (table_asked asked)) on).1

    high : asked.version ≤ store.file.accepted
    high = leb-true asked.version store.file.accepted (and_parts (nat_le asked.version store.file.accepted) (table_there store.catalog (table_asked asked)) upper).0

    there : table_there store.catalog (table_asked asked) ≡ true
    there = (and_parts (nat_le asked.version store.file.accepted) (table_there store.catalog (table_asked asked)) upper).1

    -- the events of the table are meant at the version
    meant_there : (snapshots : Snapshots) → (shows : Shows d oldest store snapshots)
        → AreEventsMeant (routes_at asked.version shows.stands.contents.definitions.routes) asked.kind asked.version (events_of shows.stands.contents asked.table)
    meant_there snapshots shows =
        let stands = shows.stands in
        let contents = stands.contents in
        let has = table_found store.catalog (table_asked asked) there in
        let within : asked.version ≤ contents.directory.accepted = omega (arith, high, stands.keeps.opened.accepted) in
        subst (λ (n : ℕ). AreEventsMeant (routes_at asked.version contents.definitions.routes) asked.kind asked.version (events_of contents n)) has.number
        (subst (λ (kind : Kind). AreEventsMeant (routes_at asked.version contents.definitions.routes) kind asked.version (events_of contents has.item.number)) has.kind
        (events_meant (committed d store.pager) contents store.catalog oldest stands.keeps.holds stands.meant stands.keeps.memory.catalog has.name has.item has.there asked.version low within))

    -- what the version sees in the part is what the snapshot has there
    means : (snapshots : Snapshots) → (shows : Shows d oldest store snapshots) → (k : ℕ)
        → inside part k (places_of (spans_in (window_of asked part) (events_of shows.stands.contents asked.table)) k) ≡ inside part k (rows_asked snapshots asked k)
    means snapshots shows k =
        let stands = shows.stands in
        let contents = stands.contents in
        let events = events_of contents asked.table in
        let meant = meant_there snapshots shows in
        let lie = all_lie (committed d store.pager) contents store.catalog oldest stands.keeps.holds stands.meant stands.keeps.memory.catalog asked.version asked.kind events meant asked.route in
        let shown : rows_asked snapshots asked k ≡ places_seen contents asked.version asked.table asked.route k =
        ap (λ (s : Snapshot). s.rows (table_asked asked) asked.route k) (shows.live asked.version low high)
        ∙ ap (λ (b : Bool). (cond b (places_seen contents asked.version asked.table asked.route) no_places) k) there in
        means_inside left rows asked.kind asked.version asked.route events (meant.runs asked.route) lie part k ∙ ap (inside part k) (sym shown)

    -- rows of the table's columns are as wide as these
    wide_rows : (spans : List Stretch) → ((name : Name) (item : TableItem) → names.get store.catalog.tables name ≡ Some item → item.number ≡ asked.table
        → AllByRecursion (λ (span : Stretch). IsRowOf (column_types item.columns) span.row) spans) → AreWide asked.width spans
    wide_rows spans typed =
        let has = table_found store.catalog (table_asked asked) there in
        rows_wide (column_types has.item.columns) asked.width (length-map has.item.columns (λ (column : Column). column.1) ∙ has.width) spans (typed has.name has.item has.there has.number)

    pub given_shown : (window : RouteWindow) → window ≡ window_of asked part → (spans : List Stretch)
        → ((contents : Contents) → Keeps d store contents → spans ≡ spans_in window (events_of contents asked.table)) → ArePlaced window.kind spans
        → ((name : Name) (item : TableItem) → names.get store.catalog.tables name ≡ Some item → item.number ≡ asked.table
        → AllByRecursion (λ (span : Stretch). IsRowOf (column_types item.columns) span.row) spans)
        → AreGiven (Shows d oldest store) asked part spans
    given_shown window is spans reads placed typed = record {
      means = λ snapshots shows k.
          ap (λ (s : List Stretch). inside part k (places_of s k))
          (reads shows.stands.contents shows.stands.keeps ∙ ap (λ (w : RouteWindow). spans_in w (events_of shows.stands.contents asked.table)) is)
          ∙ means snapshots shows k;
      joined = λ snapshots shows.
          subst (λ (s : List Stretch). AreJoined asked.kind s)
          (sym (reads shows.stands.contents shows.stands.keeps ∙ ap (λ (w : RouteWindow). spans_in w (events_of shows.stands.contents asked.table)) is))
          (spans_joined (window_of asked part) (events_of shows.stands.contents asked.table) ((meant_there snapshots shows).runs asked.route));
      placed = subst (λ (w : RouteWindow). ArePlaced w.kind spans) is placed;
      wide = wide_rows spans typed;
    }

    -- the same of those that have a value
    pub value_shown : (window : RouteWindow) → window ≡ window_of asked part → (key : IndexKey) (sought : SoughtValue) → key.table ≡ asked.table → key.column ≡ sought.column → (spans : List Stretch)
        → ((contents : Contents) → Keeps d store contents → GivesValue store.file key (literal_datum sought.value.now) window (events_of contents key.table) spans) → ArePlaced window.kind spans
        → ((name : Name) (item : TableItem) → names.get store.catalog.tables name ≡ Some item → item.number ≡ key.table
        → AllByRecursion (λ (span : Stretch). IsRowOf (column_types item.columns) span.row) spans)
        → AreGivenOfValue (Shows d oldest store) asked part sought spans
    value_shown window is key sought of_table of_column spans gives placed typed = record {
      means = λ snapshots shows k.
          let contents = shows.stands.contents in
          let events = events_of contents asked.table in
          let datum = literal_datum sought.value.now in
          let all = ap (keep (has_value sought)) (ap (λ (w : RouteWindow). inside part k (places_of (spans_in w events) k)) is ∙ means snapshots shows k) in
          elim (gives contents shows.stands.keeps) [
            | inl those ↦
                ap (λ (s : List Stretch). keep (has_value sought) (inside part k (places_of s k)))
                (those ∙ ap (λ (n : ℕ). spans_with key.column datum window (events_of contents n)) of_table ∙ ap (λ (n : ℕ). spans_with n datum window events) of_column)
                ∙ keep_inside (has_value sought) part k (places_of (spans_with sought.column datum window events) k) (places_of (spans_in window events) k) (kept_of_value sought window events k)
                ∙ all
            | inr every ↦
                ap (λ (s : List Stretch). keep (has_value sought) (inside part k (places_of s k))) (every.1 ∙ ap (λ (n : ℕ). spans_in window (events_of contents n)) of_table)
                ∙ all
          ];
      joined = λ snapshots shows.
          let contents = shows.stands.contents in
          let events = events_of contents asked.table in
          let datum = literal_datum sought.value.now in
          let runs = (meant_there snapshots shows).runs asked.route in
          elim (gives contents shows.stands.keeps) [
            | inl those ↦
                subst (λ (s : List Stretch). AreJoined asked.kind s)
                (sym (those ∙ ap (λ (n : ℕ). spans_with key.column datum window (events_of contents n)) of_table ∙ ap (λ (w : RouteWindow). spans_with key.column datum w events) is))
                (value_joined (window_of asked part) events runs key.column datum)
            | inr every ↦
                subst (λ (s : List Stretch). AreJoined asked.kind s)
                (sym (every.1 ∙ ap (λ (n : ℕ). spans_in window (events_of contents n)) of_table ∙ ap (λ (w : RouteWindow). spans_in w events) is))
                (spans_joined (window_of asked part) events runs)
          ];
      placed = subst (λ (w : RouteWindow). ArePlaced w.kind spans) is placed;
      wide = wide_rows spans (λ name item at same. typed name item at (same ∙ sym of_table));
    }

-- where nothing is given, nothing has the value
pub none_of_value : (stands : Snapshots → Type 0) (asked : Asked) (part : Part) (sought : SoughtValue) (spans : List Stretch) → AreGiven stands asked part spans → AreGivenOfValue stands asked part sought spans
none_of_value stands asked part sought spans given = record {
  means = λ snapshots is k. ap (keep (has_value sought)) (given.means snapshots is k);
  joined = given.joined;
  placed = given.placed;
  wide = given.wide;
}
