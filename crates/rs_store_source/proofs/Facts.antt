-- A route has facts just where some table has spans on it.
use Rattle.std.proofs.Common.{◌≡◌, ◌≤◌, ◌<◌, ◌+◌, ◌-◌, ◌^◌, ◌||◌, ◌==◌, ◌∙◌, ℕ, zero, suc, Bool, true, false, not, Vec, vec_len, Some, None, List, [], ◌∷◌, ◌++◌, add-one, ap, get_or, length, map, refl, subst, sym, take, arith}
use Rattle.std.specs.FinMap as names
use Rattle.std.specs.List.{AllByRecursion, list_any}
use Rattle.std.specs.Option.{option_map}
use Rattle.std.proofs.lemmas.Bool.{false≢true}
use Rattle.std.proofs.lemmas.Bool.Decides.{nat_tests}
use Rattle.std.proofs.lemmas.List.{take_all, take_more}
use Rattle.std.proofs.lemmas.List.Elements.{All-contains, All-from_recursion}
use Rattle.std.proofs.lemmas.List.Folds.{list_any-append}
use Rattle.std.proofs.lemmas.Option.{none-some, same_Some}
use Rattle.rs_catalog.specs.Definitions.{Definitions, RouteItem, TableItem, table_from, tables_from}
use Rattle.rs_catalog.proofs.Names.{each_entry}
use Rattle.rs_catalog.proofs.StateLaws.{get-tables_from}
use Rattle.rs_disk.specs.declared.disk.Disk as disk
use Rattle.rs_facts.specs.Fact.{Name, Places, RowSet, contains, items, none, thousandths}
use Rattle.rs_facts.specs.Operators.{are_none, has_none}
use Rattle.rs_facts.specs.Query.{Table}
use Rattle.rs_facts.specs.Runs.{IsMaximalRun, LieWithin, Stretch}
use Rattle.rs_facts.specs.Spans.{AreAllRunsOf, places_of, seen}
use Rattle.rs_facts.specs.declared.fact.Span.{Span}
use Rattle.rs_file.specs.Contents.{Contents}
use Rattle.rs_file.specs.declared.opened.OpenedFile.{OpenedFile}
use Rattle.rs_table_reads.specs.Read.{spans_within}
use Rattle.rs_facts.proofs.Counting.{thousandths-first, thousandths-split}
use Rattle.rs_facts.proofs.RowSets.{contains-items}
use Rattle.rs_facts.proofs.Rows.{same_row, same_row-refl}
use Rattle.rs_facts.proofs.Sets.{contains-none}
use Rattle.rs_file_meaning.specs.Seen.{events_of, routes_at, spans_seen}
use Rattle.rs_machine.specs.State.{State}
use Rattle.rs_machine.specs.Step.{has_fact_on, some_table}
use Rattle.rs_pager.specs.Maps.{committed}
use Rattle.rs_store.specs.Kept.{Keeps, StandsIn, StoreState}
use Rattle.rs_store.proofs.Placed.{entry_there}
use Rattle.rs_value.specs.Row.{Row}
use Rattle.rs_value.specs.declared.column.Kind.{Kind}
use Rattle.rs_value.specs.declared.column.Kind.TheVariants.{Line, Point}
use Rattle.rs_versioned.specs.Events.{facts_at, spans_at}
use Rattle.rs_versioned.specs.Meant.{AreEventsMeant}
use Rattle.rs_store_source.specs.Reads.{Passes, SaysFactsOn}
use Rattle.rs_store_source.specs.Routes.{HasSpansOf, has_some, key_of, table_keys}
use Rattle.rs_store_source.specs.declared.routes.TableKey.{TableKey}
use Rattle.rs_store_source.proofs.Passing.{stands_on}
use Rattle.rs_store_source.proofs.States.{StateIs, any_first, any_more, facts_there, no_entry, some_entry, table_at}
use Rattle.rs_store_source.proofs.Tables.{all_lie, events_meant, lie_on}
use Rattle.rs_store_source.proofs.Within.{NoneLeftOut, RowsWithin, spans_of_whole}

-- ---- sets of rows

has_none-none : has_none none ≡ true
has_none-none = elim (items none) as (λ rows. items none ≡ rows → are_none rows ≡ true) [
  | [] ↦ λ e. refl
  | row ∷ rows ↦ λ e.
      absurd (false≢true (sym (contains-none row) ∙ contains-items none row ∙ ap (list_any (λ other. same_row other row)) e
      ∙ any_first (same_row row row) (list_any (λ other. same_row other row) rows) (same_row-refl row)))
] refl

has_none-some : (rows : RowSet) (row : Row) → contains rows row ≡ true → has_none rows ≡ false
has_none-some rows row holding = elim (items rows) as (λ list. items rows ≡ list → are_none list ≡ false) [
  | [] ↦ λ e. absurd (false≢true (sym (contains-items rows row ∙ ap (list_any (λ other. same_row other row)) e) ∙ holding))
  | first ∷ more ↦ λ e. refl
] refl

any_none : {X : Type 0} (test : X → Bool) (xs : List X) → ((x : X) → test x ≡ false) → list_any test xs ≡ false
any_none test [] off = refl
any_none test (x ∷ xs) off = ap (λ b. b || list_any test xs) (off x) ∙ any_none test xs off

some_thousandth : (test : ℕ → Bool) (from to k : ℕ) → from ≤ k → k < to → test k ≡ true → list_any test (thousandths from to) ≡ true
some_thousandth test from to k a b passes =
    ap (list_any test) (thousandths-split from k to a (omega arith)) ∙ list_any-append test (thousandths from k) (thousandths k to)
    ∙ any_more (list_any test (thousandths from k)) (list_any test (thousandths k to))
    (ap (list_any test) (thousandths-first k to b) ∙ any_first (test k) (list_any test (thousandths (suc k) to)) passes)

-- where a run begins, its row holds
run_holds : (kind : Kind) (places : Places) (run : Stretch) → IsMaximalRun kind places run → contains (places run.lo) run.row ≡ true
run_holds Line places run is = is.holds run.lo (omega arith) is.some
run_holds Point places run is = is.holds

-- ---- a table with its spans on a route

module _ (table : Table) (name : Name) (from to : ℕ) (places : Places) (facts : table.facts name ≡ places) where
  no_fact : places ≡ places_of [] → list_any (λ k. not (has_none (table.facts name k))) (thousandths from to) ≡ false
  no_fact empty =
      any_none (λ k. not (has_none (table.facts name k))) (thousandths from to) (λ k.
      ap (λ (p : Places). not (has_none (p k))) (facts ∙ empty) ∙ ap not has_none-none)

  a_fact : (kind : Kind) (spans : List Stretch) → AreAllRunsOf kind places spans → LieWithin from to places → has_some spans ≡ true
      → list_any (λ k. not (has_none (table.facts name k))) (thousandths from to) ≡ true
  a_fact kind [] runs lie some = absurd (false≢true some)
  a_fact kind (span ∷ spans) runs lie some =
      let held = run_holds kind places span runs.maximal.0 in
      let ends = lie span.lo span.row held in
      some_thousandth (λ k. not (has_none (table.facts name k))) from to span.lo ends.0 ends.1
      (ap (λ (p : Places). not (has_none (p span.lo))) facts ∙ ap not (has_none-some (places span.lo) span.row held))

has_none_of : (spans : List Stretch) → has_some spans ≡ false → spans ≡ []
has_none_of [] e = refl
has_none_of (span ∷ spans) e = absurd (false≢true (sym e))

each_mapped : {X Y : Type 0} (show : X → Y) (P : Y → Type 0) (xs : List X) → AllByRecursion P (map show xs) → AllByRecursion (λ x. P (show x)) xs
each_mapped show P [] all = tt
each_mapped show P (x ∷ xs) all = (all.0, each_mapped show P xs all.1)

-- ---- a store that stands in a state

module _ {D : Type 0} (d : disk.Ghosts D) (oldest : ℕ) (store : StoreState D) (state : State) (stands : StandsIn d oldest store state) where
  abbrev pub spans : ℕ → ℕ → List Stretch
  spans = spans_seen stands.contents store.file.accepted

  meant_at : (name : Name) (item : TableItem) → names.get store.catalog.tables name ≡ Some item
      → AreEventsMeant (routes_at stands.contents.directory.accepted stands.contents.definitions.routes) item.kind stands.contents.directory.accepted (events_of stands.contents item.number)
  meant_at name item there =
      events_meant (committed d store.pager) stands.contents store.catalog oldest stands.keeps.holds stands.meant stands.keeps.memory.catalog name item there stands.contents.directory.accepted stands.live (omega arith)

  pub runs_at : (name : Name) (item : TableItem) → names.get store.catalog.tables name ≡ Some item → (route : ℕ)
      → AreAllRunsOf item.kind (facts_at store.file.accepted route (events_of stands.contents item.number)) (spans item.number route)
  runs_at name item there route =
      subst (λ (version : ℕ). AreAllRunsOf item.kind (facts_at version route (events_of stands.contents item.number)) (spans_at version route (events_of stands.contents item.number))) stands.keeps.opened.accepted
      ((meant_at name item there).runs route)

  lie_at : (name : Name) (item : TableItem) → names.get store.catalog.tables name ≡ Some item → (route : Name) (on : RouteItem) → names.get store.catalog.routes route ≡ Some on
      → LieWithin on.ends.start (on.ends.finish + 1) (facts_at store.file.accepted on.number (events_of stands.contents item.number))
  lie_at name item there route on at =
      subst (λ (version : ℕ). LieWithin on.ends.start (on.ends.finish + 1) (facts_at version on.number (events_of stands.contents item.number))) stands.keeps.opened.accepted
      (lie_on (committed d store.pager) stands.contents store.catalog oldest stands.keeps.holds stands.meant stands.keeps.memory.catalog item.kind (events_of stands.contents item.number)
      (meant_at name item there) route on at)

  -- what is read of the whole route is what is seen there
  pub whole_read : NoneLeftOut → RowsWithin → (name : Name) (item : TableItem) → names.get store.catalog.tables name ≡ Some item → (route : ℕ)
      → spans_within item.kind store.file.accepted route 0 (2 ^ 32 - 1) (events_of stands.contents item.number) ≡ spans item.number route
  whole_read left rows name item there route =
      let events = events_of stands.contents item.number in
      let level = stands.contents.directory.accepted in
      let whole = spans_of_whole left rows item.kind level route events ((meant_at name item there).runs route)
      (all_lie (committed d store.pager) stands.contents store.catalog oldest stands.keeps.holds stands.meant stands.keeps.memory.catalog level item.kind events (meant_at name item there) route) in
      subst (λ (version : ℕ). spans_within item.kind version route 0 (2 ^ 32 - 1) events ≡ spans_at version route events) stands.keeps.opened.accepted whole

  module _ (state_is : StateIs d) (route : Name) (on : RouteItem) (at : names.get store.catalog.routes route ≡ Some on) where
    tables_are : state.tables ≡ tables_from store.catalog spans
    tables_are = ap (λ (s : State). s.tables) (state_is oldest store state stands)

    abbrev table_of : TableItem → Table
    table_of item = table_from store.catalog.routes spans item

    pub fact_on : (name : Name) (item : TableItem) → names.get store.catalog.tables name ≡ Some item → has_some (spans item.number on.number) ≡ true
        → some_table state (has_fact_on route on.ends) ≡ true
    fact_on name item there some =
        let facts = facts_there store.catalog spans item route on at in
        ap (λ tables. list_any (λ (e : Name × Table). has_fact_on route on.ends e.1) (names.entries tables)) tables_are
        ∙ some_entry (has_fact_on route on.ends) (tables_from store.catalog spans) name (table_of item) (table_at store.catalog spans name item there)
        (a_fact (table_of item) route on.ends.start (on.ends.finish + 1) (places_of (spans item.number on.number)) facts item.kind (spans item.number on.number)
        (runs_at name item there on.number) (lie_at name item there route on at) some)

    none_of : (name : Name) (item : TableItem) → AllByRecursion (λ (key : TableKey). has_some (spans key.number on.number) ≡ false) (table_keys store.catalog)
        → names.get store.catalog.tables name ≡ Some item → has_fact_on route on.ends (table_of item) ≡ false
    none_of name item all there =
        let each = each_mapped (λ (e : Name × TableItem). key_of e.1) (λ (key : TableKey). has_some (spans key.number on.number) ≡ false) (names.entries store.catalog.tables) all in
        let off = All-contains (λ (e : Name × TableItem). has_some (spans e.1.number on.number) ≡ false) (names.entries store.catalog.tables) (name, item)
        (All-from_recursion (λ (e : Name × TableItem). has_some (spans e.1.number on.number) ≡ false) (names.entries store.catalog.tables) each) (entry_there store.catalog.tables name item there) in
        no_fact (table_of item) route on.ends.start (on.ends.finish + 1) (places_of (spans item.number on.number)) (facts_there store.catalog spans item route on at)
        (ap places_of (has_none_of (spans item.number on.number) off))

    pub no_fact_on : AllByRecursion (λ (key : TableKey). has_some (spans key.number on.number) ≡ false) (table_keys store.catalog) → some_table state (has_fact_on route on.ends) ≡ false
    no_fact_on all =
        ap (λ tables. list_any (λ (e : Name × Table). has_fact_on route on.ends e.1) (names.entries tables)) tables_are
        ∙ no_entry (has_fact_on route on.ends) (tables_from store.catalog spans) (λ q table there.
        elim (names.get store.catalog.tables q) as (λ o. names.get store.catalog.tables q ≡ o → option_map table_of o ≡ Some table → has_fact_on route on.ends table ≡ false) [
          | None ↦ λ e f. absurd (none-some table f)
          | Some item ↦ λ e f. subst (λ (t : Table). has_fact_on route on.ends t ≡ false) (same_Some (table_of item) table f) (none_of q item all e)
        ] refl (sym (get-tables_from store.catalog spans q) ∙ there))

-- ---- one table after another

-- what was read of a table
some_items : (items : List Span) → not (length items == 0) ≡ has_some (map seen items)
some_items [] = refl
some_items (span ∷ more) = let other : (length more + 1 == 0) ≡ false = grind (arith, nat_tests) in ap (λ (n : ℕ). not (n == 0)) (sym (add-one (length more))) ∙ ap not other

some_read : {Z : Type 0} (read : Vec Span Z) (is_empty : Bool) (there : List Stretch) → is_empty ≡ (vec_len read == 0) → map seen read.items ≡ there → not is_empty ≡ has_some there
some_read read is_empty there empty are =
    let many : vec_len read ≡ length read.items = omega (arith, read.ok) in
    ap not empty ∙ ap (λ (n : ℕ). not (n == 0)) many ∙ some_items read.items ∙ ap has_some are

module _ {D : Type 0} (d : disk.Ghosts D) (left : NoneLeftOut) (rows : RowsWithin) where
  -- what was read of the whole route says whether there are spans
  pub read_says : {Z : Type 0} (store : StoreState D) (key : TableKey) (route version : ℕ) (read : Vec Span Z) (is_empty : Bool) → version ≡ store.file.accepted → is_empty ≡ (vec_len read == 0)
      → ((contents : Contents) → Keeps d store contents → map seen read.items ≡ spans_within key.kind version route 0 (2 ^ 32 - 1) (events_of contents key.number))
      → HasSpansOf d store key route (not is_empty)
  read_says store key route version read is_empty present empty reads = record {
    each = λ oldest state stands name item there is.
        let events = events_of stands.contents in
        some_read read is_empty (spans_seen stands.contents store.file.accepted item.number route) empty
        (reads stands.contents stands.keeps
        ∙ ap (λ (n : ℕ). spans_within key.kind n route 0 (2 ^ 32 - 1) (events key.number)) present
        ∙ ap (λ (k : TableKey). spans_within k.kind store.file.accepted route 0 (2 ^ 32 - 1) (events k.number)) (sym is)
        ∙ whole_read d oldest store state stands left rows name item there route);
  }

-- a table of the catalogue that has the key
pub record HasKey (definitions : Definitions) (key : TableKey) : Type 0 where
  pub name : Name
  pub item : TableItem
  pub there : names.get definitions.tables name ≡ Some item
  pub is : key_of item ≡ key

module _ (definitions : Definitions) where
  keys_are : (entries : List (Name × TableItem)) → AllByRecursion (λ e. names.get definitions.tables e.0 ≡ Some e.1) entries → AllByRecursion (HasKey definitions) (map (λ (e : Name × TableItem). key_of e.1) entries)
  keys_are [] each = tt
  keys_are (e ∷ es) each = (record { name = e.0; item = e.1; there = each.0; is = refl }, keys_are es each.1)

  pub key_at : (keys : List TableKey) (place : ℕ) (default : TableKey) → keys ≡ table_keys definitions → place < length keys → HasKey definitions (get_or keys place default)
  key_at keys place default are inside =
      of keys place (subst (λ (l : List TableKey). AllByRecursion (HasKey definitions) l) (sym are) (keys_are (names.entries definitions.tables) (each_entry definitions.tables))) inside where
        of : (keys : List TableKey) (place : ℕ) → AllByRecursion (HasKey definitions) keys → place < length keys → HasKey definitions (get_or keys place default)
        of [] place all inside = absurd (omega (arith, inside))
        of (key ∷ keys) zero all inside = all.0
        of (key ∷ keys) (suc place) all inside = of keys place all.1 (omega (arith, inside))

each_more : {X : Type 0} (P : X → Type 0) (xs : List X) (x : X) → AllByRecursion P xs → P x → AllByRecursion P (xs ++ x ∷ [])
each_more P [] x all one = (one, tt)
each_more P (y ∷ xs) x all one = (all.0, each_more P xs x all.1 one)

module _ {D : Type 0} (d : disk.Ghosts D) where
  -- what was read later holds of the store before
  says_before : (a b : StoreState D) → Passes d a b → (key : TableKey) (route : ℕ) (answer : Bool) → HasSpansOf d b key route answer → HasSpansOf d a key route answer
  says_before a b passes key route answer says = record {
    each = λ oldest state stands name item there is.
        says.each oldest state (stands_on d oldest a b passes state stands) name item (ap (λ (catalog : Definitions). names.get catalog.tables name) passes.keeps.catalog ∙ there) is
        ∙ ap (λ (file : OpenedFile). has_some (spans_seen stands.contents file.accepted item.number route)) passes.keeps.file;
  }

  module _ (a b : StoreState D) (passes : Passes d a b) (route : ℕ) (keys : List TableKey) (place : ℕ) (default : TableKey) (are : keys ≡ table_keys a.catalog) (inside : place < length keys) where
    -- whether the table has a span in a state
    spans_of_key : (answer : Bool) → HasSpansOf d b (get_or keys place default) route answer → (oldest : ℕ) (state : State) (stands : StandsIn d oldest a state)
        → answer ≡ has_some (spans_seen stands.contents a.file.accepted (get_or keys place default).number route)
    spans_of_key answer says oldest state stands =
        let has = key_at a.catalog keys place default are inside in
        (says_before a b passes (get_or keys place default) route answer says).each oldest state stands has.name has.item has.there has.is
        ∙ ap (λ (key : TableKey). has_some (spans_seen stands.contents a.file.accepted key.number route)) has.is

    pub found_says : StateIs d → (answer : Bool) → HasSpansOf d b (get_or keys place default) route answer → answer ≡ true → SaysFactsOn d a route true
    found_says state_is answer says is = record {
      each = λ oldest state stands name on at numbered.
          let has = key_at a.catalog keys place default are inside in
          let some : has_some (spans_seen stands.contents a.file.accepted has.item.number on.number) ≡ true =
          ap (λ (n : ℕ). has_some (spans_seen stands.contents a.file.accepted has.item.number n)) numbered
          ∙ ap (λ (key : TableKey). has_some (spans_seen stands.contents a.file.accepted key.number route)) has.is
          ∙ sym (spans_of_key answer says oldest state stands) ∙ is in
          sym (fact_on d oldest a state stands state_is name on at has.name has.item has.there some);
    }

    pub none_more : (answer : Bool) → HasSpansOf d b (get_or keys place default) route answer → answer ≡ false → (oldest : ℕ) (state : State) (stands : StandsIn d oldest a state)
        → AllByRecursion (λ (key : TableKey). has_some (spans_seen stands.contents a.file.accepted key.number route) ≡ false) (take place keys)
        → AllByRecursion (λ (key : TableKey). has_some (spans_seen stands.contents a.file.accepted key.number route) ≡ false) (take (place + 1) keys)
    none_more answer says is oldest state stands all =
        subst (AllByRecursion (λ (key : TableKey). has_some (spans_seen stands.contents a.file.accepted key.number route) ≡ false)) (sym (take_more keys place default inside))
        (each_more (λ (key : TableKey). has_some (spans_seen stands.contents a.file.accepted key.number route) ≡ false) (take place keys) (get_or keys place default) all
        (sym (spans_of_key answer says oldest state stands) ∙ is))

  pub none_says : StateIs d → (store : StoreState D) (route : ℕ) (keys : List TableKey) (place : ℕ) → keys ≡ table_keys store.catalog → length keys ≤ place
      → ((oldest : ℕ) (state : State) (stands : StandsIn d oldest store state) → AllByRecursion (λ (key : TableKey). has_some (spans_seen stands.contents store.file.accepted key.number route) ≡ false) (take place keys))
      → SaysFactsOn d store route false
  none_says state_is store route keys place are past none = record {
    each = λ oldest state stands name on at numbered.
        let off = subst (λ (n : ℕ). AllByRecursion (λ (key : TableKey). has_some (spans_seen stands.contents store.file.accepted key.number n) ≡ false) (table_keys store.catalog)) (sym numbered)
        (subst (AllByRecursion (λ (key : TableKey). has_some (spans_seen stands.contents store.file.accepted key.number route) ≡ false)) (take_all place keys past ∙ are) (none oldest state stands)) in
        sym (no_fact_on d oldest store state stands state_is name on at off);
  }
