-- What the machine answers where a check of a command fails, and where all pass.
use Rattle.std.proofs.Common.{◌≡◌, ℕ, ◌<◌, ◌≤◌, Bool, true, false, not, nat_lt, ◌||◌, ◌⊎◌, inr, Bor, List, length, Option, Some, None, Result, Ok, Err, refl, sym, ap, ◌∙◌, arith}
use Rattle.std.specs.Prelude.{is_some, nat_le, OnOk, IfErr}
use Rattle.std.specs.Option.{option_map, option_copied}
use Rattle.std.specs.FinMap as names
use Rattle.std.proofs.lemmas.Bool.Decides.{nat_tests}
use Rattle.rs_refusal.specs.declared.refusal.Refusal.{Refusal}
use Rattle.rs_refusal.specs.declared.refusal.Refusal.TheVariants.{NoSuchRoute, NoSuchName, NameTaken, ColumnTwice, EmptySpan, InUse, Limit}
use Rattle.rs_value.specs.declared.column.Kind.{Kind}
use Rattle.rs_value.specs.declared.column.TheConstants.{COLUMNS, ROW_BYTES}
use Rattle.rs_value.specs.Encoding.{row_width}
use Rattle.rs_facts.specs.Fact.{Name}
use Rattle.rs_facts.specs.Query.{Column, Piece, Query}
use Rattle.rs_syntax.specs.QueryView.{query_tree}
use Rattle.rs_syntax.specs.Tree.{QueryTree, PieceTree}
use Rattle.rs_machine.specs.Checking.{column_place, checked}
use Rattle.rs_machine.specs.declared.limits.TheConstants.{ROUTES, TABLES, INDEXES, VIEWS, ALIGNMENTS, PIECES}
use Rattle.rs_machine.specs.Checks.{◌>>=◌, unless, found, some_name_twice, column_names, column_types, pieces_checked}
use Rattle.rs_machine.specs.Opening.{names_query, names_route, names_alignment}
use Rattle.rs_machine.specs.State.{has, some_cursor}
use Rattle.rs_machine.specs.Step.{Effect, counted, may_change, index_defined, index_dropped, with_index, without_index, route_defined, table_defined, route_dropped, table_dropped, view_dropped, some_table, has_fact_on, with_route, with_table, empty_table, with_view, view_defined, without_route, without_table, without_view, alignment_defined, alignment_dropped, with_alignment, without_alignment}
use Rattle.rs_catalog.specs.Definitions.{RouteItem, TableItem, IndexItem, ViewItem, routes_of, indexed_column, table_from}
use Rattle.rs_catalog.specs.Uses.{some_view_query, some_piece_on}
use Rattle.rs_catalog.proofs.StateLaws.{get-routes_of, get-views_of, get-tables_from, get-indexes_of, len-routes_of, len-views_of, len-tables_from, len-indexes_of}
use Rattle.rs_cursor.specs.Held.{cursors_by}
use Rattle.rs_command_checks.specs.declared.checks.Checks.{Checks}
use Rattle.rs_command_checks.specs.Facts.{TellsOfFacts}
use Rattle.rs_command_checks.specs.States.{Unseen, state_by}

pub below-true : (a b : ℕ) → a < b → nat_lt a b ≡ true
below-true a b h = grind (arith, nat_tests)

pub below-false : (a b : ℕ) → b ≤ a → nat_lt a b ≡ false
below-false a b h = grind (arith, nat_tests)

upto-true : (a b : ℕ) → a ≤ b → nat_le a b ≡ true
upto-true a b h = grind (arith, nat_tests)

upto-false : (a b : ℕ) → b < a → nat_le a b ≡ false
upto-false a b h = grind (arith, nat_tests)

is_some-map : {X Y : Type 0} (f : X → Y) (o : Option X) → is_some (option_map f o) ≡ is_some o
is_some-map f None = refl
is_some-map f (Some x) = refl

pub none_there : {X : Type 0} (o : Option X) → is_some o ≡ false → o ≡ None
none_there None e = refl
none_there (Some x) e = cc

-- ---- what the state has under a name

module _ (checks : Checks) (unseen : Unseen) (name : Name) where
  pub has_route : (b : Bool) → is_some (names.get checks.catalog.now.routes name) ≡ b → has (state_by checks unseen).routes name ≡ b
  has_route b e = ap is_some (get-routes_of checks.catalog.now name) ∙ is_some-map _ (names.get checks.catalog.now.routes name) ∙ e

  pub has_table : (b : Bool) → is_some (names.get checks.catalog.now.tables name) ≡ b → has (state_by checks unseen).tables name ≡ b
  has_table b e = ap is_some (get-tables_from checks.catalog.now unseen.spans name) ∙ is_some-map _ (names.get checks.catalog.now.tables name) ∙ e

  pub has_view : (b : Bool) → is_some (names.get checks.catalog.now.views name) ≡ b → has (state_by checks unseen).views name ≡ b
  has_view b e = ap is_some (get-views_of checks.catalog.now name) ∙ is_some-map _ (names.get checks.catalog.now.views name) ∙ e

  pub has_either : (b : Bool) → b ≡ (has checks.catalog.now.tables name || has checks.catalog.now.views name) → (has (state_by checks unseen).tables name || has (state_by checks unseen).views name) ≡ b
  has_either b e = (λ i. has_table _ refl i || has_view _ refl i) ∙ sym e

  pub route_at : (item : RouteItem) → names.get checks.catalog.now.routes name ≡ Some item → names.get (state_by checks unseen).routes name ≡ Some item.ends
  route_at item there = get-routes_of checks.catalog.now name ∙ ap (option_map _) there

  pub no_route : names.get checks.catalog.now.routes name ≡ None → names.get (state_by checks unseen).routes name ≡ None
  no_route none = get-routes_of checks.catalog.now name ∙ ap (option_map _) none

  pub table_at : (item : TableItem) → names.get checks.catalog.now.tables name ≡ Some item → names.get (state_by checks unseen).tables name ≡ Some (table_from checks.catalog.now.routes unseen.spans item)
  table_at item there = get-tables_from checks.catalog.now unseen.spans name ∙ ap (option_map _) there

  pub no_table : names.get checks.catalog.now.tables name ≡ None → names.get (state_by checks unseen).tables name ≡ None
  no_table none = get-tables_from checks.catalog.now unseen.spans name ∙ ap (option_map _) none

  pub view_at : (item : ViewItem) → names.get checks.catalog.now.views name ≡ Some item → names.get (state_by checks unseen).views name ≡ Some (query_tree item.query)
  view_at item there = get-views_of checks.catalog.now name ∙ ap (option_map _) there

  pub no_view : names.get checks.catalog.now.views name ≡ None → names.get (state_by checks unseen).views name ≡ None
  no_view none = get-views_of checks.catalog.now name ∙ ap (option_map _) none

  pub has_index : (b : Bool) → is_some (names.get checks.catalog.now.indexes name) ≡ b → has (state_by checks unseen).indexes name ≡ b
  has_index b e = ap is_some (get-indexes_of checks.catalog.now name) ∙ is_some-map _ (names.get checks.catalog.now.indexes name) ∙ e

  pub index_at : (item : IndexItem) → names.get checks.catalog.now.indexes name ≡ Some item → names.get (state_by checks unseen).indexes name ≡ Some (indexed_column item)
  index_at item there = get-indexes_of checks.catalog.now name ∙ ap (option_map _) there

  pub no_index : names.get checks.catalog.now.indexes name ≡ None → names.get (state_by checks unseen).indexes name ≡ None
  no_index none = get-indexes_of checks.catalog.now name ∙ ap (option_map _) none

-- what `found` answers says what is there
pub found_some : {X : Type 0} (o : Option X) (refusal : Refusal) (x : X) → Ok x ≡ found o refusal → o ≡ Some x
found_some (Some y) refusal x e = cc
found_some None refusal x e = cc

pub found_none : {X : Type 0} (o : Option X) (refusal other : Refusal) → Err other ≡ found o refusal → (o ≡ None) × (other ≡ refusal)
found_none (Some y) refusal other e = cc
found_none None refusal other e = (refl, cc)

pub on_ok : {A B : Type 0} (r : Result A B) (P : Type 0) → P → OnOk r P
on_ok (Ok x) P p = p
on_ok (Err e) P p = tt

-- ---- a route's definition

module _ (checks : Checks) (unseen : Unseen) (name : Name) (start finish : ℕ) where
  abbrev Defined : Result Effect Refusal → Type 0
  Defined answer = route_defined (state_by checks unseen) name start finish ≡ answer

  pub route_taken : is_some (names.get checks.catalog.now.routes name) ≡ true → Defined (Err NameTaken)
  route_taken e = rw (has_route checks unseen name true e)

  pub route_empty : is_some (names.get checks.catalog.now.routes name) ≡ false → finish ≤ start → Defined (Err EmptySpan)
  route_empty e f = rw (has_route checks unseen name false e, below-false start finish f)

  pub route_too_many : is_some (names.get checks.catalog.now.routes name) ≡ false → start < finish → ROUTES ≤ names.len checks.catalog.now.routes → Defined (Err Limit)
  route_too_many e f g = rw (has_route checks unseen name false e, below-true start finish f, len-routes_of checks.catalog.now, below-false (names.len checks.catalog.now.routes) ROUTES g)

  -- after the checks comes that of the changes
  pub route_checked : is_some (names.get checks.catalog.now.routes name) ≡ false → start < finish → names.len checks.catalog.now.routes < ROUTES
      → Defined (may_change (state_by checks unseen) >>= λ _. Ok (counted 0 (with_route (state_by checks unseen) name start finish)))
  route_checked e f g = rw (has_route checks unseen name false e, below-true start finish f, len-routes_of checks.catalog.now, below-true (names.len checks.catalog.now.routes) ROUTES g)

-- what comes after the check of the changes
pub may_ok : {X : Type 0} (checks : Checks) (unseen : Unseen) (next : X) → Ok tt ≡ may_change (state_by checks unseen) → (may_change (state_by checks unseen) >>= λ _. Ok next) ≡ Ok next
may_ok checks unseen next e = ap (λ (r : Result (Unit {0}) Refusal). r >>= λ _. Ok next) (sym e)

pub may_err : {X : Type 0} (checks : Checks) (unseen : Unseen) (next : X) (refusal : Refusal) → Err refusal ≡ may_change (state_by checks unseen) → (may_change (state_by checks unseen) >>= λ _. Ok next) ≡ Err refusal
may_err checks unseen next refusal e = ap (λ (r : Result (Unit {0}) Refusal). r >>= λ _. Ok next) (sym e)

-- ---- a table's definition

module _ (checks : Checks) (unseen : Unseen) (kind : Kind) (name : Name) (columns : List Column) where
  abbrev Tabled : Result Effect Refusal → Type 0
  Tabled answer = table_defined (state_by checks unseen) kind name columns ≡ answer

  abbrev IsTaken : Bool → Type 0
  IsTaken b = b ≡ (has checks.catalog.now.tables name || has checks.catalog.now.views name)

  pub table_taken : IsTaken true → Tabled (Err NameTaken)
  table_taken e = rw (has_either checks unseen name true e)

  pub table_column_twice : IsTaken false → some_name_twice (column_names columns) ≡ true → Tabled (Err ColumnTwice)
  table_column_twice e f = rw (has_either checks unseen name false e, f)

  pub table_too_wide : IsTaken false → some_name_twice (column_names columns) ≡ false → COLUMNS < length columns → Tabled (Err Limit)
  table_too_wide e f g = rw (has_either checks unseen name false e, f, upto-false (length columns) COLUMNS g)

  pub table_rows_wide : IsTaken false → some_name_twice (column_names columns) ≡ false → length columns ≤ COLUMNS → ROW_BYTES < row_width (column_types columns) → Tabled (Err Limit)
  table_rows_wide e f g n = rw (has_either checks unseen name false e, f, upto-true (length columns) COLUMNS g, upto-false (row_width (column_types columns)) ROW_BYTES n)

  pub table_too_many : IsTaken false → some_name_twice (column_names columns) ≡ false → length columns ≤ COLUMNS → row_width (column_types columns) ≤ ROW_BYTES → TABLES ≤ names.len checks.catalog.now.tables
      → Tabled (Err Limit)
  table_too_many e f g n h =
      rw (has_either checks unseen name false e, f, upto-true (length columns) COLUMNS g, upto-true (row_width (column_types columns)) ROW_BYTES n, len-tables_from checks.catalog.now unseen.spans, below-false (names.len checks.catalog.now.tables) TABLES h)

  pub table_checked : IsTaken false → some_name_twice (column_names columns) ≡ false → length columns ≤ COLUMNS → row_width (column_types columns) ≤ ROW_BYTES → names.len checks.catalog.now.tables < TABLES
      → Tabled (may_change (state_by checks unseen) >>= λ _. Ok (counted 0 (with_table (state_by checks unseen) name (empty_table kind columns))))
  table_checked e f g n h =
      rw (has_either checks unseen name false e, f, upto-true (length columns) COLUMNS g, upto-true (row_width (column_types columns)) ROW_BYTES n, len-tables_from checks.catalog.now unseen.spans, below-true (names.len checks.catalog.now.tables) TABLES h)

-- ---- an index's definition

module _ (checks : Checks) (unseen : Unseen) (name of column : Name) where
  abbrev Indexed : Result Effect Refusal → Type 0
  Indexed answer = index_defined (state_by checks unseen) name of column ≡ answer

  pub index_of_no_table : names.get checks.catalog.now.tables of ≡ None → Indexed (Err NoSuchName)
  index_of_no_table none = rw (no_table checks unseen of none)

  module _ (item : TableItem) (there : names.get checks.catalog.now.tables of ≡ Some item) where
    pub index_of_no_column : (refusal : Refusal) → column_place item.columns column ≡ Err refusal → Indexed (Err refusal)
    index_of_no_column refusal off = rw (table_at checks unseen of item there, off)

    module _ (place : ℕ) (is : column_place item.columns column ≡ Ok place) where
      pub index_taken : is_some (names.get checks.catalog.now.indexes name) ≡ true → Indexed (Err NameTaken)
      index_taken e = rw (table_at checks unseen of item there, is, has_index checks unseen name true e)

      pub index_too_many : is_some (names.get checks.catalog.now.indexes name) ≡ false → INDEXES ≤ names.len checks.catalog.now.indexes → Indexed (Err Limit)
      index_too_many e f = rw (table_at checks unseen of item there, is, has_index checks unseen name false e, len-indexes_of checks.catalog.now, below-false (names.len checks.catalog.now.indexes) INDEXES f)

      pub index_checked : is_some (names.get checks.catalog.now.indexes name) ≡ false → names.len checks.catalog.now.indexes < INDEXES
          → Indexed (may_change (state_by checks unseen) >>= λ _. Ok (counted 0 (with_index (state_by checks unseen) name (record { table = of; column = place }))))
      index_checked e f = rw (table_at checks unseen of item there, is, has_index checks unseen name false e, len-indexes_of checks.catalog.now, below-true (names.len checks.catalog.now.indexes) INDEXES f)

-- ---- what is dropped

-- what the caller tells of facts on a route that is there
pub told : (checks : Checks) (unseen : Unseen) (name : Name) (item : RouteItem) (has_facts b : Bool) → names.get checks.catalog.now.routes name ≡ Some item
    → TellsOfFacts (state_by checks unseen) name has_facts → has_facts ≡ b → some_table (state_by checks unseen) (has_fact_on name item.ends) ≡ b
told checks unseen name item has_facts b there tells is = sym (tells item.ends (route_at checks unseen name item there)) ∙ is

module _ (checks : Checks) (unseen : Unseen) (name : Name) where
  pub drops_no_route : names.get checks.catalog.now.routes name ≡ None → route_dropped (state_by checks unseen) name ≡ Err NoSuchRoute
  drops_no_route none = rw (no_route checks unseen name none)

  module _ (item : RouteItem) (there : names.get checks.catalog.now.routes name ≡ Some item) where
    pub drops_used_route : some_table (state_by checks unseen) (has_fact_on name item.ends) ≡ true → route_dropped (state_by checks unseen) name ≡ Err InUse
    drops_used_route e = rw (route_at checks unseen name item there, e)

    pub drops_aligned_route : some_table (state_by checks unseen) (has_fact_on name item.ends) ≡ false → some_piece_on checks.catalog.now name ≡ true → route_dropped (state_by checks unseen) name ≡ Err InUse
    drops_aligned_route e f = rw (route_at checks unseen name item there, e, f)

    pub drops_seen_route : some_table (state_by checks unseen) (has_fact_on name item.ends) ≡ false → some_piece_on checks.catalog.now name ≡ false → some_view_query checks.catalog.now (names_route name) ≡ true → route_dropped (state_by checks unseen) name ≡ Err InUse
    drops_seen_route e g f = rw (route_at checks unseen name item there, e, g, f)

    pub drops_waited_route : some_table (state_by checks unseen) (has_fact_on name item.ends) ≡ false → some_piece_on checks.catalog.now name ≡ false → some_view_query checks.catalog.now (names_route name) ≡ false
        → some_cursor (cursors_by unseen.lines checks.cursors.now) ≡ true → route_dropped (state_by checks unseen) name ≡ Err InUse
    drops_waited_route e g f w = rw (route_at checks unseen name item there, e, g, f, w)

    pub drops_route : some_table (state_by checks unseen) (has_fact_on name item.ends) ≡ false → some_piece_on checks.catalog.now name ≡ false → some_view_query checks.catalog.now (names_route name) ≡ false → some_cursor (cursors_by unseen.lines checks.cursors.now) ≡ false
        → route_dropped (state_by checks unseen) name ≡ (may_change (state_by checks unseen) >>= λ _. Ok (counted 0 (without_route (state_by checks unseen) name)))
    drops_route e g f w = rw (route_at checks unseen name item there, e, g, f, w)

  pub drops_no_table : names.get checks.catalog.now.tables name ≡ None → table_dropped (state_by checks unseen) name ≡ Err NoSuchName
  drops_no_table none = rw (no_table checks unseen name none)

  module _ (item : TableItem) (there : names.get checks.catalog.now.tables name ≡ Some item) where
    pub drops_seen_table : some_view_query checks.catalog.now (names_query name) ≡ true → table_dropped (state_by checks unseen) name ≡ Err InUse
    drops_seen_table e = rw (table_at checks unseen name item there, e)

    pub drops_waited_table : some_view_query checks.catalog.now (names_query name) ≡ false → some_cursor (cursors_by unseen.lines checks.cursors.now) ≡ true → table_dropped (state_by checks unseen) name ≡ Err InUse
    drops_waited_table e w = rw (table_at checks unseen name item there, e, w)

    pub drops_table : some_view_query checks.catalog.now (names_query name) ≡ false → some_cursor (cursors_by unseen.lines checks.cursors.now) ≡ false → table_dropped (state_by checks unseen) name ≡ (may_change (state_by checks unseen) >>= λ _. Ok (counted 0 (without_table (state_by checks unseen) name)))
    drops_table e w = rw (table_at checks unseen name item there, e, w)

  pub drops_no_index : names.get checks.catalog.now.indexes name ≡ None → index_dropped (state_by checks unseen) name ≡ Err NoSuchName
  drops_no_index none = rw (no_index checks unseen name none)

  module _ (item : IndexItem) (there : names.get checks.catalog.now.indexes name ≡ Some item) where
    pub drops_waited_index : some_cursor (cursors_by unseen.lines checks.cursors.now) ≡ true → index_dropped (state_by checks unseen) name ≡ Err InUse
    drops_waited_index w = rw (index_at checks unseen name item there, w)

    pub drops_index : some_cursor (cursors_by unseen.lines checks.cursors.now) ≡ false → index_dropped (state_by checks unseen) name ≡ (may_change (state_by checks unseen) >>= λ _. Ok (counted 0 (without_index (state_by checks unseen) name)))
    drops_index w = rw (index_at checks unseen name item there, w)

  pub drops_no_view : names.get checks.catalog.now.views name ≡ None → view_dropped (state_by checks unseen) name ≡ Err NoSuchName
  drops_no_view none = rw (no_view checks unseen name none)

  module _ (item : ViewItem) (there : names.get checks.catalog.now.views name ≡ Some item) where
    pub drops_seen_view : some_view_query checks.catalog.now (names_query name) ≡ true → view_dropped (state_by checks unseen) name ≡ Err InUse
    drops_seen_view e = rw (view_at checks unseen name item there, e)

    pub drops_view : some_view_query checks.catalog.now (names_query name) ≡ false → view_dropped (state_by checks unseen) name ≡ (may_change (state_by checks unseen) >>= λ _. Ok (counted 0 (without_view (state_by checks unseen) name)))
    drops_view e = rw (view_at checks unseen name item there, e)

  pub drops_no_alignment : names.get checks.catalog.now.alignments name ≡ None → alignment_dropped (state_by checks unseen) name ≡ Err NoSuchName
  drops_no_alignment none = rw none

  module _ (pieces : List Piece) (there : names.get checks.catalog.now.alignments name ≡ Some pieces) where
    pub drops_seen_alignment : some_view_query checks.catalog.now (names_alignment name) ≡ true → alignment_dropped (state_by checks unseen) name ≡ Err InUse
    drops_seen_alignment e = rw (there, e)

    pub drops_alignment : some_view_query checks.catalog.now (names_alignment name) ≡ false → alignment_dropped (state_by checks unseen) name ≡ (may_change (state_by checks unseen) >>= λ _. Ok (counted 0 (without_alignment (state_by checks unseen) name)))
    drops_alignment e = rw (there, e)

-- ---- the check of the changes comes last

pub last_accepted : (checks : Checks) (unseen : Unseen) (answer : Result Effect Refusal) (next : Effect) (last : Result (Unit {0}) Refusal) → last ≡ may_change (state_by checks unseen)
    → answer ≡ (may_change (state_by checks unseen) >>= λ _. Ok next) → OnOk last (answer ≡ Ok next)
last_accepted checks unseen answer next (Ok x) e is = is ∙ may_ok checks unseen next e
last_accepted checks unseen answer next (Err refusal) e is = tt

pub last_refused : (checks : Checks) (unseen : Unseen) (answer : Result Effect Refusal) (next : Effect) (last : Result (Unit {0}) Refusal) → last ≡ may_change (state_by checks unseen)
    → answer ≡ (may_change (state_by checks unseen) >>= λ _. Ok next) → IfErr last (λ refusal. answer ≡ Err refusal)
last_refused checks unseen answer next (Ok x) e is = tt
last_refused checks unseen answer next (Err refusal) e is = is ∙ may_err checks unseen next refusal e

-- either memory was wanting or this
pub or_later : (last : Result (Unit {0}) Refusal) (wanting off : Refusal → Type 0) → IfErr last off → IfErr last (λ refusal. wanting refusal ⊎ off refusal)
or_later (Ok x) wanting off is = tt
or_later (Err refusal) wanting off is = inr is

-- ---- a view's definition

module _ (checks : Checks) (unseen : Unseen) (name : Name) (query : QueryTree) where
  abbrev Viewed : Result Effect Refusal → Type 0
  Viewed answer = view_defined (state_by checks unseen) name query ≡ answer

  pub view_unchecked : (refusal : Refusal) → checked (state_by checks unseen) query ≡ Err refusal → Viewed (Err refusal)
  view_unchecked refusal off = ap (λ (r : Result Query Refusal). r >>= λ _. unless (not (has (state_by checks unseen).tables name || has (state_by checks unseen).views name)) NameTaken >>= λ _. unless (nat_lt (names.len (state_by checks unseen).views) VIEWS) Limit >>= λ _. may_change (state_by checks unseen) >>= λ _. Ok (counted 0 (with_view (state_by checks unseen) name query))) off

  module _ (found : Query) (is : checked (state_by checks unseen) query ≡ Ok found) where
    behind : Viewed (unless (not (has (state_by checks unseen).tables name || has (state_by checks unseen).views name)) NameTaken >>= λ _. unless (nat_lt (names.len (state_by checks unseen).views) VIEWS) Limit >>= λ _. may_change (state_by checks unseen) >>= λ _. Ok (counted 0 (with_view (state_by checks unseen) name query)))
    behind = ap (λ (r : Result Query Refusal). r >>= λ _. unless (not (has (state_by checks unseen).tables name || has (state_by checks unseen).views name)) NameTaken >>= λ _. unless (nat_lt (names.len (state_by checks unseen).views) VIEWS) Limit >>= λ _. may_change (state_by checks unseen) >>= λ _. Ok (counted 0 (with_view (state_by checks unseen) name query))) is

    pub view_taken : true ≡ (has checks.catalog.now.tables name || has checks.catalog.now.views name) → Viewed (Err NameTaken)
    view_taken e = behind ∙ rw (has_either checks unseen name true e)

    pub view_too_many : false ≡ (has checks.catalog.now.tables name || has checks.catalog.now.views name) → VIEWS ≤ names.len checks.catalog.now.views → Viewed (Err Limit)
    view_too_many e f = behind ∙ rw (has_either checks unseen name false e, len-views_of checks.catalog.now, below-false (names.len checks.catalog.now.views) VIEWS f)

    pub view_checked : false ≡ (has checks.catalog.now.tables name || has checks.catalog.now.views name) → names.len checks.catalog.now.views < VIEWS
        → Viewed (may_change (state_by checks unseen) >>= λ _. Ok (counted 0 (with_view (state_by checks unseen) name query)))
    view_checked e f = behind ∙ rw (has_either checks unseen name false e, len-views_of checks.catalog.now, below-true (names.len checks.catalog.now.views) VIEWS f)

-- what a look-up that lends tells of what is there
pub lent_there : {X : Type 0} (lent : Option (Bor X)) (there : Option X) (none b : Bool) → option_copied lent ≡ there → is_some lent ≡ not none → none ≡ b → is_some there ≡ not b
lent_there lent there none b same is e = ap is_some (sym same) ∙ is_some-map (λ x. x.now) lent ∙ is ∙ ap not e

pub lent_is : {X : Type 0} (lent : Option (Bor X)) (there : Option X) (b : Bool) → option_copied lent ≡ there → is_some lent ≡ b → is_some there ≡ b
lent_is lent there b same is = ap is_some (sym same) ∙ is_some-map (λ x. x.now) lent ∙ is

pub some_of : {X : Type 0} (o : Option X) → is_some o ≡ true → (x : X) × (o ≡ Some x)
some_of None e = cc
some_of (Some x) e = (x, refl)

-- ---- an alignment's definition

module _ (checks : Checks) (unseen : Unseen) (name : Name) (written : List PieceTree) where
  abbrev Aligned : Result Effect Refusal → Type 0
  Aligned answer = alignment_defined (state_by checks unseen) name written ≡ answer

  pub alignment_taken : is_some (names.get checks.catalog.now.alignments name) ≡ true → Aligned (Err NameTaken)
  alignment_taken e = rw e

  pub alignment_checked : is_some (names.get checks.catalog.now.alignments name) ≡ false → names.len checks.catalog.now.alignments < ALIGNMENTS
      → length written ≤ PIECES → (pieces : List Piece) → pieces_checked (routes_of checks.catalog.now) written ≡ Ok pieces
      → Aligned (may_change (state_by checks unseen) >>= λ _. Ok (counted 0 (with_alignment (state_by checks unseen) name pieces)))
  alignment_checked new room e pieces is = rw (new, below-true (names.len checks.catalog.now.alignments) ALIGNMENTS room, upto-true (length written) PIECES e, is)
