-- The rows of a dump are accepted, in whatever order.
use Rattle.std.proofs.Common.{◌≡◌, ◌∙◌, ℕ, suc, ◌+◌, ◌-◌, ◌<◌, ◌≤◌, Bool, true, ◌==◌, not, List, [], ◌∷◌, length, map, min, Option, Some, None, Ok, refl, sym, ap, subst, arith}
use Rattle.std.specs.Prelude.{fold, if◌then◌else◌, nat_lt}
use Rattle.std.specs.List.{AllByRecursion}
use Rattle.std.specs.Option.{option_map}
use Rattle.std.specs.FinMap as names
use Rattle.std.proofs.lemmas.Bool.{and_from, eq-eqb, le-leb, lt-ltb}
use Rattle.rs_refusal.specs.declared.refusal.Refusal.TheVariants.{EmptySpan, NoSuchName, NoSuchRoute, PointOrLineWanted, TextTooLong, WrongValues}
use Rattle.rs_methods.specs.Position.{absolute}
use Rattle.rs_value.specs.declared.column.Kind.{Kind}
use Rattle.rs_value.specs.declared.column.Kind.TheVariants.{Point, Line}
use Rattle.rs_value.specs.declared.column.TheConstants.{TEXT_BYTES}
use Rattle.rs_value.specs.declared.column.ColumnType.{ColumnType}
use Rattle.rs_value.specs.declared.column.ColumnType.TheVariants as types
use Rattle.rs_value.specs.Fitting.{each_passes, has_room, has_type}
use Rattle.rs_value.specs.Row.{Datum, Row, null, number, text}
use Rattle.rs_value.specs.Values.{IsOfType, IsRowOf}
use Rattle.rs_facts.specs.Fact.{Name, Names, Places, contains}
use Rattle.rs_facts.specs.Insert.{new_facts}
use Rattle.rs_facts.specs.Query.{Column, RouteEnds, Table, table_kind}
use Rattle.rs_facts.specs.Runs.{IsMaximalRun, Stretch}
use Rattle.rs_syntax.specs.Sound.{AreColumns, IsColumnType}
use Rattle.rs_syntax.specs.Tree.{EventLocationTree}
use Rattle.rs_machine.specs.State.{State}
use Rattle.rs_machine.specs.Checks.{column_types, event_span, found, location_kind, no_refusal, position_on, row_fits, same_kind, unless}
use Rattle.rs_machine.specs.Lawful.{IsLawful, MayHoldAt}
use Rattle.rs_machine.specs.Step.{counted, may_change, row_inserted, with_facts_along, with_table}
use Rattle.rs_machine.specs.declared.limits.TheConstants.{CHANGES}
use Rattle.rs_dump_laws.specs.Accepted.{Accepted}
use Rattle.rs_dump_laws.specs.Dump.{location_of, row_command}
use Rattle.rs_dump_laws.specs.Parts.{IsRunOf, PlacedRow}
use Rattle.rs_dump_laws.proofs.NamedThings.{some_same}
use Rattle.rs_dump_laws.proofs.RowSteps.{changed, columns-changed, get-put_row, kind-changed, put_found, put_row, put_rows}
use Rattle.rs_dump_laws.proofs.Walks.{AreTaken, IsTaken, holds, is_found, lies_there, may, next_is, taken}

-- ---- a row of its columns fits

as_many : (columns : List Column) (row : Row) → IsRowOf (column_types columns) row → length (column_types columns) ≡ length row
as_many [] [] is = refl
as_many [] (datum ∷ row) is = elim is [ ]
as_many (column ∷ columns) [] is = elim is [ ]
as_many (column ∷ columns) (datum ∷ row) is = ap suc (as_many columns row is.1)

of_type : (columns : List Column) (row : Row) → IsRowOf (column_types columns) row → each_passes has_type (column_types columns) row ≡ true
of_type [] row is = refl
of_type (column ∷ columns) [] is = refl
of_type (column ∷ columns) (datum ∷ row) is = and_from (has_type column.1 datum) (each_passes has_type (column_types columns) row) (one column.1 datum is.0) (of_type columns row is.1)
  where
    one : (type : ColumnType) (datum : Datum) → IsOfType type datum → has_type type datum ≡ true
    one types.Int null fits = refl
    one (types.Text most) null fits = refl
    one types.Int (number n) fits = refl
    one types.Int (text bytes) fits = elim fits [ ]
    one (types.Text most) (number n) fits = elim fits [ ]
    one (types.Text most) (text bytes) fits = refl

has_enough : (columns : List Column) (row : Row) → AreColumns columns → IsRowOf (column_types columns) row → each_passes has_room (column_types columns) row ≡ true
has_enough [] row are is = refl
has_enough (column ∷ columns) [] are is = refl
has_enough (column ∷ columns) (datum ∷ row) are is = and_from (has_room column.1 datum) (each_passes has_room (column_types columns) row) (one column.1 datum are.1 is.0) (has_enough columns row are.2 is.1)
  where
    one : (type : ColumnType) (datum : Datum) → IsColumnType type → IsOfType type datum → has_room type datum ≡ true
    one types.Int datum sound fits = refl
    one (types.Text most) null sound fits = refl
    one (types.Text most) (number n) sound fits = refl
    one (types.Text most) (text bytes) sound fits = let short = fits.1 in let few = sound.1 in le-leb (length bytes) (min most TEXT_BYTES) (omega arith)

no_misfit : (many fit enough : Bool) → many ≡ true → fit ≡ true → enough ≡ true
    → no_refusal (if not many then Some WrongValues else if not fit then Some WrongValues else if not enough then Some TextTooLong else None) ≡ Ok tt
no_misfit many fit enough a b c = simp (a, b, c)

row_of_columns-fits : (columns : List Column) (row : Row) → AreColumns columns → IsRowOf (column_types columns) row → row_fits columns row ≡ Ok tt
row_of_columns-fits columns row are is =
    no_misfit (length (column_types columns) == length row) (each_passes has_type (column_types columns) row) (each_passes has_room (column_types columns) row)
    (eq-eqb (length (column_types columns)) (length row) (as_many columns row is)) (of_type columns row is) (has_enough columns row are is)

-- ---- a run is put where it is

own_kind : (kind : Kind) (span : Stretch) → same_kind kind (location_kind (location_of kind span)) ≡ true
own_kind Line span = refl
own_kind Point span = refl

-- the span of a run, whose first thousandth and last lie on the route
run_span : (state : State) (route : Name) (ends : RouteEnds) (kind : Kind) (places : Places) (run : Stretch) → IsMaximalRun kind places run
    → ((k : ℕ) → contains (places k) run.row ≡ true → MayHoldAt kind k ends) → event_span state route ends (location_of kind run) ≡ Ok (run.lo, run.hi)
run_span state route ends Line places run is lies =
    let some = is.some in
    let first = lies run.lo (is.holds run.lo (omega arith) some) in
    let last = lies (run.hi - 1) (is.holds (run.hi - 1) (omega arith) (omega arith)) in
    next_is (position_on state route ends (absolute run.lo)) run.lo _ (lies_there state route ends run.lo (first.0, omega (arith, first.1)))
    ∙ next_is (position_on state route ends (absolute run.hi)) run.hi _ (lies_there state route ends run.hi (omega (arith, first.0), omega (arith, last.1)))
    ∙ next_is (unless _ EmptySpan) tt _ (holds (nat_lt run.lo run.hi) EmptySpan (lt-ltb run.lo run.hi some))
run_span state route ends Point places run is lies =
    let one = is.one in
    let more : run.lo + 1 ≡ run.hi = omega arith in
    next_is (position_on state route ends (absolute run.lo)) run.lo _ (lies_there state route ends run.lo (lies run.lo is.holds))
    ∙ ap (λ hi. Ok (run.lo, hi)) more

-- some thousandth at which a run's row holds
pub first_held : (kind : Kind) (places : Places) (run : Stretch) → IsMaximalRun kind places run → contains (places run.lo) run.row ≡ true
first_held Line places run is = let some = is.some in is.holds run.lo (omega arith) some
first_held Point places run is = is.holds

-- ---- inserted

-- a row is inserted where its checks pass
inserted : (state : State) (name route : Name) (place : EventLocationTree) (row : Row) (ends : RouteEnds) (table : Table) (lo hi : ℕ)
    → names.get state.routes route ≡ Some ends → names.get state.tables name ≡ Some table → event_span state route ends place ≡ Ok (lo, hi)
    → same_kind table.kind (location_kind place) ≡ true → row_fits table.columns row ≡ Ok tt → state.changes < CHANGES
    → row_inserted state name route place row ≡ Ok (counted (new_facts table.facts route lo hi row) (with_table state name (with_facts_along table route lo hi row)))
inserted state name route place row ends table lo hi on there lies kinds fits room =
    next_is (found _ NoSuchRoute) ends _ (is_found (names.get state.routes route) NoSuchRoute ends on)
    ∙ next_is (found _ NoSuchName) table _ (is_found (names.get state.tables name) NoSuchName table there)
    ∙ next_is (event_span state route ends place) (lo, hi) _ lies
    ∙ next_is (unless _ PointOrLineWanted) tt _ (holds (same_kind table.kind (location_kind place)) PointOrLineWanted kinds)
    ∙ next_is (row_fits table.columns row) tt _ fits
    ∙ next_is (may_change state) tt _ (may state room)

-- a table of the same kind and columns is there
pub record IsStill (tables : Names Table) (name : Name) (table : Table) : Type 0 where
  pub other : Table
  pub there : names.get tables name ≡ Some other
  pub kind : other.kind ≡ table.kind
  pub columns : other.columns ≡ table.columns

still_after : (tables : Names Table) (one : PlacedRow) (name : Name) (table : Table) → IsStill tables name table → IsStill (put_row tables one) name table
still_after tables one name table still = record {
  other = changed name still.other one;
  there = get-put_row tables one name ∙ ap (option_map (λ t. changed name t one)) still.there;
  kind = kind-changed name still.other one ∙ still.kind;
  columns = columns-changed name still.other one ∙ still.columns;
}

-- `named` is the state of which they are the rows
module _ (named : State) (lawful : IsLawful named) where
  -- its tables are there, whatever rows they have
  abbrev pub HasItsTables : Names Table → Type 0
  HasItsTables tables = (name : Name) (table : Table) → names.get named.tables name ≡ Some table → IsStill tables name table

  abbrev place_row : State → PlacedRow → State
  place_row state one = record state { tables = put_row state.tables one; changes = state.changes + 1 }

  one_taken : (state : State) (one : PlacedRow) → state.routes ≡ named.routes → HasItsTables state.tables → IsRunOf named one → state.changes < CHANGES → IsTaken (row_command named) place_row state one
  one_taken state one same tables is room =
      let still = tables one.table is.table is.there in
      let facts = (lawful.tables one.table is.table is.there).facts in
      let fact = facts one.route one.span.lo one.span.row (first_held is.table.kind (is.table.facts one.route) one.span is.maximal) in
      let ends = fact.lies.ends in
      let on : names.get state.routes one.route ≡ Some ends = ap (λ rs. names.get rs one.route) same ∙ fact.lies.there in
      let kind : table_kind (names.get named.tables one.table) ≡ still.other.kind = ap table_kind is.there ∙ sym still.kind in
      let lies : (k : ℕ) → contains (is.table.facts one.route k) one.span.row ≡ true → MayHoldAt is.table.kind k ends =
      λ k held. let other = facts one.route k one.span.row held in
      subst (MayHoldAt is.table.kind k) (some_same other.lies.ends ends (sym other.lies.there ∙ fact.lies.there)) other.lies.is_so in
      let spans : event_span state one.route ends (location_of still.other.kind one.span) ≡ Ok (one.span.lo, one.span.hi) =
      ap (λ kind. event_span state one.route ends (location_of kind one.span)) still.kind ∙ run_span state one.route ends is.table.kind (is.table.facts one.route) one.span is.maximal lies in
      let columns = (lawful.tables one.table is.table is.there).columns.sound in
      let fits : row_fits still.other.columns one.span.row ≡ Ok tt = ap (λ columns. row_fits columns one.span.row) still.columns ∙ row_of_columns-fits is.table.columns one.span.row columns fact.fits in (
        new_facts still.other.facts one.route one.span.lo one.span.hi one.span.row,
        ap (λ kind. row_inserted state one.table one.route (location_of kind one.span) one.span.row) kind
            ∙ inserted state one.table one.route (location_of still.other.kind one.span) one.span.row ends still.other one.span.lo one.span.hi on still.there spans (own_kind still.other.kind one.span) fits room
            ∙ ap (λ (o : Option Table). Ok (counted (new_facts still.other.facts one.route one.span.lo one.span.hi one.span.row) (record state { tables = put_found state.tables one o; changes = state.changes + 1 })))
            (sym still.there),
      )

  all_taken : (state : State) (list : List PlacedRow) → state.routes ≡ named.routes → HasItsTables state.tables → AllByRecursion (IsRunOf named) list → state.changes + length list ≤ CHANGES
      → AreTaken (row_command named) place_row state list
  all_taken state [] same tables are room = tt
  all_taken state (one ∷ more) same tables are room = (
    one_taken state one same tables are.0 (omega arith),
    all_taken (place_row state one) more same (λ name table there. still_after state.tables one name table (tables name table there)) are.1 (omega arith),
  )

  abbrev with_rows : State → Names Table → ℕ → State
  with_rows state tables changes = record state { tables = tables; changes = changes }

  after_all : (state : State) (list : List PlacedRow) → fold place_row state list ≡ with_rows state (put_rows state.tables list) (state.changes + length list)
  after_all state [] = ap (with_rows state state.tables) (let e : state.changes ≡ state.changes + 0 = omega arith in e)
  after_all state (one ∷ more) =
      after_all (place_row state one) more
      ∙ ap (with_rows state (put_rows state.tables (one ∷ more))) (let e : state.changes + 1 + length more ≡ state.changes + length (one ∷ more) = omega arith in e)

  pub rows_accepted : (state : State) (list : List PlacedRow) → state.routes ≡ named.routes → HasItsTables state.tables → AllByRecursion (IsRunOf named) list → state.changes + length list ≤ CHANGES
      → Accepted state (map (row_command named) list) (with_rows state (put_rows state.tables list) (state.changes + length list))
  rows_accepted state list same tables are room =
      subst (Accepted state (map (row_command named) list)) (after_all state list) (taken (row_command named) place_row state list (all_taken state list same tables are room))
