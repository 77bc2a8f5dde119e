-- Each command of a dump of a lawful state is sound.
use Rattle.std.proofs.Common.{◌≡◌, ◌∙◌, ℕ, zero, suc, ◌-◌, ◌<◌, ◌≤◌, true, List, [], ◌∷◌, length, map, Option, Some, refl, sym, ap, subst, arith}
use Rattle.std.specs.List.{AllByRecursion}
use Rattle.std.specs.FinMap as names
use Rattle.rs_measure.specs.declared.measure.TheConstants.{GREATEST_MEASURE}
use Rattle.rs_value.specs.declared.column.Kind.{Kind}
use Rattle.rs_value.specs.declared.column.Kind.TheVariants.{Point, Line}
use Rattle.rs_value.specs.declared.column.ColumnType.{ColumnType}
use Rattle.rs_value.specs.declared.column.ColumnType.TheVariants as types
use Rattle.rs_value.specs.Row.{Datum, Row, null, number, text}
use Rattle.rs_value.specs.Values.{AreValues, IsOfType, IsRowOf, IsValue}
use Rattle.rs_facts.specs.Fact.{Name, contains}
use Rattle.rs_facts.specs.Query.{Column, Piece, RouteEnds, Table, column_at, table_columns, table_kind}
use Rattle.rs_facts.specs.Runs.{IsMaximalRun, Stretch}
use Rattle.rs_facts.specs.WellFormed.{ArePiecesOn}
use Rattle.rs_planning.specs.Basis.{IndexedColumn}
use Rattle.rs_syntax.specs.Sound.{AreColumns, IsEventLocation, IsName, IsPiece, IsSound}
use Rattle.rs_syntax.specs.Tree.{CommandTree, QueryTree}
use Rattle.rs_machine.specs.State.{State}
use Rattle.rs_machine.specs.Checks.{column_types}
use Rattle.rs_machine.specs.Lawful.{IsLawful, MayHoldAt}
use Rattle.rs_dump_laws.specs.Dump.{IsDumpOf, alignment_command, commands_of, index_command, location_of, referent_command, route_command, row_command, table_command, view_command, written_piece}
use Rattle.rs_dump_laws.specs.Parts.{ArePartsOf, IsReferentOf, IsRunOf, IsUnder, Parts, PlacedReferent, PlacedRow}
use Rattle.rs_dump_laws.proofs.Alignments.{as_many_written}
use Rattle.rs_dump_laws.proofs.Lists.{all_append, all_map}
use Rattle.rs_dump_laws.proofs.NamedThings.{some_same}
use Rattle.rs_dump_laws.proofs.Rows.{first_held}

-- ---- values

value_of : (type : ColumnType) (datum : Datum) → IsOfType type datum → IsValue datum
value_of type null is = tt
value_of types.Int (number n) is = is
value_of types.Int (text bytes) is = elim is [ ]
value_of (types.Text most) (number n) is = elim is [ ]
value_of (types.Text most) (text bytes) is = is.0

values_of : (columns : List Column) (row : Row) → IsRowOf (column_types columns) row → AreValues row × (length row ≡ length columns)
values_of [] [] is = (tt, refl)
values_of [] (datum ∷ row) is = elim is [ ]
values_of (column ∷ columns) [] is = elim is [ ]
values_of (column ∷ columns) (datum ∷ row) is = let rest = values_of columns row is.1 in ((value_of column.1 datum is.0, rest.0), ap suc rest.1)

column_named : (columns : List Column) (place : ℕ) → place < length columns → AreColumns columns → IsName (column_at columns place).0
column_named [] place less are = absurd (omega arith)
column_named (column ∷ columns) zero less are = are.0
column_named (column ∷ columns) (suc place) less are = column_named columns place (omega arith) are.2

module _ (state : State) (lawful : IsLawful state) where
  -- a route that is there has a name, and its end is a measure
  route_sound : (route : Name) (ends : RouteEnds) → names.get state.routes route ≡ Some ends → IsName route × (ends.finish ≤ GREATEST_MEASURE)
  route_sound route ends there = let is = lawful.routes route ends there in (is.named, is.end_is_measure)

  -- ---- pieces

  pieces_sound : (pieces : List Piece) → ArePiecesOn state.routes pieces → AllByRecursion IsPiece (map written_piece pieces)
  pieces_sound [] are = tt
  pieces_sound (piece ∷ pieces) are =
      let is = are.0 in
      let first = route_sound piece.from_route is.first is.first_there in
      let second = route_sound piece.onto_route is.second is.second_there in
      let a = is.some in let b = is.upto_finish in let c = is.onto_finish in let d = first.1 in let e = second.1 in
      (record { from_route = first.0; from = omega arith; to = omega arith; onto_route = second.0; onto = omega arith }, pieces_sound pieces are.1)

  -- ---- rows

  -- where a run lies, a line can say
  location_sound : (kind : Kind) (table : Table) (route : Name) (ends : RouteEnds) (run : Stretch) → kind ≡ table.kind → IsMaximalRun table.kind (table.facts route) run → ends.finish ≤ GREATEST_MEASURE
      → ((k : ℕ) → contains (table.facts route k) run.row ≡ true → MayHoldAt table.kind k ends) → IsEventLocation (location_of kind run)
  location_sound kind table route ends run same is most lies = subst (λ k. IsEventLocation (location_of k run)) (sym same) (placed table.kind is lies)
    where
      placed : (k : Kind) → IsMaximalRun k (table.facts route) run → ((j : ℕ) → contains (table.facts route j) run.row ≡ true → MayHoldAt k j ends) → IsEventLocation (location_of k run)
      placed Line is lies =
          let some = is.some in
          let last = lies (run.hi - 1) (is.holds (run.hi - 1) (omega arith) (omega arith)) in
          (omega (arith, last.1), omega (arith, last.1))
      placed Point is lies = let at = lies run.lo is.holds in omega (arith, at.1)

  row_sound : (one : PlacedRow) → IsRunOf state one → IsSound (row_command state one)
  row_sound one is =
      let table = lawful.tables one.table is.table is.there in
      let fact = table.facts one.route one.span.lo one.span.row (first_held is.table.kind (is.table.facts one.route) one.span is.maximal) in
      let ends = fact.lies.ends in
      let route = route_sound one.route ends fact.lies.there in
      let lies : (k : ℕ) → contains (is.table.facts one.route k) one.span.row ≡ true → MayHoldAt is.table.kind k ends =
      λ k held. let other = table.facts one.route k one.span.row held in
      subst (MayHoldAt is.table.kind k) (some_same other.lies.ends ends (sym other.lies.there ∙ fact.lies.there)) other.lies.is_so in
      let values = values_of is.table.columns one.span.row fact.fits in
      let some = table.columns.some in let many = values.1 in
      (table.named, route.0, location_sound (table_kind (names.get state.tables one.table)) is.table one.route ends one.span (ap table_kind is.there) is.maximal route.1 lies, omega arith, values.0)

  -- ---- the others

  referent_sound : (one : PlacedReferent) → IsReferentOf state one → IsSound (referent_command one)
  referent_sound one under =
      let lies = (lawful.referents one.route one.name one.measure under).lies in
      let route = route_sound one.route lies.ends lies.there in
      let low = lies.is_so.1 in let most = route.1 in
      (route.0, lawful.referents_named.each one.route one.name one.measure under, omega arith)

  route_command_sound : (route : Name × RouteEnds) → IsUnder state.routes route → IsSound (route_command route)
  route_command_sound route under = let is = lawful.routes route.0 route.1 under in (is.named, is.start_is_measure, is.end_is_measure)

  table_sound : (table : Name × Table) → IsUnder state.tables table → IsSound (table_command table)
  table_sound table under = let is = lawful.tables table.0 table.1 under in (is.named, is.columns.some, is.columns.sound)

  alignment_sound : (alignment : Name × List Piece) → IsUnder state.alignments alignment → IsSound (alignment_command alignment)
  alignment_sound alignment under =
      let is = lawful.alignments alignment.0 alignment.1 under in
      let some = is.some in let many = as_many_written alignment.1 in
      (is.named, omega arith, pieces_sound alignment.1 is.lie)

  view_sound : (texts : Name → List ℕ) (view : Name × QueryTree) → IsUnder state.views view → IsSound (view_command texts view)
  view_sound texts view under = let is = (lawful.views.each view.0 view.1 under).is in (is.named, is.sound)

  index_sound : (index : Name × IndexedColumn) → IsUnder state.indexes index → IsSound (index_command state index)
  index_sound index under =
      let is = lawful.indexes index.0 index.1 under in
      let table = lawful.tables index.1.table is.table is.there in (
        is.named,
        table.named,
        subst (λ (o : Option Table). IsName (column_at (table_columns o) index.1.column).0) (sym is.there) (column_named is.table.columns index.1.column is.column table.columns.sound),
      )

  all_sound : (texts : Name → List ℕ) (parts : Parts) → ArePartsOf state parts → AllByRecursion IsSound (commands_of texts state parts)
  all_sound texts parts are =
      all_append IsSound (map route_command parts.routes) _ (all_map IsSound (IsUnder state.routes) route_command route_command_sound parts.routes are.routes.each)
      (all_append IsSound (map referent_command parts.referents) _ (all_map IsSound (IsReferentOf state) referent_command referent_sound parts.referents are.referents.each)
      (all_append IsSound (map table_command parts.tables) _ (all_map IsSound (IsUnder state.tables) table_command table_sound parts.tables are.tables.each)
      (all_append IsSound (map (row_command state) parts.rows) _ (all_map IsSound (IsRunOf state) (row_command state) row_sound parts.rows are.rows.each)
      (all_append IsSound (map alignment_command parts.alignments) _ (all_map IsSound (IsUnder state.alignments) alignment_command alignment_sound parts.alignments are.alignments.each)
      (all_append IsSound (map (view_command texts) parts.views) _ (all_map IsSound (IsUnder state.views) (view_command texts) (view_sound texts) parts.views are.views.each)
      (all_map IsSound (IsUnder state.indexes) (index_command state) index_sound parts.indexes are.indexes.each))))))

pub commands_sound : (texts : Name → List ℕ) (state : State) (commands : List CommandTree) → IsLawful state → IsDumpOf texts state commands → AllByRecursion IsSound commands
commands_sound texts state commands lawful dump = subst (AllByRecursion IsSound) (sym dump.are) (all_sound state lawful texts dump.parts dump.are_parts)
