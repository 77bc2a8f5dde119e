-- What a well-formed query has in a lawful state lies on the routes, so its printed runs are the maximal ones.
use Rattle.std.proofs.Common.{◌≡◌, ◌∙◌, ℕ, ◌+◌, ◌<◌, ◌≤◌, Bool, true, false, not, ◌&&◌, ◌||◌, List, ◌++◌, Option, Some, None, inl, inr, refl, sym, ap, subst, arith}
use Rattle.std.specs.Prelude.{if◌then◌else◌}
use Rattle.std.specs.List.{list_any}
use Rattle.std.specs.FinMap as names
use Rattle.std.proofs.lemmas.Bool.{and_parts, or_cases}
use Rattle.rs_value.specs.declared.column.Kind.{Kind}
use Rattle.rs_value.specs.declared.column.Kind.TheVariants.{Point, Line}
use Rattle.rs_value.specs.Row.{Row}
use Rattle.rs_facts.specs.Fact.{Name, Names, RowSet, none, contains, items}
use Rattle.rs_facts.specs.Insert.{same_name, within}
use Rattle.rs_facts.specs.Condition.{meets}
use Rattle.rs_facts.specs.Operators as operators
use Rattle.rs_facts.specs.Query.{RouteEnds, Table, Window, on_route, between, Query, table_rows, where_rows, dissolve_rows, rename_column, overlay_rows, cover_rows, merge_rows, minus_rows, window_rows, transform_rows, gaps_rows, facts_of, table_kind, seen_through, gapped_on, overlaid_kind, rows_at, kind_of}
use Rattle.rs_facts.specs.WellFormed.{IsPieceOn, IsWellFormed}
use Rattle.rs_facts.proofs.Gapping.{gaps-rows}
use Rattle.rs_facts.proofs.Transforming.{transformed-rows}
use Rattle.rs_facts.specs.Runs.{AreRunsOf}
use Rattle.rs_facts.specs.Laws.{GoingAlongGivesTheRuns}
use Rattle.rs_facts.proofs.Rows.{same_row}
use Rattle.rs_facts.proofs.Sets.{contains-none}
use Rattle.rs_facts.proofs.RowSets.{among-items, any_row, contains-mapped, contains-overlaid, contains-merged, contains-keep, contains-without, contains-windowed, contains-covered}
use Rattle.rs_machine.specs.State.{State, world_of}
use Rattle.rs_machine.specs.Step.{printed_runs}
use Rattle.rs_machine.specs.Lawful.{OnRoute, MayHoldAt, IsLawful}
use Rattle.rs_machine_laws.proofs.Names.{false_true, some_same}
use Rattle.rs_machine_laws.proofs.Lists.{of_each}
use Rattle.rs_machine_laws.proofs.Facts.{upto_end}

-- ---- where the operators' rows come from

-- some row of the set
record HasRow (rows : RowSet) : Type 0 where
  row : Row
  held : contains rows row ≡ true

from_mapped : (change : Row → Row) (rows : RowSet) (row : Row) → contains (operators.mapped change rows) row ≡ true → HasRow rows
from_mapped change rows row held = let one = among-items (λ from. same_row (change from) row) rows (sym (contains-mapped change rows row) ∙ held) in record { row = one.row; held = one.among }

from_dissolved : (columns : List ℕ) (rows : RowSet) (row : Row) → contains (operators.dissolved columns rows) row ≡ true → HasRow rows
unfolding operators.dissolved
from_dissolved columns rows row held = from_mapped (operators.chosen columns) rows row held

from_overlaid : (a b : RowSet) (row : Row) → contains (operators.overlaid a b) row ≡ true → HasRow a
from_overlaid a b row held =
    let one = among-items (λ x. list_any (λ y. same_row (x ++ y) row) (items b)) a (sym (contains-overlaid a b row) ∙ held) in record { row = one.row; held = one.among }

-- from either operand
from_covered : (P : Type 0) (m n : ℕ) (a b : RowSet) (row : Row) → (HasRow a → P) → (HasRow b → P) → contains (operators.covered m n a b) row ≡ true → P
from_covered P m n a b row one other held =
    let first = contains (operators.overlaid a b) row in
    let second = not (any_row b) && contains (operators.mapped (λ x. x ++ operators.nulls n) a) row in
    let third = not (any_row a) && contains (operators.mapped (λ y. operators.nulls m ++ y) b) row in
    elim (or_cases (first || second) third (sym (contains-covered m n a b row) ∙ held)) [
      | inl some ↦ elim (or_cases first second some) [
        | inl both ↦ one (from_overlaid a b row both)
        | inr left ↦ one (from_mapped (λ x. x ++ operators.nulls n) a row (and_parts (not (any_row b)) (contains (operators.mapped (λ x. x ++ operators.nulls n) a) row) left).1)
      ]
      | inr right ↦ other (from_mapped (λ y. operators.nulls m ++ y) b row (and_parts (not (any_row a)) (contains (operators.mapped (λ y. operators.nulls m ++ y) b) row) right).1)
    ]

from_seen : (window : Window) (route : Name) (k : ℕ) (rows : RowSet) (row : Row) → contains (seen_through window route k rows) row ≡ true → contains rows row ≡ true
from_seen (on_route name) route k rows row held = on (same_name name route) held
  where
    on : (same : Bool) → contains (if same then rows else none) row ≡ true → contains rows row ≡ true
    on true there = there
    on false there = false_true (sym (contains-none row) ∙ there)
from_seen (between name from to) route k rows row held = on (same_name name route) held
  where
    on : (same : Bool) → contains (if same then operators.windowed from to k rows else none) row ≡ true → contains rows row ≡ true
    on true there = (and_parts (within from to k) (contains rows row) (sym (contains-windowed from to k rows row) ∙ there)).1
    on false there = false_true (sym (contains-none row) ∙ there)

-- ---- rows lie on routes

-- where a row of the left operand may hold one of both may
overlaid_place : (kind other : Kind) (k : ℕ) (ends : RouteEnds) → MayHoldAt kind k ends → MayHoldAt (overlaid_kind kind other) k ends
overlaid_place Line Line k ends h = h
overlaid_place Line Point k ends h = (h.0, omega (arith, h.1))
overlaid_place Point Line k ends h = h
overlaid_place Point Point k ends h = h

-- below the end of a route both lines and points may hold
inside_place : (kind : Kind) (k : ℕ) (ends : RouteEnds) → ends.start ≤ k → k < ends.finish → MayHoldAt kind k ends
inside_place Line k ends low high = (low, high)
inside_place Point k ends low high = (low, omega arith)

table_rows-lie : (state : State) (name : Name) (found : Option Table) → names.get state.tables name ≡ found → IsLawful state → (route : Name) (k : ℕ) (row : Row)
    → contains (facts_of found route k) row ≡ true → OnRoute state.routes route (MayHoldAt (table_kind found) k)
table_rows-lie state name (Some table) there lawful route k row held = ((lawful.tables name table there).facts route k row held).lies
table_rows-lie state name None there lawful route k row held = false_true (sym (contains-none row) ∙ held)

gap-lies : (routes : Names RouteEnds) (route : Name) (k : ℕ) (rows : RowSet) (row : Row) (found : Option RouteEnds) → names.get routes route ≡ found
    → contains (gapped_on found k rows) row ≡ true → OnRoute routes route (MayHoldAt Line k)
gap-lies routes route k rows row (Some ends) there held =
    let gap = (gaps-rows ends.start ends.finish k rows row).0 held in record { ends = ends; there = there; is_so = (gap.from_start, gap.before_finish) }
gap-lies routes route k rows row None there held = false_true (sym (contains-none row) ∙ held)

module _ (state : State) (lawful : IsLawful state) (route : Name) (k : ℕ) where
  abbrev Lies : Query → Type 0
  Lies query = OnRoute state.routes route (MayHoldAt (kind_of (world_of state) query) k)

  abbrev here : Query → RowSet
  here query = rows_at (world_of state) query route k

  lie : (query : Query) (row : Row) → IsWellFormed (world_of state) query → contains (here query) row ≡ true → Lies query
  lie (table_rows name) row is held = table_rows-lie state name (names.get state.tables name) refl lawful route k row held
  lie (where_rows a condition) row is held = lie a row is (and_parts (contains (here a) row) (meets condition row) (sym (contains-keep (meets condition) (here a) row) ∙ held)).0
  lie (dissolve_rows a columns) row is held = let one = from_dissolved columns (here a) row held in lie a one.row is.0 one.held
  lie (rename_column a place name) row is held = lie a row is held
  lie (overlay_rows a b) row is held =
      let one = from_overlaid (here a) (here b) row held in
      let on = lie a one.row is.0 one.held in
      record { ends = on.ends; there = on.there; is_so = overlaid_place (kind_of (world_of state) a) (kind_of (world_of state) b) k on.ends on.is_so }
  lie (cover_rows m n a b) row is held =
      from_covered (Lies a) m n (here a) (here b) row
      (λ one. lie a one.row is.0 one.held)
      (λ other. subst (λ kind. OnRoute state.routes route (MayHoldAt kind k)) (sym is.5) (lie b other.row is.1 other.held))
      held
  lie (merge_rows a b) row is held = elim (or_cases (contains (here a) row) (contains (here b) row) (sym (contains-merged (here a) (here b) row) ∙ held)) [
    | inl one ↦ lie a row is.0 one
    | inr other ↦ subst (λ kind. OnRoute state.routes route (MayHoldAt kind k)) (sym is.2) (lie b row is.1 other)
  ]
  lie (minus_rows a b) row is held = lie a row is.0 (and_parts (contains (here a) row) (not (contains (here b) row)) (sym (contains-without (here a) (here b) row) ∙ held)).0
  lie (window_rows a window) row is held = lie a row is (from_seen window route k (here a) row held)
  lie (transform_rows a name pieces) row is held =
      let one = (transformed-rows pieces (rows_at (world_of state) a) route k row).0 held in
      let on = of_each (IsPieceOn state.routes) pieces one.piece is.1 one.of_pieces in
      let from = one.is_carried.after in let upto = one.is_carried.before in let there = one.is_carried.there in
      let start = on.onto_start in let finish = on.onto_finish in
      record {
        ends = on.second;
        there = ap (names.get state.routes) (sym one.onto_route) ∙ on.second_there;
        is_so = inside_place (kind_of (world_of state) a) k on.second (omega arith) (omega arith);
      }
  lie (gaps_rows a) row is held = gap-lies state.routes route k (here a) row (names.get state.routes route) refl held

pub rows-lie : (state : State) (query : Query) (route : Name) (k : ℕ) (row : Row) → IsLawful state → IsWellFormed (world_of state) query → contains (rows_at (world_of state) query route k) row ≡ true
    → OnRoute state.routes route (MayHoldAt (kind_of (world_of state) query) k)
rows-lie state query route k row lawful is held = lie state lawful route k query row is held

-- ---- printed runs

within_ends : (routes : Names RouteEnds) (route : Name) (ends : RouteEnds) (kind : Kind) (k : ℕ) → names.get routes route ≡ Some ends → OnRoute routes route (MayHoldAt kind k) → (ends.start ≤ k) × (k < ends.finish + 1)
within_ends routes route ends kind k there on = upto_end kind k ends (subst (MayHoldAt kind k) (some_same on.ends ends (sym on.there ∙ there)) on.is_so)

pub printed-maximal : GoingAlongGivesTheRuns → (state : State) (query : Query) (route : Name) (ends : RouteEnds) → IsLawful state → IsWellFormed (world_of state) query → names.get state.routes route ≡ Some ends
    → AreRunsOf (kind_of (world_of state) query) (rows_at (world_of state) query route) (printed_runs state query route ends)
printed-maximal along state query route ends lawful is there =
    along (kind_of (world_of state) query) (rows_at (world_of state) query route) ends.start (ends.finish + 1)
    (λ k row held. within_ends state.routes route ends (kind_of (world_of state) query) k there (rows-lie state query route k row lawful is held))
