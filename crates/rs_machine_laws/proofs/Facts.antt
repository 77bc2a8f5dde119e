-- The facts of a lawful state: where a route is added or goes, and where rows are inserted or removed.
use Rattle.std.proofs.Common.{◌≡◌, ◌∙◌, ℕ, ◌+◌, ◌<◌, ◌≤◌, ◌⊎◌, inl, inr, Bool, true, false, ◌&&◌, not, List, [], ◌∷◌, Some, refl, sym, ap, subst, arith}
use Rattle.std.specs.Prelude.{if◌then◌else◌}
use Rattle.std.specs.List.{AllByRecursion, list_any}
use Rattle.std.specs.FinMap as names
use Rattle.std.proofs.lemmas.Bool.{and_parts, or_cases}
use Rattle.rs_value.specs.declared.column.Kind.{Kind}
use Rattle.rs_value.specs.declared.column.Kind.TheVariants.{Point, Line}
use Rattle.rs_value.specs.Row.{Row}
use Rattle.rs_value.specs.Values.{IsRowOf}
use Rattle.rs_facts.specs.Fact.{Name, Names, Places, RowSet, contains, items, keep, thousandths}
use Rattle.rs_facts.specs.Insert.{same_name, within, with_row, on_route, after_insert}
use Rattle.rs_facts.specs.Remove.{without_rows, after_remove}
use Rattle.rs_facts.specs.Operators.{are_none, has_none}
use Rattle.rs_facts.specs.Query.{RouteEnds, Column, Table}
use Rattle.rs_facts.proofs.Rows.{same_row, same_row-true}
use Rattle.rs_facts.proofs.Sets.{contains-none}
use Rattle.rs_facts.proofs.Placing.{within-bounds, contains-with_row}
use Rattle.rs_facts.proofs.Counting.{thousandths-first, thousandths-split}
use Rattle.rs_facts.proofs.RowSets.{contains-items, contains-keep}
use Rattle.rs_machine.specs.State.{has}
use Rattle.rs_machine.specs.Checks.{column_types}
use Rattle.rs_machine.specs.Step.{empty_table, has_fact_on, with_facts_along, without_facts}
use Rattle.rs_machine.specs.Lawful.{OnRoute, MayHoldAt, IsReferent, AreColumnsOfTable, IsTable}
use Rattle.rs_syntax.specs.Sound.{IsName}
use Rattle.rs_machine_laws.proofs.Names.{false_true, some_same, same_name-true, removed_other, on_route-more}
use Rattle.rs_machine_laws.proofs.Lists.{none_pass, all_back}

-- ---- one route more

pub referent-more : (routes : Names RouteEnds) (name : Name) (ends : RouteEnds) (route : Name) → has routes name ≡ false
    → (referent : Name) (measure : ℕ) → IsReferent routes route referent measure → IsReferent (names.insert routes name ends) route referent measure
referent-more routes name ends route new referent measure is = record { not_start = is.not_start; lies = on_route-more routes name ends route _ new is.lies }

pub table-more : (routes : Names RouteEnds) (name : Name) (ends : RouteEnds) → has routes name ≡ false
    → (q : Name) (table : Table) → IsTable routes q table → IsTable (names.insert routes name ends) q table
table-more routes name ends new q table is = record {
  named = is.named;
  columns = is.columns;
  facts = λ route k row held. let fact = is.facts route k row held in record { fits = fact.fits; lies = on_route-more routes name ends route _ new fact.lies };
}

-- ---- a table without facts

pub table-empty : (routes : Names RouteEnds) (name : Name) (kind : Kind) (columns : List Column) → IsName name → AreColumnsOfTable columns → IsTable routes name (empty_table kind columns)
table-empty routes name kind columns named are = record { named = named; columns = are; facts = λ route k row held. false_true (sym (contains-none row) ∙ held) }

-- ---- one row more

-- what holds after a row was put along a span: it does there, or it did before
record IsNew (route : Name) (from to : ℕ) (row : Row) (r : Name) (k : ℕ) (other : Row) : Type 0 where
  here : r ≡ route
  low : from ≤ k
  high : k < to
  is : row ≡ other

held_after : (facts : Name → Places) (route : Name) (from to : ℕ) (row : Row) (r : Name) (k : ℕ) (other : Row)
    → contains (after_insert facts route from to row r k) other ≡ true → IsNew route from to row r k other ⊎ (contains (facts r k) other ≡ true)
unfolding on_route
held_after facts route from to row r k other held =
    elim (same_name r route) as (λ same. same_name r route ≡ same → contains ((if same then with_row from to row (facts route) else facts r) k) other ≡ true → IsNew route from to row r k other ⊎ (contains (facts r k) other ≡ true)) [
      | true ↦ λ same there. elim (or_cases (within from to k && same_row row other) (contains (facts route k) other) (sym (contains-with_row from to row (facts route) k other) ∙ there)) [
        | inl new ↦
            let parts = and_parts (within from to k) (same_row row other) new in
            let bounds = within-bounds from to k parts.0 in
            inl (record { here = same_name-true r route same; low = bounds.0; high = bounds.1; is = same_row-true row other parts.1 })
        | inr old ↦ inr (ap (λ n. contains (facts n k) other) (same_name-true r route same) ∙ old)
      ]
      | false ↦ λ same there. inr there
    ] refl held

-- a row where rows of the table's kind may hold
pub row-along : (routes : Names RouteEnds) (name : Name) (table : Table) (route : Name) (ends : RouteEnds) (span : ℕ × ℕ) (row : Row)
    → names.get routes route ≡ Some ends → ((k : ℕ) → span.0 ≤ k → k < span.1 → MayHoldAt table.kind k ends) → IsRowOf (column_types table.columns) row
    → IsTable routes name table → IsTable routes name (with_facts_along table route span.0 span.1 row)
row-along routes name table route ends span row there lies fits is = record {
  named = is.named;
  columns = is.columns;
  facts = λ r k other held. elim (held_after table.facts route span.0 span.1 row r k other held) [
    | inl new ↦ record {
      fits = subst (IsRowOf (column_types table.columns)) new.is fits;
      lies = record { ends = ends; there = ap (names.get routes) new.here ∙ there; is_so = lies k new.low new.high };
    }
    | inr old ↦ let fact = is.facts r k other old in record { fits = fact.fits; lies = fact.lies }
  ];
}

-- ---- rows removed

-- what holds after rows were removed held before
held_before : (facts : Name → Places) (route : Name) (from to : ℕ) (goes : Row → Bool) (r : Name) (k : ℕ) (row : Row) → contains (after_remove facts route from to goes r k) row ≡ true → contains (facts r k) row ≡ true
unfolding on_route without_rows
held_before facts route from to goes r k row held =
    elim (same_name r route) as (λ same. same_name r route ≡ same → contains ((if same then (λ j. if within from to j then keep (λ x. not (goes x)) (facts route j) else facts route j) else facts r) k) row ≡ true → contains (facts r k) row ≡ true) [
      | true ↦ λ same there. ap (λ n. contains (facts n k) row) (same_name-true r route same) ∙ kept (within from to k) there
      | false ↦ λ same there. there
    ] refl held
  where
    kept : (inside : Bool) → contains (if inside then keep (λ x. not (goes x)) (facts route k) else facts route k) row ≡ true → contains (facts route k) row ≡ true
    kept true there = (and_parts (contains (facts route k) row) (not (goes row)) (sym (contains-keep (λ x. not (goes x)) (facts route k) row) ∙ there)).0
    kept false there = there

pub table-less : (routes : Names RouteEnds) (name : Name) (table : Table) (route : Name) (from to : ℕ) (goes : Row → Bool) → IsTable routes name table → IsTable routes name (without_facts table route from to goes)
table-less routes name table route from to goes is = record {
  named = is.named;
  columns = is.columns;
  facts = λ r k row held. let fact = is.facts r k row (held_before table.facts route from to goes r k row held) in record { fits = fact.fits; lies = fact.lies };
}

-- ---- one route less

-- from a route's start on and not beyond its end
pub upto_end : (kind : Kind) (k : ℕ) (ends : RouteEnds) → MayHoldAt kind k ends → (ends.start ≤ k) × (k < ends.finish + 1)
upto_end Line k ends h = (h.0, omega (arith, h.1))
upto_end Point k ends h = (h.0, omega (arith, h.1))

-- what no thousandth passes
at_thousandth : (test : ℕ → Bool) (from to k : ℕ) → from ≤ k → k < to → list_any test (thousandths from to) ≡ false → test k ≡ false
at_thousandth test from to k low high none =
    let is_so : ℕ → Type 0 = λ j. test j ≡ false in
    let all = none_pass test (thousandths from to) none in
    let later = all_back is_so (thousandths from k) (thousandths k to) (subst (AllByRecursion is_so) (thousandths-split from k to low (omega arith)) all) in
    (subst (AllByRecursion is_so) (thousandths-first k to high) later).0

not_false : (b : Bool) → not b ≡ false → b ≡ true
not_false true e = refl
not_false false e = false_true (sym e)

empty_has_none : (rows : RowSet) (row : Row) → has_none rows ≡ true → contains rows row ≡ true → ⊥
empty_has_none rows row none held = none_listed (items rows) none (sym (contains-items rows row) ∙ held)
  where
    none_listed : (list : List Row) → are_none list ≡ true → list_any (λ other. same_row other row) list ≡ true → ⊥
    none_listed [] none held = false_true held
    none_listed (first ∷ list) none held = false_true none

-- a fact stays on its route where a route without facts goes
stays : (routes : Names RouteEnds) (name : Name) (ends : RouteEnds) (table : Table) → names.get routes name ≡ Some ends → has_fact_on name ends table ≡ false
    → (route : Name) (k : ℕ) (row : Row) → contains (table.facts route k) row ≡ true → OnRoute routes route (MayHoldAt table.kind k) → OnRoute (names.remove routes name) route (MayHoldAt table.kind k)
stays routes name ends table there none route k row held on =
    elim (same_name route name) as (λ same. same_name route name ≡ same → OnRoute (names.remove routes name) route (MayHoldAt table.kind k)) [
      | true ↦ λ same.
          let here = same_name-true route name same in
          let is_ends : on.ends ≡ ends = some_same on.ends ends (sym on.there ∙ ap (names.get routes) here ∙ there) in
          let bounds = upto_end table.kind k ends (subst (MayHoldAt table.kind k) is_ends on.is_so) in
          let free = not_false (has_none (table.facts name k)) (at_thousandth (λ j. not (has_none (table.facts name j))) ends.start (ends.finish + 1) k bounds.0 bounds.1 none) in
          absurd (empty_has_none (table.facts name k) row free (ap (λ n. contains (table.facts n k) row) (sym here) ∙ held))
      | false ↦ λ same. record { ends = on.ends; there = removed_other routes name route same ∙ on.there; is_so = on.is_so }
    ] refl

pub table-route_gone : (routes : Names RouteEnds) (name : Name) (ends : RouteEnds) (q : Name) (table : Table) → names.get routes name ≡ Some ends → has_fact_on name ends table ≡ false
    → IsTable routes q table → IsTable (names.remove routes name) q table
table-route_gone routes name ends q table there none is = record {
  named = is.named;
  columns = is.columns;
  facts = λ route k row held. let fact = is.facts route k row held in record { fits = fact.fits; lies = stays routes name ends table there none route k row held fact.lies };
}

pub referent-route_gone : (routes : Names RouteEnds) (name route : Name) → same_name route name ≡ false
    → (referent : Name) (measure : ℕ) → IsReferent routes route referent measure → IsReferent (names.remove routes name) route referent measure
referent-route_gone routes name route other referent measure is = record {
  not_start = is.not_start;
  lies = record { ends = is.lies.ends; there = removed_other routes name route other ∙ is.lies.there; is_so = is.lies.is_so };
}
