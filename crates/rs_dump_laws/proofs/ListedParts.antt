-- The parts of a state, listed in the order of names, are all its parts.
use Rattle.std.proofs.Common.{◌≡◌, ◌≢◌, ◌∙◌, ℕ, Bool, true, false, ◌&&◌, cond, List, [], ◌∷◌, map, Some, None, refl, sym, ap, subst}
use Rattle.std.specs.Prelude.{Contains, flat_map}
use Rattle.std.specs.List.{AllByRecursion}
use Rattle.std.proofs.Math.Dec.{T}
use Rattle.std.specs.declared.cmp.Ordering.{Ordering}
use Rattle.std.specs.declared.cmp.Ordering.TheVariants.{Equal, Greater, Less}
use Rattle.std.specs.Ordering.{is_lt}
use Rattle.std.specs.Cmp.{tied_itself}
use Rattle.std.specs.FinMap as names
use Rattle.std.specs.FinMap.{entries_sorted, find, get-entries, is_sorted}
use Rattle.std.specs.FinMap.Entries.{below_all}
use Rattle.rs_facts.specs.Fact.{Name, Names, name_cmp}
use Rattle.rs_facts.specs.Insert.{same_name}
use Rattle.rs_facts.specs.Query.{RouteEnds, Table}
use Rattle.rs_facts.specs.Runs.{IsMaximalRun, Stretch}
use Rattle.rs_facts.specs.Spans as facts
use Rattle.rs_facts.specs.Spans.{AreAllRunsOf}
use Rattle.rs_syntax.specs.Tree.{QueryTree}
use Rattle.rs_machine.specs.State.{State}
use Rattle.rs_machine.specs.Lawful.{IsLawful}
use Rattle.rs_machine.proofs.NameOrder.{name_cmp-total}
use Rattle.rs_dump_laws.specs.Listed.{AreRunsOfTables, listed_parts, listed_referents, listed_rows, placed_referent, placed_row}
use Rattle.rs_dump_laws.specs.Parts.{AreAll, AreOnce, ArePartsOf, IsReferentOf, IsRunOf, IsUnder, NameViewsBefore, PlacedReferent, PlacedRow}
use Rattle.rs_dump_laws.proofs.Flat.{all_flat, all_mapped, all_same}
use Rattle.rs_dump_laws.proofs.Lists.{all_both, all_weaker, at_head, in_tail}
use Rattle.rs_dump_laws.proofs.NamedThings.{same_name-apart, same_name-itself, same_name-true, some_same}
use Rattle.rs_dump_laws.proofs.Rows.{first_held}

-- ---- what stands under names

both_of : (a b : Bool) → T (a && b) → T a × T b
both_of true b h = (tt, h)
both_of false b h = absurd h

less_than : (o : Ordering) → T (is_lt o) → o ≡ Less
less_than Less h = refl
less_than Equal h = absurd h
less_than Greater h = absurd h

-- names in order differ
before_differs : (a b : Name) → T (is_lt (name_cmp a b)) → a ≢ b
before_differs a b less same =
    let itself : name_cmp a a ≡ Equal = tied_itself name_cmp-total a in
    let wrong : Less ≡ Equal = sym (less_than (name_cmp a b) less) ∙ sym (ap (name_cmp a) same) ∙ itself in
    absurd (let w : Less ≡ Equal = wrong in cc)

abbrev Entries : Type 0 → Type 0
Entries X = List (Name × X)

module _ {X : Type 0} where
  below_differs : (name : Name) (list : Entries X) → T (below_all name_cmp name list) → AllByRecursion (λ entry. name ≢ entry.0) list
  below_differs name [] below = tt
  below_differs name (entry ∷ list) below =
      let parts = both_of (is_lt (name_cmp name entry.0)) (below_all name_cmp name list) below in
      (before_differs name entry.0 parts.0, below_differs name list parts.1)

  once_sorted : (list : Entries X) → T (is_sorted name_cmp list) → AreOnce list
  once_sorted [] sorted = tt
  once_sorted (entry ∷ list) sorted =
      let parts = both_of (below_all name_cmp entry.0 list) (is_sorted name_cmp list) sorted in
      (all_weaker (λ (other : Name × X). entry.0 ≢ other.0) (λ other. entry ≢ other) (λ other apart same. apart (ap (λ (e : Name × X). e.0) same)) list (below_differs entry.0 list parts.0), once_sorted list parts.1)

  found_later : (entry : Name × X) (list : Entries X) (other : Name × X) → entry.0 ≢ other.0 → find name_cmp other.0 list ≡ Some other.1 → find name_cmp other.0 (entry ∷ list) ≡ Some other.1
  found_later entry list other apart there =
      ap (λ b. cond b (Some entry.1) (find name_cmp other.0 list)) (same_name-apart other.0 entry.0 (λ same. apart (sym same))) ∙ there

  found_each : (list : Entries X) → T (is_sorted name_cmp list) → AllByRecursion (λ entry. find name_cmp entry.0 list ≡ Some entry.1) list
  found_each [] sorted = tt
  found_each (entry ∷ list) sorted =
      let parts = both_of (below_all name_cmp entry.0 list) (is_sorted name_cmp list) sorted in (
        ap (λ b. cond b (Some entry.1) (find name_cmp entry.0 list)) (same_name-itself entry.0),
        both (below_differs entry.0 list parts.0) (found_each list parts.1),
      )
    where
      both : AllByRecursion (λ (other : Name × X). entry.0 ≢ other.0) list → AllByRecursion (λ other. find name_cmp other.0 list ≡ Some other.1) list
          → AllByRecursion (λ other. find name_cmp other.0 (entry ∷ list) ≡ Some other.1) list
      both apart found = all_both (λ other. entry.0 ≢ other.0) (λ other. find name_cmp other.0 list ≡ Some other.1) (λ other. find name_cmp other.0 (entry ∷ list) ≡ Some other.1) (λ other a f. found_later entry list other a f) list apart found

  in_entries : (list : Entries X) (name : Name) (thing : X) → find name_cmp name list ≡ Some thing → Contains list (name, thing)
  in_entries [] name thing there = absurd (let wrong : None ≡ Some thing = there in cc)
  in_entries (entry ∷ list) name thing there =
      elim (same_name name entry.0) as (λ b. same_name name entry.0 ≡ b → cond b (Some entry.1) (find name_cmp name list) ≡ Some thing → Contains (entry ∷ list) (name, thing)) [
        | true ↦ λ same found.
            let name_is : entry.0 ≡ name = sym (same_name-true name entry.0 same) in
            let thing_is : entry.1 ≡ thing = some_same entry.1 thing found in
            subst (Contains (entry ∷ list)) (λ i. (name_is i, thing_is i)) (at_head entry list)
        | false ↦ λ apart found. in_tail entry (name, thing) list (in_entries list name thing found)
      ] refl there

  -- the entries of what stands under names are all of it
  pub entries_all : (things : Names X) → AreAll (IsUnder things) (names.entries things)
  entries_all things = record {
    once = once_sorted (names.entries things) (entries_sorted things);
    each = all_weaker (λ (entry : Name × X). find name_cmp entry.0 (names.entries things) ≡ Some entry.1) (IsUnder things) (λ entry found. get-entries things entry.0 ∙ found)
        (names.entries things) (found_each (names.entries things) (entries_sorted things));
    complete = λ entry is. in_entries (names.entries things) entry.0 entry.1 (sym (get-entries things entry.0) ∙ is);
  }

-- ---- referents

same_under : {X : Type 0} (things : Names X) (a b : Name × X) → IsUnder things a → IsUnder things b → a.0 ≡ b.0 → a ≡ b
same_under things a b is other same = let thing : a.1 ≡ b.1 = some_same a.1 b.1 (sym is ∙ ap (names.get things) same ∙ other) in λ i. (same i, thing i)

module _ (state : State) (lawful : IsLawful state) where
  abbrev IsReferentOn : Name × RouteEnds → PlacedReferent → Type 0
  IsReferentOn route one = (referent : Name × ℕ) × IsUnder (state.referents route.0) referent × (placed_referent route.0 referent ≡ one)

  on_one_route : (route : Name × RouteEnds) → AreAll (IsReferentOn route) (map (placed_referent route.0) (names.entries (state.referents route.0)))
  on_one_route route = all_mapped (placed_referent route.0) (IsUnder (state.referents route.0))
      (λ a b is other same. let name = ap (λ (r : PlacedReferent). r.name) same in let measure = ap (λ (r : PlacedReferent). r.measure) same in λ i. (name i, measure i))
      (names.entries (state.referents route.0)) (entries_all (state.referents route.0))

  referents_all : AreAll (IsReferentOf state) (listed_referents state)
  referents_all =
      all_same (λ one. (route : Name × RouteEnds) × IsUnder state.routes route × IsReferentOn route one) (IsReferentOf state) (listed_referents state)
      (λ one is. subst (IsReferentOf state) is.2.2 is.2.1)
      (λ one is. let lies = (lawful.referents one.route one.name one.measure is).lies in ((one.route, lies.ends), lies.there, ((one.name, one.measure), is, refl)))
      (all_flat (λ route. map (placed_referent route.0) (names.entries (state.referents route.0))) (IsUnder state.routes) IsReferentOn (λ route is. on_one_route route)
      (λ a b one is other on also. same_under state.routes a b is other (ap (λ (r : PlacedReferent). r.route) (on.2 ∙ sym also.2)))
      (names.entries state.routes) (entries_all state.routes))

  -- ---- rows

  once_again : (spans : List Stretch) → facts.AreOnce spans → AreOnce spans
  once_again [] once = tt
  once_again (span ∷ spans) once = (once.0, once_again spans once.1)

  module _ (spans : Name → Name → List Stretch) (runs : AreRunsOfTables state spans) where
    abbrev IsRowOn : Name × Table → Name × RouteEnds → PlacedRow → Type 0
    IsRowOn table route one = (span : Stretch) × IsMaximalRun table.1.kind (table.1.facts route.0) span × (placed_row table.0 route.0 span ≡ one)

    runs_on : (table : Name × Table) → IsUnder state.tables table → (route : Name × RouteEnds) → IsUnder state.routes route → AreAll (IsRowOn table route) (map (placed_row table.0 route.0) (spans table.0 route.0))
    runs_on table there route on =
        let all = runs table.0 table.1 there route.0 route.1 on in
        all_mapped (placed_row table.0 route.0) (IsMaximalRun table.1.kind (table.1.facts route.0)) (λ a b is other same. ap (λ (r : PlacedRow). r.span) same)
        (spans table.0 route.0) (record { once = once_again (spans table.0 route.0) all.once; each = all.maximal; complete = all.complete })

    abbrev IsRowOfTable : Name × Table → PlacedRow → Type 0
    IsRowOfTable table one = (route : Name × RouteEnds) × IsUnder state.routes route × IsRowOn table route one

    table_rows : (table : Name × Table) → IsUnder state.tables table → AreAll (IsRowOfTable table) (flat_map (λ route. map (placed_row table.0 route.0) (spans table.0 route.0)) (names.entries state.routes))
    table_rows table there =
        all_flat (λ route. map (placed_row table.0 route.0) (spans table.0 route.0)) (IsUnder state.routes) (IsRowOn table) (runs_on table there)
        (λ a b one is other on also. same_under state.routes a b is other (ap (λ (r : PlacedRow). r.route) (on.2 ∙ sym also.2)))
        (names.entries state.routes) (entries_all state.routes)

    told_back : (one : PlacedRow) → IsRunOf state one → (table : Name × Table) × IsUnder state.tables table × IsRowOfTable table one
    told_back one is =
        let fact = (lawful.tables one.table is.table is.there).facts one.route one.span.lo one.span.row (first_held is.table.kind (is.table.facts one.route) one.span is.maximal) in
        ((one.table, is.table), is.there, ((one.route, fact.lies.ends), fact.lies.there, (one.span, is.maximal, refl)))

    told : (one : PlacedRow) → (table : Name × Table) × IsUnder state.tables table × IsRowOfTable table one → IsRunOf state one
    told one is = subst (IsRunOf state) is.2.2.2 (record { table = is.0.1; there = is.1; maximal = is.2.2.1 })

    rows_all : AreAll (IsRunOf state) (listed_rows state spans)
    rows_all =
        all_same (λ one. (table : Name × Table) × IsUnder state.tables table × IsRowOfTable table one) (IsRunOf state) (listed_rows state spans) told told_back
        (all_flat (λ table. flat_map (λ route. map (placed_row table.0 route.0) (spans table.0 route.0)) (names.entries state.routes)) (IsUnder state.tables) IsRowOfTable table_rows
        (λ a b one is other of also. same_under state.tables a b is other (ap (λ (r : PlacedRow). r.table) (of.2.2 ∙ sym also.2.2)))
        (names.entries state.tables) (entries_all state.tables))

pub listed_all : (state : State) (spans : Name → Name → List Stretch) (views : List (Name × QueryTree)) → IsLawful state → AreRunsOfTables state spans → AreAll (IsUnder state.views) views → NameViewsBefore views
    → ArePartsOf state (listed_parts state spans views)
listed_all state spans views lawful runs all order = record {
  routes = entries_all state.routes;
  referents = referents_all state lawful;
  tables = entries_all state.tables;
  rows = rows_all state lawful spans runs;
  alignments = entries_all state.alignments;
  views = all;
  views_in_order = order;
  indexes = entries_all state.indexes;
}
