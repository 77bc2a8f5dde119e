-- What a query's names and windows keep to where its checks passed.
use Rattle.std.proofs.Common.{◌≡◌, ◌∙◌, ℕ, ◌≤◌, true, false, ◌||◌, cond, List, [], ◌∷◌, ◌++◌, Option, Some, None, is_some, Ok, refl, sym, ap}
use Rattle.std.specs.Prelude.{IsTrue, nat_le}
use Rattle.std.specs.Ordering.{eq_by_cmp}
use Rattle.std.specs.Str.{bytes_eq}
use Rattle.std.specs.List.{AllByRecursion}
use Rattle.std.specs.FinMap as names
use Rattle.std.specs.FinMap.{find, get-entries}
use Rattle.std.proofs.lemmas.Bool.{leb-true, and_parts}
use Rattle.std.proofs.lemmas.Map.Text.{is_eq-slice_cmp}
use Rattle.rs_refusal.specs.declared.refusal.Refusal.TheVariants.{NoSuchRoute, NoSuchName, NoSuchReferent, Limit}
use Rattle.rs_methods.specs.Position.{PositionExpression, absolute, beyond, before, interpolative, start_name, measure_of, referent_measure, located_beyond, located_before}
use Rattle.rs_facts.specs.Fact.{Name, name_cmp}
use Rattle.rs_facts.specs.Insert.{same_name}
use Rattle.rs_facts.specs.Query.{RouteEnds, Query, Window}
use Rattle.rs_syntax.specs.Tree.{WindowTree, whole_route, part_of_route, QueryTree, named, filtered, dissolved, renamed, overlaid, covered, merged, subtracted, windowed, transformed, gapped}
use Rattle.rs_machine.specs.declared.limits.TheConstants.{NODES, DEPTH}
use Rattle.rs_machine.specs.State.{State, has}
use Rattle.rs_machine.specs.Checks.{unless, route_named, has_table_or_view, has_referent, position_on, span_on}
use Rattle.rs_machine.specs.Opening.{names_in, alignments_in, windows_in, opened, nodes, depth}
use Rattle.rs_machine.specs.Checking.{window_checked, names_known, alignments_known, fits_limits, nodes_checked, checked}
use Rattle.rs_machine.specs.Lawful.{AreKnown, AreAlignments, HasItsReferent, IsWindowOf}
use Rattle.rs_machine_laws.proofs.Names.{same_name-back}
use Rattle.rs_machine_laws.proofs.Checked.{err_ok, passed, was_found, then_ok}
use Rattle.rs_machine_laws.proofs.Lists.{all_append}
use Rattle.rs_machine_laws.proofs.Opening.{opened_windows}

-- ---- referents by name

-- the place of a referent by its name, as positions look it up
pub measure_found : (es : List (Name × ℕ)) (name : Name) → measure_of name es ≡ find name_cmp name es
unfolding name_cmp
measure_found [] name = refl
measure_found (e ∷ es) name =
    ap (λ b. cond b (Some e.1) (measure_of name es)) (sym (same_name-back name e.0 ∙ is_eq-slice_cmp e.0 name))
    ∙ ap (λ rest. cond (eq_by_cmp name_cmp name e.0) (Some e.1) rest) (measure_found es name)

same_bytes : (a b : Name) → same_name a b ≡ bytes_eq a b
unfolding name_cmp
same_bytes a b = is_eq-slice_cmp a b

-- a referent that has a place is there
referent_there : (state : State) (route : Name) (start : ℕ) (name : Name) (measure : ℕ) → referent_measure start (names.entries (state.referents route)) name ≡ Some measure → IsTrue (has_referent state route name)
referent_there state route start name measure there =
    elim (bytes_eq start_name name) as (λ same. bytes_eq start_name name ≡ same → cond same (Some start) (measure_of name (names.entries (state.referents route))) ≡ Some measure → IsTrue (has_referent state route name)) [
      | true ↦ λ same found. ap (λ b. b || has (state.referents route) name) (same_bytes start_name name ∙ same)
      | false ↦ λ same found.
          ap (λ b. b || has (state.referents route) name) (same_bytes start_name name ∙ same)
          ∙ ap is_some (get-entries (state.referents route) name ∙ sym (measure_found (names.entries (state.referents route)) name) ∙ found)
    ] refl there

beyond_has : (state : State) (route name : Name) (start finish : ℕ) (found : Option ℕ) (number measure : ℕ) → referent_measure start (names.entries (state.referents route)) name ≡ found
    → located_beyond start finish found number ≡ Ok measure → IsTrue (has_referent state route name)
beyond_has state route name start finish None number measure there e = err_ok NoSuchReferent measure e
beyond_has state route name start finish (Some at) number measure there e = referent_there state route start name at there

before_has : (state : State) (route name : Name) (start finish : ℕ) (found : Option ℕ) (number measure : ℕ) → referent_measure start (names.entries (state.referents route)) name ≡ found
    → located_before start finish found number ≡ Ok measure → IsTrue (has_referent state route name)
before_has state route name start finish None number measure there e = err_ok NoSuchReferent measure e
before_has state route name start finish (Some at) number measure there e = referent_there state route start name at there

position_has : (state : State) (route : Name) (ends : RouteEnds) (position : PositionExpression) (measure : ℕ) → position_on state route ends position ≡ Ok measure → HasItsReferent state route position
position_has state route ends (absolute number) measure e = tt
position_has state route ends (beyond name number) measure e = beyond_has state route name ends.start ends.finish (referent_measure ends.start (names.entries (state.referents route)) name) number measure refl e
position_has state route ends (before name number) measure e = before_has state route name ends.start ends.finish (referent_measure ends.start (names.entries (state.referents route)) name) number measure refl e
position_has state route ends (interpolative part) measure e = tt

-- ---- windows

pub route_there : (state : State) (route : Name) (ends : RouteEnds) → route_named state route ≡ Ok ends → IsTrue (has state.routes route)
route_there state route ends e = ap is_some (was_found (names.get state.routes route) NoSuchRoute ends e)

window_is : (state : State) (window : WindowTree) (located : Window) → window_checked state window ≡ Ok located → IsWindowOf state window
window_is state (whole_route route) located e = let on = then_ok (route_named state route) _ located e in route_there state route on.0 on.1
window_is state (part_of_route route from to) located e =
    let on = then_ok (route_named state route) _ located e in
    let span = then_ok (span_on state route on.0 from to) _ located on.2 in
    let first = then_ok (position_on state route on.0 from) _ span.0 span.1 in
    let second = then_ok (position_on state route on.0 to) _ span.0 first.2 in
    (route_there state route on.0 on.1, position_has state route on.0 from first.0 first.1, position_has state route on.0 to second.0 second.1)

both_windows : (state : State) (a b : QueryTree) → AllByRecursion (IsWindowOf state) (windows_in a) → AllByRecursion (IsWindowOf state) (windows_in b) → AllByRecursion (IsWindowOf state) (windows_in a ++ windows_in b)
both_windows state a b one other = all_append (IsWindowOf state) (windows_in a) (windows_in b) one other

nodes_windows : (state : State) (tree : QueryTree) (query : Query) → nodes_checked state tree ≡ Ok query → AllByRecursion (IsWindowOf state) (windows_in tree)
nodes_windows state (named name) query e = tt
nodes_windows state (filtered a condition) query e = let x = then_ok (nodes_checked state a) _ query e in nodes_windows state a x.0 x.1
nodes_windows state (dissolved a columns) query e = let x = then_ok (nodes_checked state a) _ query e in nodes_windows state a x.0 x.1
nodes_windows state (renamed a from to) query e = let x = then_ok (nodes_checked state a) _ query e in nodes_windows state a x.0 x.1
nodes_windows state (transformed a alignment) query e = let x = then_ok (nodes_checked state a) _ query e in nodes_windows state a x.0 x.1
nodes_windows state (gapped a) query e = let x = then_ok (nodes_checked state a) _ query e in nodes_windows state a x.0 x.1
nodes_windows state (overlaid a b) query e =
    let x = then_ok (nodes_checked state a) _ query e in let y = then_ok (nodes_checked state b) _ query x.2 in both_windows state a b (nodes_windows state a x.0 x.1) (nodes_windows state b y.0 y.1)
nodes_windows state (covered a b) query e =
    let x = then_ok (nodes_checked state a) _ query e in let y = then_ok (nodes_checked state b) _ query x.2 in both_windows state a b (nodes_windows state a x.0 x.1) (nodes_windows state b y.0 y.1)
nodes_windows state (merged a b) query e =
    let x = then_ok (nodes_checked state a) _ query e in let y = then_ok (nodes_checked state b) _ query x.2 in both_windows state a b (nodes_windows state a x.0 x.1) (nodes_windows state b y.0 y.1)
nodes_windows state (subtracted a b) query e =
    let x = then_ok (nodes_checked state a) _ query e in let y = then_ok (nodes_checked state b) _ query x.2 in both_windows state a b (nodes_windows state a x.0 x.1) (nodes_windows state b y.0 y.1)
nodes_windows state (windowed a window) query e =
    let x = then_ok (nodes_checked state a) _ query e in
    let w = then_ok (window_checked state window) _ query x.2 in
    all_append (IsWindowOf state) (windows_in a) (window ∷ []) (nodes_windows state a x.0 x.1) (window_is state window w.0 w.1, tt)

-- ---- the passes

known : (state : State) (list : List Name) (u : Unit {0}) → names_known state list ≡ Ok u → AreKnown state list
known state [] u e = tt
known state (name ∷ more) u e = let here = then_ok (unless (has_table_or_view state name) NoSuchName) _ u e in (passed (has_table_or_view state name) NoSuchName here.0 here.1, known state more u here.2)

aligned : (state : State) (list : List Name) (u : Unit {0}) → alignments_known state list ≡ Ok u → AreAlignments state list
aligned state [] u e = tt
aligned state (name ∷ more) u e = let here = then_ok (unless (has state.alignments name) NoSuchName) _ u e in (passed (has state.alignments name) NoSuchName here.0 here.1, aligned state more u here.2)

-- what the passes found
pub record IsChecked (state : State) (tree : QueryTree) (query : Query) : Type 0 where
  pub known : AreKnown state (names_in tree)
  pub alignments : AreAlignments state (alignments_in tree)
  pub windows : AllByRecursion (IsWindowOf state) (windows_in tree)
  pub few_nodes : nodes (opened state.views tree) ≤ NODES
  pub not_deep : depth (opened state.views tree) ≤ DEPTH
  pub passes : nodes_checked state (opened state.views tree) ≡ Ok query

own_windows : (state : State) (tree : QueryTree) → AllByRecursion (IsWindowOf state) (windows_in (opened state.views tree)) → AllByRecursion (IsWindowOf state) (windows_in tree)
unfolding opened
own_windows state tree all = opened_windows (IsWindowOf state) state.views (names.len state.views) tree all

pub checks-passed : (state : State) (tree : QueryTree) (query : Query) → checked state tree ≡ Ok query → IsChecked state tree query
checks-passed state tree query e =
    let first = then_ok (names_known state (names_in tree)) _ query e in
    let others = then_ok (alignments_known state (alignments_in tree)) _ query first.2 in
    let second = then_ok (unless (fits_limits (opened state.views tree)) Limit) _ query others.2 in
    let fits = and_parts (nat_le (nodes (opened state.views tree)) NODES) (nat_le (depth (opened state.views tree)) DEPTH) (passed (fits_limits (opened state.views tree)) Limit second.0 second.1) in
    record {
      known = known state (names_in tree) first.0 first.1;
      alignments = aligned state (alignments_in tree) others.0 others.1;
      windows = own_windows state tree (nodes_windows state (opened state.views tree) query second.2);
      few_nodes = leb-true (nodes (opened state.views tree)) NODES fits.0;
      not_deep = leb-true (depth (opened state.views tree)) DEPTH fits.1;
      passes = second.2;
    }
