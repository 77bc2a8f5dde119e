-- The record count of a table is the number of its maximal runs.
use Rattle.std.proofs.Common.{◌≡◌, ◌≢◌, ℕ, ◌+◌, ◌≤◌, List, [], ◌∷◌, length, inl, inr, refl, sym, ap, ◌∙◌, arith}
use Rattle.std.specs.Prelude.{Contains, sum_by}
use Rattle.std.proofs.lemmas.List.Elements.{Contains-append_right}
use Rattle.std.proofs.lemmas.List.Sums.{sum_by-cons}
use Rattle.std.proofs.lemmas.List.Sorted.{IsPermutation-remove, Contains-permutation, length_permutation}
use Rattle.std.specs.FinMap as names
use Rattle.std.specs.List.{remove}
use Rattle.rs_value.specs.declared.column.Kind.{Kind}
use Rattle.rs_facts.specs.Fact.{Name, Places}
use Rattle.rs_facts.specs.Query.{RouteEnds, Table, facts_of, table_kind}
use Rattle.rs_facts.specs.Runs.{Stretch, AreOrdered, LieWithin, IsMaximalRun, runs_of}
use Rattle.rs_facts.specs.Spans.{AreOnce, AreAllRunsOf}
use Rattle.rs_facts.proofs.RunLaws.{cases_cons, each-at}
use Rattle.rs_facts.proofs.RunsOf.{runs_of-runs}
use Rattle.rs_facts.proofs.StretchOrder.{stretch_cmp-less_apart}
use Rattle.rs_planning.specs.Laws as laws
use Rattle.rs_planning.specs.Laws.{AreItsRuns}
use Rattle.rs_planning.proofs.Meeting.{every-weaker}

-- ---- lists of the same elements, each once, are of one length

once-shorter : (xs ys : List Stretch) → AreOnce xs → ((z : Stretch) → Contains xs z → Contains ys z) → length xs ≤ length ys
once-shorter [] ys once within = omega arith
once-shorter (x ∷ xs) ys once within =
    let at = within x (0, omega arith, refl) in
    let moved = IsPermutation-remove ys at.0 x at.1 (sym at.2) in
    let rest : length xs ≤ length (remove ys at.0) = once-shorter xs (remove ys at.0) once.1 (λ z among. elim (cases_cons x z (remove ys at.0) (Contains-permutation ys (x ∷ remove ys at.0) z moved (within z (Contains-append_right (x ∷ []) xs z among)))) [
      | inl same ↦ absurd (each-at (λ other. x ≢ other) xs z once.0 among same)
      | inr there ↦ there
    ]) in
    omega (arith, rest, length_permutation ys (x ∷ remove ys at.0) moved)

same-length : (kind : Kind) (places : Places) (xs ys : List Stretch) → AreAllRunsOf kind places xs → AreAllRunsOf kind places ys → length xs ≡ length ys
same-length kind places xs ys a b =
    let le = once-shorter xs ys a.once (λ z among. b.complete z (each-at (IsMaximalRun kind places) xs z a.maximal among)) in
    let ge = once-shorter ys xs b.once (λ z among. a.complete z (each-at (IsMaximalRun kind places) ys z b.maximal among)) in
    omega (arith, le, ge)

ordered-once : (xs : List Stretch) → AreOrdered xs → AreOnce xs
ordered-once [] h = tt
ordered-once (x ∷ xs) h = (every-weaker _ _ (λ later less. stretch_cmp-less_apart x later less) xs h.0, ordered-once xs h.1)

runs-counted : (kind : Kind) (places : Places) (from to : ℕ) (spans : List Stretch) → LieWithin from to places → AreAllRunsOf kind places spans → length (runs_of kind places from to) ≡ length spans
runs-counted kind places from to spans within all =
    let runs = runs_of-runs kind from to places within in
    same-length kind places (runs_of kind places from to) spans (record { once = ordered-once _ runs.ordered; maximal = runs.maximal; complete = runs.complete }) all

-- ---- on all routes

module _ (table : Table) (spans_on : Name → List Stretch) where
  on-routes : (routes : List (Name × RouteEnds)) → AreItsRuns table routes spans_on
      → sum_by (λ (route : Name × RouteEnds). length (runs_of table.kind (table.facts route.0) route.1.start (route.1.finish + 1))) routes ≡ sum_by (λ (route : Name × RouteEnds). length (spans_on route.0)) routes
  on-routes [] are = refl
  on-routes (route ∷ routes) are =
      sum_by-cons (λ (each : Name × RouteEnds). length (runs_of table.kind (table.facts each.0) each.1.start (each.1.finish + 1))) route routes
      ∙ (λ i. runs-counted table.kind (table.facts route.0) route.1.start (route.1.finish + 1) (spans_on route.0) are.0.1 are.0.0 i + on-routes routes are.1 i)
      ∙ sym (sum_by-cons (λ (each : Name × RouteEnds). length (spans_on each.0)) route routes)

pub records-are_runs : laws.RecordsAreRuns
records-are_runs world name table spans_on there are =
    ap (λ o. sum_by (λ (route : Name × RouteEnds). length (runs_of (table_kind o) (facts_of o route.0) route.1.start (route.1.finish + 1))) (names.entries world.routes)) there
    ∙ on-routes table spans_on (names.entries world.routes) are
