-- Spans within a stretch, of a version that has just its runs.
use Rattle.std.proofs.Common.{◌≡◌, ◌+◌, ◌<◌, ◌≤◌, ◌==◌, ◌&&◌, ℕ, Bool, true, false, cond, nat_lt, List, [], ◌∷◌, map, filter, refl, ap, ◌∙◌, arith}
use Rattle.std.proofs.lemmas.Bool.{eq-eqb, lt-ltb}
use Rattle.std.specs.List.{AllByRecursion}
use Rattle.rs_facts.specs.Fact.{Places}
use Rattle.rs_facts.specs.Runs.{IsMaximalRun, Stretch}
use Rattle.rs_facts.specs.Spans.{places_of}
use Rattle.rs_facts.proofs.KeptLaws.{every-weaker}
use Rattle.rs_value.specs.declared.column.Kind.{Kind}
use Rattle.rs_value.specs.declared.column.Kind.TheVariants.{Line, Point}
use Rattle.rs_versioned.specs.Events.{Event, facts_at, is_on, is_visible, sees_event, span_of, spans_at}
use Rattle.rs_versioned.specs.Runs.{AreRunsAt}
use Rattle.rs_versioned.proofs.Visible.{visible_between}
use Rattle.rs_table_reads.specs.Read.{is_placed, spans_within}

-- a run is placed
run_placed : (kind : Kind) (places : Places) (run : Stretch) → IsMaximalRun kind places run → is_placed kind run ≡ true
run_placed Line places run is = lt-ltb run.lo run.hi is.some
run_placed Point places run is = let one = is.one in eq-eqb run.hi (run.lo + 1) (omega (arith, one))

-- where all pass a test, none is left out
all_stay : (test : Stretch → Bool) (spans : List Stretch) → AllByRecursion (λ span. test span ≡ true) spans → filter test spans ≡ spans
all_stay test [] all = refl
all_stay test (s ∷ spans) all = ap (λ t. cond t (s ∷ filter test spans) (filter test spans)) all.0 ∙ ap (λ l. s ∷ l) (all_stay test spans all.1)

-- what is said of all that a version sees on a route is said of what it sees of a stretch
module _ (P : Stretch → Type 0) (version route a b : ℕ) where
  abbrev on_route : List Event → List Event
  on_route events = filter (is_on version route) events

  abbrev in_stretch : List Event → List Event
  in_stretch events = filter (is_visible version route a b) events

  step : (on sees between : Bool) (e : Event) (es : List Event) → (AllByRecursion P (map span_of (on_route es)) → AllByRecursion P (map span_of (in_stretch es)))
      → AllByRecursion P (map span_of (cond (on && sees) (e ∷ on_route es) (on_route es))) → AllByRecursion P (map span_of (cond (on && between && sees) (e ∷ in_stretch es) (in_stretch es)))
  step false sees between e es more all = more all
  step true true true e es more all = (all.0, more all.1)
  step true true false e es more all = more all.1
  step true false true e es more all = more all
  step true false false e es more all = more all

  all_visible : (events : List Event) → AllByRecursion P (spans_at version route events) → AllByRecursion P (map span_of (in_stretch events))
  all_visible [] all = tt
  all_visible (e ∷ es) all = step (e.route == route) (sees_event version e) (nat_lt e.lo b && nat_lt a e.hi) e es (all_visible es) all

module _ (kind : Kind) (version route from to : ℕ) (events : List Event) (runs : AreRunsAt kind version route events) where
  pub none_left_out : spans_within kind version route from to events ≡ map span_of (filter (is_visible version route from to) events)
  none_left_out =
      let places = facts_at version route events in
      all_stay (is_placed kind) (map span_of (filter (is_visible version route from to) events))
      (all_visible (λ span. is_placed kind span ≡ true) version route from to events
      (every-weaker (IsMaximalRun kind places) (λ span. is_placed kind span ≡ true) (run_placed kind places) (spans_at version route events) runs.maximal))

  pub rows_within : (k : ℕ) → from ≤ k → k < to → places_of (spans_within kind version route from to events) k ≡ facts_at version route events k
  rows_within k first below = ap (λ (l : List Stretch). places_of l k) none_left_out ∙ visible_between version route from to k first below events
