-- The spans of a part of a route mean what the version sees there.
use Rattle.std.proofs.Common.{◌≡◌, ◌≤◌, ◌<◌, ◌+◌, ◌-◌, ◌^◌, ◌∙◌, ℕ, Bool, true, false, cond, List, [], ◌∷◌, ap, filter, map, refl, sym, arith}
use Rattle.std.specs.List.{AllByRecursion}
use Rattle.rs_exec.specs.Given.{inside}
use Rattle.rs_exec.specs.declared.source.Part.{Part}
use Rattle.rs_table_reads.specs.Read.{spans_within}
use Rattle.rs_exec.specs.declared.source.Part.TheVariants as parts
use Rattle.rs_facts.specs.Fact.{Places, RowSet, none}
use Rattle.rs_facts.specs.Insert.{within}
use Rattle.rs_facts.specs.Operators.{windowed}
use Rattle.rs_facts.specs.Runs.{IsMaximalRun, LieWithin, Stretch}
use Rattle.rs_facts.specs.Spans.{places_of}
use Rattle.rs_facts.proofs.Placing.{within-bounds}
use Rattle.rs_measure.specs.declared.measure.TheConstants.{GREATEST_MEASURE}
use Rattle.rs_value.specs.declared.column.Kind.{Kind}
use Rattle.rs_value.specs.declared.column.Kind.TheVariants.{Line, Point}
use Rattle.rs_versioned.specs.Events.{Event, facts_at, is_on, is_visible, span_of, spans_at}
use Rattle.rs_versioned.specs.Runs.{AreRunsAt}
use Rattle.rs_versioned.proofs.Visible.{visible_within}
use Rattle.rs_store_source.specs.Shown.{behind_of, first_of}

-- what the laws say of spans within a stretch
abbrev pub NoneLeftOut : Type 0
NoneLeftOut = (kind : Kind) (version route from to : ℕ) (events : List Event) → AreRunsAt kind version route events
    → spans_within kind version route from to events ≡ map span_of (filter (is_visible version route from to) events)

abbrev pub RowsWithin : Type 0
RowsWithin = (kind : Kind) (version route from to : ℕ) (events : List Event) → AreRunsAt kind version route events
    → (k : ℕ) → from ≤ k → k < to → places_of (spans_within kind version route from to events) k ≡ facts_at version route events k

-- a run of what lies between two ends lies there
run_within : (kind : Kind) (places : Places) (to : ℕ) (run : Stretch) → LieWithin 0 to places → IsMaximalRun kind places run → (0 < run.hi) × (run.lo < to)
run_within Line places to run lie is = let some = is.some in (omega (arith, some), (lie run.lo run.row (is.holds run.lo (omega arith) some)).1)
run_within Point places to run lie is = let one = is.one in (omega (arith, one), (lie run.lo run.row is.holds).1)

events_within : (kind : Kind) (places : Places) (least to : ℕ) (events : List Event) → least ≤ to → LieWithin 0 least places → AllByRecursion (IsMaximalRun kind places) (map span_of events)
    → AllByRecursion (λ event. (0 < event.hi) × (event.lo < to)) events
events_within kind places least to [] more lie are = tt
events_within kind places least to (e ∷ es) more lie are =
    let one = run_within kind places least (span_of e) lie are.0 in
    ((one.0, omega (arith, one.1, more)), events_within kind places least to es more lie are.1)

module _ (left : NoneLeftOut) (rows : RowsWithin) (kind : Kind) (version route : ℕ) (events : List Event) (runs : AreRunsAt kind version route events)
    (lie : LieWithin 0 (GREATEST_MEASURE + 1) (facts_at version route events)) where
  -- those of the whole route are all that the version sees there
  pub spans_of_whole : spans_within kind version route 0 (2 ^ 32 - 1) events ≡ spans_at version route events
  spans_of_whole =
      left kind version route 0 (2 ^ 32 - 1) events runs
      ∙ ap (map span_of) (visible_within version route 0 (2 ^ 32 - 1) events
      (events_within kind (facts_at version route events) (GREATEST_MEASURE + 1) (2 ^ 32 - 1) (filter (is_on version route) events) (omega arith) lie runs.maximal))

  pub means_inside : (part : Part) (k : ℕ) → inside part k (places_of (spans_within kind version route (first_of part) (behind_of part) events) k) ≡ inside part k (facts_at version route events k)
  unfolding windowed
  means_inside parts.Whole k = ap (λ (spans : List Stretch). places_of spans k) spans_of_whole
  means_inside (parts.Between from to) k = by_test (within from to k) refl where
    by_test : (b : Bool) → within from to k ≡ b → windowed from to k (places_of (spans_within kind version route from to events) k) ≡ windowed from to k (facts_at version route events k)
    by_test true is = let ends = within-bounds from to k is in ap (λ (held : RowSet). cond (within from to k) held none) (rows kind version route from to events runs k ends.0 ends.1)
    by_test false is = ap (λ (b : Bool). cond b (places_of (spans_within kind version route from to events) k) none) is ∙ ap (λ (b : Bool). cond b (facts_at version route events k) none) (sym is)
