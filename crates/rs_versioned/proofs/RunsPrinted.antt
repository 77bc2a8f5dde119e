-- Runs of places that are listed as they are printed, and those of a route in a window that has all of its facts.
use Rattle.std.proofs.Common.{◌≡◌, ◌<◌, ℕ, List, [], ◌∷◌, map, filter, sym, subst, arith}
use Rattle.std.specs.List.{AllByRecursion}
use Rattle.std.specs.Ordering.{ordering_reverse}
use Rattle.std.specs.declared.cmp.Ordering.{Ordering}
use Rattle.std.specs.declared.cmp.Ordering.TheVariants.{Less, Equal, Greater}
use Rattle.rs_facts.proofs.RunLaws.{line_runs-same}
use Rattle.rs_facts.proofs.StretchOrder.{stretch_cmp-tie, stretch_cmp-total}
use Rattle.rs_facts.specs.Fact.{Places}
use Rattle.rs_facts.specs.Runs.{AreOrdered, AreRunsOf, IsMaximalRun, LieWithin, Stretch, stretch, stretch_cmp}
use Rattle.rs_facts.specs.Spans.{AreAllRunsOf, AreOnce}
use Rattle.rs_pages.specs.PageMap.{PageMap}
use Rattle.rs_value.specs.declared.column.ColumnType.{ColumnType}
use Rattle.rs_value.specs.declared.column.Kind.{Kind}
use Rattle.rs_value.specs.declared.column.Kind.TheVariants.{Point, Line}
use Rattle.rs_cell_versions.specs.Versioned.{Standing}
use Rattle.rs_versioned.specs.Events.{AreInPrintingOrder, Event, facts_at, is_on, is_visible, kept_events, span_of, spans_at}
use Rattle.rs_versioned.specs.Records.{HoldsRecords}
use Rattle.rs_versioned.specs.Runs.{AreRunsAt}
use Rattle.rs_versioned.proofs.PrintingOrder.{held_in_order}
use Rattle.rs_versioned.proofs.Visible.{visible_within}

-- two runs of one row that begin at one place are one
same_begin : (kind : Kind) (places : Places) (a b : Stretch) → IsMaximalRun kind places a → IsMaximalRun kind places b → a.lo ≡ b.lo → a.row ≡ b.row → a ≡ b
same_begin Line places a b x y lo row = line_runs-same places a b a.lo x y row (omega arith) x.some (omega (arith, lo)) (omega (arith, lo, y.some))
same_begin Point places a b x y lo row = let hi : a.hi ≡ b.hi = omega (arith, lo, x.one, y.one) in λ i. stretch (lo i) (hi i) (row i)

module _ (kind : Kind) (places : Places) where
  -- what isn't listed too early, and is another run, comes later
  comes_later : (one later : Stretch) → IsMaximalRun kind places one → IsMaximalRun kind places later → (one ≡ later → ⊥) → (stretch_cmp later one ≡ Less → ⊥) → stretch_cmp one later ≡ Less
  comes_later one later x y apart early = by_order (stretch_cmp one later) (stretch_cmp-tie one later) (stretch_cmp-total.antisymm later one) where
    by_order : (o : Ordering) → (o ≡ Equal → (one.lo ≡ later.lo) × (one.row ≡ later.row)) → stretch_cmp later one ≡ ordering_reverse o → o ≡ Less
    by_order Less tie turned = λ i. Less
    by_order Equal tie turned = let both = tie (λ i. Equal) in absurd (apart (same_begin kind places one later x y both.0 both.1))
    by_order Greater tie turned = absurd (early turned)

  all_later : (one : Stretch) (spans : List Stretch) → IsMaximalRun kind places one → AllByRecursion (IsMaximalRun kind places) spans → AllByRecursion (λ other. one ≡ other → ⊥) spans
      → AllByRecursion (λ later. stretch_cmp later one ≡ Less → ⊥) spans → AllByRecursion (λ later. stretch_cmp one later ≡ Less) spans
  all_later one [] run runs apart none = tt
  all_later one (x ∷ xs) run runs apart none = (comes_later one x run runs.0 apart.0 none.0, all_later one xs run runs.1 apart.1 none.1)

  ordered : (spans : List Stretch) → AreOnce spans → AllByRecursion (IsMaximalRun kind places) spans → AreInPrintingOrder spans → AreOrdered spans
  ordered [] once runs printed = tt
  ordered (x ∷ xs) once runs printed = (all_later x xs runs.0 runs.1 once.0 printed.0, ordered xs once.1 runs.1 printed.1)

  pub runs_in_order : (spans : List Stretch) → AreAllRunsOf kind places spans → AreInPrintingOrder spans → AreRunsOf kind places spans
  runs_in_order spans all printed = record { ordered = ordered spans all.once all.maximal printed; maximal = all.maximal; complete = all.complete }

-- a run of facts that lie between two bounds lies there
lies_within : (kind : Kind) (places : Places) (a b : ℕ) (run : Stretch) → LieWithin a b places → IsMaximalRun kind places run → (a < run.hi) × (run.lo < b)
lies_within Line places a b run inside is = let held = inside run.lo run.row (is.holds run.lo (omega arith) is.some) in (omega (arith, held.0, is.some), held.1)
lies_within Point places a b run inside is = let held = inside run.lo run.row is.holds in (omega (arith, held.0, is.one), held.1)

events_within : (kind : Kind) (places : Places) (a b : ℕ) (events : List Event) → LieWithin a b places → AllByRecursion (IsMaximalRun kind places) (map span_of events)
    → AllByRecursion (λ event. (a < event.hi) × (event.lo < b)) events
events_within kind places a b [] inside all = tt
events_within kind places a b (e ∷ es) inside all = (lies_within kind places a b (span_of e) inside all.0, events_within kind places a b es inside all.1)

pub window_has_the_runs : (types : List ColumnType) (pages : PageMap) (standing : Standing) (kind : Kind) (accepted version route a b : ℕ) (events : List Event) (used : ℕ → ℕ)
    → HoldsRecords (kept_events types) pages standing accepted events used → AreRunsAt kind version route events → LieWithin a b (facts_at version route events)
    → AreRunsOf kind (facts_at version route events) (map span_of (filter (is_visible version route a b) events))
window_has_the_runs types pages standing kind accepted version route a b events used holds runs inside =
    let whole = visible_within version route a b events (events_within kind (facts_at version route events) a b (filter (is_on version route) events) inside runs.maximal) in
    subst (λ (es : List Event). AreRunsOf kind (facts_at version route events) (map span_of es)) (sym whole)
    (runs_in_order kind (facts_at version route events) (spans_at version route events) runs (held_in_order types pages standing accepted version route events used holds))
