-- The runs along a route: their rows are the route's, they lie within it, and none has another of its row beside it.
use Rattle.std.proofs.Common.{◌≡◌, ℕ, ◌-◌, ◌<◌, ◌≤◌, inl, inr, List, [], ◌∷◌, sym, arith}
use Rattle.std.specs.List.{AllByRecursion}
use Rattle.std.specs.declared.cmp.Ordering.TheVariants.{Less}
use Rattle.rs_value.specs.declared.column.Kind.{Kind}
use Rattle.rs_value.specs.declared.column.Kind.TheVariants.{Point, Line}
use Rattle.rs_facts.specs.Fact.{Places}
use Rattle.rs_facts.specs.Runs.{Stretch, stretch, stretch_cmp, AreOrdered, IsMaximalRun, LieWithin}
use Rattle.rs_facts.specs.Spans.{places_of}
use Rattle.rs_facts.specs.Totals.{Along}
use Rattle.rs_facts.proofs.RunLaws.{each-at, line_runs-same}
use Rattle.rs_facts.proofs.RunMeaning.{runs-mean}
use Rattle.rs_facts.proofs.SpanLaws.{contains-from_none}
use Rattle.rs_facts.proofs.StretchOrder.{stretch_cmp-less, stretch_cmp-less_apart}
use Rattle.rs_total.specs.Totalling.{AreRunsAlong}
use Rattle.rs_total.proofs.SpanSums.{IsSpan, AreSpans, LieFree, FollowByPlace}

-- a run holds its first and its last thousandth, so it lies within
run_within : (kind : Kind) (from to : ℕ) (places : Places) (run : Stretch) → LieWithin from to places → IsMaximalRun kind places run → IsSpan from to run
run_within Line from to places run inside maximal =
    let some = maximal.some in
    let first = inside run.lo run.row (maximal.holds run.lo (omega arith) some) in
    let last = inside (run.hi - 1) run.row (maximal.holds (run.hi - 1) (omega (arith, some)) (omega (arith, some))) in
    (first.0, some, omega (arith, last.1, some))
run_within Point from to places run inside maximal =
    let one = maximal.one in
    let first = inside run.lo run.row maximal.holds in
    (first.0, omega (arith, one), omega (arith, one, first.1))

-- two runs of one row that share a thousandth are one
runs_same : (kind : Kind) (places : Places) (a b : Stretch) (k : ℕ) → IsMaximalRun kind places a → IsMaximalRun kind places b → a.row ≡ b.row → a.lo ≤ k → k < a.hi → b.lo ≤ k → k < b.hi → a ≡ b
runs_same Line places a b k p q same c d e f = line_runs-same places a b k p q same c d e f
runs_same Point places a b k p q same c d e f =
    let lo : a.lo ≡ b.lo = omega (arith, p.one, q.one) in
    let hi : a.hi ≡ b.hi = omega (arith, p.one, q.one) in
    λ i. stretch (lo i) (hi i) (same i)

follow : (span : Stretch) (spans : List Stretch) → AllByRecursion (λ later. stretch_cmp span later ≡ Less) spans → AllByRecursion (λ later. span.lo ≤ later.lo) spans
follow span [] h = tt
follow span (later ∷ spans) h = (elim (stretch_cmp-less span later h.0) [ inl below ↦ omega arith | inr beside ↦ omega (arith, beside.0) ], follow span spans h.1)

pub runs-follow : (spans : List Stretch) → AreOrdered spans → FollowByPlace spans
runs-follow [] h = tt
runs-follow (span ∷ spans) h = (follow span spans h.0, runs-follow spans h.1)

pub runs-free : (kind : Kind) (places : Places) (spans : List Stretch) → AreOrdered spans → AllByRecursion (IsMaximalRun kind places) spans → LieFree spans
runs-free kind places [] order maximal = tt
runs-free kind places (span ∷ spans) order maximal = (
  (λ k a b. contains-from_none spans span.row k (λ other among holds.
      stretch_cmp-less_apart span other (each-at (λ later. stretch_cmp span later ≡ Less) spans other order.0 among)
      (runs_same kind places span other k maximal.0 (each-at (IsMaximalRun kind places) spans other maximal.1 among) (sym holds.same) a b holds.from holds.below))),
  runs-free kind places spans order.1 maximal.1,
)

pub runs-inside : (kind : Kind) (from to : ℕ) (places : Places) (spans : List Stretch) → LieWithin from to places → AllByRecursion (IsMaximalRun kind places) spans → AreSpans from to spans
runs-inside kind from to places [] inside maximal = tt
runs-inside kind from to places (span ∷ spans) inside maximal = (run_within kind from to places span inside maximal.0, runs-inside kind from to places spans inside maximal.1)

-- What sums over a route's rows take of its runs.
pub record AreItsSpans (route : Along) (spans : List Stretch) : Type 0 where
  pub rows : places_of spans ≡ route.places
  pub inside : AreSpans route.from route.to spans
  pub free : LieFree spans
  pub follow : FollowByPlace spans

pub spans-of_runs : (kind : Kind) (route : Along) (runs : List Stretch) → AreRunsAlong kind route runs → AreItsSpans route runs
spans-of_runs kind route runs h = record {
  rows = runs-mean kind route.from route.to route.places runs h.within h.maximal;
  inside = runs-inside kind route.from route.to route.places runs h.within h.maximal.maximal;
  free = runs-free kind route.places runs h.maximal.ordered h.maximal.maximal;
  follow = runs-follow runs h.maximal.ordered;
}
