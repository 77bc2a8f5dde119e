-- Maximal runs: the longest spans along which one row holds.
--
-- They are told twice: by what they are, and by going from thousandth to thousandth. The machine prints the second;
-- where all rows lie between the ends given, both are one list, which is a law.
use Rattle.std.specs.Prelude.{◌≡◌, ℕ, zero, suc, ◌-◌, ◌<◌, ◌≤◌, Bool, true, false, not, List, [], ◌∷◌, map, filter, flat_map, Contains, if◌then◌else◌}
use Rattle.std.specs.List.{AllByRecursion}
use Rattle.std.specs.declared.cmp.Ordering.{Ordering}
use Rattle.std.specs.declared.cmp.Ordering.TheVariants.{Less}
use Rattle.std.specs.Ordering.{nat_cmp, ordering_then}
use Rattle.rs_value.specs.declared.column.Kind.{Kind}
use Rattle.rs_value.specs.declared.column.Kind.TheVariants.{Point, Line}
use Rattle.rs_value.specs.Row.{Row, row_cmp}
use Rattle.rs_facts.specs.Fact.{Places, contains, items, thousandths}

-- A span or a run as a value, with its row: at each thousandth from lo on and below hi.
pub record Stretch : Type 0 where
  pub lo : ℕ
  pub hi : ℕ
  pub row : Row

abbrev pub stretch : ℕ → ℕ → Row → Stretch
stretch lo hi row = record { lo = lo; hi = hi; row = row }

-- ---- what a maximal run is

-- The row holds all along the span, not right before it, and not right after it. Before 0 there is no thousandth.
pub record IsLineRun (places : Places) (run : Stretch) : Type 0 where
  pub some : run.lo < run.hi
  pub holds : (k : ℕ) → run.lo ≤ k → k < run.hi → contains (places k) run.row ≡ true
  pub not_before : (j : ℕ) → suc j ≡ run.lo → contains (places j) run.row ≡ false
  pub not_behind : contains (places run.hi) run.row ≡ false

-- Points never join: each place where the row holds is a run of its own.
pub record IsPointRun (places : Places) (run : Stretch) : Type 0 where
  pub one : run.hi ≡ suc run.lo
  pub holds : contains (places run.lo) run.row ≡ true

abbrev pub IsMaximalRun : Kind → Places → Stretch → Type 0
IsMaximalRun Line places run = IsLineRun places run
IsMaximalRun Point places run = IsPointRun places run

-- by place, then by row
unfoldable pub stretch_cmp : Stretch → Stretch → Ordering
stretch_cmp a b = ordering_then (nat_cmp a.lo b.lo) (row_cmp a.row b.row)

-- each one strictly before all that follow
abbrev pub AreOrdered : List Stretch → Type 0
AreOrdered [] = Unit {0}
AreOrdered (run ∷ runs) = AllByRecursion (λ later. stretch_cmp run later ≡ Less) runs × AreOrdered runs

-- All the maximal runs and nothing else, in printing order.
pub record AreRunsOf (kind : Kind) (places : Places) (runs : List Stretch) : Type 0 where
  pub ordered : AreOrdered runs
  pub maximal : AllByRecursion (IsMaximalRun kind places) runs
  pub complete : (run : Stretch) → IsMaximalRun kind places run → Contains runs run

-- all rows hold from the first thousandth on and below the second
abbrev pub LieWithin : ℕ → ℕ → Places → Type 0
LieWithin from to places = (k : ℕ) (row : Row) → contains (places k) row ≡ true → (from ≤ k) × (k < to)

-- ---- the same, from thousandth to thousandth

-- whether a run of the row begins at this thousandth, where the row holds
abbrev pub begins : Kind → Places → Row → ℕ → Bool
begins Point places row k = true
begins Line places row zero = true
begins Line places row (suc j) = not (contains (places j) row)

-- the first thousandth from here on, below here + more, at which the row does not hold
abbrev pub end_of_run : Places → Row → ℕ → ℕ → ℕ
end_of_run places row here zero = here
end_of_run places row here (suc more) = if contains (places here) row then end_of_run places row (suc here) more else here

-- where the run that begins here ends
abbrev pub run_end : Kind → Places → Row → ℕ → ℕ → ℕ
run_end Point places row here to = suc here
run_end Line places row here to = end_of_run places row here (to - here)

-- the runs that begin at this thousandth, by row
abbrev pub runs_at : Kind → Places → ℕ → ℕ → List Stretch
runs_at kind places to k = map (λ row. stretch k (run_end kind places row k to) row) (filter (λ row. begins kind places row k) (items (places k)))

-- the runs that begin from the first thousandth on and below the second
unfoldable pub runs_of : Kind → Places → ℕ → ℕ → List Stretch
runs_of kind places from to = flat_map (λ k. runs_at kind places to k) (thousandths from to)
