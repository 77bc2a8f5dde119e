-- What is said of lists of spans beside their meaning: order, width, kind, and how many pairs of them share a thousandth.
use Rattle.std.specs.Prelude.{◌≡◌, ℕ, ◌≤◌, min, max, Bool, nat_lt, List, [], ◌∷◌, length, sum_by, count_by}
use Rattle.std.specs.List.{AllByRecursion}
use Rattle.rs_facts.specs.Runs.{Stretch}

-- none begins before an earlier one
abbrev pub AreSorted : List Stretch → Type 0
AreSorted [] = Unit {0}
AreSorted (span ∷ spans) = AllByRecursion (λ later. span.lo ≤ later.lo) spans × AreSorted spans

-- each begins where the one before it ends, or later
abbrev pub AreInLine : List Stretch → Type 0
AreInLine [] = Unit {0}
AreInLine (span ∷ spans) = AllByRecursion (λ later. span.hi ≤ later.lo) spans × AreInLine spans

-- each row has so many values
abbrev pub AreWide : ℕ → List Stretch → Type 0
AreWide width spans = AllByRecursion (λ span. length span.row ≡ width) spans

-- whether two spans share a thousandth
abbrev pub shares : Stretch → Stretch → Bool
shares a b = nat_lt (max a.lo b.lo) (min a.hi b.hi)

-- how many pairs do
unfoldable pub pairs : List Stretch → List Stretch → ℕ
pairs left right = sum_by (λ a. count_by (λ b. shares a b) right) left
