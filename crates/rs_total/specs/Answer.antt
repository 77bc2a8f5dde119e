-- The totals of the code as those of the definitions.
use Rattle.std.specs.Prelude.{◌≡◌, ℕ, Bool, true, false, Option, Some, None, option_map, List, map}
use Rattle.std.specs.List.{list_any}
use Rattle.rs_value.specs.Row.{Row}
use Rattle.rs_facts.specs.Totals as totals
use Rattle.rs_total.specs.declared.numbers.Numbers.{Numbers}
use Rattle.rs_total.specs.declared.numbers.Sizes.{Sizes}
use Rattle.rs_total.specs.declared.total.Sum.{Sum}
use Rattle.rs_total.specs.declared.total.Total.{Total}

abbrev pub sum_answered : Sum → totals.Sum
sum_answered sum = record { weight = sum.weight; above_zero = sum.above_zero; below_zero = sum.below_zero }

abbrev pub answered : Total → totals.Total
answered total = record { group = total.group; places = total.places; sum = option_map sum_answered total.sum }

-- ---- what is answered of what is kept

-- the column is summed, and the sizes of its values passed the limit
abbrev pub has_passed : Option ℕ → Numbers → Bool
has_passed None numbers = false
has_passed (Some column) numbers = elim numbers.sizes [ Some sizes ↦ false | None ↦ true ]

-- the sum, where the sizes passed no limit
abbrev pub sum_of_sizes : ℕ → Option Sizes → Option totals.Sum
sum_of_sizes weight (Some sizes) = Some (record { weight = weight; above_zero = sizes.above; below_zero = sizes.below })
sum_of_sizes weight None = None

abbrev pub sum_kept : Option ℕ → Numbers → Option totals.Sum
sum_kept None numbers = None
sum_kept (Some column) numbers = sum_of_sizes numbers.weight numbers.sizes

abbrev pub total_kept : Option ℕ → Row → Numbers → totals.Total
total_kept column group numbers = record { group = group; places = numbers.places; sum = sum_kept column numbers }

abbrev pub some_passed : Option ℕ → List (Row × Numbers) → Bool
some_passed column groups = list_any (λ e. has_passed column e.1) groups

-- No group passed the limit, and these are their totals.
pub record AreOfGroups (column : Option ℕ) (groups : List (Row × Numbers)) (answer : List totals.Total) : Type 0 where
  pub none_passed : some_passed column groups ≡ false
  pub all : answer ≡ map (λ e. total_kept column e.0 e.1) groups
