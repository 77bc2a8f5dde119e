-- What the functions on conditions compute on the way. No clause of another crate speaks of it.
use Rattle.std.specs.Prelude.{ℕ, ◌-◌, Bool, true, false, not, List, [], ◌∷◌, nat_le, nat_lt, get_or, if◌then◌else◌}
use Rattle.rs_value.specs.declared.comparison.Comparison.{Comparison}
use Rattle.rs_value.specs.declared.comparison.Comparison.TheVariants as comparisons
use Rattle.rs_facts.specs.Condition.{Condition, Term, column, written, is_null}
use Rattle.rs_planning.specs.Conjuncts.{condition_at, equates, is_of_left, is_of_right, is_of_both}
use Rattle.rs_plan.specs.declared.conditions.Places.{Places}
use Rattle.rs_plan.specs.declared.conditions.Places.TheVariants as places
use Rattle.rs_plan.specs.declared.conditions.Columns.{Columns}
use Rattle.rs_plan.specs.declared.conditions.Columns.TheVariants as columns
use Rattle.rs_plan.specs.declared.conditions.Share.{Share}
use Rattle.rs_plan.specs.declared.conditions.Share.TheVariants as shares

abbrev pub place_of : Places → ℕ → ℕ
place_of places.Same place = place
place_of (places.Named columns) place = get_or columns.now place 0
place_of (places.Less width) place = place - width

abbrev pub is_within : Columns → ℕ → Bool
is_within (columns.Below end) place = nat_lt place end
is_within (columns.From start) place = nat_le start place

abbrev pub is_share : Share → ℕ → Condition → Bool
is_share shares.Left width condition = is_of_left width condition
is_share shares.Right width condition = is_of_right width condition
is_share shares.Both width condition = is_of_both width condition

abbrev pub places_of_share : Share → ℕ → ℕ → ℕ
places_of_share shares.Left width place = place
places_of_share shares.Right width place = place - width
places_of_share shares.Both width place = place

-- the condition where it is of the share, over what it goes to
abbrev pub one_of_share : Share → ℕ → Condition → List Condition
one_of_share share width condition = if is_share share width condition then condition_at (places_of_share share width) condition ∷ [] else []

-- one condition alone, and it is `column = literal`
abbrev pub only_equates : ℕ → List Condition → Bool
only_equates place [] = false
only_equates place (condition ∷ []) = equates place condition
only_equates place (condition ∷ next ∷ others) = false

abbrev pub is_equal : Comparison → Bool
is_equal comparisons.Equal = true
is_equal comparisons.Unequal = false
is_equal comparisons.Less = false
is_equal comparisons.LessOrEqual = false
is_equal comparisons.Greater = false
is_equal comparisons.GreaterOrEqual = false

abbrev pub is_literal : Term → Bool
is_literal (column place) = false
is_literal (written datum) = not (is_null datum)
