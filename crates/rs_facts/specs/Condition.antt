-- Conditions over a row. Logic is two-valued: a comparison is true only where neither value is NULL.
use Rattle.std.specs.Prelude.{ℕ, Bool, true, false, not, ◌&&◌, ◌||◌}
use Rattle.std.specs.declared.cmp.Ordering.{Ordering}
use Rattle.std.specs.Ordering.{is_lt, is_le, is_eq, is_ne, is_gt, is_ge}
use Rattle.rs_value.specs.declared.comparison.Comparison.{Comparison}
use Rattle.rs_value.specs.declared.comparison.Comparison.TheVariants as comparisons
use Rattle.rs_value.specs.Row.{Datum, null, number, text, datum_cmp, Row}
use Rattle.rs_facts.specs.Operators.{datum_at}

-- whether the comparison is true of values in this order
abbrev pub suits : Comparison → Ordering → Bool
suits comparisons.Equal order = is_eq order
suits comparisons.Unequal order = is_ne order
suits comparisons.Less order = is_lt order
suits comparisons.LessOrEqual order = is_le order
suits comparisons.Greater order = is_gt order
suits comparisons.GreaterOrEqual order = is_ge order

-- what is compared: the value in a column by its place, or a value written out
pub data Term : Type 0 where
  column : ℕ → Term
  written : Datum → Term

abbrev pub datum_in : Term → Row → Datum
datum_in (column place) row = datum_at row place
datum_in (written datum) row = datum

abbrev pub is_null : Datum → Bool
is_null null = true
is_null (number n) = false
is_null (text bytes) = false

abbrev pub compares : Comparison → Datum → Datum → Bool
compares comparison a b = not (is_null a) && not (is_null b) && suits comparison (datum_cmp a b)

pub data Condition : Type 0 where
  compare : Term → Comparison → Term → Condition
  tests_null : Term → Condition
  negated : Condition → Condition
  both : Condition → Condition → Condition
  either : Condition → Condition → Condition
  bracketed : Condition → Condition

-- whether a row meets a condition
abbrev pub meets : Condition → Row → Bool
meets (compare a comparison b) row = compares comparison (datum_in a row) (datum_in b row)
meets (tests_null a) row = is_null (datum_in a row)
meets (negated a) row = not (meets a row)
meets (both a b) row = meets a row && meets b row
meets (either a b) row = meets a row || meets b row
meets (bracketed a) row = meets a row
