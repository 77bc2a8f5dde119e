-- The text of a printed total: what follows `ROW ` in the reply's line, without its LF.
use Rattle.std.specs.Prelude.{ℕ, ℤ, pos, negsuc, suc, ◌-ℤ◌, List, [], ◌∷◌, ◌++◌, Option, Some, None, codes, decimal}
use Rattle.rs_measure.specs.Measure.{measure_text}
use Rattle.rs_value.specs.declared.column.Kind.{Kind}
use Rattle.rs_value.specs.declared.column.Kind.TheVariants.{Point, Line}
use Rattle.rs_value.specs.Row.{Row}
use Rattle.rs_value.specs.Text.{datum_text}
use Rattle.rs_facts.specs.Totals.{Sum, Total}

-- of lines in thousandths with three decimals, of points a whole number
abbrev pub amount_text : Kind → ℕ → List ℕ
amount_text Line amount = measure_text amount
amount_text Point amount = decimal amount

-- the same, with a minus sign where the amount is below 0
abbrev pub signed_amount_text : Kind → ℤ → List ℕ
signed_amount_text kind (pos n) = amount_text kind n
signed_amount_text kind (negsuc n) = codes "-" ++ amount_text kind (suc n)

-- the text of each datum before a space
abbrev pub group_text : Row → List ℕ
group_text [] = []
group_text (datum ∷ row) = datum_text datum ++ codes " " ++ group_text row

-- weight and sum, each after a space
abbrev pub sum_text : Kind → Option Sum → List ℕ
sum_text kind None = []
sum_text kind (Some sum) = codes " " ++ amount_text kind sum.weight ++ codes " " ++ signed_amount_text kind (pos sum.above_zero -ℤ pos sum.below_zero)

-- `group length`, and `weight sum` where a column is summed
unfoldable pub total_text : Kind → Total → List ℕ
total_text kind total = group_text total.group ++ amount_text kind total.places ++ sum_text kind total.sum
