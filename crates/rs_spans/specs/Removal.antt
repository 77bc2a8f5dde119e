-- Which rows a removal takes away.
use Rattle.std.specs.Prelude.{Bool, true, Option, Some, None}
use Rattle.rs_value.specs.Row.{Row}
use Rattle.rs_facts.specs.Condition.{meets}
use Rattle.rs_facts.specs.ConditionView.{condition_of}
use Rattle.rs_facts.specs.declared.condition.Condition.{Condition}

-- the rows that meet the condition, and all rows where there is none
abbrev pub goes_by : Option Condition → Row → Bool
goes_by None row = true
goes_by (Some condition) row = meets (condition_of condition) row
