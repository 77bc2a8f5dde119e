-- The columns of totals by their places.
use Rattle.std.specs.Prelude.{◌≡◌, List, Option, Ok}
use Rattle.rs_facts.specs.Fact.{Name}
use Rattle.rs_facts.specs.Query.{Column}
use Rattle.rs_machine.specs.Checking.{group_checked, summed_checked}
use Rattle.rs_answers.specs.declared.totals.TotalColumns.{TotalColumns}

-- what the machine makes of the names among these columns
pub record AreTotalColumns (columns : List Column) (by : List Name) (summed : Option Name) (made : TotalColumns) : Type 0 where
  pub group : group_checked columns by ≡ Ok made.group.items
  pub sums : summed_checked columns summed ≡ Ok made.summed
