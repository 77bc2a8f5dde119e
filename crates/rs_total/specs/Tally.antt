-- What is kept after some routes.
use Rattle.std.specs.Prelude.{ℕ, Option, List}
use Rattle.std.specs.FinMap.Entries.{find}
use Rattle.rs_value.specs.Row.{Row, row_cmp}
use Rattle.rs_total.specs.declared.numbers.Numbers.{Numbers}

-- the columns, where the next route begins on the line of all routes, and the numbers of each group
pub record Tally : Type 0 where
  pub by : List ℕ
  pub summed : Option ℕ
  pub start : ℕ
  pub groups : List (Row × Numbers)

-- what is kept of a group
abbrev pub kept_of : List (Row × Numbers) → Row → Option Numbers
kept_of groups group = find row_cmp group groups
