-- What the machine answers to totals of a checked query.
use Rattle.std.specs.Prelude.{◌≡◌, ℕ, ◌+◌, List, map, length, Option, Result, Ok}
use Rattle.rs_refusal.specs.declared.refusal.Refusal.{Refusal}
use Rattle.rs_facts.specs.Fact.{Name}
use Rattle.rs_facts.specs.Query.{RouteEnds, Query, rows_at, kind_of}
use Rattle.rs_facts.specs.Totals.{Along, totalled}
use Rattle.rs_facts.specs.TotalText.{total_text}
use Rattle.rs_machine.specs.State.{State, world_of}
use Rattle.rs_total.specs.Tally.{Tally}
use Rattle.rs_total.specs.Totalling.{AreTotalsOf}
use Rattle.rs_machine.specs.Checks.{◌>>=◌}
use Rattle.rs_machine.specs.Checking.{columns_in, group_checked, summed_checked}
use Rattle.rs_machine.specs.Step.{Effect, effect, rows_along}

-- the query's rows along one route
abbrev pub along_route : State → Query → Name → RouteEnds → Along
along_route state query route ends = record { from = ends.start; to = ends.finish + 1; places = rows_at (world_of state) query route }

-- the tally is that of routes along which the totals are those along all of them
pub record HasTotalsOf (state : State) (query : Query) (by : List ℕ) (column : Option ℕ) (tally : Tally) : Type 0 where
  pub routes : List Along
  pub tallied : AreTotalsOf by column routes tally
  pub same : totalled by column routes ≡ totalled by column (rows_along state query)

-- the columns are looked up, then the groups are totalled
abbrev pub totals_of_query : State → Query → List Name → Option Name → Result Effect Refusal
totals_of_query state query by summed = do
  group ← group_checked (columns_in state query) by
  column ← summed_checked (columns_in state query) summed
  totals ← totalled group column (rows_along state query)
  Ok (effect (map (total_text (kind_of (world_of state) query)) totals) (length totals) state)
