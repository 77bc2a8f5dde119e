-- Runs of a route from a thousandth on.
use Rattle.std.specs.Prelude.{◌≡◌, ◌⊎◌, ◌+◌, ◌≤◌, ℕ, List, drop, filter, length, map, nat_lt}
use Rattle.rs_catalog.specs.Definitions.{RouteItem}
use Rattle.rs_facts.specs.Fact.{Places}
use Rattle.rs_facts.specs.Operators.{windowed}
use Rattle.rs_facts.specs.Runs.{AreOrdered, Stretch}
use Rattle.rs_facts.specs.Spans.{seen}
use Rattle.rs_plan.specs.declared.plan.Plan.{Plan}
use Rattle.rs_answers.specs.Portions.{IsStart}
use Rattle.rs_answers.specs.Versions.{SeenVersion, runs_seen}
use Rattle.rs_answers.specs.declared.resuming.Mark.{Mark}
use Rattle.rs_answers.specs.declared.resuming.RunsFrom.{RunsFrom}

-- rows inside a window of thousandths, and none elsewhere
abbrev pub within : ℕ → ℕ → Places → Places
within from to places = λ k. windowed from to k (places k)

-- how many runs begin below a thousandth
abbrev pub count_below : ℕ → List Stretch → ℕ
count_below k runs = length (filter (λ run. nat_lt run.lo k) runs)

-- of the plan's runs on the route, which are so many in all, so many begin below the mark's thousandth
pub record IsMarked (shown : SeenVersion) (plan : Plan) (on : RouteItem) (mark : Mark) : Type 0 where
  pub counts : mark.all ≡ length (runs_seen shown plan on)
  pub below : mark.before ≡ count_below mark.from (runs_seen shown plan on)

-- they are the first runs from a mark on
pub record AreRunsFrom (shown : SeenVersion) (plan : Plan) (on : RouteItem) (found : RunsFrom) : Type 0 where
  pub marked : IsMarked shown plan on found.mark
  pub ordered : AreOrdered (runs_seen shown plan on)
  pub starts : IsStart (map seen found.runs.items) (drop found.mark.before (runs_seen shown plan on))

-- There are no more of them than the route has, and up to the last of them so many of the route, or they go to its end.
pub record GoFarEnough (wanted : ℕ) (found : RunsFrom) : Type 0 where
  pub few : found.mark.before + length found.runs.items ≤ found.mark.all
  pub far : (wanted ≤ found.mark.before + length found.runs.items) ⊎ (found.mark.before + length found.runs.items ≡ found.mark.all)
