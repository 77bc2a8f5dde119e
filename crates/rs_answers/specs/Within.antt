-- A window of each route: what is left of a snapshot inside it, and the plans that need no more of one.
use Rattle.std.specs.Prelude.{◌≡◌, ℕ, Bool, true, false, ◌&&◌, nat_lt, max, min, Option, Some, None, if◌then◌else◌}
use Rattle.std.specs.List.{list_all}
use Rattle.rs_facts.specs.Operators.{windowed}
use Rattle.rs_facts.specs.Query.{RouteEnds}
use Rattle.rs_plan.specs.declared.plan.Plan.{Plan, fold-Plan}
use Rattle.rs_plan.specs.declared.plan.Plan.TheOpen.{Plan-F}
use Rattle.rs_exec.specs.Snapshot.{Snapshot, Snapshots}

-- the ends of what lies inside the window of a route with these ends; none where nothing does
abbrev pub ends_within : ℕ → ℕ → Option RouteEnds → Option RouteEnds
ends_within from to None = None
ends_within from to (Some ends) =
    if nat_lt (max ends.start from) (min ends.finish to) then Some (record { start = max ends.start from; finish = min ends.finish to }) else None

-- the same rows inside the window of each route, and none elsewhere
abbrev pub narrowed : ℕ → ℕ → Snapshot → Snapshot
narrowed from to snapshot = record {
  rows = λ table route k. windowed from to k (snapshot.rows table route k);
  ends = λ route. ends_within from to (snapshot.ends route);
}

-- the snapshots are those that a source stands for, as far as they lie inside the window
pub record AreNarrowed {S : Type 0} (is_of : S → Snapshots → Type 0) (source : S) (from to : ℕ) (snapshots : Snapshots) : Type 0 where
  pub whole : Snapshots
  pub is : is_of source whole
  pub inside : (version : ℕ) → snapshots version ≡ narrowed from to (whole version)

-- what a plan has at a thousandth follows from what its tables have there: a TRANSFORM alone has rows of other thousandths
abbrev pub local_step : Plan-F Bool → Bool
local_step (Plan-F.Leaf leaf) = true
local_step (Plan-F.Where conditions plan) = plan.value
local_step (Plan-F.Dissolve columns plan) = plan.value
local_step (Plan-F.Overlay back operands) = list_all (λ local. local) operands.items
local_step (Plan-F.Cover left_width right_width left right) = left.value && right.value
local_step (Plan-F.Merge left right) = left.value && right.value
local_step (Plan-F.Minus left right) = left.value && right.value
local_step (Plan-F.Window windows plan) = plan.value
local_step (Plan-F.Transform name pieces plan) = false
local_step (Plan-F.Gaps plan) = plan.value

abbrev pub is_local : Plan → Bool
is_local = fold-Plan Bool local_step
