-- What windows leave of a route, and spans put on their route.
use Rattle.std.specs.Prelude.{◌≡◌, ◌≢◌, ℕ, List, [], ◌∷◌, map, Option, Some, None, Vec}
use Rattle.std.specs.declared.alloc.Global.{Global}
use Rattle.rs_facts.specs.declared.fact.Span.{Span}
use Rattle.rs_facts.specs.Fact.{RowSet, none}
use Rattle.rs_facts.specs.Runs.{Stretch}
use Rattle.rs_facts.specs.Spans.{seen}
use Rattle.rs_plan.specs.declared.plan.PlannedRoute.{PlannedRoute}
use Rattle.rs_plan.specs.declared.plan.PlannedWindow.{PlannedWindow}
use Rattle.rs_plan.specs.declared.plan.PlannedWindow.TheVariants as windows
use Rattle.rs_exec.specs.Given.{inside}
use Rattle.rs_exec.specs.Meaning.{seen_through_each}
use Rattle.rs_exec.specs.declared.source.Part.{Part}

-- a window's route
abbrev pub route_in : PlannedWindow → PlannedRoute
route_in (windows.Whole route) = route
route_in (windows.Part route from to) = route

-- that of the first of several windows
abbrev pub first_route : List PlannedWindow → Option PlannedRoute
first_route [] = None
first_route (window ∷ others) = Some (route_in window)

-- what is seen through all windows on the route is what is inside the part
pub record IsInsideEach (windows : List PlannedWindow) (route : ℕ) (part : Part) : Type 0 where
  pub same : (k : ℕ) (rows : RowSet) → seen_through_each windows route k rows ≡ inside part k rows

-- nothing is seen through all windows on the route
pub record AreOff (windows : List PlannedWindow) (route : ℕ) : Type 0 where
  pub nothing : (k : ℕ) (rows : RowSet) → seen_through_each windows route k rows ≡ none

-- at some thousandth of the route, all rows are seen through all windows
pub record AreOn (windows : List PlannedWindow) (route : ℕ) : Type 0 where
  pub at : ℕ
  pub all : (rows : RowSet) → seen_through_each windows route at rows ≡ rows

-- some thousandth is inside the part
pub record HasRoom (part : Part) : Type 0 where
  pub at : ℕ
  pub all : (rows : RowSet) → inside part at rows ≡ rows

-- of the route the part is inside all windows, and nothing of any other
pub record IsSeenOn (windows : List PlannedWindow) (route : ℕ) (part : Part) : Type 0 where
  pub here : IsInsideEach windows route part
  pub elsewhere : (number : ℕ) → number ≢ route → AreOff windows number

-- the spans on the one route, none on another
pub record IsSpread (route : ℕ) (spans : List Stretch) (number : ℕ) (rows : Vec Span Global) : Type 0 where
  pub here : number ≡ route → map seen rows.items ≡ spans
  pub elsewhere : number ≢ route → rows.items ≡ []
