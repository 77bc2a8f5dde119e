-- A world and a snapshot that agree on all that a plan names, and what the plan is in both.
use Rattle.std.specs.Prelude.{◌≡◌, ℕ, true, length, Some}
use Rattle.std.specs.List.{AllByRecursion}
use Rattle.std.specs.FinMap as names
use Rattle.rs_facts.specs.Fact.{Name, Names}
use Rattle.rs_facts.specs.Query.{Table, World}
use Rattle.rs_planning.specs.Numbered.{Numbered, numbered_table, numbered_route, numbered_index}
use Rattle.rs_planning.specs.Plan as plans
use Rattle.rs_planning.specs.WellFormedPlan.{IsWellFormedPlan}
use Rattle.rs_plan.specs.PlanView.{plan_tree, named_in}
use Rattle.rs_plan.specs.declared.plan.Plan.{Plan}
use Rattle.rs_exec.specs.Snapshot.{NumberedTable, Snapshot}
use Rattle.rs_exec.specs.Meaning.{PlanMeaning, meaning_of}

-- a table that is there under the name, of this kind and with so many columns, has on each route the rows of the snapshot
-- on the route's number
pub record IsNumberedTable (world : World) (snapshot : Snapshot) (numbers : Names ℕ) (name : Name) (table : NumberedTable) : Type 0 where
  pub named : Table
  pub there : names.get world.tables name ≡ Some named
  pub kind : named.kind ≡ table.kind
  pub width : length named.columns ≡ table.width
  pub facts : (route : Name) (number : ℕ) → names.get numbers route ≡ Some number → (k : ℕ) → named.facts route k ≡ snapshot.rows table number k

abbrev pub AgreesOn : World → Snapshot → Names ℕ → Numbered → Type 0
AgreesOn world snapshot numbers (numbered_table name number kind width) = IsNumberedTable world snapshot numbers name (record { number = number; kind = kind; width = width })
AgreesOn world snapshot numbers (numbered_route name number) = names.get numbers name ≡ Some number
AgreesOn world snapshot numbers (numbered_index name number) = Unit {0}

-- a route that is there has in the snapshot, by its number, the ends that it has in the world
abbrev pub HasItsEnds : World → Snapshot → Names ℕ → Type 0
HasItsEnds world snapshot numbers = (route : Name) (number : ℕ) → names.get numbers route ≡ Some number → names.get world.routes route ≡ snapshot.ends number

-- the routes that are there have numbers of their own
abbrev pub AreDistinct : Names ℕ → Type 0
AreDistinct numbers = (one other : Name) (number : ℕ) → names.get numbers one ≡ Some number → names.get numbers other ≡ Some number → one ≡ other

-- by number it has the rows that it has by name, and its kind and width; it can be evaluated if it is well formed
pub record IsTheSame (world : World) (snapshot : Snapshot) (numbers : Names ℕ) (by_number : PlanMeaning) (by_name : plans.Plan) : Type 0 where
  pub rows : (route : Name) (number : ℕ) → names.get numbers route ≡ Some number → (k : ℕ) → by_number.rows snapshot number k ≡ plans.plan_rows_at world by_name route k
  pub kind : by_number.kind ≡ plans.plan_kind world by_name
  pub width : by_number.width ≡ plans.plan_width world by_name
  pub formed : IsWellFormedPlan world by_name → by_number.is_well_formed ≡ true

-- a plan is the same by number and by name, where the numbers of what it names are right
abbrev pub PlansAreTheSame : Type 0
PlansAreTheSame = (world : World) (snapshot : Snapshot) (numbers : Names ℕ) (plan : Plan) → AreDistinct numbers → HasItsEnds world snapshot numbers → AllByRecursion (AgreesOn world snapshot numbers) (named_in plan) → IsTheSame world snapshot numbers (meaning_of plan) (plan_tree plan)
