-- What is printed of a query on one route.
use Rattle.std.specs.Prelude.{ℕ, ◌≤◌, max, min}
use Rattle.std.specs.FinMap as names
use Rattle.rs_methods.specs.declared.position.Method.{Method}
use Rattle.rs_methods.specs.Position.{expression_at, expression_text}
use Rattle.rs_value.specs.declared.column.Kind.{Kind}
use Rattle.rs_value.specs.declared.column.Kind.TheVariants.{Point, Line}
use Rattle.rs_facts.specs.Query.{RouteEnds}
use Rattle.rs_facts.specs.Runs.{Stretch}
use Rattle.rs_machine.specs.State.{RowText}
use Rattle.rs_catalog.specs.Definitions.{Numbered, RouteItem}
use Rattle.rs_catalog.specs.Referents.{HeldReferents, referents_on}
use Rattle.rs_answers.specs.declared.printer.PositionPrinter.{PositionPrinter}

-- the place of the route that is nearest to this one
unfoldable pub place_on : RouteEnds → ℕ → ℕ
place_on ends place = max ends.start (min place ends.finish)

-- how a measure of a route is printed by a method, by the referents that are kept
unfoldable pub printed_position : Numbered HeldReferents → RouteItem → Method → ℕ → RowText
printed_position referents on method k = expression_text (expression_at on.ends.start on.ends.finish (names.entries (referents_on referents on.number)) method k)

-- what a printer prints of a place: of one beside the route, what it prints of the nearest place on it
abbrev pub printed_by : PositionPrinter → ℕ → RowText
printed_by printer place = printed_position printer.referents.now printer.route printer.method (place_on printer.route.ends place)

-- a place of the route from its start to its finish
pub record IsPlaceOn (ends : RouteEnds) (place : ℕ) : Type 0 where
  pub from_start : ends.start ≤ place
  pub upto_finish : place ≤ ends.finish

-- the positions of a run that its line prints lie on the route
abbrev pub IsWithinEnds : RouteEnds → Kind → Stretch → Type 0
IsWithinEnds ends Line run = IsPlaceOn ends run.lo × IsPlaceOn ends run.hi
IsWithinEnds ends Point run = IsPlaceOn ends run.lo
