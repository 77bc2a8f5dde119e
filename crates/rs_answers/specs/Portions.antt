-- A portion of a list of lines.
use Rattle.std.specs.Prelude.{◌≡◌, ◌+◌, ◌++◌, ℕ, List, String, drop, length, map, string_capacity, sum_by, take}
use Rattle.rs_exec.specs.Meaning.{kind_in}
use Rattle.rs_facts.specs.LineText.{line_of}
use Rattle.rs_facts.specs.Runs.{Stretch}
use Rattle.rs_machine.specs.State.{RowText}
use Rattle.rs_methods.specs.declared.position.Method.{Method}
use Rattle.rs_plan.specs.declared.plan.Plan.{Plan}
use Rattle.rs_serve.specs.ReplyView.{rows_of}
use Rattle.rs_answers.specs.Printed.{place_on}
use Rattle.rs_answers.specs.Versions.{SeenVersion, position_seen}
use Rattle.rs_answers.specs.declared.route_lines.Portion.{Portion}
use Rattle.rs_answers.specs.declared.route_lines.RouteRest.{RouteRest}
use Rattle.rs_catalog.specs.declared.entries.NamedRoute.{NamedRoute}
use Rattle.rs_answers.specs.declared.row_text.TheConstants.{LINE_OVERHEAD}

-- how many bytes lines take: the room of each one's text, and its own in a list
abbrev pub room_of : {A : Type 0} → List (String A) → ℕ
room_of lines = sum_by (λ line. string_capacity line + LINE_OVERHEAD) lines

-- the lines of runs of a route, where a place beside the route is printed as the nearest one on it
abbrev pub lines_printed : SeenVersion → Plan → Method → NamedRoute → List Stretch → List RowText
lines_printed shown plan method named runs = map (line_of (λ place. position_seen shown named.route method (place_on named.route.ends place)) (kind_in plan) named.name.bytes) runs

-- those that come after the lines skipped, and no more than are wanted
abbrev pub portion_of : {X : Type 0} → Portion → List X → List X
portion_of portion lines = take portion.most (drop portion.skip lines)

-- the first lines of a list, as many as these are
abbrev pub IsStart : {X : Type 0} → List X → List X → Type 0
IsStart start lines = start ≡ take (length start) lines

-- all lines are counted, the portion of them stands after what was there, and those formed ahead come after the portion
pub record GivesPortion (lines : List RowText) (portion : Portion) (old new : List RowText) (rest : RouteRest) : Type 0 where
  pub counts : rest.all ≡ length lines
  pub gives : new ≡ old ++ portion_of portion lines
  pub ahead : IsStart (rows_of rest.ahead.items) (drop (portion.skip + portion.most) lines)
