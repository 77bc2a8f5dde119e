-- What the passes of a check find, in every state of the same definitions and referents.
use Rattle.std.specs.Prelude.{◌≡◌, ℕ, ◌||◌, nat_lt, List, [], ◌∷◌, map, Result, Ok, Err}
use Rattle.std.specs.FinMap as names
use Rattle.rs_refusal.specs.declared.refusal.Refusal.{Refusal}
use Rattle.rs_refusal.specs.declared.refusal.Refusal.TheVariants.{NoSuchRoute, NoSuchName, EmptySpan}
use Rattle.rs_methods.specs.Position.{located}
use Rattle.rs_value.specs.declared.column.Kind.{Kind}
use Rattle.rs_facts.specs.Fact.{Name, Names}
use Rattle.rs_facts.specs.Query.{Column, World, Window, on_route, between, Query, window_rows, transform_rows}
use Rattle.rs_facts.specs.Runs.{Stretch}
use Rattle.rs_syntax.specs.QueryView.{condition_tree, window_tree}
use Rattle.rs_syntax.specs.Tree.{WindowTree, whole_route, part_of_route, QueryTree}
use Rattle.rs_machine.specs.State.{has}
use Rattle.rs_machine.specs.Checks.{◌>>=◌, unless, found}
use Rattle.rs_machine.specs.Checking.{nodes_checked}
use Rattle.rs_catalog.specs.Definitions.{Definitions, routes_of, state_from, Rest}
use Rattle.rs_checker.specs.declared.checked.Checked.{Checked}
use Rattle.rs_checker.specs.declared.node.UnaryOperator.{UnaryOperator}
use Rattle.rs_checker.specs.declared.node.UnaryOperator.TheVariants as unary
use Rattle.rs_checker.specs.Steps.{IsNode, Stands, filter_step, dissolve_step, rename_step, gaps_step}

-- each is the name of a table or a view
abbrev pub names_there : Definitions → List Name → Result (Unit {0}) Refusal
names_there definitions [] = Ok tt
names_there definitions (name ∷ more) = do
  _ ← unless (has definitions.tables name || has definitions.views name) NoSuchName
  names_there definitions more

-- a window by the routes that are defined and the referents by the routes' numbers
abbrev pub located_window : Definitions → (ℕ → Names ℕ) → WindowTree → Result Window Refusal
located_window definitions on (whole_route route) = do
  _ ← found (names.get definitions.routes route) NoSuchRoute
  Ok (on_route route)
located_window definitions on (part_of_route route from to) = do
  item ← found (names.get definitions.routes route) NoSuchRoute
  first ← located item.ends.start item.ends.finish (names.entries (on item.number)) from
  second ← located item.ends.start item.ends.finish (names.entries (on item.number)) to
  _ ← unless (nat_lt first second) EmptySpan
  Ok (between route first second)

abbrev pub window_step : Definitions → (ℕ → Names ℕ) → Query → WindowTree → Result Query Refusal
window_step definitions on query window = do
  place ← located_window definitions on window
  Ok (window_rows query place)

-- each is the name of an alignment
abbrev pub alignments_there : Definitions → List Name → Result (Unit {0}) Refusal
alignments_there definitions [] = Ok tt
alignments_there definitions (name ∷ more) = do
  _ ← unless (has definitions.alignments name) NoSuchName
  alignments_there definitions more

abbrev pub transform_step : Definitions → Query → Name → Result Query Refusal
transform_step definitions query name = do
  pieces ← found (names.get definitions.alignments name) NoSuchName
  Ok (transform_rows query name pieces)

-- It stands in the world, whose routes are those that are defined.
pub record StandsAmong (definitions : Definitions) (world : World) (checked : Checked) : Type 0 where
  pub routes : world.routes ≡ routes_of definitions
  pub stands : Stands world checked

-- any operator over one operand of this kind and these columns
abbrev pub unary_step : Definitions → (ℕ → Names ℕ) → UnaryOperator → Kind → List Column → Query → Result Query Refusal
unary_step definitions on (unary.Where condition) kind columns query = filter_step columns query (condition_tree condition.now)
unary_step definitions on (unary.Dissolve names) kind columns query = dissolve_step columns query (map (λ name. name.bytes) names.now)
unary_step definitions on (unary.Rename from to) kind columns query = rename_step columns query from.now.bytes to.now.bytes
unary_step definitions on (unary.Window window) kind columns query = window_step definitions on query (window_tree window.now)
unary_step definitions on (unary.Transform name) kind columns query = transform_step definitions query name.now.bytes
unary_step definitions on unary.Gaps kind columns query = gaps_step kind query

-- in every such state it is what the machine makes of the query, its views opened
pub record AreNodes (definitions : Definitions) (on : ℕ → Names ℕ) (query : QueryTree) (made : Checked) : Type 0 where
  pub each : (spans_on : ℕ → ℕ → List Stretch) (rest : Rest) → IsNode (state_from definitions on spans_on rest) query made

-- in every such state the machine refuses the query so
pub record AreRefused (definitions : Definitions) (on : ℕ → Names ℕ) (query : QueryTree) (refusal : Refusal) : Type 0 where
  pub each : (spans_on : ℕ → ℕ → List Stretch) (rest : Rest) → nodes_checked (state_from definitions on spans_on rest) query ≡ Err refusal
