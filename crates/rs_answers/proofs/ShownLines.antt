-- The lines of a plan's runs on one route are those that a version shows.
use Rattle.std.proofs.Common.{◌≡◌, ◌+◌, ◌++◌, ℕ, List, Some, ap, drop, length, map, sym, take, ◌∙◌}
use Rattle.std.proofs.Math.Path.{fun_ext}
use Rattle.std.proofs.lemmas.List.{drop-map, length-map, take-map}
use Rattle.std.specs.FinMap as names
use Rattle.rs_catalog.specs.Definitions.{Numbered, RouteItem}
use Rattle.rs_catalog.specs.Referents.{HeldReferents, referents_on}
use Rattle.rs_exec.specs.Meaning.{kind_in, rows_in}
use Rattle.rs_facts.specs.Fact.{Name, Names, Places}
use Rattle.rs_facts.specs.LineText.{line_of}
use Rattle.rs_facts.specs.Runs.{AreRunsOf, Stretch}
use Rattle.rs_machine.specs.State.{RowText}
use Rattle.rs_methods.specs.Position.{expression_at, expression_text}
use Rattle.rs_methods.specs.declared.position.Method.{Method}
use Rattle.rs_plan.specs.declared.plan.Plan.{Plan}
use Rattle.rs_serve.specs.ReplyView.{rows_of}
use Rattle.rs_value.specs.declared.column.Kind.{Kind}
use Rattle.rs_answers.specs.Portions.{GivesPortion, IsStart, portion_of}
use Rattle.rs_answers.specs.Printed.{place_on, printed_position}
use Rattle.rs_answers.specs.Versions.{SeenVersion, LiesOnRoutes, lines_seen_on, position_seen, runs_seen}
use Rattle.rs_answers.specs.declared.route_lines.Portion.{Portion}
use Rattle.rs_answers.specs.declared.route_lines.RouteRest.{RouteRest}
use Rattle.rs_answers.proofs.LineTexts.{lines-same, place-same}
use Rattle.rs_answers.proofs.QueryRuns.{HoldOn, holds-within, runs-printable, runs-whole}

-- ---- positions

module _ (kept : Numbered HeldReferents) (shown : SeenVersion) (on : RouteItem) (same : referents_on kept on.number ≡ shown.referents on.number) (method : Method) where
  printed-at : (place : ℕ) → printed_position kept on method place ≡ position_seen shown on method place
  unfolding printed_position
  printed-at place = ap (λ (referents : Names ℕ). expression_text (expression_at on.ends.start on.ends.finish (names.entries referents) method place)) same

  printed-shown : ◌≡◌ {A = ℕ → RowText} (λ place. printed_position kept on method (place_on on.ends place)) (λ place. position_seen shown on method (place_on on.ends place))
  printed-shown = fun_ext (λ place. printed-at (place_on on.ends place))

  -- lines with such referents are printed as the version shows them
  pub lines-printed : (route : Name) (told kind : Kind) → told ≡ kind → (runs : List Stretch)
      → map (line_of (λ place. printed_position kept on method (place_on on.ends place)) told route) runs ≡ map (line_of (λ place. position_seen shown on method (place_on on.ends place)) kind route) runs
  lines-printed route told kind kinds runs = (λ i. map (line_of (printed-shown i) (kinds i) route) runs)

-- ---- portions

pub map-portion : {X Y : Type 0} (change : X → Y) (portion : Portion) (xs : List X) → map change (portion_of portion xs) ≡ portion_of portion (map change xs)
map-portion change portion xs = sym (ap (take portion.most) (drop-map change portion.skip xs) ∙ take-map change portion.most (drop portion.skip xs))

-- ---- the lines of a route

module _ (shown : SeenVersion) (plan : Plan) (lies : LiesOnRoutes shown plan) (route : Name) (on : RouteItem) (there : names.get shown.routes route ≡ Some on)
    (runs : List Stretch) (are : AreRunsOf (kind_in plan) (rows_in plan shown.snapshot on.number) runs) where
  abbrev kind : Kind
  kind = kind_in plan

  abbrev places : Places
  places = rows_in plan shown.snapshot on.number

  holds : HoldOn kind on.ends places
  holds = holds-within kind on.ends places (lies.each route on there)

  pub runs-shown : runs ≡ runs_seen shown plan on
  runs-shown = runs-whole kind on.ends places holds runs are

  -- what prints the places of the route as the version shows them prints its lines
  pub lines-shown : (method : Method) → map (line_of (λ place. position_seen shown on method (place_on on.ends place)) kind route) runs ≡ lines_seen_on shown plan method (route, on)
  lines-shown method =
      lines-same (λ place. position_seen shown on method (place_on on.ends place)) (position_seen shown on method) on.ends
      (λ place lies. ap (position_seen shown on method) (place-same on.ends place lies)) route kind runs
      (runs-printable kind on.ends places holds runs are)
      ∙ ap (map (line_of (position_seen shown on method) kind route)) runs-shown

  -- a portion of the lines, and the start of those after it
  pub portion-given : (method : Method) (portion : Portion) (old new : List RowText) (rest : RouteRest) → rest.all ≡ length runs
      → new ≡ old ++ map (line_of (λ place. position_seen shown on method (place_on on.ends place)) kind route) (portion_of portion runs)
      → IsStart (rows_of rest.ahead.items) (map (line_of (λ place. position_seen shown on method (place_on on.ends place)) kind route) (drop (portion.skip + portion.most) runs))
      → GivesPortion (lines_seen_on shown plan method (route, on)) portion old new rest
  portion-given method portion old new rest counts gives ahead =
      let line = line_of (λ place. position_seen shown on method (place_on on.ends place)) kind route in
      record {
        counts = counts ∙ sym (length-map runs line) ∙ ap length (lines-shown method);
        gives = gives ∙ ap (λ l. old ++ l) (map-portion line portion runs ∙ ap (portion_of portion) (lines-shown method));
        ahead =
            ahead ∙ ap (take (length (rows_of rest.ahead.items)))
            (sym (drop-map line (portion.skip + portion.most) runs) ∙ ap (drop (portion.skip + portion.most)) (lines-shown method));
      }
