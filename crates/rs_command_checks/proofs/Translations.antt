-- What a translation answers, by what is in memory.
use Rattle.std.proofs.Common.{◌≡◌, ℕ, List, [], ◌∷◌, length, Some, None, Result, Ok, Err, sym, ap, ◌∙◌}
use Rattle.std.specs.FinMap as names
use Rattle.rs_refusal.specs.declared.refusal.Refusal.{Refusal}
use Rattle.rs_refusal.specs.declared.refusal.Refusal.TheVariants.{NoSuchRoute}
use Rattle.rs_methods.specs.declared.position.Method.{Method}
use Rattle.rs_methods.specs.Position.{PositionExpression, expression_at, expression_text}
use Rattle.rs_facts.specs.Fact.{Name, Names}
use Rattle.rs_facts.specs.Query.{RouteEnds}
use Rattle.rs_machine.specs.State.{RowText}
use Rattle.rs_machine.specs.Checks.{◌>>=◌, found, position_on}
use Rattle.rs_machine.specs.Step.{Effect, effect, position_text, position_translated}
use Rattle.rs_catalog.specs.Definitions.{RouteItem}
use Rattle.rs_catalog.specs.Referents.{referents_on}
use Rattle.rs_command_checks.specs.declared.checks.Checks.{Checks}
use Rattle.rs_command_checks.specs.States.{Unseen, state_by}
use Rattle.rs_command_checks.specs.Located.{position_by}
use Rattle.rs_command_checks.proofs.Outcomes.{no_route, route_at}
use Rattle.rs_command_checks.proofs.ReferentSteps.{referents_there}

-- ---- a position in another method

module _ (checks : Checks) (unseen : Unseen) (route : Name) (position : PositionExpression) (method : Method) where
  abbrev line_at : RouteEnds → Result ℕ Refusal → Result Effect Refusal
  line_at ends measure = measure >>= λ k. Ok (effect (position_text (state_by checks unseen) route ends method k ∷ []) 1 (state_by checks unseen))

  abbrev line_on : Result RouteEnds Refusal → Result Effect Refusal
  line_on ends = ends >>= λ ends. line_at ends (position_on (state_by checks unseen) route ends position)

  pub translated_no_route : names.get checks.catalog.now.routes route ≡ None → position_translated (state_by checks unseen) route position method ≡ Err NoSuchRoute
  translated_no_route none = ap (λ o. line_on (found o NoSuchRoute)) (no_route checks unseen route none)

  module _ (on : RouteItem) (there : names.get checks.catalog.now.routes route ≡ Some on) where
    placed_there : position_translated (state_by checks unseen) route position method ≡ line_at on.ends (position_by on.ends (referents_on checks.referents.now on.number) position)
    placed_there = ap (λ o. line_on (found o NoSuchRoute)) (route_at checks unseen route on there) ∙ ap (λ (referents : Names ℕ). line_at on.ends (position_by on.ends referents position)) (referents_there checks unseen route on there)

    pub translated_off_route : (refusal : Refusal) → position_by on.ends (referents_on checks.referents.now on.number) position ≡ Err refusal → position_translated (state_by checks unseen) route position method ≡ Err refusal
    translated_off_route refusal e = placed_there ∙ ap (line_at on.ends) e

    pub translated_at : (k : ℕ) (rows : List RowText) → position_by on.ends (referents_on checks.referents.now on.number) position ≡ Ok k → rows ≡ position_text (state_by checks unseen) route on.ends method k ∷ []
        → position_translated (state_by checks unseen) route position method ≡ Ok (effect rows (length rows) (state_by checks unseen))
    translated_at k rows e is = placed_there ∙ ap (line_at on.ends) e ∙ ap (λ (rows : List RowText). Ok (effect rows (length rows) (state_by checks unseen))) (sym is)

pub text_there : (checks : Checks) (unseen : Unseen) (route : Name) (on : RouteItem) → names.get checks.catalog.now.routes route ≡ Some on → (method : Method) (k : ℕ)
    → expression_text (expression_at on.ends.start on.ends.finish (names.entries (referents_on checks.referents.now on.number)) method k) ≡ position_text (state_by checks unseen) route on.ends method k
text_there checks unseen route on there method k = ap (λ (referents : Names ℕ). expression_text (expression_at on.ends.start on.ends.finish (names.entries referents) method k)) (sym (referents_there checks unseen route on there))
