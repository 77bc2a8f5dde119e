-- What the definition and the removal of a route do to the state.
use Rattle.std.proofs.Common.{◌≡◌, ℕ, true, false, cond, ⊎_elim, List, Option, Some, None, refl, sym, ap, ◌∙◌}
use Rattle.std.proofs.Math.Path.{fun_ext}
use Rattle.std.specs.FinMap as names
use Rattle.std.specs.FinMap.{get-insert, get-remove}
use Rattle.rs_facts.specs.Fact.{Name, Names, Places}
use Rattle.rs_facts.specs.Insert.{same_name}
use Rattle.rs_facts.specs.Runs.{Stretch}
use Rattle.rs_facts.specs.Spans.{places_of}
use Rattle.rs_machine.specs.Step as machine
use Rattle.rs_catalog.specs.Changes.{with_route, without_route}
use Rattle.rs_catalog.specs.Definitions.{RouteItem, Definitions, IsFree, AreDefinitions, on_numbered, no_places, facts_from, Rest, state_from}
use Rattle.rs_catalog.specs.Referents.{at_number}
use Rattle.rs_catalog.proofs.NameOrder.{name_cmp-total}
use Rattle.rs_catalog.proofs.MapLaws.{same_name-true}
use Rattle.rs_catalog.proofs.StateLaws.{routes_of-with_route, referents_from-with_route, routes_of-without_route, referents_from-without_route}
use Rattle.rs_catalog_laws.specs.Rest.{one_more}
use Rattle.rs_catalog_laws.proofs.Numbers.{cases_number, free_before_remove}
use Rattle.rs_catalog_laws.proofs.States.{same_state, same_tables}
use Rattle.rs_catalog_laws.proofs.OtherReferents.{referents_off, referents_own}

-- ---- a route is defined

module _ (definitions : Definitions) (name : Name) (item : RouteItem) (new : names.get definitions.routes name ≡ None) where
  facts_with_route : (spans : ℕ → List Stretch) → places_of (spans item.number) ≡ no_places → facts_from (names.insert definitions.routes name item) spans ≡ facts_from definitions.routes spans
  unfolding facts_from
  facts_with_route spans none = fun_ext (λ route.
      let at : Option RouteItem → Places = on_numbered no_places (λ number. places_of (spans number)) in
      ap at (get-insert name_cmp-total definitions.routes name item route)
      ∙ elim (same_name route name) as (λ b. same_name route name ≡ b → at (cond b (Some item) (names.get definitions.routes route)) ≡ at (names.get definitions.routes route)) [
        | true ↦ λ e. none ∙ sym (ap at (ap (names.get definitions.routes) (same_name-true route name e) ∙ new))
        | false ↦ λ e. refl
      ] refl)

  -- the state has the route then, and no more
  pub state_with_route : (referents : ℕ → Names ℕ) (spans : ℕ → ℕ → List Stretch) (rest : Rest) → referents item.number ≡ names.empty → ((table : ℕ) → places_of (spans table item.number) ≡ no_places)
      → state_from (with_route definitions name item) referents spans (one_more rest) ≡ machine.with_route (state_from definitions referents spans rest) name item.ends.start item.ends.finish
  state_with_route referents spans rest no_referents no_rows = same_state _ _
      (routes_of-with_route definitions name item)
      (referents_from-with_route definitions referents name item new no_referents)
      (same_tables definitions (with_route definitions name item) spans spans refl (λ q table there. facts_with_route (spans table.number) (no_rows table.number)))
      refl refl refl refl refl

-- ---- a route without rows is dropped

module _ (definitions : Definitions) (name : Name) (item : RouteItem) (there : names.get definitions.routes name ≡ Some item) where
  facts_without_route : (spans : ℕ → List Stretch) → places_of (spans item.number) ≡ no_places → facts_from (names.remove definitions.routes name) spans ≡ facts_from definitions.routes spans
  unfolding facts_from
  facts_without_route spans none = fun_ext (λ route.
      let at : Option RouteItem → Places = on_numbered no_places (λ number. places_of (spans number)) in
      ap at (get-remove name_cmp-total definitions.routes name route)
      ∙ elim (same_name route name) as (λ b. same_name route name ≡ b → at (cond b None (names.get definitions.routes route)) ≡ at (names.get definitions.routes route)) [
        | true ↦ λ e. sym (ap at (ap (names.get definitions.routes) (same_name-true route name e) ∙ there) ∙ none)
        | false ↦ λ e. refl
      ] refl)

  -- the state has neither the route nor its referents then, and all else as before
  pub state_without_route : AreDefinitions definitions → (referents : ℕ → Names ℕ) (spans : ℕ → ℕ → List Stretch) (rest : Rest) → ((table : ℕ) → places_of (spans table item.number) ≡ no_places)
      → state_from (without_route definitions name) (at_number item.number names.empty referents) spans (one_more rest) ≡ machine.without_route (state_from definitions referents spans rest) name
  state_without_route are referents spans rest no_rows = same_state _ _
      (routes_of-without_route definitions name)
      (referents_from-without_route definitions referents name item names.empty are.route_numbers there)
      (same_tables definitions (without_route definitions name) spans spans refl (λ q table at. facts_without_route (spans table.number) (no_rows table.number)))
      refl refl refl refl refl

  -- a number that no route has any more has no referents
  pub referents_of_none : (referents : ℕ → Names ℕ) → ((route : ℕ) → IsFree (λ item. item.number) definitions.routes route → referents route ≡ names.empty)
      → (route : ℕ) → IsFree (λ item. item.number) (names.remove definitions.routes name) route → at_number item.number names.empty referents route ≡ names.empty
  referents_of_none referents none route free = ⊎_elim
      (λ (same : route ≡ item.number). ap (at_number item.number names.empty referents) same ∙ referents_own item.number referents names.empty)
      (λ off. referents_off item.number referents names.empty route off ∙ none route (free_before_remove (λ (r : RouteItem). r.number) definitions.routes name item route there off free))
      (cases_number route item.number)
