-- The ends of routes by their numbers.
use Rattle.std.proofs.Common.{◌≡◌, ◌==◌, ◌∙◌, ℕ, true, false, cond, List, [], ◌∷◌, Option, Some, None, ap, refl, sym}
use Rattle.std.specs.FinMap as names
use Rattle.std.specs.FinMap.{find, get-entries}
use Rattle.std.specs.List.{AllByRecursion}
use Rattle.std.specs.Ordering.{eq_by_cmp}
use Rattle.std.specs.Prelude.{if◌then◌else◌}
use Rattle.std.proofs.lemmas.Bool.{eqb-false, eqb-true}
use Rattle.std.proofs.lemmas.Option.{none-some, same_Some}
use Rattle.rs_catalog.specs.Definitions.{AreNumbered, RouteItem}
use Rattle.rs_catalog.proofs.Names.{each_entry}
use Rattle.rs_catalog_laws.proofs.Numbers.{only_of_number}
use Rattle.rs_facts.specs.Fact.{Name, Names, name_cmp}
use Rattle.rs_facts.specs.Query.{RouteEnds}

-- those of the first route with the number
abbrev pub ends_by : List (Name × RouteItem) → ℕ → Option RouteEnds
ends_by [] number = None
ends_by (route ∷ routes) number = if route.1.number == number then Some route.1.ends else ends_by routes number

module _ (routes : Names RouteItem) (numbered : AreNumbered (λ (item : RouteItem). item.number) routes) (name : Name) (on : RouteItem) (there : names.get routes name ≡ Some on) where
  ends-among : (entries : List (Name × RouteItem)) → AllByRecursion (λ e. names.get routes e.0 ≡ Some e.1) entries → find name_cmp name entries ≡ Some on → ends_by entries on.number ≡ Some on.ends
  ends-among [] each found = absurd (none-some on found)
  ends-among (e ∷ es) each found =
      elim (e.1.number == on.number) as (λ b. (e.1.number == on.number) ≡ b → (if b then Some e.1.ends else ends_by es on.number) ≡ Some on.ends) [
        | true ↦ λ same.
            ap (λ (item : RouteItem). Some item.ends)
            (only_of_number (λ (item : RouteItem). item.number) routes numbered e.0 name e.1 on each.0 there (eqb-true e.1.number on.number same))
        | false ↦ λ other.
            elim (eq_by_cmp name_cmp name e.0) as (λ b. cond b (Some e.1) (find name_cmp name es) ≡ Some on → ends_by es on.number ≡ Some on.ends) [
              | true ↦ λ here. absurd (eqb-false e.1.number on.number other (ap (λ (item : RouteItem). item.number) (same_Some e.1 on here)))
              | false ↦ λ later. ends-among es each.1 later
            ] found
      ] refl

  -- where each has a number of its own, these are those of the route that has it
  pub ends-there : ends_by (names.entries routes) on.number ≡ Some on.ends
  ends-there = ends-among (names.entries routes) (each_entry routes) (sym (get-entries routes name) ∙ there)
