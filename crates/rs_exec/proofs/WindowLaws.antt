-- What windows, one after another, leave of a route.
use Rattle.std.proofs.Common.{◌≡◌, ◌≢◌, ℕ, true, false, List, [], ◌∷◌, Some, refl, sym, ap, ◌∙◌, subst}
use Rattle.std.specs.Prelude.{◌==◌, if◌then◌else◌}
use Rattle.std.specs.List.{AllByRecursion, list_any}
use Rattle.rs_facts.specs.Fact.{RowSet, none}
use Rattle.rs_plan.specs.declared.plan.PlannedRoute.{PlannedRoute}
use Rattle.rs_plan.specs.declared.plan.PlannedWindow.{PlannedWindow}
use Rattle.rs_plan.specs.declared.plan.PlannedWindow.TheVariants as variants
use Rattle.rs_exec.specs.Given.{inside}
use Rattle.rs_exec.specs.Meaning.{route_number, seen_on_its_route, seen_through, seen_through_each}
use Rattle.rs_exec.specs.Windows.{IsInsideEach, AreOff, AreOn, HasRoom, route_in, first_route}
use Rattle.rs_exec.specs.declared.source.Part.{Part}
use Rattle.rs_exec.specs.declared.source.Part.TheVariants as parts
use Rattle.rs_exec.proofs.Lists.{none_first, none_second}
use Rattle.rs_exec.proofs.RowLaws.{windowed-nothing}
use Rattle.rs_exec.proofs.Tests.{same-number, other-number, is-number, no-number}

pub inside-nothing : (part : Part) (k : ℕ) → inside part k none ≡ none
inside-nothing parts.Whole k = refl
inside-nothing (parts.Between from to) k = windowed-nothing from to k

through_own : (window : PlannedWindow) (route k : ℕ) (rows : RowSet) → route_number window ≡ route → seen_through window route k rows ≡ seen_on_its_route window k rows
through_own window route k rows own = ap (λ b. if b then seen_on_its_route window k rows else none) (same-number (route_number window) route own)

through_other : (window : PlannedWindow) (route k : ℕ) (rows : RowSet) → route_number window ≢ route → seen_through window route k rows ≡ none
through_other window route k rows other = ap (λ b. if b then seen_on_its_route window k rows else none) (other-number (route_number window) route other)

module _ (route : ℕ) where
  -- what is inside the part of what is seen through the rest is what is seen through all
  pub record Narrows (windows rest : List PlannedWindow) (part : Part) : Type 0 where
    pub same : (k : ℕ) (rows : RowSet) → inside part k (seen_through_each rest route k rows) ≡ seen_through_each windows route k rows

  pub narrows-none : (windows : List PlannedWindow) → Narrows windows windows parts.Whole
  narrows-none windows = record { same = λ k rows. refl }

  pub narrows-more : (windows rest later : List PlannedWindow) (window : PlannedWindow) (old new : Part) → Narrows windows rest old → rest ≡ window ∷ later → route_number window ≡ route
      → ((k : ℕ) (rows : RowSet) → inside new k rows ≡ inside old k (seen_on_its_route window k rows)) → Narrows windows later new
  narrows-more windows rest later window old new so_far first own is = record {
    same = λ k rows.
        is k (seen_through_each later route k rows)
        ∙ ap (inside old k) (sym (through_own window route k (seen_through_each later route k rows) own))
        ∙ ap (λ each. inside old k (seen_through_each each route k rows)) (sym first)
        ∙ so_far.same k rows;
  }

  pub narrows-off : (windows rest later : List PlannedWindow) (window : PlannedWindow) (part : Part) → Narrows windows rest part → rest ≡ window ∷ later → route_number window ≢ route → AreOff windows route
  narrows-off windows rest later window part so_far first other = record {
    nothing = λ k rows.
        sym (so_far.same k rows)
        ∙ ap (λ each. inside part k (seen_through_each each route k rows)) first
        ∙ ap (inside part k) (through_other window route k (seen_through_each later route k rows) other)
        ∙ inside-nothing part k;
  }

  pub narrows-all : (windows rest : List PlannedWindow) (part : Part) → Narrows windows rest part → rest ≡ [] → IsInsideEach windows route part
  narrows-all windows rest part so_far none_left = record {
    same = λ k rows. sym (so_far.same k rows) ∙ ap (λ each. inside part k (seen_through_each each route k rows)) none_left;
  }

  pub narrows-empty : (windows rest : List PlannedWindow) (part : Part) → Narrows windows rest part → rest ≡ [] → ((k : ℕ) (rows : RowSet) → inside part k rows ≡ none) → AreOff windows route
  narrows-empty windows rest part so_far none_left empty = record {
    nothing = λ k rows. sym (so_far.same k rows) ∙ empty k (seen_through_each rest route k rows);
  }

  pub narrows-room : (windows rest : List PlannedWindow) (part : Part) → Narrows windows rest part → rest ≡ [] → HasRoom part → AreOn windows route
  narrows-room windows rest part so_far none_left room = record {
    at = room.at;
    all = λ rows. sym (so_far.same room.at rows) ∙ ap (λ each. inside part room.at (seen_through_each each route room.at rows)) none_left ∙ room.all rows;
  }

-- ---- the route of the first window

pub off-elsewhere : (windows later : List PlannedWindow) (window : PlannedWindow) (number : ℕ) → windows ≡ window ∷ later → number ≢ route_number window → AreOff windows number
off-elsewhere windows later window number first other = record {
  nothing = λ k rows.
      ap (λ each. seen_through_each each number k rows) first
      ∙ through_other window number k (seen_through_each later number k rows) (λ e. other (sym e));
}

number-in : (window : PlannedWindow) → route_number window ≡ (route_in window).number
number-in (variants.Whole route) = refl
number-in (variants.Part route from to) = refl

pub first-is : (windows later : List PlannedWindow) (window : PlannedWindow) (route : PlannedRoute) → windows ≡ window ∷ later → route ≡ route_in window → Some route ≡ first_route windows
first-is windows later window route first is = ap Some is ∙ ap first_route (sym first)

pub first-off : (windows later : List PlannedWindow) (window : PlannedWindow) (route : PlannedRoute) (number : ℕ) → windows ≡ window ∷ later → route ≡ route_in window → number ≢ route.number → AreOff windows number
first-off windows later window route number first is other =
    off-elsewhere windows later window number first (λ e. other (e ∙ number-in window ∙ ap (λ (r : PlannedRoute). r.number) (sym is)))

-- none of the numbers is that of the route
pub off-each : (windows later : List PlannedWindow) (window : PlannedWindow) (numbers : List ℕ) → windows ≡ window ∷ later → list_any (λ other. route_number window == other) numbers ≡ false → AllByRecursion (AreOff windows) numbers
off-each windows later window [] first off = tt
off-each windows later window (number ∷ numbers) first off = (
  off-elsewhere windows later window number first (λ e. no-number (route_number window) number (none_first _ _ off) (sym e)),
  off-each windows later window numbers first (none_second _ _ off),
)

-- nothing is left of the route
pub off-all : (windows later : List PlannedWindow) (window : PlannedWindow) (numbers : List ℕ) → windows ≡ window ∷ later → AreOff windows (route_number window) → AllByRecursion (AreOff windows) numbers
off-all windows later window [] first off = tt
off-all windows later window (number ∷ numbers) first off = (
  elim (route_number window == number) as (λ b. (route_number window == number) ≡ b → AreOff windows number) [
    | true ↦ λ e. subst (AreOff windows) (is-number (route_number window) number e) off
    | false ↦ λ e. off-elsewhere windows later window number first (λ same. no-number (route_number window) number e (sym same))
  ] refl,
  off-all windows later window numbers first off,
)
