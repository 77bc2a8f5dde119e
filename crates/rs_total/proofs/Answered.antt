-- The totals that are made, one after another.
use Rattle.std.proofs.Common.{◌≡◌, ℕ, Bool, true, false, ◌||◌, T, List, [], ◌∷◌, ◌++◌, map, Option, refl, sym, ap, ◌∙◌}
use Rattle.std.proofs.lemmas.List.{map-append}
use Rattle.std.specs.List.{list_any}
use Rattle.rs_value.specs.Row.{Row}
use Rattle.rs_total.specs.declared.numbers.Numbers.{Numbers}
use Rattle.rs_total.specs.declared.total.Total.{Total}
use Rattle.rs_facts.specs.Totals as totals
use Rattle.rs_total.specs.Answer.{answered, total_kept}

pub is_true : (b : Bool) → T b → b ≡ true
is_true true h = refl
is_true false h = absurd h

-- the totals so far are those of the groups so far
pub record AreMade (column : Option ℕ) (groups : List (Row × Numbers)) (answer : List totals.Total) : Type 0 where
  pub all : answer ≡ map (λ e. total_kept column e.0 e.1) groups

module _ (column : Option ℕ) where
  pub none-made : (answer : List Total) → answer ≡ [] → AreMade column [] (map answered answer)
  none-made answer e = record { all = ap (map answered) e }

  -- one more
  pub one-made : (xs : List (Row × Numbers)) (e : Row × Numbers) (made : List Total) (total : Total) → AreMade column xs (map answered made)
      → answered total ≡ total_kept column e.0 e.1 → AreMade column (xs ++ e ∷ []) (map answered (made ++ total ∷ []))
  one-made xs e made total are is = record {
    all = map-append answered made (total ∷ []) ∙ (λ i. are.all i ++ is i ∷ []) ∙ sym (map-append (λ p. total_kept column p.0 p.1) xs (e ∷ []));
  }

pub any-number : (test : Numbers → Bool) (groups : List (Row × Numbers)) → list_any test (map (λ p. p.1) groups) ≡ list_any (λ e. test e.1) groups
any-number test [] = refl
any-number test (e ∷ es) = ap (λ t. test e.1 || t) (any-number test es)
