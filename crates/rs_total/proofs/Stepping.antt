-- The spans of a route, one after another.
use Rattle.std.proofs.Common.{◌≡◌, ℕ, ◌+◌, ◌<◌, ◌≤◌, List, [], ◌∷◌, map, take, length, get_or, Option, refl, sym, ap, ◌∙◌}
use Rattle.std.proofs.lemmas.List.{take_more, take_all, map-append}
use Rattle.std.proofs.lemmas.List.Sums.{fold_push}
use Rattle.std.specs.List.{fold}
use Rattle.rs_value.specs.Row.{Row}
use Rattle.rs_facts.specs.Runs.{Stretch}
use Rattle.rs_total.specs.declared.numbers.Numbers.{Numbers}
use Rattle.rs_total.specs.Counting.{kept_with, kept_along}

module _ {X : Type 0} (seen : X → Stretch) (by : List ℕ) (column : Option ℕ) (start : ℕ) (group : Row) (kept : Option Numbers) where
  pub kept-none : kept ≡ kept_along by column start group kept (map seen [])
  unfolding kept_along
  kept-none = refl

  pub kept-more : (xs : List X) (i : ℕ) (d : X) → i < length xs → kept_with by column start group (kept_along by column start group kept (map seen (take i xs))) (seen (get_or xs i d)) ≡ kept_along by column start group kept (map seen (take (i + 1) xs))
  unfolding kept_along
  kept-more xs i d below = sym (
      ap (fold (kept_with by column start group) kept) (ap (map seen) (take_more xs i d below) ∙ map-append seen (take i xs) (get_or xs i d ∷ []))
      ∙ fold_push (kept_with by column start group) kept (map seen (take i xs)) (seen (get_or xs i d)))

  pub kept-all : (xs : List X) (i : ℕ) → length xs ≤ i → kept_along by column start group kept (map seen (take i xs)) ≡ kept_along by column start group kept (map seen xs)
  kept-all xs i done = ap (λ ys. kept_along by column start group kept (map seen ys)) (take_all i xs done)
