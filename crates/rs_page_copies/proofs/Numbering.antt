-- The numbers of the committed pages that are held, and that of page 0 before them where its fields are changed.
use Rattle.std.proofs.Common.{◌≡◌, inl, inr, ℕ, zero, suc, ◌<◌, true, false, IsSome, List, ◌∷◌, length, slice_index, refl, sym, ◌∙◌, arith}
use Rattle.std.proofs.lemmas.List.{get_or_default}
use Rattle.std.proofs.lemmas.Map.Keys.{below_from_sorted, sorted_from_strictly_increasing}
use Rattle.rs_page_cache.specs.Changes.{Changes, NumbersCommitted, held_at}
use Rattle.rs_page_copies.specs.Listed.{IsChanged, ListsCommitted}

module _ (changes : Changes) (numbers : List ℕ) (lists : NumbersCommitted changes numbers) where
  each_held : (k : ℕ) → k < length numbers → IsSome (held_at changes (slice_index numbers k)).committed
  each_held k inside = lists.each (slice_index numbers k) (k, inside, get_or_default numbers k (slice_index numbers k) 0 inside)

  rises : (j k : ℕ) → j < k → k < length numbers → slice_index numbers j < slice_index numbers k
  rises j k before inside = below_from_sorted numbers j k 0 (sorted_from_strictly_increasing numbers lists.ascending) before inside

  place : (number : ℕ) → IsSome (held_at changes number).committed → (k : ℕ) × (k < length numbers) × (slice_index numbers k ≡ number)
  place number some = let at = lists.all number some in (at.0, at.1, get_or_default numbers at.0 0 number at.1 ∙ at.2)

  all_alone : (number : ℕ) → IsChanged changes false number → (k : ℕ) × (k < length numbers) × (slice_index numbers k ≡ number)
  all_alone number (inl (first, is)) = cc
  all_alone number (inr some) = place number some

  pub lists_alone : ListsCommitted changes false numbers
  lists_alone = record {
    ascending = rises;
    each = λ k inside. inr (each_held k inside);
    all = all_alone;
    whole = lists.whole;
  }

  -- with page 0 before them

  each_after : (k : ℕ) → k < length (0 ∷ numbers) → IsChanged changes true (slice_index (0 ∷ numbers) k)
  each_after zero inside = inl (refl, refl)
  each_after (suc k) inside = inr (each_held k (omega (arith, inside)))

  all_after : (number : ℕ) → IsChanged changes true number → (k : ℕ) × (k < length (0 ∷ numbers)) × (slice_index (0 ∷ numbers) k ≡ number)
  all_after number (inl (first, is)) = (0, omega arith, sym first)
  all_after number (inr some) = let at = place number some in let inside = at.1 in (suc at.0, omega (arith, inside), at.2)

  module _ (after : (number : ℕ) → IsSome (held_at changes number).committed → 0 < number) where
    rises_after : (j k : ℕ) → j < k → k < length (0 ∷ numbers) → slice_index (0 ∷ numbers) j < slice_index (0 ∷ numbers) k
    rises_after j zero before inside = absurd (omega (arith, before))
    rises_after zero (suc k) before inside = after (slice_index numbers k) (each_held k (omega (arith, inside)))
    rises_after (suc j) (suc k) before inside = rises j k (omega (arith, before)) (omega (arith, inside))

    pub lists_with_first : ListsCommitted changes true (0 ∷ numbers)
    lists_with_first = record { ascending = rises_after; each = each_after; all = all_after; whole = lists.whole }
