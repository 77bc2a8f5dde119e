-- Cells that are the same but for their ends lie at the same place among others.
use Rattle.std.proofs.Common.{◌≡◌, ◌≤◌, ◌-◌, ℕ, Ordering, List, [], ◌∷◌, ◌++◌, length, take, drop, refl, sym, ap, ◌∙◌, arith}
use Rattle.std.proofs.lemmas.List.{length-take-le, take-append-drop}
use Rattle.std.specs.Cmp.Lexicographic.{slice_cmp}
use Rattle.std.specs.FinMap.{nat_cmp-IsAntisymmetric}
use Rattle.std.specs.Ordering.{is_lt, nat_cmp, ordering_then}
use Rattle.std.specs.declared.cmp.Ordering.TheVariants.{Less, Equal, Greater}
use Rattle.rs_records.specs.Order.{is_below}
use Rattle.rs_cell_versions.specs.Version.{lasting}

-- where the fronts differ, they tell
fronts_tell : (a b x y u v : List ℕ) → length a ≡ length b → (a ≡ b → ⊥) → slice_cmp nat_cmp (a ++ x) (b ++ y) ≡ slice_cmp nat_cmp (a ++ u) (b ++ v)
fronts_tell [] [] x y u v size apart = absurd (apart refl)
fronts_tell [] (b ∷ more) x y u v size apart = absurd (omega (arith, size))
fronts_tell (a ∷ front) [] x y u v size apart = absurd (omega (arith, size))
fronts_tell (a ∷ front) (b ∷ more) x y u v size apart = by_first (nat_cmp a b) refl (λ differ. fronts_tell front more x y u v (omega (arith, size)) differ) where
  by_first : (o : Ordering) → nat_cmp a b ≡ o → ((front ≡ more → ⊥) → slice_cmp nat_cmp (front ++ x) (more ++ y) ≡ slice_cmp nat_cmp (front ++ u) (more ++ v))
      → ordering_then (nat_cmp a b) (slice_cmp nat_cmp (front ++ x) (more ++ y)) ≡ ordering_then (nat_cmp a b) (slice_cmp nat_cmp (front ++ u) (more ++ v))
  by_first Less e rest =
      ap (λ o. ordering_then o (slice_cmp nat_cmp (front ++ x) (more ++ y))) e ∙ sym (ap (λ o. ordering_then o (slice_cmp nat_cmp (front ++ u) (more ++ v))) e)
  by_first Equal e rest =
      let first : a ≡ b = nat_cmp-IsAntisymmetric a b e in
      ap (ordering_then (nat_cmp a b)) (rest (λ same. apart (ap (λ n. n ∷ front) first ∙ ap (λ ns. b ∷ ns) same)))
  by_first Greater e rest =
      ap (λ o. ordering_then o (slice_cmp nat_cmp (front ++ x) (more ++ y))) e ∙ sym (ap (λ o. ordering_then o (slice_cmp nat_cmp (front ++ u) (more ++ v))) e)

module _ (n : ℕ) (c d e : List ℕ) (one : n ≤ length c) (other : n ≤ length d) (same : take n e ≡ take n d) (apart : take n c ≡ take n d → ⊥) where
  size : length (take n c) ≡ length (take n d)
  size = omega (arith, length-take-le n c one, length-take-le n d other)

  parted : take n d ++ drop n e ≡ e
  parted = ap (λ xs. xs ++ drop n e) (sym same) ∙ take-append-drop n e

  fronts_before : slice_cmp nat_cmp c e ≡ slice_cmp nat_cmp c d
  fronts_before =
      ap (slice_cmp nat_cmp c) (sym parted) ∙ ap (λ xs. slice_cmp nat_cmp xs (take n d ++ drop n e)) (sym (take-append-drop n c))
      ∙ fronts_tell (take n c) (take n d) (drop n c) (drop n e) (drop n c) (drop n d) size apart
      ∙ ap (λ xs. slice_cmp nat_cmp xs (take n d ++ drop n d)) (take-append-drop n c) ∙ ap (slice_cmp nat_cmp c) (take-append-drop n d)

  fronts_after : slice_cmp nat_cmp e c ≡ slice_cmp nat_cmp d c
  fronts_after =
      ap (λ xs. slice_cmp nat_cmp xs c) (sym parted) ∙ ap (slice_cmp nat_cmp (take n d ++ drop n e)) (sym (take-append-drop n c))
      ∙ fronts_tell (take n d) (take n c) (drop n e) (drop n c) (drop n d) (drop n c) (sym size) (λ back. apart (sym back))
      ∙ ap (slice_cmp nat_cmp (take n d ++ drop n d)) (take-append-drop n c) ∙ ap (λ xs. slice_cmp nat_cmp xs c) (take-append-drop n d)

-- one cell lies to another as it does to the same with another end
pub same_place : (c cell last : List ℕ) → 8 ≤ length cell → length c ≡ length cell → length last ≡ length cell → lasting last ≡ lasting cell → (lasting c ≡ lasting cell → ⊥)
    → (is_below c last ≡ is_below c cell) × (is_below last c ≡ is_below cell c)
unfolding is_below lasting
same_place c cell last long wide last_wide same apart =
    let front : take (length cell - 8) last ≡ take (length cell - 8) cell = ap (λ k. take (k - 8) last) (sym last_wide) ∙ same in
    let differ : take (length cell - 8) c ≡ take (length cell - 8) cell → ⊥ = λ e. apart (ap (λ k. take (k - 8) c) wide ∙ e) in (
      ap is_lt (fronts_before (length cell - 8) c cell last (omega (arith, wide)) (omega arith) front differ),
      ap is_lt (fronts_after (length cell - 8) c cell last (omega (arith, wide)) (omega arith) front differ),
    )
