-- Cells with one more among them ascend.
use Rattle.std.proofs.Common.{◌≡◌, ℕ, Bool, true, false, cond, List, [], ◌∷◌, ◌++◌, IsTrue, filter, refl}
use Rattle.std.specs.List.{AllByRecursion}
use Rattle.rs_records.specs.Order.{is_below, Ascends}
use Rattle.rs_tree.specs.Cells.{cells_below, cells_above, with_cell}
use Rattle.rs_tree.proofs.Below.{AllBelow}
use Rattle.rs_tree_edit.proofs.Between.{AllAbove, all_above_trans}

all_filter : (P : List ℕ → Type 0) (p : List ℕ → Bool) (cells : List (List ℕ)) → AllByRecursion P cells → AllByRecursion P (filter p cells)
all_filter P p [] all = tt
all_filter P p (c ∷ cs) all = at (p c) (all_filter P p cs all.1) where
  at : (b : Bool) → AllByRecursion P (filter p cs) → AllByRecursion P (cond b (c ∷ filter p cs) (filter p cs))
  at true rest = (all.0, rest)
  at false rest = rest

pub ascends_filter : (p : List ℕ → Bool) (cells : List (List ℕ)) → Ascends cells → Ascends (filter p cells)
ascends_filter p [] up = tt
ascends_filter p (c ∷ cs) up = at (p c) (ascends_filter p cs up.1) where
  at : (b : Bool) → Ascends (filter p cs) → Ascends (cond b (c ∷ filter p cs) (filter p cs))
  at true rest = (all_filter (λ other. IsTrue (is_below c other)) p cs up.0, rest)
  at false rest = rest

passing : (p : List ℕ → Bool) (cells : List (List ℕ)) → AllByRecursion (λ c. p c ≡ true) (filter p cells)
passing p [] = tt
passing p (c ∷ cs) = at (p c) refl (passing p cs) where
  at : (b : Bool) → p c ≡ b → AllByRecursion (λ x. p x ≡ true) (filter p cs) → AllByRecursion (λ x. p x ≡ true) (cond b (c ∷ filter p cs) (filter p cs))
  at true e rest = (e, rest)
  at false e rest = rest

all_join : (a cell : List ℕ) (xs ys : List (List ℕ)) → AllByRecursion (λ other. IsTrue (is_below a other)) xs → IsTrue (is_below a cell) → AllByRecursion (λ other. IsTrue (is_below a other)) ys
    → AllByRecursion (λ other. IsTrue (is_below a other)) (xs ++ cell ∷ ys)
all_join a cell [] ys one here rest = (here, rest)
all_join a cell (x ∷ xs) ys one here rest = (one.0, all_join a cell xs ys one.1 here rest)

ascends_join : (cell : List ℕ) (xs ys : List (List ℕ)) → Ascends xs → AllBelow cell xs → Ascends ys → AllAbove cell ys → Ascends (xs ++ cell ∷ ys)
ascends_join cell [] ys up below rest above = (above, rest)
ascends_join cell (x ∷ xs) ys up below rest above =
    (all_join x cell xs ys up.0 below.0 (all_above_trans x cell ys below.0 above), ascends_join cell xs ys up.1 below.1 rest above)

pub ascends_with : (cell : List ℕ) (cells : List (List ℕ)) → Ascends cells → Ascends (with_cell cell cells)
ascends_with cell cells up =
    ascends_join cell (cells_below cell cells) (cells_above cell cells) (ascends_filter (λ other. is_below other cell) cells up) (passing (λ other. is_below other cell) cells)
    (ascends_filter (λ other. is_below cell other) cells up) (passing (λ other. is_below cell other) cells)
