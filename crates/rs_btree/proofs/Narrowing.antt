-- Of ascending cells in parts, the one part that may have a cell: the last that begins below what follows the cell.
use Rattle.std.proofs.Common.{◌≡◌, ℕ, zero, suc, true, false, Some, List, [], ◌∷◌, ◌++◌, take, drop, slice_get, sym, ◌∙◌, subst, inl, inr, arith}
use Rattle.std.proofs.lemmas.Bool.{false≢true}
use Rattle.std.proofs.lemmas.List.Elements.{Contains-append_cases, Contains-append_left, Contains-append_right}
use Rattle.std.specs.List.{Contains, flat_map}
use Rattle.rs_records.specs.Order.{is_below, Ascends}
use Rattle.rs_records.proofs.Orders.{is_below-self}
use Rattle.rs_tree.proofs.Below.{AllBelow, NoneBelow, ascends_last, below_one_way, none_below_after}
use Rattle.rs_tree.proofs.Parts.{Leasts, part_below}
use Rattle.rs_btree.proofs.Among.{all_one}
use Rattle.rs_btree.proofs.Next.{below_next, next_alone}

module _ {X : Type 0} (cells : X → List (List ℕ)) (cell : List ℕ) where
  abbrev after : List ℕ
  after = cell ++ 0 ∷ []

  -- what one part has, all have
  pub part_has : (parts : List X) (k : ℕ) (part : X) → slice_get parts k ≡ Some part → Contains (cells part) cell → Contains (flat_map cells parts) cell
  part_has [] k part e has = absurd (cc)
  part_has (x ∷ xs) zero part e has =
      let same : part ≡ x = cc in Contains-append_left (cells x) (flat_map cells xs) cell (subst (λ (p : X). Contains (cells p) cell) same has)
  part_has (x ∷ xs) (suc k) part e has = Contains-append_right (cells x) (flat_map cells xs) cell (part_has xs k part e has)

  none_from_least : (l : List ℕ) (ls : List (List ℕ)) (parts : List X) → Leasts cells (l ∷ ls) parts → Ascends (flat_map cells parts) → is_below l after ≡ false
      → NoneBelow after (flat_map cells parts)
  none_from_least l ls [] leasts up first = absurd leasts
  none_from_least l ls (x ∷ xs) leasts up first = from_cells (cells x) leasts.0 up where
    from_cells : (cs : List (List ℕ)) → slice_get cs 0 ≡ Some l → Ascends (cs ++ flat_map cells xs) → NoneBelow after (cs ++ flat_map cells xs)
    from_cells [] e rise = absurd (cc)
    from_cells (c ∷ cs) e rise =
        let same : l ≡ c = cc in
        let none : is_below c after ≡ false = subst (λ (y : List ℕ). is_below y after ≡ false) same first in
        (none, none_below_after after c (cs ++ flat_map cells xs) none rise.0)

  -- where no part begins below what follows the cell, none has it
  pub none_has : (ls : List (List ℕ)) (parts : List X) → Leasts cells ls parts → Ascends (flat_map cells parts) → NoneBelow after ls → Contains (flat_map cells parts) cell → ⊥
  none_has [] [] leasts up none has = omega (arith, has.1)
  none_has [] (x ∷ xs) leasts up none has = absurd leasts
  none_has (l ∷ ls) parts leasts up none has =
      false≢true (sym (all_one (λ c. is_below c after ≡ false) (flat_map cells parts) cell (none_from_least l ls parts leasts up none.0) has) ∙ below_next cell)

  -- the next part begins above the cell, or with it
  not_before : (x y : X) (ys : List X) (m : List ℕ) → slice_get (cells y) 0 ≡ Some m → Ascends (cells x ++ flat_map cells (y ∷ ys)) → is_below m after ≡ true → Contains (cells x) cell → ⊥
  not_before x y ys m e up low has =
      let less : is_below cell m ≡ true = all_one (λ c. is_below c m ≡ true) (cells x) cell (part_below cells x y ys m e up) has in
      let same : m ≡ cell = next_alone m cell (below_one_way cell m less) low in
      false≢true (sym (is_below-self cell) ∙ subst (λ (c : List ℕ). is_below cell c ≡ true) same less)

  -- what all have, the last part has that begins below what follows the cell
  pub one_has : (ls : List (List ℕ)) (parts : List X) (k : ℕ) (part : X) → Leasts cells ls parts → Ascends (flat_map cells parts) → slice_get parts k ≡ Some part
      → AllBelow after (take (suc k) ls) → NoneBelow after (drop (suc k) ls) → Contains (flat_map cells parts) cell → Contains (cells part) cell
  one_has [] [] k part leasts up e lows none has = absurd (cc)
  one_has [] (x ∷ xs) k part leasts up e lows none has = absurd leasts
  one_has (l ∷ ls) [] k part leasts up e lows none has = absurd leasts
  one_has (l ∷ ls) (x ∷ xs) zero part leasts up e lows none has = elim (Contains-append_cases (cells x) (flat_map cells xs) cell has) [
    | inl here ↦ let same : x ≡ part = cc in subst (λ (p : X). Contains (cells p) cell) same here
    | inr rest ↦ absurd (none_has ls xs leasts.1 (ascends_last (cells x) (flat_map cells xs) up) none rest)
  ]
  one_has (l ∷ ls) (x ∷ []) (suc k) part leasts up e lows none has = absurd (cc)
  one_has (l ∷ []) (x ∷ y ∷ ys) (suc k) part leasts up e lows none has = absurd leasts.1
  one_has (l ∷ m ∷ ms) (x ∷ y ∷ ys) (suc k) part leasts up e lows none has = elim (Contains-append_cases (cells x) (flat_map cells (y ∷ ys)) cell has) [
    | inl here ↦ absurd (not_before x y ys m leasts.1.0 up lows.1.0 here)
    | inr rest ↦ one_has (m ∷ ms) (y ∷ ys) k part leasts.1 (ascends_last (cells x) (flat_map cells (y ∷ ys)) up) e lows.1 none rest
  ]
