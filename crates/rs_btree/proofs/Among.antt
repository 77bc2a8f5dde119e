-- A cell among others that ascend, by the place where it belongs.
use Rattle.std.proofs.Common.{◌≡◌, ◌≤◌, ◌+◌, ℕ, zero, suc, true, false, Some, List, [], ◌∷◌, length, take, drop, slice_get, sym, ap, ◌∙◌, subst, inl, inr, arith}
use Rattle.std.specs.Prelude.{◌↔◌}
use Rattle.std.proofs.lemmas.Bool.{false≢true}
use Rattle.std.proofs.lemmas.List.{take-append-drop, drop_all}
use Rattle.std.proofs.lemmas.List.Elements.{Contains-append_cases}
use Rattle.std.specs.List.{AllByRecursion, Contains}
use Rattle.rs_records.specs.Order.{is_below, Ascends}
use Rattle.rs_records.specs.Records.{IsPlace}
use Rattle.rs_records.proofs.Orders.{is_below-self, is_below-cases}
use Rattle.rs_tree.proofs.Below.{AllBelow, NoneBelow, ascends_last}
use Rattle.rs_tree.proofs.Lists.{drop_at_place}
use Rattle.rs_tree.proofs.Parts.{place_splits}

-- what all are, one of them is
pub all_one : (P : List ℕ → Type 0) (cs : List (List ℕ)) (x : List ℕ) → AllByRecursion P cs → Contains cs x → P x
all_one P [] x all has = absurd (omega (arith, has.1))
all_one P (c ∷ cs) x all (zero, inside, is) = subst P is all.0
all_one P (c ∷ cs) x all (suc k, inside, is) = all_one P cs x all.1 (k, omega arith, is)

-- a cell with a place among them is one of them
pub there_contains : (cs : List (List ℕ)) (k : ℕ) (x : List ℕ) → slice_get cs k ≡ Some x → Contains cs x
there_contains [] k x e = absurd (cc)
there_contains (c ∷ cs) zero x e = let same : c ≡ x = cc in (0, omega arith, same)
there_contains (c ∷ cs) (suc k) x e = let rest = there_contains cs k x e in (suc rest.0, omega (arith, rest.1), rest.2)

-- none of those below a cell is the cell
all_below_lack : (cell : List ℕ) (cs : List (List ℕ)) → AllBelow cell cs → Contains cs cell → ⊥
all_below_lack cell cs all has = false≢true (sym (is_below-self cell) ∙ all_one (λ x. is_below x cell ≡ true) cs cell all has)

module _ (cs : List (List ℕ)) (cell : List ℕ) (p : ℕ) (up : Ascends cs) (place : IsPlace cs cell p) where
  -- a cell among them comes from its place on
  from_place : Contains cs cell → Contains (drop p cs) cell
  from_place has = elim (Contains-append_cases (take p cs) (drop p cs) cell (subst (λ (l : List (List ℕ)). Contains l cell) (sym (take-append-drop p cs)) has)) [
    | inl before ↦ absurd (all_below_lack cell (take p cs) (place_splits cs cell p up place).0 before)
    | inr after ↦ after
  ]

  -- where it would come after them it isn't there
  pub past_lacks : length cs ≤ p → Contains cs cell → ⊥
  past_lacks past has =
      let none : Contains [] cell = subst (λ (l : List (List ℕ)). Contains l cell) (drop_all p cs past) (from_place has) in omega (arith, none.1)

  first_tells : (one : List ℕ) (ds : List (List ℕ)) → slice_get ds 0 ≡ Some one → Ascends ds → NoneBelow cell ds → Contains ds cell → is_below cell one ≡ false
  first_tells one [] e rise none has = absurd (cc)
  first_tells one (d ∷ ds) e rise none (zero, inside, is) =
      let same : d ≡ one = cc in subst (λ (x : List ℕ). is_below cell x ≡ false) (sym is ∙ same) (is_below-self cell)
  first_tells one (d ∷ ds) e rise none (suc k, inside, is) =
      absurd (false≢true (sym none.0 ∙ all_one (λ x. is_below d x ≡ true) ds cell rise.0 (k, omega arith, is)))

  first_is : (one : List ℕ) (ds : List (List ℕ)) → slice_get ds 0 ≡ Some one → NoneBelow cell ds → is_below cell one ≡ false → one ≡ cell
  first_is one [] e none isnt = absurd (cc)
  first_is one (d ∷ ds) e none isnt =
      let same : d ≡ one = cc in
      let above : is_below one cell ≡ false = subst (λ (x : List ℕ). is_below x cell ≡ false) same none.0 in
      elim (is_below-cases one cell) [
        | inl less ↦ absurd (false≢true (sym above ∙ less))
        | inr (inl level) ↦ level
        | inr (inr more) ↦ absurd (false≢true (sym isnt ∙ more))
      ]

  -- else it is there where it isn't below what has its place
  pub place_tells : (one : List ℕ) → slice_get cs p ≡ Some one → (is_below cell one ≡ false) ↔ Contains cs cell
  place_tells one there =
      let parts = place_splits cs cell p up place in
      let first : slice_get (drop p cs) 0 ≡ Some one = drop_at_place cs p 0 ∙ ap (slice_get cs) (let e : p + 0 ≡ p = omega arith in e) ∙ there in
      let rise : Ascends (drop p cs) = ascends_last (take p cs) (drop p cs) (subst Ascends (sym (take-append-drop p cs)) up) in (
        λ isnt. there_contains cs p cell (there ∙ ap (λ (x : List ℕ). Some x) (first_is one (drop p cs) first parts.1 isnt)),
        λ has. first_tells one (drop p cs) first rise parts.1 (from_place has),
      )
