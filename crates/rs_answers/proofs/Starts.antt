-- Lists that are the first elements of others.
use Rattle.std.proofs.Common.{◌≡◌, ◌+◌, ◌-◌, ◌≤◌, ◌⊎◌, ℕ, List, ◌++◌, ap, arith, drop, inl, inr, length, map, refl, subst, sym, take, ◌∙◌}
use Rattle.std.proofs.lemmas.Bool.{cases_lt}
use Rattle.std.proofs.lemmas.List.{drop-drop, drop-take, drop_all, length-drop, length-take, take-append-drop, take-map, take-take, take_all, take_at}
use Rattle.rs_answers.specs.Portions.{IsStart}

-- what is taken of a list is its start
pub start-taken : {X : Type 0} (xs ys : List X) (n : ℕ) → xs ≡ take n ys → IsStart xs ys
start-taken xs ys n is = sym (take_at xs (drop n ys) (length xs) refl) ∙ ap (take (length xs)) (ap (λ l. l ++ drop n ys) is ∙ take-append-drop n ys)

-- no more than there are
pub start-first : {X : Type 0} (xs ys : List X) (n : ℕ) → n ≤ length xs → IsStart xs ys → take n xs ≡ take n ys
start-first xs ys n few is = ap (take n) is ∙ take-take n (length xs) ys few

-- without the first of them they are the first after those
pub start-drop : {X : Type 0} (xs ys : List X) (k first : ℕ) → IsStart xs (drop first ys) → IsStart (drop k xs) (drop (first + k) ys)
start-drop xs ys k first is = elim (cases_lt (length xs) k) [
  | inl past ↦ subst (λ l. IsStart l (drop (first + k) ys)) (sym (drop_all k xs (omega arith))) refl
  | inr within ↦
      let split : k + (length xs - k) ≡ length xs = omega arith in
      start-taken (drop k xs) (drop (first + k) ys) (length xs - k)
      (ap (drop k) (is ∙ ap (λ n. take n (drop first ys)) (sym split))
      ∙ drop-take k (length xs - k) (drop first ys)
      ∙ ap (take (length xs - k)) (drop-drop k first ys))
]

-- the first of the first
pub start-on : {X : Type 0} (xs ys zs : List X) → IsStart xs ys → IsStart ys zs → IsStart xs zs
start-on xs ys zs first then =
    let few : length xs ≡ length (take (length xs) ys) = ap length first in
    let long = length-take (length xs) ys in
    first ∙ start-first ys zs (length xs) (omega (arith, few, long)) then

pub start-map : {X Y : Type 0} (change : X → Y) (xs ys : List X) → IsStart xs ys → IsStart (map change xs) (map change ys)
start-map change xs ys is = start-taken (map change xs) (map change ys) (length xs) (ap (map change) is ∙ sym (take-map change (length xs) ys))

-- ---- a portion of a list, of which the first were found from one of them on

module _ {X : Type 0} (all found : List X) (before : ℕ) (starts : IsStart found (drop before all)) (skip most : ℕ) (past : before ≤ skip) where
  pub portion-found : (skip + most ≤ before + length found) ⊎ (before + length found ≡ length all) → take most (drop (skip - before) found) ≡ take most (drop skip all)
  portion-found (inl far) =
      let long = length-drop (skip - before) found in
      start-first (drop (skip - before) found) (drop skip all) most (omega (arith, long, far, past)) at
    where
      at : IsStart (drop (skip - before) found) (drop skip all)
      at = subst (λ n. IsStart (drop (skip - before) found) (drop n all)) {x = before + (skip - before)} (omega (arith, past)) (start-drop found all (skip - before) before starts)
  portion-found (inr whole) =
      let long = length-drop before all in
      let same : found ≡ drop before all = starts ∙ take_all (length found) (drop before all) (omega (arith, long, whole)) in
      ap (take most) (ap (drop (skip - before)) same ∙ drop-drop (skip - before) before all ∙ ap (λ n. drop n all) {x = before + (skip - before)} (omega (arith, past)))

  pub rest-found : IsStart (drop ((skip - before) + most) found) (drop (skip + most) all)
  rest-found = subst (λ n. IsStart (drop ((skip - before) + most) found) (drop n all)) {x = before + ((skip - before) + most)} (omega (arith, past)) (start-drop found all ((skip - before) + most) before starts)
