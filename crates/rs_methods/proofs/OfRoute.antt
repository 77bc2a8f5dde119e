-- The referents of a route stand side by side in the list.
use Rattle.std.proofs.Common.{◌≡◌, ℕ, ◌+◌, ◌-◌, ◌<◌, ◌≤◌, Bool, true, false, cond, List, [], ◌∷◌, length, map, get_or, take, drop, nat_eq, nat_lt, zero, suc, refl, sym, ap, ◌∙◌, subst, inl, inr, arith}
use Rattle.std.specs.FinMap.{is_sorted}
use Rattle.std.specs.List.Sorted.{IsPartitionedBy, IsPartitionPoint}
use Rattle.std.proofs.lemmas.Bool.{cases_lt}
use Rattle.std.proofs.lemmas.Bool.Decides.{nat_tests}
use Rattle.std.proofs.lemmas.List.{get_or-drop, length-drop}
use Rattle.rs_methods.specs.declared.referents.Referent.{Referent}
use Rattle.rs_methods.specs.Referents.{key_cmp, entry_of, mark_of, referents_of}
use Rattle.rs_methods.proofs.Place.{rises}
use Rattle.rs_methods.proofs.RouteReferents.{routes_rise}

-- whether the referent at a place is one of the route
abbrev pub is_own : ℕ → Referent → Bool
is_own route x = nat_eq x.route route

own_part : (route : ℕ) (items : List Referent) (from count : ℕ) (d : Referent) → from + count ≤ length items
    → ((j : ℕ) → j < from → is_own route (get_or items j d) ≡ false) → ((j : ℕ) → from ≤ j → j < from + count → is_own route (get_or items j d) ≡ true) → ((j : ℕ) → from + count ≤ j → j < length items → is_own route (get_or items j d) ≡ false)
    → map mark_of (take count (drop from items)) ≡ referents_of route (map entry_of items)
own_part route [] zero zero d within before own after = refl
own_part route [] zero (suc count) d within before own after = absurd (omega arith)
own_part route [] (suc from) count d within before own after = absurd (omega arith)
own_part route (x ∷ xs) zero zero d within before own after =
    own_part route xs zero zero d (omega arith) (λ j low. absurd (omega arith)) (λ j low high. absurd (omega arith)) (λ j low high. after (suc j) (omega arith) (omega arith))
    ∙ sym (ap (λ b. cond b (mark_of x ∷ referents_of route (map entry_of xs)) (referents_of route (map entry_of xs))) (after 0 (omega arith) (omega arith)))
own_part route (x ∷ xs) zero (suc count) d within before own after =
    ap (λ l. mark_of x ∷ l) (own_part route xs zero count d (omega arith) (λ j low. absurd (omega arith)) (λ j low high. own (suc j) (omega arith) (omega arith)) (λ j low high. after (suc j) (omega arith) (omega arith)))
    ∙ sym (ap (λ b. cond b (mark_of x ∷ referents_of route (map entry_of xs)) (referents_of route (map entry_of xs))) (own 0 (omega arith) (omega arith)))
own_part route (x ∷ xs) (suc from) count d within before own after =
    own_part route xs from count d (omega arith) (λ j low. before (suc j) (omega arith)) (λ j low high. own (suc j) (omega arith) (omega arith)) (λ j low high. after (suc j) (omega arith) (omega arith))
    ∙ sym (ap (λ b. cond b (mark_of x ∷ referents_of route (map entry_of xs)) (referents_of route (map entry_of xs))) (before 0 (omega arith)))

-- The route numbers never fall.
routes_never_fall : (items : List Referent) (i j : ℕ) (d : Referent) → is_sorted key_cmp (map entry_of items) ≡ true → i ≤ j → j < length items → (get_or items i d).route ≤ (get_or items j d).route
routes_never_fall items i j d sorted low within =
    elim (cases_lt i j) as (λ _. (get_or items i d).route ≤ (get_or items j d).route) [
      | inl below ↦ routes_rise (entry_of (get_or items i d)).0 (entry_of (get_or items j d)).0 (rises items i j d sorted below within)
      | inr above ↦ subst (λ n. (get_or items i d).route ≤ (get_or items n d).route) {x = i} (omega arith) (omega arith)
    ]

lower_first : (a b route : ℕ) → a ≤ b → nat_lt b route ≡ true → nat_lt a route ≡ true
lower_first a b route low is = grind (arith, nat_tests)

pub parted_below : (route : ℕ) (items : List Referent) → is_sorted key_cmp (map entry_of items) ≡ true → IsPartitionedBy (λ (x : Referent). nat_lt x.route route) items
parted_below route items sorted i j d low within is = lower_first (get_or items i d).route (get_or items j d).route route (routes_never_fall items i j d sorted low within) is

same_between : (a b route : ℕ) → nat_lt a route ≡ false → a ≤ b → nat_eq b route ≡ true → nat_eq a route ≡ true
same_between a b route above low is = grind (arith, nat_tests)

parted_own : (route : ℕ) (items : List Referent) (from : ℕ) → is_sorted key_cmp (map entry_of items) ≡ true → from ≤ length items → IsPartitionPoint (λ (x : Referent). nat_lt x.route route ≡ true) (λ (x : Referent). nat_lt x.route route ≡ false) items from → IsPartitionedBy (is_own route) (drop from items)
parted_own route items from sorted within sides i j d low inside is =
    let high : from + j < length items = omega (arith, length-drop from items) in
    let there : is_own route (get_or items (from + j) d) ≡ true = ap (is_own route) (sym (get_or-drop from items j d)) ∙ is in
    let here : is_own route (get_or items (from + i) d) ≡ true =
    same_between (get_or items (from + i) d).route (get_or items (from + j) d).route route (sides.1 (from + i) d (omega arith) (omega arith)) (routes_never_fall items (from + i) (from + j) d sorted (omega arith) high) there
    in
    ap (is_own route) (get_or-drop from items i d) ∙ here

lower_is_other : (a route : ℕ) → nat_lt a route ≡ true → nat_eq a route ≡ false
lower_is_other a route is = grind (arith, nat_tests)

own_are_together : (route : ℕ) (items : List Referent) (from count : ℕ) → from ≤ length items → count ≤ length (drop from items)
    → IsPartitionPoint (λ (x : Referent). nat_lt x.route route ≡ true) (λ (x : Referent). nat_lt x.route route ≡ false) items from
    → IsPartitionPoint (λ (x : Referent). is_own route x ≡ true) (λ (x : Referent). is_own route x ≡ false) (drop from items) count
    → map mark_of (take count (drop from items)) ≡ referents_of route (map entry_of items)
own_are_together route [] zero zero within inside below own = refl
own_are_together route [] zero (suc count) within inside below own = absurd (omega arith)
own_are_together route [] (suc from) count within inside below own = absurd (omega arith)
own_are_together route (x ∷ xs) from count within inside below own =
    let items : List Referent = x ∷ xs in
    let left : (j : ℕ) → from ≤ j → get_or (drop from items) (j - from) x ≡ get_or items j x = λ j low. get_or-drop from items (j - from) x ∙ ap (λ n. get_or items n x) {x = from + (j - from)} (omega arith) in
    own_part route items from count x (omega (arith, length-drop from items))
    (λ j low. lower_is_other (get_or items j x).route route (below.0 j x (omega arith) low))
    (λ j low high. ap (is_own route) (sym (left j low)) ∙ own.0 (j - from) x (omega arith) (omega arith))
    (λ j low high. ap (is_own route) (sym (left j (omega arith))) ∙ own.1 (j - from) x (omega arith) (omega (arith, length-drop from items)))

-- What the two searches of the code cut out: `rest` is the list from the first of the route on.
pub cut_out : (route : ℕ) (items rest : List Referent) (from count : ℕ) → drop from items ≡ rest → is_sorted key_cmp (map entry_of items) ≡ true → from ≤ length items → count ≤ length rest
    → IsPartitionPoint (λ (x : Referent). nat_lt x.route route ≡ true) (λ (x : Referent). nat_lt x.route route ≡ false) items from
    → (IsPartitionedBy (is_own route) rest → IsPartitionPoint (λ (x : Referent). is_own route x ≡ true) (λ (x : Referent). is_own route x ≡ false) rest count)
    → map mark_of (take count rest) ≡ referents_of route (map entry_of items)
cut_out route items rest from count same sorted within inside below =
    subst (λ l. (IsPartitionedBy (is_own route) l → IsPartitionPoint (λ (x : Referent). is_own route x ≡ true) (λ (x : Referent). is_own route x ≡ false) l count) → map mark_of (take count l) ≡ referents_of route (map entry_of items)) same
    (λ own. own_are_together route items from count within (subst (λ l. count ≤ length l) (sym same) inside) below (own (parted_own route items from sorted within below)))
