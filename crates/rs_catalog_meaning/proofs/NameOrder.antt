-- Lists in the order of their names.
use Rattle.std.proofs.Common.{◌≡◌, ◌<◌, ℕ, zero, suc, Bool, true, false, ◌&&◌, T, List, [], ◌∷◌, length, map, get_or, refl, sym, ap, subst, ◌∙◌, ◌↔◌, arith, add-one}
use Rattle.std.specs.declared.cmp.Ordering.{Ordering}
use Rattle.std.specs.declared.cmp.Ordering.TheVariants.{Less, Equal, Greater}
use Rattle.std.specs.Ordering.{is_lt}
use Rattle.std.specs.List.{IsAllAdjacentAnswer}
use Rattle.std.specs.FinMap.{is_sorted}
use Rattle.std.specs.FinMap.Entries.{below_all}
use Rattle.std.proofs.lemmas.Bool.{and_parts, and_from, false≢true}
use Rattle.rs_facts.specs.Fact.{Name, name_cmp}
use Rattle.rs_machine.proofs.NameOrder.{name_cmp-total}
use Rattle.rs_catalog_meaning.specs.Meaning.{named_by}

less_from : (order : Ordering) → is_lt order ≡ true → order ≡ Less
less_from Less e = refl
less_from Equal e = absurd (false≢true e)
less_from Greater e = absurd (false≢true e)

-- names that are above one name are above each that comes before it
below_less : {X : Type 0} (a b : Name) (es : List (Name × X)) → name_cmp a b ≡ Less → below_all name_cmp b es ≡ true → below_all name_cmp a es ≡ true
below_less a b [] less below = refl
below_less a b (e ∷ es) less below =
    let parts = and_parts (is_lt (name_cmp b e.0)) (below_all name_cmp b es) below in
    and_from (is_lt (name_cmp a e.0)) (below_all name_cmp a es) (ap is_lt (name_cmp-total.trans a b e.0 less (less_from (name_cmp b e.0) parts.0)))
    (below_less a b es less parts.1)

module _ {X : Type 0} (name_of : X → Name) where
  abbrev pub comes_before : X → X → Bool
  comes_before one other = is_lt (name_cmp (name_of one) (name_of other))

  abbrev pub in_order : List X → Bool
  in_order items = is_sorted name_cmp (named_by name_of items)

  rising : (items : List X) → ((k : ℕ) (d : X) → suc k < length items → comes_before (get_or items k d) (get_or items (suc k) d) ≡ true) → in_order items ≡ true
  rising [] each = refl
  rising (x ∷ []) each = refl
  rising (x ∷ y ∷ items) each =
      let rest = rising (y ∷ items) (λ k d inside. each (suc k) d (omega arith)) in
      let first = each 0 x (omega arith) in
      and_from (below_all name_cmp (name_of x) (named_by name_of (y ∷ items))) (in_order (y ∷ items))
      (and_from (comes_before x y) (below_all name_cmp (name_of x) (named_by name_of items)) first
      (below_less (name_of x) (name_of y) (named_by name_of items) (less_from (name_cmp (name_of x) (name_of y)) first)
      (and_parts (below_all name_cmp (name_of y) (named_by name_of items)) (in_order items) rest).0))
      rest

  rises : (items : List X) → in_order items ≡ true → (k : ℕ) (d : X) → suc k < length items → comes_before (get_or items k d) (get_or items (suc k) d) ≡ true
  rises [] is k d inside = absurd (omega arith)
  rises (x ∷ []) is k d inside = absurd (omega arith)
  rises (x ∷ y ∷ items) is zero d inside =
      let parts = and_parts (below_all name_cmp (name_of x) (named_by name_of (y ∷ items))) (in_order (y ∷ items)) is in
      (and_parts (comes_before x y) (below_all name_cmp (name_of x) (named_by name_of items)) parts.0).0
  rises (x ∷ y ∷ items) is (suc k) d inside =
      rises (y ∷ items) (and_parts (below_all name_cmp (name_of x) (named_by name_of (y ∷ items))) (in_order (y ∷ items)) is).1 k d (omega arith)

  -- the answer of `is_sorted_by`
  pub answer_order : (items : List X) (r : Bool) → IsAllAdjacentAnswer (λ x y b. b ≡ comes_before x y) items r → (r ≡ true) ↔ (in_order items ≡ true)
  answer_order items true all = (
    λ e. rising items (λ k d inside. subst (λ n. comes_before (get_or items k d) (get_or items n d) ≡ true) (add-one k) (sym (all k d (omega arith)))),
    λ is. refl,
  )
  answer_order [] false none = (λ e. absurd (false≢true e), λ is. absurd (omega (arith, none.1)))
  answer_order (x ∷ items) false none = (
    λ e. absurd (false≢true e),
    λ is. absurd (false≢true (none.2 x ∙ ap (λ n. comes_before (get_or (x ∷ items) none.0 x) (get_or (x ∷ items) n x)) (add-one none.0)
        ∙ rises (x ∷ items) is none.0 x (omega (arith, none.1)))),
  )

-- the names are those of what is said
below_said : {X Y : Type 0} (said : X → Y) (name_of : Y → Name) (name : Name) (items : List X)
    → below_all name_cmp name (named_by name_of (map said items)) ≡ below_all name_cmp name (named_by (λ x. name_of (said x)) items)
below_said said name_of name [] = refl
below_said said name_of name (x ∷ items) = ap (λ b. is_lt (name_cmp name (name_of (said x))) && b) (below_said said name_of name items)

pub order_said : {X Y : Type 0} (said : X → Y) (name_of : Y → Name) (items : List X) → in_order name_of (map said items) ≡ in_order (λ x. name_of (said x)) items
order_said said name_of [] = refl
order_said said name_of (x ∷ items) =
    ap (λ b. b && in_order name_of (map said items)) (below_said said name_of (name_of (said x)) items)
    ∙ ap (λ b. below_all name_cmp (name_of (said x)) (named_by (λ y. name_of (said y)) items) && b) (order_said said name_of items)

pub rises_said : {X Y : Type 0} (said : X → Y) (name_of : Y → Name) (items : List X) → in_order (λ x. name_of (said x)) items ≡ true
    → in_order name_of (map said items) ≡ true
rises_said said name_of items is = order_said said name_of items ∙ is

pub said_rises : {X Y : Type 0} (said : X → Y) (name_of : Y → Name) (items : List X) → in_order name_of (map said items) ≡ true
    → in_order (λ x. name_of (said x)) items ≡ true
said_rises said name_of items is = sym (order_said said name_of items) ∙ is

pub to_T : (b : Bool) → b ≡ true → T b
to_T b e = subst T (sym e) tt

-- whatever stands beside the names
below_values : {X Z : Type 0} (name_of : X → Name) (value : X → Z) (name : Name) (xs : List X)
    → below_all name_cmp name (map (λ x. (name_of x, value x)) xs) ≡ below_all name_cmp name (named_by name_of xs)
below_values name_of value name [] = refl
below_values name_of value name (x ∷ xs) = ap (λ b. is_lt (name_cmp name (name_of x)) && b) (below_values name_of value name xs)

pub sorted_values : {X Z : Type 0} (name_of : X → Name) (value : X → Z) (xs : List X) → is_sorted name_cmp (map (λ x. (name_of x, value x)) xs) ≡ in_order name_of xs
sorted_values name_of value [] = refl
sorted_values name_of value (x ∷ xs) =
    ap (λ b. b && is_sorted name_cmp (map (λ y. (name_of y, value y)) xs)) (below_values name_of value (name_of x) xs)
    ∙ ap (λ b. below_all name_cmp (name_of x) (named_by name_of xs) && b) (sorted_values name_of value xs)
