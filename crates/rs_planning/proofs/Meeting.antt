-- Which rows meet conditions that are cut up and whose columns have other places.
use Rattle.std.proofs.Common.{◌≡◌, ℕ, zero, suc, ◌+◌, ◌-◌, ◌<◌, Bool, true, false, not, ◌&&◌, ◌||◌, cond, List, [], ◌∷◌, ◌++◌, map, filter, length, get_or, refl, sym, ap, ◌∙◌, subst, arith}
use Rattle.std.specs.Prelude.{nat_le}
use Rattle.std.specs.List.{list_all, AllByRecursion}
use Rattle.std.proofs.lemmas.Bool.{and_parts, ltb-true, leb-true}
use Rattle.std.proofs.lemmas.List.{map-append, get_or-map, get_or_append_left, get_or-append_right}
use Rattle.std.proofs.lemmas.List.Folds.{list_all-append}
use Rattle.rs_value.specs.Row.{null, Row}
use Rattle.rs_facts.specs.Condition.{Term, column, written, is_null, compares, datum_in, Condition, compare, tests_null, negated, both, either, bracketed, meets}
use Rattle.rs_facts.specs.Operators.{datum_at, chosen}
use Rattle.rs_planning.specs.Conjuncts.{conjuncts, meets_each, column_of_term, columns_read, is_of_left, is_of_right, is_of_both, term_at, condition_at, under_dissolve, under_right}
use Rattle.rs_planning.specs.Checked.{AreBelow, ReadBelow}

-- ---- lists

pub every-append : {X : Type 0} (P : X → Type 0) (xs ys : List X) → AllByRecursion P xs → AllByRecursion P ys → AllByRecursion P (xs ++ ys)
every-append P [] ys a b = b
every-append P (x ∷ xs) ys a b = (a.0, every-append P xs ys a.1 b)

pub every-left : {X : Type 0} (P : X → Type 0) (xs ys : List X) → AllByRecursion P (xs ++ ys) → AllByRecursion P xs
every-left P [] ys h = tt
every-left P (x ∷ xs) ys h = (h.0, every-left P xs ys h.1)

pub every-right : {X : Type 0} (P : X → Type 0) (xs ys : List X) → AllByRecursion P (xs ++ ys) → AllByRecursion P ys
every-right P [] ys h = h
every-right P (x ∷ xs) ys h = every-right P xs ys h.1

pub every-weaker : {X : Type 0} (P Q : X → Type 0) → ((x : X) → P x → Q x) → (xs : List X) → AllByRecursion P xs → AllByRecursion Q xs
every-weaker P Q f [] h = tt
every-weaker P Q f (x ∷ xs) h = (f x h.0, every-weaker P Q f xs h.1)

pub every-map : {X Y : Type 0} (P : Y → Type 0) (f : X → Y) (xs : List X) → AllByRecursion (λ x. P (f x)) xs → AllByRecursion P (map f xs)
every-map P f [] h = tt
every-map P f (x ∷ xs) h = (h.0, every-map P f xs h.1)

-- what is so of each element and of each that passes is so of what a filter keeps
pub every-filter : {X : Type 0} (P Q : X → Type 0) (test : X → Bool) → ((x : X) → test x ≡ true → P x → Q x) → (xs : List X) → AllByRecursion P xs → AllByRecursion Q (filter test xs)
every-filter P Q test f [] h = tt
every-filter P Q test f (x ∷ xs) h = elim (test x) as (λ t. test x ≡ t → AllByRecursion Q (cond t (x ∷ filter test xs) (filter test xs))) [
  | true ↦ λ e. (f x e h.0, every-filter P Q test f xs h.1)
  | false ↦ λ e. every-filter P Q test f xs h.1
] refl

every-passes : {X : Type 0} (test : X → Bool) (xs : List X) → list_all test xs ≡ true → AllByRecursion (λ x. test x ≡ true) xs
every-passes test [] e = tt
every-passes test (x ∷ xs) e = let parts = and_parts (test x) (list_all test xs) e in (parts.0, every-passes test xs parts.1)

-- ---- a condition is its conjuncts

and_true : (t : Bool) → (t && true) ≡ t
and_true true = refl
and_true false = refl

pub conjuncts-meet : (condition : Condition) (row : Row) → meets_each (conjuncts condition) row ≡ meets condition row
conjuncts-meet (both a b) row =
    list_all-append (λ condition. meets condition row) (conjuncts a) (conjuncts b)
    ∙ (λ i. conjuncts-meet a row i && conjuncts-meet b row i)
conjuncts-meet (compare a comparison b) row = and_true (meets (compare a comparison b) row)
conjuncts-meet (tests_null a) row = and_true (meets (tests_null a) row)
conjuncts-meet (negated a) row = and_true (meets (negated a) row)
conjuncts-meet (either a b) row = and_true (meets (either a b) row)
conjuncts-meet (bracketed a) row = and_true (meets (bracketed a) row)

pub conjuncts-below : (width : ℕ) (condition : Condition) → AreBelow width (columns_read condition) → ReadBelow width (conjuncts condition)
conjuncts-below width (both a b) h = every-append _ (conjuncts a) (conjuncts b)
    (conjuncts-below width a (every-left (λ place. place < width) (columns_read a) (columns_read b) h))
    (conjuncts-below width b (every-right (λ place. place < width) (columns_read a) (columns_read b) h))
conjuncts-below width (compare a comparison b) h = (h, tt)
conjuncts-below width (tests_null a) h = (h, tt)
conjuncts-below width (negated a) h = (h, tt)
conjuncts-below width (either a b) h = (h, tt)
conjuncts-below width (bracketed a) h = (h, tt)

-- ---- columns at other places

-- the one row has at the new place what the other has at the old one
abbrev Agrees : (ℕ → ℕ) → Row → Row → ℕ → Type 0
Agrees place_of row other place = datum_at row (place_of place) ≡ datum_at other place

term-at : (place_of : ℕ → ℕ) (row other : Row) (term : Term) → AllByRecursion (Agrees place_of row other) (column_of_term term) → datum_in (term_at place_of term) row ≡ datum_in term other
term-at place_of row other (column place) h = h.0
term-at place_of row other (written datum) h = refl

pub meets-at : (place_of : ℕ → ℕ) (row other : Row) (condition : Condition) → AllByRecursion (Agrees place_of row other) (columns_read condition) → meets (condition_at place_of condition) row ≡ meets condition other
meets-at place_of row other (compare a comparison b) h = λ i. compares comparison
    (term-at place_of row other a (every-left (Agrees place_of row other) (column_of_term a) (column_of_term b) h) i)
    (term-at place_of row other b (every-right (Agrees place_of row other) (column_of_term a) (column_of_term b) h) i)
meets-at place_of row other (tests_null a) h = ap is_null (term-at place_of row other a h)
meets-at place_of row other (negated a) h = ap not (meets-at place_of row other a h)
meets-at place_of row other (both a b) h = λ i.
    meets-at place_of row other a (every-left (Agrees place_of row other) (columns_read a) (columns_read b) h) i
    && meets-at place_of row other b (every-right (Agrees place_of row other) (columns_read a) (columns_read b) h) i
meets-at place_of row other (either a b) h = λ i.
    meets-at place_of row other a (every-left (Agrees place_of row other) (columns_read a) (columns_read b) h) i
    || meets-at place_of row other b (every-right (Agrees place_of row other) (columns_read a) (columns_read b) h) i
meets-at place_of row other (bracketed a) h = meets-at place_of row other a h

term-itself : (term : Term) → term_at (λ place. place) term ≡ term
term-itself (column place) = refl
term-itself (written datum) = refl

itself : (condition : Condition) → condition_at (λ place. place) condition ≡ condition
itself (compare a comparison b) = λ i. compare (term-itself a i) comparison (term-itself b i)
itself (tests_null a) = ap tests_null (term-itself a)
itself (negated a) = ap negated (itself a)
itself (both a b) = λ i. both (itself a i) (itself b i)
itself (either a b) = λ i. either (itself a i) (itself b i)
itself (bracketed a) = ap bracketed (itself a)

term-columns : (place_of : ℕ → ℕ) (term : Term) → column_of_term (term_at place_of term) ≡ map place_of (column_of_term term)
term-columns place_of (column place) = refl
term-columns place_of (written datum) = refl

columns-at : (place_of : ℕ → ℕ) (condition : Condition) → columns_read (condition_at place_of condition) ≡ map place_of (columns_read condition)
columns-at place_of (compare a comparison b) = (λ i. term-columns place_of a i ++ term-columns place_of b i) ∙ sym (map-append place_of (column_of_term a) (column_of_term b))
columns-at place_of (tests_null a) = term-columns place_of a
columns-at place_of (negated a) = columns-at place_of a
columns-at place_of (both a b) = (λ i. columns-at place_of a i ++ columns-at place_of b i) ∙ sym (map-append place_of (columns_read a) (columns_read b))
columns-at place_of (either a b) = (λ i. columns-at place_of a i ++ columns-at place_of b i) ∙ sym (map-append place_of (columns_read a) (columns_read b))
columns-at place_of (bracketed a) = columns-at place_of a

-- ---- under DISSOLVE

dissolved_at : (columns : List ℕ) (row : Row) (place : ℕ) → place < length columns → datum_at row (get_or columns place 0) ≡ datum_at (chosen columns row) place
unfolding chosen
dissolved_at columns row place below = sym (get_or-map (λ at. datum_at row at) columns place 0 null below)

pub meets-under_dissolve : (columns : List ℕ) (row : Row) (conditions : List Condition) → ReadBelow (length columns) conditions
    → meets_each (map (under_dissolve columns) conditions) row ≡ meets_each conditions (chosen columns row)
meets-under_dissolve columns row [] h = refl
meets-under_dissolve columns row (condition ∷ conditions) h = λ i.
    meets-at (λ place. get_or columns place 0) row (chosen columns row) condition
    (every-weaker _ _ (dissolved_at columns row) (columns_read condition) h.0) i
    && meets-under_dissolve columns row conditions h.1 i

below-at : (columns : List ℕ) (width place : ℕ) → AreBelow width columns → place < length columns → get_or columns place 0 < width
below-at [] width place h below = absurd (omega arith)
below-at (first ∷ columns) width zero h below = h.0
below-at (first ∷ columns) width (suc place) h below = below-at columns width place h.1 (omega arith)

pub below-under_dissolve : (columns : List ℕ) (width : ℕ) (conditions : List Condition) → AreBelow width columns → ReadBelow (length columns) conditions → ReadBelow width (map (under_dissolve columns) conditions)
below-under_dissolve columns width conditions within h = every-map _ (under_dissolve columns) conditions
    (every-weaker _ _ (λ condition below. subst (AreBelow width) (sym (columns-at (λ place. get_or columns place 0) condition))
    (every-map (λ place. place < width) (λ place. get_or columns place 0) (columns_read condition)
    (every-weaker _ _ (λ place b. below-at columns width place within b) (columns_read condition) below))) conditions h)

-- ---- under OVERLAY

module _ (width : ℕ) (left right : Row) (wide : length left ≡ width) where
  meets_left : (condition : Condition) → is_of_left width condition ≡ true → meets condition (left ++ right) ≡ meets condition left
  meets_left condition e =
      ap (λ c. meets c (left ++ right)) (sym (itself condition))
      ∙ meets-at (λ place. place) (left ++ right) left condition
      (every-weaker _ _ (λ place b. get_or_append_left left right null place (let l = ltb-true place width b in omega (arith, wide, l))) (columns_read condition) (every-passes _ (columns_read condition) e))

  meets_right : (condition : Condition) → list_all (nat_le width) (columns_read condition) ≡ true → meets condition (left ++ right) ≡ meets (under_right width condition) right
  meets_right condition e = sym (meets-at (λ place. place - width) right (left ++ right) condition
      (every-weaker _ _ (λ place b. sym (get_or-append_right left right width place null wide (leb-true width place b))) (columns_read condition) (every-passes _ (columns_read condition) e)))

  -- what the left, the right and neither keep
  abbrev cut : List Condition → List Condition → List Condition → Bool
  cut of_left of_right of_both = (meets_each of_left left && meets_each of_right right) && meets_each of_both (left ++ right)

  split_one : (condition : Condition) (of_left of_right of_both : List Condition) (all s t : Bool)
      → (s ≡ true → meets condition (left ++ right) ≡ meets condition left) → (t ≡ true → meets condition (left ++ right) ≡ meets (under_right width condition) right)
      → all ≡ cut of_left (map (under_right width) of_right) of_both
      → (meets condition (left ++ right) && all)
      ≡ cut (cond s (condition ∷ of_left) of_left) (map (under_right width) (cond (not s && t) (condition ∷ of_right) of_right)) (cond (not s && not (not s && t)) (condition ∷ of_both) of_both)
  split_one condition of_left of_right of_both all true t a b e = (λ i. a refl i && e i) ∙ first (meets condition left) (meets_each of_left left) _ _
    where
      first : (m l r o : Bool) → (m && ((l && r) && o)) ≡ (((m && l) && r) && o)
      first true l r o = refl
      first false l r o = refl
  split_one condition of_left of_right of_both all false true a b e = (λ i. b refl i && e i) ∙ second (meets (under_right width condition) right) (meets_each of_left left) _ _
    where
      second : (m l r o : Bool) → (m && ((l && r) && o)) ≡ ((l && (m && r)) && o)
      second true l r o = refl
      second false true r o = refl
      second false false r o = refl
  split_one condition of_left of_right of_both all false false a b e = ap (λ t. meets condition (left ++ right) && t) e ∙ third (meets condition (left ++ right)) (meets_each of_left left && meets_each (map (under_right width) of_right) right) _
    where
      third : (m l o : Bool) → (m && (l && o)) ≡ (l && (m && o))
      third true l o = refl
      third false true o = refl
      third false false o = refl

  pub split : (conditions : List Condition) → meets_each conditions (left ++ right)
      ≡ cut (filter (is_of_left width) conditions) (map (under_right width) (filter (is_of_right width) conditions)) (filter (is_of_both width) conditions)
  split [] = refl
  split (condition ∷ conditions) = split_one condition (filter (is_of_left width) conditions) (filter (is_of_right width) conditions) (filter (is_of_both width) conditions) (meets_each conditions (left ++ right))
      (is_of_left width condition) (list_all (nat_le width) (columns_read condition)) (meets_left condition) (meets_right condition) (split conditions)

pub below-left : (width more : ℕ) (conditions : List Condition) → ReadBelow more conditions → ReadBelow width (filter (is_of_left width) conditions)
below-left width more conditions h = every-filter _ _ (is_of_left width)
    (λ condition e below. every-weaker _ _ (λ place b. ltb-true place width b) (columns_read condition) (every-passes _ (columns_read condition) e)) conditions h

pub below-right : (width more : ℕ) (conditions : List Condition) → ReadBelow (width + more) conditions → ReadBelow more (map (under_right width) (filter (is_of_right width) conditions))
below-right width more conditions h = every-map _ (under_right width) (filter (is_of_right width) conditions) (every-filter _ _ (is_of_right width)
    (λ condition e below. subst (AreBelow more) (sym (columns-at (λ place. place - width) condition))
    (every-map (λ place. place < more) (λ place. place - width) (columns_read condition)
    (moved (columns_read condition) (every-passes _ (columns_read condition) (and_parts (not (is_of_left width condition)) _ e).1) below))) conditions h)
  where
    moved : (places : List ℕ) → AllByRecursion (λ place. nat_le width place ≡ true) places → AreBelow (width + more) places → AllByRecursion (λ place. place - width < more) places
    moved [] a b = tt
    moved (place ∷ places) a b = ((let l = leb-true width place a.0 in let m = b.0 in omega (arith, l, m)), moved places a.1 b.1)
