-- Cells below and above bounds.
use Rattle.std.proofs.Common.{◌≡◌, ◌⊎◌, ℕ, Bool, true, false, List, [], ◌∷◌, ◌++◌, IsTrue, not, ◌&&◌, filter, refl, sym, ap, ◌∙◌, subst, inl, inr}
use Rattle.std.proofs.lemmas.Bool.{false≢true}
use Rattle.std.proofs.lemmas.List.Elements.{filter-append}
use Rattle.std.specs.List.{AllByRecursion}
use Rattle.rs_records.specs.Order.{is_below, Ascends}
use Rattle.rs_records.proofs.Orders.{is_below-self, is_below-trans, is_below-cases}
use Rattle.rs_tree.specs.Cells.{is_within, cells_within}
use Rattle.rs_tree.specs.Searches.{wanted}

false_or_true : (b : Bool) → (b ≡ true) ⊎ (b ≡ false)
false_or_true true = inl refl
false_or_true false = inr refl

-- what is below another isn't above it
pub below_one_way : (one other : List ℕ) → is_below one other ≡ true → is_below other one ≡ false
below_one_way one other h = elim (false_or_true (is_below other one)) [
  | inl back ↦ let wrong : false ≡ true = sym (is_below-self one) ∙ is_below-trans one other one h back in absurd (false≢true wrong)
  | inr isnt ↦ isnt
]

-- below one that isn't above a third
pub below_upto : (one two three : List ℕ) → is_below one two ≡ true → is_below three two ≡ false → is_below one three ≡ true
below_upto one two three h not_above = elim (is_below-cases two three) [
  | inl less ↦ is_below-trans one two three h less
  | inr (inl same) ↦ subst (λ x. is_below one x ≡ true) same h
  | inr (inr more) ↦ absurd (false≢true (sym not_above ∙ more))
]

-- not above one that is below a third
pub upto_below : (one two three : List ℕ) → is_below two one ≡ false → is_below two three ≡ true → is_below one three ≡ true
upto_below one two three not_above h = elim (is_below-cases one two) [
  | inl less ↦ is_below-trans one two three less h
  | inr (inl same) ↦ subst (λ x. is_below x three ≡ true) (sym same) h
  | inr (inr more) ↦ absurd (false≢true (sym not_above ∙ more))
]

-- each of these is below the bound
abbrev pub AllBelow : List ℕ → List (List ℕ) → Type 0
AllBelow bound = AllByRecursion (λ cell. is_below cell bound ≡ true)

-- none of these is below the bound
abbrev pub NoneBelow : List ℕ → List (List ℕ) → Type 0
NoneBelow bound = AllByRecursion (λ cell. is_below cell bound ≡ false)

-- all that is above one that isn't below the bound isn't either
pub none_below_after : (bound one : List ℕ) (cells : List (List ℕ)) → is_below one bound ≡ false → AllByRecursion (λ cell. IsTrue (is_below one cell)) cells → NoneBelow bound cells
none_below_after bound one [] h all = tt
none_below_after bound one (c ∷ cs) h all = (
  elim (false_or_true (is_below c bound)) [
    | inl below ↦ let wrong : false ≡ true = sym h ∙ is_below-trans one c bound all.0 below in absurd (false≢true wrong)
    | inr isnt ↦ isnt
  ],
  none_below_after bound one cs h all.1,
)

pub wanted-append : (low high : List ℕ) (passes : List ℕ → Bool) (xs ys : List (List ℕ)) → wanted low high passes (xs ++ ys) ≡ wanted low high passes xs ++ wanted low high passes ys
wanted-append low high passes xs ys =
    ap (filter passes) (filter-append (is_within low high) xs ys) ∙ filter-append passes (cells_within low high xs) (cells_within low high ys)

-- nothing below the first bound is within
pub within_none_below : (low high : List ℕ) (cells : List (List ℕ)) → AllBelow low cells → cells_within low high cells ≡ []
within_none_below low high [] all = refl
within_none_below low high (c ∷ cs) all = rw all.0 (within_none_below low high cs all.1)

and_false : (b : Bool) → (b && false) ≡ false
and_false true = refl
and_false false = refl

-- nothing from the second bound on is within
pub within_none_above : (low high : List ℕ) (cells : List (List ℕ)) → NoneBelow high cells → cells_within low high cells ≡ []
within_none_above low high [] all = refl
within_none_above low high (c ∷ cs) all = rw (all.0, and_false (not (is_below c low))) (within_none_above low high cs all.1)

pub wanted_none_below : (low high : List ℕ) (passes : List ℕ → Bool) (cells : List (List ℕ)) → AllBelow low cells → wanted low high passes cells ≡ []
wanted_none_below low high passes cells all = ap (filter passes) (within_none_below low high cells all)

pub wanted_none_above : (low high : List ℕ) (passes : List ℕ → Bool) (cells : List (List ℕ)) → NoneBelow high cells → wanted low high passes cells ≡ []
wanted_none_above low high passes cells all = ap (filter passes) (within_none_above low high cells all)

-- all that lies between the bounds is within
pub within_all : (low high : List ℕ) (cells : List (List ℕ)) → NoneBelow low cells → AllBelow high cells → cells_within low high cells ≡ cells
within_all low high [] none all = refl
within_all low high (c ∷ cs) none all = rw (none.0, all.0) (ap (λ xs. c ∷ xs) (within_all low high cs none.1 all.1))

-- parts of ascending cells ascend
pub ascends_first : (xs ys : List (List ℕ)) → Ascends (xs ++ ys) → Ascends xs
ascends_first [] ys h = tt
ascends_first (x ∷ xs) ys h = (all_first xs ys h.0, ascends_first xs ys h.1) where
  all_first : (cs ds : List (List ℕ)) → AllByRecursion (λ cell. IsTrue (is_below x cell)) (cs ++ ds) → AllByRecursion (λ cell. IsTrue (is_below x cell)) cs
  all_first [] ds all = tt
  all_first (c ∷ cs) ds all = (all.0, all_first cs ds all.1)

pub ascends_last : (xs ys : List (List ℕ)) → Ascends (xs ++ ys) → Ascends ys
ascends_last [] ys h = h
ascends_last (x ∷ xs) ys h = ascends_last xs ys h.1

pub all_last : (x : List ℕ) (cs ds : List (List ℕ)) → AllByRecursion (λ cell. IsTrue (is_below x cell)) (cs ++ ds) → AllByRecursion (λ cell. IsTrue (is_below x cell)) ds
all_last x [] ds all = all
all_last x (c ∷ cs) ds all = all_last x cs ds all.1

-- the cells of a part are all below the first one after it
pub ascends_across : (xs : List (List ℕ)) (y : List ℕ) (ys : List (List ℕ)) → Ascends (xs ++ y ∷ ys) → AllBelow y xs
ascends_across [] y ys h = tt
ascends_across (x ∷ xs) y ys h = ((all_last x xs (y ∷ ys) h.0).0, ascends_across xs y ys h.1)

pub all_below_trans : (one other : List ℕ) (cells : List (List ℕ)) → AllBelow one cells → is_below one other ≡ true → AllBelow other cells
all_below_trans one other [] all h = tt
all_below_trans one other (c ∷ cs) all h = (is_below-trans c one other all.0 h, all_below_trans one other cs all.1 h)
