-- The cells between two places are those within the bounds.
use Rattle.std.proofs.Common.{◌≡◌, ◌≤◌, ◌+◌, ◌-◌, ℕ, zero, suc, Bool, true, false, Some, List, [], ◌∷◌, ◌++◌, take, drop, filter, slice_get, refl, sym, ap, ◌∙◌, subst, arith}
use Rattle.std.proofs.lemmas.List.{append_assoc, append-nil, take-append-drop, drop-drop, map-id}
use Rattle.std.proofs.lemmas.List.Elements.{filter-append}
use Rattle.std.specs.List.{AllByRecursion}
use Rattle.rs_records.specs.Order.{is_below, Ascends}
use Rattle.rs_records.specs.Records.{records, keys, IsPlace}
use Rattle.rs_tree.specs.Searches.{wanted}
use Rattle.rs_tree.proofs.Below.{AllBelow, NoneBelow, wanted-append, wanted_none_below, wanted_none_above, within_all}
use Rattle.rs_tree.proofs.Lists.{drop_at_place, take_next, all_middle, all_drop_more}
use Rattle.rs_tree.proofs.Parts.{place_splits}

-- one more of those between
pub filter_next : (p : List ℕ → Bool) (xs : List (List ℕ)) (from index : ℕ) (x : List ℕ) (old now next : List (List ℕ)) → from ≤ index → slice_get xs index ≡ Some x
    → now ≡ old ++ filter p (take (index - from) (drop from xs)) → next ≡ now ++ filter p (x ∷ []) → next ≡ old ++ filter p (take (index + 1 - from) (drop from xs))
filter_next p xs from index x old now next h there was is =
    let k : ℕ = index - from in
    let place : from + k ≡ index = omega arith in
    let at : slice_get (drop from xs) k ≡ Some x = drop_at_place xs from k ∙ ap (slice_get xs) place ∙ there in
    let more : suc k ≡ index + 1 - from = omega arith in
    let step : filter p (take (suc k) (drop from xs)) ≡ filter p (take k (drop from xs)) ++ filter p (x ∷ []) =
    ap (filter p) (take_next (drop from xs) k x at) ∙ filter-append p (take k (drop from xs)) (x ∷ []) in
    is ∙ ap (λ ys. ys ++ filter p (x ∷ [])) was ∙ append_assoc old (filter p (take k (drop from xs))) (filter p (x ∷ []))
    ∙ ap (λ ys. old ++ ys) (sym step ∙ ap (λ i. filter p (take i (drop from xs))) more)

all_first : {X : Type 0} (P : X → Type 0) (xs : List X) (n : ℕ) → AllByRecursion P xs → AllByRecursion P (take n xs)
all_first P [] count all = by_count count where
  by_count : (n : ℕ) → AllByRecursion P (take n [])
  by_count zero = tt
  by_count (suc n) = tt
all_first P (x ∷ xs) n all = by_count n (λ m. all_first P xs m all.1) where
  by_count : (n : ℕ) → ((m : ℕ) → AllByRecursion P (take m xs)) → AllByRecursion P (take n (x ∷ xs))
  by_count zero rest = tt
  by_count (suc n) rest = (all.0, rest n)

-- what lies between the places is within the bounds, and nothing else is
pub between_places : (low high : List ℕ) (p : List ℕ → Bool) (rs : List (List ℕ)) (from to : ℕ) → Ascends rs → IsPlace rs low from → IsPlace rs high to
    → filter p (take (to - from) (drop from rs)) ≡ wanted low high p rs
between_places low high p rs from to up first last =
    let n : ℕ = to - from in
    let lows = place_splits rs low from up first in
    let highs = place_splits rs high to up last in
    let middle : List (List ℕ) = take n (drop from rs) in
    let rest : List (List ℕ) = drop n (drop from rs) in
    let cut : take from rs ++ (middle ++ rest) ≡ rs = ap (λ ys. take from rs ++ ys) (take-append-drop n (drop from rs)) ∙ take-append-drop from rs in
    let after : drop n (drop from rs) ≡ drop (from + n) rs = drop-drop n from rs in
    let past : NoneBelow high rest = subst (NoneBelow high) (sym after) (all_drop_more (λ cell. is_below cell high ≡ false) rs to (from + n) (omega arith) highs.1) in
    let none_low : NoneBelow low middle = all_first (λ cell. is_below cell low ≡ false) (drop from rs) n lows.1 in
    let all_high : AllBelow high middle = between_high highs.0 in
    ap (filter p) (sym (within_all low high middle none_low all_high))
    ∙ sym (append-nil (wanted low high p middle))
    ∙ ap (λ ys. wanted low high p middle ++ ys) (sym (wanted_none_above low high p rest past))
    ∙ sym (wanted-append low high p middle rest)
    ∙ ap (λ ys. ys ++ wanted low high p (middle ++ rest)) (sym (wanted_none_below low high p (take from rs) lows.0))
    ∙ sym (wanted-append low high p (take from rs) (middle ++ rest))
    ∙ ap (wanted low high p) cut
  where
    between_high : AllBelow high (take to rs) → AllBelow high (take (to - from) (drop from rs))
    between_high all = by_order (to - from) refl where
      by_order : (n : ℕ) → n ≡ to - from → AllBelow high (take n (drop from rs))
      by_order zero e = tt
      by_order (suc n) e = all_middle (λ cell. is_below cell high ≡ true) rs from (suc n) to (omega arith) all

-- the place among the keys of whole records
pub whole_place : (rs : List (List ℕ)) (key : List ℕ) (p : ℕ) → IsPlace (keys 0 rs) key p → IsPlace rs key p
whole_place rs key p place = subst (λ ks. IsPlace ks key p) (map-id rs) place

-- none so far
pub filter_none : (p : List ℕ → Bool) (xs : List (List ℕ)) (from : ℕ) (old : List (List ℕ)) → old ≡ old ++ filter p (take (from - from) (drop from xs))
filter_none p xs from old = let none : 0 ≡ from - from = omega arith in sym (append-nil old) ∙ ap (λ k. old ++ filter p (take k (drop from xs))) none

-- all of them, where the bytes are those of a page
pub collected : (low high : List ℕ) (p : List ℕ → Bool) (count width : ℕ) (bytes content : List ℕ) (from to index : ℕ) (old now : List (List ℕ)) → bytes ≡ content
    → Ascends (records count width content) → IsPlace (keys 0 (records count width bytes)) low from → IsPlace (keys 0 (records count width bytes)) high to
    → index - from ≤ to - from → from ≤ index → to ≤ index → now ≡ old ++ filter p (take (index - from) (drop from (records count width bytes)))
    → now ≡ old ++ wanted low high p (records count width content)
collected low high p count width bytes content from to index old now same up first last ends after done was =
    let all : index - from ≡ to - from = omega arith in
    let rs : List (List ℕ) = records count width bytes in
    let is : rs ≡ records count width content = ap (records count width) same in
    was ∙ ap (λ k. old ++ filter p (take k (drop from rs))) all
    ∙ ap (λ ys. old ++ ys) (between_places low high p rs from to (subst Ascends (sym is) up) (whole_place rs low from first) (whole_place rs high to last) ∙ ap (wanted low high p) is)
