-- How many pages a search reads: a part that it goes into has a cell that is found, or is cut by a bound.
use Rattle.std.proofs.Common.{◌≡◌, ◌⊎◌, ◌≤◌, ◌+◌, ℕ, zero, suc, Bool, true, false, cond, ◌||◌, Some, List, [], ◌∷◌, ◌++◌, length, take, drop, slice_get, filter, refl, sym, ap, ◌∙◌, subst, inl, inr, arith}
use Rattle.std.proofs.lemmas.Bool.{false≢true}
use Rattle.std.proofs.lemmas.List.{length-append}
use Rattle.std.proofs.lemmas.List.Sums.{sum_by-cons}
use Rattle.std.specs.List.{flat_map, sum_by, list_any}
use Rattle.rs_records.specs.Order.{is_below, Ascends}
use Rattle.rs_tree.specs.Cells.{is_within, cells_within}
use Rattle.rs_tree.specs.Searches.{wanted, weight, cut_low, cut_high}
use Rattle.rs_tree.specs.Leading.{where_some}
use Rattle.rs_tree.proofs.Below.{AllBelow, NoneBelow, all_below_trans, none_below_after, wanted-append, within_all, ascends_last}
use Rattle.rs_tree.proofs.Parts.{Leasts, part_below}

cond-le : (b : Bool) (n : ℕ) → n ≤ 1 → cond b n 1 ≤ 1
cond-le true n h = h
cond-le false n h = omega arith

cut_low-le : (low : List ℕ) (cells : List (List ℕ)) → cut_low low cells ≤ 1
cut_low-le low [] = omega arith
cut_low-le low (c ∷ cs) = at (is_below c low) where
  at : (b : Bool) → cond b 1 0 ≤ 1
  at true = omega arith
  at false = omega arith

cut_high-le : (high : List ℕ) (cells : List (List ℕ)) → cut_high high cells ≤ 1
cut_high-le high [] = omega arith
cut_high-le high (c ∷ cs) = cond-le (is_below c high) (cut_high high cs) (cut_high-le high cs)

cut_high-first : (high : List ℕ) (xs ys : List (List ℕ)) → cut_high high xs ≤ cut_high high (xs ++ ys)
cut_high-first high [] ys = omega arith
cut_high-first high (x ∷ xs) ys = at (is_below x high) (cut_high-first high xs ys) where
  at : (b : Bool) → cut_high high xs ≤ cut_high high (xs ++ ys) → cond b (cut_high high xs) 1 ≤ cond b (cut_high high (xs ++ ys)) 1
  at true ih = ih
  at false ih = omega arith

cut_high-last : (high : List ℕ) (xs ys : List (List ℕ)) → cut_high high ys ≤ cut_high high (xs ++ ys)
cut_high-last high [] ys = omega arith
cut_high-last high (x ∷ xs) ys = at (is_below x high) (cut_high-last high xs ys) where
  at : (b : Bool) → cut_high high ys ≤ cut_high high (xs ++ ys) → cut_high high ys ≤ cond b (cut_high high (xs ++ ys)) 1
  at true ih = ih
  at false ih = cut_high-le high ys

cut_high-below : (high : List ℕ) (cells : List (List ℕ)) → AllBelow high cells → cut_high high cells ≡ 0
cut_high-below high [] all = refl
cut_high-below high (c ∷ cs) all = rw all.0 (cut_high-below high cs all.1)

cut_low-least : (low l : List ℕ) (cells : List (List ℕ)) → slice_get cells 0 ≡ Some l → is_below l low ≡ false → cut_low low cells ≡ 0
cut_low-least low l [] e h = refl
cut_low-least low l (c ∷ cs) e h = let same : l ≡ c = cc in let none : is_below c low ≡ false = subst (λ x. is_below x low ≡ false) same h in rw none refl

cut_low-cut : (low l : List ℕ) (cells : List (List ℕ)) → slice_get cells 0 ≡ Some l → is_below l low ≡ true → cut_low low cells ≡ 1
cut_low-cut low l [] e h = absurd (cc)
cut_low-cut low l (c ∷ cs) e h = let same : l ≡ c = cc in let below : is_below c low ≡ true = subst (λ x. is_below x low ≡ true) same h in rw below refl

first-append : (l : List ℕ) (xs ys : List (List ℕ)) → slice_get xs 0 ≡ Some l → slice_get (xs ++ ys) 0 ≡ Some l
first-append l [] ys e = absurd (cc)
first-append l (x ∷ xs) ys e = e

cut_low-first : (low l : List ℕ) (xs ys : List (List ℕ)) → slice_get xs 0 ≡ Some l → cut_low low (xs ++ ys) ≡ cut_low low xs
cut_low-first low l [] ys e = absurd (cc)
cut_low-first low l (x ∷ xs) ys e = refl

hits-append : (low high : List ℕ) (passes : List ℕ → Bool) (xs ys : List (List ℕ)) → length (wanted low high passes (xs ++ ys)) ≡ length (wanted low high passes xs) + length (wanted low high passes ys)
hits-append low high passes xs ys = ap length (wanted-append low high passes xs ys) ∙ length-append (wanted low high passes xs) (wanted low high passes ys)

module _ {X : Type 0} (cells : X → List (List ℕ)) (low high : List ℕ) (passes : List ℕ → Bool) where
  abbrev pub weight_of : X → ℕ
  weight_of x = weight low high passes (cells x)

  abbrev hits : List (List ℕ) → ℕ
  hits cs = length (wanted low high passes cs)

  -- the first part, and those after it that the search goes into
  first_step : (x : X) (ls : List (List ℕ)) (xs : List X) (n : ℕ) → Leasts cells ls xs → Ascends (cells x ++ flat_map cells xs) → AllBelow high (take n ls)
      → sum_by weight_of (take n xs) ≤ hits (flat_map cells xs) + cut_high high (flat_map cells xs)
      → hits (cells x) + cut_high high (cells x) + sum_by weight_of (take n xs) ≤ hits (cells x ++ flat_map cells xs) + cut_high high (cells x ++ flat_map cells xs)
  first_step x ls xs zero leasts up below ih =
      omega (arith, hits-append low high passes (cells x) (flat_map cells xs), cut_high-first high (cells x) (flat_map cells xs))
  first_step x ls [] (suc n) leasts up below ih =
      omega (arith, hits-append low high passes (cells x) [], cut_high-first high (cells x) [])
  first_step x [] (y ∷ ys) (suc n) leasts up below ih = absurd leasts
  first_step x (m ∷ ms) (y ∷ ys) (suc n) leasts up below ih =
      let whole : cut_high high (cells x) ≡ 0 = cut_high-below high (cells x) (all_below_trans m high (cells x) (part_below cells x y ys m leasts.0 up) below.0) in
      omega (arith, ih, whole, hits-append low high passes (cells x) (flat_map cells (y ∷ ys)), cut_high-last high (cells x) (flat_map cells (y ∷ ys)))

  -- where no part begins below the first bound
  pub suffix_weight : (ls : List (List ℕ)) (parts : List X) (n : ℕ) → Leasts cells ls parts → Ascends (flat_map cells parts) → NoneBelow low ls → AllBelow high (take n ls)
      → sum_by weight_of (take n parts) ≤ hits (flat_map cells parts) + cut_high high (flat_map cells parts)
  unfolding weight
  suffix_weight ls parts zero leasts up none below = omega arith
  suffix_weight [] [] (suc n) leasts up none below = omega arith
  suffix_weight [] (x ∷ xs) (suc n) leasts up none below = absurd leasts
  suffix_weight (l ∷ ls) [] (suc n) leasts up none below = absurd leasts
  suffix_weight (l ∷ ls) (x ∷ xs) (suc n) leasts up none below =
      let ih = suffix_weight ls xs n leasts.1 (ascends_last (cells x) (flat_map cells xs) up) none.1 below.1 in
      let step = first_step x ls xs n leasts.1 up below.1 ih in
      omega (arith, step, cut_low-least low l (cells x) leasts.0 none.0, sum_by-cons weight_of x (take n xs))

  -- where the parts up to one begin below the first bound
  pub lead_weight : (ls : List (List ℕ)) (parts : List X) (p n : ℕ) → Leasts cells ls parts → Ascends (flat_map cells parts) → suc p ≤ length ls
      → AllBelow low (take (suc p) ls) → NoneBelow low (drop (suc p) ls) → AllBelow high (take n (drop p ls))
      → sum_by weight_of (take n (drop p parts)) ≤ weight low high passes (flat_map cells parts)
  unfolding weight
  lead_weight [] parts p n leasts up inside lows none below = absurd (omega arith)
  lead_weight (l ∷ ls) [] p n leasts up inside lows none below = absurd leasts
  lead_weight (l ∷ ls) (x ∷ xs) zero zero leasts up inside lows none below = omega arith
  lead_weight (l ∷ ls) (x ∷ xs) zero (suc n) leasts up inside lows none below =
      let ih = suffix_weight ls xs n leasts.1 (ascends_last (cells x) (flat_map cells xs) up) none below.1 in
      let step = first_step x ls xs n leasts.1 up below.1 ih in
      omega (arith, step, cut_low-first low l (cells x) (flat_map cells xs) leasts.0, sum_by-cons weight_of x (take n xs))
  lead_weight (l ∷ ls) (x ∷ xs) (suc p) n leasts up inside lows none below =
      let ih = lead_weight ls xs p n leasts.1 (ascends_last (cells x) (flat_map cells xs) up) (omega arith) lows.1 none below in
      omega (
        arith,
        ih,
        cut_low-le low (flat_map cells xs),
        cut_low-cut low l (cells x ++ flat_map cells xs) (first-append l (cells x) (flat_map cells xs) leasts.0) lows.0,
        hits-append low high passes (cells x) (flat_map cells xs),
        cut_high-last high (cells x) (flat_map cells xs),
      )

any_filter : {A : Type 0} (p : A → Bool) (xs : List A) → list_any p xs ≡ true → 1 ≤ length (filter p xs)
any_filter p [] h = absurd (false≢true h)
any_filter p (x ∷ xs) h = at (p x) h (any_filter p xs) where
  at : (b : Bool) → (b || list_any p xs) ≡ true → (list_any p xs ≡ true → 1 ≤ length (filter p xs)) → 1 ≤ length (cond b (x ∷ filter p xs) (filter p xs))
  at true some ih = omega arith
  at false some ih = ih some

cut_high-cases : (high : List ℕ) (cells : List (List ℕ)) → (cut_high high cells ≡ 1) ⊎ AllBelow high cells
cut_high-cases high [] = inr tt
cut_high-cases high (c ∷ cs) = at (is_below c high) refl (cut_high-cases high cs) where
  at : (b : Bool) → is_below c high ≡ b → (cut_high high cs ≡ 1) ⊎ AllBelow high cs → (cond b (cut_high high cs) 1 ≡ 1) ⊎ AllBelow high (c ∷ cs)
  at true e (inl cut) = inl cut
  at true e (inr all) = inr (e, all)
  at false e ih = inl refl

-- a part with a cell that passes weighs something
pub accepted_weight : (low high : List ℕ) (passes : List ℕ → Bool) (cells : List (List ℕ)) → Ascends cells → list_any passes cells ≡ true → 1 ≤ weight low high passes cells
unfolding weight
accepted_weight low high passes [] up some = absurd (false≢true some)
accepted_weight low high passes (c ∷ cs) up some = at (is_below c low) refl where
  at : (b : Bool) → is_below c low ≡ b → 1 ≤ length (wanted low high passes (c ∷ cs)) + (cond b 1 0 + cut_high high (c ∷ cs))
  at true e = omega arith
  at false e = elim (cut_high-cases high (c ∷ cs)) [
    | inl cut ↦ omega (arith, cut)
    | inr all ↦
        let same : wanted low high passes (c ∷ cs) ≡ filter passes (c ∷ cs) = ap (filter passes) (within_all low high (c ∷ cs) (e, none_below_after low c cs e up.0) all) in
        let more : length (wanted low high passes (c ∷ cs)) ≡ length (filter passes (c ∷ cs)) = ap length same in
        omega (arith, more, any_filter passes (c ∷ cs) some)
  ]

-- what is found is no more than the weight, and that no more than two above it
pub weight-le : (low high : List ℕ) (passes : List ℕ → Bool) (cells : List (List ℕ)) → weight low high passes cells ≤ length (wanted low high passes cells) + 2
unfolding weight
weight-le low high passes cells = omega (arith, cut_low-le low cells, cut_high-le high cells)

-- where no cell passes nothing is found
pub rejected_wanted : (low high : List ℕ) (passes : List ℕ → Bool) (cells : List (List ℕ)) → list_any passes cells ≡ false → wanted low high passes cells ≡ []
rejected_wanted low high passes [] none = refl
rejected_wanted low high passes (c ∷ cs) none = at (is_within low high c) (passes c) refl none (rejected_wanted low high passes cs) where
  at : (b p : Bool) → passes c ≡ p → (p || list_any passes cs) ≡ false → (list_any passes cs ≡ false → wanted low high passes cs ≡ [])
      → filter passes (cond b (c ∷ cells_within low high cs) (cells_within low high cs)) ≡ []
  at true true e h ih = absurd (false≢true (sym h))
  at true false e h ih = rw e (ih h)
  at false true e h ih = absurd (false≢true (sym h))
  at false false e h ih = ih h

-- what is no more than the found cells and the cut at the end is no more than the weight
pub under_weight : (low high : List ℕ) (passes : List ℕ → Bool) (cells : List (List ℕ)) (n : ℕ) → n ≤ length (wanted low high passes cells) + cut_high high cells → n ≤ weight low high passes cells
unfolding weight
under_weight low high passes cells n h = omega arith

-- what counts where there are cells counts no more than it would without them
pub where_some-le : (cells : List (List ℕ)) (count : ℕ) → where_some cells count ≤ count
where_some-le [] count = omega arith
where_some-le (c ∷ cs) count = omega arith
