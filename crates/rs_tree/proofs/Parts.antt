-- Ascending cells in parts, each with its least cell: where bounds belong among the parts, and what each part has within.
use Rattle.std.proofs.Common.{◌≡◌, ◌<◌, ◌≤◌, ℕ, zero, suc, Bool, false, Some, List, [], ◌∷◌, ◌++◌, IsTrue, length, take, drop, get_or, slice_get, refl, ap, ◌∙◌, subst, arith}
use Rattle.std.specs.List.{AllByRecursion, AllZip, flat_map}
use Rattle.rs_records.specs.Order.{is_below, Ascends}
use Rattle.rs_records.specs.Records.{IsPlace}
use Rattle.rs_records.proofs.Orders.{is_below-trans}
use Rattle.rs_tree.specs.Searches.{wanted}
use Rattle.rs_tree.proofs.Below.{AllBelow, NoneBelow, all_last, none_below_after, wanted-append, wanted_none_below, wanted_none_above, ascends_first, ascends_last, ascends_across, all_below_trans}

-- where a key belongs in the rest
place_rest : (l : List ℕ) (ls : List (List ℕ)) (key : List ℕ) (p : ℕ) → IsPlace (l ∷ ls) key (suc p) → (0 < p → IsPlace ls key p)
place_rest l ls key p place some = record {
  within = omega (arith, place.within);
  before = λ last e. place.before (suc last) (ap suc e);
  after = λ h. place.after (omega arith);
}

-- the last of some cells that ascend, all above one
last_above : (l : List ℕ) (ls : List (List ℕ)) (i : ℕ) → i < length ls → AllByRecursion (λ cell. IsTrue (is_below l cell)) ls → IsTrue (is_below l (get_or ls i []))
last_above l [] i h all = absurd (omega arith)
last_above l (x ∷ xs) zero h all = all.0
last_above l (x ∷ xs) (suc i) h all = last_above l xs i (omega arith) all.1

-- all before the place are below the key, and none from there on
pub place_splits : (ls : List (List ℕ)) (key : List ℕ) (p : ℕ) → Ascends ls → IsPlace ls key p → AllBelow key (take p ls) × NoneBelow key (drop p ls)
place_splits [] key zero up place = (tt, tt)
place_splits [] key (suc p) up place = (tt, tt)
place_splits (l ∷ ls) key zero up place =
    let first : is_below l key ≡ false = place.after (omega arith) in (tt, (first, none_below_after key l ls first up.0))
place_splits (l ∷ ls) key (suc zero) up place = ((place.before zero refl, tt), none_from ls up.1 (λ h. place.after (omega arith))) where
  none_from : (xs : List (List ℕ)) → Ascends xs → (0 < length xs → is_below (get_or xs 0 []) key ≡ false) → NoneBelow key xs
  none_from [] rest after = tt
  none_from (x ∷ xs) rest after = let first : is_below x key ≡ false = after (omega arith) in (first, none_below_after key x xs first rest.0)
place_splits (l ∷ ls) key (suc (suc p)) up place =
    let rest = place_splits ls key (suc p) up.1 (place_rest l ls key (suc p) place (omega arith)) in
    let last : IsTrue (is_below (get_or ls p []) key) = place.before (suc p) refl in
    let inside : p < length ls = omega (arith, place.within) in
    ((is_below-trans l (get_or ls p []) key (last_above l ls p inside up.0) last, rest.0), rest.1)

module _ {X : Type 0} (cells : X → List (List ℕ)) where
  -- the least cell of each part
  abbrev pub Leasts : List (List ℕ) → List X → Type 0
  Leasts = AllZip (λ least part. slice_get (cells part) 0 ≡ Some least)

  all_above_least : (l : List ℕ) (ys : List X) (ls : List (List ℕ)) → Leasts ls ys
      → AllByRecursion (λ cell. IsTrue (is_below l cell)) (flat_map cells ys) → AllByRecursion (λ cell. IsTrue (is_below l cell)) ls
  all_above_least l [] [] leasts all = tt
  all_above_least l [] (m ∷ ms) leasts all = absurd leasts
  all_above_least l (y ∷ ys) [] leasts all = tt
  all_above_least l (y ∷ ys) (m ∷ ms) leasts all =
      (first_of (cells y) leasts.0 all, all_above_least l ys ms leasts.1 (all_last l (cells y) (flat_map cells ys) all)) where
        first_of : (cs : List (List ℕ)) → slice_get cs 0 ≡ Some m → AllByRecursion (λ cell. IsTrue (is_below l cell)) (cs ++ flat_map cells ys) → IsTrue (is_below l m)
        first_of [] e h = absurd (cc)
        first_of (c ∷ cs) e h = let same : c ≡ m = cc in subst (λ x. IsTrue (is_below l x)) same h.0

  -- the least cells ascend
  pub leasts_ascend : (ls : List (List ℕ)) (parts : List X) → Leasts ls parts → Ascends (flat_map cells parts) → Ascends ls
  leasts_ascend [] parts leasts up = tt
  leasts_ascend (l ∷ ls) [] leasts up = absurd leasts
  leasts_ascend (l ∷ ls) (x ∷ xs) leasts up =
      (above (cells x) leasts.0 up, leasts_ascend ls xs leasts.1 (ascends_last (cells x) (flat_map cells xs) up)) where
        above : (cs : List (List ℕ)) → slice_get cs 0 ≡ Some l → Ascends (cs ++ flat_map cells xs) → AllByRecursion (λ cell. IsTrue (is_below l cell)) ls
        above [] e h = absurd (cc)
        above (c ∷ cs) e h =
            let same : c ≡ l = cc in
            let all : AllByRecursion (λ cell. IsTrue (is_below c cell)) (flat_map cells xs) = all_last c cs (flat_map cells xs) h.0 in
            all_above_least l xs ls leasts.1 (subst (λ y. AllByRecursion (λ cell. IsTrue (is_below y cell)) (flat_map cells xs)) same all)

  -- each cell of a part is below the next part's least
  pub part_below : (x y : X) (ys : List X) (l : List ℕ) → slice_get (cells y) 0 ≡ Some l → Ascends (cells x ++ flat_map cells (y ∷ ys)) → AllBelow l (cells x)
  part_below x y ys l e up = by_cells (cells y) e up where
    by_cells : (cs : List (List ℕ)) → slice_get cs 0 ≡ Some l → Ascends (cells x ++ (cs ++ flat_map cells ys)) → AllBelow l (cells x)
    by_cells [] none h = absurd (cc)
    by_cells (c ∷ cs) is h = let same : c ≡ l = cc in subst (λ z. AllBelow z (cells x)) same (ascends_across (cells x) c (cs ++ flat_map cells ys) h)

  module _ (low high : List ℕ) (passes : List ℕ → Bool) where
    -- what a part has within the bounds that passes
    abbrev pub has : X → List (List ℕ)
    has x = wanted low high passes (cells x)

    pub wanted_parts : (parts : List X) → wanted low high passes (flat_map cells parts) ≡ flat_map has parts
    wanted_parts [] = refl
    wanted_parts (x ∷ xs) = wanted-append low high passes (cells x) (flat_map cells xs) ∙ ap (λ rest. has x ++ rest) (wanted_parts xs)

    -- the parts before the last that begins below the first bound have nothing
    pub none_before : (ls : List (List ℕ)) (parts : List X) (p : ℕ) → Leasts ls parts → Ascends (flat_map cells parts) → suc p ≤ length ls → AllBelow low (take (suc p) ls)
        → AllByRecursion (λ x. has x ≡ []) (take p parts)
    none_before ls parts zero leasts up inside below = tt
    none_before [] parts (suc p) leasts up inside below = absurd (omega arith)
    none_before (l ∷ ls) [] (suc p) leasts up inside below = absurd leasts
    none_before (l ∷ []) (x ∷ xs) (suc p) leasts up inside below = absurd (omega arith)
    none_before (l ∷ m ∷ ms) (x ∷ []) (suc p) leasts up inside below = absurd leasts.1
    none_before (l ∷ m ∷ ms) (x ∷ y ∷ ys) (suc p) leasts up inside below = (
      wanted_none_below low high passes (cells x) (all_below_trans m low (cells x) (part_below x y ys m leasts.1.0 up) below.1.0),
      none_before (m ∷ ms) (y ∷ ys) p leasts.1 (ascends_last (cells x) (flat_map cells (y ∷ ys)) up) (omega arith) below.1,
    )

    -- the parts that begin at the second bound or after it have nothing
    pub none_after : (ls : List (List ℕ)) (parts : List X) (q : ℕ) → Leasts ls parts → Ascends (flat_map cells parts) → NoneBelow high (drop q ls)
        → AllByRecursion (λ x. has x ≡ []) (drop q parts)
    none_after [] [] zero leasts up none = tt
    none_after [] [] (suc q) leasts up none = tt
    none_after [] (x ∷ xs) q leasts up none = absurd leasts
    none_after (l ∷ ls) [] q leasts up none = absurd leasts
    none_after (l ∷ ls) (x ∷ xs) zero leasts up none = (
      wanted_none_above low high passes (cells x) (from_least (cells x) leasts.0 (ascends_first (cells x) (flat_map cells xs) up)),
      none_after ls xs zero leasts.1 (ascends_last (cells x) (flat_map cells xs) up) none.1,
    ) where
      from_least : (cs : List (List ℕ)) → slice_get cs 0 ≡ Some l → Ascends cs → NoneBelow high cs
      from_least [] e h = tt
      from_least (c ∷ cs) e h = let same : l ≡ c = cc in let first : is_below c high ≡ false = subst (λ y. is_below y high ≡ false) same none.0 in (first, none_below_after high c cs first h.0)
    none_after (l ∷ ls) (x ∷ xs) (suc q) leasts up none = none_after ls xs q leasts.1 (ascends_last (cells x) (flat_map cells xs) up) none
