-- Spans that are cut to a window, carried to another place, or keep some columns: what they mean.
use Rattle.std.proofs.Common.{◌≡◌, ◌≤◌, ℕ, ◌+◌, ◌-◌, min, max, Bool, true, false, ◌&&◌, ◌||◌, cond, List, [], ◌∷◌, ◌++◌, map, filter, length, refl, sym, ap, ◌∙◌, subst, arith}
use Rattle.std.proofs.lemmas.Bool.{and_parts, and_from, ltb-true, lt-ltb}
use Rattle.std.proofs.lemmas.List.{length-map}
use Rattle.std.proofs.lemmas.List.Sorted.{IsPermutation-map}
use Rattle.std.specs.List.{list_any, AllByRecursion}
use Rattle.std.specs.List.Sorted.{IsPermutation}
use Rattle.std.specs.Prelude.{nat_lt}
use Rattle.rs_value.specs.Row.{Row}
use Rattle.rs_value.specs.declared.column.Kind.{Kind}
use Rattle.rs_value.specs.declared.column.Kind.TheVariants.{Point, Line}
use Rattle.rs_facts.specs.declared.fact.Span.{Span}
use Rattle.rs_facts.specs.Fact.{contains, keep}
use Rattle.rs_facts.specs.Insert.{within}
use Rattle.rs_facts.specs.Operators.{chosen, dissolved, merged, windowed, carried}
use Rattle.rs_facts.specs.Runs.{Stretch}
use Rattle.rs_facts.specs.Spans.{seen, places_of, IsPlaced, ArePlaced}
use Rattle.rs_facts.proofs.KeptLaws.{every-append}
use Rattle.rs_facts.proofs.Placing.{within-true, within-bounds}
use Rattle.rs_facts.proofs.Rows.{same_row}
use Rattle.rs_facts.proofs.Sets.{same_rows}
use Rattle.rs_facts.proofs.SpanLaws.{holds, Holds-from_holds, contains-places_of, contains-append, places_of-permutation}
use Rattle.rs_facts.proofs.Carrying.{contains-carried}
use Rattle.rs_facts.proofs.RowSets.{any-map, any-same, either-way, any-places, contains-keep, contains-mapped, contains-merged, contains-windowed}
use Rattle.rs_coalesce.proofs.Separate.{IsCut}
use Rattle.rs_sweep.specs.Inner.{clipped, moved, shifted, in_columns}
use Rattle.rs_sweep.specs.Lists.{AreSorted, AreWide}
use Rattle.rs_sweep.proofs.Arrangement.{every-kept, sorted-kept, every-map, sorted-map, every-moved}

-- ---- WINDOW

abbrev pub some : Stretch → Bool
some span = nat_lt span.lo span.hi

within_both : (a b c d k : ℕ) → within (max a b) (min c d) k ≡ (within b d k && within a c k)
within_both a b c d k = either-way _ _
    (λ e. let h = within-bounds (max a b) (min c d) k e in and_from (within b d k) (within a c k) (within-true b d k (omega (arith, h.0)) (omega (arith, h.1))) (within-true a c k (omega (arith, h.0)) (omega (arith, h.1))))
    (λ e. let p = and_parts (within b d k) (within a c k) e in let x = within-bounds b d k p.0 in let y = within-bounds a c k p.1 in within-true (max a b) (min c d) k (omega (arith, x.0, y.0)) (omega (arith, x.1, y.1)))

and_assoc : (a b c : Bool) → (a && b && c) ≡ (a && (b && c))
and_assoc true b c = refl
and_assoc false b c = refl

holds_clipped : (lo hi : ℕ) (row : Row) (k : ℕ) (x : Stretch) → holds row k (clipped lo hi x) ≡ (within lo hi k && holds row k x)
unfolding holds
holds_clipped lo hi row k x = ap (λ t. t && same_row x.row row) (within_both x.lo lo x.hi hi k) ∙ and_assoc (within lo hi k) (within x.lo x.hi k) (same_row x.row row)

holds_none : (row : Row) (k : ℕ) (x : Stretch) → some x ≡ false → holds row k x ≡ false
unfolding holds
holds_none row k x e = elim (holds row k x) as (λ t. holds row k x ≡ t → t ≡ false) [
  | true ↦ λ h. let b = within-bounds x.lo x.hi k (and_parts (within x.lo x.hi k) (same_row x.row row) h).0 in let t = lt-ltb x.lo x.hi (omega (arith, b.0, b.1)) in cc
  | false ↦ λ h. refl
] refl

any_some : (row : Row) (k : ℕ) (xs : List Stretch) → list_any (holds row k) (filter some xs) ≡ list_any (holds row k) xs
any_some row k [] = refl
any_some row k (x ∷ xs) = elim (some x) as (λ t. some x ≡ t → list_any (holds row k) (cond t (x ∷ filter some xs) (filter some xs)) ≡ (holds row k x || list_any (holds row k) xs)) [
  | true ↦ λ e. ap (λ t. holds row k x || t) (any_some row k xs)
  | false ↦ λ e. any_some row k xs ∙ sym (ap (λ t. t || list_any (holds row k) xs) (holds_none row k x e))
] refl

any_and : {X : Type 0} (c : Bool) (p : X → Bool) (xs : List X) → list_any (λ x. c && p x) xs ≡ (c && list_any p xs)
any_and true p xs = refl
any_and false p [] = refl
any_and false p (x ∷ xs) = any_and false p xs

pub windowed-means : (lo hi : ℕ) (xs : List Stretch) (k : ℕ) → places_of (filter some (map (clipped lo hi) xs)) k ≡ windowed lo hi k (places_of xs k)
windowed-means lo hi xs k = same_rows _ _ (λ row.
    contains-places_of (filter some (map (clipped lo hi) xs)) k row
    ∙ any_some row k (map (clipped lo hi) xs)
    ∙ any-map (holds row k) (clipped lo hi) xs
    ∙ any-same _ _ xs (holds_clipped lo hi row k)
    ∙ any_and (within lo hi k) (holds row k) xs
    ∙ ap (λ t. within lo hi k && t) (sym (contains-places_of xs k row))
    ∙ sym (contains-windowed lo hi k (places_of xs k) row))

clipped_placed : (kind : Kind) (lo hi : ℕ) (x : Stretch) → IsPlaced kind x → some (clipped lo hi x) ≡ true → IsPlaced kind (clipped lo hi x)
clipped_placed Line lo hi x h e = ltb-true (max x.lo lo) (min x.hi hi) e
clipped_placed Point lo hi x h e = let l = ltb-true (max x.lo lo) (min x.hi hi) e in omega (arith, h, l)

pub clipped-cuts : (lo hi : ℕ) (x : Stretch) → IsCut x (clipped lo hi x)
clipped-cuts lo hi x = record { row = refl; lo = omega arith; hi = omega arith }

pub windowed-placed : (kind : Kind) (lo hi : ℕ) (xs : List Stretch) → ArePlaced kind xs → ArePlaced kind (filter some (map (clipped lo hi) xs))
windowed-placed kind lo hi xs h = every-kept (IsPlaced kind) (IsPlaced kind) some (clipped lo hi) (clipped_placed kind lo hi) xs h

pub windowed-sorted : (lo hi : ℕ) (xs : List Stretch) → AreSorted xs → AreSorted (filter some (map (clipped lo hi) xs))
windowed-sorted lo hi xs h = sorted-kept some (clipped lo hi) (λ x y l. omega arith) xs h

pub windowed-wide : (width lo hi : ℕ) (xs : List Stretch) → AreWide width xs → AreWide width (filter some (map (clipped lo hi) xs))
windowed-wide width lo hi xs h = every-kept (λ s. length s.row ≡ width) (λ s. length s.row ≡ width) some (clipped lo hi) (λ x e t. e) xs h

-- ---- TRANSFORM, by one piece

within_moved : (from to onto lo hi k : ℕ) → from ≤ to → within (moved from to onto lo) (moved from to onto hi) k ≡ (within onto (onto + (to - from)) k && within lo hi (from + (k - onto)))
within_moved from to onto lo hi k l = either-way _ _
    (λ e.
    let h = within-bounds (moved from to onto lo) (moved from to onto hi) k e in
    let a = h.0 in let b = h.1 in
    and_from (within onto (onto + (to - from)) k) (within lo hi (from + (k - onto)))
    (within-true onto (onto + (to - from)) k (omega (arith, a)) (omega (arith, b)))
    (within-true lo hi (from + (k - onto)) (omega (arith, l, a, b)) (omega (arith, l, a, b))))
    (λ e.
    let parts = and_parts (within onto (onto + (to - from)) k) (within lo hi (from + (k - onto))) e in
    let x = within-bounds onto (onto + (to - from)) k parts.0 in
    let y = within-bounds lo hi (from + (k - onto)) parts.1 in
    let a = x.0 in let b = x.1 in let c = y.0 in let d = y.1 in
    within-true (moved from to onto lo) (moved from to onto hi) k (omega (arith, l, a, b, c, d)) (omega (arith, l, a, b, c, d)))

holds_shifted : (from to onto : ℕ) → from ≤ to → (row : Row) (k : ℕ) (x : Stretch) → holds row k (shifted from to onto x) ≡ (within onto (onto + (to - from)) k && holds row (from + (k - onto)) x)
unfolding holds
holds_shifted from to onto l row k x = ap (λ t. t && same_row x.row row) (within_moved from to onto x.lo x.hi k l) ∙ and_assoc (within onto (onto + (to - from)) k) (within x.lo x.hi (from + (k - onto))) (same_row x.row row)

pub shifted-means : (from to onto : ℕ) → from ≤ to → (xs : List Stretch) (k : ℕ) → places_of (filter some (map (shifted from to onto) xs)) k ≡ carried from to onto (places_of xs) k
shifted-means from to onto l xs k = same_rows _ _ (λ row.
    contains-places_of (filter some (map (shifted from to onto) xs)) k row
    ∙ any_some row k (map (shifted from to onto) xs)
    ∙ any-map (holds row k) (shifted from to onto) xs
    ∙ any-same _ _ xs (holds_shifted from to onto l row k)
    ∙ any_and (within onto (onto + (to - from)) k) (holds row (from + (k - onto))) xs
    ∙ ap (λ t. within onto (onto + (to - from)) k && t) (sym (contains-places_of xs (from + (k - onto)) row))
    ∙ sym (contains-carried from to onto (places_of xs) k row))

shifted_placed : (kind : Kind) (from to onto : ℕ) → from ≤ to → (x : Stretch) → IsPlaced kind x → some (shifted from to onto x) ≡ true → IsPlaced kind (shifted from to onto x)
shifted_placed Line from to onto l x h e = ltb-true (moved from to onto x.lo) (moved from to onto x.hi) e
shifted_placed Point from to onto l x h e = let less = ltb-true (moved from to onto x.lo) (moved from to onto x.hi) e in omega (arith, l, h, less)

pub shifted-placed : (kind : Kind) (from to onto : ℕ) → from ≤ to → (xs : List Stretch) → ArePlaced kind xs → ArePlaced kind (filter some (map (shifted from to onto) xs))
shifted-placed kind from to onto l xs h = every-kept (IsPlaced kind) (IsPlaced kind) some (shifted from to onto) (shifted_placed kind from to onto l) xs h

pub shifted-sorted : (from to onto : ℕ) (xs : List Stretch) → AreSorted xs → AreSorted (filter some (map (shifted from to onto) xs))
shifted-sorted from to onto xs h = sorted-kept some (shifted from to onto) (λ x y l. omega (arith, l)) xs h

pub shifted-wide : (width from to onto : ℕ) (xs : List Stretch) → AreWide width xs → AreWide width (filter some (map (shifted from to onto) xs))
shifted-wide width from to onto xs h = every-kept (λ s. length s.row ≡ width) (λ s. length s.row ≡ width) some (shifted from to onto) (λ x e t. e) xs h

-- ---- DISSOLVE

pub dissolved-means : (columns : List ℕ) (xs : List Stretch) (k : ℕ) → places_of (map (in_columns columns) xs) k ≡ dissolved columns (places_of xs k)
unfolding holds dissolved
dissolved-means columns xs k = same_rows _ _ (λ row.
    contains-places_of (map (in_columns columns) xs) k row
    ∙ any-map (holds row k) (in_columns columns) xs
    ∙ sym (any-places (λ from. same_row (chosen columns from) row) xs k)
    ∙ sym (contains-mapped (chosen columns) (places_of xs k) row))

in_columns_placed : (kind : Kind) (columns : List ℕ) (x : Stretch) → IsPlaced kind x → IsPlaced kind (in_columns columns x)
in_columns_placed Line columns x h = h
in_columns_placed Point columns x h = h

pub dissolved-placed : (kind : Kind) (columns : List ℕ) (xs : List Stretch) → ArePlaced kind xs → ArePlaced kind (map (in_columns columns) xs)
dissolved-placed kind columns xs h = every-map (IsPlaced kind) (IsPlaced kind) (in_columns columns) (in_columns_placed kind columns) xs h

pub dissolved-sorted : (columns : List ℕ) (xs : List Stretch) → AreSorted xs → AreSorted (map (in_columns columns) xs)
dissolved-sorted columns xs h = sorted-map (in_columns columns) (λ x y l. l) xs h

chosen_wide : (columns : List ℕ) (row : Row) → length (chosen columns row) ≡ length columns
unfolding chosen
chosen_wide columns row = grind (arith, length-map)

pub dissolved-wide : (columns : List ℕ) (xs : List Stretch) → AreWide (length columns) (map (in_columns columns) xs)
dissolved-wide columns [] = tt
dissolved-wide columns (x ∷ xs) = (chosen_wide columns x.row, dissolved-wide columns xs)

-- ---- MERGE

map_append : (xs ys : List Span) → map seen (xs ++ ys) ≡ map seen xs ++ map seen ys
map_append [] ys = refl
map_append (x ∷ xs) ys = ap (λ zs. seen x ∷ zs) (map_append xs ys)

pub merged-means : (left right out : List Span) (k : ℕ) → IsPermutation (left ++ right) out → places_of (map seen out) k ≡ merged (places_of (map seen left) k) (places_of (map seen right) k)
merged-means left right out k h = same_rows _ _ (λ row.
    ap (λ p. contains (p k) row) (sym (places_of-permutation (map seen (left ++ right)) (map seen out) (IsPermutation-map seen (left ++ right) out h)))
    ∙ ap (λ zs. contains (places_of zs k) row) (map_append left right)
    ∙ contains-append (map seen left) (map seen right) k row
    ∙ sym (contains-merged (places_of (map seen left) k) (places_of (map seen right) k) row))

pub merged-all : (P : Stretch → Type 0) (left right out : List Span) → IsPermutation (left ++ right) out → AllByRecursion P (map seen left) → AllByRecursion P (map seen right) → AllByRecursion P (map seen out)
merged-all P left right out h a b = every-moved P (left ++ right) out h (subst (AllByRecursion P) (sym (map_append left right)) (every-append P (map seen left) (map seen right) a b))

-- ---- WHERE

abbrev pub by_row : (Row → Bool) → Stretch → Bool
by_row test span = test span.row

every_filter : (P : Stretch → Type 0) (test : Stretch → Bool) (xs : List Stretch) → AllByRecursion P xs → AllByRecursion P (filter test xs)
every_filter P test [] all = tt
every_filter P test (x ∷ xs) all =
    let rest = every_filter P test xs all.1 in
    elim (test x) as (λ t. AllByRecursion P (cond t (x ∷ filter test xs) (filter test xs))) [
      | true ↦ (all.0, rest)
      | false ↦ rest
    ]

sorted_filter : (test : Stretch → Bool) (xs : List Stretch) → AreSorted xs → AreSorted (filter test xs)
sorted_filter test [] h = tt
sorted_filter test (x ∷ xs) h =
    let rest = sorted_filter test xs h.1 in
    elim (test x) as (λ t. AreSorted (cond t (x ∷ filter test xs) (filter test xs))) [
      | true ↦ (every_filter (λ l. x.lo ≤ l.lo) test xs h.0, rest)
      | false ↦ rest
    ]

-- of the spans that hold a row, those stay whose row passes
kept_any : (test : Row → Bool) (row : Row) (k : ℕ) (xs : List Stretch) → list_any (holds row k) (filter (by_row test) xs) ≡ (list_any (holds row k) xs && test row)
kept_any test row k [] = refl
kept_any test row k (x ∷ xs) = elim (test x.row) as (λ t. test x.row ≡ t → list_any (holds row k) (cond t (x ∷ filter (by_row test) xs) (filter (by_row test) xs)) ≡ ((holds row k x || list_any (holds row k) xs) && test row)) [
  | true ↦ λ e. ap (λ t. holds row k x || t) (kept_any test row k xs) ∙ stays (holds row k x) (list_any (holds row k) xs) (test row) (λ h. ap test (sym (same h)) ∙ e)
  | false ↦ λ e. kept_any test row k xs ∙ goes (holds row k x) (list_any (holds row k) xs) (test row) (λ h. ap test (sym (same h)) ∙ e)
] refl
  where
    same : holds row k x ≡ true → x.row ≡ row
    same h = (Holds-from_holds row k x h).same

    stays : (h rest t : Bool) → (h ≡ true → t ≡ true) → (h || (rest && t)) ≡ ((h || rest) && t)
    stays true rest t f = sym (f refl)
    stays false rest t f = refl

    goes : (h rest t : Bool) → (h ≡ true → t ≡ false) → (rest && t) ≡ ((h || rest) && t)
    goes true rest t f = (λ i. rest && f refl i) ∙ none rest ∙ sym (f refl)
      where
        none : (r : Bool) → (r && false) ≡ false
        none true = refl
        none false = refl
    goes false rest t f = refl

pub selected-means : (test : Row → Bool) (xs : List Stretch) (k : ℕ) → places_of (filter (by_row test) xs) k ≡ keep test (places_of xs k)
selected-means test xs k = same_rows _ _ (λ row.
    contains-places_of (filter (by_row test) xs) k row
    ∙ kept_any test row k xs
    ∙ ap (λ t. t && test row) (sym (contains-places_of xs k row))
    ∙ sym (contains-keep test (places_of xs k) row))

pub selected-sorted : (test : Row → Bool) (xs : List Stretch) → AreSorted xs → AreSorted (filter (by_row test) xs)
selected-sorted test xs h = sorted_filter (by_row test) xs h

pub selected-placed : (kind : Kind) (test : Row → Bool) (xs : List Stretch) → ArePlaced kind xs → ArePlaced kind (filter (by_row test) xs)
selected-placed kind test xs h = every_filter (IsPlaced kind) (by_row test) xs h

pub selected-wide : (width : ℕ) (test : Row → Bool) (xs : List Stretch) → AreWide width xs → AreWide width (filter (by_row test) xs)
selected-wide width test xs h = every_filter (λ s. length s.row ≡ width) (by_row test) xs h
