-- A sum over thousandths of a sum over the rows that hold there is a sum over spans.
use Rattle.std.proofs.Common.{◌≡◌, ℕ, suc, ◌+◌, ◌*◌, ◌<◌, ◌≤◌, min, max, Bool, true, false, cond, ◌⊎◌, inl, inr, List, [], ◌∷◌, map, length, is_some, refl, sym, ap, ◌∙◌, arith, Less, Equal, Greater}
use Rattle.std.proofs.lemmas.List.Sums.{sum_by-cons}
use Rattle.std.specs.List.{count_by, sum_by}
use Rattle.std.specs.FinMap as map_of
use Rattle.std.specs.FinMap.Entries.{by_order, find, put}
use Rattle.std.specs.Ordering.{is_eq}
use Rattle.std.specs.Prelude.{Some}
use Rattle.rs_value.specs.Row.{Row, row_cmp}
use Rattle.rs_value.specs.declared.column.Kind.{Kind}
use Rattle.rs_facts.specs.Fact.{RowSet, Places, none, contains, add, items, thousandths}
use Rattle.rs_facts.specs.Insert.{within, with_row}
use Rattle.rs_facts.specs.Runs.{Stretch}
use Rattle.rs_facts.specs.Spans.{places_of, AreKept}
use Rattle.rs_facts.proofs.Rows.{row_cmp-total}
use Rattle.rs_facts.proofs.Placing.{cases_within, within-true, within-false, within-bounds}
use Rattle.rs_facts.proofs.Counting.{overlap, count-empty, count-split, count-all, count-none}
use Rattle.rs_facts.proofs.KeptLaws.{kept-free}

-- ---- sums over any list

pub sum-same : {X : Type 0} (f g : X → ℕ) (xs : List X) → ((x : X) → f x ≡ g x) → sum_by f xs ≡ sum_by g xs
sum-same f g xs e = ap (λ h. sum_by h xs) (λ i x. e x i)

pub sum-both : {X : Type 0} (f g : X → ℕ) (xs : List X) → sum_by (λ x. f x + g x) xs ≡ sum_by f xs + sum_by g xs
sum-both f g [] = refl
sum-both f g (x ∷ xs) =
    let rest = sum-both f g xs in
    let one = sum_by-cons (λ x. f x + g x) x xs in
    let two = sum_by-cons f x xs in
    let three = sum_by-cons g x xs in
    omega (arith, rest, one, two, three)

pub sum-none : {X : Type 0} (xs : List X) → sum_by (λ (x : X). 0) xs ≡ 0
sum-none [] = refl
sum-none (x ∷ xs) = let rest = sum-none xs in sum_by-cons (λ x. 0) x xs ∙ omega (arith, rest)

one_more : (b : Bool) (w n : ℕ) → cond b w 0 + w * n ≡ w * (cond b 1 0 + n)
one_more true w n = omega arith
one_more false w n = let same : n ≡ 0 + n = omega arith in let start : 0 + w * n ≡ w * n = omega arith in start ∙ ap (λ m. w * m) same

-- so much for each that passes
pub sum-passing : {X : Type 0} (p : X → Bool) (w : ℕ) (xs : List X) → sum_by (λ x. cond (p x) w 0) xs ≡ w * count_by p xs
sum-passing p w [] = omega arith
sum-passing p w (x ∷ xs) =
    sum_by-cons (λ x. cond (p x) w 0) x xs
    ∙ ap (λ n. cond (p x) w 0 + n) (sum-passing p w xs)
    ∙ one_more (p x) w (count_by p xs)
    ∙ ap (λ n. w * n) (sym (sum_by-cons (λ x. cond (p x) 1 0) x xs))

-- ---- the rows of a set, and one row more

sum_put : (weight : Row → ℕ) (row : Row) (es : List (Row × Unit {0})) → is_some (find row_cmp row es) ≡ false
    → sum_by weight (map (λ e. e.0) (put row_cmp row tt es)) ≡ weight row + sum_by weight (map (λ e. e.0) es)
sum_put weight row [] absent = sum_by-cons weight row []
sum_put weight row (e ∷ es) absent =
    elim (row_cmp row e.0) as (λ o. is_some (cond (is_eq o) (Some e.1) (find row_cmp row es)) ≡ false
    → sum_by weight (map (λ e. e.0) (by_order o ((row, tt) ∷ e ∷ es) ((e.0, tt) ∷ es) (e ∷ put row_cmp row tt es))) ≡ weight row + sum_by weight (map (λ e. e.0) (e ∷ es))) [
      | Less ↦ λ a. sum_by-cons weight row (map (λ e. e.0) (e ∷ es))
      | Equal ↦ λ a. absurd (let wrong : true ≡ false = a in cc)
      | Greater ↦ λ a.
          let rest = sum_put weight row es a in
          let one = sum_by-cons weight e.0 (map (λ e. e.0) (put row_cmp row tt es)) in
          let two = sum_by-cons weight e.0 (map (λ e. e.0) es) in
          omega (arith, rest, one, two)
    ] absent

-- a row that was not there adds its weight
pub sum-add : (weight : Row → ℕ) (rows : RowSet) (row : Row) → contains rows row ≡ false → sum_by weight (items (add rows row)) ≡ weight row + sum_by weight (items rows)
sum-add weight rows row absent =
    ap (λ es. sum_by weight (map (λ e. e.0) es)) (map_of.entries-insert row_cmp-total rows row tt)
    ∙ sum_put weight row (map_of.entries rows) (sym (ap is_some (map_of.get-entries rows row)) ∙ absent)

added : (weight : Row → ℕ) (rows : RowSet) (row : Row) (t : Bool) → (t ≡ true → contains rows row ≡ false)
    → sum_by weight (items (cond t (add rows row) rows)) ≡ cond t (weight row) 0 + sum_by weight (items rows)
added weight rows row true free = sum-add weight rows row (free refl)
added weight rows row false free = omega arith

-- the rows at a thousandth, once one more holds along a span
pub sum-with_row : (weight : Row → ℕ) (lo hi : ℕ) (row : Row) (places : Places) (k : ℕ) → (k < hi → contains (places k) row ≡ false)
    → sum_by weight (items (with_row lo hi row places k)) ≡ cond (within lo hi k) (weight row) 0 + sum_by weight (items (places k))
unfolding with_row
sum-with_row weight lo hi row places k free = added weight (places k) row (within lo hi k) (λ e. free (within-bounds lo hi k e).1)

-- ---- thousandths that two stretches share

pub count-shared : (from to lo hi : ℕ) → count_by (within lo hi) (thousandths from to) ≡ overlap from to lo hi
count-shared from to lo hi = elim (less_or from to) [
  | inr none_there ↦ count-empty (within lo hi) from to none_there ∙ omega (arith, none_there)
  | inl some_there ↦ elim (less_or (min to hi) (max from lo)) [
    | inl apart ↦
        count-none (within lo hi) from to some_there (λ k a b. within-false lo hi k (elim (cases_within lo hi k) [ inl w ↦ absurd (omega (arith, apart)) | inr w ↦ w.1 ]))
        ∙ omega (arith, apart)
    | inr shared ↦
        let one = count-split (within lo hi) from (max from lo) to (omega arith) (omega (arith, shared)) in
        let two = count-split (within lo hi) (max from lo) (min to hi) to (omega (arith, shared)) (omega arith) in
        let before = count-none (within lo hi) from (max from lo) (omega arith) (λ k a b. within-false lo hi k (inl (omega arith))) in
        let full = count-all (within lo hi) (max from lo) (min to hi) (omega (arith, shared)) (λ k a b. within-true lo hi k (omega arith) (omega arith)) in
        let after = count-none (within lo hi) (min to hi) to (omega arith) (λ k a b. within-false lo hi k (inr (omega (arith, shared)))) in
        omega (arith, one, two, before, full, after)
  ]
]
  where
    less_or : (a b : ℕ) → (a ≤ b) ⊎ (b ≤ a)
    less_or a b = elim (cases_within a (suc a) b) [ inl w ↦ inl w.1 | inr w ↦ elim w.1 [ inl x ↦ inr (omega arith) | inr x ↦ inl (omega arith) ] ]

-- ---- kept spans

-- what a span weighs between two thousandths
abbrev pub weight_along : ℕ → ℕ → (Row → ℕ) → Stretch → ℕ
weight_along from to weight span = weight span.row * overlap from to span.lo span.hi

abbrev pub weight_along_all : ℕ → ℕ → (Row → ℕ) → List Stretch → ℕ
weight_along_all from to weight [] = 0
weight_along_all from to weight (span ∷ spans) = weight_along from to weight span + weight_along_all from to weight spans

nothing : (weight : Row → ℕ) → sum_by weight (items none) ≡ 0
nothing weight = ap (λ es. sum_by weight (map (λ e. e.0) es)) (no_entries (map_of.entries none) (sym (map_of.len-entries none) ∙ map_of.len-empty row_cmp (Unit {0})))
  where
    no_entries : (es : List (Row × Unit {0})) → length es ≡ 0 → es ≡ []
    no_entries [] e = refl
    no_entries (x ∷ es) e = absurd (omega arith)

pub sum-places : (kind : Kind) (from to : ℕ) (weight : Row → ℕ) (spans : List Stretch) → AreKept kind spans
    → sum_by (λ k. sum_by weight (items (places_of spans k))) (thousandths from to) ≡ weight_along_all from to weight spans
sum-places kind from to weight [] kept = sum-same _ (λ k. 0) (thousandths from to) (λ k. nothing weight) ∙ sum-none (thousandths from to)
sum-places kind from to weight (span ∷ spans) kept =
    sum-same _ (λ k. cond (within span.lo span.hi k) (weight span.row) 0 + sum_by weight (items (places_of spans k))) (thousandths from to)
    (λ k. sum-with_row weight span.lo span.hi span.row (places_of spans) k (λ below. kept-free kind span spans kept.1 k below))
    ∙ sum-both (λ k. cond (within span.lo span.hi k) (weight span.row) 0) (λ k. sum_by weight (items (places_of spans k))) (thousandths from to)
    ∙ ap (λ n. n + sum_by (λ k. sum_by weight (items (places_of spans k))) (thousandths from to)) (
    sum-passing (within span.lo span.hi) (weight span.row) (thousandths from to)
    ∙ ap (λ n. weight span.row * n) (count-shared from to span.lo span.hi))
    ∙ ap (λ n. weight_along from to weight span + n) (sum-places kind from to weight spans kept.2)

weights : (from to : ℕ) (weight : Row → ℕ) (spans : List Stretch) → weight_along_all from to weight spans ≡ sum_by (weight_along from to weight) spans
weights from to weight [] = refl
weights from to weight (span ∷ spans) = ap (λ n. weight_along from to weight span + n) (weights from to weight spans) ∙ sym (sum_by-cons (weight_along from to weight) span spans)

-- The sum over thousandths of a sum over rows is the sum over spans of what each weighs along the thousandths that it shares.
pub sum-places_by_spans : (kind : Kind) (from to : ℕ) (weight : Row → ℕ) (spans : List Stretch) → AreKept kind spans
    → sum_by (λ k. sum_by weight (items (places_of spans k))) (thousandths from to) ≡ sum_by (weight_along from to weight) spans
sum-places_by_spans kind from to weight spans kept = sum-places kind from to weight spans kept ∙ weights from to weight spans
