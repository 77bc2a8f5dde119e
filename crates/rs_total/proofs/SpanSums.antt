-- Sums over thousandths of sums over rows, as sums over spans.
--
-- `facts-spans` and `places-spans` are what totals rest on: a span adds its length times its row's amount, and the
-- places of a group are counted by going along its spans with the end of those before.
use Rattle.std.proofs.Common.{◌≡◌, ℕ, ◌+◌, ◌-◌, ◌*◌, ◌<◌, ◌≤◌, max, Bool, true, false, ◌&&◌, ◌||◌, cond, inl, inr, List, [], ◌∷◌, map, length, Some, is_some, is_eq, Less, Equal, Greater, refl, sym, ap, ◌∙◌, arith}
use Rattle.std.proofs.lemmas.Bool.{and_parts, or_cases, le-leb}
use Rattle.std.proofs.lemmas.Bool.Decides.{nat_tests}
use Rattle.std.proofs.lemmas.List.Sums.{sum_by-cons}
use Rattle.std.specs.Prelude.{nat_le}
use Rattle.std.specs.FinMap.{entries, entries-insert, get-entries, len-entries, len-empty}
use Rattle.std.specs.FinMap.Entries.{find, put, by_order}
use Rattle.std.specs.List.{AllByRecursion, list_any, sum_by, count_by, filter}
use Rattle.rs_value.specs.Row.{Row, row_cmp}
use Rattle.rs_facts.specs.Fact.{RowSet, none, contains, add, items, thousandths}
use Rattle.rs_facts.specs.Insert.{within, with_row}
use Rattle.rs_facts.specs.Runs.{Stretch}
use Rattle.rs_facts.specs.Spans.{places_of}
use Rattle.rs_facts.proofs.Placing.{within-bounds}
use Rattle.rs_facts.proofs.Rows.{row_cmp-total}
use Rattle.rs_facts.proofs.RowSets.{any-places}
use Rattle.rs_total.proofs.Sums.{sum-zero, sum-plus, sum-map, amount_if, sum-filter, sum-agree, sum-cond, count-within}

-- ---- the rows of a set

no_entries : {X : Type 0} (xs : List X) → length xs ≡ 0 → xs ≡ []
no_entries [] e = refl
no_entries (x ∷ xs) e = absurd (omega arith)

pub items-none : items none ≡ []
items-none = ap (map (λ e. e.0)) (no_entries (entries none) (sym (len-entries none) ∙ len-empty row_cmp (Unit {0})))

abbrev amount_at : (Row → ℕ) → Row × Unit {0} → ℕ
amount_at f e = f e.0

sum-put : (f : Row → ℕ) (row : Row) (es : List (Row × Unit {0})) → is_some (find row_cmp row es) ≡ false → sum_by (amount_at f) (put row_cmp row tt es) ≡ f row + sum_by (amount_at f) es
sum-put f row [] free = sum_by-cons (amount_at f) (row, tt) []
sum-put f row (e ∷ es) free =
    elim (row_cmp row e.0) as (λ r. is_some (cond (is_eq r) (Some e.1) (find row_cmp row es)) ≡ false → sum_by (amount_at f) (by_order r ((row, tt) ∷ e ∷ es) ((e.0, tt) ∷ es) (e ∷ put row_cmp row tt es)) ≡ f row + sum_by (amount_at f) (e ∷ es)) [
      | Less ↦ λ h. sum_by-cons (amount_at f) (row, tt) (e ∷ es)
      | Equal ↦ λ h. absurd (let wrong : true ≡ false = h in cc)
      | Greater ↦ λ h.
          let rest = sum-put f row es h in
          let a = sum_by-cons (amount_at f) e (put row_cmp row tt es) in
          let b = sum_by-cons (amount_at f) e es in
          omega (arith, rest, a, b)
    ] free

-- a row that was not there adds its amount
pub sum-add : (f : Row → ℕ) (rows : RowSet) (row : Row) → contains rows row ≡ false → sum_by f (items (add rows row)) ≡ f row + sum_by f (items rows)
sum-add f rows row free =
    sum-map f (λ e. e.0) (entries (add rows row))
    ∙ ap (sum_by (amount_at f)) (entries-insert row_cmp-total rows row tt)
    ∙ sum-put f row (entries rows) (sym (ap is_some (get-entries rows row)) ∙ free)
    ∙ ap (λ n. f row + n) (sym (sum-map f (λ e. e.0) (entries rows)))

-- ---- spans

-- each has its thousandths within those, and none of them has another span of its row
abbrev pub IsSpan : ℕ → ℕ → Stretch → Type 0
IsSpan from to span = (from ≤ span.lo) × (span.lo < span.hi) × (span.hi ≤ to)

abbrev pub AreSpans : ℕ → ℕ → List Stretch → Type 0
AreSpans from to spans = AllByRecursion (IsSpan from to) spans

abbrev pub LieFree : List Stretch → Type 0
LieFree [] = Unit {0}
LieFree (span ∷ spans) = ((k : ℕ) → span.lo ≤ k → k < span.hi → contains (places_of spans k) span.row ≡ false) × LieFree spans

abbrev pub FollowByPlace : List Stretch → Type 0
FollowByPlace [] = Unit {0}
FollowByPlace (span ∷ spans) = AllByRecursion (λ later. span.lo ≤ later.lo) spans × FollowByPlace spans

-- what a span adds: its length times the amount of its row
abbrev pub amount_along : (Row → ℕ) → Stretch → ℕ
amount_along f span = (span.hi - span.lo) * f span.row

-- ---- facts

sum-with_row : (f : Row → ℕ) (span : Stretch) (spans : List Stretch) (k : ℕ) → (span.lo ≤ k → k < span.hi → contains (places_of spans k) span.row ≡ false)
    → sum_by f (items (places_of (span ∷ spans) k)) ≡ cond (within span.lo span.hi k) (f span.row) 0 + sum_by f (items (places_of spans k))
unfolding with_row
sum-with_row f span spans k free =
    elim (within span.lo span.hi k) as (λ t. within span.lo span.hi k ≡ t → sum_by f (items (cond t (add (places_of spans k) span.row) (places_of spans k))) ≡ cond t (f span.row) 0 + sum_by f (items (places_of spans k))) [
      | true ↦ λ e. let bounds = within-bounds span.lo span.hi k e in sum-add f (places_of spans k) span.row (free bounds.0 bounds.1)
      | false ↦ λ e. omega arith
    ] refl

sums-spans : (f : Row → ℕ) (from to : ℕ) (spans : List Stretch) → AreSpans from to spans → LieFree spans → sum_by (λ k. sum_by f (items (places_of spans k))) (thousandths from to) ≡ sum_by (amount_along f) spans
sums-spans f from to [] inside free = sum-zero (λ k. sum_by f (items none)) (thousandths from to) (λ k. ap (sum_by f) items-none)
sums-spans f from to (span ∷ spans) inside free =
    sum-agree (λ k. sum_by f (items (places_of (span ∷ spans) k))) (λ k. cond (within span.lo span.hi k) (f span.row) 0 + sum_by f (items (places_of spans k))) from to (λ k a b. sum-with_row f span spans k (free.0 k))
    ∙ sum-plus (λ k. cond (within span.lo span.hi k) (f span.row) 0) (λ k. sum_by f (items (places_of spans k))) (thousandths from to)
    ∙ ap (λ n. n + sum_by (λ k. sum_by f (items (places_of spans k))) (thousandths from to)) (sum-cond (within span.lo span.hi) (f span.row) (thousandths from to) ∙ ap (λ n. n * f span.row) (count-within span.lo span.hi from to inside.0.0 inside.0.2))
    ∙ ap (λ n. amount_along f span + n) (sums-spans f from to spans inside.1 free.1)
    ∙ sym (sum_by-cons (amount_along f) span spans)

-- The facts that pass add up by their spans.
pub facts-spans : (test : Row → Bool) (amount : Row → ℕ) (from to : ℕ) (spans : List Stretch) → AreSpans from to spans → LieFree spans
    → sum_by (λ k. sum_by amount (filter test (items (places_of spans k)))) (thousandths from to) ≡ sum_by (amount_along (amount_if test amount)) spans
facts-spans test amount from to spans inside free =
    sum-agree (λ k. sum_by amount (filter test (items (places_of spans k)))) (λ k. sum_by (amount_if test amount) (items (places_of spans k))) from to (λ k a b. sum-filter test amount (items (places_of spans k)))
    ∙ sums-spans (amount_if test amount) from to spans inside free

-- ---- places

-- the places from a thousandth on at which the row of some span passes, by going along the spans
abbrev pub reached : (Row → Bool) → ℕ → List Stretch → ℕ
reached test reach [] = 0
reached test reach (span ∷ spans) = cond (test span.row) ((span.hi - max span.lo reach) + reached test (max reach span.hi) spans) (reached test reach spans)

-- whether the row of some span that holds the thousandth passes
abbrev pub passes_at : (Row → Bool) → ℕ → List Stretch → Bool
passes_at test k spans = list_any (λ span. within span.lo span.hi k && test span.row) spans

passes-from : (test : Row → Bool) (k lo : ℕ) (spans : List Stretch) → AllByRecursion (λ later. lo ≤ later.lo) spans → passes_at test k spans ≡ true → lo ≤ k
passes-from test k lo [] h e = absurd (let wrong : false ≡ true = e in cc)
passes-from test k lo (span ∷ spans) h e = elim (or_cases (within span.lo span.hi k && test span.row) (passes_at test k spans) e) [
  | inl here ↦ let bounds = within-bounds span.lo span.hi k ((and_parts (within span.lo span.hi k) (test span.row) here).0) in omega (arith, h.0, bounds.0)
  | inr there ↦ passes-from test k lo spans h.1 there
]

and_true : (t : Bool) → (t && true) ≡ t
and_true true = refl
and_true false = refl

and_false : (t : Bool) → (t && false) ≡ false
and_false true = refl
and_false false = refl

-- one thousandth: it is reached by the span at hand, or by those after it
one_place : (lo hi reach k : ℕ) (r : Bool) → (r ≡ true → lo ≤ k)
    → cond (nat_le reach k && (within lo hi k || r)) 1 0 ≡ cond (within (max lo reach) hi k) 1 0 + cond (nat_le (max reach hi) k && r) 1 0
one_place lo hi reach k true h = let low : lo ≤ k = h refl in grind (arith, nat_tests)
one_place lo hi reach k false h = grind (arith, nat_tests)

places_from : (test : Row → Bool) (from to : ℕ) (spans : List Stretch) → AreSpans from to spans → FollowByPlace spans → (reach : ℕ) → count_by (λ k. nat_le reach k && passes_at test k spans) (thousandths from to) ≡ reached test reach spans
places_from test from to [] inside order reach = sum-zero (λ k. cond (nat_le reach k && false) 1 0) (thousandths from to) (λ k. ap (λ t. cond t 1 0) (and_false (nat_le reach k)))
places_from test from to (span ∷ spans) inside order reach =
    elim (test span.row) as (λ t. count_by (λ k. nat_le reach k && ((within span.lo span.hi k && t) || passes_at test k spans)) (thousandths from to) ≡ cond t ((span.hi - max span.lo reach) + reached test (max reach span.hi) spans) (reached test reach spans)) [
      | true ↦
          sum-agree (λ k. cond (nat_le reach k && ((within span.lo span.hi k && true) || passes_at test k spans)) 1 0) (λ k. cond (within (max span.lo reach) span.hi k) 1 0 + cond (nat_le (max reach span.hi) k && passes_at test k spans) 1 0) from to
          (λ k a b. ap (λ t. cond (nat_le reach k && (t || passes_at test k spans)) 1 0) (and_true (within span.lo span.hi k)) ∙ one_place span.lo span.hi reach k (passes_at test k spans) (passes-from test k span.lo spans order.0))
          ∙ sum-plus (λ k. cond (within (max span.lo reach) span.hi k) 1 0) (λ k. cond (nat_le (max reach span.hi) k && passes_at test k spans) 1 0) (thousandths from to)
          ∙ ap (λ n. n + count_by (λ k. nat_le (max reach span.hi) k && passes_at test k spans) (thousandths from to)) (count-within (max span.lo reach) span.hi from to (omega (arith, inside.0.0)) inside.0.2)
          ∙ ap (λ n. (span.hi - max span.lo reach) + n) (places_from test from to spans inside.1 order.1 (max reach span.hi))
      | false ↦
          ap (λ p. count_by p (thousandths from to)) (λ i k. nat_le reach k && (and_false (within span.lo span.hi k) i || passes_at test k spans))
          ∙ places_from test from to spans inside.1 order.1 reach
    ]

-- The places at which some row passes, by going along the spans.
pub places-spans : (test : Row → Bool) (from to : ℕ) (spans : List Stretch) → AreSpans from to spans → FollowByPlace spans
    → sum_by (λ k. cond (list_any test (items (places_of spans k))) 1 0) (thousandths from to) ≡ reached test 0 spans
places-spans test from to spans inside order =
    ap (λ p. count_by p (thousandths from to)) (λ i k. any-places test spans k i)
    ∙ ap (λ p. count_by p (thousandths from to)) (λ i k. sym (from_start k (passes_at test k spans)) i)
    ∙ places_from test from to spans inside order 0
  where
    from_start : (k : ℕ) (t : Bool) → (nat_le 0 k && t) ≡ t
    from_start k t = ap (λ s. s && t) (le-leb 0 k (omega arith))
