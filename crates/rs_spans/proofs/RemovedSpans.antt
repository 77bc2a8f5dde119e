-- Spans once the rows that go have left a stretch: what they mean, that they are kept, and how many facts went.
use Rattle.std.proofs.Common.{◌≡◌, ℕ, ◌+◌, ◌*◌, ◌<◌, ◌≤◌, min, max, Bool, true, false, not, ◌&&◌, ◌||◌, cond, ◌⊎◌, inl, inr, List, [], ◌∷◌, length, Less, refl, sym, ap, ◌∙◌, subst, arith}
use Rattle.std.proofs.lemmas.Bool.Decides.{nat_tests}
use Rattle.std.proofs.lemmas.Bool.{lt-ltb, le-ltb, ltb-true, ltb-false}
use Rattle.std.proofs.lemmas.List.Folds.{list_any-append}
use Rattle.std.specs.List.{AllByRecursion, list_any, count_by, sum_by}
use Rattle.std.specs.Prelude.{nat_le, nat_lt}
use Rattle.rs_value.specs.Row.{Row, row_cmp}
use Rattle.rs_value.specs.declared.column.Kind.{Kind}
use Rattle.rs_value.specs.declared.column.Kind.TheVariants.{Point, Line}
use Rattle.rs_facts.specs.Fact.{RowSet, Places, contains, keep, items}
use Rattle.rs_facts.specs.Insert.{within}
use Rattle.rs_facts.specs.Remove.{without_rows, going}
use Rattle.rs_facts.specs.Runs.{Stretch, stretch}
use Rattle.rs_facts.specs.Spans.{places_of, IsPlaced, gap_of, Precedes, AreKept}
use Rattle.rs_facts.proofs.Rows.{same_row}
use Rattle.rs_facts.proofs.Sets.{same_places}
use Rattle.rs_facts.proofs.RowSets.{contains-keep}
use Rattle.rs_facts.proofs.Counting.{overlap, thousandths-empty}
use Rattle.rs_facts.proofs.Placing.{cases_within}
use Rattle.rs_facts.proofs.KeptLaws.{every-append, AllPrecede, kept-append}
use Rattle.rs_facts.proofs.SpanLaws.{holds, Holds-from_holds, contains-places_of}
use Rattle.rs_spans.specs.Left.{front_of, back_of, outside, left_of, left_of_all, gone_of_all}
use Rattle.rs_spans.proofs.SpanSums.{weight_along_all, sum-places}

-- ---- what is left means

front_true : (a b lo k : ℕ) (s : Bool) → a < lo → ((nat_le a k && nat_lt k (min b lo)) && s || false) ≡ (((nat_le a k && nat_lt k b) && s) && nat_lt k lo)
front_true a b lo k s h = grind (arith, nat_tests)

front_false : (a b lo k : ℕ) (s : Bool) → lo ≤ a → false ≡ (((nat_le a k && nat_lt k b) && s) && nat_lt k lo)
front_false a b lo k s h = grind (arith, nat_tests)

back_true : (a b hi k : ℕ) (s : Bool) → hi < b → ((nat_le (max a hi) k && nat_lt k b) && s || false) ≡ (((nat_le a k && nat_lt k b) && s) && nat_le hi k)
back_true a b hi k s h = grind (arith, nat_tests)

back_false : (a b hi k : ℕ) (s : Bool) → b ≤ hi → false ≡ (((nat_le a k && nat_lt k b) && s) && nat_le hi k)
back_false a b hi k s h = grind (arith, nat_tests)

in_two_parts : (h g : Bool) (lo hi k : ℕ) → (h ≡ true → g ≡ true) → ((h && nat_lt k lo) || (h && nat_le hi k)) ≡ (h && not ((nat_le lo k && nat_lt k hi) && g))
in_two_parts true g lo hi k is = subst (λ t. (nat_lt k lo || nat_le hi k) ≡ not ((nat_le lo k && nat_lt k hi) && t)) (sym (is refl)) (grind (arith, nat_tests))
in_two_parts false g lo hi k is = refl

as_it_was : (h g w : Bool) → (h ≡ true → g ≡ false) → (h || false) ≡ (h && not (w && g))
as_it_was true g true is = ap not (sym (is refl))
as_it_was true g false is = refl
as_it_was false g w is = refl

shared_out : (a b c : Bool) → ((a && c) || (b && c)) ≡ ((a || b) && c)
shared_out true true true = refl
shared_out true true false = refl
shared_out true false true = refl
shared_out true false false = refl
shared_out false b c = refl

and_true : (a : Bool) → a ≡ (a && true)
and_true true = refl
and_true false = refl

cases_lt : (a b : ℕ) → (a < b) ⊎ (b ≤ a)
cases_lt a b = elim (nat_lt a b) as (λ t. nat_lt a b ≡ t → (a < b) ⊎ (b ≤ a)) [ true ↦ λ e. inl (ltb-true a b e) | false ↦ λ e. inr (ltb-false a b e) ] refl

module _ (lo hi : ℕ) (goes : Row → Bool) where
  -- whether a row may still hold at the thousandth
  still : Row → ℕ → Bool
  still row k = not (within lo hi k && goes row)

  in_front : (row : Row) (k : ℕ) (span : Stretch) → list_any (holds row k) (front_of lo span) ≡ (holds row k span && nat_lt k lo)
  unfolding holds
  in_front row k span = elim (cases_lt span.lo lo) [
    | inl h ↦ ap (λ t. list_any (holds row k) (cond t (stretch span.lo (min span.hi lo) span.row ∷ []) [])) (lt-ltb span.lo lo h) ∙ front_true span.lo span.hi lo k (same_row span.row row) h
    | inr h ↦ ap (λ t. list_any (holds row k) (cond t (stretch span.lo (min span.hi lo) span.row ∷ []) [])) (le-ltb span.lo lo h) ∙ front_false span.lo span.hi lo k (same_row span.row row) h
  ]

  in_back : (row : Row) (k : ℕ) (span : Stretch) → list_any (holds row k) (back_of hi span) ≡ (holds row k span && nat_le hi k)
  unfolding holds
  in_back row k span = elim (cases_lt hi span.hi) [
    | inl h ↦ ap (λ t. list_any (holds row k) (cond t (stretch (max span.lo hi) span.hi span.row ∷ []) [])) (lt-ltb hi span.hi h) ∙ back_true span.lo span.hi hi k (same_row span.row row) h
    | inr h ↦ ap (λ t. list_any (holds row k) (cond t (stretch (max span.lo hi) span.hi span.row ∷ []) [])) (le-ltb hi span.hi h) ∙ back_false span.lo span.hi hi k (same_row span.row row) h
  ]

  in_left : (row : Row) (k : ℕ) (span : Stretch) → list_any (holds row k) (left_of lo hi goes span) ≡ (holds row k span && still row k)
  unfolding still
  in_left row k span = elim (goes span.row) as (λ t. goes span.row ≡ t → list_any (holds row k) (cond t (outside lo hi span) (span ∷ [])) ≡ (holds row k span && still row k)) [
    | true ↦ λ e. list_any-append (holds row k) (front_of lo span) (back_of hi span)
        ∙ (λ i. in_front row k span i || in_back row k span i)
        ∙ in_two_parts (holds row k span) (goes row) lo hi k (λ h. ap goes (sym (Holds-from_holds row k span h).same) ∙ e)
    | false ↦ λ e. as_it_was (holds row k span) (goes row) (within lo hi k) (λ h. ap goes (sym (Holds-from_holds row k span h).same) ∙ e)
  ] refl

  in_left_all : (row : Row) (k : ℕ) (spans : List Stretch) → list_any (holds row k) (left_of_all lo hi goes spans) ≡ (list_any (holds row k) spans && still row k)
  in_left_all row k [] = refl
  in_left_all row k (span ∷ spans) =
      list_any-append (holds row k) (left_of lo hi goes span) (left_of_all lo hi goes spans)
      ∙ (λ i. in_left row k span i || in_left_all row k spans i)
      ∙ shared_out (holds row k span) (list_any (holds row k) spans) (still row k)

  in_cond : (t : Bool) (rows : RowSet) (row : Row) → contains (cond t (keep (λ row. not (goes row)) rows) rows) row ≡ (contains rows row && not (t && goes row))
  in_cond true rows row = contains-keep (λ row. not (goes row)) rows row
  in_cond false rows row = and_true (contains rows row)

  pub contains-without_rows : (places : Places) (k : ℕ) (row : Row) → contains (without_rows lo hi goes places k) row ≡ (contains (places k) row && not (within lo hi k && goes row))
  unfolding without_rows
  contains-without_rows places k row = in_cond (within lo hi k) (places k) row

  -- what is left means the places without the rows that go
  pub places_of-left : (spans : List Stretch) → places_of (left_of_all lo hi goes spans) ≡ without_rows lo hi goes (places_of spans)
  unfolding still
  places_of-left spans = same_places _ _ (λ k row.
      contains-places_of (left_of_all lo hi goes spans) k row
      ∙ in_left_all row k spans
      ∙ ap (λ t. t && still row k) (sym (contains-places_of spans k row))
      ∙ sym (contains-without_rows (places_of spans) k row))

  -- along an empty stretch nothing goes
  pub without_rows-empty : (places : Places) → hi ≤ lo → without_rows lo hi goes places ≡ places
  without_rows-empty places empty = same_places _ _ (λ k row.
      contains-without_rows places k row
      ∙ ap (λ t. contains (places k) row && not (t && goes row)) (nowhere k)
      ∙ sym (and_true (contains (places k) row)))
    where
      nowhere : (k : ℕ) → within lo hi k ≡ false
      nowhere k = elim (cases_within lo hi k) [ inl w ↦ absurd (omega (arith, w.1, w.2, empty)) | inr w ↦ w.0 ]

  pub going-empty : (places : Places) → hi ≤ lo → going lo hi goes places ≡ 0
  unfolding going
  going-empty places empty = ap (sum_by (λ k. count_by goes (items (places k)))) (thousandths-empty lo hi empty)

  -- ---- how many facts went

  weighed : (b : Bool) (n : ℕ) → cond b 1 0 * n ≡ cond b n 0
  weighed true n = omega arith
  weighed false n = omega arith

  gone_weighed : (spans : List Stretch) → weight_along_all lo hi (λ row. cond (goes row) 1 0) spans ≡ gone_of_all lo hi goes spans
  gone_weighed [] = refl
  gone_weighed (span ∷ spans) = (λ i. weighed (goes span.row) (overlap lo hi span.lo span.hi) i + gone_weighed spans i)

  pub going-spans : (kind : Kind) (spans : List Stretch) → AreKept kind spans → going lo hi goes (places_of spans) ≡ gone_of_all lo hi goes spans
  unfolding going
  going-spans kind spans kept = sum-places kind lo hi (λ row. cond (goes row) 1 0) spans kept ∙ gone_weighed spans

  gone_le : (b : Bool) (n m : ℕ) → n ≤ m → cond b n 0 ≤ m
  gone_le true n m h = h
  gone_le false n m h = omega arith

  -- a place is less than 2^32
  pub gone-le : (spans : List Stretch) → hi ≤ 4294967296 → gone_of_all lo hi goes spans ≤ length spans * 4294967296
  gone-le [] h = omega arith
  gone-le (span ∷ spans) h =
      let here = gone_le (goes span.row) (overlap lo hi span.lo span.hi) 4294967296 (omega (arith, h)) in
      let rest = gone-le spans h in
      omega (arith, here, rest)

  -- ---- what is left is kept

  -- a part of a span
  record IsPart (span part : Stretch) : Type 0 where
    row : part.row ≡ span.row
    from : span.lo ≤ part.lo
    upto : part.hi ≤ span.hi

  precedes-part : (kind : Kind) (a b p q : Stretch) → IsPart a p → IsPart b q → Precedes kind a b → Precedes kind p q
  precedes-part kind a b p q one other (inl less) = inl (subst (λ r. row_cmp r q.row ≡ Less) (sym one.row) (subst (λ r. row_cmp a.row r ≡ Less) (sym other.row) less))
  precedes-part kind a b p q one other (inr apart) = let upto = one.upto in let from = other.from in inr (one.row ∙ apart.0 ∙ sym other.row, omega (arith, apart.1, upto, from))

  -- what is said of every part of a span is said of what is left of it
  every-front : (P : Stretch → Type 0) (span : Stretch) → ((part : Stretch) → IsPart span part → P part) → AllByRecursion P (front_of lo span)
  every-front P span each = elim (nat_lt span.lo lo) as (λ t. AllByRecursion P (cond t (stretch span.lo (min span.hi lo) span.row ∷ []) [])) [
    | true ↦ (each _ (record { row = refl; from = omega arith; upto = omega arith }), tt)
    | false ↦ tt
  ]

  every-back : (P : Stretch → Type 0) (span : Stretch) → ((part : Stretch) → IsPart span part → P part) → AllByRecursion P (back_of hi span)
  every-back P span each = elim (nat_lt hi span.hi) as (λ t. AllByRecursion P (cond t (stretch (max span.lo hi) span.hi span.row ∷ []) [])) [
    | true ↦ (each _ (record { row = refl; from = omega arith; upto = omega arith }), tt)
    | false ↦ tt
  ]

  every-left : (P : Stretch → Type 0) (span : Stretch) → ((part : Stretch) → IsPart span part → P part) → AllByRecursion P (left_of lo hi goes span)
  every-left P span each = elim (goes span.row) as (λ t. AllByRecursion P (cond t (outside lo hi span) (span ∷ []))) [
    | true ↦ every-append P (front_of lo span) (back_of hi span) (every-front P span each) (every-back P span each)
    | false ↦ (each span (record { row = refl; from = omega arith; upto = omega arith }), tt)
  ]

  every-left_all : (P Q : Stretch → Type 0) (spans : List Stretch) → ((span part : Stretch) → IsPart span part → P span → Q part) → AllByRecursion P spans → AllByRecursion Q (left_of_all lo hi goes spans)
  every-left_all P Q [] each all = tt
  every-left_all P Q (span ∷ spans) each all =
      every-append Q (left_of lo hi goes span) (left_of_all lo hi goes spans)
      (every-left Q span (λ part is. each span part is all.0))
      (every-left_all P Q spans each all.1)

  placed-front : (kind : Kind) (span : Stretch) → IsPlaced kind span → span.lo < lo → IsPlaced kind (stretch span.lo (min span.hi lo) span.row)
  placed-front Line span placed h = omega (arith, placed, h)
  placed-front Point span placed h = omega (arith, placed, h)

  placed-back : (kind : Kind) (span : Stretch) → IsPlaced kind span → hi < span.hi → IsPlaced kind (stretch (max span.lo hi) span.hi span.row)
  placed-back Line span placed h = omega (arith, placed, h)
  placed-back Point span placed h = omega (arith, placed, h)

  kept-front : (kind : Kind) (span : Stretch) → IsPlaced kind span → AreKept kind (front_of lo span)
  kept-front kind span placed = elim (nat_lt span.lo lo) as (λ t. nat_lt span.lo lo ≡ t → AreKept kind (cond t (stretch span.lo (min span.hi lo) span.row ∷ []) [])) [
    | true ↦ λ e. (placed-front kind span placed (ltb-true span.lo lo e), tt, tt)
    | false ↦ λ e. tt
  ] refl

  kept-back : (kind : Kind) (span : Stretch) → IsPlaced kind span → AreKept kind (back_of hi span)
  kept-back kind span placed = elim (nat_lt hi span.hi) as (λ t. nat_lt hi span.hi ≡ t → AreKept kind (cond t (stretch (max span.lo hi) span.hi span.row ∷ []) [])) [
    | true ↦ λ e. (placed-back kind span placed (ltb-true hi span.hi e), tt, tt)
    | false ↦ λ e. tt
  ] refl

  across : (kind : Kind) (ps qs : List Stretch) → AllByRecursion (λ p. AllByRecursion (Precedes kind p) qs) ps → AllPrecede kind ps qs
  across kind [] qs all = tt
  across kind (p ∷ ps) qs all = (all.0, across kind ps qs all.1)

  gap_small : (kind : Kind) → gap_of kind ≤ 1
  gap_small Line = omega arith
  gap_small Point = omega arith

  front_before_back : (kind : Kind) (span : Stretch) → lo < hi → AllByRecursion (λ p. AllByRecursion (Precedes kind p) (back_of hi span)) (front_of lo span)
  front_before_back kind span some =
      elim (nat_lt span.lo lo) as (λ t. AllByRecursion (λ p. AllByRecursion (Precedes kind p) (back_of hi span)) (cond t (stretch span.lo (min span.hi lo) span.row ∷ []) [])) [
        | true ↦ (
          elim (nat_lt hi span.hi) as (λ t. AllByRecursion (Precedes kind (stretch span.lo (min span.hi lo) span.row)) (cond t (stretch (max span.lo hi) span.hi span.row ∷ []) [])) [
            | true ↦ (inr (refl, let gap = gap_small kind in omega (arith, gap, some)), tt)
            | false ↦ tt
          ],
          tt,
        )
        | false ↦ tt
      ]

  kept-one : (kind : Kind) (span : Stretch) → lo < hi → IsPlaced kind span → AreKept kind (left_of lo hi goes span)
  kept-one kind span some placed = elim (goes span.row) as (λ t. AreKept kind (cond t (outside lo hi span) (span ∷ []))) [
    | true ↦ kept-append kind (front_of lo span) (back_of hi span) (kept-front kind span placed) (kept-back kind span placed) (across kind (front_of lo span) (back_of hi span) (front_before_back kind span some))
    | false ↦ (placed, tt, tt)
  ]

  pub kept-left : (kind : Kind) (spans : List Stretch) → lo < hi → AreKept kind spans → AreKept kind (left_of_all lo hi goes spans)
  kept-left kind [] some kept = tt
  kept-left kind (span ∷ spans) some kept =
      kept-append kind (left_of lo hi goes span) (left_of_all lo hi goes spans) (kept-one kind span some kept.0) (kept-left kind spans some kept.2)
      (across kind (left_of lo hi goes span) (left_of_all lo hi goes spans)
      (every-left (λ p. AllByRecursion (Precedes kind p) (left_of_all lo hi goes spans)) span (λ p one.
      every-left_all (Precedes kind span) (Precedes kind p) spans (λ other q two before. precedes-part kind span other p q one two before) kept.1)))
