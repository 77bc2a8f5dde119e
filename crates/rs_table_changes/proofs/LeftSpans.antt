-- Spans that a stretch is taken out of, beside all others.
use Rattle.std.proofs.Common.{◌≡◌, ◌+◌, ◌<◌, ◌≤◌, ◌⊎◌, ℕ, min, max, Bool, true, false, cond, inl, inr, List, [], ◌∷◌, ◌++◌, append_assoc, refl, sym, ap, ◌∙◌, subst, arith}
use Rattle.std.proofs.lemmas.Bool.{le-ltb, ltb-true, lt-ltb}
use Rattle.std.proofs.lemmas.List.Sorted.{IsPermutation-sym, IsPermutation-trans}
use Rattle.std.specs.List.{AllByRecursion}
use Rattle.std.specs.List.Sorted.{IsPermutation}
use Rattle.std.specs.Prelude.{nat_lt}
use Rattle.rs_spans.specs.Left.{gone_of, gone_of_all, left_of, left_of_all}
use Rattle.rs_spans.proofs.RemovedSpans.{going-spans, places_of-left}
use Rattle.rs_facts.specs.Remove.{going, without_rows}
use Rattle.rs_facts.specs.Runs.{Stretch, stretch}
use Rattle.rs_facts.specs.Spans.{AreAllRunsOf, IsPlaced, places_of}
use Rattle.rs_facts.proofs.Counting.{overlap}
use Rattle.rs_facts.proofs.KeptLaws.{placed-some}
use Rattle.rs_facts.proofs.RunLaws.{IsApart}
use Rattle.rs_facts.proofs.SpanLaws.{places_of-permutation}
use Rattle.rs_value.specs.Row.{Row}
use Rattle.rs_value.specs.declared.column.Kind.{Kind}
use Rattle.rs_value.specs.declared.column.Kind.TheVariants.{Line, Point}
use Rattle.rs_versioned.proofs.Shuffles.{shuffled}
use Rattle.rs_table_changes.specs.Picked.{back_of, front_of, outside, outside_all, shared_by}
use Rattle.rs_table_changes.proofs.WideSpans.{gap_small}
use Rattle.rs_table_changes.proofs.Outside.{all_join}
use Rattle.rs_table_changes.proofs.Apart.{AreApart, apart_both, apart_of, apart_shuffled, in_form, runs_of_apart}

-- a part of a span
pub record IsPart (span part : Stretch) : Type 0 where
  pub row : part.row ≡ span.row
  pub from : span.lo ≤ part.lo
  pub upto : part.hi ≤ span.hi

itself : (span : Stretch) → IsPart span span
itself span = record { row = refl; from = omega arith; upto = omega arith }

apart_parts : (kind : Kind) (a b p q : Stretch) → IsPart a p → IsPart b q → IsApart kind a b → IsApart kind p q
apart_parts kind a b p q one other apart same = elim (apart (sym one.row ∙ same ∙ other.row)) [
  | inl x ↦ inl (omega (arith, x, one.upto, other.from))
  | inr y ↦ inr (omega (arith, y, other.upto, one.from))
]

module _ (lo hi : ℕ) where
  each_front : (P : Stretch → Type 0) (span : Stretch) → ((part : Stretch) → IsPart span part → P part) → AllByRecursion P (front_of lo span)
  each_front P span each = elim (nat_lt span.lo lo) as (λ t. AllByRecursion P (cond t (stretch span.lo (min span.hi lo) span.row ∷ []) [])) [
    | true ↦ (each _ (record { row = refl; from = omega arith; upto = omega arith }), tt)
    | false ↦ tt
  ]

  each_back : (P : Stretch → Type 0) (span : Stretch) → ((part : Stretch) → IsPart span part → P part) → AllByRecursion P (back_of hi span)
  each_back P span each = elim (nat_lt hi span.hi) as (λ t. AllByRecursion P (cond t (stretch (max span.lo hi) span.hi span.row ∷ []) [])) [
    | true ↦ (each _ (record { row = refl; from = omega arith; upto = omega arith }), tt)
    | false ↦ tt
  ]

  pub each_outside : (P : Stretch → Type 0) (span : Stretch) → ((part : Stretch) → IsPart span part → P part) → AllByRecursion P (outside lo hi span)
  each_outside P span each = all_join P (front_of lo span) (back_of hi span) (each_front P span each) (each_back P span each)

  pub every_outside : (P Q : Stretch → Type 0) (spans : List Stretch) → ((span part : Stretch) → IsPart span part → P span → Q part) → AllByRecursion P spans → AllByRecursion Q (outside_all lo hi spans)
  every_outside P Q [] each all = tt
  every_outside P Q (s ∷ spans) each all =
      all_join Q (outside lo hi s) (outside_all lo hi spans) (each_outside Q s (λ part is. each s part is all.0)) (every_outside P Q spans each all.1)

  -- ---- they lie apart

  placed_front : (kind : Kind) (span : Stretch) → IsPlaced kind span → span.lo < lo → IsPlaced kind (stretch span.lo (min span.hi lo) span.row)
  placed_front Line span placed h = omega (arith, placed, h)
  placed_front Point span placed h = omega (arith, placed, h)

  placed_back : (kind : Kind) (span : Stretch) → IsPlaced kind span → hi < span.hi → IsPlaced kind (stretch (max span.lo hi) span.hi span.row)
  placed_back Line span placed h = omega (arith, placed, h)
  placed_back Point span placed h = omega (arith, placed, h)

  apart_front : (kind : Kind) (span : Stretch) → IsPlaced kind span → AreApart kind (front_of lo span)
  apart_front kind span placed = elim (nat_lt span.lo lo) as (λ t. nat_lt span.lo lo ≡ t → AreApart kind (cond t (stretch span.lo (min span.hi lo) span.row ∷ []) [])) [
    | true ↦ λ e. (placed_front kind span placed (ltb-true span.lo lo e), tt, tt)
    | false ↦ λ e. tt
  ] refl

  apart_back : (kind : Kind) (span : Stretch) → IsPlaced kind span → AreApart kind (back_of hi span)
  apart_back kind span placed = elim (nat_lt hi span.hi) as (λ t. nat_lt hi span.hi ≡ t → AreApart kind (cond t (stretch (max span.lo hi) span.hi span.row ∷ []) [])) [
    | true ↦ λ e. (placed_back kind span placed (ltb-true hi span.hi e), tt, tt)
    | false ↦ λ e. tt
  ] refl

  front_off_back : (kind : Kind) (span : Stretch) → lo < hi → AllByRecursion (λ p. AllByRecursion (IsApart kind p) (back_of hi span)) (front_of lo span)
  front_off_back kind span some =
      elim (nat_lt span.lo lo) as (λ t. AllByRecursion (λ p. AllByRecursion (IsApart kind p) (back_of hi span)) (cond t (stretch span.lo (min span.hi lo) span.row ∷ []) [])) [
        | true ↦ (
          elim (nat_lt hi span.hi) as (λ t. AllByRecursion (IsApart kind (stretch span.lo (min span.hi lo) span.row)) (cond t (stretch (max span.lo hi) span.hi span.row ∷ []) [])) [
            | true ↦ (λ same. inl (let gap = gap_small kind in omega (arith, gap, some)), tt)
            | false ↦ tt
          ],
          tt,
        )
        | false ↦ tt
      ]

  apart_one : (kind : Kind) (span : Stretch) → lo < hi → IsPlaced kind span → AreApart kind (outside lo hi span)
  apart_one kind span some placed = apart_both kind (front_of lo span) (back_of hi span) (apart_front kind span placed) (apart_back kind span placed) (front_off_back kind span some)

  off_all : (kind : Kind) (a p : Stretch) → IsPart a p → (met rest : List Stretch) → AllByRecursion (IsApart kind a) (met ++ rest) → AllByRecursion (IsApart kind p) (outside_all lo hi met ++ rest)
  off_all kind a p is [] rest apart = off_rest rest apart where
    off_rest : (rest : List Stretch) → AllByRecursion (IsApart kind a) rest → AllByRecursion (IsApart kind p) rest
    off_rest [] apart = tt
    off_rest (r ∷ rest) apart = (apart_parts kind a r p r is (itself r) apart.0, off_rest rest apart.1)
  off_all kind a p is (m ∷ met) rest apart =
      subst (AllByRecursion (IsApart kind p)) (sym (append_assoc (outside lo hi m) (outside_all lo hi met) rest))
      (all_join (IsApart kind p) (outside lo hi m) (outside_all lo hi met ++ rest)
      (each_outside (IsApart kind p) m (λ part other. apart_parts kind a m p part is other apart.0))
      (off_all kind a p is met rest apart.1))

  apart_left : (kind : Kind) (met rest : List Stretch) → lo < hi → AreApart kind (met ++ rest) → AreApart kind (outside_all lo hi met ++ rest)
  apart_left kind [] rest some apart = apart
  apart_left kind (m ∷ met) rest some apart =
      subst (AreApart kind) (sym (append_assoc (outside lo hi m) (outside_all lo hi met) rest))
      (apart_both kind (outside lo hi m) (outside_all lo hi met ++ rest) (apart_one kind m some apart.0) (apart_left kind met rest some apart.2)
      (each_outside (λ p. AllByRecursion (IsApart kind p) (outside_all lo hi met ++ rest)) m (λ part is. off_all kind m part is met rest apart.1)))

  -- ---- what they mean

  module _ (goes : Row → Bool) where
    -- a span that stays: its row doesn't go, or it lies outside
    pub record StaysHere (kind : Kind) (span : Stretch) : Type 0 where
      pub placed : IsPlaced kind span
      pub off : goes span.row ≡ true → (span.hi ≤ lo) ⊎ (hi ≤ span.lo)

    whole : (kind : Kind) (span : Stretch) → lo < hi → IsPlaced kind span → (span.hi ≤ lo) ⊎ (hi ≤ span.lo) → outside lo hi span ≡ span ∷ []
    whole kind span some placed (inl before) =
        let mine = placed-some kind span placed in
        let front : front_of lo span ≡ stretch span.lo (min span.hi lo) span.row ∷ [] =
        ap (λ t. cond t (stretch span.lo (min span.hi lo) span.row ∷ []) []) (lt-ltb span.lo lo (omega (arith, mine, before))) in
        let back : back_of hi span ≡ [] = ap (λ t. cond t (stretch (max span.lo hi) span.hi span.row ∷ []) []) (le-ltb hi span.hi (omega (arith, before, some))) in
        let end : min span.hi lo ≡ span.hi = omega (arith, before) in
        (λ i. front i ++ back i) ∙ ap (λ n. stretch span.lo n span.row ∷ []) end
    whole kind span some placed (inr after) =
        let mine = placed-some kind span placed in
        let front : front_of lo span ≡ [] = ap (λ t. cond t (stretch span.lo (min span.hi lo) span.row ∷ []) []) (le-ltb span.lo lo (omega (arith, after, some))) in
        let back : back_of hi span ≡ stretch (max span.lo hi) span.hi span.row ∷ [] =
        ap (λ t. cond t (stretch (max span.lo hi) span.hi span.row ∷ []) []) (lt-ltb hi span.hi (omega (arith, mine, after))) in
        let start : max span.lo hi ≡ span.lo = omega (arith, after) in
        (λ i. front i ++ back i) ∙ ap (λ n. stretch n span.hi span.row ∷ []) start

    left_one : (kind : Kind) (span : Stretch) → lo < hi → StaysHere kind span → left_of lo hi goes span ≡ span ∷ []
    left_one kind span some stays = by (goes span.row) refl where
      by : (t : Bool) → goes span.row ≡ t → cond t (outside lo hi span) (span ∷ []) ≡ span ∷ []
      by true e = whole kind span some stays.placed (stays.off e)
      by false e = refl

    left_rest : (kind : Kind) (rest : List Stretch) → lo < hi → AllByRecursion (StaysHere kind) rest → left_of_all lo hi goes rest ≡ rest
    left_rest kind [] some stays = refl
    left_rest kind (r ∷ rest) some stays = let one = left_one kind r some stays.0 in let others = left_rest kind rest some stays.1 in λ i. one i ++ others i

    left_both : (kind : Kind) (met rest : List Stretch) → lo < hi → AllByRecursion (λ (m : Stretch). goes m.row ≡ true) met → AllByRecursion (StaysHere kind) rest
        → left_of_all lo hi goes (met ++ rest) ≡ outside_all lo hi met ++ rest
    left_both kind [] rest some go stays = left_rest kind rest some stays
    left_both kind (m ∷ met) rest some go stays =
        let one : left_of lo hi goes m ≡ outside lo hi m = ap (λ t. cond t (outside lo hi m) (m ∷ [])) go.0 in
        let others = left_both kind met rest some go.1 stays in
        (λ i. one i ++ others i) ∙ sym (append_assoc (outside lo hi m) (outside_all lo hi met) rest)

    gone_met : (met : List Stretch) → AllByRecursion (λ (m : Stretch). goes m.row ≡ true) met → gone_of_all lo hi goes met ≡ shared_by lo hi met
    gone_met [] go = refl
    gone_met (m ∷ met) go =
        let one : gone_of lo hi goes m ≡ overlap lo hi m.lo m.hi = ap (λ t. cond t (overlap lo hi m.lo m.hi) 0) go.0 in
        let others = gone_met met go.1 in
        λ i. one i + others i

    gone_rest : (kind : Kind) (rest : List Stretch) → AllByRecursion (StaysHere kind) rest → gone_of_all lo hi goes rest ≡ 0
    gone_rest kind [] stays = refl
    gone_rest kind (r ∷ rest) stays = let one = none_of (goes r.row) refl in let others = gone_rest kind rest stays.1 in omega (arith, one, others) where
      none_of : (t : Bool) → goes r.row ≡ t → cond t (overlap lo hi r.lo r.hi) 0 ≡ 0
      none_of true e = elim (stays.0.off e) [ inl before ↦ omega (arith, before) | inr after ↦ omega (arith, after) ]
      none_of false e = refl

    gone_both : (xs ys : List Stretch) → gone_of_all lo hi goes (xs ++ ys) ≡ gone_of_all lo hi goes xs + gone_of_all lo hi goes ys
    gone_both [] ys = omega arith
    gone_both (x ∷ xs) ys = let rest = gone_both xs ys in omega (arith, rest)

    gone_shuffled : (xs ys : List Stretch) → IsPermutation xs ys → gone_of_all lo hi goes xs ≡ gone_of_all lo hi goes ys
    gone_shuffled = shuffled (λ xs ys. gone_of_all lo hi goes xs ≡ gone_of_all lo hi goes ys)
        (λ xs. refl) (λ xs ys zs a b. a ∙ b) (λ x xs ys a. ap (λ n. gone_of lo hi goes x + n) a) (λ x y xs. omega arith)

    module _ (kind : Kind) (some : lo < hi) (all met rest : List Stretch) (are : IsPermutation all (met ++ rest)) (runs : AreAllRunsOf kind (places_of all) all)
        (go : AllByRecursion (λ (m : Stretch). goes m.row ≡ true) met) (stays : AllByRecursion (StaysHere kind) rest) where
      pub left_apart : AreApart kind (outside_all lo hi met ++ rest)
      left_apart = apart_left kind met rest some (apart_shuffled kind all (met ++ rest) are (apart_of kind (places_of all) all runs))

      pub left_runs : AreAllRunsOf kind (places_of (outside_all lo hi met ++ rest)) (outside_all lo hi met ++ rest)
      left_runs = runs_of_apart kind (outside_all lo hi met ++ rest) left_apart

      pub left_means : places_of (outside_all lo hi met ++ rest) ≡ without_rows lo hi goes (places_of all)
      left_means =
          ap places_of (sym (left_both kind met rest some go stays))
          ∙ places_of-left lo hi goes (met ++ rest)
          ∙ ap (without_rows lo hi goes) (sym (places_of-permutation all (met ++ rest) are))

      pub left_count : going lo hi goes (places_of all) ≡ shared_by lo hi met
      left_count =
          let form = in_form kind all (apart_of kind (places_of all) all runs) in
          let counted = going-spans lo hi goes kind form.kept form.are in
          let places : going lo hi goes (places_of form.kept) ≡ going lo hi goes (places_of all) = ap (going lo hi goes) (sym (places_of-permutation all form.kept form.moved)) in
          let alike = gone_shuffled (met ++ rest) form.kept (IsPermutation-trans (met ++ rest) all form.kept (IsPermutation-sym all (met ++ rest) are) form.moved) in
          let parts = gone_both met rest in
          let mine = gone_met met go in
          let none = gone_rest kind rest stays in
          omega (arith, counted, places, alike, parts, mine, none)
