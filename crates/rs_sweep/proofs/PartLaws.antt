-- The parts of a span outside what others take: which thousandths they have.
use Rattle.std.proofs.Common.{◌≡◌, ◌↔◌, IsTrue, ℕ, zero, suc, ◌+◌, ◌-◌, ◌<◌, ◌≤◌, max, Bool, true, false, not, ◌&&◌, ◌||◌, cond, ◌⊎◌, inl, inr, List, [], ◌∷◌, ◌++◌, map, length, take, drop, get_or, Less, Equal, Greater, refl, sym, ap, ◌∙◌, subst, add-one, arith}
use Rattle.std.proofs.lemmas.Bool.{false≢true, and_parts, and_cases, lt-ltb, le-ltb, ltb-true, ltb-false, le-leb, leb-true, cond-true, cond-false, cases_lt}
use Rattle.std.proofs.lemmas.List.{take-append-drop, take_rest, drop-map}
use Rattle.std.proofs.lemmas.List.Folds.{list_any-append}
use Rattle.std.specs.List.{list_any, AllByRecursion, AllWithin, IsAllAdjacentAnswer}
use Rattle.std.specs.List.Sorted.{IsPartitionedBy}
use Rattle.std.specs.Borrow.{Bor}
use Rattle.std.specs.Ordering.{match_ordering, eq_by_cmp}
use Rattle.std.specs.Prelude.{nat_le, nat_lt}
use Rattle.rs_coalesce.specs.Lent.{seen_lent}
use Rattle.rs_value.specs.Row.{Row, row_cmp}
use Rattle.rs_value.specs.declared.column.Kind.TheVariants.{Line}
use Rattle.rs_facts.specs.Fact.{contains}
use Rattle.rs_facts.specs.Insert.{within}
use Rattle.rs_facts.specs.Runs.{Stretch}
use Rattle.rs_facts.specs.Spans.{places_of, Precedes, AreKept, ArePlaced}
use Rattle.rs_facts.specs.declared.fact.Span.{Span}
use Rattle.rs_facts.proofs.KeptLaws.{every-weaker, kept-free, kept-behind}
use Rattle.rs_facts.proofs.Placing.{cases_within, within-true, within-false, within-bounds, contains-with_row}
use Rattle.rs_facts.proofs.Rows.{same_row, same_row-true, same_row-equal, same_row-apart, row_cmp-antisymmetric, row_cmp-itself, row_cmp-on, row_cmp-less_apart, row_cmp-back, cases_row}
use Rattle.rs_facts.proofs.RowSets.{either-way}
use Rattle.rs_facts.proofs.Sets.{contains-none}
use Rattle.rs_facts.proofs.SpanLaws.{contains-append}
use Rattle.rs_sweep.specs.Lists.{AreInLine}
use Rattle.rs_sweep.specs.Parts.{in_part, LiesIn, part_of, walked, left_along}
use Rattle.rs_sweep.specs.Taken.{keyed, ends_before, is_met}
use Rattle.rs_sweep.specs.declared.taken.Rows.{Rows}
use Rattle.rs_sweep.specs.declared.parts.Part.{Part}

-- ---- which stretches lie before a span

abbrev pub EndsBefore : Stretch → Stretch → Type 0
EndsBefore a b = (row_cmp a.row b.row ≡ Less) ⊎ ((a.row ≡ b.row) × (a.hi ≤ b.lo))

pub EndsBefore-from : (a b : Stretch) → ends_before a b ≡ true → EndsBefore a b
unfolding ends_before
EndsBefore-from a b =
    elim (row_cmp a.row b.row) as (λ o. row_cmp a.row b.row ≡ o → match_ordering o true (nat_le a.hi b.lo) false ≡ true → EndsBefore a b) [
      | Less ↦ λ e t. inl e
      | Equal ↦ λ e t. inr (row_cmp-antisymmetric a.row b.row e, leb-true a.hi b.lo t)
      | Greater ↦ λ e t. let wrong : false ≡ true = t in cc
    ] refl

pub ends_before-less : (a b : Stretch) → row_cmp a.row b.row ≡ Less → ends_before a b ≡ true
unfolding ends_before
ends_before-less a b e = ap (λ o. match_ordering o true (nat_le a.hi b.lo) false) e

pub ends_before-greater : (a b : Stretch) → row_cmp a.row b.row ≡ Greater → ends_before a b ≡ false
unfolding ends_before
ends_before-greater a b e = ap (λ o. match_ordering o true (nat_le a.hi b.lo) false) e

pub ends_before-equal : (a b : Stretch) → row_cmp a.row b.row ≡ Equal → ends_before a b ≡ nat_le a.hi b.lo
unfolding ends_before
ends_before-equal a b e = ap (λ o. match_ordering o true (nat_le a.hi b.lo) false) e

ends_before-from : (a b : Stretch) → EndsBefore a b → ends_before a b ≡ true
ends_before-from a b (inl less) = ends_before-less a b less
ends_before-from a b (inr apart) = ends_before-equal a b (subst (λ r. row_cmp a.row r ≡ Equal) apart.0 (row_cmp-itself a.row)) ∙ le-leb a.hi b.lo apart.1

before_on : (a b mark : Stretch) → b.lo < b.hi → Precedes Line a b → EndsBefore b mark → EndsBefore a mark
before_on a b mark some (inl h) (inl l) = inl (row_cmp-on a.row b.row mark.row h l)
before_on a b mark some (inl h) (inr l) = inl (subst (λ r. row_cmp a.row r ≡ Less) l.0 h)
before_on a b mark some (inr h) (inl l) = inl (subst (λ r. row_cmp r mark.row ≡ Less) (sym h.0) l)
before_on a b mark some (inr h) (inr l) = inr (h.0 ∙ l.0, omega (arith, h.1, l.1, some))

every_at : {X : Type 0} (f : X → Stretch) (P : Stretch → Type 0) (xs : List X) → AllByRecursion P (map f xs) → (i : ℕ) (d : X) → i < length xs → P (f (get_or xs i d))
every_at f P [] all i d below = absurd (omega arith)
every_at f P (x ∷ xs) all zero d below = all.0
every_at f P (x ∷ xs) all (suc i) d below = every_at f P xs all.1 i d (omega arith)

some_at : {X : Type 0} (f : X → Stretch) (xs : List X) → AreKept Line (map f xs) → (i : ℕ) (d : X) → i < length xs → (f (get_or xs i d)).lo < (f (get_or xs i d)).hi
some_at f [] kept i d below = absurd (omega arith)
some_at f (x ∷ xs) kept zero d below = kept.0
some_at f (x ∷ xs) kept (suc i) d below = some_at f xs kept.2 i d (omega arith)

-- those that lie before a span come first
pub partitioned : {X : Type 0} (f : X → Stretch) (mark : Stretch) (xs : List X) → AreKept Line (map f xs) → IsPartitionedBy (λ x. ends_before (f x) mark) xs
partitioned f mark [] kept i j d le below is = absurd (omega arith)
partitioned f mark (x ∷ xs) kept zero zero d le below is = is
partitioned f mark (x ∷ xs) kept zero (suc j) d le below is =
    ends_before-from (f x) mark (before_on (f x) (f (get_or xs j d)) mark
    (some_at f xs kept.2 j d (omega arith))
    (every_at f (Precedes Line (f x)) xs kept.1 j d (omega arith))
    (EndsBefore-from (f (get_or xs j d)) mark is))
partitioned f mark (x ∷ xs) kept (suc i) zero d le below is = absurd (omega arith)
partitioned f mark (x ∷ xs) kept (suc i) (suc j) d le below is = partitioned f mark xs kept.2 i j d (omega arith) (omega arith) is

pub every-front : {X : Type 0} (f : X → Stretch) (mark : Stretch) (xs : List X) (n : ℕ) → n ≤ length xs → AllWithin (λ x. ends_before (f x) mark ≡ true) xs 0 n → AllByRecursion (λ s. ends_before s mark ≡ true) (take n (map f xs))
every-front f mark xs zero le all = tt
every-front f mark [] (suc n) le all = tt
every-front f mark (x ∷ xs) (suc n) le all = (all 0 x (omega arith) (omega arith), every-front f mark xs n (omega arith) (λ k d low high. all (suc k) d (omega arith) (omega arith)))

pub every-back : {X : Type 0} (f : X → Stretch) (mark : Stretch) (xs : List X) (n : ℕ) → AllWithin (λ x. ends_before (f x) mark ≡ false) xs n (length xs) → AllByRecursion (λ s. ends_before s mark ≡ false) (drop n (map f xs))
every-back f mark [] zero all = tt
every-back f mark [] (suc n) all = tt
every-back f mark (x ∷ xs) zero all = (all 0 x (omega arith) (omega arith), every-back f mark xs zero (λ k d low high. all (suc k) d (omega arith) (omega arith)))
every-back f mark (x ∷ xs) (suc n) all = every-back f mark xs n (λ k d low high. all (suc k) d (omega arith) (omega arith))

-- ---- one part

pub part-any : (lo hi k : ℕ) → list_any (in_part k) (part_of lo hi) ≡ within lo hi k
part-any lo hi k = elim (nat_lt lo hi) as (λ t. nat_lt lo hi ≡ t → list_any (in_part k) (cond t (record { lo = lo; hi = hi } ∷ []) []) ≡ within lo hi k) [
  | true ↦ λ e. or_false (within lo hi k)
  | false ↦ λ e. elim (cases_within lo hi k) [ inl w ↦ absurd (omega (arith, ltb-false lo hi e, w.1, w.2)) | inr w ↦ sym w.0 ]
] refl
  where
    or_false : (t : Bool) → (t || false) ≡ t
    or_false true = refl
    or_false false = refl

pub part-inside : (span : Stretch) (lo hi : ℕ) → span.lo ≤ lo → hi ≤ span.hi → AllByRecursion (LiesIn span) (part_of lo hi)
part-inside span lo hi a b = elim (nat_lt lo hi) as (λ t. nat_lt lo hi ≡ t → AllByRecursion (LiesIn span) (cond t (record { lo = lo; hi = hi } ∷ []) [])) [
  | true ↦ λ e. (record { from = a; some = ltb-true lo hi e; upto = b }, tt)
  | false ↦ λ e. tt
] refl

pub every-both : (P : Part → Type 0) (xs ys : List Part) → AllByRecursion P xs → AllByRecursion P ys → AllByRecursion P (xs ++ ys)
every-both P [] ys a b = b
every-both P (x ∷ xs) ys a b = (a.0, every-both P xs ys a.1 b)

-- ---- the walk

pub walked-met : (lo : ℕ) (span s : Stretch) (rest : List Stretch) → is_met s span ≡ true → walked lo span (s ∷ rest) ≡ part_of lo s.lo ++ walked (max lo s.hi) span rest
walked-met lo span s rest e = cond-true (is_met s span) (part_of lo s.lo ++ walked (max lo s.hi) span rest) (part_of lo span.hi) e

pub walked-none : (lo : ℕ) (span s : Stretch) (rest : List Stretch) → is_met s span ≡ false → walked lo span (s ∷ rest) ≡ part_of lo span.hi
walked-none lo span s rest e = cond-false (is_met s span) (part_of lo s.lo ++ walked (max lo s.hi) span rest) (part_of lo span.hi) e

met_is : (s span : Stretch) → is_met s span ≡ true → (s.lo < span.hi) × (s.row ≡ span.row)
unfolding is_met same_row
met_is s span e = let p = and_parts (nat_lt s.lo span.hi) (same_row s.row span.row) e in (ltb-true s.lo span.hi p.0, same_row-true s.row span.row p.1)

not_met : (s span : Stretch) → is_met s span ≡ false → (span.hi ≤ s.lo) ⊎ (same_row s.row span.row ≡ false)
unfolding is_met same_row
not_met s span e = elim (and_cases (nat_lt s.lo span.hi) (same_row s.row span.row) e) [
  | inl far ↦ inl (ltb-false s.lo span.hi far)
  | inr other ↦ inr other
]

-- of no lesser row than the span
abbrev pub NotLess : Stretch → Stretch → Type 0
NotLess span s = row_cmp s.row span.row ≡ Less → ⊥

pub not-less : (span s : Stretch) → ends_before s span ≡ false → NotLess span s
not-less span s e less = let t = ends_before-less s span less in cc

and_false : (t : Bool) → (t && false) ≡ false
and_false true = refl
and_false false = refl

none : (t : Bool) → ((t && false) || false) ≡ false
none true = refl
none false = refl

-- of two rows that are neither equal nor in this order, the other is less
greater : (a b : Row) → (row_cmp a b ≡ Less → ⊥) → same_row a b ≡ false → row_cmp b a ≡ Less
greater a b above other = elim (row_cmp a b) as (λ o. row_cmp a b ≡ o → row_cmp b a ≡ Less) [
  | Less ↦ λ e. absurd (above e)
  | Equal ↦ λ e. let same = same_row-equal a b (row_cmp-antisymmetric a b e) in cc
  | Greater ↦ λ e. row_cmp-back a b e
] refl

after_row : (span s t : Stretch) → row_cmp span.row s.row ≡ Less → Precedes Line s t → row_cmp span.row t.row ≡ Less
after_row span s t l (inl h) = row_cmp-on span.row s.row t.row l h
after_row span s t l (inr h) = subst (λ r. row_cmp span.row r ≡ Less) h.0 l

-- where all are of greater rows none is of the span's row
greater_rows : (span : Stretch) (rest : List Stretch) (k : ℕ) → AllByRecursion (λ t. row_cmp span.row t.row ≡ Less) rest → contains (places_of rest k) span.row ≡ false
greater_rows span [] k h = contains-none span.row
greater_rows span (t ∷ rest) k h =
    let away : same_row t.row span.row ≡ false = same_row-apart t.row span.row (λ e. row_cmp-less_apart span.row t.row h.0 (sym e)) in
    contains-with_row t.lo t.hi t.row (places_of rest) k span.row
    ∙ (λ i. (within t.lo t.hi k && away i) || greater_rows span rest k h.1 i)
    ∙ none (within t.lo t.hi k)

-- a stretch that is not met, and what follows it, takes nothing of the span
unmet : (span s : Stretch) (rest : List Stretch) (k : ℕ) → is_met s span ≡ false → NotLess span s → AreKept Line (s ∷ rest) → k < span.hi → contains (places_of (s ∷ rest) k) span.row ≡ false
unmet span s rest k e above kept below = elim (cases_row s.row span.row) [
  | inl same ↦
      let far : span.hi ≤ s.lo = elim (not_met s span e) [ inl l ↦ l | inr other ↦ let t = same_row-equal s.row span.row same in cc ] in
      let out : within s.lo s.hi k ≡ false = within-false s.lo s.hi k (inl (omega (arith, far, below))) in
      let free : contains (places_of rest k) span.row ≡ false = subst (λ r. contains (places_of rest k) r ≡ false) same (kept-free Line s rest kept.1 k (omega (arith, far, below, kept.0))) in
      contains-with_row s.lo s.hi s.row (places_of rest) k span.row
      ∙ (λ i. (out i && same_row s.row span.row) || free i)
  | inr other ↦
      let less = greater s.row span.row above other in
      greater_rows span (s ∷ rest) k (less, every-weaker (Precedes Line s) (λ t. row_cmp span.row t.row ≡ Less) (λ t h. after_row span s t less h) rest kept.1)
]

-- what remains, case by case, where a stretch of the row is met
same_within : (a b c d k : ℕ) → (a ≤ k → k < b → (c ≤ k) × (k < d)) → (c ≤ k → k < d → (a ≤ k) × (k < b)) → within a b k ≡ within c d k
same_within a b c d k there back = either-way _ _
    (λ e. let h = within-bounds a b k e in let n = there h.0 h.1 in within-true c d k n.0 n.1)
    (λ e. let h = within-bounds c d k e in let n = back h.0 h.1 in within-true a b k n.0 n.1)

met_cases : (lo hi a b k : ℕ) (rest : Bool) → a < b → a < hi → (k < b → rest ≡ false)
    → (within lo a k || (within (max lo b) hi k && not rest)) ≡ (within lo hi k && not (within a b k || rest))
met_cases lo hi a b k rest some met free = elim (cases_lt k a) [
  | inl early ↦
      let r = free (omega (arith, early, some)) in
      let one = same_within lo a lo hi k (λ x y. (x, omega (arith, y, met))) (λ x y. (x, early)) in
      let two = within-false (max lo b) hi k (inl (omega (arith, early, some))) in
      let three = within-false a b k (inl early) in
      (λ i. one i || (two i && not rest)) ∙ before (within lo hi k) ∙ sym (λ i. within lo hi k && not (three i || r i))
  | inr late ↦
      let one = within-false lo a k (inr late) in
      elim (cases_lt k b) [
        | inl inside ↦
            let two = within-false (max lo b) hi k (inl (omega (arith, inside))) in
            let three = within-true a b k late inside in
            (λ i. one i || (two i && not rest)) ∙ sym (and_false (within lo hi k)) ∙ sym (λ i. within lo hi k && not (three i || rest))
        | inr behind ↦
            let two = same_within (max lo b) hi lo hi k (λ x y. (omega (arith, x), y)) (λ x y. (omega (arith, x, behind), y)) in
            let three = within-false a b k (inr behind) in
            (λ i. one i || (two i && not rest)) ∙ sym (λ i. within lo hi k && not (three i || rest))
      ]
]
  where
    before : (t : Bool) → (t || false) ≡ (t && true)
    before true = refl
    before false = refl

not_lesser_rest : (span s : Stretch) (rest : List Stretch) → s.row ≡ span.row → AllByRecursion (Precedes Line s) rest → AllByRecursion (NotLess span) rest
not_lesser_rest span s [] same h = tt
not_lesser_rest span s (t ∷ rest) same h = (one h.0, not_lesser_rest span s rest same h.1)
  where
    one : Precedes Line s t → NotLess span t
    one (inl less) back = let loop = row_cmp-on s.row t.row span.row less back in row_cmp-less_apart s.row span.row loop same
    one (inr gap) back = row_cmp-less_apart t.row span.row back (sym gap.0 ∙ same)

and_true : (t u : Bool) → u ≡ false → t ≡ (t && not u)
and_true true u e = sym (ap not e)
and_true false u e = refl

and_one : (t : Bool) → (t && true) ≡ t
and_one true = refl
and_one false = refl

pub walked-any : (lo : ℕ) (span : Stretch) (taken : List Stretch) (k : ℕ) → AreKept Line taken → AllByRecursion (NotLess span) taken → list_any (in_part k) (walked lo span taken) ≡ (within lo span.hi k && not (contains (places_of taken k) span.row))
walked-any lo span [] k kept above =
    part-any lo span.hi k ∙ and_true (within lo span.hi k) (contains (places_of [] k) span.row) (contains-none span.row)
walked-any lo span (s ∷ rest) k kept above = elim (is_met s span) as (λ t. is_met s span ≡ t → list_any (in_part k) (walked lo span (s ∷ rest)) ≡ (within lo span.hi k && not (contains (places_of (s ∷ rest) k) span.row))) [
  | true ↦ λ e.
      let is = met_is s span e in
      let here : same_row s.row span.row ≡ true = same_row-equal s.row span.row is.1 in
      let free : k < s.hi → contains (places_of rest k) span.row ≡ false = λ below. subst (λ r. contains (places_of rest k) r ≡ false) is.1 (kept-free Line s rest kept.1 k below) in
      ap (list_any (in_part k)) (walked-met lo span s rest e)
      ∙ list_any-append (in_part k) (part_of lo s.lo) (walked (max lo s.hi) span rest)
      ∙ (λ i. part-any lo s.lo k i || walked-any (max lo s.hi) span rest k kept.2 (not_lesser_rest span s rest is.1 kept.1) i)
      ∙ met_cases lo span.hi s.lo s.hi k (contains (places_of rest k) span.row) kept.0 is.0 free
      ∙ ap (λ t. within lo span.hi k && not t) (sym (contains-with_row s.lo s.hi s.row (places_of rest) k span.row ∙ (λ i. (within s.lo s.hi k && here i) || contains (places_of rest k) span.row) ∙ ap (λ t. t || contains (places_of rest k) span.row) (and_one (within s.lo s.hi k))))
  | false ↦ λ e.
      ap (list_any (in_part k)) (walked-none lo span s rest e)
      ∙ part-any lo span.hi k
      ∙ (elim (cases_within lo span.hi k) [
        | inl w ↦ w.0 ∙ sym ((λ i. w.0 i && not (unmet span s rest k e above.0 kept w.2 i)))
        | inr w ↦ w.0 ∙ sym (λ i. w.0 i && not (contains (places_of (s ∷ rest) k) span.row))
      ])
] refl

pub walked-inside : (lo : ℕ) (span : Stretch) (taken : List Stretch) → span.lo ≤ lo → AllByRecursion (LiesIn span) (walked lo span taken)
walked-inside lo span [] l = part-inside span lo span.hi l (omega arith)
walked-inside lo span (s ∷ rest) l = elim (is_met s span) as (λ t. is_met s span ≡ t → AllByRecursion (LiesIn span) (walked lo span (s ∷ rest))) [
  | true ↦ λ e. subst (AllByRecursion (LiesIn span)) (sym (walked-met lo span s rest e)) (every-both (LiesIn span) (part_of lo s.lo) (walked (max lo s.hi) span rest) (part-inside span lo s.lo l (omega (arith, (met_is s span e).0))) (walked-inside (max lo s.hi) span rest (omega (arith, l))))
  | false ↦ λ e. subst (AllByRecursion (LiesIn span)) (sym (walked-none lo span s rest e)) (part-inside span lo span.hi l (omega arith))
] refl

-- ---- the stretches that lie before

front_free : (span : Stretch) (front : List Stretch) (k : ℕ) → AllByRecursion (λ s. ends_before s span ≡ true) front → span.lo ≤ k → contains (places_of front k) span.row ≡ false
front_free span [] k h l = contains-none span.row
front_free span (s ∷ front) k h l =
    contains-with_row s.lo s.hi s.row (places_of front) k span.row
    ∙ (λ i. away (EndsBefore-from s span h.0) i || front_free span front k h.1 l i)
  where
    away : EndsBefore s span → (within s.lo s.hi k && same_row s.row span.row) ≡ false
    away (inl less) = ap (λ t. within s.lo s.hi k && t) (same_row-apart s.row span.row (row_cmp-less_apart s.row span.row less)) ∙ and_false (within s.lo s.hi k)
    away (inr apart) = ap (λ t. t && same_row s.row span.row) (within-false s.lo s.hi k (inr (omega (arith, apart.1, l))))

pub outside-any : (span : Stretch) (taken : List Stretch) (n k : ℕ) → AreKept Line taken → AllByRecursion (λ s. ends_before s span ≡ true) (take n taken) → AllByRecursion (λ s. ends_before s span ≡ false) (drop n taken)
    → list_any (in_part k) (walked span.lo span (drop n taken)) ≡ (within span.lo span.hi k && not (contains (places_of taken k) span.row))
outside-any span taken n k kept front back =
    let whole = take-append-drop n taken in
    let rest = kept-behind Line (take n taken) (drop n taken) (subst (AreKept Line) (sym whole) kept) in
    let above = every-weaker (λ s. ends_before s span ≡ false) (NotLess span) (λ s e. not-less span s e) (drop n taken) back in
    let all : contains (places_of taken k) span.row ≡ (contains (places_of (take n taken) k) span.row || contains (places_of (drop n taken) k) span.row) = ap (λ zs. contains (places_of zs k) span.row) (sym whole) ∙ contains-append (take n taken) (drop n taken) k span.row in
    walked-any span.lo span (drop n taken) k rest above
    ∙ (elim (cases_within span.lo span.hi k) [
      | inl w ↦ ap (λ t. within span.lo span.hi k && not t) (sym (all ∙ ap (λ t. t || contains (places_of (drop n taken) k) span.row) (front_free span (take n taken) k front w.1)))
      | inr w ↦ (λ i. w.0 i && not (contains (places_of (drop n taken) k) span.row)) ∙ sym (λ i. w.0 i && not (contains (places_of taken k) span.row))
    ])

-- ---- the tests of the code

pub ends_before-same : (a b : Stretch) → a.row ≡ b.row → nat_le a.hi b.lo ≡ ends_before a b
ends_before-same a b e = sym (ends_before-equal a b (subst (λ r. row_cmp a.row r ≡ Equal) e (row_cmp-itself a.row)))

pub met-same : (s span : Stretch) (test : Bool) → s.lo < span.hi → IsTrue test ↔ (s.row ≡ span.row) → test ≡ is_met s span
unfolding is_met same_row
met-same s span test l says =
    either-way test (same_row s.row span.row) (λ e. same_row-equal s.row span.row (says.0 e)) (λ e. says.1 (same_row-true s.row span.row e))
    ∙ sym (ap (λ t. t && same_row s.row span.row) (lt-ltb s.lo span.hi l))

pub rows-same : (a b : Row) (test : Bool) → IsTrue test ↔ (a ≡ b) → test ≡ eq_by_cmp row_cmp a b
unfolding same_row
rows-same a b test says = either-way test (same_row a b) (λ e. same_row-equal a b (says.0 e)) (λ e. says.1 (same_row-true a b e))

pub met-far : (s span : Stretch) → span.hi ≤ s.lo → nat_lt s.lo span.hi ≡ is_met s span
unfolding is_met same_row
met-far s span l = le-ltb s.lo span.hi l ∙ sym (ap (λ t. t && same_row s.row span.row) (le-ltb s.lo span.hi l))

pub found-is : {X : Type 0} (f : X → Stretch) (span : Stretch) (taken : List X) (n : ℕ) (before found : List Part) → before ≡ [] → found ≡ before ++ walked span.lo span (map f (take (length taken - n) (drop n taken))) → found ≡ walked span.lo span (drop n (map f taken))
found-is f span taken n before found none is =
    is
    ∙ (λ i. none i ++ walked span.lo span (map f (take_rest taken n i)))
    ∙ ap (walked span.lo span) (sym (drop-map f n taken))

-- the same of a span whatever its row
pub every-part : (rows : Rows) (span : Stretch) (parts : List Part) → AllByRecursion (LiesIn (keyed rows span)) parts → AllByRecursion (LiesIn span) parts
every-part rows span [] h = tt
every-part rows span (part ∷ parts) h = let one = h.0 in (record { from = one.from; some = one.some; upto = one.upto }, every-part rows span parts h.1)

-- ---- spans in a line

after_one : (x : Bor Span) (xs : List (Bor Span)) → ArePlaced Line (map seen_lent (x ∷ xs)) → ((k : ℕ) (d : Bor Span) → suc k < length (x ∷ xs) → nat_le (get_or (x ∷ xs) k d).now.hi (get_or (x ∷ xs) (suc k) d).now.lo ≡ true)
    → AllByRecursion (λ (later : Stretch). x.now.hi ≤ later.lo) (map seen_lent xs)
after_one x [] placed near = tt
after_one x (y ∷ ys) placed near =
    let one = leb-true x.now.hi y.now.lo (near 0 x (omega arith)) in (
      one,
      every-weaker (λ later. y.now.hi ≤ later.lo) (λ later. x.now.hi ≤ later.lo) (λ later h. omega (arith, one, placed.1.0, h)) (map seen_lent ys)
          (after_one y ys placed.1 (λ k d below. near (suc k) d (omega (arith, below)))),
    )

-- where neighbours lie apart, all do
pub in-line : (spans : List (Bor Span)) → ArePlaced Line (map seen_lent spans) → ((k : ℕ) (d : Bor Span) → suc k < length spans → nat_le (get_or spans k d).now.hi (get_or spans (suc k) d).now.lo ≡ true) → AreInLine (map seen_lent spans)
in-line [] placed near = tt
in-line (x ∷ xs) placed near = (after_one x xs placed near, in-line xs placed.1 (λ k d below. near (suc k) d (omega (arith, below))))

pub line-behind : (n : ℕ) (spans : List Stretch) → AreInLine spans → AreInLine (drop n spans)
line-behind zero spans line = line
line-behind (suc n) [] line = tt
line-behind (suc n) (s ∷ spans) line = line-behind n spans line.1

pub placed-behind : (n : ℕ) (spans : List Stretch) → ArePlaced Line spans → ArePlaced Line (drop n spans)
placed-behind zero spans placed = placed
placed-behind (suc n) [] placed = tt
placed-behind (suc n) (s ∷ spans) placed = placed-behind n spans placed.1

-- none holds before all begin
none_early : (spans : List Stretch) (k : ℕ) (row : Row) → AllByRecursion (λ s. k < s.lo) spans → contains (places_of spans k) row ≡ false
none_early [] k row early = contains-none row
none_early (s ∷ spans) k row early =
    contains-with_row s.lo s.hi s.row (places_of spans) k row
    ∙ (λ i. (within-false s.lo s.hi k (inl early.0) i && same_row s.row row) || none_early spans k row early.1 i)

-- none holds after all have ended
none_late : (spans : List Stretch) (lo k : ℕ) (row : Row) → AllByRecursion (λ s. s.hi ≤ lo) spans → lo ≤ k → contains (places_of spans k) row ≡ false
none_late [] lo k row late from = contains-none row
none_late (s ∷ spans) lo k row late from =
    contains-with_row s.lo s.hi s.row (places_of spans) k row
    ∙ (λ i. (within-false s.lo s.hi k (inr (omega (arith, late.0, from))) i && same_row s.row row) || none_late spans lo k row late.1 from i)

-- spans that have ended take nothing of a span
pub ended-free : (span : Stretch) (right : List Stretch) (n k : ℕ) → AllByRecursion (λ s. s.hi ≤ span.lo) (take n right)
    → (within span.lo span.hi k && not (contains (places_of (drop n right) k) span.row)) ≡ (within span.lo span.hi k && not (contains (places_of right k) span.row))
ended-free span right n k ended = elim (cases_within span.lo span.hi k) [
  | inl w ↦ ap (λ t. within span.lo span.hi k && not t) (sym (all ∙ ap (λ t. t || contains (places_of (drop n right) k) span.row) (none_late (take n right) span.lo k span.row ended w.1)))
  | inr w ↦ (λ i. w.0 i && not (contains (places_of (drop n right) k) span.row)) ∙ sym (λ i. w.0 i && not (contains (places_of right k) span.row))
]
  where
    all : contains (places_of right k) span.row ≡ (contains (places_of (take n right) k) span.row || contains (places_of (drop n right) k) span.row)
    all = ap (λ zs. contains (places_of zs k) span.row) (sym (take-append-drop n right)) ∙ contains-append (take n right) (drop n right) k span.row

pub along-past : (lo : ℕ) (span s : Stretch) (rest : List Stretch) → nat_lt s.lo span.hi ≡ false → left_along lo span (s ∷ rest) ≡ part_of lo span.hi
unfolding same_row
along-past lo span s rest far = cond-false (nat_lt s.lo span.hi) (cond (same_row s.row span.row) (part_of lo s.lo ++ left_along (max lo s.hi) span rest) (left_along lo span rest)) (part_of lo span.hi) far

pub along-taken : (lo : ℕ) (span s : Stretch) (rest : List Stretch) → nat_lt s.lo span.hi ≡ true → same_row s.row span.row ≡ true → left_along lo span (s ∷ rest) ≡ part_of lo s.lo ++ left_along (max lo s.hi) span rest
unfolding same_row
along-taken lo span s rest near same =
    cond-true (nat_lt s.lo span.hi) (cond (same_row s.row span.row) (part_of lo s.lo ++ left_along (max lo s.hi) span rest) (left_along lo span rest)) (part_of lo span.hi) near
    ∙ cond-true (same_row s.row span.row) (part_of lo s.lo ++ left_along (max lo s.hi) span rest) (left_along lo span rest) same

pub along-other : (lo : ℕ) (span s : Stretch) (rest : List Stretch) → nat_lt s.lo span.hi ≡ true → same_row s.row span.row ≡ false → left_along lo span (s ∷ rest) ≡ left_along lo span rest
unfolding same_row
along-other lo span s rest near other =
    cond-true (nat_lt s.lo span.hi) (cond (same_row s.row span.row) (part_of lo s.lo ++ left_along (max lo s.hi) span rest) (left_along lo span rest)) (part_of lo span.hi) near
    ∙ cond-false (same_row s.row span.row) (part_of lo s.lo ++ left_along (max lo s.hi) span rest) (left_along lo span rest) other

pub along-any : (lo : ℕ) (span : Stretch) (others : List Stretch) (k : ℕ) → AreInLine others → ArePlaced Line others → list_any (in_part k) (left_along lo span others) ≡ (within lo span.hi k && not (contains (places_of others k) span.row))
along-any lo span [] k line placed = part-any lo span.hi k ∙ and_true (within lo span.hi k) (contains (places_of [] k) span.row) (contains-none span.row)
along-any lo span (s ∷ rest) k line placed = elim (nat_lt s.lo span.hi) as (λ t. nat_lt s.lo span.hi ≡ t → list_any (in_part k) (left_along lo span (s ∷ rest)) ≡ (within lo span.hi k && not (contains (places_of (s ∷ rest) k) span.row))) [
  | true ↦ λ near. elim (same_row s.row span.row) as (λ t. same_row s.row span.row ≡ t → list_any (in_part k) (left_along lo span (s ∷ rest)) ≡ (within lo span.hi k && not (contains (places_of (s ∷ rest) k) span.row))) [
    | true ↦ λ same.
        let free : k < s.hi → contains (places_of rest k) span.row ≡ false = λ below. none_early rest k span.row (every-weaker (λ later. s.hi ≤ later.lo) (λ later. k < later.lo) (λ later h. omega (arith, h, below)) rest line.0) in
        ap (list_any (in_part k)) (along-taken lo span s rest near same)
        ∙ list_any-append (in_part k) (part_of lo s.lo) (left_along (max lo s.hi) span rest)
        ∙ (λ i. part-any lo s.lo k i || along-any (max lo s.hi) span rest k line.1 placed.1 i)
        ∙ met_cases lo span.hi s.lo s.hi k (contains (places_of rest k) span.row) placed.0 (ltb-true s.lo span.hi near) free
        ∙ ap (λ t. within lo span.hi k && not t) (sym (contains-with_row s.lo s.hi s.row (places_of rest) k span.row ∙ (λ i. (within s.lo s.hi k && same i) || contains (places_of rest k) span.row) ∙ ap (λ t. t || contains (places_of rest k) span.row) (and_one (within s.lo s.hi k))))
    | false ↦ λ other.
        ap (list_any (in_part k)) (along-other lo span s rest near other)
        ∙ along-any lo span rest k line.1 placed.1
        ∙ ap (λ t. within lo span.hi k && not t) (sym (contains-with_row s.lo s.hi s.row (places_of rest) k span.row ∙ (λ i. (within s.lo s.hi k && other i) || contains (places_of rest k) span.row) ∙ ap (λ t. t || contains (places_of rest k) span.row) (and_false (within s.lo s.hi k))))
  ] refl
  | false ↦ λ far.
      let past = ltb-false s.lo span.hi far in
      ap (list_any (in_part k)) (along-past lo span s rest far)
      ∙ part-any lo span.hi k
      ∙ (elim (cases_within lo span.hi k) [
        | inl w ↦
            let early : AllByRecursion (λ (t : Stretch). k < t.lo) (s ∷ rest) = (omega (arith, past, w.2), every-weaker (λ later. s.hi ≤ later.lo) (λ later. k < later.lo) (λ later h. omega (arith, h, placed.0, past, w.2)) rest line.0) in
            w.0 ∙ sym (λ i. w.0 i && not (none_early (s ∷ rest) k span.row early i))
        | inr w ↦ w.0 ∙ sym (λ i. w.0 i && not (contains (places_of (s ∷ rest) k) span.row))
      ])
] refl

pub along-inside : (lo : ℕ) (span : Stretch) (others : List Stretch) → span.lo ≤ lo → AllByRecursion (LiesIn span) (left_along lo span others)
along-inside lo span [] l = part-inside span lo span.hi l (omega arith)
along-inside lo span (s ∷ rest) l = elim (nat_lt s.lo span.hi) as (λ t. nat_lt s.lo span.hi ≡ t → AllByRecursion (LiesIn span) (left_along lo span (s ∷ rest))) [
  | true ↦ λ near. elim (same_row s.row span.row) as (λ t. same_row s.row span.row ≡ t → AllByRecursion (LiesIn span) (left_along lo span (s ∷ rest))) [
    | true ↦ λ same. subst (AllByRecursion (LiesIn span)) (sym (along-taken lo span s rest near same)) (every-both (LiesIn span) (part_of lo s.lo) (left_along (max lo s.hi) span rest) (part-inside span lo s.lo l (omega (arith, ltb-true s.lo span.hi near))) (along-inside (max lo s.hi) span rest (omega (arith, l))))
    | false ↦ λ other. subst (AllByRecursion (LiesIn span)) (sym (along-other lo span s rest near other)) (along-inside lo span rest l)
  ] refl
  | false ↦ λ far. subst (AllByRecursion (LiesIn span)) (sym (along-past lo span s rest far)) (part-inside span lo span.hi l (omega arith))
] refl

-- the first spans that have ended, and those that end after them
pub ended-more : (n m total lo reach : ℕ) (right : List Stretch) → reach ≤ lo → AllByRecursion (λ s. s.hi ≤ reach) (take n right) → AllByRecursion (λ s. s.hi ≤ lo) (take m (drop n right)) → total ≡ n + m → AllByRecursion (λ s. s.hi ≤ lo) (take total right)
ended-more zero m total lo reach right le front back is =
    let all : m ≡ total = omega (arith, is) in
    subst (λ t. AllByRecursion (λ (s : Stretch). s.hi ≤ lo) (take t right)) all back
ended-more (suc n) m zero lo reach right le front back is = tt
ended-more (suc n) m (suc total) lo reach [] le front back is = tt
ended-more (suc n) m (suc total) lo reach (s ∷ right) le front back is = (omega (arith, front.0, le), ended-more n m total lo reach right le front.1 back (omega (arith, is)))

-- one that has ended, after others
pub ended-next : (n lo : ℕ) (spans : List (Bor Span)) (d : Bor Span) → n < length spans → AllByRecursion (λ (s : Stretch). s.hi ≤ lo) (take n (map seen_lent spans)) → (get_or spans n d).now.hi ≤ lo → AllByRecursion (λ (s : Stretch). s.hi ≤ lo) (take (suc n) (map seen_lent spans))
ended-next n lo [] d below all one = absurd (omega (arith, below))
ended-next zero lo (x ∷ xs) d below all one = (one, tt)
ended-next (suc n) lo (x ∷ xs) d below all one = (all.0, ended-next n lo xs d (omega (arith, below)) all.1 one)

abbrev pub ends_by : Bor Span → Bor Span → Bool
ends_by one next = nat_le one.now.hi next.now.lo

-- the answer of `is_sorted_by`
pub adjacent-ends : (spans : List (Bor Span)) (r : Bool) → IsAllAdjacentAnswer (λ x y b. b ≡ ends_by x y) spans r → r ≡ true → (k : ℕ) (d : Bor Span) → suc k < length spans → ends_by (get_or spans k d) (get_or spans (suc k) d) ≡ true
adjacent-ends spans true all e k d inside = subst (λ n. ends_by (get_or spans k d) (get_or spans n d) ≡ true) (add-one k) (sym (all k d (omega (arith, inside))))
adjacent-ends spans false answer e k d inside = absurd (false≢true e)

-- the spans from one on
pub rest-is : (n : ℕ) (spans : List (Bor Span)) → map seen_lent (take (length spans - n) (drop n spans)) ≡ drop n (map seen_lent spans)
rest-is n spans = ap (map seen_lent) (take_rest spans n) ∙ sym (drop-map seen_lent n spans)
