-- What joining neighbours leaves: kept spans that mean the same.
use Rattle.std.proofs.Common.{◌≡◌, ℕ, suc, ◌+◌, ◌<◌, ◌≤◌, min, max, true, false, cond, ◌⊎◌, inl, inr, List, [], ◌∷◌, map, get_or, Ordering, Less, Equal, Greater, is_lt, nat_cmp, refl, sym, ap, ◌∙◌, subst, arith}
use Rattle.std.proofs.lemmas.Bool.{and_parts, and_cases, ltb-true, ltb-false, cases_lt}
use Rattle.std.specs.List.{AllByRecursion}
use Rattle.std.specs.List.Sorted.{IsSortedBy}
use Rattle.std.specs.Ordering.{ordering_then}
use Rattle.std.specs.Prelude.{nat_lt}
use Rattle.rs_value.specs.declared.column.Kind.{Kind}
use Rattle.rs_value.specs.declared.column.Kind.TheVariants.{Point, Line}
use Rattle.rs_value.specs.Row.{row_cmp}
use Rattle.rs_facts.specs.declared.fact.Span.{Span}
use Rattle.rs_facts.specs.Insert.{with_row}
use Rattle.rs_facts.specs.Runs.{Stretch}
use Rattle.rs_facts.specs.Spans.{seen, places_of, IsPlaced, ArePlaced, gap_of, Precedes, AreKept}
use Rattle.rs_facts.proofs.Rows.{same_row, same_row-true, same_row-equal, row_cmp-antisymmetric, row_cmp-back, row_cmp-itself}
use Rattle.rs_facts.proofs.Placing.{with_row-join}
use Rattle.rs_facts.proofs.StretchOrder.{nat_cmp-below}
use Rattle.rs_facts.proofs.KeptLaws.{placed-some, precedes-on}
use Rattle.rs_coalesce.specs.Joined.{row_place_cmp, joins, join, joined_onto, joined}

-- ---- by row and place, not necessarily apart

abbrev pub NotBehind : Stretch → Stretch → Type 0
NotBehind a b = (row_cmp a.row b.row ≡ Less) ⊎ ((a.row ≡ b.row) × (a.lo ≤ b.lo))

abbrev pub Stand : Stretch → List Stretch → Type 0
Stand before [] = Unit {0}
Stand before (next ∷ rest) = NotBehind before next × Stand next rest

by_row_cases : (o : Ordering) (p : Ordering) → is_lt (ordering_then o p) ≡ false → (o ≡ Greater) ⊎ ((o ≡ Equal) × (is_lt p ≡ false))
by_row_cases Less p e = let wrong : true ≡ false = e in cc
by_row_cases Equal p e = inr (refl, e)
by_row_cases Greater p e = inl refl

less_is : (o : Ordering) → o ≡ Less → is_lt o ≡ true
less_is o e = ap is_lt e

not_below : (a b : ℕ) → is_lt (nat_cmp a b) ≡ false → b ≤ a
not_below a b e = elim (cases_lt a b) [ inl l ↦ let wrong : is_lt (nat_cmp a b) ≡ true = less_is (nat_cmp a b) (nat_cmp-below a b l) in cc | inr m ↦ m ]

not_behind : (a b : Stretch) → is_lt (row_place_cmp b a) ≡ false → NotBehind a b
unfolding row_place_cmp
not_behind a b e = elim (by_row_cases (row_cmp b.row a.row) (nat_cmp b.lo a.lo) e) [
  | inl more ↦ inl (row_cmp-back b.row a.row more)
  | inr tie ↦ inr (sym (row_cmp-antisymmetric b.row a.row tie.0), not_below b.lo a.lo tie.1)
]

abbrev pub BySorted : List Span → Type 0
BySorted spans = IsSortedBy (λ a b. is_lt (row_place_cmp (seen a) (seen b))) spans

sorted_rest : (first : Span) (rest : List Span) → BySorted (first ∷ rest) → BySorted rest
sorted_rest first rest h k d a b =
    let more : suc k + 1 ≡ suc (k + 1) = omega arith in
    subst (λ n. is_lt (row_place_cmp (seen (get_or (first ∷ rest) n d)) (seen (get_or rest k d))) ≡ false) more (h (suc k) d (omega arith) (omega arith))

pub stand-from_sorted : (first : Span) (rest : List Span) → BySorted (first ∷ rest) → Stand (seen first) (map seen rest)
stand-from_sorted first [] h = tt
stand-from_sorted first (next ∷ rest) h = (not_behind (seen first) (seen next) (h 0 first (omega arith) (omega arith)), stand-from_sorted next rest (sorted_rest first (next ∷ rest) h))

-- ---- joining

pub joins-true : (kind : Kind) (a b : Stretch) → joins kind a b ≡ true → (b.lo < a.hi + gap_of kind) × (a.row ≡ b.row)
unfolding joins same_row
joins-true kind a b e = let parts = and_parts (nat_lt b.lo (a.hi + gap_of kind)) (same_row a.row b.row) e in (ltb-true b.lo (a.hi + gap_of kind) parts.0, same_row-true a.row b.row parts.1)

joins-false : (kind : Kind) (a b : Stretch) → joins kind a b ≡ false → NotBehind a b → Precedes kind a b
unfolding joins same_row
joins-false kind a b e (inl less) = inl less
joins-false kind a b e (inr same) = elim (and_cases (nat_lt b.lo (a.hi + gap_of kind)) (same_row a.row b.row) e) [
  | inl far ↦ inr (same.0, ltb-false b.lo (a.hi + gap_of kind) far)
  | inr other ↦ let one : same_row a.row b.row ≡ true = same_row-equal a.row b.row same.0 in cc
]

-- what stands after the second stands after the two joined
join-stands : (a b c : Stretch) → a.row ≡ b.row → a.lo ≤ b.lo → NotBehind b c → NotBehind (join a b) c
join-stands a b c same l (inl less) = inl (subst (λ r. row_cmp r c.row ≡ Less) (sym same) less)
join-stands a b c same l (inr h) = inr (same ∙ h.0, omega (arith, h.1))

stand_on : (a b : Stretch) (rest : List Stretch) → a.row ≡ b.row → a.lo ≤ b.lo → Stand b rest → Stand (join a b) rest
stand_on a b [] same l h = tt
stand_on a b (c ∷ rest) same l h = (join-stands a b c same l h.0, h.1)

in_order : (a b : Stretch) → a.row ≡ b.row → NotBehind a b → a.lo ≤ b.lo
in_order a b same (inl less) =
    let tie : row_cmp a.row b.row ≡ Equal = subst (λ r. row_cmp a.row r ≡ Equal) same (row_cmp-itself a.row) in cc
in_order a b same (inr h) = h.1

pub join-placed : (kind : Kind) (a b : Stretch) → a.lo ≤ b.lo → b.lo < a.hi + gap_of kind → IsPlaced kind a → IsPlaced kind b → IsPlaced kind (join a b)
join-placed Line a b l near x y = omega arith
join-placed Point a b l near x y = omega arith

-- what precedes a span precedes what is joined onto it
preceded : (kind : Kind) (a before : Stretch) (rest : List Stretch) → Precedes kind a before → Stand before rest → IsPlaced kind before → ArePlaced kind rest → AllByRecursion (Precedes kind a) (joined_onto kind before rest)
preceded kind a before [] h s p q = (h, tt)
preceded kind a before (next ∷ rest) h s p q =
    elim (joins kind before next) as (λ t. joins kind before next ≡ t → AllByRecursion (Precedes kind a) (cond t (joined_onto kind (join before next) rest) (before ∷ joined_onto kind next rest))) [
      | true ↦ λ e.
          let near = joins-true kind before next e in
          let l = in_order before next near.1 s.0 in
          preceded kind a (join before next) rest h (stand_on before next rest near.1 l s.1) (join-placed kind before next l near.0 p q.0) q.1
      | false ↦ λ e. (h, preceded kind a next rest (precedes-on kind a before next p h (joins-false kind before next e s.0)) s.1 q.0 q.1)
    ] refl

pub joined-kept : (kind : Kind) (before : Stretch) (rest : List Stretch) → Stand before rest → IsPlaced kind before → ArePlaced kind rest → AreKept kind (joined_onto kind before rest)
joined-kept kind before [] s p q = (p, tt, tt)
joined-kept kind before (next ∷ rest) s p q =
    elim (joins kind before next) as (λ t. joins kind before next ≡ t → AreKept kind (cond t (joined_onto kind (join before next) rest) (before ∷ joined_onto kind next rest))) [
      | true ↦ λ e.
          let near = joins-true kind before next e in
          let l = in_order before next near.1 s.0 in
          joined-kept kind (join before next) rest (stand_on before next rest near.1 l s.1) (join-placed kind before next l near.0 p q.0) q.1
      | false ↦ λ e. (p, preceded kind before next rest (joins-false kind before next e s.0) s.1 q.0 q.1, joined-kept kind next rest s.1 q.0 q.1)
    ] refl

-- two spans that are joined mean what the two mean
pub join-means : (kind : Kind) (a b : Stretch) (rest : List Stretch) → a.lo ≤ b.lo → b.lo < a.hi + gap_of kind → a.row ≡ b.row → IsPlaced kind b → places_of (join a b ∷ rest) ≡ places_of (a ∷ b ∷ rest)
join-means kind a b rest l near same placed =
    let some : b.lo < b.hi = placed-some kind b placed in
    let low : min a.lo b.lo ≡ a.lo = omega arith in
    ap (λ n. with_row n (max a.hi b.hi) a.row (places_of rest)) (sym low)
    ∙ sym (with_row-join a.lo a.hi b.lo b.hi a.row (places_of rest) (reached kind a b near) (omega arith))
    ∙ ap (λ r. with_row a.lo a.hi a.row (with_row b.lo b.hi r (places_of rest))) same
  where
    reached : (kind : Kind) (a b : Stretch) → b.lo < a.hi + gap_of kind → b.lo ≤ a.hi
    reached Line a b h = omega arith
    reached Point a b h = omega arith

pub joined-means : (kind : Kind) (before : Stretch) (rest : List Stretch) → Stand before rest → IsPlaced kind before → ArePlaced kind rest → places_of (joined_onto kind before rest) ≡ places_of (before ∷ rest)
joined-means kind before [] s p q = refl
joined-means kind before (next ∷ rest) s p q =
    elim (joins kind before next) as (λ t. joins kind before next ≡ t → places_of (cond t (joined_onto kind (join before next) rest) (before ∷ joined_onto kind next rest)) ≡ places_of (before ∷ next ∷ rest)) [
      | true ↦ λ e.
          let near = joins-true kind before next e in
          let l = in_order before next near.1 s.0 in
          joined-means kind (join before next) rest (stand_on before next rest near.1 l s.1) (join-placed kind before next l near.0 p q.0) q.1 ∙ join-means kind before next rest l near.0 near.1 q.0
      | false ↦ λ e. ap (with_row before.lo before.hi before.row) (joined-means kind next rest s.1 q.0 q.1)
    ] refl

-- ---- all of a list

pub kept-from_sorted : (kind : Kind) (spans : List Span) → BySorted spans → ArePlaced kind (map seen spans) → AreKept kind (joined kind (map seen spans))
unfolding joined
kept-from_sorted kind [] h p = tt
kept-from_sorted kind (first ∷ rest) h p = joined-kept kind (seen first) (map seen rest) (stand-from_sorted first rest h) p.0 p.1

pub means-from_sorted : (kind : Kind) (spans : List Span) → BySorted spans → ArePlaced kind (map seen spans) → places_of (joined kind (map seen spans)) ≡ places_of (map seen spans)
unfolding joined
means-from_sorted kind [] h p = refl
means-from_sorted kind (first ∷ rest) h p = joined-means kind (seen first) (map seen rest) (stand-from_sorted first rest h) p.0 p.1
