-- Lists of spans as they are kept: by row and then by place, spans of one row apart.
use Rattle.std.proofs.Common.{◌≡◌, ℕ, ◌+◌, ◌-◌, ◌<◌, ◌≤◌, Bool, true, false, cond, ◌⊎◌, inl, inr, List, [], ◌∷◌, ◌++◌, Less, refl, sym, ap, ◌∙◌, subst, arith}
use Rattle.std.specs.List.{AllByRecursion}
use Rattle.rs_value.specs.Row.{Row, row_cmp}
use Rattle.rs_value.specs.declared.column.Kind.{Kind}
use Rattle.rs_value.specs.declared.column.Kind.TheVariants.{Point, Line}
use Rattle.rs_facts.specs.Fact.{contains}
use Rattle.rs_facts.specs.Insert.{with_row, missing}
use Rattle.rs_facts.specs.Runs.{Stretch}
use Rattle.rs_facts.specs.Spans.{places_of, IsPlaced, ArePlaced, Precedes, AreKept}
use Rattle.rs_facts.proofs.Rows.{same_row, same_row-equal, same_row-apart, cases_row, row_cmp-on, row_cmp-less_apart}
use Rattle.rs_facts.proofs.Sets.{contains-none}
use Rattle.rs_facts.proofs.Placing.{with_row-other, with_row-outside}
use Rattle.rs_facts.proofs.Counting.{overlap, missing-nothing, missing-other, missing-apart}

pub placed-some : (kind : Kind) (span : Stretch) → IsPlaced kind span → span.lo < span.hi
placed-some Line span h = h
placed-some Point span h = omega arith

-- ---- all of a list

pub every-append : (P : Stretch → Type 0) (xs ys : List Stretch) → AllByRecursion P xs → AllByRecursion P ys → AllByRecursion P (xs ++ ys)
every-append P [] ys a b = b
every-append P (x ∷ xs) ys a b = (a.0, every-append P xs ys a.1 b)

pub every-before : (P : Stretch → Type 0) (xs ys : List Stretch) → AllByRecursion P (xs ++ ys) → AllByRecursion P xs
every-before P [] ys a = tt
every-before P (x ∷ xs) ys a = (a.0, every-before P xs ys a.1)

pub every-behind : (P : Stretch → Type 0) (xs ys : List Stretch) → AllByRecursion P (xs ++ ys) → AllByRecursion P ys
every-behind P [] ys a = a
every-behind P (x ∷ xs) ys a = every-behind P xs ys a.1

pub every-weaker : (P Q : Stretch → Type 0) → ((x : Stretch) → P x → Q x) → (xs : List Stretch) → AllByRecursion P xs → AllByRecursion Q xs
every-weaker P Q f [] a = tt
every-weaker P Q f (x ∷ xs) a = (f x a.0, every-weaker P Q f xs a.1)

-- ---- the order of kept spans

pub precedes-on : (kind : Kind) (a b c : Stretch) → IsPlaced kind b → Precedes kind a b → Precedes kind b c → Precedes kind a c
precedes-on kind a b c placed (inl h) (inl l) = inl (row_cmp-on a.row b.row c.row h l)
precedes-on kind a b c placed (inl h) (inr l) = inl (subst (λ r. row_cmp a.row r ≡ Less) l.0 h)
precedes-on kind a b c placed (inr h) (inl l) = inl (subst (λ r. row_cmp r c.row ≡ Less) (sym h.0) l)
precedes-on kind a b c placed (inr h) (inr l) = let some : b.lo < b.hi = placed-some kind b placed in inr (h.0 ∙ l.0, omega (arith, h.1, l.1))

pub kept-placed : (kind : Kind) (spans : List Stretch) → AreKept kind spans → ArePlaced kind spans
kept-placed kind [] h = tt
kept-placed kind (span ∷ spans) h = (h.0, kept-placed kind spans h.2)

-- what precedes the first precedes all
pub precedes-all : (kind : Kind) (a b : Stretch) (spans : List Stretch) → Precedes kind a b → AreKept kind (b ∷ spans) → AllByRecursion (Precedes kind a) (b ∷ spans)
precedes-all kind a b spans h k = (h, every-weaker (Precedes kind b) (Precedes kind a) (λ c l. precedes-on kind a b c k.0 h l) spans k.1)

pub kept-before : (kind : Kind) (xs ys : List Stretch) → AreKept kind (xs ++ ys) → AreKept kind xs
kept-before kind [] ys h = tt
kept-before kind (x ∷ xs) ys h = (h.0, every-before (Precedes kind x) xs ys h.1, kept-before kind xs ys h.2)

pub kept-behind : (kind : Kind) (xs ys : List Stretch) → AreKept kind (xs ++ ys) → AreKept kind ys
kept-behind kind [] ys h = h
kept-behind kind (x ∷ xs) ys h = kept-behind kind xs ys h.2

-- each of the first list precedes each of the second
abbrev pub AllPrecede : Kind → List Stretch → List Stretch → Type 0
AllPrecede kind [] ys = Unit {0}
AllPrecede kind (x ∷ xs) ys = AllByRecursion (Precedes kind x) ys × AllPrecede kind xs ys

pub kept-across : (kind : Kind) (xs ys : List Stretch) → AreKept kind (xs ++ ys) → AllPrecede kind xs ys
kept-across kind [] ys h = tt
kept-across kind (x ∷ xs) ys h = (every-behind (Precedes kind x) xs ys h.1, kept-across kind xs ys h.2)

pub kept-append : (kind : Kind) (xs ys : List Stretch) → AreKept kind xs → AreKept kind ys → AllPrecede kind xs ys → AreKept kind (xs ++ ys)
kept-append kind [] ys a b c = b
kept-append kind (x ∷ xs) ys a b c = (a.0, every-append (Precedes kind x) xs ys a.1 c.0, kept-append kind xs ys a.2 b c.1)

-- ---- what a kept list leaves free, and how much of a span it holds

-- up to a span's end its row is not held by what follows
pub kept-free : (kind : Kind) (span : Stretch) (spans : List Stretch) → AllByRecursion (Precedes kind span) spans → (k : ℕ) → k < span.hi → contains (places_of spans k) span.row ≡ false
kept-free kind span [] h k below = contains-none span.row
kept-free kind span (next ∷ spans) h k below = elim h.0 [
  | inl less ↦ with_row-other next.lo next.hi next.row (places_of spans) k span.row (λ e. row_cmp-less_apart span.row next.row less (sym e)) ∙ kept-free kind span spans h.1 k below
  | inr apart ↦ with_row-outside next.lo next.hi next.row (places_of spans) k span.row (inl (omega (arith, apart.1))) ∙ kept-free kind span spans h.1 k below
]

-- what one span shares with the row's stretch from one thousandth up to another
unfoldable pub shared : ℕ → ℕ → Row → Stretch → ℕ
shared from to row span = cond (same_row span.row row) (overlap from to span.lo span.hi) 0

-- at how many of these thousandths spans of the row hold, where they lie apart
abbrev pub known : ℕ → ℕ → Row → List Stretch → ℕ
known from to row [] = 0
known from to row (span ∷ spans) = shared from to row span + known from to row spans

pub shared-same : (from to : ℕ) (row : Row) (span : Stretch) → span.row ≡ row → shared from to row span ≡ overlap from to span.lo span.hi
unfolding shared
shared-same from to row span e = ap (λ t. cond t (overlap from to span.lo span.hi) 0) (same_row-equal span.row row e)

pub shared-other : (from to : ℕ) (row : Row) (span : Stretch) → (span.row ≡ row → ⊥) → shared from to row span ≡ 0
unfolding shared
shared-other from to row span e = ap (λ t. cond t (overlap from to span.lo span.hi) 0) (same_row-apart span.row row e)

pub shared-outside : (from to : ℕ) (row : Row) (span : Stretch) → (span.hi ≤ from) ⊎ (to ≤ span.lo) → shared from to row span ≡ 0
unfolding shared
shared-outside from to row span out = ap (λ n. cond (same_row span.row row) n 0) (nothing out) ∙ zero_both (same_row span.row row)
  where
    nothing : (span.hi ≤ from) ⊎ (to ≤ span.lo) → overlap from to span.lo span.hi ≡ 0
    nothing (inl a) = omega arith
    nothing (inr b) = omega arith

    zero_both : (t : Bool) → ◌≡◌ {A = ℕ} (cond t 0 0) 0
    zero_both true = refl
    zero_both false = refl

pub known-append : (from to : ℕ) (row : Row) (xs ys : List Stretch) → known from to row (xs ++ ys) ≡ known from to row xs + known from to row ys
known-append from to row [] ys = omega arith
known-append from to row (x ∷ xs) ys = ap (λ n. shared from to row x + n) (known-append from to row xs ys) ∙ omega arith

-- spans that share nothing, since they are another row's or lie outside
pub known-none : (from to : ℕ) (row : Row) (spans : List Stretch) → AllByRecursion (λ span. shared from to row span ≡ 0) spans → known from to row spans ≡ 0
known-none from to row [] h = refl
known-none from to row (span ∷ spans) h = let rest = known-none from to row spans h.1 in omega (arith, h.0, rest)

-- The facts that are new are the stretch's length less what kept spans of the row share with it.
pub missing-kept : (kind : Kind) (from to : ℕ) (row : Row) (spans : List Stretch) → from ≤ to → AreKept kind spans → missing from to row (places_of spans) + known from to row spans ≡ to - from
missing-kept kind from to row [] l h = let all = missing-nothing from to row l in omega (arith, all)
missing-kept kind from to row (span ∷ spans) l h =
    let rest = missing-kept kind from to row spans l h.2 in
    elim (cases_row span.row row) [
      | inl same ↦
          let here = missing-apart from to span.row span.lo span.hi (places_of spans) l (λ k a b. kept-free kind span spans h.1 k b) in
          let here2 : missing from to row (with_row span.lo span.hi span.row (places_of spans)) + overlap from to span.lo span.hi ≡ missing from to row (places_of spans) =
          subst (λ r. missing from to r (with_row span.lo span.hi span.row (places_of spans)) + overlap from to span.lo span.hi ≡ missing from to r (places_of spans)) same here in
          let part = shared-same from to row span same in
          omega (arith, rest, here2, part)
      | inr apart ↦
          let away : span.row ≡ row → ⊥ = λ e. let t : same_row span.row row ≡ true = same_row-equal span.row row e in cc in
          let here = missing-other from to row span.lo span.hi span.row (places_of spans) away in
          let part = shared-other from to row span away in
          omega (arith, rest, here, part)
    ]
