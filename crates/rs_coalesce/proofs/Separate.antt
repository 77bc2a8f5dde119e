-- Spans of which no two are one run stay so where some are left out, and where they are cut; maximal runs are such spans.
use Rattle.std.proofs.Common.{◌≡◌, zero, suc, ◌+◌, ◌-◌, ◌<◌, ◌≤◌, inl, inr, Bool, true, false, cond, List, [], ◌∷◌, map, filter, get_or, Less, refl, sym, ap, ◌∙◌, subst, arith}
use Rattle.std.proofs.lemmas.Bool.{cases_lt}
use Rattle.std.proofs.lemmas.List.Elements.{Contains-get_or}
use Rattle.std.specs.List.{AllByRecursion}
use Rattle.rs_value.specs.declared.column.Kind.{Kind}
use Rattle.rs_value.specs.declared.column.Kind.TheVariants.{Point, Line}
use Rattle.rs_facts.specs.Fact.{Places, contains}
use Rattle.rs_facts.specs.Runs.{Stretch, stretch_cmp, AreOrdered, IsMaximalRun, AreRunsOf}
use Rattle.rs_facts.specs.Spans.{gap_of}
use Rattle.rs_facts.proofs.Rows.{row_cmp-less_apart}
use Rattle.rs_facts.proofs.RunLaws.{IsApart, each-at, every-from_each}
use Rattle.rs_facts.proofs.StretchOrder.{stretch_cmp-less}
use Rattle.rs_coalesce.specs.Joined.{AreJoined}

-- each apart from those after it
abbrev pub AreSeparate : Kind → List Stretch → Type 0
AreSeparate kind [] = Unit {0}
AreSeparate kind (span ∷ spans) = AllByRecursion (IsApart kind span) spans × AreSeparate kind spans

apart_back : (kind : Kind) (a b : Stretch) → IsApart kind a b → IsApart kind b a
apart_back kind a b h same = elim (h (sym same)) [ inl x ↦ inr x | inr y ↦ inl y ]

rest_joined : (kind : Kind) (first : Stretch) (rest : List Stretch) → AreJoined kind (first ∷ rest) → AreJoined kind rest
rest_joined kind first rest h i j d a b other = h (suc i) (suc j) d (omega arith) (omega arith) (λ e. other (omega (arith, e)))

pub separate-from_joined : (kind : Kind) (spans : List Stretch) → AreJoined kind spans → AreSeparate kind spans
separate-from_joined kind [] h = tt
separate-from_joined kind (x ∷ xs) h = (
  every-from_each (IsApart kind x) xs
      (λ y among. subst (IsApart kind x) among.2 (h 0 (suc among.0) y (omega arith) (omega (arith, among.1)) (λ e. omega (arith, e)))),
  separate-from_joined kind xs (rest_joined kind x xs h),
)

pub joined-from_separate : (kind : Kind) (spans : List Stretch) → AreSeparate kind spans → AreJoined kind spans
joined-from_separate kind [] h i j d a b other = absurd (omega arith)
joined-from_separate kind (x ∷ xs) h zero zero d a b other = absurd (other refl)
joined-from_separate kind (x ∷ xs) h zero (suc j) d a b other = each-at (IsApart kind x) xs (get_or xs j d) h.0 (Contains-get_or xs j d (omega arith))
joined-from_separate kind (x ∷ xs) h (suc i) zero d a b other = apart_back kind x (get_or xs i d) (each-at (IsApart kind x) xs (get_or xs i d) h.0 (Contains-get_or xs i d (omega arith)))
joined-from_separate kind (x ∷ xs) h (suc i) (suc j) d a b other = joined-from_separate kind xs h.1 i j d (omega arith) (omega arith) (λ e. other (ap suc e))

-- ---- some are left out

pub every-filtered : {X : Type 0} (P : X → Type 0) (test : X → Bool) (xs : List X) → AllByRecursion P xs → AllByRecursion P (filter test xs)
every-filtered P test [] all = tt
every-filtered P test (x ∷ xs) all = elim (test x) as (λ t. AllByRecursion P (cond t (x ∷ filter test xs) (filter test xs))) [
  | true ↦ (all.0, every-filtered P test xs all.1)
  | false ↦ every-filtered P test xs all.1
]

separate_filtered : (kind : Kind) (test : Stretch → Bool) (spans : List Stretch) → AreSeparate kind spans → AreSeparate kind (filter test spans)
separate_filtered kind test [] h = tt
separate_filtered kind test (x ∷ xs) h = elim (test x) as (λ t. AreSeparate kind (cond t (x ∷ filter test xs) (filter test xs))) [
  | true ↦ (every-filtered (IsApart kind x) test xs h.0, separate_filtered kind test xs h.1)
  | false ↦ separate_filtered kind test xs h.1
]

pub joined-filtered : (kind : Kind) (test : Stretch → Bool) (spans : List Stretch) → AreJoined kind spans → AreJoined kind (filter test spans)
joined-filtered kind test spans h = joined-from_separate kind (filter test spans) (separate_filtered kind test spans (separate-from_joined kind spans h))

-- ---- each is cut

-- a part of a span, or nothing of it
pub record IsCut (span cut : Stretch) : Type 0 where
  pub row : cut.row ≡ span.row
  pub lo : span.lo ≤ cut.lo
  pub hi : cut.hi ≤ span.hi

apart_cut : (kind : Kind) (a b x y : Stretch) → IsCut a x → IsCut b y → IsApart kind a b → IsApart kind x y
apart_cut kind a b x y one other h same =
    elim (h (sym one.row ∙ same ∙ other.row)) [
      | inl before ↦ let hi = one.hi in let lo = other.lo in inl (omega (arith, before, hi, lo))
      | inr after ↦ let hi = other.hi in let lo = one.lo in inr (omega (arith, after, hi, lo))
    ]

module _ (kind : Kind) (cut : Stretch → Stretch) (cuts : (span : Stretch) → IsCut span (cut span)) where
  every_cut : (one : Stretch) (spans : List Stretch) → AllByRecursion (IsApart kind one) spans → AllByRecursion (IsApart kind (cut one)) (map cut spans)
  every_cut one [] all = tt
  every_cut one (x ∷ xs) all = (apart_cut kind one x (cut one) (cut x) (cuts one) (cuts x) all.0, every_cut one xs all.1)

  separate_cut : (spans : List Stretch) → AreSeparate kind spans → AreSeparate kind (map cut spans)
  separate_cut [] h = tt
  separate_cut (x ∷ xs) h = (every_cut x xs h.0, separate_cut xs h.1)

  pub joined-cut : (spans : List Stretch) → AreJoined kind spans → AreJoined kind (map cut spans)
  joined-cut spans h = joined-from_separate kind (map cut spans) (separate_cut spans (separate-from_joined kind spans h))

-- ---- maximal runs

-- two of one row lie apart, since the row does not hold right before the second
runs_before : (kind : Kind) (places : Places) (a b : Stretch) → IsMaximalRun kind places a → IsMaximalRun kind places b → a.row ≡ b.row → a.lo < b.lo → a.hi + gap_of kind ≤ b.lo
runs_before Point places a b x y same first = let one = x.one in omega (arith, one, first)
runs_before Line places a b x y same first = elim (cases_lt a.hi b.lo) [
  | inl ended ↦ omega (arith, ended)
  | inr reached ↦
      let held : contains (places (b.lo - 1)) b.row ≡ true = subst (λ r. contains (places (b.lo - 1)) r ≡ true) same (x.holds (b.lo - 1) (omega (arith, first)) (omega (arith, first, reached))) in
      let free : contains (places (b.lo - 1)) b.row ≡ false = y.not_before (b.lo - 1) (omega (arith, first)) in cc
]

runs_apart : (kind : Kind) (places : Places) (a b : Stretch) → IsMaximalRun kind places a → IsMaximalRun kind places b → stretch_cmp a b ≡ Less → IsApart kind a b
runs_apart kind places a b x y less same = elim (stretch_cmp-less a b less) [
  | inl first ↦ inl (runs_before kind places a b x y same first)
  | inr beside ↦ absurd (row_cmp-less_apart a.row b.row beside.1 same)
]

after_apart : (kind : Kind) (places : Places) (one : Stretch) (runs : List Stretch) → IsMaximalRun kind places one → AllByRecursion (λ later. stretch_cmp one later ≡ Less) runs → AllByRecursion (IsMaximalRun kind places) runs → AllByRecursion (IsApart kind one) runs
after_apart kind places one [] is later all = tt
after_apart kind places one (x ∷ xs) is later all = (runs_apart kind places one x is all.0 later.0, after_apart kind places one xs is later.1 all.1)

separate_runs : (kind : Kind) (places : Places) (runs : List Stretch) → AreOrdered runs → AllByRecursion (IsMaximalRun kind places) runs → AreSeparate kind runs
separate_runs kind places [] ordered all = tt
separate_runs kind places (x ∷ xs) ordered all = (after_apart kind places x xs all.0 ordered.0 all.1, separate_runs kind places xs ordered.1 all.1)

pub joined-from_runs : (kind : Kind) (places : Places) (runs : List Stretch) → AreRunsOf kind places runs → AreJoined kind runs
joined-from_runs kind places runs are = joined-from_separate kind runs (separate_runs kind places runs are.ordered are.maximal)
