-- Spans that are all the runs of what they mean are placed and lie apart, and the other way.
use Rattle.std.proofs.Common.{◌≡◌, ◌≢◌, ◌⊎◌, true, false, inl, inr, List, [], ◌∷◌, ◌++◌, Less, Equal, Greater, refl, sym, ap, subst, arith}
use Rattle.std.proofs.lemmas.Bool.{cases_lt, cases_eq}
use Rattle.std.proofs.lemmas.List.Elements.{All-from_recursion, recursion_from_All}
use Rattle.std.proofs.lemmas.List.Sorted.{All-permutation, IsPermutation-cons, IsPermutation-refl, IsPermutation-sym, IsPermutation-swap, IsPermutation-trans}
use Rattle.std.specs.List.{AllByRecursion, Contains}
use Rattle.std.specs.List.Sorted.{IsPermutation}
use Rattle.rs_value.specs.Row.{row_cmp}
use Rattle.rs_value.specs.declared.column.Kind.{Kind}
use Rattle.rs_value.specs.declared.column.Kind.TheVariants.{Line, Point}
use Rattle.rs_facts.specs.Fact.{Places, contains}
use Rattle.rs_facts.specs.Runs.{IsLineRun, IsMaximalRun, Stretch, stretch}
use Rattle.rs_facts.specs.Spans.{AreAllRunsOf, AreKept, AreOnce, ArePlaced, IsPlaced, Precedes, places_of}
use Rattle.rs_facts.proofs.Apart.{apart-permutation, kept-apart}
use Rattle.rs_facts.proofs.KeptLaws.{placed-some, precedes-all}
use Rattle.rs_facts.proofs.Rows.{row_cmp-antisymmetric, row_cmp-back}
use Rattle.rs_facts.proofs.RunLaws.{IsApart, LieApart, apart-complete, apart-maximal, each-at, every-from_each, line_runs-same}
use Rattle.rs_versioned.proofs.Shuffles.{shuffled}

-- each placed, and apart from those after it
abbrev pub AreApart : Kind → List Stretch → Type 0
AreApart kind [] = Unit {0}
AreApart kind (span ∷ spans) = IsPlaced kind span × AllByRecursion (IsApart kind span) spans × AreApart kind spans

pub all_shuffled : (P : Stretch → Type 0) (xs ys : List Stretch) → IsPermutation xs ys → AllByRecursion P xs → AllByRecursion P ys
all_shuffled P xs ys p all = recursion_from_All P ys (All-permutation P xs ys p (All-from_recursion P xs all))

pub apart_back : (kind : Kind) (a b : Stretch) → IsApart kind a b → IsApart kind b a
apart_back kind a b h same = elim (h (sym same)) [ inl x ↦ inr x | inr y ↦ inl y ]

record Stays (kind : Kind) (xs ys : List Stretch) : Type 0 where
  moved : IsPermutation xs ys
  apart : AreApart kind xs → AreApart kind ys

stays : (kind : Kind) (xs ys : List Stretch) → IsPermutation xs ys → Stays kind xs ys
stays kind = shuffled (Stays kind)
    (λ xs. record { moved = IsPermutation-refl xs; apart = λ h. h })
    (λ xs ys zs a b. record { moved = IsPermutation-trans xs ys zs a.moved b.moved; apart = λ h. b.apart (a.apart h) })
    (λ x xs ys a. record { moved = IsPermutation-cons x xs ys a.moved; apart = λ h. (h.0, all_shuffled (IsApart kind x) xs ys a.moved h.1, a.apart h.2) })
    (λ x y xs. record {
      moved = IsPermutation-swap (x ∷ y ∷ xs) (y ∷ x ∷ xs) 0 1 (omega arith) (omega arith) refl;
      apart = λ h. (h.2.0, (apart_back kind x y h.1.0, h.2.1), (h.0, h.1.1, h.2.2));
    })

pub apart_shuffled : (kind : Kind) (xs ys : List Stretch) → IsPermutation xs ys → AreApart kind xs → AreApart kind ys
apart_shuffled kind xs ys p = (stays kind xs ys p).apart

-- ---- the runs are apart

placed_run : (kind : Kind) (places : Places) (run : Stretch) → IsMaximalRun kind places run → IsPlaced kind run
placed_run Line places run is = is.some
placed_run Point places run is = is.one

-- one ends before the other begins, or they share a thousandth, or they touch
line_apart : (places : Places) (a b : Stretch) → IsLineRun places a → IsLineRun places b → a ≢ b → IsApart Line a b
line_apart places a b x y other row = elim (cases_lt a.hi b.lo) [
  | inl before ↦ inl (omega (arith, before))
  | inr meets ↦ elim (cases_lt b.hi a.lo) [
    | inl after ↦ inr (omega (arith, after))
    | inr too ↦ elim (cases_eq a.hi b.lo) [
      | inl touch ↦
          let held : contains (places b.lo) b.row ≡ true = y.holds b.lo (omega arith) y.some in
          let free : contains (places b.lo) b.row ≡ false = subst (λ k. contains (places k) b.row ≡ false) touch (subst (λ r. contains (places a.hi) r ≡ false) row x.not_behind) in
          absurd (cc)
      | inr apart ↦ elim (cases_eq b.hi a.lo) [
        | inl touch ↦
            let held : contains (places a.lo) a.row ≡ true = x.holds a.lo (omega arith) x.some in
            let free : contains (places a.lo) a.row ≡ false = subst (λ k. contains (places k) a.row ≡ false) touch (subst (λ r. contains (places b.hi) r ≡ false) (sym row) y.not_behind) in
            absurd (cc)
        | inr away ↦ elim (cases_lt a.lo b.lo) [
          | inl less ↦ absurd (other (line_runs-same places a b b.lo x y row (omega (arith, less)) (omega (arith, meets, apart)) (omega arith) y.some))
          | inr more ↦ absurd (other (line_runs-same places a b a.lo x y row (omega arith) x.some more (omega (arith, too, away))))
        ]
      ]
    ]
  ]
]

same_point : (a b : Stretch) → a.lo ≡ b.lo → a.hi ≡ b.hi → a.row ≡ b.row → a ≡ b
same_point a b lo hi row = λ i. stretch (lo i) (hi i) (row i)

runs_apart : (kind : Kind) (places : Places) (a b : Stretch) → IsMaximalRun kind places a → IsMaximalRun kind places b → a ≢ b → IsApart kind a b
runs_apart Line places a b x y other row = line_apart places a b x y other row
runs_apart Point places a b x y other row = elim (cases_lt a.lo b.lo) [
  | inl less ↦ inl (let one = x.one in omega (arith, less, one))
  | inr not_less ↦ elim (cases_lt b.lo a.lo) [
    | inl more ↦ inr (let one = y.one in omega (arith, more, one))
    | inr not_more ↦ absurd (other (same_point a b (omega (arith, not_less, not_more)) (let one = x.one in let two = y.one in omega (arith, not_less, not_more, one, two)) row))
  ]
]

both_of : (kind : Kind) (places : Places) (one : Stretch) (spans : List Stretch) → IsMaximalRun kind places one → AllByRecursion (λ other. one ≢ other) spans → AllByRecursion (IsMaximalRun kind places) spans
    → AllByRecursion (IsApart kind one) spans
both_of kind places one [] is once all = tt
both_of kind places one (s ∷ spans) is once all = (runs_apart kind places one s is all.0 once.0, both_of kind places one spans is once.1 all.1)

maximal_apart : (kind : Kind) (places : Places) (spans : List Stretch) → AreOnce spans → AllByRecursion (IsMaximalRun kind places) spans → AreApart kind spans
maximal_apart kind places [] once all = tt
maximal_apart kind places (s ∷ spans) once all = (placed_run kind places s all.0, both_of kind places s spans all.0 once.0 all.1, maximal_apart kind places spans once.1 all.1)

pub apart_of : (kind : Kind) (places : Places) (spans : List Stretch) → AreAllRunsOf kind places spans → AreApart kind spans
apart_of kind places spans runs = maximal_apart kind places spans runs.once runs.maximal

-- ---- and spans that are apart are the runs

-- the same spans in the form in which they are kept
pub record InForm (kind : Kind) (spans : List Stretch) : Type 0 where
  pub kept : List Stretch
  pub are : AreKept kind kept
  pub moved : IsPermutation spans kept

either_before : (kind : Kind) (a b : Stretch) → IsApart kind a b → Precedes kind a b ⊎ Precedes kind b a
either_before kind a b apart = elim (row_cmp a.row b.row) as (λ o. row_cmp a.row b.row ≡ o → Precedes kind a b ⊎ Precedes kind b a) [
  | Less ↦ λ e. inl (inl e)
  | Greater ↦ λ e. inr (inl (row_cmp-back a.row b.row e))
  | Equal ↦ λ e.
      let same = row_cmp-antisymmetric a.row b.row e in
      elim (apart same) [
        | inl x ↦ inl (inr (same, x))
        | inr y ↦ inr (inr (sym same, y))
      ]
] refl

insert_kept : (kind : Kind) (one : Stretch) (spans : List Stretch) → IsPlaced kind one → AllByRecursion (IsApart kind one) spans → AreKept kind spans → InForm kind (one ∷ spans)
insert_kept kind one [] placed apart are = record { kept = one ∷ []; are = (placed, tt, tt); moved = IsPermutation-refl (one ∷ []) }
insert_kept kind one (s ∷ spans) placed apart are = elim (either_before kind one s apart.0) [
  | inl before ↦ record { kept = one ∷ s ∷ spans; are = (placed, precedes-all kind one s spans before are, are); moved = IsPermutation-refl (one ∷ s ∷ spans) }
  | inr after ↦
      let rest = insert_kept kind one spans placed apart.1 are.2 in
      record {
        kept = s ∷ rest.kept;
        are = (are.0, all_shuffled (Precedes kind s) (one ∷ spans) rest.kept rest.moved (after, are.1), rest.are);
        moved = IsPermutation-trans (one ∷ s ∷ spans) (s ∷ one ∷ spans) (s ∷ rest.kept)
            (IsPermutation-swap (one ∷ s ∷ spans) (s ∷ one ∷ spans) 0 1 (omega arith) (omega arith) refl) (IsPermutation-cons s (one ∷ spans) rest.kept rest.moved);
      }
]

pub in_form : (kind : Kind) (spans : List Stretch) → AreApart kind spans → InForm kind spans
in_form kind [] apart = record { kept = []; are = tt; moved = IsPermutation-refl [] }
in_form kind (s ∷ spans) apart =
    let rest = in_form kind spans apart.2 in
    let all = insert_kept kind s rest.kept apart.0 (all_shuffled (IsApart kind s) spans rest.kept rest.moved apart.1) rest.are in
    record {
      kept = all.kept;
      are = all.are;
      moved = IsPermutation-trans (s ∷ spans) (s ∷ rest.kept) all.kept (IsPermutation-cons s spans rest.kept rest.moved) all.moved;
    }

lie_apart : (kind : Kind) (spans : List Stretch) → AreApart kind spans → LieApart kind spans
lie_apart kind spans apart =
    let form = in_form kind spans apart in
    apart-permutation kind form.kept spans (IsPermutation-sym spans form.kept form.moved) (kept-apart kind form.kept form.are)

all_placed : (kind : Kind) (spans : List Stretch) → AreApart kind spans → ArePlaced kind spans
all_placed kind [] apart = tt
all_placed kind (s ∷ spans) apart = (apart.0, all_placed kind spans apart.2)

others_of : (kind : Kind) (one : Stretch) (spans : List Stretch) → IsPlaced kind one → AllByRecursion (IsApart kind one) spans → AllByRecursion (λ other. one ≢ other) spans
others_of kind one [] placed apart = tt
others_of kind one (s ∷ spans) placed apart = (
  (λ same. let some = placed-some kind one placed in let lo = ap (λ (x : Stretch). x.lo) same in let hi = ap (λ (x : Stretch). x.hi) same in
      elim (apart.0 (ap (λ (x : Stretch). x.row) same)) [ inl x ↦ omega (arith, x, some, lo) | inr y ↦ omega (arith, y, some, hi) ]),
  others_of kind one spans placed apart.1,
)

pub once_of_apart : (kind : Kind) (spans : List Stretch) → AreApart kind spans → AreOnce spans
once_of_apart kind [] apart = tt
once_of_apart kind (s ∷ spans) apart = (others_of kind s spans apart.0 apart.1, once_of_apart kind spans apart.2)

pub runs_of_apart : (kind : Kind) (spans : List Stretch) → AreApart kind spans → AreAllRunsOf kind (places_of spans) spans
runs_of_apart kind spans apart = record {
  once = once_of_apart kind spans apart;
  maximal = every-from_each (IsMaximalRun kind (places_of spans)) spans (apart-maximal kind spans (all_placed kind spans apart) (lie_apart kind spans apart));
  complete = apart-complete kind spans (all_placed kind spans apart) (lie_apart kind spans apart);
}

-- ---- parts of such spans

pub apart_each : (kind : Kind) (one : Stretch) (spans : List Stretch) (s : Stretch) → AllByRecursion (IsApart kind one) spans → Contains spans s → IsApart kind one s
apart_each kind one spans s all has = each-at (IsApart kind one) spans s all has

-- two such lists, each of the one apart from each of the other, are one
pub apart_both : (kind : Kind) (xs ys : List Stretch) → AreApart kind xs → AreApart kind ys → AllByRecursion (λ x. AllByRecursion (IsApart kind x) ys) xs → AreApart kind (xs ++ ys)
apart_both kind [] ys one other across = other
apart_both kind (x ∷ xs) ys one other across = (one.0, all_both (IsApart kind x) xs ys one.1 across.0, apart_both kind xs ys one.2 other across.1)
  where
    all_both : (P : Stretch → Type 0) (xs ys : List Stretch) → AllByRecursion P xs → AllByRecursion P ys → AllByRecursion P (xs ++ ys)
    all_both P [] ys a b = b
    all_both P (x ∷ xs) ys a b = (a.0, all_both P xs ys a.1 b)

pub apart_first : (kind : Kind) (xs ys : List Stretch) → AreApart kind (xs ++ ys) → AreApart kind xs
apart_first kind [] ys all = tt
apart_first kind (x ∷ xs) ys all = (all.0, before xs ys all.1, apart_first kind xs ys all.2)
  where
    before : (xs ys : List Stretch) → AllByRecursion (IsApart kind x) (xs ++ ys) → AllByRecursion (IsApart kind x) xs
    before [] ys a = tt
    before (z ∷ xs) ys a = (a.0, before xs ys a.1)

pub apart_last : (kind : Kind) (xs ys : List Stretch) → AreApart kind (xs ++ ys) → AreApart kind ys
apart_last kind [] ys all = all
apart_last kind (x ∷ xs) ys all = apart_last kind xs ys all.2

pub apart_across : (kind : Kind) (xs ys : List Stretch) → AreApart kind (xs ++ ys) → AllByRecursion (λ x. AllByRecursion (IsApart kind x) ys) xs
apart_across kind [] ys all = tt
apart_across kind (x ∷ xs) ys all = (after xs ys all.1, apart_across kind xs ys all.2)
  where
    after : (xs ys : List Stretch) → AllByRecursion (IsApart kind x) (xs ++ ys) → AllByRecursion (IsApart kind x) ys
    after [] ys a = a
    after (z ∷ xs) ys a = after xs ys a.1
