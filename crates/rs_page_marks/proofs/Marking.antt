-- One mark more.
use Rattle.std.proofs.Common.{◌≡◌, ◌<◌, ◌≤◌, ◌+◌, ℕ, zero, suc, Bool, true, false, cond, eqb, List, [], ◌∷◌, length, get_or, replicate, refl, sym, ap, ◌∙◌, inl, inr, arith}
use Rattle.std.proofs.Math.ListN.{set}
use Rattle.std.proofs.lemmas.Bool.{cases_lt}
use Rattle.std.proofs.lemmas.Bool.Decides.{nat_tests}
use Rattle.std.proofs.lemmas.List.{get_or-set_same, get_or-set_other, get_or_past, get_or-replicate, length-replicate}
use Rattle.std.proofs.lemmas.List.Sums.{sum_by-set, sum_by-cons}
use Rattle.std.proofs.lemmas.List.Folds.{sum_by-replicate}
use Rattle.std.proofs.lemmas.Option.{slice_get-get_or}
use Rattle.std.specs.List.{sum_by}
use Rattle.rs_page_owners.specs.Counts.{◌&◌, one_at}
use Rattle.rs_page_owners.proofs.Moving.{one_at-same}
use Rattle.rs_page_marks.specs.Marks.{taken, unmarked}

one_at-other : (page n : ℕ) → (page ≡ n → ⊥) → one_at page n ≡ 0
unfolding one_at
one_at-other page n ne = grind (arith, nat_tests)

-- past the last mark all is taken
pub taken_past : (marks : List Bool) (n : ℕ) → length marks ≤ n → taken marks n ≡ 1
unfolding taken
taken_past marks n past = ap (λ b. cond b 1 0) (get_or_past marks n true past)

pub taken_at : (marks : List Bool) (n : ℕ) (mark : Bool) → n < length marks → get_or marks n true ≡ mark → taken marks n ≡ cond mark 1 0
unfolding taken
taken_at marks n mark inside is = ap (λ b. cond b 1 0) is

-- a mark inside is the same, whatever stands past the last
pub mark_at : (marks : List Bool) (n : ℕ) (mark : Bool) → n < length marks → mark ≡ get_or marks n mark → get_or marks n true ≡ mark
mark_at marks n mark inside is =
    let one = slice_get-get_or marks n mark inside in
    let other = slice_get-get_or marks n true inside in
    cc

-- a mark more is a number more
pub taken_more : (marks : List Bool) (number : ℕ) → number < length marks → get_or marks number true ≡ false
    → (n : ℕ) → taken (set marks number true) n ≡ (taken marks & one_at number) n
unfolding taken
taken_more marks number inside free n = elim (eqb number n) as (λ b. eqb number n ≡ b → taken (set marks number true) n ≡ taken marks n + one_at number n) [
  | true ↦ λ e.
      let same : number ≡ n = grind (arith, nat_tests) in
      let marked : get_or (set marks number true) number true ≡ true = get_or-set_same marks number true true inside in
      let here : taken (set marks number true) number ≡ taken marks number + one_at number number = rw (marked, free, one_at-same number) (omega arith) in
      ap (taken (set marks number true)) (sym same) ∙ here ∙ ap (λ k. taken marks k + one_at number k) same
  | false ↦ λ e.
      let ne : number ≡ n → ⊥ = λ s. grind (arith, nat_tests) in
      let other : get_or (set marks number true) n true ≡ get_or marks n true = get_or-set_other marks number n true true (λ s. ne (sym s)) in
      ap (λ b. cond b 1 0) other ∙ (let none : one_at number n ≡ 0 = one_at-other number n ne in omega arith)
] refl

-- and one less is left
pub unmarked_less : (marks : List Bool) (number : ℕ) → number < length marks → get_or marks number true ≡ false → unmarked (set marks number true) + 1 ≡ unmarked marks
unfolding unmarked
unmarked_less marks number inside free =
    let step = sum_by-set (λ mark. cond mark 0 1) marks number true true inside in
    let was : cond {A = ℕ} (get_or marks number true) 0 1 ≡ 1 = ap (λ b. cond {A = ℕ} b 0 1) free in
    let less : sum_by (λ mark. cond mark 0 1) (set marks number true) + 1 ≡ sum_by (λ mark. cond mark 0 1) marks = omega (arith, step, was) in less

pub unmarked_none : (count : ℕ) → unmarked (replicate count false) ≡ count
unfolding unmarked
unmarked_none count = let e = sum_by-replicate (λ mark. cond mark 0 1) count false in omega (arith, e)

none_taken : (count n : ℕ) → n < count → taken (replicate count false) n ≡ 0
unfolding taken
none_taken count n inside = ap (λ b. cond b 1 0) (get_or-replicate count n false true inside)

past_taken : (count n : ℕ) → count ≤ n → taken (replicate count false) n ≡ 1
past_taken count n past = taken_past (replicate count false) n (omega (arith, length-replicate count false))

-- where none is left all is taken
all_taken : (marks : List Bool) → unmarked marks ≡ 0 → (n : ℕ) → taken marks n ≡ 1
unfolding unmarked taken
all_taken [] none n = refl
all_taken (true ∷ marks) none zero = refl
all_taken (true ∷ marks) none (suc n) = all_taken marks (omega (arith, sum_by-cons (λ mark. cond mark 0 1) true marks)) n
all_taken (false ∷ marks) none n = absurd (omega (arith, sum_by-cons (λ mark. cond mark 0 1) false marks))

taken_all : (marks : List Bool) → ((n : ℕ) → taken marks n ≡ 1) → unmarked marks ≡ 0
unfolding unmarked taken
taken_all [] all = refl
taken_all (true ∷ marks) all = omega (arith, sum_by-cons (λ mark. cond mark 0 1) true marks, taken_all marks (λ n. all (suc n)))
taken_all (false ∷ marks) all = absurd (omega (arith, all 0))

pub each_once : (count : ℕ) (marks : List Bool) (used : ℕ → ℕ)
    → ((n : ℕ) → taken marks n ≡ (taken (replicate count false) & used) n) → unmarked marks ≡ 0
    → (n : ℕ) → (n < count → used n ≡ 1) × (count ≤ n → used n ≡ 0)
each_once count marks used is none n =
    (λ inside. omega (arith, is n, all_taken marks none n, none_taken count n inside), λ past. omega (arith, is n, all_taken marks none n, past_taken count n past))

-- once at the most
pub taken-le : (marks : List Bool) (n : ℕ) → taken marks n ≤ 1
unfolding taken
taken-le marks n = by (get_or marks n true) where
  by : (b : Bool) → cond b 1 0 ≤ 1
  by true = omega arith
  by false = omega arith

pub none_left : (count : ℕ) (marks : List Bool) (used : ℕ → ℕ)
    → ((n : ℕ) → taken marks n ≡ (taken (replicate count false) & used) n) → ((n : ℕ) → n < count → used n ≡ 1) → unmarked marks ≡ 0
none_left count marks used is each = taken_all marks (λ n. elim (cases_lt n count) [
  | inl inside ↦ omega (arith, is n, each n inside, none_taken count n inside)
  | inr past ↦ omega (arith, is n, taken-le marks n, past_taken count n past)
])
