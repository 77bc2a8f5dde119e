-- How often pages are in lists, and marks that are left.
use Rattle.std.proofs.Common.{◌≡◌, ◌⊎◌, ◌<◌, ◌+◌, ℕ, zero, suc, Bool, true, false, cond, eqb, List, [], ◌∷◌, ◌++◌, length, take, drop, get_or, refl, sym, ap, ◌∙◌, inl, inr, arith}
use Rattle.std.proofs.lemmas.Bool.{cases_lt}
use Rattle.std.proofs.lemmas.List.Sums.{sum_by-cons}
use Rattle.std.proofs.lemmas.List.{drop_more, take-append-drop}
use Rattle.rs_page_owners.specs.Counts.{one_at, times}
use Rattle.rs_page_owners.proofs.Moving.{one_at-same, one_at-other, same_number}
use Rattle.rs_page_marks.specs.Marks.{taken, unmarked}
use Rattle.rs_page_marks.proofs.Marking.{taken_past}

pub times-cons : (page : ℕ) (pages : List ℕ) (number : ℕ) → times (page ∷ pages) number ≡ one_at page number + times pages number
unfolding times one_at
times-cons page pages number = sum_by-cons (λ p. cond (eqb p number) 1 0) page pages

pub times-none : (number : ℕ) → times [] number ≡ 0
unfolding times
times-none number = refl

pub times-append : (one other : List ℕ) (number : ℕ) → times (one ++ other) number ≡ times one number + times other number
times-append [] other number = omega (arith, times-none number)
times-append (page ∷ pages) other number =
    omega (arith, times-cons page (pages ++ other) number, times-append pages other number, times-cons page pages number)

pub times-push : (pages : List ℕ) (page number : ℕ) → times (pages ++ page ∷ []) number ≡ one_at page number + times pages number
times-push pages page number = omega (arith, times-append pages (page ∷ []) number, times-cons page [] number, times-none number)

pub one_at-off : (page number : ℕ) → (number ≡ page → ⊥) → one_at page number ≡ 0
one_at-off page number ne = one_at-other page number ne

-- none or some
pub none_or_some : (n : ℕ) → (n ≡ 0) ⊎ (0 < n)
none_or_some zero = inl refl
none_or_some (suc n) = inr (omega arith)

-- a page of the list, and those before and after it
pub times-at : (pages : List ℕ) (i number : ℕ) → i < length pages
    → times pages number ≡ times (take i pages) number + (one_at (get_or pages i 0) number + times (drop (i + 1) pages) number)
times-at pages i number inside =
    ap (λ ps. times ps number) (sym (take-append-drop i pages)) ∙ times-append (take i pages) (drop i pages) number
    ∙ ap (λ ps. times (take i pages) number + times ps number) (drop_more pages i 0 inside)
    ∙ ap (λ k. times (take i pages) number + k) (times-cons (get_or pages i 0) (drop (i + 1) pages) number)

pub times-there : (pages : List ℕ) (i : ℕ) → i < length pages → 0 < times pages (get_or pages i 0)
times-there pages i inside = omega (arith, times-at pages i (get_or pages i 0) inside, one_at-same (get_or pages i 0))

-- one mark less is left after one more was made
mark_same : (a b : Bool) → cond {A = ℕ} b 1 0 ≡ cond {A = ℕ} a 1 0 → cond {A = ℕ} b 0 1 ≡ cond {A = ℕ} a 0 1
mark_same true true e = refl
mark_same true false e = absurd (omega arith)
mark_same false true e = absurd (omega arith)
mark_same false false e = refl

mark_more : (a b : Bool) → cond {A = ℕ} b 1 0 ≡ cond {A = ℕ} a 1 0 + 1 → cond {A = ℕ} b 0 1 + 1 ≡ cond {A = ℕ} a 0 1
mark_more true true e = absurd (omega arith)
mark_more true false e = absurd (omega arith)
mark_more false true e = refl
mark_more false false e = absurd (omega arith)

same_left : (old new : List Bool) → length new ≡ length old → ((n : ℕ) → taken new n ≡ taken old n) → unmarked new ≡ unmarked old
unfolding taken unmarked
same_left [] [] size same = refl
same_left [] (b ∷ bs) size same = absurd (omega arith)
same_left (a ∷ as_before) [] size same = absurd (omega arith)
same_left (a ∷ as_before) (b ∷ bs) size same =
    omega (arith, sum_by-cons (λ mark. cond mark 0 1) a as_before, sum_by-cons (λ mark. cond mark 0 1) b bs, mark_same a b (same 0), same_left as_before bs (omega arith) (λ n. same (suc n)))

one_at_next : (k n : ℕ) → one_at (suc k) (suc n) ≡ one_at k n
one_at_next k n = elim (same_number n k) [
  | inl is ↦ ap (λ m. one_at (suc k) (suc m)) is ∙ one_at-same (suc k) ∙ sym (one_at-same k) ∙ ap (one_at k) (sym is)
  | inr isnt ↦ one_at-other (suc k) (suc n) (λ e. isnt (omega arith)) ∙ sym (one_at-other k n isnt)
]

less_left : (old new : List Bool) (number : ℕ) → length new ≡ length old → number < length old → ((n : ℕ) → taken new n ≡ taken old n + one_at number n) → unmarked new + 1 ≡ unmarked old
unfolding taken unmarked
less_left [] new number size inside more = absurd (omega arith)
less_left (a ∷ as_before) [] number size inside more = absurd (omega arith)
less_left (a ∷ as_before) (b ∷ bs) zero size inside more =
    omega (
      arith,
      sum_by-cons (λ mark. cond mark 0 1) a as_before,
      sum_by-cons (λ mark. cond mark 0 1) b bs,
      mark_more a b (more 0 ∙ ap (λ k. cond {A = ℕ} a 1 0 + k) (one_at-same 0)),
      same_left as_before bs (omega arith) (λ n. more (suc n) ∙ omega (arith, one_at-other 0 (suc n) (λ e. omega arith))),
    )
less_left (a ∷ as_before) (b ∷ bs) (suc k) size inside more =
    omega (
      arith,
      sum_by-cons (λ mark. cond mark 0 1) a as_before,
      sum_by-cons (λ mark. cond mark 0 1) b bs,
      mark_same a b (more 0 ∙ omega (arith, one_at-other (suc k) 0 (λ e. omega arith))),
      less_left as_before bs k (omega arith) (omega arith) (λ n. more (suc n) ∙ omega (arith, one_at_next k n)),
    )

pub fewer_left : (old new : List Bool) (number : ℕ) → length new ≡ length old → taken old number ≡ 0 → ((n : ℕ) → taken new n ≡ taken old n + one_at number n) → unmarked new < unmarked old
fewer_left old new number size free more = elim (cases_lt number (length old)) [
  | inl inside ↦ omega (arith, less_left old new number size inside more)
  | inr past ↦ absurd (omega (arith, taken_past old number past, free))
]
