-- Counts of answers, with one answer more.
use Rattle.std.proofs.Common.{◌≡◌, ◌∙◌, ◌++◌, ◌+◌, ◌<◌, ◌==◌, ℕ, Bool, true, false, List, [], ◌∷◌, length, cond, get_or, set, replicate, Ok, Err, refl, sym, ap, subst, arith}
use Rattle.std.proofs.lemmas.Bool.Decides.{nat_tests}
use Rattle.std.proofs.lemmas.Bool.{eqb-false, eqb-true}
use Rattle.std.proofs.lemmas.List.{get_or-replicate, get_or-set_other, get_or-set_same, length-append, length-replicate, length-set}
use Rattle.std.proofs.lemmas.List.Sums.{sum_by-append, sum_by-cons}
use Rattle.std.specs.List.{count_by}
use Rattle.rs_csv_answers.specs.Counting.{AreCountsOf, CountsOne, counted, is_refused, is_refused_with, numbers_on, refused_on}
use Rattle.rs_csv_answers.specs.Turns.{Text}
use Rattle.rs_csv_answers.specs.declared.lines.Answered.{Answered}
use Rattle.rs_refusal.specs.Counts.{counted_on}
use Rattle.rs_refusal.specs.Refusal.{number_of}
use Rattle.rs_refusal.specs.declared.refusal.Refusal.{Refusal}

-- no answer
pub counts_none : (answered : Answered) → answered.lines ≡ 0 → answered.refused ≡ 0 → answered.counts.by_number ≡ replicate 256 0 → AreCountsOf [] answered
counts_none answered lines refused counts = record {
  lines = lines;
  refused = refused;
  room = ap length counts ∙ length-replicate {A = ℕ} 256 0;
  numbers = λ number within. ap (λ l. get_or l number 0) counts ∙ get_or-replicate {A = ℕ} 256 number 0 0 within;
}

-- one more, up to the last number
counted_more : (many : ℕ) → counted_on (counted many) ≡ counted (many + 1)
unfolding counted_on
counted_more many = grind (arith, nat_tests)

-- one at the end of a list
count_last : (p : Text → Bool) (answers : List Text) (answer : Text) → count_by p (answers ++ answer ∷ []) ≡ count_by p answers + cond (p answer) 1 0
count_last p answers answer = sum_by-append (λ it. cond (p it) 1 0) answers (answer ∷ []) ∙ ap (λ n. count_by p answers + n) (sum_by-cons (λ it. cond (p it) 1 0) answer [] ∙ omega arith)

module _ (p : Text → Bool) (answers : List Text) (answer : Text) where
  -- it is counted
  more_if : (old : ℕ) → old ≡ counted (count_by p answers) → p answer ≡ true → counted_on old ≡ counted (count_by p (answers ++ answer ∷ []))
  more_if old was is = ap counted_on was ∙ counted_more (count_by p answers) ∙ ap counted (sym (count_last p answers answer ∙ ap (λ b. count_by p answers + cond b 1 0) is))

  -- it is not
  same_if : (old : ℕ) → old ≡ counted (count_by p answers) → p answer ≡ false → old ≡ counted (count_by p (answers ++ answer ∷ []))
  same_if old was is = was ∙ ap counted (sym (count_last p answers answer ∙ ap (λ b. count_by p answers + cond b 1 0) is ∙ omega arith))

refused_more : (answers : List Text) (answer : Text) (old : ℕ) → old ≡ counted (count_by is_refused answers) → refused_on answer old ≡ counted (count_by is_refused (answers ++ answer ∷ []))
refused_more answers (Ok text) old was = same_if is_refused answers (Ok text) old was refl
refused_more answers (Err why) old was = more_if is_refused answers (Err why) old was refl

room_more : (answer : Text) (old : List ℕ) → length (numbers_on answer old) ≡ length old
room_more (Ok text) old = refl
room_more (Err why) old = length-set old (number_of why) (counted_on (get_or old (number_of why) 0))

-- with a refusal of this number or of another
at_number : (answers : List Text) (why : Refusal) (old : List ℕ) (number : ℕ) (same : Bool) → number < length old → get_or old number 0 ≡ counted (count_by (is_refused_with number) answers)
    → (number_of why == number) ≡ same → get_or (set old (number_of why) (counted_on (get_or old (number_of why) 0))) number 0 ≡ counted (count_by (is_refused_with number) (answers ++ Err why ∷ []))
at_number answers why old number true within was same =
    let is = eqb-true (number_of why) number same in
    subst (λ n. get_or (set old n (counted_on (get_or old n 0))) number 0 ≡ counted (count_by (is_refused_with number) (answers ++ Err why ∷ []))) (sym is)
    (get_or-set_same old number (counted_on (get_or old number 0)) 0 within ∙ more_if (is_refused_with number) answers (Err why) (get_or old number 0) was same)
at_number answers why old number false within was same =
    get_or-set_other old (number_of why) number (counted_on (get_or old (number_of why) 0)) 0 (λ is. eqb-false (number_of why) number same (sym is))
    ∙ same_if (is_refused_with number) answers (Err why) (get_or old number 0) was same

numbers_more : (answers : List Text) (answer : Text) (old : List ℕ) (number : ℕ) → number < length old → get_or old number 0 ≡ counted (count_by (is_refused_with number) answers)
    → get_or (numbers_on answer old) number 0 ≡ counted (count_by (is_refused_with number) (answers ++ answer ∷ []))
numbers_more answers (Ok text) old number within was = same_if (is_refused_with number) answers (Ok text) (get_or old number 0) was refl
numbers_more answers (Err why) old number within was = at_number answers why old number (number_of why == number) within was refl

-- with one answer more
pub counts_more : (answers : List Text) (answer : Text) (old new : Answered) → AreCountsOf answers old → CountsOne answer old new → AreCountsOf (answers ++ answer ∷ []) new
counts_more answers answer old new counts one = record {
  lines = one.lines ∙ ap counted_on counts.lines ∙ counted_more (length answers) ∙ ap counted (sym (length-append answers (answer ∷ [])));
  refused = one.refused ∙ refused_more answers answer old.refused counts.refused;
  room = ap length one.numbers ∙ room_more answer old.counts.by_number ∙ counts.room;
  numbers = λ number within.
      ap (λ l. get_or l number 0) one.numbers
      ∙ numbers_more answers answer old.counts.by_number number (subst (λ n. number < n) (sym counts.room) within) (counts.numbers number within);
}
