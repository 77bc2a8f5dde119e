-- Home pages on a disk.
use Rattle.std.proofs.lemmas.Bool.{cases_lt}
use Rattle.std.proofs.lemmas.Grind.{common_steps}
use Rattle.std.proofs.Common.{◌≡◌, inl, inr, ℕ, ◌+◌, ◌-◌, ◌*◌, ◌<◌, ◌≤◌, List, length, take, drop, slice_index, arith, sym, ap, ◌∙◌, subst}
use Rattle.rs_disk.specs.Content.{Content, Holds}
use Rattle.rs_page.specs.declared.page.TheConstants.{PAGE_SIZE}
use Rattle.rs_journal.specs.FilePages.{IsOfPages}
use Rattle.rs_journal.specs.Stages.{IsNotInPage, IsLeftAlone, HasHomeBytes, HasHomePage, HasHome}
use Rattle.rs_disk.specs.Reaches.{IsOutside, KeepsWhere}

-- a page that was written whole
pub page-written : (number spot : ℕ) (page : List ℕ) (content : Content) → spot ≡ number → length page ≡ PAGE_SIZE
    → Holds content (PAGE_SIZE * spot) page → HasHomePage number page content
page-written number spot page content same long holds = record {
  each = λ j lt _. let at : PAGE_SIZE * number + j ≡ PAGE_SIZE * spot + j = omega (arith, same) in
      ap content.byte at ∙ holds.each j (omega (arith, long));
  inside = let reach : PAGE_SIZE * spot + length page ≤ content.size = holds.reaches (omega (arith, long)) in omega (arith, long, same);
}

front-long : (n : ℕ) (page : List ℕ) → n ≤ length page → length (take n page) ≡ n
front-long n page inside = grind (arith, common_steps)

back-long : (n m : ℕ) (page : List ℕ) → n + m ≤ length page → length (take m (drop n page)) ≡ m
back-long n m page inside = grind (arith, common_steps)

front-at : (n j : ℕ) (page : List ℕ) → n ≤ length page → j < n → slice_index (take n page) j ≡ slice_index page j
front-at n j page inside lt = grind (arith, common_steps)

back-at : (n m j : ℕ) (page : List ℕ) → n + m ≤ length page → n ≤ j → j < n + m → slice_index (take m (drop n page)) (j - n) ≡ slice_index page j
back-at n m j page inside lo hi = grind (arith, common_steps)

-- page 0 that was written in two parts
pub first-written : (page : List ℕ) (a b : Content) → length page ≡ PAGE_SIZE
    → Holds a 0 (take 64 page) → KeepsWhere (IsOutside 76 (76 + length (take 4020 (drop 76 page)))) a b
    → Holds b 76 (take 4020 (drop 76 page)) → HasHomePage 0 page b
first-written page a b long front keeps back =
    let front_long : length (take 64 page) ≡ 64 = front-long 64 page (omega (arith, long)) in
    let back_long : length (take 4020 (drop 76 page)) ≡ 4020 = back-long 76 4020 page (omega (arith, long)) in
    let front_in : 64 ≤ a.size = let reach : 0 + length (take 64 page) ≤ a.size = front.reaches (omega (arith, front_long)) in omega (arith, front_long) in
    let back_in : 76 + 4020 ≤ b.size = let reach : 76 + length (take 4020 (drop 76 page)) ≤ b.size = back.reaches (omega (arith, back_long)) in omega (arith, back_long) in
    record {
      each = λ j lt own. elim own [
        | inl before ↦
            let low : j < 64 = omega arith in
            let zero_on : 4096 * 0 + j ≡ j = omega arith in
            let first : a.byte j ≡ slice_index (take 64 page) j = ap a.byte (omega arith) ∙ front.each j (omega (arith, front_long)) in
            let same : slice_index (take 64 page) j ≡ slice_index page j = front-at 64 j page (omega (arith, long)) low in
            ap b.byte zero_on ∙ keeps.bytes j (omega arith) (inl (omega arith)) ∙ first ∙ same
        | inr after ↦
            let high : 76 ≤ j = omega arith in
            let zero_on : 4096 * 0 + j ≡ 76 + (j - 76) = omega arith in
            let second : b.byte (76 + (j - 76)) ≡ slice_index (take 4020 (drop 76 page)) (j - 76) = back.each (j - 76) (omega (arith, back_long)) in
            let same : slice_index (take 4020 (drop 76 page)) (j - 76) ≡ slice_index page j = back-at 76 4020 j page (omega (arith, long)) high (omega (arith, long)) in
            ap b.byte zero_on ∙ second ∙ same
      ];
      inside = omega arith;
    }

pub no-home : (number : ℕ → ℕ) (copy : ℕ → ℕ → ℕ) (content : Content) → HasHome 0 number copy content
no-home number copy content = record { each = λ k j lt _ _. absurd (omega arith); inside = λ k lt. absurd (omega arith) }

-- one home page more
pub home-more : (n m : ℕ) (number : ℕ → ℕ) (copy : ℕ → ℕ → ℕ) (byte : ℕ → ℕ) (a b : Content) → m ≡ number n
    → ((k : ℕ) → k < n → number k < number n)
    → KeepsWhere (IsNotInPage m) a b → HasHomeBytes m byte b
    → ((j : ℕ) → j < PAGE_SIZE → byte j ≡ copy n j)
    → HasHome n number copy a → HasHome (n + 1) number copy b
home-more n m number copy byte a b at less keeps has is before =
    let longer : a.size ≤ b.size = keeps.no_shorter in
    record {
      each = λ k j lt within own. elim (cases_lt k n) [
        | inl earlier ↦
            let lower : number k < number n = less k earlier in
            let inside : PAGE_SIZE * number k + PAGE_SIZE ≤ a.size = before.inside k earlier in
            keeps.bytes (PAGE_SIZE * number k + j) (omega arith) (inl (inl (omega (arith, at)))) ∙ before.each k j earlier within own
        | inr later ↦
            let same : k ≡ n = omega arith in
            let here : number k ≡ m = ap number same ∙ sym at in
            let spot : PAGE_SIZE * number k + j ≡ PAGE_SIZE * m + j = ap (λ x. PAGE_SIZE * x + j) here in
            ap b.byte spot ∙ has.each j within (subst IsOfPages spot own) ∙ is j within ∙ ap (λ x. copy x j) (sym same)
      ];
      inside = λ k lt. elim (cases_lt k n) [
        | inl earlier ↦ let inside : PAGE_SIZE * number k + PAGE_SIZE ≤ a.size = before.inside k earlier in omega arith
        | inr later ↦
            let same : k ≡ n = omega arith in
            let here : number k ≡ m = ap number same ∙ sym at in
            let inside : PAGE_SIZE * m + PAGE_SIZE ≤ b.size = has.inside in
            omega (arith, here)
      ];
    }

-- how long the two parts of page 0 are
pub parts-long : (page : List ℕ) → length page ≡ PAGE_SIZE
    → (length (take 64 page) ≡ 64) × (length (take 4020 (drop 76 page)) ≡ 4020)
parts-long page long = (front-long 64 page (omega (arith, long)), back-long 76 4020 page (omega (arith, long)))

-- what all pages leave alone, one of them does
pub one-leaves : (count k m : ℕ) (number : ℕ → ℕ) (i : ℕ) → k < count → m ≡ number k → IsLeftAlone count number i → IsNotInPage m i
one-leaves count k m number i lt at is = elim is [
  | inl apart ↦ inl (subst (λ x. IsOutside (PAGE_SIZE * x) (PAGE_SIZE * x + PAGE_SIZE) i) (sym at) (apart k lt))
  | inr masked ↦ inr masked
]

pub first-leaves-front : (n i : ℕ) → n ≡ 64 → IsNotInPage 0 i → IsOutside 0 (0 + n) i
first-leaves-front n i long is = elim is [
  | inl outside ↦ elim outside [ inl before ↦ absurd (omega arith) | inr after ↦ inr (omega (arith, long)) ]
  | inr masked ↦ let low : 64 ≤ i = masked.0 in inr (omega (arith, long))
]

pub first-leaves-back : (n i : ℕ) → n ≡ 4020 → IsNotInPage 0 i → IsOutside 76 (76 + n) i
first-leaves-back n i long is = elim is [
  | inl outside ↦ elim outside [ inl before ↦ absurd (omega arith) | inr after ↦ inr (omega (arith, long)) ]
  | inr masked ↦ let low : i < 76 = masked.1 in inl (omega arith)
]

pub page-leaves : (number spot i : ℕ) → spot ≡ number → IsNotInPage number i → 0 < number
    → IsOutside (PAGE_SIZE * spot) (PAGE_SIZE * spot + PAGE_SIZE) i
page-leaves number spot i same is pos = elim is [
  | inl outside ↦ subst (λ x. IsOutside (PAGE_SIZE * x) (PAGE_SIZE * x + PAGE_SIZE) i) (sym same) outside
  | inr masked ↦ let low : i < 76 = masked.1 in inl (omega (arith, same))
]
