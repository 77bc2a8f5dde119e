-- Numbers in a page stay where its bytes do.
use Rattle.std.proofs.Common.{◌≡◌, ℕ, zero, suc, ◌+◌, ◌<◌, ◌≤◌, ◌-◌, List, length, take, drop, sym, ◌∙◌, slice_index, replicate, true, false, ltb, refl, arith, rules, tests}
use Rattle.std.proofs.lemmas.List.{get_or-replicate, get_or_past, length-replicate}
use Rattle.std.proofs.lemmas.Bool.Decides.{nat_tests}
use Rattle.std.proofs.lemmas.Grind.{common_steps}
use Rattle.byteorder.specs.Endian.{big_from}
use Rattle.rs_page.specs.Number.{number_at}

big_from-same : (n at : ℕ) (old new : List ℕ)
    → ((i : ℕ) → at ≤ i → i < at + n → slice_index new i ≡ slice_index old i) → big_from at n new ≡ big_from at n old
big_from-same zero at old new h = refl
big_from-same (suc n) at old new h =
    let first : slice_index new at ≡ slice_index old at = h at (omega arith) (omega arith) in
    let rest : big_from (suc at) n new ≡ big_from (suc at) n old = big_from-same n (suc at) old new (λ i lo hi. h i (omega arith) (omega arith)) in
    cc

pub number_at-same : (at n : ℕ) (old new : List ℕ)
    → ((i : ℕ) → at ≤ i → i < at + n → slice_index new i ≡ slice_index old i) → number_at at n new ≡ number_at at n old
unfolding number_at
number_at-same at n old new h = big_from-same n at old new h

-- one byte
pub byte_at : (at : ℕ) (page : List ℕ) → number_at at 1 page ≡ slice_index page at
unfolding number_at
byte_at at page = omega arith

zero_in : (i m : ℕ) → slice_index (replicate m 0) i ≡ 0
zero_in i m = elim (ltb i m) as (λ b. ltb i m ≡ b → slice_index (replicate m 0) i ≡ 0) [ true ↦ λ e. get_or-replicate m i 0 0 (search (rules, tests)) | false ↦ λ e. grind (arith, nat_tests, get_or_past, length-replicate) ] refl

big_from-zeros : (n at m : ℕ) → big_from at n (replicate m 0) ≡ 0
big_from-zeros zero at m = refl
big_from-zeros (suc n) at m =
    let first : slice_index (replicate m 0) at ≡ 0 = zero_in at m in
    let rest : big_from (suc at) n (replicate m 0) ≡ 0 = big_from-zeros n (suc at) m in
    rw (first, rest) (omega arith)

-- in a page of zeros each number is 0
pub number_at-zeros : (at n m : ℕ) → number_at at n (replicate m 0) ≡ 0
unfolding number_at
number_at-zeros at n m = big_from-zeros n at m

-- after a place there are zeros if the part of the page from there on has zeros alone
pub zeros_after : (page : List ℕ) (m : ℕ)
    → ((i : ℕ) → i < length (take (length page - m) (drop m page)) → slice_index (take (length page - m) (drop m page)) i ≡ 0)
    → (k : ℕ) → m ≤ k → number_at k 1 page ≡ 0
zeros_after page m h k past = byte_at k page ∙ elim (ltb k (length page)) as (λ b. ltb k (length page) ≡ b → slice_index page k ≡ 0) [
  | true ↦ λ e. let at : slice_index (take (length page - m) (drop m page)) (k - m) ≡ 0 = h (k - m) (grind (arith, nat_tests, common_steps)) in grind (arith, nat_tests, common_steps)
  | false ↦ λ e. grind (arith, nat_tests, get_or_past)
] refl

-- and the other way
pub zeros_inside : (page : List ℕ) (m : ℕ) → ((k : ℕ) → m ≤ k → number_at k 1 page ≡ 0)
    → (i : ℕ) → i < length (take (length page - m) (drop m page)) → slice_index (take (length page - m) (drop m page)) i ≡ 0
zeros_inside page m h i lt = let at : slice_index page (m + i) ≡ 0 = sym (byte_at (m + i) page) ∙ h (m + i) (omega arith) in grind (arith, common_steps)
