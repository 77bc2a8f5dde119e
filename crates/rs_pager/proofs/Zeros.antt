-- The zeros after the fields of page 0, on both sides of the gate and the journal's fields.
use Rattle.std.proofs.Common.{◌≡◌, inl, inr, ℕ, ◌<◌, ◌≤◌, List, length, take, sym, ◌∙◌, arith}
use Rattle.std.proofs.lemmas.Bool.{cases_lt}
use Rattle.std.proofs.lemmas.List.{get_or_past, get_or-take, length-take-le}
use Rattle.rs_page.specs.Number.{number_at}
use Rattle.rs_page.proofs.Numbers.{byte_at}
use Rattle.rs_pager.specs.SecondHeader.{EndsInOwnZeros}

pub front_size : (page : List ℕ) → length page ≡ 4096 → 64 ≡ length (take 64 page)
front_size page size = sym (length-take-le 64 page (omega (arith, size)))

front_byte : (page : List ℕ) (k : ℕ) → k < 64 → number_at k 1 (take 64 page) ≡ number_at k 1 page
front_byte page k lt = byte_at k (take 64 page) ∙ get_or-take 64 page k 0 lt ∙ sym (byte_at k page)

pub zeros_of : (page : List ℕ) → ((k : ℕ) → 52 ≤ k → number_at k 1 (take 64 page) ≡ 0) → ((k : ℕ) → 76 ≤ k → number_at k 1 page ≡ 0) → EndsInOwnZeros page
zeros_of page front back = record {
  each = λ k past own. elim own [
    | inl before ↦ sym (front_byte page k before) ∙ front k past
    | inr after ↦ back k after
  ];
}

pub front_zeros : (page : List ℕ) → length page ≡ 4096 → EndsInOwnZeros page → (k : ℕ) → 52 ≤ k → number_at k 1 (take 64 page) ≡ 0
front_zeros page size zeros k past = elim (cases_lt k 64) [
  | inl before ↦ front_byte page k before ∙ zeros.each k past (inl before)
  | inr after ↦ let long = front_size page size in byte_at k (take 64 page) ∙ get_or_past (take 64 page) k 0 (omega (arith, long))
]

pub back_zeros : (page : List ℕ) → EndsInOwnZeros page → (k : ℕ) → 76 ≤ k → number_at k 1 page ≡ 0
back_zeros page zeros k past = zeros.each k (omega arith) (inr past)
