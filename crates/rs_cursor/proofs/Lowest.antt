-- The lowest of the numbers that the elements of a list have, one element after another.
use Rattle.std.proofs.Common.{◌≡◌, ◌≤◌, ◌⊎◌, ℕ, List, [], ◌∷◌, min, inl, inr, refl, sym, subst, arith}
use Rattle.rs_cursor.specs.Oldest.{IsLowest}

-- an element of the list has the number
abbrev pub HasIn : {A : Type 0} → (A → ℕ → Type 0) → List A → ℕ → Type 0
HasIn has [] n = ⊥
HasIn has (x ∷ xs) n = has x n ⊎ HasIn has xs n

pub lowest_none : (Has : ℕ → Type 0) (most : ℕ) → ((n : ℕ) → Has n → ⊥) → IsLowest Has most most
lowest_none Has most none = record { within = omega arith; below = λ n has. absurd (none n has); greatest = λ bound within each. within }

pub lowest_one : (most n : ℕ) → IsLowest (λ m. n ≡ m) most (min most n)
lowest_one most n = record {
  within = omega arith;
  below = λ m is. subst (λ m. min most n ≤ m) is (omega arith);
  greatest = λ bound within each. let bounded : bound ≤ n = each n refl in omega arith;
}

pub lowest_same : (Has Other : ℕ → Type 0) (most lowest : ℕ) → ((n : ℕ) → Has n → Other n) → ((n : ℕ) → Other n → Has n) → IsLowest Has most lowest → IsLowest Other most lowest
lowest_same Has Other most lowest to from is = record {
  within = is.within;
  below = λ n other. is.below n (from n other);
  greatest = λ bound within each. is.greatest bound within (λ n has. each n (to n has));
}

lowest_then : (Has Other : ℕ → Type 0) (most middle lowest : ℕ) → IsLowest Has most middle → IsLowest Other middle lowest → IsLowest (λ n. Has n ⊎ Other n) most lowest
lowest_then Has Other most middle lowest first then = record {
  within = let a : middle ≤ most = first.within in let b : lowest ≤ middle = then.within in omega arith;
  below = λ n either. let b : lowest ≤ middle = then.within in elim either [
    | inl has ↦ let a : middle ≤ n = first.below n has in omega arith
    | inr other ↦ then.below n other
  ];
  greatest = λ bound within each. then.greatest bound (first.greatest bound within (λ n has. each n (inl has))) (λ n other. each n (inr other));
}

module _ {A : Type 0} (Has : A → ℕ → Type 0) where
  -- The lowest so far is that of the elements before the rest: what is the lowest of the rest below it is that of all.
  pub record GoesOn (all rest : List A) (most lowest : ℕ) : Type 0 where
    pub ends : (least : ℕ) → IsLowest (HasIn Has rest) lowest least → IsLowest (HasIn Has all) most least

  pub goes_over : (all before rest : List A) (x : A) (most lowest next : ℕ) → before ≡ x ∷ rest → GoesOn all before most lowest → IsLowest (Has x) lowest next → GoesOn all rest most next
  goes_over all before rest x most lowest next step goes one = record {
    ends = λ least is. goes.ends least (subst (λ xs. IsLowest (HasIn Has xs) lowest least) (sym step) (lowest_then (Has x) (HasIn Has rest) lowest next least one is));
  }

  pub goes_to_end : (all rest : List A) (most lowest : ℕ) → rest ≡ [] → GoesOn all rest most lowest → IsLowest (HasIn Has all) most lowest
  goes_to_end all rest most lowest end goes = goes.ends lowest (subst (λ xs. IsLowest (HasIn Has xs) lowest lowest) (sym end) (lowest_none (HasIn Has []) lowest (λ n has. has)))
