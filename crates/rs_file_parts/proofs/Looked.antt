-- What is known of the tables that were looked at, a run of them after the other.
use Rattle.std.proofs.Common.{◌≡◌, ◌<◌, ◌≤◌, ◌+◌, ◌||◌, ℕ, zero, suc, Bool, true, false, Some, List, [], ◌∷◌, drop, length, slice_get, take, refl, sym, subst, inl, inr, ◌⊎◌, arith}
use Rattle.std.proofs.lemmas.Bool.{cases_lt}
use Rattle.std.specs.List.{AllByRecursion}
use Rattle.rs_file.specs.declared.opened.OpenedTable.{OpenedTable}
use Rattle.rs_file_parts.specs.Inner.{HaveChangedWithin}
use Rattle.rs_file_parts.specs.Parts.{IsTableCommitted}

-- ---- lists

-- what holds of each of the first ones and of so many after them
pub all_more : {X : Type 0} (P : X → Type 0) (xs : List X) (at more : ℕ) → AllByRecursion P (take at xs) → AllByRecursion P (take more (drop at xs)) → AllByRecursion P (take (at + more) xs)
all_more P xs zero more one other = let all : more ≡ 0 + more = omega arith in subst (λ n. AllByRecursion P (take n xs)) all other
all_more P [] (suc at) more one other = let all : suc (at + more) ≡ suc at + more = omega arith in subst (λ n. AllByRecursion P (take n [])) all tt
all_more P (x ∷ xs) (suc at) more one other =
    let all : suc (at + more) ≡ suc at + more = omega arith in subst (λ n. AllByRecursion P (take n (x ∷ xs))) all (one.0, all_more P xs at more one.1 other)

first_of : {X : Type 0} (P : X → Type 0) (xs : List X) (many place : ℕ) (x : X) → AllByRecursion P (take many xs) → place < many → slice_get xs place ≡ Some x → P x
first_of P [] many place x all low there = absurd (cc)
first_of P (y ∷ ys) zero place x all low there = absurd (omega arith)
first_of P (y ∷ ys) (suc many) zero x all low there = let same : y ≡ x = cc in subst P same all.0
first_of P (y ∷ ys) (suc many) (suc place) x all low there = first_of P ys many place x all.1 (omega arith) there

-- one of these
one_of : {X : Type 0} (P : X → Type 0) (xs : List X) (at many place : ℕ) (x : X) → AllByRecursion P (take many (drop at xs)) → at ≤ place → place < at + many → slice_get xs place ≡ Some x → P x
one_of P [] at many place x all low high there = absurd (cc)
one_of P (y ∷ ys) zero many place x all low high there = first_of P (y ∷ ys) many place x all (omega arith) there
one_of P (y ∷ ys) (suc at) many zero x all low high there = absurd (omega arith)
one_of P (y ∷ ys) (suc at) many (suc place) x all low high there = one_of P ys at many place x all (omega arith) (omega arith) there

-- one more
all_next : {X : Type 0} (P : X → Type 0) (xs : List X) (at : ℕ) (x : X) → slice_get xs at ≡ Some x → AllByRecursion P (take at xs) → P x → AllByRecursion P (take (suc at) xs)
all_next P [] at x there all one = absurd (cc)
all_next P (y ∷ ys) zero x there all one = let same : y ≡ x = cc in (subst P (sym same) one, tt)
all_next P (y ∷ ys) (suc at) x there all one = (all.0, all_next P ys at x there all.1 one)

pub all_one_more : {X : Type 0} (P : X → Type 0) (xs : List X) (at : ℕ) (x : X) → slice_get xs at ≡ Some x → AllByRecursion P (take at xs) → P x → AllByRecursion P (take (at + 1) xs)
all_one_more P xs at x there all one = let next : suc at ≡ at + 1 = omega arith in subst (λ n. AllByRecursion P (take n xs)) next (all_next P xs at x there all one)

-- of an empty list anything holds
pub all_of_none : {X : Type 0} (P : X → Type 0) (xs : List X) → length xs ≡ 0 → AllByRecursion P xs
all_of_none P [] none = tt
all_of_none P (x ∷ xs) none = absurd (omega arith)

-- neither of two marks is set
pub neither : (one other : Bool) → (one || other) ≡ false → (one ≡ false) × (other ≡ false)
neither true other unset = absurd (cc)
neither false other unset = (refl, unset)

-- ---- tables

-- so many more have not changed
pub changed_not : (from to at many : ℕ) (tables : List OpenedTable) → HaveChangedWithin from to at tables → AllByRecursion IsTableCommitted (take many (drop at tables)) → HaveChangedWithin from to (at + many) tables
changed_not from to at many tables changed all = record {
  order = changed.order;
  within = omega (arith, changed.within);
  before = changed.before;
  after = λ place table low high there. elim (cases_lt place at) [
    | inl less ↦ changed.after place table low less there
    | inr past ↦ one_of IsTableCommitted tables at many place table all past high there
  ];
}

-- one more has not changed
pub changed_not_one : (from to at : ℕ) (tables : List OpenedTable) (one : OpenedTable) → slice_get tables at ≡ Some one → HaveChangedWithin from to at tables → IsTableCommitted one → HaveChangedWithin from to (at + 1) tables
changed_not_one from to at tables one here changed stands = record {
  order = changed.order;
  within = omega (arith, changed.within);
  before = changed.before;
  after = λ place table low high there. elim (cases_lt place at) [
    | inl less ↦ changed.after place table low less there
    | inr past ↦ same_place place table (omega arith) there
  ];
} where
  same_place : (place : ℕ) (table : OpenedTable) → place ≡ at → slice_get tables place ≡ Some table → IsTableCommitted table
  same_place place table same there =
      let at_place : slice_get tables at ≡ Some table = subst (λ n. slice_get tables n ≡ Some table) same there in
      let equal : one ≡ table = cc in
      subst IsTableCommitted equal stands

-- one more may have changed
pub changed_one : (from to at first : ℕ) (tables : List OpenedTable) → HaveChangedWithin from to at tables → ((from ≡ to) × (first ≡ at)) ⊎ (first ≡ from) → HaveChangedWithin first (at + 1) (at + 1) tables
changed_one from to at first tables changed (inl none) = record {
  order = omega (arith, none.1);
  within = omega arith;
  before = λ place table low there. elim (cases_lt place from) [
    | inl less ↦ changed.before place table less there
    | inr past ↦ changed.after place table (omega (arith, none.0)) (omega (arith, none.1)) there
  ];
  after = λ place table low high there. absurd (omega arith);
}
changed_one from to at first tables changed (inr some) = record {
  order = omega (arith, changed.order, changed.within);
  within = omega arith;
  before = λ place table low there. changed.before place table (omega arith) there;
  after = λ place table low high there. absurd (omega arith);
}
