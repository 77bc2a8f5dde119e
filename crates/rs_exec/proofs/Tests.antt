-- Numbers that are compared, and lists of tests.
use Rattle.std.proofs.Common.{◌≡◌, ◌≢◌, ℕ, ◌==◌, Bool, true, false, List, [], ◌∷◌, arith}
use Rattle.std.proofs.lemmas.Bool.Decides.{nat_tests}
use Rattle.std.proofs.lemmas.Bool.{and_parts}
use Rattle.std.specs.List.{AllByRecursion, list_all}

pub same-number : (a b : ℕ) → a ≡ b → (a == b) ≡ true
same-number a b e = grind (arith, nat_tests)

pub other-number : (a b : ℕ) → a ≢ b → (a == b) ≡ false
other-number a b e = grind (arith, nat_tests)

pub is-number : (a b : ℕ) → (a == b) ≡ true → a ≡ b
is-number a b e = grind (arith, nat_tests)

pub no-number : (a b : ℕ) → (a == b) ≡ false → a ≢ b
no-number a b e = grind (arith, nat_tests)

-- each passes where all do
pub every-of : {X : Type 0} (test : X → Bool) (xs : List X) → list_all test xs ≡ true → AllByRecursion (λ x. test x ≡ true) xs
every-of test [] e = tt
every-of test (x ∷ xs) e = let parts = and_parts (test x) (list_all test xs) e in (parts.0, every-of test xs parts.1)
