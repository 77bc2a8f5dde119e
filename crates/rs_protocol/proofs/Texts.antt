-- Lines as text: the CR at the end, UTF-8, control characters.
use Rattle.std.proofs.Common.{◌≡◌, ℕ, true, false, ◌==◌, List, [], ◌∷◌, ◌++◌, if◌then◌else◌, refl, ap, ◌∙◌, arith, eq-eqb}
use Rattle.std.proofs.lemmas.Bool.Decides.{nat_tests}
use Rattle.rs_machine.specs.Request.{without_return, CARRIAGE_RETURN}

-- the last byte goes where it is a CR
pub without_return-last : (front : List ℕ) (last : ℕ) → without_return (front ++ last ∷ []) ≡ (if last == CARRIAGE_RETURN then front else front ++ last ∷ [])
without_return-last [] last = refl
without_return-last (x ∷ []) last =
    elim (last == CARRIAGE_RETURN) as (λ b. x ∷ (if b then [] else last ∷ []) ≡ (if b then x ∷ [] else x ∷ last ∷ [])) [ true ↦ refl | false ↦ refl ]
without_return-last (x ∷ y ∷ zs) last = ap (λ l. x ∷ l) (without_return-last (y ∷ zs) last)
    ∙ elim (last == CARRIAGE_RETURN) as (λ b. x ∷ (if b then y ∷ zs else (y ∷ zs) ++ last ∷ []) ≡ (if b then x ∷ y ∷ zs else (x ∷ y ∷ zs) ++ last ∷ [])) [ true ↦ refl | false ↦ refl ]

is_other : (m n : ℕ) → (m ≡ n → ⊥) → (m == n) ≡ false
is_other m n other = grind (arith, nat_tests)

pub without_return-dropped : (line front : List ℕ) (last : ℕ) → line ≡ front ++ last ∷ [] → last ≡ 13 → front ≡ without_return line
without_return-dropped line front last cut is_return = rw cut (rw without_return-last (rw (eq-eqb last 13 is_return)))

pub without_return-kept : (line front : List ℕ) (last : ℕ) → line ≡ front ++ last ∷ [] → (last ≡ 13 → ⊥) → line ≡ without_return line
without_return-kept line front last cut no_return = rw cut (rw without_return-last (rw (is_other last 13 no_return)))
