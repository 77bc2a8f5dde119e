-- Bytes that were read up to an LF are a line, or all that was left.
use Rattle.std.proofs.Common.{◌≡◌, ◌≢◌, ◌∙◌, ◌++◌, ◌==◌, ◌-◌, ◌⊎◌, inl, inr, ℕ, Bool, true, false, List, [], ◌∷◌, length, take, Option, Some, None, Ok, arith, length-append, refl, sym, ap, subst}
use Rattle.std.proofs.lemmas.Bool.{eqb-true}
use Rattle.std.proofs.lemmas.Grind.{common_steps}
use Rattle.std.proofs.lemmas.List.Elements.{recursion_from_All}
use Rattle.std.specs.Io.{StopsAt}
use Rattle.std.specs.Io.BufRead.{take_through}
use Rattle.std.specs.Io.KnownBytes.{Consumes}
use Rattle.std.specs.Prelude.{IfSome, if◌then◌else◌}
use Rattle.rs_csv_answers.specs.Lines.{IsAll, Reads}
use Rattle.rs_csv_answers.specs.declared.lines.Next.{Next}
use Rattle.rs_csv_answers.specs.declared.lines.Next.TheVariants as next
use Rattle.rs_machine.specs.Stream.{IsOneLine, with_feed}

take_front : (xs : List ℕ) (y : ℕ) → take (length xs) (xs ++ y ∷ []) ≡ xs
take_front xs y = grind (arith, common_steps)

front_of : (xs : List ℕ) (y : ℕ) → take (length (xs ++ y ∷ []) - 1) (xs ++ y ∷ []) ≡ xs
front_of xs y =
    let one : length (xs ++ y ∷ []) - 1 ≡ length xs = omega (arith, length-append xs (y ∷ [])) in
    ap (λ n. take n (xs ++ y ∷ [])) one ∙ take_front xs y

-- those before the last have no LF
one_front : (xs : List ℕ) (y : ℕ) → StopsAt (xs ++ y ∷ []) 10 → IsOneLine xs
one_front xs y stops = subst IsOneLine (front_of xs y) (recursion_from_All (λ b. b ≢ 10) (take (length (xs ++ y ∷ []) - 1) (xs ++ y ∷ [])) stops)

with_last : (xs : List ℕ) (y : ℕ) → IsOneLine xs → y ≢ 10 → IsOneLine (xs ++ y ∷ [])
with_last [] y each last = (last, tt)
with_last (x ∷ xs) y each last = (each.0, with_last xs y each.1 last)

last_of : (x : ℕ) (xs : List ℕ) → (front : List ℕ) × (last : ℕ) × (x ∷ xs ≡ front ++ last ∷ [])
last_of x [] = ([], x, refl)
last_of x (y ∷ ys) = let so = last_of y ys in (x ∷ so.0, so.1, ap (λ l. x ∷ l) so.2)

-- nor has one that doesn't end in one
one_line : (xs : List ℕ) → StopsAt xs 10 → ((front : List ℕ) → xs ≡ with_feed front → ⊥) → IsOneLine xs
one_line [] stops other = tt
one_line (x ∷ xs) stops other =
    let so = last_of x xs in
    let each = one_front so.0 so.1 (subst (λ (l : List ℕ). StopsAt l 10) so.2 stops) in
    subst IsOneLine (sym so.2) (with_last so.0 so.1 each (λ same. other so.0 (so.2 ∙ ap (λ b. so.0 ++ b ∷ []) same)))

through_all : (xs : List ℕ) → ((front : List ℕ) → take_through 10 xs ≡ with_feed front → ⊥) → take_through 10 xs ≡ xs
through_all [] other = refl
through_all (x ∷ xs) other = go (through_all xs) (x == 10) refl
  where
    go : (((front : List ℕ) → take_through 10 xs ≡ with_feed front → ⊥) → take_through 10 xs ≡ xs) → (b : Bool) → (x == 10) ≡ b → (if b then x ∷ [] else x ∷ take_through 10 xs) ≡ x ∷ xs
    go more true same = absurd (other [] (rw same (ap (λ b. b ∷ []) (eqb-true x 10 same))))
    go more false same = ap (λ l. x ∷ l) (more (λ front e. other (x ∷ front) (rw same (ap (λ l. x ∷ l) e))))

all_of : (u : Option (List ℕ)) (line : List ℕ) → ((front : List ℕ) → line ≡ with_feed front → ⊥) → IfSome u (λ xs. line ≡ take_through 10 xs) → IsAll u line
all_of None line other bytes = tt
all_of (Some xs) line other bytes = sym (bytes ∙ through_all xs (λ front e. other front (bytes ∙ e)))

pub something_read : (got : Next) (read line : List ℕ) (u v : Option (List ℕ)) → (got ≡ next.Line) ⊎ (got ≡ next.Cut) → (got ≡ next.Line → read ≡ with_feed line)
    → (got ≡ next.Cut → (line ≡ read) × ((front : List ℕ) → read ≡ with_feed front → ⊥)) → StopsAt read 10 → Consumes u v read → (read ≡ [] → ⊥) → IfSome u (λ xs. read ≡ take_through 10 xs)
    → Reads (Ok got) line u v
something_read got read line u v (inl is) whole cut stops consumes some bytes =
    subst (λ (n : Next). Reads (Ok n) line u v) (sym is)
    (one_front line 10 (subst (λ (l : List ℕ). StopsAt l 10) (whole is) stops), subst (Consumes u v) (whole is) consumes)
something_read got read line u v (inr is) whole cut stops consumes some bytes =
    let so = cut is in
    subst (λ (n : Next). Reads (Ok n) line u v) (sym is)
    (subst (λ (l : List ℕ). IsOneLine l × (l ≢ []) × Consumes u v l × IsAll u l) (sym so.0) (one_line read stops so.1, some, consumes, all_of u read so.1 bytes))

pub from_start : (u : Option (List ℕ)) (read before : List ℕ) → before ≡ [] → IfSome u (λ xs. read ≡ before ++ take_through 10 xs) → IfSome u (λ xs. read ≡ take_through 10 xs)
from_start None read before none bytes = tt
from_start (Some xs) read before none bytes = bytes ∙ ap (λ l. l ++ take_through 10 xs) none
