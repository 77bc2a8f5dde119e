-- The line that was made is the one that is written.
use Rattle.std.proofs.Common.{◌≡◌, ◌≤◌, ◌<◌, ◌+◌, ◌∙◌, ℕ, true, false, List, [], ◌∷◌, ◌++◌, Option, Result, add-one, ap, ap₂, arith, drop, get_or, length, map, nat_le, refl, subst, sym}
use Rattle.std.proofs.Math.Seq.{drop-cons}
use Rattle.std.proofs.lemmas.Bool.Decides.{nat_tests}
use Rattle.rs_catalog.specs.Definitions.{pieces_of}
use Rattle.rs_dump.specs.Written.{PutsBytes}
use Rattle.rs_dump.specs.declared.stop.Stop.{Stop}
use Rattle.rs_dump_laws.specs.Dump.{written_piece}
use Rattle.rs_machine.specs.declared.limits.TheConstants.{LINE_BYTES}
use Rattle.rs_syntax.specs.View.{piece_tree}
use Rattle.rs_syntax.specs.declared.commands.Piece as code

pub put_as : {T : Type 0} (r : Result T Stop) (a b : Option (List ℕ)) (told wanted : List ℕ) → told ≡ wanted → PutsBytes r (told ++ 10 ∷ []) a b → PutsBytes r (wanted ++ 10 ∷ []) a b
put_as r a b told wanted same put = subst (λ (bytes : List ℕ). PutsBytes r (bytes ++ 10 ∷ []) a b) same put

-- pieces as they are kept are written as they were
pub pieces_written : (pieces : List code.Piece) → map piece_tree pieces ≡ map written_piece (pieces_of pieces)
pieces_written [] = refl
pieces_written (piece ∷ pieces) = ap (λ more. piece_tree piece ∷ more) (pieces_written pieces)

-- a line is too long, or fits
pub too_long : (n : ℕ) → LINE_BYTES < n → false ≡ nat_le n LINE_BYTES
too_long n past = grind (arith, nat_tests)

pub short_enough : (n : ℕ) → n ≤ LINE_BYTES → true ≡ nat_le n LINE_BYTES
short_enough n within = grind (arith, nat_tests)

-- one element is left less
pub next_left : {X : Type 0} (xs : List X) (i : ℕ) (x : X) → i < length xs → x ≡ get_or xs i x → drop i xs ≡ x ∷ drop (i + 1) xs
next_left xs i x inside is = drop-cons xs i x inside ∙ ap₂ (λ y ys. y ∷ ys) (sym is) (ap (λ (n : ℕ). drop n xs) (sym (add-one i)))

-- lists in which nothing is
pub nothing_there : {X : Type 0} (xs : List X) → length xs < 1 → xs ≡ []
nothing_there [] few = refl
nothing_there (x ∷ xs) few = absurd (omega (arith, few))

pub nothing_seen : {X Y : Type 0} (f : X → Y) (xs : List X) → map f xs ≡ [] → xs ≡ []
nothing_seen f [] none = refl
nothing_seen f (x ∷ xs) none = absurd (let wrong : f x ∷ map f xs ≡ [] = none in cc)
