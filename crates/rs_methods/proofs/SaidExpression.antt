-- What is printed for a measure of a route says the position by which it is expressed.
use Rattle.std.proofs.Common.{◌≡◌, ℕ, ◌+◌, ◌-◌, ◌*◌, ◌<◌, ◌≤◌, List, [], ◌∷◌, Contains, Result, Ok, Err, IfOk, String, string_bytes, refl, sym, subst, ⊎_elim, arith}
use Rattle.std.proofs.lemmas.List.Elements.{Contains-append_cases}
use Rattle.std.proofs.lemmas.Nat.{div_below}
use Rattle.rs_measure.proofs.MeasureText.{says_measure_text}
use Rattle.rs_measure.proofs.PartText.{says_part_text}
use Rattle.rs_methods.specs.declared.position.Method.{Method}
use Rattle.rs_methods.specs.declared.position.Method.TheVariants as methods
use Rattle.rs_methods.specs.Position.{PositionExpression, start_name, nearest, ceiling, expression_at, expression_text}
use Rattle.rs_methods.specs.PositionText.{IsWord, TextSaysPosition, IsPrintable, AreWords}
use Rattle.rs_methods.proofs.Nearest.{Mark, only, nearest_from_among}
use Rattle.rs_methods.proofs.SaidPosition.{says_printed}

word_among : (referents : List Mark) (near : Mark) → AreWords referents → Contains referents near → IsWord near.0
word_among [] near words among = absurd (omega (arith, among.1))
word_among (referent ∷ referents) near words among =
    ⊎_elim
    (λ here. subst (λ (m : Mark). IsWord m.0) (only referent near here) words.0)
    (λ later. word_among referents near words.1 later)
    (Contains-append_cases (referent ∷ []) referents near among)

pub start_is_word : IsWord start_name
start_is_word = (refl, refl)

-- the nearest is START or one of the list
pub nearest_is_word : (start k : ℕ) (referents : List Mark) → AreWords referents → IsWord (nearest start referents k).0
nearest_is_word start k referents words =
    ⊎_elim
    (λ first. subst (λ (m : Mark). IsWord m.0) (sym first) start_is_word)
    (λ among. word_among referents (nearest start referents k) words among)
    (nearest_from_among k (start_name, start) referents)

-- a measure of the route lies at most at all of its length
ceiling_in_range : (along whole : ℕ) → 0 < whole → along ≤ whole → ceiling (along * 1000000000) whole ≤ 1000000000
ceiling_in_range along whole some inside =
    let below : ceiling (along * 1000000000) whole < 1000000001 = div_below (along * 1000000000 + (whole - 1)) whole 1000000001 some (omega arith) in omega arith

-- how a measure of the route is expressed can be printed, by the relative method where the names are words
pub printable : (start finish k : ℕ) (referents : List Mark) (method : Method) → start ≤ k → k ≤ finish → start < finish → k ≤ 999999999 → (method ≡ methods.Relative → AreWords referents)
    → IsPrintable (expression_at start finish referents method k)
printable start finish k referents methods.Absolute low high ordered fits words = fits
printable start finish k referents methods.Relative low high ordered fits words = (nearest_is_word start k referents (words refl), omega arith)
printable start finish k referents methods.Interpolative low high ordered fits words = ceiling_in_range (k - start) (finish - start) (omega arith) (omega arith)

says_text : {A E : Type 0} (r : Result (String A) E) (position : PositionExpression) → IsPrintable position → IfOk r (λ text. string_bytes text ≡ expression_text position)
    → IfOk r (λ text. TextSaysPosition (string_bytes text) position)
says_text (Ok text) position fits printed = subst (λ bytes. TextSaysPosition bytes position) (sym printed) (says_printed says_measure_text says_part_text position fits)
says_text (Err e) position fits printed = tt

-- So the text says the position.
pub says_expressed : {A E : Type 0} (start finish k : ℕ) (referents : List Mark) (method : Method) (r : Result (String A) E) → start ≤ k → k ≤ finish → start < finish → k ≤ 999999999
    → IfOk r (λ text. string_bytes text ≡ expression_text (expression_at start finish referents method k)) → (method ≡ methods.Relative → AreWords referents)
    → IfOk r (λ text. TextSaysPosition (string_bytes text) (expression_at start finish referents method k))
says_expressed start finish k referents method r low high ordered fits printed words =
    says_text r (expression_at start finish referents method k) (printable start finish k referents method low high ordered fits words) printed
