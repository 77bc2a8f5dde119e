-- A line has a cut into tokens from a place on, or it has none.
use Rattle.std.proofs.Common.{◌≡◌, ℕ, zero, suc, ◌+◌, ◌<◌, ◌≤◌, List, [], ◌∷◌, length, take, drop, Some, None, refl, subst, inl, inr, ⊎_elim, arith}
use Rattle.std.specs.Prelude.{◌⊎◌, slice_index}
use Rattle.std.proofs.lemmas.Bool.{cases_lt, cases_eq}
use Rattle.rs_grammar.specs.declared.kind.TokenKind.{TokenKind}
use Rattle.rs_lexer.specs.declared.token.Token.{Token}
use Rattle.rs_lexer.specs.Lexis.{token_kind, IsLongestToken, AreTokensFrom, at_end, at_blank, at_token}
use Rattle.rs_lexer.proofs.CutLaws.{token_at, has_a_byte, cut_past_blank, cut_past_token, no_cut}

-- some front is the longest token, or no front is one
abbrev FrontCases : List ℕ → Type 0
FrontCases bytes = ((kind : TokenKind) × (count : ℕ) × IsLongestToken bytes kind count) ⊎ ((count : ℕ) → count ≤ length bytes → token_kind (take count bytes) ≡ None)

-- no longer front is a token
abbrev NoneLonger : List ℕ → ℕ → Type 0
NoneLonger bytes n = (longer : ℕ) → n < longer → longer ≤ length bytes → token_kind (take longer bytes) ≡ None

none_from : (bytes : List ℕ) (n : ℕ) → NoneLonger bytes n → token_kind (take n bytes) ≡ None → (count : ℕ) → n ≤ count → count ≤ length bytes → token_kind (take count bytes) ≡ None
none_from bytes n longer here count from inside =
    ⊎_elim (λ lt. longer count lt inside) (λ le. let same : n ≡ count = omega arith in subst (λ m. token_kind (take m bytes) ≡ None) same here) (cases_lt n count)

front_from : (bytes : List ℕ) (n : ℕ) → n ≤ length bytes → NoneLonger bytes n → FrontCases bytes
front_from bytes zero inside longer =
    elim (token_kind (take 0 bytes)) as (λ k. token_kind (take 0 bytes) ≡ k → FrontCases bytes) [
      | None ↦ λ is. inr (λ count within. none_from bytes 0 longer is count (omega arith) within)
      | Some kind ↦ λ is. inl (kind, 0, record { inside = inside; token = is; longest = longer })
    ] refl
front_from bytes (suc n) inside longer =
    elim (token_kind (take (suc n) bytes)) as (λ k. token_kind (take (suc n) bytes) ≡ k → FrontCases bytes) [
      | None ↦ λ is. front_from bytes n (omega arith) (λ count lt within. none_from bytes (suc n) longer is count (omega arith) within)
      | Some kind ↦ λ is. inl (kind, suc n, record { inside = inside; token = is; longest = longer })
    ] refl

front_cases : (bytes : List ℕ) → FrontCases bytes
front_cases bytes = front_from bytes (length bytes) (omega arith) (λ longer lt within. absurd (omega arith))

abbrev pub CutCases : List ℕ → ℕ → Type 0
CutCases line place = ((tokens : List Token) × AreTokensFrom line place tokens) ⊎ ((tokens : List Token) → AreTokensFrom line place tokens → ⊥)

past_blank : (line : List ℕ) (place : ℕ) → place < length line → slice_index line place ≡ 32 → CutCases line (place + 1) → CutCases line place
past_blank line place lt blank (inl found) = inl (found.0, at_blank lt blank found.1)
past_blank line place lt blank (inr none) = inr (λ tokens cut. none tokens (cut_past_blank line cut lt blank))

past_token : (line : List ℕ) (place : ℕ) (kind : TokenKind) (count : ℕ) → place < length line → IsLongestToken (drop place line) kind count → CutCases line (place + count) → CutCases line place
past_token line place kind count lt longest (inl found) = inl (token_at kind place count ∷ found.0, at_token kind count longest found.1)
past_token line place kind count lt longest (inr none) = inr (λ tokens cut. let p = cut_past_token line kind count longest lt cut in none p.0 p.2)

cut_at : (line : List ℕ) (place : ℕ) → place < length line → ((next : ℕ) → place < next → CutCases line next) → CutCases line place
cut_at line place lt rest =
    ⊎_elim
    (λ blank. past_blank line place lt blank (rest (place + 1) (omega arith)))
    (λ other. ⊎_elim
    (λ t. past_token line place t.0 t.1 lt t.2 (rest (place + t.1) (omega (arith, has_a_byte (drop place line) t.0 t.1 t.2))))
    (λ none. inr (λ tokens cut. no_cut line none lt other cut))
    (front_cases (drop place line)))
    (cases_eq (slice_index line place) 32)

cut_from : (line : List ℕ) (fuel place : ℕ) → length line ≤ place + fuel → CutCases line place
cut_from line zero place enough = inl ([], at_end (omega arith))
cut_from line (suc fuel) place enough =
    ⊎_elim
    (λ lt. cut_at line place lt (λ next further. cut_from line fuel next (omega arith)))
    (λ le. inl ([], at_end le))
    (cases_lt place (length line))

pub cut_cases : (line : List ℕ) (place : ℕ) → CutCases line place
cut_cases line place = cut_from line (length line) place (omega arith)
