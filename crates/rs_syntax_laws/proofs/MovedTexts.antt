-- The tokens of a line in another that has the same bytes at other places.
use Rattle.std.proofs.Common.{◌≡◌, ℕ, ◌+◌, ◌-◌, ◌≤◌, List, [], ◌∷◌, length, take, drop, map, refl, sym, ap, ◌∙◌, subst, arith, add-zero, get_or-drop, length-drop, length-take-le}
use Rattle.std.specs.Prelude.{slice_index}
use Rattle.std.specs.List.{AllByRecursion}
use Rattle.std.proofs.lemmas.List.{take-take, drop-drop}
use Rattle.rs_lexer.specs.declared.token.Token.{Token}
use Rattle.rs_lexer.specs.Lexis.{token_text, kinds_of, IsLongestToken, AreTokensFrom, at_end, at_blank, at_token}
use Rattle.rs_syntax.specs.Written.{end_of, text_of_tokens}
use Rattle.rs_syntax_laws.specs.ViewTexts.{first_place, from_the_first}
use Rattle.rs_syntax_laws.proofs.Cuts.{end_after, from_first, IsBetween, all_between, end_inside, first_inside, drop_of_front, cut_off}

-- a token at another place
abbrev pub moved : (ℕ → ℕ) → Token → Token
moved move token = record { kind = token.kind; first = move token.first; length = token.length }

pub kinds_of-moved : (move : ℕ → ℕ) (tokens : List Token) → kinds_of (map (moved move) tokens) ≡ kinds_of tokens
kinds_of-moved move [] = refl
kinds_of-moved move (token ∷ tokens) = ap (λ ks. token.kind ∷ ks) (kinds_of-moved move tokens)

pub slice_index-drop : (bytes : List ℕ) (place : ℕ) → slice_index (drop place bytes) 0 ≡ slice_index bytes place
slice_index-drop bytes place = get_or-drop place bytes 0 0 ∙ ap (slice_index bytes) (add-zero place)

-- From a low place on, the other line has at the moved places what the line has.
module _ (line other : List ℕ) (move : ℕ → ℕ) (low : ℕ) (same : (place : ℕ) → low ≤ place → drop (move place) other ≡ drop place line)
    (step : (place count : ℕ) → low ≤ place → move (place + count) ≡ move place + count) where
  left_over : (place : ℕ) → low ≤ place → length other - move place ≡ length line - place
  left_over place from = sym (length-drop (move place) other) ∙ ap length (same place from) ∙ length-drop place line

  pub moved_cut : {place : ℕ} {tokens : List Token} → low ≤ place → AreTokensFrom line place tokens → AreTokensFrom other (move place) (map (moved move) tokens)
  moved_cut {place} from (at_end h) = at_end (omega (arith, left_over place from))
  moved_cut {place} {tokens} from (at_blank lt b rest) =
      at_blank (omega (arith, left_over place from))
      (sym (slice_index-drop other (move place)) ∙ ap (λ bytes. slice_index bytes 0) (same place from) ∙ slice_index-drop line place ∙ b)
      (subst (λ p. AreTokensFrom other p (map (moved move) tokens)) (step place 1 from) (moved_cut (omega arith) rest))
  moved_cut {place} from (at_token {tokens = tokens} kind count longest rest) =
      at_token kind count (subst (λ bytes. IsLongestToken bytes kind count) (sym (same place from)) longest)
      (subst (λ p. AreTokensFrom other p (map (moved move) tokens)) (step place count from) (moved_cut (omega arith) rest))

-- the text of some tokens, by the line cut off after them
text_is : (line : List ℕ) (token : Token) (tokens : List Token) → token.first ≤ end_of (token ∷ tokens)
    → text_of_tokens line (token ∷ tokens) ≡ drop token.first (take (end_of (token ∷ tokens)) line)
text_is line token tokens h = sym (drop_of_front line (end_of (token ∷ tokens)) token.first h)

-- tokens of a line are tokens of their own text
pub text_cut : (line : List ℕ) (place : ℕ) (tokens : List Token) → AreTokensFrom line place tokens → AreTokensFrom (text_of_tokens line tokens) 0 (from_the_first tokens)
text_cut line place [] cut = at_end (omega arith)
text_cut line place (token ∷ tokens) cut =
    let low = token.first in
    let end = end_of (token ∷ tokens) in
    let here = from_first line token tokens cut in
    let ends : low ≤ end = end_after line here in
    let inside : end ≤ length line = end_inside line here (first_inside line token tokens cut) in
    let there =
    moved_cut (take end line) (drop low (take end line)) (λ p. p - low) low
    (λ p h. let sum : low + (p - low) ≡ p = omega arith in drop-drop (p - low) low (take end line) ∙ ap (λ n. drop n (take end line)) sum)
    (λ p count h. omega arith) (omega arith) (cut_off line end inside here refl) in
    let zero : low - low ≡ 0 = omega arith in
    subst (λ text. AreTokensFrom text 0 (from_the_first (token ∷ tokens))) (sym (text_is line token tokens ends))
    (subst (λ p. AreTokensFrom (drop low (take end line)) p (from_the_first (token ∷ tokens))) zero there)

-- the bytes of a token in a part of the line that has it
text_between : (line : List ℕ) (low high : ℕ) (token : Token) → IsBetween low high token → token_text (take (high - low) (drop low line)) (moved (λ p. p - low) token) ≡ token_text line token
text_between line low high token between =
    let first = token.first in
    let from : low ≤ first = between.0 in
    let to : first + token.length ≤ high = between.1 in
    let sum : low + (first - low) ≡ first = omega arith in
    ap (take token.length) (drop_of_front (drop low line) (high - low) (first - low) (omega arith))
    ∙ take-take token.length (high - low - (first - low)) (drop (first - low) (drop low line)) (omega arith)
    ∙ ap (take token.length) (drop-drop (first - low) low line ∙ ap (λ n. drop n line) sum)

abbrev pub HasSameText : (line other : List ℕ) (move : ℕ → ℕ) → Token → Type 0
HasSameText line other move token = token_text other (moved move token) ≡ token_text line token

all_text_between : (line : List ℕ) (low high : ℕ) (tokens : List Token) → AllByRecursion (IsBetween low high) tokens
    → AllByRecursion (HasSameText line (take (high - low) (drop low line)) (λ p. p - low)) tokens
all_text_between line low high [] all = tt
all_text_between line low high (token ∷ tokens) all = (text_between line low high token all.0, all_text_between line low high tokens all.1)

-- and they have their bytes there
pub text_kept : (line : List ℕ) (place : ℕ) (tokens : List Token) → AreTokensFrom line place tokens
    → AllByRecursion (HasSameText line (text_of_tokens line tokens) (λ p. p - first_place tokens)) tokens
text_kept line place [] cut = tt
text_kept line place (token ∷ tokens) cut =
    let end = end_of (token ∷ tokens) in
    all_text_between line token.first end (token ∷ tokens) (all_between line token.first end (from_first line token tokens cut) (omega arith) (omega arith))

-- the last of them ends where the text ends
end_of-moved : (low high : ℕ) (token : Token) (tokens : List Token) → AllByRecursion (IsBetween low high) (token ∷ tokens) → end_of (map (moved (λ p. p - low)) (token ∷ tokens)) ≡ end_of (token ∷ tokens) - low
end_of-moved low high token [] all = let from : low ≤ token.first = all.0.0 in omega arith
end_of-moved low high token (next ∷ tokens) all = end_of-moved low high next tokens all.1

pub text_ends : (line : List ℕ) (place : ℕ) (tokens : List Token) → AreTokensFrom line place tokens → end_of (from_the_first tokens) ≡ length (text_of_tokens line tokens)
text_ends line place [] cut = refl
text_ends line place (token ∷ tokens) cut =
    let low = token.first in
    let end = end_of (token ∷ tokens) in
    let here = from_first line token tokens cut in
    let inside : end ≤ length line = end_inside line here (first_inside line token tokens cut) in
    end_of-moved low end token tokens (all_between line low end here (omega arith) (omega arith))
    ∙ sym (length-take-le (end - low) (drop low line) (omega (arith, length-drop low line)))
