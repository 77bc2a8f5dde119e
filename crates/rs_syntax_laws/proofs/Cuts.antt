-- Where the tokens of a line end, and the line cut off after the last of them.
use Rattle.std.proofs.Common.{◌≡◌, ℕ, zero, suc, ◌+◌, ◌-◌, ◌<◌, ◌≤◌, List, [], ◌∷◌, length, take, drop, refl, sym, ap, ◌∙◌, subst, arith, get_or-take, length-drop, length-take-le}
use Rattle.std.specs.List.{AllByRecursion}
use Rattle.std.proofs.lemmas.List.{take-take, drop-take}
use Rattle.rs_grammar.specs.declared.kind.TokenKind.{TokenKind}
use Rattle.rs_lexer.specs.declared.token.Token.{Token}
use Rattle.rs_lexer.specs.Lexis.{token_kind, IsTokenOf, IsLongestToken, AreTokensFrom, at_end, at_blank, at_token}
use Rattle.rs_lexer.proofs.CutLaws.{token_at, cut_inside}
use Rattle.rs_syntax.specs.Written.{end_of}

-- the place after the last token, or this place where there is none
abbrev pub end_from : ℕ → List Token → ℕ
end_from place [] = place
end_from place (token ∷ tokens) = end_of (token ∷ tokens)

end_from-next : (token : Token) (tokens : List Token) → end_of (token ∷ tokens) ≡ end_from (token.first + token.length) tokens
end_from-next token [] = refl
end_from-next token (next ∷ tokens) = refl

end_from-back : (place : ℕ) (tokens : List Token) → place + 1 ≤ end_from (place + 1) tokens → place ≤ end_from place tokens
end_from-back place [] h = omega arith
end_from-back place (token ∷ tokens) h = omega arith

pub end_after : (line : List ℕ) {place : ℕ} {tokens : List Token} → AreTokensFrom line place tokens → place ≤ end_from place tokens
end_after line (at_end h) = omega arith
end_after line {place} {tokens} (at_blank lt b rest) = end_from-back place tokens (end_after line rest)
end_after line {place} (at_token {tokens = tokens} kind count longest rest) =
    let h = end_after line rest in omega (arith, h, end_from-next (token_at kind place count) tokens)

-- the cut goes on from the first token, and after it
abbrev FromFirst : List ℕ → List Token → Type 0
FromFirst line [] = Unit {0}
FromFirst line (token ∷ tokens) = AreTokensFrom line token.first (token ∷ tokens)

from_first_token : (line : List ℕ) {place : ℕ} {tokens : List Token} → AreTokensFrom line place tokens → FromFirst line tokens
from_first_token line (at_end h) = tt
from_first_token line (at_blank lt b rest) = from_first_token line rest
from_first_token line (at_token kind count longest rest) = at_token kind count longest rest

pub from_first : (line : List ℕ) {place : ℕ} (token : Token) (tokens : List Token) → AreTokensFrom line place (token ∷ tokens) → AreTokensFrom line token.first (token ∷ tokens)
from_first line token tokens cut = from_first_token line cut

abbrev AfterFirst : List ℕ → List Token → Type 0
AfterFirst line [] = Unit {0}
AfterFirst line (token ∷ tokens) = AreTokensFrom line (token.first + token.length) tokens

after_first : (line : List ℕ) {place : ℕ} {tokens : List Token} → AreTokensFrom line place tokens → AfterFirst line tokens
after_first line (at_end h) = tt
after_first line (at_blank lt b rest) = after_first line rest
after_first line (at_token kind count longest rest) = rest

-- the last tokens are a cut from some place on
pub last_cut : (line : List ℕ) (count place : ℕ) (tokens : List Token) → AreTokensFrom line place tokens → (later : ℕ) × AreTokensFrom line later (drop count tokens)
last_cut line zero place tokens cut = (place, cut)
last_cut line (suc count) place [] cut = (place, cut)
last_cut line (suc count) place (token ∷ tokens) cut = last_cut line count (token.first + token.length) tokens (after_first line cut)

-- each token lies between the cut's beginning and its end
abbrev pub IsBetween : ℕ → ℕ → Token → Type 0
IsBetween low high token = (low ≤ token.first) × (token.first + token.length ≤ high)

pub all_between : (line : List ℕ) (low high : ℕ) {place : ℕ} {tokens : List Token} → AreTokensFrom line place tokens → low ≤ place → end_from place tokens ≤ high → AllByRecursion (IsBetween low high) tokens
all_between line low high (at_end h) from to = tt
all_between line low high {tokens = []} (at_blank lt b rest) from to = tt
all_between line low high {tokens = token ∷ tokens} (at_blank lt b rest) from to = all_between line low high rest (omega arith) to
all_between line low high {place} (at_token {tokens = tokens} kind count longest rest) from to =
    let next = end_from-next (token_at kind place count) tokens in
    ((from, omega (arith, next, end_after line rest)), all_between line low high rest (omega arith) (omega (arith, next)))

-- the tokens end in the line
pub end_inside : (line : List ℕ) {place : ℕ} {tokens : List Token} → AreTokensFrom line place tokens → place ≤ length line → end_from place tokens ≤ length line
end_inside line (at_end h) within = within
end_inside line {tokens = []} (at_blank lt b rest) within = within
end_inside line {tokens = token ∷ tokens} (at_blank lt b rest) within = end_inside line rest (omega arith)
end_inside line {place} (at_token {tokens = tokens} kind count longest rest) within =
    omega (arith, end_from-next (token_at kind place count) tokens, end_inside line rest (omega (arith, longest.inside, length-drop place line)))

pub first_inside : (line : List ℕ) {place : ℕ} (token : Token) (tokens : List Token) → AreTokensFrom line place (token ∷ tokens) → token.first ≤ length line
first_inside line token tokens cut = let is : IsTokenOf line token = cut_inside line cut 0 token (omega arith) in omega (arith, is.inside)

-- the longest token at the front of some bytes is the longest of a front of them that has it
front_longest : (bytes : List ℕ) (m : ℕ) (kind : TokenKind) (count : ℕ) → IsLongestToken bytes kind count → count ≤ m → m ≤ length bytes → IsLongestToken (take m bytes) kind count
front_longest bytes m kind count longest fits within =
    let same = length-take-le m bytes within in
    record {
      inside = omega (arith, same);
      token = ap token_kind (take-take count m bytes fits) ∙ longest.token;
      longest = λ longer more inside.
          let least : longer ≤ m = omega (arith, same) in
          ap token_kind (take-take longer m bytes least) ∙ longest.longest longer more (omega arith);
    }

-- from a place on, the line up to its end
pub drop_of_front : (line : List ℕ) (end place : ℕ) → place ≤ end → drop place (take end line) ≡ take (end - place) (drop place line)
drop_of_front line end place h = let sum : place + (end - place) ≡ end = omega arith in ap (λ n. drop place (take n line)) (sym sum) ∙ drop-take place (end - place) line

-- the line cut off after the last token has the same tokens
pub cut_off : (line : List ℕ) (end : ℕ) → end ≤ length line → {place : ℕ} {tokens : List Token} → AreTokensFrom line place tokens → end_from place tokens ≡ end → AreTokensFrom (take end line) place tokens
cut_off line end within (at_end h) e = at_end (omega (arith, length-take-le end line within))
cut_off line end within {tokens = []} (at_blank lt b rest) e = at_end (omega (arith, length-take-le end line within))
cut_off line end within {place} {tokens = token ∷ tokens} (at_blank lt b rest) e =
    let before : place < end = omega (arith, end_after line rest) in
    at_blank (omega (arith, length-take-le end line within)) (get_or-take end line place 0 before ∙ b) (cut_off line end within rest e)
cut_off line end within {place} (at_token {tokens = tokens} kind count longest rest) e =
    let further : end_from (place + count) tokens ≡ end = sym (end_from-next (token_at kind place count) tokens) ∙ e in
    let fits : place + count ≤ end = omega (arith, further, end_after line rest) in
    at_token kind count
    (subst (λ bytes. IsLongestToken bytes kind count) (sym (drop_of_front line end place (omega arith))) (front_longest (drop place line) (end - place) kind count longest (omega arith) (omega (arith, length-drop place line))))
    (cut_off line end within rest further)
