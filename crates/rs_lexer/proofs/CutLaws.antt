-- A line has one cut into tokens at the most.
use Rattle.std.proofs.Common.{◌≡◌, ℕ, zero, suc, ◌+◌, ◌<◌, ◌≤◌, List, [], ◌∷◌, ◌++◌, length, take, drop, Some, None, refl, sym, ap, ◌∙◌, subst, ⊎_elim, arith, append_assoc, append-nil, length-drop, drop-cons}
use Rattle.std.specs.Prelude.{slice_index, All}
use Rattle.std.proofs.lemmas.Bool.{cases_order}
use Rattle.std.proofs.lemmas.List.Elements.{All-push, All-cons}
use Rattle.rs_grammar.specs.declared.kind.TokenKind.{TokenKind}
use Rattle.rs_lexer.specs.declared.token.Token.{Token}
use Rattle.rs_lexer.specs.Lexis.{token_kind, IsTokenOf, IsLongestToken, AreTokensFrom, at_end, at_blank, at_token}
use Rattle.rs_lexer.proofs.ScanningLaws.{token_kind-nil, alone-None}

token_kind-blank : (bytes : List ℕ) → token_kind (32 ∷ bytes) ≡ None
unfolding token_kind
token_kind-blank bytes = alone-None bytes

-- a token has a byte
pub has_a_byte : (bytes : List ℕ) (kind : TokenKind) (count : ℕ) → IsLongestToken bytes kind count → 0 < count
has_a_byte bytes kind zero longest = let e : None ≡ Some kind = sym token_kind-nil ∙ longest.token in cc
has_a_byte bytes kind (suc count) longest = omega arith

-- and begins with no blank
blank_begins_none : (bytes : List ℕ) (kind : TokenKind) (count : ℕ) → IsLongestToken (32 ∷ bytes) kind count → ⊥
blank_begins_none bytes kind zero longest = let e : None ≡ Some kind = sym token_kind-nil ∙ longest.token in cc
blank_begins_none bytes kind (suc count) longest = let e : None ≡ Some kind = sym (token_kind-blank (take count bytes)) ∙ longest.token in cc

drop_at : (line : List ℕ) (place byte : ℕ) → place < length line → slice_index line place ≡ byte → drop place line ≡ byte ∷ drop (suc place) line
drop_at line place byte h e = drop-cons line place 0 h ∙ ap (λ b. b ∷ drop (suc place) line) e

no_blank : (line : List ℕ) (place : ℕ) (kind : TokenKind) (count : ℕ) → place < length line → slice_index line place ≡ 32 → IsLongestToken (drop place line) kind count → ⊥
no_blank line place kind count h e longest = blank_begins_none (drop (suc place) line) kind count (subst (λ bytes. IsLongestToken bytes kind count) (drop_at line place 32 h e) longest)

-- the longest token at the front of some bytes is one
longest_not_longer : (bytes : List ℕ) (k j : TokenKind) (m n : ℕ) → IsLongestToken bytes k m → IsLongestToken bytes j n → m < n → ⊥
longest_not_longer bytes k j m n a b h = let e : None ≡ Some j = sym (a.longest n h b.inside) ∙ b.token in cc

longest_count : (bytes : List ℕ) (k j : TokenKind) (m n : ℕ) → IsLongestToken bytes k m → IsLongestToken bytes j n → m ≡ n
longest_count bytes k j m n a b =
    ⊎_elim (λ e. e) (λ s. ⊎_elim (λ lt. absurd (longest_not_longer bytes k j m n a b lt)) (λ gt. absurd (longest_not_longer bytes j k n m b a gt)) s) (cases_order m n)

longest_kind : (bytes : List ℕ) (k j : TokenKind) (m n : ℕ) → IsLongestToken bytes k m → IsLongestToken bytes j n → k ≡ j
longest_kind bytes k j m n a b =
    let e : Some k ≡ Some j = sym a.token ∙ ap (λ i. token_kind (take i bytes)) (longest_count bytes k j m n a b) ∙ b.token in cc

-- a cut goes on after a blank
pub cut_past_blank : (line : List ℕ) {place : ℕ} {tokens : List Token} → AreTokensFrom line place tokens → place < length line → slice_index line place ≡ 32 → AreTokensFrom line (place + 1) tokens
cut_past_blank line (at_end h) lt e = absurd (omega arith)
cut_past_blank line (at_blank h b cut) lt e = cut
cut_past_blank line (at_token kind count longest cut) lt e = absurd (no_blank line _ kind count lt e longest)

abbrev pub token_at : TokenKind → ℕ → ℕ → Token
token_at kind place count = record { kind = kind; first = place; length = count }

-- a cut goes on after the longest token
pub cut_past_token : (line : List ℕ) {place : ℕ} {tokens : List Token} (kind : TokenKind) (count : ℕ) → IsLongestToken (drop place line) kind count → place < length line
    → AreTokensFrom line place tokens → (rest : List Token) × (tokens ≡ token_at kind place count ∷ rest) × AreTokensFrom line (place + count) rest
cut_past_token line kind count longest lt (at_end h) = absurd (omega arith)
cut_past_token line {place} kind count longest lt (at_blank h b cut) = absurd (no_blank line place kind count lt b longest)
cut_past_token line {place} kind count longest lt (at_token {tokens = rest} k n other cut) =
    let same_kind = longest_kind (drop place line) k kind n count other longest in
    let same_count = longest_count (drop place line) k kind n count other longest in
    (rest, ap (λ j. token_at j place n ∷ rest) same_kind ∙ ap (λ m. token_at kind place m ∷ rest) same_count, subst (λ m. AreTokensFrom line (place + m) rest) same_count cut)

-- a token begins before the line's end
token_inside : (line : List ℕ) (place : ℕ) (kind : TokenKind) (count : ℕ) → IsLongestToken (drop place line) kind count → place < length line
token_inside line place kind count longest = omega (arith, has_a_byte (drop place line) kind count longest, longest.inside, length-drop place line)

cut_at_end : (line : List ℕ) {place : ℕ} {b : List Token} → length line ≤ place → AreTokensFrom line place b → [] ≡ b
cut_at_end line h (at_end k) = refl
cut_at_end line h (at_blank lt e rest) = absurd (omega arith)
cut_at_end line {place} h (at_token kind count longest rest) = let lt = token_inside line place kind count longest in absurd (omega arith)

-- a line has one cut
pub cut_same : (line : List ℕ) {place : ℕ} {a : List Token} → AreTokensFrom line place a → (b : List Token) → AreTokensFrom line place b → a ≡ b
cut_same line (at_end h) b cut = cut_at_end line h cut
cut_same line (at_blank h e rest) b cut = cut_same line rest b (cut_past_blank line cut h e)
cut_same line {place} (at_token kind count longest rest) b cut =
    let p = cut_past_token line kind count longest (token_inside line place kind count longest) cut in
    ap (λ ts. token_at kind place count ∷ ts) (cut_same line rest p.0 p.2) ∙ sym p.1

-- no cut goes on where no token begins
pub no_cut : (line : List ℕ) {place : ℕ} {tokens : List Token} → ((count : ℕ) → count ≤ length (drop place line) → token_kind (take count (drop place line)) ≡ None)
    → place < length line → (slice_index line place ≡ 32 → ⊥) → AreTokensFrom line place tokens → ⊥
no_cut line none lt other (at_end h) = omega arith
no_cut line none lt other (at_blank h b cut) = other b
no_cut line none lt other (at_token kind count longest cut) = let e : None ≡ Some kind = sym (none count longest.inside) ∙ longest.token in cc

-- one token more
pub IsTokenOf-longest : (line : List ℕ) (place : ℕ) (kind : TokenKind) (count : ℕ) → place < length line → IsLongestToken (drop place line) kind count → IsTokenOf line (token_at kind place count)
IsTokenOf-longest line place kind count lt longest = record {
  inside = omega (arith, longest.inside, length-drop place line);
  kind = longest.token;
}

-- each token of a cut is one of the line
pub cut_inside : (line : List ℕ) {place : ℕ} {tokens : List Token} → AreTokensFrom line place tokens → All (IsTokenOf line) tokens
cut_inside line (at_end h) = λ k d lt. absurd (omega arith)
cut_inside line (at_blank lt e rest) = cut_inside line rest
cut_inside line {place} {tokens} (at_token kind count longest rest) =
    All-cons (IsTokenOf line) (token_at kind place count) _ (IsTokenOf-longest line place kind count (token_inside line place kind count longest) longest) (cut_inside line rest)

-- what the loop over a line keeps: the tokens so far, and those from a place on, are the line's
pub record IsCutSoFar (line : List ℕ) (from : ℕ) (tokens : List Token) (place : ℕ) : Type 0 where
  pub forward : (rest : List Token) → AreTokensFrom line place rest → AreTokensFrom line from (tokens ++ rest)
  pub backward : (all : List Token) → AreTokensFrom line from all → (rest : List Token) × (all ≡ tokens ++ rest) × AreTokensFrom line place rest
  pub inside : All (IsTokenOf line) tokens

pub so_far-start : (line : List ℕ) (from : ℕ) → IsCutSoFar line from [] from
so_far-start line from = record {
  forward = λ rest cut. cut;
  backward = λ all cut. (all, refl, cut);
  inside = λ k d h. absurd (omega arith);
}

pub so_far-blank : (line : List ℕ) (from place : ℕ) (tokens : List Token) → IsCutSoFar line from tokens place → place < length line → slice_index line place ≡ 32 → IsCutSoFar line from tokens (place + 1)
so_far-blank line from place tokens before lt e = record {
  forward = λ rest cut. before.forward rest (at_blank lt e cut);
  backward = λ all cut. let b = before.backward all cut in (b.0, b.1, cut_past_blank line b.2 lt e);
  inside = before.inside;
}

pub so_far-token : (line : List ℕ) (from place : ℕ) (tokens : List Token) (kind : TokenKind) (count : ℕ) → IsCutSoFar line from tokens place → place < length line → IsLongestToken (drop place line) kind count
    → IsCutSoFar line from (tokens ++ token_at kind place count ∷ []) (place + count)
so_far-token line from place tokens kind count before lt longest = record {
  forward = λ rest cut. subst (AreTokensFrom line from) (sym (append_assoc tokens (token_at kind place count ∷ []) rest)) (before.forward (token_at kind place count ∷ rest) (at_token kind count longest cut));
  backward = λ all cut.
      let b = before.backward all cut in
      let p = cut_past_token line kind count longest lt b.2 in
      (p.0, b.1 ∙ ap (λ ts. tokens ++ ts) p.1 ∙ sym (append_assoc tokens (token_at kind place count ∷ []) p.0), p.2);
  inside = All-push (IsTokenOf line) tokens (token_at kind place count) before.inside (IsTokenOf-longest line place kind count lt longest);
}

-- at the end
pub so_far-end : (line : List ℕ) (from place : ℕ) (tokens : List Token) → IsCutSoFar line from tokens place → length line ≤ place → AreTokensFrom line from tokens
so_far-end line from place tokens before h = subst (AreTokensFrom line from) (append-nil tokens) (before.forward [] (at_end h))

-- where no token begins
pub so_far-none : (line : List ℕ) (from place : ℕ) (tokens : List Token) → IsCutSoFar line from tokens place
    → ((count : ℕ) → count ≤ length (drop place line) → token_kind (take count (drop place line)) ≡ None)
    → place < length line → (slice_index line place ≡ 32 → ⊥) → (all : List Token) → AreTokensFrom line from all → ⊥
so_far-none line from place tokens before none lt other all cut = no_cut line none lt other (before.backward all cut).2
