-- How many brackets are open after some tokens.
use Rattle.std.proofs.Common.{◌≡◌, ℕ, zero, suc, ◌+◌, ◌<◌, ◌≤◌, Bool, true, false, List, [], ◌∷◌, ◌++◌, length, take, get_or, refl, sym, ap, ◌∙◌, subst, arith, le-leb, leb-true}
use Rattle.std.specs.Prelude.{◌&&◌, nat_le}
use Rattle.std.proofs.lemmas.Bool.{false≢true, and_parts}
use Rattle.std.proofs.lemmas.List.{take_more}
use Rattle.rs_grammar.specs.declared.kind.TheConstants.{BRACKETS}
use Rattle.rs_grammar.specs.declared.kind.TokenKind.{TokenKind}
use Rattle.rs_grammar.specs.declared.kind.TokenKind.TheVariants as kinds
use Rattle.rs_lexer.specs.declared.token.Token.{Token}
use Rattle.rs_lexer.specs.Lexis.{kinds_of}
use Rattle.rs_grammar.specs.Grammar.{open_after, is_shallow, IsShallow}

-- how many are open after the tokens
abbrev pub open_behind : ℕ → List TokenKind → ℕ
open_behind open_before [] = open_before
open_behind open_before (kind ∷ others) = open_behind (open_after open_before kind) others

pub open_behind-push : (open_before : ℕ) (tokens : List TokenKind) (kind : TokenKind) → open_behind open_before (tokens ++ kind ∷ []) ≡ open_after (open_behind open_before tokens) kind
open_behind-push open_before [] kind = refl
open_behind-push open_before (first ∷ others) kind = open_behind-push (open_after open_before first) others kind

and-assoc-true : (a b c : Bool) → a ≡ true → (b && c) ≡ true → (a && b) && c ≡ true
and-assoc-true true b c p q = q
and-assoc-true false b c p q = absurd (false≢true p)

and-true : (a b : Bool) → a ≡ true → b ≡ true → a && b ≡ true
and-true true b p q = q
and-true false b p q = absurd (false≢true p)

-- one token more
pub is_shallow-push : (open_before : ℕ) (tokens : List TokenKind) (kind : TokenKind) → is_shallow open_before tokens ≡ true → open_after (open_behind open_before tokens) kind ≤ BRACKETS → is_shallow open_before (tokens ++ kind ∷ []) ≡ true
is_shallow-push open_before [] kind shallow h = and-true _ true (le-leb (open_after open_before kind) BRACKETS h) refl
is_shallow-push open_before (first ∷ others) kind shallow h =
    let p = and_parts (nat_le (open_after open_before first) BRACKETS) (is_shallow (open_after open_before first) others) shallow in
    and-true _ _ p.0 (is_shallow-push (open_after open_before first) others kind p.1 h)

-- a front of what is shallow, and its last token
pub is_shallow-front : (open_before : ℕ) (front others : List TokenKind) → is_shallow open_before (front ++ others) ≡ true → is_shallow open_before front ≡ true
is_shallow-front open_before [] others shallow = refl
is_shallow-front open_before (first ∷ front) others shallow =
    let p = and_parts (nat_le (open_after open_before first) BRACKETS) (is_shallow (open_after open_before first) (front ++ others)) shallow in
    and-true _ _ p.0 (is_shallow-front (open_after open_before first) front others p.1)

pub is_shallow-last : (open_before : ℕ) (tokens : List TokenKind) (kind : TokenKind) → is_shallow open_before (tokens ++ kind ∷ []) ≡ true → open_after (open_behind open_before tokens) kind ≤ BRACKETS
is_shallow-last open_before [] kind shallow = leb-true (open_after open_before kind) BRACKETS (and_parts (nat_le (open_after open_before kind) BRACKETS) true shallow).0
is_shallow-last open_before (first ∷ others) kind shallow =
    is_shallow-last (open_after open_before first) others kind (and_parts (nat_le (open_after open_before first) BRACKETS) (is_shallow (open_after open_before first) (others ++ kind ∷ [])) shallow).1

pub length-kinds_of : (tokens : List Token) → length (kinds_of tokens) ≡ length tokens
length-kinds_of [] = refl
length-kinds_of (token ∷ tokens) = ap suc (length-kinds_of tokens)

pub take-kinds_of : (n : ℕ) (tokens : List Token) → take n (kinds_of tokens) ≡ kinds_of (take n tokens)
take-kinds_of zero tokens = refl
take-kinds_of (suc n) [] = refl
take-kinds_of (suc n) (token ∷ tokens) = ap (λ ks. token.kind ∷ ks) (take-kinds_of n tokens)

kinds_of-push : (tokens : List Token) (token : Token) → kinds_of (tokens ++ token ∷ []) ≡ kinds_of tokens ++ token.kind ∷ []
kinds_of-push [] token = refl
kinds_of-push (first ∷ tokens) token = ap (λ ks. first.kind ∷ ks) (kinds_of-push tokens token)

-- the kinds of one token more
pub kinds_of-next : (tokens : List Token) (place : ℕ) (d : Token) → place < length tokens → take (place + 1) (kinds_of tokens) ≡ take place (kinds_of tokens) ++ (get_or tokens place d).kind ∷ []
kinds_of-next tokens place d h =
    take-kinds_of (place + 1) tokens ∙ ap kinds_of (take_more tokens place d h) ∙ kinds_of-push (take place tokens) (get_or tokens place d)
    ∙ ap (λ ks. ks ++ (get_or tokens place d).kind ∷ []) (sym (take-kinds_of place tokens))

pub open_after-other : (open_before : ℕ) (kind : TokenKind) → (kind ≡ kinds.LeftParen → ⊥) → (kind ≡ kinds.RightParen → ⊥) → open_after open_before kind ≡ open_before
open_after-other open_before kinds.LeftParen p q = absurd (p refl)
open_after-other open_before kinds.RightParen p q = absurd (q refl)
open_after-other open_before _ p q = refl

-- What the loop over tokens keeps, as far as a place.
module _ (tokens : List Token) (place open_before : ℕ) (d : Token) (inside : place < length tokens) (counted : open_before ≡ open_behind 0 (take place (kinds_of tokens))) where
  pub counted_more : (open_now : ℕ) → open_now ≡ open_after open_before (get_or tokens place d).kind → open_now ≡ open_behind 0 (take (place + 1) (kinds_of tokens))
  counted_more open_now e =
      e ∙ ap (λ n. open_after n (get_or tokens place d).kind) counted ∙ sym (open_behind-push 0 (take place (kinds_of tokens)) (get_or tokens place d).kind)
      ∙ ap (open_behind 0) (sym (kinds_of-next tokens place d inside))

  pub shallow_more : is_shallow 0 (take place (kinds_of tokens)) ≡ true → open_after open_before (get_or tokens place d).kind ≤ BRACKETS → is_shallow 0 (take (place + 1) (kinds_of tokens)) ≡ true
  shallow_more shallow h =
      ap (is_shallow 0) (kinds_of-next tokens place d inside)
      ∙ is_shallow-push 0 (take place (kinds_of tokens)) (get_or tokens place d).kind shallow (subst (λ n. open_after n (get_or tokens place d).kind ≤ BRACKETS) counted h)

  pub too_deep : BRACKETS < open_after open_before (get_or tokens place d).kind → IsShallow (take (place + 1) (kinds_of tokens)) → ⊥
  too_deep h shallow =
      let last = is_shallow-last 0 (take place (kinds_of tokens)) (get_or tokens place d).kind (ap (is_shallow 0) (sym (kinds_of-next tokens place d inside)) ∙ shallow) in
      let same = ap (λ n. open_after n (get_or tokens place d).kind) counted in
      omega arith
