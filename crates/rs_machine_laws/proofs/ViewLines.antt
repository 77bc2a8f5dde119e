-- The shortest line of a view says what the line that defines it says.
use Rattle.std.proofs.Common.{◌≡◌, ◌∙◌, ℕ, ◌+◌, ◌-◌, List, [], ◌∷◌, ◌++◌, length, take, drop, map, Some, Ok, refl, sym, ap, subst, length-drop, arith}
use Rattle.std.specs.Prelude.{codes, slice_index}
use Rattle.std.specs.List.{AllByRecursion}
use Rattle.std.proofs.Math.Seq.{drop-drop}
use Rattle.rs_grammar.specs.declared.kind.TokenKind.{TokenKind}
use Rattle.rs_grammar.specs.declared.kind.TokenKind.TheVariants as kinds
use Rattle.rs_grammar.specs.Words.{is_word_byte}
use Rattle.rs_grammar.specs.Grammar as grammar
use Rattle.rs_grammar.specs.Grammar.{Derives, IsCommand, IsShallow, nothing, part, rules, that, this}
use Rattle.rs_lexer.specs.declared.token.Token.{Token}
use Rattle.rs_lexer.specs.Lexis.{AreTokensFrom, at_blank, kinds_of, reserved, token_kind, token_text, word_kind}
use Rattle.rs_methods.specs.PositionText.{IsWord}
use Rattle.rs_syntax.specs.Sound.{IsName}
use Rattle.rs_syntax.specs.Tree.{QueryTree, define_view}
use Rattle.rs_syntax.specs.Verdict.{IsWritten, Reads, has_tokens, is_command}
use Rattle.rs_syntax.specs.Written.{end_of, lexemes_of, mark, query_lexemes, text_of_tokens, told, view_text, written_view}
use Rattle.rs_syntax_laws.specs.ViewTexts.{TextSaysQuery}
use Rattle.rs_syntax_laws.proofs.MovedTexts.{HasSameText, kinds_of-moved, moved, moved_cut, slice_index-drop}
use Rattle.rs_syntax_laws.proofs.MovedQueries.{AreKept, kept_of, lexemes_moved, moved_lexemes, query_moved}
use Rattle.rs_syntax_laws.proofs.ViewTexts.{view_says, view_whole}
use Rattle.rs_machine_laws.specs.ViewLines.{shortest_view_line}
use Rattle.rs_machine_laws.proofs.Tokens.{IsLongest, after_here, cut_here, name_kind, next_is, text_here, token_here, word_ends}

-- ---- words and blanks

define_kind : token_kind (codes "DEFINE") ≡ Some kinds.Define
unfolding token_kind word_kind reserved
define_kind = refl

view_kind : token_kind (codes "VIEW") ≡ Some kinds.View
unfolding token_kind word_kind reserved
view_kind = refl

as_kind : token_kind (codes "AS") ≡ Some kinds.As
unfolding token_kind word_kind reserved
as_kind = refl

-- a blank ends a word
ends_word : (word rest : List ℕ) → IsWord word → IsLongest word (32 ∷ rest)
ends_word word rest is = word_ends word (32 ∷ rest) is (λ byte bytes e. ap is_word_byte (next_is 32 byte rest bytes e))

blank_here : (line : List ℕ) (place : ℕ) (rest : List ℕ) (tokens : List Token) → drop place line ≡ 32 ∷ rest → AreTokensFrom line (place + 1) tokens → AreTokensFrom line place tokens
blank_here line place rest tokens at cut =
    at_blank (omega (arith, length-drop place line, ap length at)) (sym (slice_index-drop line place) ∙ ap (λ bytes. slice_index bytes 0) at) cut

-- ---- the text of a query

-- the text of the same tokens at further places of another line
module _ (line text : List ℕ) (place : ℕ) (at : drop place line ≡ text) where
  abbrev pub further : ℕ → ℕ
  further p = place + p

  pub same_further : (p : ℕ) → drop (further p) line ≡ drop p text
  same_further p = sym (drop-drop p place line) ∙ ap (drop p) at

  end_further : (token : Token) (tokens : List Token) → end_of (map (moved further) (token ∷ tokens)) ≡ place + end_of (token ∷ tokens)
  end_further token [] = omega arith
  end_further token (next ∷ tokens) = end_further next tokens

  pub text_further : (tokens : List Token) → text_of_tokens line (map (moved further) tokens) ≡ text_of_tokens text tokens
  text_further [] = refl
  text_further (token ∷ tokens) =
      let end = end_further token tokens in
      let count : end_of (map (moved further) (token ∷ tokens)) - (place + token.first) ≡ end_of (token ∷ tokens) - token.first = omega (arith, end) in
      ap (λ n. take n (drop (place + token.first) line)) count ∙ ap (take (end_of (token ∷ tokens) - token.first)) (same_further token.first)

  pub same_texts : (tokens : List Token) → AllByRecursion (HasSameText text line further) tokens
  same_texts [] = tt
  same_texts (token ∷ tokens) = (ap (take token.length) (same_further token.first), same_texts tokens)

-- ---- the shortest line

view_command : (ks : List TokenKind) → Derives (rules grammar.query) ks [] → IsCommand (kinds.Define ∷ kinds.View ∷ kinds.Name ∷ kinds.As ∷ ks)
unfolding rules
view_command ks query = this (that (that (this (this (this (part query nothing))))))

module _ (name text : List ℕ) (is : IsName name) where
  abbrev line : List ℕ
  line = shortest_view_line name text

  -- after the name
  abbrev behind : ℕ
  behind = 14 + length name

  at_name : drop behind line ≡ codes " AS " ++ text
  at_name = after_here line 14 name (codes " AS " ++ text) refl

  at_as : drop (behind + 1) line ≡ codes "AS" ++ codes " " ++ text
  at_as = sym (drop-drop 1 behind line) ∙ ap (drop 1) at_name

  at_last : drop (behind + 1 + 2) line ≡ codes " " ++ text
  at_last = after_here line (behind + 1) (codes "AS") (codes " " ++ text) at_as

  at_text : drop (behind + 1 + 2 + 1) line ≡ text
  at_text = sym (drop-drop 1 (behind + 1 + 2) line) ∙ ap (drop 1) at_last

  abbrev last : ℕ
  last = behind + 1 + 2 + 1

  abbrev move : ℕ → ℕ
  move = further line text last at_text

  abbrev tokens_of : List Token → List Token
  tokens_of tokens = token_here 2 (codes "DEFINE") kinds.Define ∷ token_here 9 (codes "VIEW") kinds.View ∷ token_here 14 name kinds.Name ∷ token_here (behind + 1) (codes "AS") kinds.As ∷ map (moved move) tokens

  line_cut : (tokens : List Token) → AreTokensFrom text 0 tokens → AreTokensFrom line 1 (tokens_of tokens)
  line_cut tokens cut =
      let rest = map (moved move) tokens in
      let query : AreTokensFrom line last rest =
      subst (λ p. AreTokensFrom line p rest) (omega arith) (moved_cut text line move 0 (λ p from. same_further line text last at_text p) (λ p count from. omega arith) (omega arith) cut) in
      blank_here line 1 _ _ refl
      (cut_here line 2 (codes "DEFINE") _ kinds.Define refl define_kind (ends_word (codes "DEFINE") _ (refl, refl)) _
      (blank_here line 8 _ _ refl
      (cut_here line 9 (codes "VIEW") _ kinds.View refl view_kind (ends_word (codes "VIEW") _ (refl, refl)) _
      (blank_here line 13 _ _ refl
      (cut_here line 14 name _ kinds.Name refl (name_kind name is) (ends_word name _ is.word) _
      (blank_here line behind _ _ at_name
      (cut_here line (behind + 1) (codes "AS") _ kinds.As at_as as_kind (ends_word (codes "AS") _ (refl, refl)) _
      (blank_here line (behind + 1 + 2) _ _ at_last query))))))))

  pub line_says : (query : QueryTree) → TextSaysQuery text query → ((tokens : List Token) → AreTokensFrom text 0 tokens → text_of_tokens text tokens ≡ text) → Reads line 1 (Ok (define_view name query text))
  line_says query by trim =
      let tokens = tokens_of by.tokens in
      let rest = map (moved move) by.tokens in
      let m = query_moved text line move by.written (subst (AreKept text line move) by.spelled (kept_of text line move by.tokens (same_texts line text last at_text by.tokens))) in
      let same_kinds : kinds_of rest ≡ kinds_of by.tokens = kinds_of-moved move by.tokens in
      let spelled : lexemes_of rest ≡ query_lexemes m.0 = lexemes_moved text line move by.tokens ∙ ap (moved_lexemes text line move) by.spelled ∙ sym m.1 in
      let name_token = token_here 14 name kinds.Name in
      let its_name : name ≡ token_text line name_token = sym (text_here line 14 name (codes " AS " ++ text) kinds.Name refl) in
      let its_text : text ≡ view_text line tokens = sym (text_further line text last at_text by.tokens ∙ trim by.tokens by.cut) in
      let written : IsWritten tokens (written_view name_token m.0) = record {
        command = view_command (kinds_of rest) (subst (λ ks. Derives (rules grammar.query) ks []) (sym same_kinds) by.derived);
        shallow = subst (λ ks. IsShallow ks) (sym same_kinds) by.shallow;
        spelled = ap (λ zs. mark kinds.Define ∷ mark kinds.View ∷ told kinds.Name name_token ∷ mark kinds.As ∷ zs) spelled;
      } in
      has_tokens tokens (Ok (define_view name query text)) (line_cut by.tokens by.cut)
      (is_command (written_view name_token m.0) (define_view name query text) written
      (query, m.2 query by.says, ap (λ n. define_view n query text) its_name ∙ ap (define_view (token_text line name_token) query) its_text))

pub shortest_says : (line : List ℕ) (from : ℕ) (name : List ℕ) (query : QueryTree) (text : List ℕ) → IsName name → Reads line from (Ok (define_view name query text))
    → Reads (shortest_view_line name text) 1 (Ok (define_view name query text))
shortest_says line from name query text is reads = line_says name text is query (view_says line from name query text reads) (view_whole line from name query text reads)
