-- After SELECT a text says the query that it says by itself.
use Rattle.std.proofs.Common.{◌≡◌, ℕ, ◌+◌, ◌-◌, List, [], ◌∷◌, ◌++◌, take, drop, map, Some, None, Result, Ok, refl, sym, ap, ◌∙◌, subst, arith, append-nil}
use Rattle.std.specs.Prelude.{codes}
use Rattle.std.specs.List.{AllByRecursion}
use Rattle.std.proofs.Math.Seq.{take-append-add}
use Rattle.std.proofs.lemmas.List.{drop-drop}
use Rattle.rs_refusal.specs.declared.refusal.Refusal.{Refusal}
use Rattle.rs_grammar.specs.declared.kind.TokenKind.{TokenKind}
use Rattle.rs_grammar.specs.declared.kind.TokenKind.TheVariants as kinds
use Rattle.rs_grammar.specs.Grammar as grammar
use Rattle.rs_grammar.specs.Grammar.{rules, Derives, nothing, this, that, part, IsCommand, IsShallow}
use Rattle.rs_lexer.specs.declared.token.Token.{Token}
use Rattle.rs_lexer.specs.Lexis.{reserved, word_kind, token_kind, kinds_of, IsLongestToken, AreTokensFrom, at_blank, at_token}
use Rattle.rs_lexer.proofs.CutLaws.{token_at}
use Rattle.rs_methods.specs.declared.position.Method.TheVariants as methods
use Rattle.rs_syntax.specs.Tree.{QueryTree, CommandTree, select}
use Rattle.rs_syntax.specs.Written.{mark, lexemes_of, query_lexemes, written_select}
use Rattle.rs_syntax.specs.Verdict.{IsWritten, Reads, is_command, has_tokens}
use Rattle.rs_syntax_laws.specs.ViewTexts.{TextSaysQuery}
use Rattle.rs_syntax_laws.proofs.MovedTexts.{moved, kinds_of-moved, HasSameText, moved_cut}
use Rattle.rs_syntax_laws.proofs.MovedQueries.{lexemes_moved, moved_lexemes, kept_of, AreKept, query_moved}

abbrev pub selected : List ℕ → List ℕ
selected text = codes "SELECT " ++ text

-- what follows the word and a blank
abbrev further : ℕ → ℕ
further place = 7 + place

same : (text : List ℕ) (place : ℕ) → drop (further place) (selected text) ≡ drop place text
same text place = sym (drop-drop place 7 (selected text))

select_is : token_kind (codes "SELECT") ≡ Some kinds.Select
unfolding token_kind word_kind reserved
select_is = refl

no_longer : (text : List ℕ) → token_kind (selected text) ≡ None
unfolding token_kind
no_longer text = refl

select_longest : (text : List ℕ) → IsLongestToken (selected text) kinds.Select 6
select_longest text = record {
  inside = omega arith;
  token = select_is;
  longest = λ longer more within.
      let sum : longer ≡ 7 + (longer - 7) = omega arith in
      ap (λ n. token_kind (take n (selected text))) sum ∙ ap token_kind (take-append-add (codes "SELECT ") text (longer - 7)) ∙ no_longer (take (longer - 7) text);
}

abbrev tokens_of : List Token → List Token
tokens_of tokens = token_at kinds.Select 0 6 ∷ map (moved further) tokens

selected_cut : (text : List ℕ) (tokens : List Token) → AreTokensFrom text 0 tokens → AreTokensFrom (selected text) 0 (tokens_of tokens)
selected_cut text tokens cut =
    at_token kinds.Select 6 (select_longest text)
    (at_blank (omega arith) refl (moved_cut text (selected text) further 0 (λ place from. same text place) (λ place count from. omega arith) (omega arith) cut))

same_texts : (text : List ℕ) (tokens : List Token) → AllByRecursion (HasSameText text (selected text) further) tokens
same_texts text [] = tt
same_texts text (token ∷ tokens) = (ap (take token.length) (same text token.first), same_texts text tokens)

select_derived : (kinds_left : List TokenKind) → Derives (rules grammar.query) kinds_left [] → IsCommand (kinds.Select ∷ kinds_left)
unfolding rules
select_derived kinds_left query = that (that (that (that (that (that (this (part query (that nothing))))))))

pub selected_says : (text : List ℕ) (query : QueryTree) → TextSaysQuery text query → Reads (selected text) 0 (Ok (select query methods.Absolute))
selected_says text query by =
    let line = selected text in
    let tokens = tokens_of by.tokens in
    let m = query_moved text line further by.written (subst (AreKept text line further) by.spelled (kept_of text line further by.tokens (same_texts text by.tokens))) in
    let same_kinds : kinds_of (map (moved further) by.tokens) ≡ kinds_of by.tokens = kinds_of-moved further by.tokens in
    let spelled : lexemes_of (map (moved further) by.tokens) ≡ query_lexemes m.0 = lexemes_moved text line further by.tokens ∙ ap (moved_lexemes text line further) by.spelled ∙ sym m.1 in
    let is : IsWritten tokens (written_select m.0 None) = record {
      command = select_derived (kinds_of (map (moved further) by.tokens)) (subst (λ ks. Derives (rules grammar.query) ks []) (sym same_kinds) by.derived);
      shallow = subst (λ ks. IsShallow ks) (sym same_kinds) by.shallow;
      spelled = ap (λ zs. mark kinds.Select ∷ zs) (spelled ∙ sym (append-nil (query_lexemes m.0)));
    } in
    has_tokens tokens (Ok (select query methods.Absolute)) (selected_cut text by.tokens by.cut)
    (is_command (written_select m.0 None) (select query methods.Absolute) is (query, m.2 query by.says, refl))

abbrev pub HaveOneAnswer : Type 0
HaveOneAnswer = (line : List ℕ) (from : ℕ) (a b : Result CommandTree Refusal) → Reads line from a → Reads line from b → a ≡ b

-- a text says one query
pub one_query : HaveOneAnswer → (text : List ℕ) (a b : QueryTree) → TextSaysQuery text a → TextSaysQuery text b → a ≡ b
one_query one text a b p q =
    let same_answer : Ok (select a methods.Absolute) ≡ Ok (select b methods.Absolute) =
    one (selected text) 0 (Ok (select a methods.Absolute)) (Ok (select b methods.Absolute)) (selected_says text a p) (selected_says text b q) in
    cc
