-- The text of a view's query says that query by itself.
use Rattle.std.proofs.Common.{◌≡◌, ℕ, ◌-◌, true, false, List, [], ◌∷◌, length, take, drop, map, Ok, refl, sym, ap, ◌∙◌, subst, arith}
use Rattle.std.proofs.Math.Seq.{take-length}
use Rattle.std.specs.Prelude.{if◌then◌else◌}
use Rattle.std.proofs.lemmas.List.{drop-map}
use Rattle.rs_grammar.specs.declared.kind.TokenKind.{TokenKind}
use Rattle.rs_grammar.specs.declared.kind.TokenKind.TheVariants as kinds
use Rattle.rs_grammar.specs.Grammar as grammar
use Rattle.rs_grammar.specs.Grammar.{Form, fail, pick, rules, Derives, nothing, this, that, part, IsShallow}
use Rattle.rs_lexer.specs.declared.token.Token.{Token}
use Rattle.rs_lexer.specs.Lexis.{kinds_of, AreTokensFrom}
use Rattle.rs_lexer.proofs.CutLaws.{cut_same}
use Rattle.rs_syntax.specs.Tree.{QueryTree, define_view}
use Rattle.rs_syntax.specs.Written.{Lexeme, mark, told, has_text, lexeme_of, lexemes_of, QuerySyntax, query_lexemes, SaysQuery, end_of, text_of_tokens, Written, written_route, written_table, written_referent, written_index, written_view, written_alignment, written_move, written_drop_route, written_drop_table, written_drop_index, written_drop_view, written_drop_alignment, written_drop_referent, written_insert, written_remove, written_translate, written_select, written_total, written_explain, written_open, written_fetch, written_close, written_save, written_reopen, Says, view_text}
use Rattle.rs_syntax.specs.Verdict.{IsWritten, is_command, Reads, has_tokens}
use Rattle.rs_syntax_laws.specs.ViewTexts.{first_place, from_the_first, TextSaysQuery}
use Rattle.rs_syntax_laws.proofs.Cuts.{last_cut}
use Rattle.rs_syntax_laws.proofs.MovedTexts.{kinds_of-moved, text_cut, text_kept, text_ends}
use Rattle.rs_syntax_laws.proofs.MovedQueries.{lexemes_moved, kept_of, AreKept, query_moved}

-- the tokens of a view's query, in its text
pub view_cut : (line : List ℕ) (from : ℕ) (tokens : List Token) → AreTokensFrom line from tokens → AreTokensFrom (view_text line tokens) 0 (from_the_first (drop 4 tokens))
view_cut line from tokens cut = let last = last_cut line 4 from tokens cut in text_cut line last.0 (drop 4 tokens) last.1

pub view_ends : (line : List ℕ) (from : ℕ) (tokens : List Token) → AreTokensFrom line from tokens → end_of (from_the_first (drop 4 tokens)) ≡ length (view_text line tokens)
view_ends line from tokens cut = let last = last_cut line 4 from tokens cut in text_ends line last.0 (drop 4 tokens) last.1

-- The kinds of tokens, by their spelling.
kind_told : Lexeme → TokenKind
kind_told (mark kind) = kind
kind_told (told kind token) = kind

kinds_told : (tokens : List Token) → kinds_of tokens ≡ map kind_told (lexemes_of tokens)
unfolding kind_told
kinds_told [] = refl
kinds_told (token ∷ tokens) =
    let first : token.kind ≡ kind_told (lexeme_of token) =
    elim (has_text token.kind) as (λ b. token.kind ≡ kind_told (if b then told token.kind token else mark token.kind)) [ true ↦ refl | false ↦ refl ] in
    ap (λ k. k ∷ kinds_of tokens) first ∙ ap (λ ks. kind_told (lexeme_of token) ∷ ks) (kinds_told tokens)

-- a view's query is a query
view_derived : (ks : List TokenKind) → Derives (rules grammar.command) (kinds.Define ∷ kinds.View ∷ kinds.Name ∷ kinds.As ∷ ks) [] → Derives (rules grammar.query) ks []
unfolding rules
view_derived ks (this (that (that (this (this (this (part query nothing))))))) = query
view_derived ks (this (that (that (this (this (that none)))))) = elim none [ ]
view_derived ks (this (that (that (this (that none))))) = elim none [ ]
view_derived ks (this (that (that (that (that (that (that (that none)))))))) = elim none [ ]
view_derived ks (that (that (that (that (that (that (that (that (that (that (that (that (that (that none)))))))))))))) = elim none [ ]

-- tokens of a line that are spelled as a query, by themselves
alone : (line : List ℕ) (place : ℕ) (tokens : List Token) (written : QuerySyntax) (query : QueryTree) → AreTokensFrom line place tokens
    → Derives (rules grammar.query) (kinds_of tokens) [] → IsShallow (kinds_of tokens) → lexemes_of tokens ≡ query_lexemes written → SaysQuery line written query
    → TextSaysQuery (text_of_tokens line tokens) query
alone line place tokens written query cut derived shallow spelled says =
    let other = text_of_tokens line tokens in
    let move : ℕ → ℕ = λ p. p - first_place tokens in
    let same : kinds_of (from_the_first tokens) ≡ kinds_of tokens = kinds_of-moved move tokens in
    let m = query_moved line other move written (subst (AreKept line other move) spelled (kept_of line other move tokens (text_kept line place tokens cut))) in
    record {
      tokens = from_the_first tokens;
      cut = text_cut line place tokens cut;
      derived = subst (λ ks. Derives (rules grammar.query) ks []) (sym same) derived;
      shallow = subst (λ ks. IsShallow ks) (sym same) shallow;
      written = m.0;
      spelled = lexemes_moved line other move tokens ∙ ap (map _) spelled ∙ sym m.1;
      says = m.2 query says;
    }

-- what says that a view is defined is written as one
abbrev IsView : List ℕ → List Token → Written → QueryTree → List ℕ → Type 0
IsView line tokens written query text = (name : Token) × (w : QuerySyntax) × (written ≡ written_view name w) × SaysQuery line w query × (text ≡ view_text line tokens)

view_said : (line : List ℕ) (tokens : List Token) (name : List ℕ) (query : QueryTree) (text : List ℕ) (written : Written)
    → Says line tokens written (define_view name query text) → IsView line tokens written query text
view_said line tokens name query text (written_view n w) says =
    let e = says.2 in
    let tree : says.0 ≡ query = cc in
    let kept : text ≡ view_text line tokens = cc in
    (n, w, refl, subst (SaysQuery line w) tree says.1, kept)
view_said line tokens name query text (written_route n s f) says = let e = says.4 in absurd cc
view_said line tokens name query text (written_table k n cs) says = let e = says.2 in absurd cc
view_said line tokens name query text (written_referent r n p) says = let e = says.2 in absurd cc
view_said line tokens name query text (written_index n t c) says = absurd cc
view_said line tokens name query text (written_alignment n ps) says = let e = says.2 in absurd cc
view_said line tokens name query text (written_move r n p) says = let e = says.2 in absurd cc
view_said line tokens name query text (written_drop_route n) says = absurd cc
view_said line tokens name query text (written_drop_table n) says = absurd cc
view_said line tokens name query text (written_drop_index n) says = absurd cc
view_said line tokens name query text (written_drop_view n) says = absurd cc
view_said line tokens name query text (written_drop_alignment n) says = absurd cc
view_said line tokens name query text (written_drop_referent r n) says = absurd cc
view_said line tokens name query text (written_insert t r w vs) says = let e = says.4 in absurd cc
view_said line tokens name query text (written_remove t w c) says = let e = says.4 in absurd cc
view_said line tokens name query text (written_translate r p m) says = let e = says.2 in absurd cc
view_said line tokens name query text (written_select w m) says = let e = says.2 in absurd cc
view_said line tokens name query text (written_total w by summed) says = let e = says.2 in absurd cc
view_said line tokens name query text (written_explain w) says = let e = says.2 in absurd cc
view_said line tokens name query text (written_open n w m) says = let e = says.2 in absurd cc
view_said line tokens name query text (written_fetch n w) says = let e = says.2 in absurd cc
view_said line tokens name query text (written_close n) says = absurd cc
view_said line tokens name query text written_save says = absurd cc
view_said line tokens name query text written_reopen says = absurd cc

-- tokens that are spelled as a view's definition
of_view : (line : List ℕ) (from : ℕ) (tokens : List Token) (name : Token) (w : QuerySyntax) (query : QueryTree) → AreTokensFrom line from tokens
    → IsWritten tokens (written_view name w) → SaysQuery line w query → TextSaysQuery (view_text line tokens) query
unfolding kind_told
of_view line from tokens name w query cut is says =
    let query_kinds = map kind_told (query_lexemes w) in
    let all : kinds_of tokens ≡ kinds.Define ∷ kinds.View ∷ kinds.Name ∷ kinds.As ∷ query_kinds = kinds_told tokens ∙ ap (map kind_told) is.spelled in
    let last : query_kinds ≡ kinds_of (drop 4 tokens) = sym (ap (drop 4) all) ∙ drop-map (λ token. token.kind) 4 tokens in
    let spelled : lexemes_of (drop 4 tokens) ≡ query_lexemes w = sym (drop-map lexeme_of 4 tokens) ∙ ap (drop 4) is.spelled in
    let derived = view_derived query_kinds (subst (λ ks. Derives (rules grammar.command) ks []) all is.command) in
    let shallow : IsShallow query_kinds = subst (λ ks. IsShallow ks) all is.shallow in
    let place = last_cut line 4 from tokens cut in
    alone line place.0 (drop 4 tokens) w query place.1 (subst (λ ks. Derives (rules grammar.query) ks []) last derived) (subst (λ ks. IsShallow ks) last shallow) spelled says

said_by : (line : List ℕ) (from : ℕ) (name : List ℕ) (query : QueryTree) (text : List ℕ) (tokens : List Token) (written : Written) → AreTokensFrom line from tokens
    → IsWritten tokens written → Says line tokens written (define_view name query text) → TextSaysQuery text query
said_by line from name query text tokens written cut is says =
    let view = view_said line tokens name query text written says in
    subst (λ bytes. TextSaysQuery bytes query) (sym view.4) (of_view line from tokens view.0 view.1 query cut (subst (IsWritten tokens) view.2 is) view.3)

-- the text of a view that a line defines
pub view_says : (line : List ℕ) (from : ℕ) (name : List ℕ) (query : QueryTree) (text : List ℕ) → Reads line from (Ok (define_view name query text)) → TextSaysQuery text query
view_says line from name query text (has_tokens tokens answer cut (is_command written tree is says)) = said_by line from name query text tokens written cut is says

-- the tokens of a text that a line keeps begin with it, and end with it
pub nothing_around : (line : List ℕ) (place : ℕ) (tokens : List Token) → AreTokensFrom line place tokens → text_of_tokens (text_of_tokens line tokens) (from_the_first tokens) ≡ text_of_tokens line tokens
nothing_around line place [] cut = refl
nothing_around line place (token ∷ tokens) cut =
    let text = text_of_tokens line (token ∷ tokens) in
    let none : token.first - token.first ≡ 0 = omega arith in
    let all : end_of (from_the_first (token ∷ tokens)) ≡ length text = text_ends line place (token ∷ tokens) cut in
    let count : end_of (from_the_first (token ∷ tokens)) - (token.first - token.first) ≡ length text = omega (arith, all) in
    ap (λ n. take n (drop (token.first - token.first) text)) count ∙ ap (λ n. take (length text) (drop n text)) none ∙ take-length text

-- the text of a view that a line defines is all that its tokens take
pub view_whole : (line : List ℕ) (from : ℕ) (name : List ℕ) (query : QueryTree) (text : List ℕ) → Reads line from (Ok (define_view name query text))
    → (tokens : List Token) → AreTokensFrom text 0 tokens → text_of_tokens text tokens ≡ text
view_whole line from name query text (has_tokens tokens answer cut (is_command written tree is says)) others other =
    let kept : text ≡ view_text line tokens = (view_said line tokens name query text written says).4 in
    let last = last_cut line 4 from tokens cut in
    let same : others ≡ from_the_first (drop 4 tokens) = cut_same text other (from_the_first (drop 4 tokens)) (subst (λ bytes. AreTokensFrom bytes 0 (from_the_first (drop 4 tokens))) (sym kept) (view_cut line from tokens cut)) in
    subst (λ ts. text_of_tokens text ts ≡ text) (sym same) (subst (λ bytes. text_of_tokens bytes (from_the_first (drop 4 tokens)) ≡ bytes) (sym kept) (nothing_around line last.0 (drop 4 tokens) last.1))

-- it is the text of some tokens of the line
pub view_cut_out : (line : List ℕ) (from : ℕ) (name : List ℕ) (query : QueryTree) (text : List ℕ) → Reads line from (Ok (define_view name query text))
    → (place : ℕ) × (tokens : List Token) × AreTokensFrom line place tokens × (text ≡ text_of_tokens line tokens)
view_cut_out line from name query text (has_tokens tokens answer cut (is_command written tree is says)) =
    let last = last_cut line 4 from tokens cut in
    (last.0, drop 4 tokens, last.1, (view_said line tokens name query text written says).4)
