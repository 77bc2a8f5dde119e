-- No line that defines a view is shorter than the shortest: words are apart, and so is the query.
use Rattle.std.proofs.Common.{◌≡◌, ◌∙◌, ℕ, zero, suc, ◌+◌, ◌-◌, ◌≤◌, Bool, true, false, ◌&&◌, List, [], ◌∷◌, ◌++◌, length, take, drop, map, Option, Some, None, is_some, Ok, refl, sym, ap, subst, eqb-true, length-append, length-drop, length-take-le, leb-true, arith}
use Rattle.std.specs.Prelude.{◌==◌, IfSome, codes, nat_le, nat_lt, unwrap_or, if◌then◌else◌}
use Rattle.std.specs.Char.{is_ascii_alphabetic, is_ascii_digit}
use Rattle.std.specs.List.{list_all}
use Rattle.std.specs.Str.{all_ascii_digits, bytes_eq}
use Rattle.std.proofs.Math.Seq.{drop-drop, take-add}
use Rattle.std.proofs.lemmas.Bool.{and_parts, and_from, false≢true, ltb-false}
use Rattle.std.proofs.lemmas.Bool.Decides.{nat_tests}
use Rattle.std.proofs.lemmas.Map.Text.{is_eq-slice_cmp}
use Rattle.rs_grammar.specs.Words.{is_word_byte}
use Rattle.rs_grammar.specs.declared.kind.TheConstants.{NAME_BYTES}
use Rattle.rs_grammar.specs.declared.kind.TokenKind.{TokenKind}
use Rattle.rs_grammar.specs.declared.kind.TokenKind.TheVariants as kinds
use Rattle.rs_lexer.specs.declared.token.Token.{Token}
use Rattle.rs_lexer.specs.Lexis.{AreTokensFrom, IsLongestToken, alone, at_blank, at_token, greater_kind, is_fraction, is_quoted_rest, kind_in, less_kind, reserved, single_kind, token_kind, token_text, word_kind}
use Rattle.rs_lexer.proofs.CutLaws.{has_a_byte}
use Rattle.rs_lexer.proofs.TokenLaws.{is_word}
use Rattle.rs_measure.specs.FixedPoint.{number_of_digits}
use Rattle.rs_refusal.specs.declared.refusal.Refusal.{Refusal}
use Rattle.rs_refusal.specs.declared.refusal.Refusal.TheVariants.{LineTooLong}
use Rattle.rs_facts.specs.Fact.{name_cmp}
use Rattle.rs_syntax.specs.Tree.{QueryTree, define_view}
use Rattle.rs_syntax.specs.Verdict.{Reads, has_tokens, is_command}
use Rattle.rs_syntax.specs.Written.{Lexeme, QuerySyntax, Says, Written, end_of, has_text, lexeme_of, mark, pair_kind, query_lexemes, spelling, text_of_tokens, told, view_text, written_alignment, written_close, written_dissolve, written_drop_alignment, written_drop_index, written_drop_referent, written_drop_route, written_drop_table, written_drop_view, written_explain, written_fetch, written_gaps, written_index, written_insert, written_move, written_name, written_open, written_pair, written_referent, written_remove, written_rename, written_reopen, written_route, written_save, written_select, written_table, written_total, written_transform, written_translate, written_view, written_where, written_window}
use Rattle.rs_syntax.specs.declared.written.PairOperator.{PairOperator}
use Rattle.rs_syntax.specs.declared.written.PairOperator.TheVariants as pair_operators
use Rattle.rs_syntax_laws.proofs.Cuts.{first_inside}
use Rattle.rs_machine.specs.declared.limits.TheConstants.{LINE_BYTES, SESSIONS}
use Rattle.rs_machine.specs.Request.{Asks, CARRIAGE_RETURN, SPACE, command, ends_number, has_session, without_return}
use Rattle.rs_machine_laws.specs.ViewLines.{shortest_view_line}
use Rattle.rs_machine_laws.proofs.Names.{none_some, same_name-true, some_same}

-- ---- what the kind of a token tells of its bytes

-- how many bytes the words have that stand before a view's query
abbrev pub least : TokenKind → ℕ
least kinds.Define = 6
least kinds.View = 4
least kinds.As = 2
least _ = 0

-- they, a name, and the words that a query begins with
abbrev pub is_word_kind : TokenKind → Bool
is_word_kind kinds.Define = true
is_word_kind kinds.View = true
is_word_kind kinds.As = true
is_word_kind kinds.Name = true
is_word_kind kinds.Where = true
is_word_kind kinds.Dissolve = true
is_word_kind kinds.Rename = true
is_word_kind kinds.Overlay = true
is_word_kind kinds.Cover = true
is_word_kind kinds.Merge = true
is_word_kind kinds.Minus = true
is_word_kind kinds.Window = true
is_word_kind kinds.Transform = true
is_word_kind kinds.Gaps = true
is_word_kind _ = false

pub record IsLike (text : List ℕ) (kind : TokenKind) : Type 0 where
  pub long : least kind ≤ length text
  pub word : is_word_kind kind ≡ true → is_word text ≡ true

abbrev Like : List ℕ → Option TokenKind → Type 0
Like text kind = IfSome kind (λ k. IsLike text k)

plain : (text : List ℕ) (kind : TokenKind) → least kind ≡ 0 → is_word_kind kind ≡ false → IsLike text kind
plain text kind none other = record { long = omega (arith, none); word = λ e. absurd (false≢true (sym other ∙ e)) }

like-if : (b : Bool) (x y : Option TokenKind) (text : List ℕ) → Like text x → Like text y → Like text (if b then x else y)
like-if true x y text p q = p
like-if false x y text p q = q

like-test : (b : Bool) (x y : Option TokenKind) (text : List ℕ) → (b ≡ true → Like text x) → Like text y → Like text (if b then x else y)
like-test true x y text p q = p refl
like-test false x y text p q = q

same_bytes : (a b : List ℕ) → bytes_eq a b ≡ true → a ≡ b
unfolding name_cmp
same_bytes a b e = same_name-true a b (is_eq-slice_cmp a b ∙ e)

in_rows : (rows : List (List ℕ × TokenKind)) (word : List ℕ) → is_word word ≡ true → list_all (λ row. nat_le (least row.1) (length row.0)) rows ≡ true → Like word (kind_in rows word)
in_rows [] word is all = tt
in_rows (row ∷ rows) word is all =
    let parts = and_parts (nat_le (least row.1) (length row.0)) (list_all (λ r. nat_le (least r.1) (length r.0)) rows) all in
    like-test (bytes_eq row.0 word) (Some row.1) (kind_in rows word) word
    (λ same. record { long = subst (λ t. least row.1 ≤ length t) (same_bytes row.0 word same) (leb-true (least row.1) (length row.0) parts.0); word = λ e. is })
    (in_rows rows word is parts.1)

reserved_long : list_all (λ row. nat_le (least row.1) (length row.0)) reserved ≡ true
unfolding reserved
reserved_long = refl

else_name : (word : List ℕ) (found : Option TokenKind) → is_word word ≡ true → Like word found → IsLike word (unwrap_or found (if nat_le (length word) NAME_BYTES then kinds.Name else kinds.LongWord))
else_name word (Some kind) is like = like
else_name word None is like = elim (nat_le (length word) NAME_BYTES) as (λ b. IsLike word (if b then kinds.Name else kinds.LongWord)) [
  | true ↦ record { long = omega arith; word = λ e. is }
  | false ↦ plain word kinds.LongWord refl refl
]

of_word : (word : List ℕ) → is_word word ≡ true → IsLike word (word_kind word)
unfolding word_kind
of_word word is = else_name word (kind_in reserved word) is (in_rows reserved word is reserved_long)

of_less : (bytes text : List ℕ) → Like text (less_kind bytes)
of_less [] text = plain text kinds.Less refl refl
of_less (byte ∷ []) text = like-if (byte == 61) _ _ text (plain text kinds.LessOrEqual refl refl) (like-if (byte == 62) _ _ text (plain text kinds.Unequal refl refl) tt)
of_less (byte ∷ other ∷ bytes) text = tt

of_greater : (bytes text : List ℕ) → Like text (greater_kind bytes)
of_greater [] text = plain text kinds.Greater refl refl
of_greater (byte ∷ []) text = like-if (byte == 61) _ _ text (plain text kinds.GreaterOrEqual refl refl) tt
of_greater (byte ∷ other ∷ bytes) text = tt

of_single : (byte : ℕ) (text : List ℕ) → Like text (single_kind byte)
of_single byte text =
    like-if (byte == 40) _ _ text (plain text kinds.LeftParen refl refl)
    (like-if (byte == 41) _ _ text (plain text kinds.RightParen refl refl)
    (like-if (byte == 44) _ _ text (plain text kinds.Comma refl refl)
    (like-if (byte == 61) _ _ text (plain text kinds.Equal refl refl)
    (like-if (byte == 43) _ _ text (plain text kinds.PlusSign refl refl)
    (like-if (byte == 45) _ _ text (plain text kinds.MinusSign refl refl)
    (like-if (byte == 64) _ _ text (plain text kinds.AtSign refl refl)
    (like-if (byte == 37) _ _ text (plain text kinds.PercentSign refl refl) tt)))))))

of_alone : (kind : Option TokenKind) (bytes text : List ℕ) → Like text kind → Like text (alone kind bytes)
of_alone kind [] text like = like
of_alone kind (byte ∷ bytes) text like = tt

of_token : (text : List ℕ) → Like text (token_kind text)
unfolding token_kind
of_token [] = tt
of_token (byte ∷ bytes) =
    let text = byte ∷ bytes in
    like-test (is_ascii_alphabetic byte) _ _ text
    (λ letter. like-test (list_all is_word_byte bytes) _ _ text (λ others. of_word text (and_from (is_ascii_alphabetic byte) (list_all is_word_byte bytes) letter others)) tt)
    (like-if (is_ascii_digit byte) _ _ text
    (like-if (list_all is_ascii_digit bytes) _ _ text (plain text kinds.Whole refl refl) (like-if (is_fraction bytes) _ _ text (plain text kinds.Decimal refl refl) tt))
    (like-if (byte == 39) _ _ text (like-if (is_quoted_rest false bytes) _ _ text (plain text kinds.Quoted refl refl) tt)
    (like-if (byte == 60) _ _ text (of_less bytes text)
    (like-if (byte == 62) _ _ text (of_greater bytes text) (of_alone (single_kind byte) bytes text (of_single byte text))))))

pub like : (text : List ℕ) (kind : TokenKind) → token_kind text ≡ Some kind → IsLike text kind
like text kind is = subst (Like text) is (of_token text)

letter_byte : (byte : ℕ) → is_ascii_alphabetic byte ≡ true → is_word_byte byte ≡ true
letter_byte byte is = grind (arith, nat_tests)

all_more : (bytes : List ℕ) (letter : ℕ) → list_all is_word_byte bytes ≡ true → is_word_byte letter ≡ true → list_all is_word_byte (bytes ++ letter ∷ []) ≡ true
all_more [] letter all is = and_from (is_word_byte letter) true is refl
all_more (byte ∷ bytes) letter all is =
    let parts = and_parts (is_word_byte byte) (list_all is_word_byte bytes) all in
    and_from (is_word_byte byte) (list_all is_word_byte (bytes ++ letter ∷ [])) parts.0 (all_more bytes letter parts.1 is)

blank_none : (bytes : List ℕ) → token_kind (SPACE ∷ bytes) ≡ None
unfolding token_kind
blank_none [] = refl
blank_none (byte ∷ bytes) = refl

blank_begins_none : (bytes : List ℕ) (kind : TokenKind) (count : ℕ) → IsLongestToken (SPACE ∷ bytes) kind count → ⊥
blank_begins_none bytes kind zero longest = let some = has_a_byte (SPACE ∷ bytes) kind zero longest in omega arith
blank_begins_none bytes kind (suc count) longest = none_some kind (sym (blank_none (take count bytes)) ∙ longest.token)

-- ---- where tokens begin

module _ (line : List ℕ) where
  pub begins_from : {place : ℕ} (token : Token) (tokens : List Token) → AreTokensFrom line place (token ∷ tokens) → place ≤ token.first
  begins_from token tokens (at_blank lt b rest) = let later = begins_from token tokens rest in omega arith
  begins_from token tokens (at_token kind count longest rest) = omega arith

  pub is_longest : {place : ℕ} (token : Token) (tokens : List Token) → AreTokensFrom line place (token ∷ tokens) → IsLongestToken (drop token.first line) token.kind token.length
  is_longest token tokens (at_blank lt b rest) = is_longest token tokens rest
  is_longest token tokens (at_token kind count longest rest) = longest

  pub goes_on : {place : ℕ} (token : Token) (tokens : List Token) → AreTokensFrom line place (token ∷ tokens) → AreTokensFrom line (token.first + token.length) tokens
  goes_on token tokens (at_blank lt b rest) = goes_on token tokens rest
  goes_on token tokens (at_token kind count longest rest) = rest

  -- its bytes are as its kind tells
  pub token_like : {place : ℕ} (token : Token) (tokens : List Token) → AreTokensFrom line place (token ∷ tokens) → IsLike (token_text line token) token.kind
  token_like token tokens cut = like (token_text line token) token.kind (is_longest token tokens cut).token

  pub token_long : {place : ℕ} (token : Token) (tokens : List Token) → AreTokensFrom line place (token ∷ tokens) → length (token_text line token) ≡ token.length
  token_long token tokens cut = length-take-le token.length (drop token.first line) (is_longest token tokens cut).inside

  -- no token begins at a blank, nor at the end
  pub after_number : {place : ℕ} (token : Token) (tokens : List Token) → ends_number (drop place line) ≡ true → AreTokensFrom line place (token ∷ tokens) → place + 1 ≤ token.first
  after_number token tokens ends (at_blank lt b rest) = begins_from token tokens rest
  after_number {place} token tokens ends (at_token kind count longest rest) = absurd (none (drop place line) ends longest)
    where
      none : (bytes : List ℕ) → ends_number bytes ≡ true → IsLongestToken bytes kind count → ⊥
      none [] ends longest = let some = has_a_byte [] kind count longest in let inside = longest.inside in omega arith
      none (byte ∷ bytes) ends longest = blank_begins_none bytes kind count (subst (λ b. IsLongestToken (b ∷ bytes) kind count) (eqb-true byte SPACE ends) longest)

  -- ---- words are apart

  first_letter : (count : ℕ) (bytes : List ℕ) → is_word (take count bytes) ≡ true → (letter : ℕ) × (more : List ℕ) × (bytes ≡ letter ∷ more) × (is_word_byte letter ≡ true)
  first_letter zero bytes is = absurd (false≢true is)
  first_letter (suc count) [] is = absurd (false≢true is)
  first_letter (suc count) (letter ∷ more) is = (letter, more, refl, letter_byte letter (and_parts (is_ascii_alphabetic letter) (list_all is_word_byte (take count more)) is).0)

  word_more : (word : List ℕ) (letter : ℕ) → is_word word ≡ true → is_word_byte letter ≡ true → is_some (token_kind (word ++ letter ∷ [])) ≡ true
  unfolding token_kind
  word_more [] letter is more = absurd (false≢true is)
  word_more (byte ∷ bytes) letter is more =
      let parts = and_parts (is_ascii_alphabetic byte) (list_all is_word_byte bytes) is in
      rw (parts.0, all_more bytes letter parts.1 more) refl

  not_some : (found : Option TokenKind) → found ≡ None → is_some found ≡ true → ⊥
  not_some found e is = false≢true (sym (ap is_some e) ∙ is)

  apart : (one other : Token) (tokens : List Token) → IsLongestToken (drop one.first line) one.kind one.length → is_word (token_text line one) ≡ true → is_word (token_text line other) ≡ true
      → AreTokensFrom line (one.first + one.length) (other ∷ tokens) → one.first + one.length + 1 ≤ other.first
  apart one other tokens longest is are (at_blank lt b rest) = begins_from other tokens rest
  apart one other tokens longest is are (at_token kind count next rest) =
      let found = first_letter count (drop (one.first + one.length) line) are in
      let after : drop one.length (drop one.first line) ≡ found.0 ∷ found.1 = drop-drop one.length one.first line ∙ found.2 in
      let inside : one.length + 1 ≤ length (drop one.first line) = omega (arith, length-drop one.length (drop one.first line), ap length after) in
      let longer : take (one.length + 1) (drop one.first line) ≡ token_text line one ++ found.0 ∷ [] =
      take-add one.length 1 (drop one.first line) ∙ ap (λ bytes. token_text line one ++ take 1 bytes) after in
      absurd (not_some (token_kind (token_text line one ++ found.0 ∷ [])) (ap token_kind (sym longer) ∙ longest.longest (one.length + 1) (omega arith) inside) (word_more (token_text line one) found.0 is found.3))

  pub words_apart : {place : ℕ} (one other : Token) (tokens : List Token) → AreTokensFrom line place (one ∷ other ∷ tokens) → is_word_kind one.kind ≡ true → is_word_kind other.kind ≡ true
      → one.first + one.length + 1 ≤ other.first
  words_apart one other tokens cut is are =
      let rest = goes_on one (other ∷ tokens) cut in
      apart one other tokens (is_longest one (other ∷ tokens) cut) ((token_like one (other ∷ tokens) cut).word is) ((token_like other tokens rest).word are) rest

-- ---- the tokens of a view's definition

kind_told : Lexeme → TokenKind
kind_told (mark kind) = kind
kind_told (told kind token) = kind

token_told : Token → Lexeme → Token
token_told other (mark kind) = other
token_told other (told kind token) = token

kind_same : (token : Token) → kind_told (lexeme_of token) ≡ token.kind
unfolding kind_told
kind_same token = elim (has_text token.kind) as (λ b. kind_told (if b then told token.kind token else mark token.kind) ≡ token.kind) [ true ↦ refl | false ↦ refl ]

token_same : (token : Token) → token.kind ≡ kinds.Name → token_told token (lexeme_of token) ≡ token
unfolding token_told
token_same token is = ap (λ b. token_told token (if b then told token.kind token else mark token.kind)) (ap has_text is)

abbrev first_kind : List Lexeme → TokenKind
first_kind [] = kinds.Comma
first_kind (lexeme ∷ lexemes) = kind_told lexeme

abbrev first_token : Token → List Lexeme → Token
first_token other [] = other
first_token other (lexeme ∷ lexemes) = token_told other lexeme

pair_word : (operator : PairOperator) → is_word_kind (pair_kind operator) ≡ true
pair_word pair_operators.Overlay = refl
pair_word pair_operators.Cover = refl
pair_word pair_operators.Merge = refl
pair_word pair_operators.Minus = refl

-- a query begins with a word
query_word : (query : QuerySyntax) → is_word_kind (first_kind (query_lexemes query)) ≡ true
unfolding kind_told
query_word (written_name name) = refl
query_word (written_where query condition) = refl
query_word (written_dissolve query names) = refl
query_word (written_rename query from to) = refl
query_word (written_pair operator left right) = pair_word operator
query_word (written_window query window) = refl
query_word (written_transform query alignment) = refl
query_word (written_gaps query) = refl

length-most : (n : ℕ) (bytes : List ℕ) → length (take n bytes) ≤ length bytes
length-most zero bytes = omega arith
length-most (suc n) [] = omega arith
length-most (suc n) (byte ∷ bytes) = let rest = length-most n bytes in omega arith

shortest_long : (name text : List ℕ) → length (shortest_view_line name text) ≡ length name + length text + 18
shortest_long name text = omega (arith, length-append (codes "0 DEFINE VIEW ") (name ++ (codes " AS " ++ text)), length-append name (codes " AS " ++ text), length-append (codes " AS ") text)

module _ (line : List ℕ) where
  -- what follows AS and has a word first is a blank further at least
  rest_fits : {place : ℕ} (last : Token) (tokens : List Token) (query : QuerySyntax) → AreTokensFrom line place (last ∷ tokens) → last.kind ≡ kinds.As → map lexeme_of tokens ≡ query_lexemes query
      → last.first + length (text_of_tokens line tokens) + 3 ≤ length line
  unfolding kind_told
  rest_fits last [] query cut is spelled = absurd (false≢true (ap is_word_kind (ap first_kind spelled) ∙ query_word query))
  rest_fits last (first ∷ others) query cut is spelled =
      let kind : first.kind ≡ first_kind (query_lexemes query) = sym (kind_same first) ∙ ap first_kind spelled in
      let apart = words_apart line last first others cut (ap is_word_kind is) (ap is_word_kind kind ∙ query_word query) in
      let long = (token_like line last (first ∷ others) cut).long in
      let two : 2 ≤ last.length = subst (λ k. least k ≤ last.length) is (subst (λ n. least last.kind ≤ n) (token_long line last (first ∷ others) cut) long) in
      let inside = first_inside line first others (goes_on line last (first ∷ others) cut) in
      omega (arith, length-most (end_of (first ∷ others) - first.first) (drop first.first line), length-drop first.first line)

  view_fits : {place : ℕ} (tokens : List Token) (name : Token) (query : QuerySyntax) → ends_number (drop place line) ≡ true → 1 ≤ place → AreTokensFrom line place tokens
      → map lexeme_of tokens ≡ spelling (written_view name query) → length (token_text line name) + length (view_text line tokens) + 18 ≤ length line
  unfolding kind_told token_told
  view_fits [] name query ends some cut spelled = absurd cc
  view_fits (define ∷ []) name query ends some cut spelled = absurd cc
  view_fits (define ∷ view ∷ []) name query ends some cut spelled = absurd cc
  view_fits (define ∷ view ∷ named ∷ []) name query ends some cut spelled = absurd cc
  view_fits (define ∷ view ∷ named ∷ last ∷ tokens) name query ends some cut spelled =
      let first : define.kind ≡ kinds.Define = sym (kind_same define) ∙ ap first_kind spelled in
      let second : view.kind ≡ kinds.View = sym (kind_same view) ∙ ap (λ ls. first_kind (drop 1 ls)) spelled in
      let third : named.kind ≡ kinds.Name = sym (kind_same named) ∙ ap (λ ls. first_kind (drop 2 ls)) spelled in
      let fourth : last.kind ≡ kinds.As = sym (kind_same last) ∙ ap (λ ls. first_kind (drop 3 ls)) spelled in
      let same : named ≡ name = sym (token_same named third) ∙ ap (λ ls. first_token named (drop 2 ls)) spelled in
      let after_define = goes_on line define (view ∷ named ∷ last ∷ tokens) cut in
      let after_view = goes_on line view (named ∷ last ∷ tokens) after_define in
      let after_name = goes_on line named (last ∷ tokens) after_view in
      let begins = after_number line define (view ∷ named ∷ last ∷ tokens) ends cut in
      let one = words_apart line define view (named ∷ last ∷ tokens) cut (ap is_word_kind first) (ap is_word_kind second) in
      let two = words_apart line view named (last ∷ tokens) after_define (ap is_word_kind second) (ap is_word_kind third) in
      let three = words_apart line named last tokens after_view (ap is_word_kind third) (ap is_word_kind fourth) in
      let six : 6 ≤ define.length = subst (λ k. least k ≤ define.length) first (subst (λ n. least define.kind ≤ n) (token_long line define _ cut) (token_like line define _ cut).long) in
      let four : 4 ≤ view.length = subst (λ k. least k ≤ view.length) second (subst (λ n. least view.kind ≤ n) (token_long line view _ after_define) (token_like line view _ after_define).long) in
      let long : length (token_text line name) ≡ named.length = ap (λ t. length (token_text line t)) (sym same) ∙ token_long line named _ after_view in
      let rest = rest_fits last tokens query after_name fourth (ap (drop 4) spelled) in
      omega (arith, long, rest)

-- what says that a view is defined is written as one
abbrev IsWrittenView : List ℕ → List Token → Written → List ℕ → List ℕ → Type 0
IsWrittenView line tokens written name text = (token : Token) × (query : QuerySyntax) × (written ≡ written_view token query) × (name ≡ token_text line token) × (text ≡ view_text line tokens)

view_written : (line : List ℕ) (tokens : List Token) (name : List ℕ) (query : QueryTree) (text : List ℕ) (written : Written)
    → Says line tokens written (define_view name query text) → IsWrittenView line tokens written name text
view_written line tokens name query text (written_view token w) says =
    let e = says.2 in
    let named : name ≡ token_text line token = cc in
    let kept : text ≡ view_text line tokens = cc in
    (token, w, refl, named, kept)
view_written line tokens name query text (written_route n s f) says = let e = says.4 in absurd cc
view_written line tokens name query text (written_table k n cs) says = let e = says.2 in absurd cc
view_written line tokens name query text (written_referent r n p) says = let e = says.2 in absurd cc
view_written line tokens name query text (written_index n t c) says = absurd cc
view_written line tokens name query text (written_alignment n ps) says = let e = says.2 in absurd cc
view_written line tokens name query text (written_move r n p) says = let e = says.2 in absurd cc
view_written line tokens name query text (written_drop_route n) says = absurd cc
view_written line tokens name query text (written_drop_table n) says = absurd cc
view_written line tokens name query text (written_drop_index n) says = absurd cc
view_written line tokens name query text (written_drop_view n) says = absurd cc
view_written line tokens name query text (written_drop_alignment n) says = absurd cc
view_written line tokens name query text (written_drop_referent r n) says = absurd cc
view_written line tokens name query text (written_insert t r w vs) says = let e = says.4 in absurd cc
view_written line tokens name query text (written_remove t w c) says = let e = says.4 in absurd cc
view_written line tokens name query text (written_translate r p m) says = let e = says.2 in absurd cc
view_written line tokens name query text (written_select w m) says = let e = says.2 in absurd cc
view_written line tokens name query text (written_total w by summed) says = let e = says.2 in absurd cc
view_written line tokens name query text (written_explain w) says = let e = says.2 in absurd cc
view_written line tokens name query text (written_open n w m) says = let e = says.2 in absurd cc
view_written line tokens name query text (written_fetch n w) says = let e = says.2 in absurd cc
view_written line tokens name query text (written_close n) says = absurd cc
view_written line tokens name query text written_save says = absurd cc
view_written line tokens name query text written_reopen says = absurd cc

-- the text of a line after its session has room for the words, the name and the query
fits_after : (line : List ℕ) (place : ℕ) (name : List ℕ) (query : QueryTree) (text : List ℕ) → ends_number (drop place line) ≡ true → 1 ≤ place → Reads line place (Ok (define_view name query text))
    → length (shortest_view_line name text) ≤ length line
fits_after line place name query text ends some (has_tokens tokens answer cut (is_command written tree is says)) =
    let view = view_written line tokens name query text written says in
    let spelled : map lexeme_of tokens ≡ spelling (written_view view.0 view.1) = is.spelled ∙ ap spelling view.2 in
    let fits = view_fits line tokens view.0 view.1 ends some cut spelled in
    omega (arith, fits, shortest_long name text, ap length view.3, ap length view.4)

-- ---- the line with its session and its CR

ends_at : (digits : ℕ) (text : List ℕ) → has_session digits text ≡ true → ends_number (drop digits text) ≡ true
ends_at digits text e = (and_parts (length (take digits text) == digits && all_ascii_digits (take digits text) && nat_lt (number_of_digits (take digits text)) SESSIONS) (ends_number (drop digits text)) e).1

session_ends : (text : List ℕ) (digits : ℕ) (one two : Bool) → has_session 1 text ≡ one → has_session 2 text ≡ two → (if one then Some 1 else if two then Some 2 else None) ≡ Some digits
    → (1 ≤ digits) × (ends_number (drop digits text) ≡ true)
session_ends text digits true two is_one is_two e = subst (λ d. (1 ≤ d) × (ends_number (drop d text) ≡ true)) (some_same 1 digits e) (omega arith, ends_at 1 text is_one)
session_ends text digits false true is_one is_two e = subst (λ d. (1 ≤ d) × (ends_number (drop d text) ≡ true)) (some_same 2 digits e) (omega arith, ends_at 2 text is_two)
session_ends text digits false false is_one is_two e = none_some digits e

no_longer : (line : List ℕ) → length (without_return line) ≤ length line
no_longer [] = omega arith
no_longer (byte ∷ []) = elim (byte == CARRIAGE_RETURN) as (λ b. length (if b then [] else byte ∷ []) ≤ 1) [ true ↦ omega arith | false ↦ omega arith ]
no_longer (byte ∷ next ∷ bytes) = let rest = no_longer (next ∷ bytes) in omega arith

within : (long : Bool) (rest : Option Refusal) → (if long then Some LineTooLong else rest) ≡ None → long ≡ false
within true rest e = none_some LineTooLong (sym e)
within false rest e = refl

-- a line that defines the view is no shorter than the shortest, which so is no longer than a line may be
pub shortest_fits : (line : List ℕ) (session : ℕ) (name : List ℕ) (query : QueryTree) (text : List ℕ) → Asks line (command session (define_view name query text)) → length (shortest_view_line name text) ≤ LINE_BYTES
shortest_fits line session name query text asks =
    let whole = without_return line in
    let ends = session_ends whole asks.digits (has_session 1 whole) (has_session 2 whole) refl refl asks.begins.begins in
    let fits = fits_after whole asks.digits name query text ends.1 ends.0 asks.reads in
    let most = ltb-false LINE_BYTES (length line) (within (nat_lt LINE_BYTES (length line)) _ asks.begins.is_readable) in
    omega (arith, no_longer line)
