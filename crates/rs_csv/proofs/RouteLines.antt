-- The line that defines a route asks it.
use Rattle.std.proofs.Common.{◌≡◌, ◌∙◌, ℕ, ◌+◌, ◌/◌, ◌%◌, ◌<◌, ◌≤◌, true, false, List, [], ◌∷◌, ◌++◌, length, drop, Some, Ok, refl, sym, ap, subst, append_assoc, append-nil, length-append, length-drop, arith}
use Rattle.std.specs.Prelude.{codes, if◌then◌else◌, nat_lt, IsUtf8}
use Rattle.std.proofs.Math.Seq.{drop-append_seam}
use Rattle.rs_grammar.specs.declared.kind.TokenKind.TheVariants as kinds
use Rattle.rs_grammar.specs.Grammar.{IsCommand, nothing, part, rules, that, this}
use Rattle.rs_lexer.specs.declared.token.Token.{Token}
use Rattle.rs_lexer.specs.Lexis.{AreTokensFrom, at_end, kinds_of, reserved, token_kind, token_text, word_kind}
use Rattle.rs_machine.specs.declared.limits.TheConstants.{LINE_BYTES}
use Rattle.rs_machine.specs.Request.{Asks, command}
use Rattle.rs_measure.specs.Measure.{IsMeasure, SaysMeasure, measure_text}
use Rattle.rs_measure.proofs.MeasureText.{length-measure_text-le, says_measure_text}
use Rattle.rs_syntax.specs.Sound.{IsName}
use Rattle.rs_syntax.specs.Tree.{define_route}
use Rattle.rs_syntax.specs.Verdict.{Reads, has_tokens, is_command}
use Rattle.rs_syntax.specs.Written.{written_route}
use Rattle.rs_csv_lines.specs.Texts.{session_text}
use Rattle.rs_csv_lines.proofs.Clean.{IsClean, clean_append, is_clean_text, measure_clean, name_clean, session_clean}
use Rattle.rs_csv_lines.proofs.Cuts.{after_word, blank, from_kind, to_kind, token_here, word_here, word_text}
use Rattle.rs_csv_lines.proofs.Inserts.{kind_of_name}
use Rattle.rs_csv_lines.proofs.NumberTexts.{printed_measure}
use Rattle.rs_csv_lines.proofs.Sessions.{words_ask}
use Rattle.rs_csv.specs.Routes.{route_line}

define_kind : token_kind (codes "DEFINE") ≡ Some kinds.Define
unfolding token_kind word_kind reserved
define_kind = refl

route_kind : token_kind (codes "ROUTE") ≡ Some kinds.Route
unfolding token_kind word_kind reserved
route_kind = refl

-- what was put into it, part by part
regroup : (s d n f a t b : List ℕ) → (((((s ++ d) ++ n) ++ f) ++ a) ++ t) ++ b ≡ s ++ (d ++ (n ++ (f ++ (a ++ (t ++ b)))))
regroup s d n f a t b = simp append_assoc

pub whole_route : (session : ℕ) (name : List ℕ) (start finish : ℕ) (l0 l1 l2 l3 l4 l5 l6 l7 : List ℕ) → l0 ≡ [] → l1 ≡ l0 ++ session_text session → l2 ≡ l1 ++ codes " DEFINE ROUTE " → l3 ≡ l2 ++ name → l4 ≡ l3 ++ codes " FROM "
    → l5 ≡ l4 ++ measure_text start → l6 ≡ l5 ++ codes " TO " → l7 ≡ l6 ++ measure_text finish → l7 ≡ route_line session name start finish
whole_route session name start finish l0 l1 l2 l3 l4 l5 l6 l7 e0 e1 e2 e3 e4 e5 e6 e7 =
    e7 ∙ ap (λ l. l ++ measure_text finish) (e6 ∙ ap (λ l. l ++ codes " TO ") (e5 ∙ ap (λ l. l ++ measure_text start) (e4 ∙ ap (λ l. l ++ codes " FROM ")
    (e3 ∙ ap (λ l. l ++ name) (e2 ∙ ap (λ l. l ++ codes " DEFINE ROUTE ") (e1 ∙ ap (λ l. l ++ session_text session) e0))))))
    ∙ regroup (session_text session) (codes " DEFINE ROUTE ") name (codes " FROM ") (measure_text start) (codes " TO ") (measure_text finish)

session_length : (session : ℕ) → length (session_text session) ≤ 2
session_length session =
    elim (nat_lt session 10) as (λ b. length (if b then (48 + session) ∷ [] else (48 + session / 10) ∷ (48 + session % 10) ∷ []) ≤ 2) [ true ↦ omega arith | false ↦ omega arith ]

module _ (session : ℕ) (name : List ℕ) (start finish : ℕ) (few : session < 64) (is_name : IsName name) (low : IsMeasure start) (high : IsMeasure finish) where
  abbrev line : List ℕ
  line = route_line session name start finish

  abbrev first : ℕ
  first = length (session_text session)

  -- ---- what follows each word

  abbrev after_to : List ℕ
  after_to = 32 ∷ (measure_text finish ++ [])

  abbrev after_start : List ℕ
  after_start = 32 ∷ (codes "TO" ++ after_to)

  abbrev after_from : List ℕ
  after_from = 32 ∷ (measure_text start ++ after_start)

  abbrev after_name : List ℕ
  after_name = 32 ∷ (codes "FROM" ++ after_from)

  abbrev after_route : List ℕ
  after_route = 32 ∷ (name ++ after_name)

  -- and where
  abbrev name_place : ℕ
  name_place = first + 1 + 6 + 1 + 5

  abbrev from_place : ℕ
  from_place = name_place + 1 + length name

  abbrev start_place : ℕ
  start_place = from_place + 1 + 4

  abbrev to_place : ℕ
  to_place = start_place + 1 + length (measure_text start)

  abbrev finish_place : ℕ
  finish_place = to_place + 1 + 2

  p0 : drop first line ≡ 32 ∷ (codes "DEFINE" ++ (32 ∷ (codes "ROUTE" ++ after_route)))
  p0 = drop-append_seam (session_text session) _ ∙ ap (λ t. codes " DEFINE ROUTE " ++ (name ++ (codes " FROM " ++ (measure_text start ++ (codes " TO " ++ t))))) (sym (append-nil (measure_text finish)))

  p1 : drop (first + 1 + 6) line ≡ 32 ∷ (codes "ROUTE" ++ after_route)
  p1 = after_word line first (codes "DEFINE") (32 ∷ (codes "ROUTE" ++ after_route)) p0

  p2 : drop name_place line ≡ after_route
  p2 = after_word line (first + 1 + 6) (codes "ROUTE") after_route p1

  p3 : drop from_place line ≡ after_name
  p3 = after_word line name_place name after_name p2

  p4 : drop start_place line ≡ after_from
  p4 = after_word line from_place (codes "FROM") after_from p3

  p5 : drop to_place line ≡ after_start
  p5 = after_word line start_place (measure_text start) after_start p4

  p6 : drop finish_place line ≡ after_to
  p6 = after_word line to_place (codes "TO") after_to p5

  p7 : drop (finish_place + 1 + length (measure_text finish)) line ≡ []
  p7 = after_word line finish_place (measure_text finish) [] p6

  -- ---- the tokens

  abbrev name_token : Token
  name_token = token_here (name_place + 1) name kinds.Name

  abbrev start_token : Token
  start_token = token_here (start_place + 1) (measure_text start) kinds.Decimal

  abbrev finish_token : Token
  finish_token = token_here (finish_place + 1) (measure_text finish) kinds.Decimal

  abbrev tokens : List Token
  tokens =
      token_here (first + 1) (codes "DEFINE") kinds.Define ∷ token_here (first + 1 + 6 + 1) (codes "ROUTE") kinds.Route ∷ name_token
      ∷ token_here (from_place + 1) (codes "FROM") kinds.From ∷ start_token ∷ token_here (to_place + 1) (codes "TO") kinds.To ∷ finish_token ∷ []

  line_cut : AreTokensFrom line first tokens
  line_cut =
      word_here line first (codes "DEFINE") (32 ∷ (codes "ROUTE" ++ after_route)) kinds.Define p0 define_kind blank _
      (word_here line (first + 1 + 6) (codes "ROUTE") after_route kinds.Route p1 route_kind blank _
      (word_here line name_place name after_name kinds.Name p2 (kind_of_name name is_name) blank _
      (word_here line from_place (codes "FROM") after_from kinds.From p3 from_kind blank _
      (word_here line start_place (measure_text start) after_start kinds.Decimal p4 (printed_measure start low) blank _
      (word_here line to_place (codes "TO") after_to kinds.To p5 to_kind blank _
      (word_here line finish_place (measure_text finish) [] kinds.Decimal p6 (printed_measure finish high) tt _
      (at_end (omega (arith, length-drop (finish_place + 1 + length (measure_text finish)) line, ap length p7)))))))))

  is_route : IsCommand (kinds_of tokens)
  unfolding rules
  is_route = this (this (this (this (part (that (this nothing)) (this (part (that (this nothing)) nothing))))))

  -- ---- the line

  reads : Reads line first (Ok (define_route name start finish))
  reads =
      let name_said : token_text line name_token ≡ name = word_text line name_place name after_name kinds.Name p2 in
      let start_said : token_text line start_token ≡ measure_text start = word_text line start_place (measure_text start) after_start kinds.Decimal p4 in
      let finish_said : token_text line finish_token ≡ measure_text finish = word_text line finish_place (measure_text finish) [] kinds.Decimal p6 in
      has_tokens tokens (Ok (define_route name start finish)) line_cut
      (is_command (written_route name_token start_token finish_token) (define_route name start finish) (record { command = is_route; shallow = refl; spelled = refl }) (
        start,
        finish,
        subst (λ t. SaysMeasure t start) (sym start_said) (says_measure_text start low),
        subst (λ t. SaysMeasure t finish) (sym finish_said) (says_measure_text finish high),
        ap (λ n. define_route n start finish) (sym name_said),
      ))

  is_short : length line ≤ LINE_BYTES
  is_short =
      let tail : List ℕ = codes " TO " ++ measure_text finish in
      let back : List ℕ = codes " FROM " ++ (measure_text start ++ tail) in
      let one : length (session_text session) ≤ 2 = session_length session in
      let two : length name ≤ 32 = is_name.short in
      let three : length (measure_text start) ≤ 10 = length-measure_text-le start low in
      let four : length (measure_text finish) ≤ 10 = length-measure_text-le finish high in
      omega (arith, length-append (session_text session) (codes " DEFINE ROUTE " ++ (name ++ back)), length-append name back, length-append (measure_text start) tail)

  is_clean : IsClean line
  is_clean =
      let tail : List ℕ = codes " TO " ++ measure_text finish in
      let back : List ℕ = codes " FROM " ++ (measure_text start ++ tail) in
      clean_append (session_text session) (codes " DEFINE ROUTE " ++ (name ++ back)) (session_clean session few)
      (clean_append (codes " DEFINE ROUTE ") (name ++ back) refl (clean_append name back (name_clean name is_name.word)
      (clean_append (codes " FROM ") (measure_text start ++ tail) refl (clean_append (measure_text start) tail (measure_clean start low)
      (clean_append (codes " TO ") (measure_text finish) refl (measure_clean finish high))))))

  pub route_asks : IsUtf8 line → Asks line (command session (define_route name start finish))
  route_asks utf8 =
      words_ask line session first (codes "DEFINE ROUTE " ++ (name ++ (codes " FROM " ++ (measure_text start ++ (codes " TO " ++ measure_text finish))))) (define_route name start finish) few is_short
      (is_clean_text line utf8 is_clean) refl refl reads
