-- The lines of routes, referents and indexes.
use Rattle.std.proofs.Common.{◌≡◌, ◌∙◌, ℕ, ◌%◌, Bool, true, false, List, [], ◌∷◌, ◌++◌, get_or, Some, refl, sym, ap, subst, arith, append-nil}
use Rattle.std.specs.Prelude.{◌==◌, ◌&&◌, codes, if◌then◌else◌}
use Rattle.std.specs.List.{list_all}
use Rattle.rs_grammar.specs.Words.{is_word_byte}
use Rattle.rs_methods.specs.PositionText.{IsWord}
use Rattle.rs_grammar.specs.declared.kind.TokenKind.{TokenKind}
use Rattle.rs_grammar.specs.declared.kind.TokenKind.TheVariants as kinds
use Rattle.rs_grammar.specs.Grammar as grammar
use Rattle.rs_grammar.specs.Grammar.{Derives, IsCommand, is_shallow, nothing, part, rules, that, this}
use Rattle.rs_lexer.specs.declared.token.Token.{Token}
use Rattle.rs_lexer.specs.Lexis.{reserved, token_kind, token_text, word_kind}
use Rattle.rs_measure.specs.Measure.{SaysMeasure}
use Rattle.rs_methods.specs.Position.{absolute}
use Rattle.rs_syntax.specs.declared.written.WrittenPosition.TheVariants as written_positions
use Rattle.rs_syntax.specs.Sound.{IsMeasure, IsName}
use Rattle.rs_syntax.specs.Tree.{define_index, define_referent, define_route}
use Rattle.rs_syntax.specs.Written.{has_text, mark as marked, SaysPosition, told, written_index, written_referent, written_route}
use Rattle.rs_machine.specs.Request.{Asks, command}
use Rattle.rs_machine_laws.specs.ViewLines.{IsReadable}
use Rattle.rs_csv_lines.proofs.Cuts.{Stops, token_here, at_word_kind, blank, closing, from_kind, on_kind, to_kind}
use Rattle.rs_csv_lines.proofs.Inserts.{kind_of_name}
use Rattle.rs_csv_lines.proofs.Lexemes.{flat_told, told_piece}
use Rattle.rs_dump_laws.specs.Lines.{IsSaid, dump_line, shortest_text}
use Rattle.rs_dump_lines.proofs.MeasureTexts.{measure_kind, measure_text_is}
use Rattle.rs_dump_lines.proofs.Words.{AreCut, Word, closing_bracket, ending, next, none, opening_bracket, asks_it, kinds_at, kinds_in, mark, tokens_at, word, words_said, words_text}

-- ---- words

pub define_kind : token_kind (codes "DEFINE") ≡ Some kinds.Define
unfolding token_kind word_kind reserved
define_kind = refl

route_kind : token_kind (codes "ROUTE") ≡ Some kinds.Route
unfolding token_kind word_kind reserved
route_kind = refl

referent_kind : token_kind (codes "REFERENT") ≡ Some kinds.Referent
unfolding token_kind word_kind reserved
referent_kind = refl

index_kind : token_kind (codes "INDEX") ≡ Some kinds.Index
unfolding token_kind word_kind reserved
index_kind = refl

-- ---- measures

abbrev pub measure_word : ℕ → Word
measure_word k = word (shortest_text k) (measure_kind k)

pub measure_has_text : (k : ℕ) → has_text (measure_kind k) ≡ true
measure_has_text k = elim (k % 1000 == 0) as (λ b. has_text (if b then kinds.Whole else kinds.Decimal) ≡ true) [ true ↦ refl | false ↦ refl ]

pub measure_derived : (k : ℕ) (others : List TokenKind) → Derives (rules grammar.measure) (measure_kind k ∷ others) others
unfolding rules
measure_derived k others = elim (k % 1000 == 0) as (λ b. Derives (rules grammar.measure) ((if b then kinds.Whole else kinds.Decimal) ∷ others) others) [ true ↦ this nothing | false ↦ that (this nothing) ]

pub measure_said : (line : List ℕ) (token : Token) (k : ℕ) → IsMeasure k → token_text line token ≡ shortest_text k → SaysMeasure (token_text line token) k
measure_said line token k few said = subst (λ t. SaysMeasure t k) (sym said) (measure_text_is k few).says

-- a name ends at an opening bracket
and_right : (a b : Bool) → b ≡ false → (a && b) ≡ false
and_right true b e = e
and_right false b e = refl

not_all_word : (letters more : List ℕ) → list_all is_word_byte (letters ++ 40 ∷ more) ≡ false
not_all_word [] more = refl
not_all_word (l ∷ ls) more = and_right (is_word_byte l) _ (not_all_word ls more)

pub word_at_bracket : (text rest : List ℕ) → IsWord text → Stops text (40 ∷ rest)
unfolding token_kind
word_at_bracket [] rest is = absurd is
word_at_bracket (letter ∷ bytes) rest is = λ more. rw (is.0, not_all_word bytes more) refl

-- a name before an opening bracket
pub name_at_bracket : {blank : Bool} {name : List ℕ} {ws : List Word} {after : List ℕ} → IsName name → AreCut (mark (codes "(") kinds.LeftParen ∷ ws) after
    → AreCut (record { blank = blank; text = name; kind = kinds.Name } ∷ mark (codes "(") kinds.LeftParen ∷ ws) after
name_at_bracket {blank} {name} {ws} {after} is more = next (kind_of_name name is) (word_at_bracket name (words_text ws ++ after) is.word) more

-- a measure as a position
pub position_of : (line : List ℕ) (token : Token) (k : ℕ) → IsMeasure k → token_text line token ≡ shortest_text k → SaysPosition line (written_positions.Measure token) (absolute k)
position_of line token k few said = (k, measure_said line token k few said, refl)

-- ---- a route

module _ (name : List ℕ) (start finish : ℕ) where
  abbrev route_words : List Word
  route_words =
      word (codes "DEFINE") kinds.Define ∷ word (codes "ROUTE") kinds.Route ∷ word name kinds.Name
      ∷ word (codes "FROM") kinds.From ∷ measure_word start ∷ word (codes "TO") kinds.To ∷ measure_word finish ∷ []

  abbrev route_line : List ℕ
  route_line = 48 ∷ words_text route_words

  route_text : dump_line (define_route name start finish) ≡ route_line
  route_text = ap (λ t. codes "0 DEFINE ROUTE " ++ (name ++ (codes " FROM " ++ (shortest_text start ++ (codes " TO " ++ t))))) (sym (append-nil (shortest_text finish)))

  route_cut : IsName name → IsMeasure start → IsMeasure finish → AreCut route_words []
  route_cut is low high =
      ending define_kind blank (ending route_kind blank (ending (kind_of_name name is) blank (ending from_kind blank
      (ending (measure_text_is start low).token blank (ending to_kind blank (ending (measure_text_is finish high).token tt none))))))

  abbrev route_tokens : List Token
  route_tokens = tokens_at 1 route_words

  route_command : IsCommand (kinds_in route_words)
  unfolding rules
  route_command =
      this (this (this (this (part (measure_derived start (kinds.To ∷ measure_kind finish ∷ [])) (this (part (measure_derived finish []) nothing))))))

  route_flat : is_shallow 0 (kinds_in route_words) ≡ true
  route_flat =
      flat_told (measure_kind start) 0 (kinds.To ∷ measure_kind finish ∷ []) (measure_has_text start) (omega arith)
      (flat_told (measure_kind finish) 0 [] (measure_has_text finish) (omega arith) refl)

  pub route_asks : IsName name → IsMeasure start → IsMeasure finish → IsReadable (dump_line (define_route name start finish)) → IsSaid (define_route name start finish)
  route_asks is low high readable =
      let line = route_line in
      let have = words_said line 1 route_words refl in
      subst (λ l. Asks l (command 0 (define_route name start finish))) (sym route_text)
      (asks_it route_words _ (written_route (nth 2) (nth 4) (nth 6)) (define_route name start finish) refl (route_cut is low high)
      (record {
        command = subst IsCommand (sym (kinds_at 1 route_words)) route_command;
        shallow = ap (is_shallow 0) (kinds_at 1 route_words) ∙ route_flat;
        spelled = λ i. marked kinds.Define ∷ marked kinds.Route ∷ told kinds.Name (nth 2) ∷ marked kinds.From ∷ told_piece (nth 4) (measure_has_text start) i ∷ marked kinds.To ∷ told_piece (nth 6) (measure_has_text finish) i ∷ [];
      })
      (start, finish, measure_said line (nth 4) start low have.1.1.1.1.0, measure_said line (nth 6) finish high have.1.1.1.1.1.1.0, ap (λ n. define_route n start finish) (sym have.1.1.0))
      (subst IsReadable route_text readable))
    where
      nth : ℕ → Token
      nth k = get_or route_tokens k (token_here 0 [] kinds.Name)

-- ---- a referent

module _ (route name : List ℕ) (measure : ℕ) where
  abbrev referent_words : List Word
  referent_words =
      word (codes "DEFINE") kinds.Define ∷ word (codes "REFERENT") kinds.Referent ∷ word route kinds.Name ∷ word name kinds.Name
      ∷ word (codes "AT") kinds.At ∷ measure_word measure ∷ []

  abbrev referent_line : List ℕ
  referent_line = 48 ∷ words_text referent_words

  referent_text : dump_line (define_referent route name (absolute measure)) ≡ referent_line
  referent_text = ap (λ t. codes "0 DEFINE REFERENT " ++ (route ++ (codes " " ++ (name ++ (codes " AT " ++ t))))) (sym (append-nil (shortest_text measure)))

  referent_cut : IsName route → IsName name → IsMeasure measure → AreCut referent_words []
  referent_cut on is few =
      ending define_kind blank (ending referent_kind blank (ending (kind_of_name route on) blank (ending (kind_of_name name is) blank
      (ending at_word_kind blank (ending (measure_text_is measure few).token tt none)))))

  abbrev referent_tokens : List Token
  referent_tokens = tokens_at 1 referent_words

  referent_command : IsCommand (kinds_in referent_words)
  unfolding rules
  referent_command = this (that (this (this (this (this (part (that (part (measure_derived measure []) (that nothing))) nothing))))))

  referent_flat : is_shallow 0 (kinds_in referent_words) ≡ true
  referent_flat = flat_told (measure_kind measure) 0 [] (measure_has_text measure) (omega arith) refl

  pub referent_asks : IsName route → IsName name → IsMeasure measure → IsReadable (dump_line (define_referent route name (absolute measure))) → IsSaid (define_referent route name (absolute measure))
  referent_asks on is few readable =
      let line = referent_line in
      let have = words_said line 1 referent_words refl in
      subst (λ l. Asks l (command 0 (define_referent route name (absolute measure)))) (sym referent_text)
      (asks_it referent_words _ (written_referent (nth 2) (nth 3) (written_positions.Measure (nth 5))) (define_referent route name (absolute measure)) refl (referent_cut on is few)
      (record {
        command = subst IsCommand (sym (kinds_at 1 referent_words)) referent_command;
        shallow = ap (is_shallow 0) (kinds_at 1 referent_words) ∙ referent_flat;
        spelled = λ i. marked kinds.Define ∷ marked kinds.Referent ∷ told kinds.Name (nth 2) ∷ told kinds.Name (nth 3) ∷ marked kinds.At ∷ told_piece (nth 5) (measure_has_text measure) i ∷ [];
      })
      (absolute measure, position_of line (nth 5) measure few have.1.1.1.1.1.0, λ i. define_referent (sym have.1.1.0 i) (sym have.1.1.1.0 i) (absolute measure))
      (subst IsReadable referent_text readable))
    where
      nth : ℕ → Token
      nth k = get_or referent_tokens k (token_here 0 [] kinds.Name)

-- ---- an index

module _ (name table column : List ℕ) where
  abbrev index_words : List Word
  index_words =
      word (codes "DEFINE") kinds.Define ∷ word (codes "INDEX") kinds.Index ∷ word name kinds.Name ∷ word (codes "ON") kinds.On ∷ word table kinds.Name
      ∷ mark (codes "(") kinds.LeftParen ∷ mark column kinds.Name ∷ mark (codes ")") kinds.RightParen ∷ []

  abbrev index_line : List ℕ
  index_line = 48 ∷ words_text index_words

  index_cut : IsName name → IsName table → IsName column → AreCut index_words []
  index_cut is on of =
      ending define_kind blank (ending index_kind blank (ending (kind_of_name name is) blank (ending on_kind blank (name_at_bracket on
      (opening_bracket (ending (kind_of_name column of) closing (closing_bracket none)))))))

  abbrev index_tokens : List Token
  index_tokens = tokens_at 1 index_words

  index_command : IsCommand (kinds_in index_words)
  unfolding rules
  index_command = this (that (that (that (that (this (this (this (this (this (this (this nothing)))))))))))

  pub index_asks : IsName name → IsName table → IsName column → IsReadable (dump_line (define_index name table column)) → IsSaid (define_index name table column)
  index_asks is on of readable =
      let line = index_line in
      let have = words_said line 1 index_words refl in
      asks_it index_words _ (written_index (nth 2) (nth 4) (nth 6)) (define_index name table column) refl (index_cut is on of)
      (record { command = subst IsCommand (sym (kinds_at 1 index_words)) index_command; shallow = ap (is_shallow 0) (kinds_at 1 index_words) ∙ refl; spelled = refl })
      (λ i. define_index (sym have.1.1.0 i) (sym have.1.1.1.1.0 i) (sym have.1.1.1.1.1.1.0 i))
      readable
    where
      nth : ℕ → Token
      nth k = get_or index_tokens k (token_here 0 [] kinds.Name)
