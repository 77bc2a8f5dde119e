-- The line of an alignment.
use Rattle.std.proofs.Common.{◌≡◌, ◌∙◌, ℕ, true, List, [], ◌∷◌, ◌++◌, get_or, map, Some, refl, sym, ap, subst, arith, append_assoc, append-nil, codes}
use Rattle.std.specs.List.{AllByRecursion, join_with_byte}
use Rattle.rs_grammar.specs.declared.kind.TokenKind.TheVariants as kinds
use Rattle.rs_grammar.specs.Grammar as grammar
use Rattle.rs_grammar.specs.Grammar.{Derives, IsCommand, done, is_shallow, nothing, part, rules, sub, that, this}
use Rattle.rs_lexer.specs.declared.token.Token.{Token}
use Rattle.rs_lexer.specs.Lexis.{reserved, token_kind, word_kind}
use Rattle.rs_syntax.specs.Sound.{IsName, IsPiece}
use Rattle.rs_syntax.specs.Tree.{PieceTree, define_alignment}
use Rattle.rs_syntax.specs.Written.{SaysPiece, SaysPieces, mark as marked, piece_lexemes, told, written_alignment}
use Rattle.rs_machine.specs.Request.{Asks, command}
use Rattle.rs_machine_laws.specs.ViewLines.{IsReadable}
use Rattle.rs_csv_lines.proofs.Cuts.{at_word_kind, blank, from_kind, into_kind, to_kind, token_here}
use Rattle.rs_csv_lines.proofs.Inserts.{kind_of_name}
use Rattle.rs_csv_lines.proofs.Lexemes.{flat_told, told_piece}
use Rattle.rs_dump_laws.specs.Lines.{IsSaid, dump_line, piece_text, shortest_text, span_text}
use Rattle.rs_dump_lines.proofs.Defining.{define_kind, measure_derived, measure_has_text, measure_said, measure_word, name_at_bracket}
use Rattle.rs_dump_lines.proofs.ListWords.{AreJoined, IsItem, closed, closed_cut, closed_derived, closed_said, closed_shallow, closed_spelled, closed_text}
use Rattle.rs_dump_lines.proofs.MeasureTexts.{measure_kind, measure_text_is}
use Rattle.rs_dump_lines.proofs.Words.{AreCut, Word, asks_it, end_at, ending, kinds_at, kinds_in, mark, none, opening_bracket, tokens_at, word, words_said, words_text}

alignment_kind : token_kind (codes "ALIGNMENT") ≡ Some kinds.Alignment
unfolding token_kind word_kind reserved
alignment_kind = refl

-- a span and what comes after it
pub span_joined : (from to : ℕ) (rest : List ℕ) → span_text from to ++ rest ≡ codes " FROM " ++ (shortest_text from ++ (codes " TO " ++ (shortest_text to ++ rest)))
span_joined from to rest = ap (λ t. codes " FROM " ++ t) (append_assoc (shortest_text from) (codes " TO " ++ shortest_text to) rest)

-- ---- pieces

abbrev piece_words : PieceTree → List Word
piece_words piece =
    mark piece.from_route kinds.Name ∷ word (codes "FROM") kinds.From ∷ measure_word piece.from ∷ word (codes "TO") kinds.To ∷ measure_word piece.to
    ∷ word (codes "INTO") kinds.Into ∷ word piece.onto_route kinds.Name ∷ word (codes "AT") kinds.At ∷ measure_word piece.onto ∷ []

abbrev IsPieceItem : PieceTree → Type 0
IsPieceItem = IsItem piece_words piece_lexemes grammar.piece grammar.pieces SaysPiece SaysPieces

is_piece : (piece : PieceTree) → IsPiece piece → IsPieceItem piece
unfolding rules
is_piece piece is = record {
  cut = λ after ends.
      ending (kind_of_name piece.from_route is.from_route) blank (ending from_kind blank (ending (measure_text_is piece.from is.from).token blank
      (ending to_kind blank (ending (measure_text_is piece.to is.to).token blank (ending into_kind blank (ending (kind_of_name piece.onto_route is.onto_route) blank
      (ending at_word_kind blank (ending (measure_text_is piece.onto is.onto).token ends none))))))));
  derived = λ others.
      this (this (part (measure_derived piece.from _) (this (part (measure_derived piece.to _) (this (this (this (part (measure_derived piece.onto others) nothing))))))));
  shallow = λ others shallow.
      flat_told (measure_kind piece.from) 1 (kinds.To ∷ measure_kind piece.to ∷ kinds.Into ∷ kinds.Name ∷ kinds.At ∷ measure_kind piece.onto ∷ others) (measure_has_text piece.from) (omega arith)
      (flat_told (measure_kind piece.to) 1 (kinds.Into ∷ kinds.Name ∷ kinds.At ∷ measure_kind piece.onto ∷ others) (measure_has_text piece.to) (omega arith)
      (flat_told (measure_kind piece.onto) 1 others (measure_has_text piece.onto) (omega arith) shallow));
  said = λ line place have.
      let nth = λ (k : ℕ). get_or (tokens_at place (piece_words piece)) k (token_here 0 [] kinds.Name) in
      record {
        written = record { from_route = nth 0; from = nth 2; to = nth 4; onto_route = nth 6; onto = nth 8 };
        spelled = λ i.
            told kinds.Name (nth 0) ∷ marked kinds.From ∷ told_piece (nth 2) (measure_has_text piece.from) i ∷ marked kinds.To ∷ told_piece (nth 4) (measure_has_text piece.to) i
            ∷ marked kinds.Into ∷ told kinds.Name (nth 6) ∷ marked kinds.At ∷ told_piece (nth 8) (measure_has_text piece.onto) i ∷ [];
        says = record {
          from_route = sym have.0;
          from = measure_said line (nth 2) piece.from is.from have.1.1.0;
          to = measure_said line (nth 4) piece.to is.to have.1.1.1.1.0;
          onto_route = sym have.1.1.1.1.1.1.0;
          onto = measure_said line (nth 8) piece.onto is.onto have.1.1.1.1.1.1.1.1.0;
        };
      };
}

are_pieces : (pieces : List PieceTree) → AllByRecursion IsPiece pieces → AllByRecursion IsPieceItem pieces
are_pieces [] are = tt
are_pieces (piece ∷ pieces) are = (is_piece piece are.0, are_pieces pieces are.1)

pieces_joined : AreJoined piece_words piece_lexemes grammar.piece grammar.pieces SaysPiece SaysPieces
unfolding rules
pieces_joined = record {
  says_none = λ line. tt;
  says_more = λ line w x ws xs one more. (one, more);
  derives = λ tokens middle left one more. part one more;
}

piece_text_is : (piece : PieceTree) → piece_text piece ≡ words_text (piece_words piece)
piece_text_is piece =
    ap (λ t. piece.from_route ++ t) (span_joined piece.from piece.to (codes " INTO " ++ (piece.onto_route ++ (codes " AT " ++ shortest_text piece.onto))))
    ∙ ap (λ t. piece.from_route ++ (codes " FROM " ++ (shortest_text piece.from ++ (codes " TO " ++ (shortest_text piece.to ++ (codes " INTO " ++ (piece.onto_route ++ (codes " AT " ++ t))))))))
    (sym (append-nil (shortest_text piece.onto)))

texts_are : (pieces : List PieceTree) → map piece_text pieces ≡ map (λ piece. words_text (piece_words piece)) pieces
texts_are [] = refl
texts_are (piece ∷ pieces) = λ i. piece_text_is piece i ∷ texts_are pieces i

-- ---- the line

module _ (name : List ℕ) (piece : PieceTree) (pieces : List PieceTree) where
  abbrev in_brackets : List Word
  in_brackets = closed piece_words piece_lexemes grammar.piece grammar.pieces SaysPiece SaysPieces piece pieces

  abbrev before_brackets : List Word
  before_brackets = word (codes "DEFINE") kinds.Define ∷ word (codes "ALIGNMENT") kinds.Alignment ∷ word name kinds.Name ∷ mark (codes "(") kinds.LeftParen ∷ []

  abbrev alignment_words : List Word
  alignment_words = word (codes "DEFINE") kinds.Define ∷ word (codes "ALIGNMENT") kinds.Alignment ∷ word name kinds.Name ∷ mark (codes "(") kinds.LeftParen ∷ in_brackets

  abbrev alignment_line : List ℕ
  alignment_line = 48 ∷ words_text alignment_words

  alignment_text : dump_line (define_alignment name (piece ∷ pieces)) ≡ alignment_line
  alignment_text =
      ap (λ t. codes "0 DEFINE ALIGNMENT " ++ (name ++ (codes "(" ++ t)))
      (ap (λ texts. join_with_byte 44 texts ++ codes ")") (texts_are (piece ∷ pieces))
      ∙ sym (closed_text piece_words piece_lexemes grammar.piece grammar.pieces SaysPiece SaysPieces piece pieces))

  module _ (is : IsName name) (are : AllByRecursion IsPiece (piece ∷ pieces)) where
    first_is : IsPieceItem piece
    first_is = is_piece piece are.0

    others_are : AllByRecursion IsPieceItem pieces
    others_are = are_pieces pieces are.1

    alignment_cut : AreCut alignment_words []
    alignment_cut =
        ending define_kind blank (ending alignment_kind blank (name_at_bracket is (opening_bracket
        (closed_cut piece_words piece_lexemes grammar.piece grammar.pieces SaysPiece SaysPieces piece pieces first_is others_are))))

    alignment_command : IsCommand (kinds_in alignment_words)
    unfolding rules
    alignment_command =
        this (that (that (that (this (this (this (closed_derived piece_words piece_lexemes grammar.piece grammar.pieces SaysPiece SaysPieces pieces_joined piece pieces first_is others_are)))))))

    alignment_shallow : is_shallow 0 (kinds_in alignment_words) ≡ true
    alignment_shallow = closed_shallow piece_words piece_lexemes grammar.piece grammar.pieces SaysPiece SaysPieces pieces_joined piece pieces first_is others_are

    pub alignment_asks : IsReadable (dump_line (define_alignment name (piece ∷ pieces))) → IsSaid (define_alignment name (piece ∷ pieces))
    alignment_asks readable =
        let line = alignment_line in
        let have = words_said line 1 alignment_words refl in
        let place = end_at 1 before_brackets in
        let said = closed_said piece_words piece_lexemes grammar.piece grammar.pieces SaysPiece SaysPieces pieces_joined line place piece pieces first_is others_are have.1.1.1.1 in
        subst (λ l. Asks l (command 0 (define_alignment name (piece ∷ pieces)))) (sym alignment_text)
        (asks_it alignment_words _ (written_alignment (nth 2) said.written) (define_alignment name (piece ∷ pieces)) refl alignment_cut
        (record {
          command = subst IsCommand (sym (kinds_at 1 alignment_words)) alignment_command;
          shallow = ap (is_shallow 0) (kinds_at 1 alignment_words) ∙ alignment_shallow;
          spelled = ap (λ ls. marked kinds.Define ∷ marked kinds.Alignment ∷ told kinds.Name (nth 2) ∷ marked kinds.LeftParen ∷ ls)
              (closed_spelled piece_words piece_lexemes grammar.piece grammar.pieces SaysPiece SaysPieces pieces_joined line place piece pieces said);
        })
        (piece ∷ pieces, said.says, ap (λ n. define_alignment n (piece ∷ pieces)) (sym have.1.1.0))
        (subst IsReadable alignment_text readable))
      where
        nth : ℕ → Token
        nth k = get_or (tokens_at 1 alignment_words) k (token_here 0 [] kinds.Name)
