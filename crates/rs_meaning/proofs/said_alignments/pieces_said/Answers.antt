use Rattle.std.proofs.Common.{◌+◌, take, sym, ap, ◌∙◌, subst, inl, inr, ⊎_elim}
use Rattle.std.specs.Prelude.{map}
use Rattle.std.proofs.lemmas.List.{map-append}
use Rattle.std.proofs.lemmas.Result.{err_from_is_err_and}
use Rattle.rs_grammar.specs.declared.kind.TokenKind.TheVariants as kinds
use Rattle.rs_lexer.specs.declared.token.Token.{Token}
use Rattle.rs_syntax.specs.declared.written.WrittenPiece.{WrittenPiece}
use Rattle.rs_syntax.specs.View.{piece_tree}
use Rattle.rs_syntax.specs.Written.{piece_lexemes, SaysPieces}
use Rattle.rs_meaning.proofs.MeaningLaws.{list_told}
use Rattle.rs_meaning.proofs.CommandLaws.{pieces_more, no_pieces}
use Rattle.rs_meaning.proofs.said_alignments.pieces_said.Goals as goal

-- what a list of pieces gives past its end
abbrev nowhere : Token
nowhere = record { kind = kinds.Absolute; first = 0; length = 0 }

abbrev blank : WrittenPiece
blank = record { from_route = nowhere; from = nowhere; to = nowhere; onto_route = nowhere; onto = nowhere }

pub piece_said-requires : goal.piece_said-requires
piece_said-requires c = list_told kinds.Comma c.args.line.now piece_lexemes c.args.written.now c.requires c.loop-part.part-index blank c.loop-part-test.true

pub returns-in_err-piece-clause-err : goal.returns-in_err-piece-clause-err
returns-in_err-piece-clause-err c =
    let p = err_from_is_err_and c.from_residual.result c.from_residual.ensures.1 in
    rw (p.1, p.2) (⊎_elim
    (λ memory. inl memory)
    (λ r. inr (r.0, no_pieces c.args.line.now c.args.written.now c.loop-part.part-index blank c.loop-part-test.true r.1))
    c.in_err-piece.ensures.err)

pub loop-part-preserved : goal.loop-part-preserved
loop-part-preserved c =
    let pushed = c.in_ok-push.ensures.items in
    let more = ap (map piece_tree) pushed ∙ map-append piece_tree c.loop-part.pieces.items _ in
    subst (λ pieces. SaysPieces c.args.line.now (take (c.loop-part.part-index + 1) c.args.written.now) pieces) (sym more)
    (pieces_more c.args.line.now c.args.written.now c.loop-part.part-index blank (map piece_tree c.loop-part.pieces.items) (piece_tree c.in_ok-piece.piece) c.loop-part-test.true c.loop-part.invariant c.in_ok-piece.ensures.ok)
