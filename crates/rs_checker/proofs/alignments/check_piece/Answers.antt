use Rattle.std.proofs.Common.{sym, ◌∙◌, arith}
use Rattle.std.proofs.lemmas.Result.{err_from_is_err_and}
use Rattle.rs_syntax.specs.View.{piece_tree}
use Rattle.rs_checker.proofs.AlignmentLaws.{first_refused, second_refused, outside, empty, passes, piece_on_routes}
use Rattle.rs_checker.proofs.alignments.check_piece.Goals as goal

pub returns-in_err-first-clause-refused : goal.returns-in_err-first-clause-refused
returns-in_err-first-clause-refused c =
    let p = err_from_is_err_and c.from_residual.result c.from_residual.ensures.1 in
    rw (p.1, p.2) (first_refused c.args.catalog.now (piece_tree c.args.piece.now) c.in_err-first.field-0.0 (sym c.named_route.ensures ∙ c.in_err-first.was))

pub returns-in_err-second-clause-refused : goal.returns-in_err-second-clause-refused
returns-in_err-second-clause-refused c =
    let p = err_from_is_err_and c.from_residual-in_err-second.result c.from_residual-in_err-second.ensures.1 in
    rw (p.1, p.2) (second_refused c.args.catalog.now (piece_tree c.args.piece.now) c.in_ok-first.first (sym c.named_route.ensures ∙ c.in_ok-first.was) c.in_err-second.field-0.0 (sym c.named_route-2.ensures ∙ c.in_err-second.was))

pub returns-then-not-lies-clause-refused : goal.returns-then-not-lies-clause-refused
returns-then-not-lies-clause-refused c =
    outside c.args.catalog.now (piece_tree c.args.piece.now) c.in_ok-first.first (sym c.named_route.ensures ∙ c.in_ok-first.was) c.in_ok-second.second (sym c.named_route-2.ensures ∙ c.in_ok-second.was) (sym c.if-not-lies.true ∙ c.lies.ensures)

pub returns-then-from-to-clause-refused : goal.returns-then-from-to-clause-refused
returns-then-from-to-clause-refused c =
    empty c.args.catalog.now (piece_tree c.args.piece.now) c.in_ok-first.first (sym c.named_route.ensures ∙ c.in_ok-first.was) c.in_ok-second.second (sym c.named_route-2.ensures ∙ c.in_ok-second.was) (sym c.if-not-lies.false ∙ c.lies.ensures) (omega arith)

pub returns-clause-ok : goal.returns-clause-ok
returns-clause-ok c =
    passes c.args.catalog.now (piece_tree c.args.piece.now) c.in_ok-first.first (sym c.named_route.ensures ∙ c.in_ok-first.was) c.in_ok-second.second (sym c.named_route-2.ensures ∙ c.in_ok-second.was) (sym c.if-not-lies.false ∙ c.lies.ensures) (omega arith)

pub returns-clause-lies : goal.returns-clause-lies
returns-clause-lies c =
    piece_on_routes c.args.catalog.now (piece_tree c.args.piece.now) c.in_ok-first.first (sym c.named_route.ensures ∙ c.in_ok-first.was) c.in_ok-second.second (sym c.named_route-2.ensures ∙ c.in_ok-second.was) (sym c.if-not-lies.false ∙ c.lies.ensures) (omega arith)
