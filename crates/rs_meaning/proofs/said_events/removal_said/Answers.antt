use Rattle.std.proofs.Common.{ap, inl, inr, ⊎_elim}
use Rattle.std.proofs.lemmas.Result.{err_from_is_err_and}
use Rattle.rs_syntax.specs.Tree.{remove}
use Rattle.rs_syntax.specs.QueryView.{window_tree}
use Rattle.rs_syntax.specs.View.{removal_tree}
use Rattle.rs_meaning.proofs.said_events.removal_said.Goals as goal

pub returns-in_err-window_said-clause-err : goal.returns-in_err-window_said-clause-err
returns-in_err-window_said-clause-err c =
    let p = err_from_is_err_and c.from_residual.result c.from_residual.ensures.1 in
    rw (p.1, p.2) (inr (c.in_err-window_said.ensures.err, λ tree says. c.in_err-window_said.ensures.refused says.0 says.2))

pub returns-in_err-rows_said-clause-err : goal.returns-in_err-rows_said-clause-err
returns-in_err-rows_said-clause-err c =
    let p = err_from_is_err_and c.from_residual-in_err-rows_said.result c.from_residual-in_err-rows_said.ensures.1 in
    rw (p.1, p.2) (⊎_elim (λ memory. inl memory) (λ range. inr (range.0, λ tree says. range.1 says.1 says.3)) c.in_err-rows_said.ensures.err)

pub returns-clause-ok : goal.returns-clause-ok
returns-clause-ok c =
    let window = window_tree c.in_ok-window_said.field-0 in
    let rows = removal_tree c.in_ok-rows_said.field-0 in
    (window, rows, c.in_ok-window_said.ensures.ok, c.in_ok-rows_said.ensures.ok, ap (λ table. remove table window rows) c.name.ensures)
