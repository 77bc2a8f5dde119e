use Rattle.std.proofs.Common.{⊎_elim, inl, inr, sym, ◌∙◌, arith}
use Rattle.std.proofs.lemmas.Result.{err_from_is_err_and}
use Rattle.rs_syntax.specs.QueryView.{query_tree}
use Rattle.rs_command_checks.proofs.CursorSteps.{open_unchecked, open_taken, open_too_many, open_checked}
use Rattle.rs_command_checks.proofs.checks.Checks.check_new_cursor.Goals as goal

pub returns-in_err-checked-clause-refused : goal.returns-in_err-checked-clause-refused
returns-in_err-checked-clause-refused c = λ unseen.
    let p = err_from_is_err_and c.from_residual.result c.from_residual.ensures.1 in
    rw (p.1, p.2) (⊎_elim (λ wanting. inl wanting) (λ off. inr (open_unchecked c.args.self.now unseen c.args.session c.args.name.now.bytes (query_tree c.args.query.now) c.args.method _ off)) (c.in_err-checked.ensures.refused unseen))

pub returns-then-has-clause-refused : goal.returns-then-has-clause-refused
returns-then-has-clause-refused c = λ unseen.
    let is = (c.in_ok-checked.ensures.is unseen).is in
    inr (open_taken c.args.self.now unseen c.args.session c.args.name.now.bytes (query_tree c.args.query.now) c.args.method _ is (sym (c.has.ensures unseen.lines) ∙ c.if-has.true))

pub returns-then-count-ge-CURSORS-clause-refused : goal.returns-then-count-ge-CURSORS-clause-refused
returns-then-count-ge-CURSORS-clause-refused c = λ unseen.
    let is = (c.in_ok-checked.ensures.is unseen).is in
    inr (open_too_many c.args.self.now unseen c.args.session c.args.name.now.bytes (query_tree c.args.query.now) c.args.method _ is (sym (c.has.ensures unseen.lines) ∙ c.if-has.false) (omega (arith, c.count.ensures unseen.lines)))

pub returns-clause-accepted : goal.returns-clause-accepted
returns-clause-accepted c = λ unseen.
    let is = (c.in_ok-checked.ensures.is unseen).is in
    open_checked c.args.self.now unseen c.args.session c.args.name.now.bytes (query_tree c.args.query.now) c.args.method _ is (sym (c.has.ensures unseen.lines) ∙ c.if-has.false) (omega (arith, c.count.ensures unseen.lines))
