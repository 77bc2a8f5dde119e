use Rattle.std.proofs.Common.{Err, sym, ap, ◌∙◌}
use Rattle.std.specs.FinMap as names
use Rattle.std.proofs.lemmas.Result.{err_from_is_err_and}
use Rattle.rs_refusal.specs.declared.refusal.Refusal.TheVariants.{NoSuchName}
use Rattle.rs_command_checks.proofs.Outcomes.{found_some, found_none, drops_no_table, drops_seen_table, drops_waited_table, drops_table, may_ok, may_err}
use Rattle.rs_command_checks.proofs.checks.Checks.check_old_table.Goals as goal

pub returns-in_err-named_table-clause-refused : goal.returns-in_err-named_table-clause-refused
returns-in_err-named_table-clause-refused c = λ unseen.
    let p = err_from_is_err_and c.from_residual.result c.from_residual.ensures.1 in
    let none = found_none (names.get c.args.self.now.catalog.now.tables c.args.name.now.bytes) NoSuchName c.in_err-named_table.field-0.0 c.in_err-named_table.ensures in
    rw (p.1, p.2) (drops_no_table c.args.self.now unseen c.args.name.now.bytes none.0 ∙ ap Err (sym none.1))

pub returns-then-is_query_named-clause-refused : goal.returns-then-is_query_named-clause-refused
returns-then-is_query_named-clause-refused c = λ unseen.
    let there = found_some (names.get c.args.self.now.catalog.now.tables c.args.name.now.bytes) NoSuchName _ c.in_ok-named_table.ensures in
    drops_seen_table c.args.self.now unseen c.args.name.now.bytes _ there (sym c.is_query_named.ensures ∙ c.if-is_query_named.true)

pub returns-then-any-clause-refused : goal.returns-then-any-clause-refused
returns-then-any-clause-refused c = λ unseen.
    let there = found_some (names.get c.args.self.now.catalog.now.tables c.args.name.now.bytes) NoSuchName _ c.in_ok-named_table.ensures in
    drops_waited_table c.args.self.now unseen c.args.name.now.bytes _ there (sym c.is_query_named.ensures ∙ c.if-is_query_named.false) (sym (c.any.ensures.machine unseen.lines) ∙ c.if-any.true)

pub returns-in_err-may_change-clause-refused : goal.returns-in_err-may_change-clause-refused
returns-in_err-may_change-clause-refused c = λ unseen.
    let p = err_from_is_err_and c.from_residual-in_err-may_change.result c.from_residual-in_err-may_change.ensures.1 in
    let there = found_some (names.get c.args.self.now.catalog.now.tables c.args.name.now.bytes) NoSuchName _ c.in_ok-named_table.ensures in
    rw (p.1, p.2) (drops_table c.args.self.now unseen c.args.name.now.bytes _ there (sym c.is_query_named.ensures ∙ c.if-is_query_named.false) (sym (c.any.ensures.machine unseen.lines) ∙ c.if-any.false)
    ∙ may_err c.args.self.now unseen _ _ (c.in_err-may_change.ensures.answer unseen))

pub returns-clause-accepted : goal.returns-clause-accepted
returns-clause-accepted c = λ unseen.
    let there = found_some (names.get c.args.self.now.catalog.now.tables c.args.name.now.bytes) NoSuchName _ c.in_ok-named_table.ensures in
    drops_table c.args.self.now unseen c.args.name.now.bytes _ there (sym c.is_query_named.ensures ∙ c.if-is_query_named.false) (sym (c.any.ensures.machine unseen.lines) ∙ c.if-any.false)
    ∙ may_ok c.args.self.now unseen _ (c.in_ok-may_change.ensures.answer unseen)
