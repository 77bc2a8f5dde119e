use Rattle.std.proofs.Common.{true, false, sym, ◌∙◌}
use Rattle.rs_command_checks.proofs.Outcomes.{drops_no_index, drops_waited_index, drops_index, last_accepted, last_refused, none_there, lent_there, some_of}
use Rattle.rs_command_checks.proofs.checks.Checks.check_old_index.Goals as goal

pub returns-then-is_none-clause-refused : goal.returns-then-is_none-clause-refused
returns-then-is_none-clause-refused c = λ unseen.
    drops_no_index c.args.self.now unseen c.args.name.now.bytes (none_there _ (lent_there c.index.result _ _ true c.index.ensures c.is_none.ensures c.if-is_none.true))

pub returns-then-any-clause-refused : goal.returns-then-any-clause-refused
returns-then-any-clause-refused c = λ unseen.
    let there = some_of _ (lent_there c.index.result _ _ false c.index.ensures c.is_none.ensures c.if-is_none.false) in
    drops_waited_index c.args.self.now unseen c.args.name.now.bytes there.0 there.1 (sym (c.any.ensures.machine unseen.lines) ∙ c.if-any.true)

pub returns-clause-accepted : goal.returns-clause-accepted
returns-clause-accepted c = λ unseen.
    let there = some_of _ (lent_there c.index.result _ _ false c.index.ensures c.is_none.ensures c.if-is_none.false) in
    last_accepted c.args.self.now unseen _ _ c.may_change.result (c.may_change.ensures.answer unseen) (drops_index c.args.self.now unseen c.args.name.now.bytes there.0 there.1 (sym (c.any.ensures.machine unseen.lines) ∙ c.if-any.false))

pub returns-clause-refused : goal.returns-clause-refused
returns-clause-refused c = λ unseen.
    let there = some_of _ (lent_there c.index.result _ _ false c.index.ensures c.is_none.ensures c.if-is_none.false) in
    last_refused c.args.self.now unseen _ _ c.may_change.result (c.may_change.ensures.answer unseen) (drops_index c.args.self.now unseen c.args.name.now.bytes there.0 there.1 (sym (c.any.ensures.machine unseen.lines) ∙ c.if-any.false))
