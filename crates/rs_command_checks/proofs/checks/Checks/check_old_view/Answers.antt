use Rattle.std.proofs.Common.{true, false, sym, ◌∙◌}
use Rattle.rs_command_checks.proofs.Outcomes.{drops_no_view, drops_seen_view, drops_view, last_accepted, last_refused, none_there, lent_there, some_of}
use Rattle.rs_command_checks.proofs.checks.Checks.check_old_view.Goals as goal

pub returns-then-is_none-clause-refused : goal.returns-then-is_none-clause-refused
returns-then-is_none-clause-refused c = λ unseen.
    drops_no_view c.args.self.now unseen c.args.name.now.bytes (none_there _ (lent_there c.view.result _ _ true c.view.ensures c.is_none.ensures c.if-is_none.true))

pub returns-then-is_query_named-clause-refused : goal.returns-then-is_query_named-clause-refused
returns-then-is_query_named-clause-refused c = λ unseen.
    let there = some_of _ (lent_there c.view.result _ _ false c.view.ensures c.is_none.ensures c.if-is_none.false) in
    drops_seen_view c.args.self.now unseen c.args.name.now.bytes there.0 there.1 (sym c.is_query_named.ensures ∙ c.if-is_query_named.true)

pub returns-clause-accepted : goal.returns-clause-accepted
returns-clause-accepted c = λ unseen.
    let there = some_of _ (lent_there c.view.result _ _ false c.view.ensures c.is_none.ensures c.if-is_none.false) in
    last_accepted c.args.self.now unseen _ _ c.may_change.result (c.may_change.ensures.answer unseen) (drops_view c.args.self.now unseen c.args.name.now.bytes there.0 there.1 (sym c.is_query_named.ensures ∙ c.if-is_query_named.false))

pub returns-clause-refused : goal.returns-clause-refused
returns-clause-refused c = λ unseen.
    let there = some_of _ (lent_there c.view.result _ _ false c.view.ensures c.is_none.ensures c.if-is_none.false) in
    last_refused c.args.self.now unseen _ _ c.may_change.result (c.may_change.ensures.answer unseen) (drops_view c.args.self.now unseen c.args.name.now.bytes there.0 there.1 (sym c.is_query_named.ensures ∙ c.if-is_query_named.false))
