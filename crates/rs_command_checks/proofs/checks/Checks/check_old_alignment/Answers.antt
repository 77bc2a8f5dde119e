use Rattle.std.proofs.Common.{true, false, sym, ◌∙◌}
use Rattle.rs_command_checks.proofs.Outcomes.{drops_no_alignment, drops_seen_alignment, drops_alignment, last_accepted, last_refused, none_there, lent_there, some_of}
use Rattle.rs_command_checks.proofs.checks.Checks.check_old_alignment.Goals as goal

pub returns-then-is_none-clause-refused : goal.returns-then-is_none-clause-refused
returns-then-is_none-clause-refused c = λ unseen.
    drops_no_alignment c.args.self.now unseen c.args.name.now.bytes (none_there _ (lent_there c.alignment.result _ _ true c.alignment.ensures c.is_none.ensures c.if-is_none.true))

pub returns-then-is_alignment_named-clause-refused : goal.returns-then-is_alignment_named-clause-refused
returns-then-is_alignment_named-clause-refused c = λ unseen.
    let there = some_of _ (lent_there c.alignment.result _ _ false c.alignment.ensures c.is_none.ensures c.if-is_none.false) in
    drops_seen_alignment c.args.self.now unseen c.args.name.now.bytes there.0 there.1 (sym c.is_alignment_named.ensures ∙ c.if-is_alignment_named.true)

pub returns-clause-accepted : goal.returns-clause-accepted
returns-clause-accepted c = λ unseen.
    let there = some_of _ (lent_there c.alignment.result _ _ false c.alignment.ensures c.is_none.ensures c.if-is_none.false) in
    last_accepted c.args.self.now unseen _ _ c.may_change.result (c.may_change.ensures.answer unseen) (drops_alignment c.args.self.now unseen c.args.name.now.bytes there.0 there.1 (sym c.is_alignment_named.ensures ∙ c.if-is_alignment_named.false))

pub returns-clause-refused : goal.returns-clause-refused
returns-clause-refused c = λ unseen.
    let there = some_of _ (lent_there c.alignment.result _ _ false c.alignment.ensures c.is_none.ensures c.if-is_none.false) in
    last_refused c.args.self.now unseen _ _ c.may_change.result (c.may_change.ensures.answer unseen) (drops_alignment c.args.self.now unseen c.args.name.now.bytes there.0 there.1 (sym c.is_alignment_named.ensures ∙ c.if-is_alignment_named.false))
