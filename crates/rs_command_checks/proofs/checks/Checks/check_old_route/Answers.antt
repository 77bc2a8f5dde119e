use Rattle.std.proofs.Common.{Err, sym, ap, ◌∙◌}
use Rattle.std.specs.FinMap as names
use Rattle.std.proofs.lemmas.Result.{err_from_is_err_and}
use Rattle.rs_refusal.specs.declared.refusal.Refusal.TheVariants.{NoSuchRoute}
use Rattle.rs_command_checks.proofs.Outcomes.{found_some, found_none, told, drops_no_route, drops_used_route, drops_aligned_route, drops_seen_route, drops_waited_route, drops_route, may_ok, may_err}
use Rattle.rs_command_checks.proofs.checks.Checks.check_old_route.Goals as goal

pub returns-in_err-route-clause-refused : goal.returns-in_err-route-clause-refused
returns-in_err-route-clause-refused c = λ unseen tells.
    let p = err_from_is_err_and c.from_residual.result c.from_residual.ensures.1 in
    let none = found_none (names.get c.args.self.now.catalog.now.routes c.args.name.now.bytes) NoSuchRoute c.in_err-route.field-0.0 c.in_err-route.ensures in
    rw (p.1, p.2) (drops_no_route c.args.self.now unseen c.args.name.now.bytes none.0 ∙ ap Err (sym none.1))

pub returns-then-has_facts-clause-refused : goal.returns-then-has_facts-clause-refused
returns-then-has_facts-clause-refused c = λ unseen tells.
    let there = found_some (names.get c.args.self.now.catalog.now.routes c.args.name.now.bytes) NoSuchRoute c.in_ok-route.route c.in_ok-route.ensures in
    drops_used_route c.args.self.now unseen c.args.name.now.bytes c.in_ok-route.route there (told c.args.self.now unseen c.args.name.now.bytes c.in_ok-route.route c.args.has_facts _ there tells c.if-has_facts.true)

pub returns-then-is_route_aligned-clause-refused : goal.returns-then-is_route_aligned-clause-refused
returns-then-is_route_aligned-clause-refused c = λ unseen tells.
    let there = found_some (names.get c.args.self.now.catalog.now.routes c.args.name.now.bytes) NoSuchRoute c.in_ok-route.route c.in_ok-route.ensures in
    drops_aligned_route c.args.self.now unseen c.args.name.now.bytes c.in_ok-route.route there (told c.args.self.now unseen c.args.name.now.bytes c.in_ok-route.route c.args.has_facts _ there tells c.if-has_facts.false)
    (sym c.is_route_aligned.ensures ∙ c.if-is_route_aligned.true)

pub returns-then-is_route_named-clause-refused : goal.returns-then-is_route_named-clause-refused
returns-then-is_route_named-clause-refused c = λ unseen tells.
    let there = found_some (names.get c.args.self.now.catalog.now.routes c.args.name.now.bytes) NoSuchRoute c.in_ok-route.route c.in_ok-route.ensures in
    drops_seen_route c.args.self.now unseen c.args.name.now.bytes c.in_ok-route.route there (told c.args.self.now unseen c.args.name.now.bytes c.in_ok-route.route c.args.has_facts _ there tells c.if-has_facts.false)
    (sym c.is_route_aligned.ensures ∙ c.if-is_route_aligned.false) (sym c.is_route_named.ensures ∙ c.if-is_route_named.true)

pub returns-then-any-clause-refused : goal.returns-then-any-clause-refused
returns-then-any-clause-refused c = λ unseen tells.
    let there = found_some (names.get c.args.self.now.catalog.now.routes c.args.name.now.bytes) NoSuchRoute c.in_ok-route.route c.in_ok-route.ensures in
    drops_waited_route c.args.self.now unseen c.args.name.now.bytes c.in_ok-route.route there (told c.args.self.now unseen c.args.name.now.bytes c.in_ok-route.route c.args.has_facts _ there tells c.if-has_facts.false)
    (sym c.is_route_aligned.ensures ∙ c.if-is_route_aligned.false) (sym c.is_route_named.ensures ∙ c.if-is_route_named.false) (sym (c.any.ensures.machine unseen.lines) ∙ c.if-any.true)

pub returns-in_err-may_change-clause-refused : goal.returns-in_err-may_change-clause-refused
returns-in_err-may_change-clause-refused c = λ unseen tells.
    let p = err_from_is_err_and c.from_residual-in_err-may_change.result c.from_residual-in_err-may_change.ensures.1 in
    let there = found_some (names.get c.args.self.now.catalog.now.routes c.args.name.now.bytes) NoSuchRoute c.in_ok-route.route c.in_ok-route.ensures in
    rw (p.1, p.2) (drops_route c.args.self.now unseen c.args.name.now.bytes c.in_ok-route.route there (told c.args.self.now unseen c.args.name.now.bytes c.in_ok-route.route c.args.has_facts _ there tells c.if-has_facts.false)
    (sym c.is_route_aligned.ensures ∙ c.if-is_route_aligned.false) (sym c.is_route_named.ensures ∙ c.if-is_route_named.false) (sym (c.any.ensures.machine unseen.lines) ∙ c.if-any.false)
    ∙ may_err c.args.self.now unseen _ _ (c.in_err-may_change.ensures.answer unseen))

pub returns-clause-accepted : goal.returns-clause-accepted
returns-clause-accepted c = λ unseen tells.
    let there = found_some (names.get c.args.self.now.catalog.now.routes c.args.name.now.bytes) NoSuchRoute c.in_ok-route.route c.in_ok-route.ensures in
    drops_route c.args.self.now unseen c.args.name.now.bytes c.in_ok-route.route there (told c.args.self.now unseen c.args.name.now.bytes c.in_ok-route.route c.args.has_facts _ there tells c.if-has_facts.false)
    (sym c.is_route_aligned.ensures ∙ c.if-is_route_aligned.false) (sym c.is_route_named.ensures ∙ c.if-is_route_named.false) (sym (c.any.ensures.machine unseen.lines) ∙ c.if-any.false)
    ∙ may_ok c.args.self.now unseen _ (c.in_ok-may_change.ensures.answer unseen)
