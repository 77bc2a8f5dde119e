use Rattle.std.proofs.Common.{Err, sym, ap, ◌∙◌}
use Rattle.std.specs.FinMap as names
use Rattle.std.proofs.lemmas.Result.{err_from_is_err_and}
use Rattle.rs_refusal.specs.declared.refusal.Refusal.TheVariants.{NoSuchRoute}
use Rattle.rs_command_checks.proofs.Outcomes.{found_some, found_none}
use Rattle.rs_command_checks.proofs.ReferentSteps.{old_no_route, old_missing, old_is_start, old_found, old_has, not_start}
use Rattle.rs_command_checks.proofs.checks.Checks.route_of_referent.Goals as goal

pub returns-in_err-entry-clause-refused : goal.returns-in_err-entry-clause-refused
returns-in_err-entry-clause-refused c = λ unseen.
    let p = err_from_is_err_and c.from_residual.result c.from_residual.ensures.1 in
    let none = found_none (names.get c.args.self.now.catalog.now.routes c.args.route.now.bytes) NoSuchRoute c.in_err-entry.field-0.0 c.in_err-entry.ensures in
    rw (p.1, p.2) (old_no_route c.args.self.now unseen c.args.route.now.bytes c.args.name.now.bytes none.0 ∙ ap Err (sym none.1))

pub returns-then-not-has_referent-clause-refused : goal.returns-then-not-has_referent-clause-refused
returns-then-not-has_referent-clause-refused c = λ unseen.
    old_missing c.args.self.now unseen c.args.route.now.bytes c.in_ok-entry.entry (found_some (names.get c.args.self.now.catalog.now.routes c.args.route.now.bytes) NoSuchRoute c.in_ok-entry.entry c.in_ok-entry.ensures) c.args.name.now.bytes (sym (c.has_referent.ensures unseen) ∙ c.if-not-has_referent.true)

pub returns-then-is_start-clause-refused : goal.returns-then-is_start-clause-refused
returns-then-is_start-clause-refused c = λ unseen.
    old_is_start c.args.self.now unseen c.args.route.now.bytes c.in_ok-entry.entry (found_some (names.get c.args.self.now.catalog.now.routes c.args.route.now.bytes) NoSuchRoute c.in_ok-entry.entry c.in_ok-entry.ensures) c.args.name.now.bytes (sym (c.has_referent.ensures unseen) ∙ c.if-not-has_referent.false) (sym c.is_start.ensures ∙ c.if-is_start.true)

pub returns-clause-found : goal.returns-clause-found
returns-clause-found c = λ unseen.
    old_found c.args.self.now unseen c.args.route.now.bytes c.in_ok-entry.entry (found_some (names.get c.args.self.now.catalog.now.routes c.args.route.now.bytes) NoSuchRoute c.in_ok-entry.entry c.in_ok-entry.ensures) c.args.name.now.bytes (sym (c.has_referent.ensures unseen) ∙ c.if-not-has_referent.false) (sym c.is_start.ensures ∙ c.if-is_start.false)

pub returns-clause-not_start : goal.returns-clause-not_start
returns-clause-not_start c = not_start c.args.name.now.bytes (sym c.is_start.ensures ∙ c.if-is_start.false)

pub returns-clause-has : goal.returns-clause-has
returns-clause-has c = λ unseen.
    old_has c.args.self.now unseen c.args.route.now.bytes c.in_ok-entry.entry (found_some (names.get c.args.self.now.catalog.now.routes c.args.route.now.bytes) NoSuchRoute c.in_ok-entry.entry c.in_ok-entry.ensures) c.args.name.now.bytes (sym (c.has_referent.ensures unseen) ∙ c.if-not-has_referent.false) (sym c.is_start.ensures ∙ c.if-is_start.false)
