use Rattle.std.proofs.Common.{Err, ap, sym, ◌∙◌}
use Rattle.std.specs.FinMap as names
use Rattle.std.proofs.lemmas.Result.{err_from_is_err_and}
use Rattle.rs_refusal.specs.declared.refusal.Refusal.TheVariants.{NoSuchRoute}
use Rattle.rs_methods.specs.Position.{expression_of}
use Rattle.rs_command_checks.proofs.Outcomes.{found_some, found_none}
use Rattle.rs_command_checks.proofs.ReferentSteps.{new_no_route}
use Rattle.rs_command_checks.proofs.checks.Checks.place_of_new_referent.Goals as goal

pub returns-in_err-entry-clause-refused : goal.returns-in_err-entry-clause-refused
returns-in_err-entry-clause-refused c = λ unseen.
    let p = err_from_is_err_and c.from_residual.result c.from_residual.ensures.1 in
    let none = found_none (names.get c.args.self.now.catalog.now.routes c.args.route.now.bytes) NoSuchRoute c.in_err-entry.field-0.0 c.in_err-entry.ensures in
    rw (p.1, p.2) (new_no_route c.args.self.now unseen c.args.route.now.bytes c.args.name.now.bytes (expression_of c.args.position.now) none.0 ∙ ap Err (sym none.1))

pub new_place_on-requires : goal.new_place_on-requires
new_place_on-requires c = record { there = found_some (names.get c.args.self.now.catalog.now.routes c.args.route.now.bytes) NoSuchRoute c.in_ok-entry.entry c.in_ok-entry.ensures }
