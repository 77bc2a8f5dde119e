use Rattle.std.proofs.Common.{inr, Err, sym, ap, ◌∙◌}
use Rattle.std.proofs.lemmas.Result.{err_from_is_err_and}
use Rattle.std.specs.FinMap as names
use Rattle.rs_refusal.specs.declared.refusal.Refusal.TheVariants.{NoSuchRoute}
use Rattle.rs_methods.specs.Position.{expression_of}
use Rattle.rs_serve.specs.ReplyView.{rows_of}
use Rattle.rs_command_checks.proofs.Outcomes.{found_some, found_none}
use Rattle.rs_command_checks.proofs.Translations.{translated_no_route, translated_off_route, translated_at}
use Rattle.rs_command_checks.proofs.checks.Checks.translate.Goals as goal

pub returns-in_err-on-clause-refused : goal.returns-in_err-on-clause-refused
returns-in_err-on-clause-refused c = λ unseen.
    let p = err_from_is_err_and c.from_residual.result c.from_residual.ensures.1 in
    let none = found_none (names.get c.args.self.now.catalog.now.routes c.args.route.now.bytes) NoSuchRoute c.in_err-on.field-0.0 c.in_err-on.ensures in
    rw (p.1, p.2) (inr (translated_no_route c.args.self.now unseen c.args.route.now.bytes (expression_of c.args.position.now) c.args.method none.0 ∙ ap Err (sym none.1)))

pub returns-in_err-measure-clause-refused : goal.returns-in_err-measure-clause-refused
returns-in_err-measure-clause-refused c = λ unseen.
    let p = err_from_is_err_and c.from_residual-in_err-measure.result c.from_residual-in_err-measure.ensures.1 in
    let route_there = found_some (names.get c.args.self.now.catalog.now.routes c.args.route.now.bytes) NoSuchRoute c.in_ok-on.on c.in_ok-on.ensures in
    rw (p.1, p.2) (inr (translated_off_route c.args.self.now unseen c.args.route.now.bytes (expression_of c.args.position.now) c.args.method c.in_ok-on.on route_there _ (sym c.in_err-measure.ensures)))

pub returns-clause-done : goal.returns-clause-done
returns-clause-done c = λ unseen.
    let route_there = found_some (names.get c.args.self.now.catalog.now.routes c.args.route.now.bytes) NoSuchRoute c.in_ok-on.on c.in_ok-on.ensures in
    let rows = rows_of c.in_ok-translated.field-0.items in
    let text = c.in_ok-translated.ensures unseen in
    translated_at c.args.self.now unseen c.args.route.now.bytes (expression_of c.args.position.now) c.args.method c.in_ok-on.on route_there c.in_ok-measure.measure rows (sym c.in_ok-measure.ensures) text
