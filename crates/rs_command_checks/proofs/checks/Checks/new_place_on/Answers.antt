use Rattle.std.proofs.Common.{[], sym, ap, subst, ◌∙◌, arith}
use Rattle.std.specs.FinMap as names
use Rattle.std.proofs.Common.{◌≤◌, ◌<◌}
use Rattle.std.proofs.lemmas.Result.{err_from_is_err_and}
use Rattle.rs_methods.specs.Position.{expression_of}
use Rattle.rs_machine.specs.declared.limits.TheConstants.{REFERENTS}
use Rattle.rs_catalog.specs.Referents.{referents_on}
use Rattle.rs_command_checks.specs.States.{Unseen}
use Rattle.rs_command_checks.proofs.Outcomes.{may_ok, may_err}
use Rattle.rs_command_checks.proofs.ReferentSteps.{new_off_route, new_taken, new_too_many, new_checked, new_not_start, new_has}
use Rattle.rs_command_checks.proofs.checks.Checks.new_place_on.Goals as goal

pub returns-in_err-measure-clause-refused : goal.returns-in_err-measure-clause-refused
returns-in_err-measure-clause-refused c = λ unseen.
    let p = err_from_is_err_and c.from_residual.result c.from_residual.ensures.1 in
    rw (p.1, p.2) (new_off_route c.args.self.now unseen c.args.route.now.bytes c.args.entry c.requires.there c.args.name.now.bytes (expression_of c.args.position.now) _ c.in_err-measure.ensures)

pub returns-then-has_referent-clause-refused : goal.returns-then-has_referent-clause-refused
returns-then-has_referent-clause-refused c = λ unseen.
    new_taken c.args.self.now unseen c.args.route.now.bytes c.args.entry c.requires.there c.args.name.now.bytes (expression_of c.args.position.now) c.in_ok-measure.measure c.in_ok-measure.ensures (sym (c.has_referent.ensures unseen) ∙ c.if-has_referent.true)

pub returns-then-count-ge-REFERENTS-clause-refused : goal.returns-then-count-ge-REFERENTS-clause-refused
returns-then-count-ge-REFERENTS-clause-refused c = λ unseen.
    let many : REFERENTS ≤ names.len (referents_on c.args.self.now.referents.now c.args.entry.number) = subst (λ n. REFERENTS ≤ n) (c.count.ensures ∙ ap (λ n. names.len (referents_on c.args.self.now.referents.now n)) c.number.ensures) c.if-count-ge-REFERENTS.true in
    new_too_many c.args.self.now unseen c.args.route.now.bytes c.args.entry c.requires.there c.args.name.now.bytes (expression_of c.args.position.now) c.in_ok-measure.measure c.in_ok-measure.ensures (sym (c.has_referent.ensures unseen) ∙ c.if-has_referent.false) many

pub returns-in_err-may_change-clause-refused : goal.returns-in_err-may_change-clause-refused
returns-in_err-may_change-clause-refused c = λ unseen.
    let p = err_from_is_err_and c.from_residual-in_err-may_change.result c.from_residual-in_err-may_change.ensures.1 in
    let same = c.count.ensures ∙ ap (λ n. names.len (referents_on c.args.self.now.referents.now n)) c.number.ensures in
    let few : names.len (referents_on c.args.self.now.referents.now c.args.entry.number) < REFERENTS = subst (λ n. n < REFERENTS) same (omega arith) in
    rw (p.1, p.2) (new_checked c.args.self.now unseen c.args.route.now.bytes c.args.entry c.requires.there c.args.name.now.bytes (expression_of c.args.position.now) c.in_ok-measure.measure c.in_ok-measure.ensures (sym (c.has_referent.ensures unseen) ∙ c.if-has_referent.false) few ∙ may_err c.args.self.now unseen _ _ (c.in_err-may_change.ensures.answer unseen))

pub returns-clause-accepted : goal.returns-clause-accepted
returns-clause-accepted c = λ unseen.
    let same = c.count.ensures ∙ ap (λ n. names.len (referents_on c.args.self.now.referents.now n)) c.number.ensures in
    let few : names.len (referents_on c.args.self.now.referents.now c.args.entry.number) < REFERENTS = subst (λ n. n < REFERENTS) same (omega arith) in
    new_checked c.args.self.now unseen c.args.route.now.bytes c.args.entry c.requires.there c.args.name.now.bytes (expression_of c.args.position.now) c.in_ok-measure.measure c.in_ok-measure.ensures (sym (c.has_referent.ensures unseen) ∙ c.if-has_referent.false) few ∙ may_ok c.args.self.now unseen _ (c.in_ok-may_change.ensures.answer unseen)

pub returns-clause-not_start : goal.returns-clause-not_start
returns-clause-not_start c =
    let unseen : Unseen = record { spans = λ table route. []; lines = λ cursor. [] } in
    new_not_start c.args.self.now unseen c.args.route.now.bytes c.args.name.now.bytes (sym (c.has_referent.ensures unseen) ∙ c.if-has_referent.false)

pub returns-clause-new : goal.returns-clause-new
returns-clause-new c = λ unseen. new_has c.args.self.now unseen c.args.route.now.bytes c.args.name.now.bytes (sym (c.has_referent.ensures unseen) ∙ c.if-has_referent.false)
