use Rattle.std.proofs.Common.{sym, ap, ◌∙◌}
use Rattle.rs_machine.specs.State.{has}
use Rattle.rs_catalog.specs.Referents.{referents_on}
use Rattle.rs_command_checks.proofs.ReferentSteps.{has_referent_there}
use Rattle.rs_command_checks.proofs.checks.Checks.has_referent.Goals as goal

pub returns-else-is_start : goal.returns-else-is_start
returns-else-is_start c = λ unseen.
    c.has.ensures ∙ ap (λ n. has (referents_on c.args.self.now.referents.now n) c.args.name.now.bytes) c.number.ensures
    ∙ has_referent_there c.args.self.now unseen c.args.route.now.bytes c.args.entry c.requires.there c.args.name.now.bytes (sym c.is_start.ensures ∙ c.if-is_start.false)
