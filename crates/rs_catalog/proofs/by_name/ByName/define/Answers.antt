use Rattle.std.proofs.Common.{ap, ◌∙◌}
use Rattle.std.specs.FinMap as names
use Rattle.rs_catalog.proofs.Names.{names_of-put}
use Rattle.rs_catalog.proofs.by_name.ByName.define.Goals as goal

pub returns-clause-ok : goal.returns-clause-ok
returns-clause-ok g c = names_of-put (λ value. value) _ _ c.args.name c.args.value (c.in_ok-insert.ensures.updates.0) ∙ ap (λ old. names.insert old c.args.name.bytes c.args.value) c.self.view_is
