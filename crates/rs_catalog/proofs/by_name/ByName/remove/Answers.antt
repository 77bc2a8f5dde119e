use Rattle.std.proofs.Common.{ap, ◌∙◌}
use Rattle.std.specs.FinMap as names
use Rattle.rs_catalog.proofs.Names.{names_of-gone}
use Rattle.rs_catalog.proofs.by_name.ByName.remove.Goals as goal

pub returns : goal.returns
returns g c = names_of-gone (λ value. value) _ _ c.args.name.now (c.remove-removed.ensures.updates.0) ∙ ap (λ old. names.remove old c.args.name.now.bytes) c.self.view_is
