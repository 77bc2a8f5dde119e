use Rattle.std.proofs.Common.{ap, ◌∙◌}
use Rattle.std.specs.FinMap as names
use Rattle.rs_catalog.proofs.Names.{get-names_of_same}
use Rattle.rs_catalog.proofs.by_name.ByName.get.Goals as goal

pub returns : goal.returns
returns g c = c.get.ensures.value ∙ get-names_of_same c.self.inside.entries.entries c.args.name.now ∙ ap (λ values. names.get values c.args.name.now.bytes) c.self.view_is
