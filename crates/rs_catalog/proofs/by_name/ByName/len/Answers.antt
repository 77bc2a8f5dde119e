use Rattle.std.proofs.Common.{sym, ap, ◌∙◌}
use Rattle.std.specs.FinMap as names
use Rattle.rs_catalog.proofs.Names.{len-names_of}
use Rattle.rs_catalog.proofs.by_name.ByName.len.Goals as goal

pub returns : goal.returns
returns g c = c.len.ensures.len ∙ sym (len-names_of (λ value. value) _ c.len.ensures.ordered) ∙ ap names.len c.self.view_is
