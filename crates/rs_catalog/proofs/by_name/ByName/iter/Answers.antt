use Rattle.std.proofs.Common.{sym, ap, ◌∙◌}
use Rattle.std.specs.FinMap as names
use Rattle.rs_catalog.specs.Names.{entries_by_bytes}
use Rattle.rs_catalog.proofs.Names.{entries-names_of}
use Rattle.rs_catalog.proofs.by_name.ByName.iter.Goals as goal

pub returns : goal.returns
returns g c = ap (entries_by_bytes (λ value. value)) c.iter.ensures.rest ∙ sym (entries-names_of (λ value. value) _ c.iter.ensures.ordered) ∙ ap names.entries c.self.view_is
