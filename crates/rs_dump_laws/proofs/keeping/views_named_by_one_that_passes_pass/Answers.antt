use Rattle.rs_dump_laws.proofs.NamedViews.{views_named_pass}
use Rattle.rs_dump_laws.proofs.keeping.views_named_by_one_that_passes_pass.Goals as goal

pub returns : goal.returns
returns c = views_named_pass
