use Rattle.rs_facts.specs.Fact.{name_cmp}
use Rattle.rs_catalog_meaning.proofs.names.comes_before.Goals as goal

pub returns : goal.returns
unfolding name_cmp
returns g c = cc
