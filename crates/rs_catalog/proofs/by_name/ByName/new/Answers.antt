use Rattle.std.proofs.Common.{ap}
use Rattle.rs_catalog.specs.Names.{names_of}
use Rattle.rs_catalog.proofs.by_name.ByName.new.Goals as goal

pub returns : goal.returns
unfolding names_of
returns g c = ap (names_of (λ value. value)) c.new.ensures.empty
