use Rattle.std.proofs.Common.{ap, ◌∙◌}
use Rattle.rs_catalog.specs.Referents.{referents_on}
use Rattle.rs_catalog.proofs.Numbered.{numbered}
use Rattle.rs_catalog.proofs.ReferentLaws.{referents_on-empty}
use Rattle.rs_catalog.proofs.referents.RouteReferents.new.Goals as goal

pub returns : goal.returns
returns c = ap (λ entries. referents_on (numbered entries)) c.new.ensures.empty ∙ referents_on-empty
