use Rattle.std.proofs.Common.{ap, ◌∙◌}
use Rattle.std.specs.FinMap as numbers
use Rattle.rs_catalog.specs.Referents.{referents_on}
use Rattle.rs_catalog.proofs.Numbered.{numbered-gone}
use Rattle.rs_catalog.proofs.ReferentLaws.{Held, referents_on-remove}
use Rattle.rs_catalog.proofs.referents.RouteReferents.drop_route.Goals as goal

pub returns : goal.returns
returns c =
    ap referents_on (numbered-gone c.self.inside.by_route.entries _ c.args.number (c.remove-removed.ensures.updates.0) ∙ ap (λ (old : Held). numbers.remove old c.args.number) c.self.view_is)
    ∙ referents_on-remove c.args.self.now c.args.number
