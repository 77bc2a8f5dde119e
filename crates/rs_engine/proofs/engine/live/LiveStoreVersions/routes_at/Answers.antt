-- The catalogue has the routes that a version sees.
use Rattle.std.proofs.Common.{◌∙◌, ap, sym}
use Rattle.std.specs.FinMap as names
use Rattle.rs_answers.specs.Versions.{SeenVersion}
use Rattle.rs_store_source.specs.Versions.{routes_by}
use Rattle.rs_engine.proofs.engine.live.LiveStoreVersions.routes_at.Goals as goal

pub returns-clause-shown : goal.returns-clause-shown
returns-clause-shown g c = λ seen shows.
    c.in_ok-routes_born_by.ensures ∙ ap (routes_by c.args.version) c.catalog.ensures
    ∙ (c.routes_born_by_are_seen.ensures c.args.self.now.oldest shows.state shows.stands).are ∙ sym (ap (λ (one : SeenVersion). names.entries one.routes) shows.is)
