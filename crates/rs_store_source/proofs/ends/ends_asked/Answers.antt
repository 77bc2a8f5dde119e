-- The version is live, so what is found is shown.
use Rattle.std.proofs.Common.{◌≤◌, ◌∙◌, ap, arith}
use Rattle.rs_catalog.specs.Definitions.{Definitions}
use Rattle.rs_store.specs.Versions.{routes_by}
use Rattle.rs_store_source.specs.Shown.{ends_with}
use Rattle.rs_store_source.proofs.RouteEnds.{ends_shown}
use Rattle.rs_store_source.proofs.ends.ends_asked.Goals as goal

pub returns : goal.returns
returns g c = λ snapshots shows.
    let store = c.args.store.now in
    let low : c.args.oldest ≤ c.args.version = omega (arith, c.if-version-oldest.false) in
    let high : c.args.version ≤ store.file.accepted = omega (arith, c.if-accepted-version.false, c.accepted.ensures) in
    c.ends_among.ensures
    ∙ ap (λ (catalog : Definitions). ends_with (routes_by c.args.version catalog) c.args.route) c.catalog.ensures
    ∙ ends_shown g.D.Disk c.args.oldest store snapshots shows c.args.version c.args.route low high
