-- One section after the other.
use Rattle.std.proofs.Common.{◌++◌, ap, ap₂}
use Rattle.rs_dump.specs.Sections.{referent_commands, route_commands, table_commands}
use Rattle.rs_dump.proofs.Stops.{in_both, passed_on, stops_as, stops_first, stops_later}
use Rattle.rs_dump.proofs.Written.{all_written_as, joined}
use Rattle.rs_dump.proofs.dumping.write_first.Goals as goal

pub returns : goal.returns
returns g c =
    let definitions = g.H.Held.catalog c.args.held.now in
    let held = g.H.Held.referents c.args.held.now in
    let routes = all_written_as _ _ _ _ (ap route_commands c.catalog.ensures) c.in_ok-write_routes.ensures in
    let referents = all_written_as _ _ _ _ (ap₂ referent_commands c.catalog-2.ensures c.referents.ensures) c.in_ok-write_referents.ensures in
    let same = ap table_commands c.catalog-3.ensures in
    in_both c.write_tables.result _ _ _ _
    (λ done put.
    joined (route_commands definitions) _ _ _ _ routes (joined (referent_commands definitions held) (table_commands definitions) _ _ _ referents (all_written_as _ _ _ _ same put)))
    (λ stop so. (
      so.0,
      stops_later stop (route_commands definitions) (referent_commands definitions held ++ table_commands definitions) _ _ _ routes
          (stops_later stop (referent_commands definitions held) (table_commands definitions) _ _ _ referents (stops_as stop _ _ _ _ same so.1)),
    ))
    c.write_tables.ensures

pub returns-in_err-write_routes : goal.returns-in_err-write_routes
returns-in_err-write_routes g c =
    let definitions = g.H.Held.catalog c.args.held.now in
    let held = g.H.Held.referents c.args.held.now in
    let stop = c.in_err-write_routes.field-0.0 in
    passed_on c.from_residual.result stop _ _ c.from_residual.ensures.1 (
      c.in_err-write_routes.ensures.0,
      stops_first stop (route_commands definitions) (referent_commands definitions held ++ table_commands definitions) _ _
          (stops_as stop _ _ _ _ (ap route_commands c.catalog.ensures) c.in_err-write_routes.ensures.1),
    )

pub returns-in_err-write_referents : goal.returns-in_err-write_referents
returns-in_err-write_referents g c =
    let definitions = g.H.Held.catalog c.args.held.now in
    let held = g.H.Held.referents c.args.held.now in
    let stop = c.in_err-write_referents.field-0.0 in
    passed_on c.from_residual-in_err-write_referents.result stop _ _ c.from_residual-in_err-write_referents.ensures.1 (
      c.in_err-write_referents.ensures.0,
      stops_later stop (route_commands definitions) (referent_commands definitions held ++ table_commands definitions) _ _ _
          (all_written_as _ _ _ _ (ap route_commands c.catalog.ensures) c.in_ok-write_routes.ensures)
          (stops_first stop (referent_commands definitions held) (table_commands definitions) _ _
          (stops_as stop _ _ _ _ (ap₂ referent_commands c.catalog-2.ensures c.referents.ensures) c.in_err-write_referents.ensures.1)),
    )
