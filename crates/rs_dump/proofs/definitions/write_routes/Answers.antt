-- One line after another.
use Rattle.std.proofs.Common.{◌∙◌, List, ap, map}
use Rattle.arrayvec.specs.ArrayString.{ArrayString}
use Rattle.rs_catalog.specs.Definitions.{RouteItem}
use Rattle.rs_catalog.specs.Names.{entries_by_bytes}
use Rattle.rs_dump.specs.Sections.{route_commands, route_of}
use Rattle.rs_dump_laws.specs.Dump.{route_command}
use Rattle.rs_facts.specs.Query.{RouteEnds}
use Rattle.rs_syntax.specs.Tree.{CommandTree}
use Rattle.rs_dump.specs.Written.{line_bytes}
use Rattle.rs_dump.proofs.Stops.{front_as, passed_on, stops_line}
use Rattle.rs_dump.proofs.Written.{written_as, wrote_all, wrote_first, wrote_more}
use Rattle.rs_dump.proofs.definitions.write_routes.Goals as goal

abbrev commands_left : List (ArrayString × RouteItem) → List CommandTree
commands_left left = map route_of (entries_by_bytes (λ route. route) left)

pub loop-name-init : goal.loop-name-init
loop-name-init g c =
    wrote_first (route_commands c.args.catalog.now) (commands_left c.into_iter-name-iterator.result) (g.W.Write.contents c.args.output.now)
    (ap (map route_of) (ap (entries_by_bytes (λ route. route)) c.into_iter-name-iterator.ensures.into_iter_gives ∙ c.routes-name-items.ensures))

pub loop-name-preserved : goal.loop-name-preserved
loop-name-preserved g c =
    wrote_more (route_commands c.args.catalog.now) (commands_left c.loop-name.name-iterator) (commands_left c.next.new.self) (route_of (c.in-Some.name.now.bytes, c.in-Some.route.now))
    (g.W.Write.contents c.args.output.now) (g.W.Write.contents c.loop-name.output) (g.W.Write.contents c.put_route.new.output)
    (ap commands_left c.in-Some.ensures.steps) c.loop-name.invariant
    (written_as _ _ _ _ (ap (λ (ends : RouteEnds). route_command (c.in-Some.name.now.bytes, ends)) c.ends.ensures) c.in_ok-put_route.ensures)

pub returns : goal.returns
returns g c =
    wrote_all (route_commands c.args.catalog.now) (commands_left c.loop-name.name-iterator) (g.W.Write.contents c.args.output.now) (g.W.Write.contents c.loop-name.output)
    c.loop-name.invariant (ap commands_left c.in-None.ensures.steps.0)

pub returns-in_err-put_route : goal.returns-in_err-put_route
returns-in_err-put_route g c =
    passed_on c.from_residual.result c.in_err-put_route.field-0.0 _ _ c.from_residual.ensures.1 (
      c.in_err-put_route.ensures.0,
      stops_line c.in_err-put_route.field-0.0 (route_commands c.args.catalog.now) (commands_left c.loop-name.name-iterator) (commands_left c.next.new.self) (route_of (c.in-Some.name.now.bytes, c.in-Some.route.now))
          (g.W.Write.contents c.args.output.now) (g.W.Write.contents c.loop-name.output) (g.W.Write.contents c.put_route.new.output)
          (ap (commands_left) c.in-Some.ensures.steps) c.loop-name.invariant (front_as c.in_err-put_route.field-0.0 _ _ _ _ (ap line_bytes (ap (λ (ends : RouteEnds). route_command (c.in-Some.name.now.bytes, ends)) c.ends.ensures)) c.in_err-put_route.ensures.1),
    )
