use Rattle.std.proofs.Common.{◌∙◌, ◌++◌, ap, ap₂}
use Rattle.rs_dump_laws.specs.Lines.{dump_line}
use Rattle.rs_syntax.specs.Tree.{define_route}
use Rattle.rs_dump.proofs.Puts.{put_as}
use Rattle.rs_dump.proofs.Stops.{memory_wanted}
use Rattle.rs_dump.proofs.put.put_route.Goals as goal

pub returns-in_err-push_route_line : goal.returns-in_err-push_route_line
returns-in_err-push_route_line g c = memory_wanted c.from_residual.result _ _ (g.W.Write.contents c.args.output.now) c.from_residual.ensures.1

pub returns : goal.returns
returns g c =
    let name = c.args.name.now.bytes in
    put_as c.put_line.result _ _ _ _
    (c.as_slice.ensures.value ∙ c.in_ok-push_route_line.ensures ∙ ap (λ text. text ++ dump_line (define_route name c.start.result c.finish.result)) c.clear.ensures.items
    ∙ ap₂ (λ start finish. dump_line (define_route name start finish)) c.start.ensures c.finish.ensures)
    c.put_line.ensures
