use Rattle.std.proofs.Common.{◌∙◌, ◌++◌, ap}
use Rattle.rs_dump_laws.specs.Lines.{dump_line}
use Rattle.rs_syntax.specs.Tree.{define_view}
use Rattle.rs_dump.proofs.Puts.{put_as}
use Rattle.rs_dump.proofs.Stops.{memory_wanted}
use Rattle.rs_dump.proofs.put.put_view.Goals as goal

pub returns-in_err-push_view_line : goal.returns-in_err-push_view_line
returns-in_err-push_view_line g c = λ query. memory_wanted c.from_residual.result _ _ (g.W.Write.contents c.args.output.now) c.from_residual.ensures.1

pub returns : goal.returns
returns g c = λ query.
    put_as c.put_line.result _ _ _ _
    (c.as_slice.ensures.value ∙ c.in_ok-push_view_line.ensures query ∙ ap (λ text. text ++ dump_line (define_view c.args.name.now.bytes query c.args.text.now)) c.clear.ensures.items)
    c.put_line.ensures
