use Rattle.std.proofs.Common.{ap₂, codes}
use Rattle.std.proofs.lemmas.Result.{on_ok_weaker}
use Rattle.rs_dump_laws.specs.Lines.{span_text}
use Rattle.rs_dump_lines.proofs.Joined.{as_it_is, then}
use Rattle.rs_dump_lines.proofs.writing.push_route_line.Goals as goal

pub returns : goal.returns
returns c =
    on_ok_weaker c.push_span.result (λ more.
    then _ _ _ (codes "0 DEFINE ROUTE ") _ c.in_ok-push_text.ensures
    (then _ _ _ c.args.name.now.bytes _ (as_it_is _ _ _ _ c.in_ok-push_text-2.ensures c.as_str.ensures.value)
    (as_it_is _ _ _ _ more (ap₂ span_text c.thousandths.ensures.value c.thousandths-2.ensures.value))))
    c.push_span.ensures
