use Rattle.std.proofs.Common.{ap, codes}
use Rattle.std.proofs.lemmas.Result.{on_ok_weaker}
use Rattle.rs_dump_laws.specs.Lines.{shortest_text}
use Rattle.rs_dump_lines.proofs.Joined.{as_it_is, then}
use Rattle.rs_dump_lines.proofs.writing.push_referent_line.Goals as goal

pub returns : goal.returns
returns c =
    on_ok_weaker c.push_measure.result (λ more.
    then _ _ _ (codes "0 DEFINE REFERENT ") _ c.in_ok-push_text.ensures
    (then _ _ _ c.args.route.now.bytes _ (as_it_is _ _ _ _ c.in_ok-push_text-2.ensures c.as_str.ensures.value)
    (then _ _ _ (codes " ") _ c.in_ok-push_text-3.ensures
    (then _ _ _ c.args.name.now.bytes _ (as_it_is _ _ _ _ c.in_ok-push_text-4.ensures c.as_str-2.ensures.value)
    (then _ _ _ (codes " AT ") _ c.in_ok-push_text-5.ensures
    (as_it_is _ _ _ _ more (ap shortest_text c.thousandths.ensures.value)))))))
    c.push_measure.ensures
