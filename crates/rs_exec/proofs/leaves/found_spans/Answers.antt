use Rattle.std.proofs.Common.{map}
use Rattle.std.proofs.lemmas.Result.{IfOk-weaker}
use Rattle.rs_facts.specs.ConditionView.{condition_of}
use Rattle.rs_facts.specs.Spans.{seen}
use Rattle.rs_exec.proofs.Finding.{found-some}
use Rattle.rs_exec.proofs.leaves.found_spans.Goals as goal

pub returns-in-Some-clause-found : goal.returns-in-Some-clause-found
returns-in-Some-clause-found g c =
    IfOk-weaker c.spans_of_value.result _ _
    (λ spans given. found-some (g.S.Source.is c.args.source.now) c.args.asked.now c.args.part (map condition_of c.args.leaf.now.conditions.items) (map seen spans.items) c.in-Some.sought c.in-Some.ensures given)
    c.spans_of_value.ensures.gives
