use Rattle.std.proofs.Common.{ℕ, ◌++◌, List, map, ap, sym, subst, ◌∙◌}
use Rattle.rs_facts.specs.declared.fact.Span.{Span}
use Rattle.rs_facts.specs.Runs.{AreRunsOf}
use Rattle.rs_facts.specs.Spans.{seen}
use Rattle.rs_exec.specs.Meaning.{rows_in, kind_in}
use Rattle.rs_serve.specs.ReplyView.{rows_of}
use Rattle.rs_answers.proofs.QueryAnswers.{query-lines}
use Rattle.rs_answers.proofs.rows.push_rows.Goals as goal

pub returns-clause-lines : goal.returns-clause-lines
returns-clause-lines g c = λ query for there state stands.
    let e = c.args.e.now in
    let plan = c.args.asked.now.plan.now in
    let snapshot = stands.snapshots c.args.asked.now.version in
    let named = c.args.named.now in
    let kept = c.referents.ensures ∙ g.met.E.InMemory.referents_stay e c.runs_on.new.source c.in_ok-runs.ensures.ends.leaves.passes in
    let runs = subst (λ (number : ℕ). AreRunsOf (kind_in plan) (rows_in plan snapshot number) (map seen c.as_slice.result.now)) c.number.ensures
    (subst (λ (spans : List Span). AreRunsOf (kind_in plan) (rows_in plan snapshot c.number.result) (map seen spans)) (sym c.as_slice.ensures.value) (c.in_ok-runs.ensures.runs stands.snapshots stands.is)) in
    c.in_ok-push_lines.ensures
    ∙ ap (λ lines. rows_of c.args.rows.now.items ++ lines)
    (query-lines c.rows_lie_on_routes.ensures (g.E.InMemory.definitions e) (g.E.InMemory.held_referents e) state snapshot stands.present query plan for named.name.bytes named.route there
    (map seen c.as_slice.result.now) runs c.referents.result.now kept c.args.method c.args.asked.now.kind c.requires.kind)
