use Rattle.std.proofs.Common.{List, map, sym, subst}
use Rattle.std.proofs.Math.Path.{fun_ext}
use Rattle.rs_facts.specs.declared.fact.Span.{Span}
use Rattle.rs_facts.specs.Runs.{AreRunsOf}
use Rattle.rs_facts.specs.Spans.{seen}
use Rattle.rs_exec.specs.Meaning.{rows_in, kind_in}
use Rattle.rs_answers.proofs.QueryRuns.{no-runs}
use Rattle.rs_answers.proofs.runs.runs_on.Goals as goal

pub returns-then-is_elsewhere-clause-runs : goal.returns-then-is_elsewhere-clause-runs
returns-then-is_elsewhere-clause-runs g c = λ snapshots is.
    let rows = rows_in c.args.plan.now (snapshots c.args.version) c.args.route in
    subst (λ (spans : List Span). AreRunsOf (kind_in c.args.plan.now) rows (map seen spans)) (sym c.new.ensures.items)
    (no-runs (kind_in c.args.plan.now) rows (fun_ext (λ k. c.is_elsewhere.ensures.nothing c.if-is_elsewhere.true (snapshots c.args.version) k)))
