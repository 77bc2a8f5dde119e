-- The query is refused by its checks, or its plan is printed.
use Rattle.std.proofs.Common.{⊎_elim, inl, inr}
use Rattle.std.proofs.lemmas.Result.{IfErr-weaker, IfOk-weaker, err_from_is_err_and}
use Rattle.rs_checker.specs.CheckedView.{query_of}
use Rattle.rs_engine.proofs.Checking.{explain_checked, explain_unchecked}
use Rattle.rs_engine.proofs.Reading.{refused_at_once, rows_at_once}
use Rattle.rs_machine.specs.Step.{plan_printed}
use Rattle.rs_serve.specs.ReplyView.{rows_of}
use Rattle.rs_syntax.specs.QueryView.{query_tree}
use Rattle.rs_engine.proofs.engine.Engine.explain.Goals as goal

pub returns-in_err-checked : goal.returns-in_err-checked
returns-in_err-checked g c =
    let tree = query_tree c.args.query.now in
    let why = c.in_err-checked.field-0.0 in
    let p = err_from_is_err_and c.from_residual.result c.from_residual.ensures.1 in
    rw (p.1, p.2) (record {
      serves = λ machine is. refused_at_once g.D.Disk c.args.self.now machine is (plan_printed machine.state tree) why
          (⊎_elim (λ memory. inl memory) (λ off. inr (explain_unchecked machine.state tree why off)) (c.in_err-checked.ensures.refused machine is));
    })

pub returns : goal.returns
returns g c = record {
  serves = λ machine is.
      let tree = query_tree c.args.query.now in
      let query = query_of c.in_ok-checked.checked.query in
      let result = c.lines_of_plan.result in
      rows_at_once g.D.Disk c.args.self.now machine is (plan_printed machine.state tree) result
      (IfOk-weaker result _ _ (λ rows are. explain_checked machine.state tree query (rows_of rows.items) (c.in_ok-checked.ensures.is machine is).is are) (c.lines_of_plan.ensures.lines machine is))
      (IfErr-weaker result _ _ (λ why memory. inl memory) c.lines_of_plan.ensures.wants);
}
