-- The query is refused by its checks, or its lines are read.
use Rattle.std.proofs.Common.{⊎_elim, inl, inr}
use Rattle.std.proofs.lemmas.Result.{IfErr-weaker, IfOk-weaker, err_from_is_err_and}
use Rattle.rs_checker.specs.CheckedView.{query_of}
use Rattle.rs_engine.proofs.Checking.{select_checked, select_unchecked}
use Rattle.rs_engine.proofs.Reading.{reads_refl, refused_at_once, served_rows}
use Rattle.rs_machine.specs.Step.{selected}
use Rattle.rs_serve.specs.ReplyView.{rows_of}
use Rattle.rs_syntax.specs.QueryView.{query_tree}
use Rattle.rs_engine.proofs.engine.Engine.select.Goals as goal

pub returns-in_err-checked : goal.returns-in_err-checked
returns-in_err-checked g c =
    let tree = query_tree c.args.query.now in
    let why = c.in_err-checked.field-0.0 in
    let p = err_from_is_err_and c.from_residual.result c.from_residual.ensures.1 in
    rw (p.1, p.2) (record {
      serves = λ machine is. refused_at_once g.D.Disk c.args.self.now machine is (selected machine.state tree c.args.method) why
          (⊎_elim (λ memory. inl memory) (λ off. inr (select_unchecked machine.state tree c.args.method why off)) (c.in_err-checked.ensures.refused machine is));
      reads = reads_refl g.D.Disk c.args.self.now;
    })

pub returns : goal.returns
returns g c = record {
  serves = λ machine is.
      let tree = query_tree c.args.query.now in
      let query = query_of c.in_ok-checked.checked.query in
      let result = c.lines_of_checked.result in
      served_rows g.D.Disk c.args.self.now c.lines_of_checked.new.self machine is c.lines_of_checked.ensures.reads (selected machine.state tree c.args.method) result
      (IfOk-weaker result _ _ (λ rows are. select_checked machine.state tree c.args.method query (rows_of rows.items) (c.in_ok-checked.ensures.is machine is).is are) (c.lines_of_checked.ensures.lines machine is))
      (IfErr-weaker result _ _ (λ why wanted. inl wanted) c.lines_of_checked.ensures.wants);
  reads = c.lines_of_checked.ensures.reads;
}
