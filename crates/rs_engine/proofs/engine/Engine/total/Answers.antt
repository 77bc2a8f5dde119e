-- The query is refused by its checks, or its totals are read.
use Rattle.std.proofs.Common.{⊎_elim, inl, inr, map, ◌∙◌}
use Rattle.std.proofs.lemmas.Result.{IfErr-weaker, IfOk-weaker, err_from_is_err_and}
use Rattle.rs_checker.specs.CheckedView.{query_of}
use Rattle.rs_engine.proofs.Checking.{total_checked, total_unchecked}
use Rattle.rs_engine.proofs.Reading.{reads_refl, refused_at_once, served_rows}
use Rattle.rs_machine.specs.Step.{totals_printed}
use Rattle.rs_syntax.specs.QueryView.{query_tree}
use Rattle.rs_syntax.specs.View.{summed_tree}
use Rattle.rs_engine.proofs.engine.Engine.total.Goals as goal

pub returns-in_err-checked : goal.returns-in_err-checked
returns-in_err-checked g c =
    let tree = query_tree c.args.query.now in
    let by = map (λ name. name.bytes) c.args.by.now in
    let summed = summed_tree c.args.summed.now in
    let why = c.in_err-checked.field-0.0 in
    let p = err_from_is_err_and c.from_residual.result c.from_residual.ensures.1 in
    rw (p.1, p.2) (record {
      serves = λ machine is. refused_at_once g.D.Disk c.args.self.now machine is (totals_printed machine.state tree by summed) why
          (⊎_elim (λ memory. inl memory) (λ off. inr (total_unchecked machine.state tree by summed why off)) (c.in_err-checked.ensures.refused machine is));
      reads = reads_refl g.D.Disk c.args.self.now;
    })

pub returns : goal.returns
returns g c = record {
  serves = λ machine is.
      let tree = query_tree c.args.query.now in
      let by = map (λ name. name.bytes) c.args.by.now in
      let summed = summed_tree c.args.summed.now in
      let result = c.total_of_checked.result in
      let made = c.in_ok-checked.ensures.is machine is in
      let checked = total_checked machine.state tree by summed (query_of c.in_ok-checked.checked.query) made.is in
      served_rows g.D.Disk c.args.self.now c.total_of_checked.new.self machine is c.total_of_checked.ensures.reads (totals_printed machine.state tree by summed) result
      (IfOk-weaker result _ _ (λ rows done. checked ∙ done) (c.total_of_checked.ensures.done machine is made.columns))
      (IfErr-weaker result _ _ (λ why. ⊎_elim (λ wanted. inl wanted) (λ off. inr (checked ∙ off))) (c.total_of_checked.ensures.refused machine is made.columns));
  reads = c.total_of_checked.ensures.reads;
}
