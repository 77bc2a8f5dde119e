-- The cells are listed in the order of their deaths.
use Rattle.std.proofs.Common.{◌≡◌, ◌≤◌, ◌*◌, ◌++◌, [], ◌∷◌, sym, ap, ◌∙◌, subst, arith}
use Rattle.std.specs.List.{AllByRecursion}
use Rattle.std.specs.Vec.{vec_len}
use Rattle.rs_records.specs.Listed.{listed}
use Rattle.rs_cell_versions.specs.Dying.{AreDeaths}
use Rattle.rs_cell_versions.specs.Version.{died_of}
use Rattle.rs_cell_versions.proofs.Deaths.{cells_more, died_before}
use Rattle.rs_cell_versions.proofs.Tallying.{record_wide}
use Rattle.rs_cell_versions.proofs.dying.by_death.Goals as goal

pub push-requires-clause-width : goal.push-requires-clause-width
push-requires-clause-width c =
    let cells = c.args.cells.now in
    let whole : vec_len cells.bytes ≡ cells.count * cells.width = cells.whole in
    record_wide cells.count cells.width cells.bytes.items _ c.get.result.now (omega (arith, cells.bytes.ok.0, whole)) c.get.ensures ∙ sym c.loop-death.invariant.width

pub push-requires-clause-order : goal.push-requires-clause-order
push-requires-clause-order c =
    let cells = listed c.args.cells.now in
    let deaths = c.deref-death-items.result.now in
    let are : AreDeaths cells deaths = subst (AreDeaths cells) (sym c.deref-death-items.ensures.value) c.in_ok-deaths.ensures in
    subst (AllByRecursion (λ dead. died_of dead ≤ died_of c.get.result.now)) (sym c.loop-death.invariant.working)
    (died_before cells deaths c.loop-death.death-index c.get.result.now are c.loop-death-test.true c.get.ensures)

pub loop-death-preserved : goal.loop-death-preserved
loop-death-preserved c = record {
  width = c.in_ok-push.ensures.width ∙ c.loop-death.invariant.width;
  working = c.in_ok-push.ensures.working ∙ ap (λ xs. xs ++ c.get.result.now ∷ []) c.loop-death.invariant.working
      ∙ sym (cells_more (listed c.args.cells.now) c.deref-death-items.result.now c.loop-death.death-index c.get.result.now c.loop-death-test.true c.get.ensures);
}
