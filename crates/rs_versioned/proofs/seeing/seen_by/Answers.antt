-- One cell after the other.
use Rattle.std.proofs.Common.{◌∙◌, ◌++◌, [], ◌∷◌, List, ℕ, true, false, take, filter, sym, ap, arith}
use Rattle.std.proofs.lemmas.List.{append-nil}
use Rattle.rs_records.specs.Listed.{listed, record_width}
use Rattle.rs_cell_versions.specs.Version.{sees}
use Rattle.rs_versioned.proofs.CellsWide.{cell_wide, filter_next}
use Rattle.rs_versioned.proofs.seeing.seen_by.Goals as goal
use Rattle.rs_versioned.proofs.seeing.seen_by.Goals.{then-sees+in_ok-push, else-sees}

pub sees-requires : goal.sees-requires
sees-requires c = omega (arith, cell_wide c.args.cells.now c.loop-index.index c.get-cell.result.now c.get-cell.ensures, c.requires.width)

pub push-requires : goal.push-requires
push-requires c = cell_wide c.args.cells.now c.loop-index.index c.get-cell.result.now c.get-cell.ensures ∙ sym c.loop-index.invariant.width

pub loop-index-preserved : goal.loop-index-preserved
loop-index-preserved c =
    let all = listed c.args.cells.now in
    let i = c.loop-index.index in
    let cell = c.get-cell.result.now in
    let test = sees c.args.version in
    elim c.if-sees.branch [
      | then-sees+in_ok-push w ↦
          let next = filter_next test all i cell true c.get-cell.ensures (sym c.sees.ensures ∙ w.if-sees.true) in
          record {
            seen = ap listed w.seen-is ∙ w.in_ok-push.ensures.pushed ∙ ap (λ (l : List (List ℕ)). l ++ cell ∷ []) c.loop-index.invariant.seen ∙ sym next;
            width = ap record_width w.seen-is ∙ w.in_ok-push.ensures.width ∙ c.loop-index.invariant.width;
          }
      | else-sees w ↦
          let next = filter_next test all i cell false c.get-cell.ensures (sym c.sees.ensures ∙ w.if-sees.false) in
          record {
            seen = ap listed w.seen-is ∙ c.loop-index.invariant.seen ∙ sym (next ∙ append-nil (filter test (take i all)));
            width = ap record_width w.seen-is ∙ c.loop-index.invariant.width;
          }
    ]
