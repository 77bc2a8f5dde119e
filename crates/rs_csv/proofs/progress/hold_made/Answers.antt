use Rattle.std.proofs.Common.{◌∙◌, ◌++◌, ap}
use Rattle.std.specs.List.{concat}
use Rattle.rs_csv.proofs.Cuts.{concat_more}
use Rattle.rs_csv.proofs.progress.hold_made.Goals as goal

pub returns-clause-held : goal.returns-clause-held
returns-clause-held c =
    let held = c.args.progress.now.held in (
      c.clear.ensures.items,
      ap concat c.in_ok-add.ensures ∙ concat_more held c.as_slice.result.now ∙ ap (λ bs. concat held ++ bs) c.as_slice.ensures.value,
    )
