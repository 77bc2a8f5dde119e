use Rattle.std.proofs.Common.{◌∙◌, sym, ap}
use Rattle.rs_csv_answers.proofs.Cutting.{ends-here, goes-on-here}
use Rattle.rs_csv_answers.proofs.records.push_fields.Goals.{then-ends_field+in_ok-push_field+in_ok-push, else-ends_field}
use Rattle.rs_csv_answers.proofs.records.push_fields.Goals as goal

pub loop-place-preserved : goal.loop-place-preserved
loop-place-preserved c =
    let was = c.loop-place in
    elim c.if-ends_field.branch [
      | then-ends_field+in_ok-push_field+in_ok-push w ↦
          let step = ends-here _ was.text.items w.push_field.new.text.items c.if-ends_field.text.items c.args.row.now was.is_quoted c.if-ends_field.is_quoted was.begin was.place
          c.if-ends_field.begin _ c.loop-place-test.true (sym c.ends_field.ensures ∙ w.if-ends_field.true) was.invariant.text w.in_ok-push_field.ensures
          (ap (λ text. text.items) w.text-is ∙ w.in_ok-push.ensures.items) w.begin-is w.is_quoted-is in
          record { begun = step.0; text = step.1 }
      | else-ends_field w ↦
          let step = goes-on-here _ was.text.items c.if-ends_field.text.items c.args.row.now was.is_quoted c.if-ends_field.is_quoted was.begin was.place
          c.if-ends_field.begin _ was.invariant.begun c.loop-place-test.true (sym c.ends_field.ensures ∙ w.if-ends_field.false) was.invariant.text
          (ap (λ text. text.items) w.text-is) w.begin-is (w.is_quoted-is ∙ w.is_quoted_after-is_quoted.ensures) in
          record { begun = step.0; text = step.1 }
    ]
