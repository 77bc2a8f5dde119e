use Rattle.std.proofs.Common.{◌++◌, ap, ◌∙◌}
use Rattle.std.specs.Prelude.{string_bytes}
use Rattle.rs_facts.specs.Spans.{seen}
use Rattle.rs_answers.specs.Printed.{printed_by}
use Rattle.rs_answers.proofs.LineTexts.{point_line, line_line}
use Rattle.rs_answers.proofs.run_text.joined_line.Goals as goal
use Rattle.rs_answers.proofs.run_text.joined_line.Goals.{in-Point, in-Line+in_ok-push-in-Line}

pub returns : goal.returns
returns c =
    let route = c.in_ok-push_str.ensures.bytes ∙ (λ i. c.in_ok-text.ensures.bytes i ++ c.as_str.ensures.value i) in
    elim c.match-kind.branch [
      | in-Point w ↦ point_line (printed_by c.args.printer.now) c.args.kind _ (seen c.args.run.now) _ _ _ w.in-Point.is route (ap string_bytes w.text-is ∙ c.in_ok-push.ensures) c.in_ok-push_values.ensures
      | in-Line+in_ok-push-in-Line w ↦ line_line (printed_by c.args.printer.now) c.args.kind _ (seen c.args.run.now) _ _ _ _ w.in-Line.is route c.in_ok-push.ensures (ap string_bytes w.text-is ∙ w.in_ok-push-in-Line.ensures) c.in_ok-push_values.ensures
    ]
