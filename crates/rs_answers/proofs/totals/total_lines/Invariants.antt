use Rattle.std.proofs.Common.{◌≡◌, map, take}
use Rattle.rs_facts.specs.TotalText.{total_text}
use Rattle.rs_serve.specs.ReplyView.{rows_of}
use Rattle.rs_total.specs.Answer.{answered}
use Rattle.rs_answers.proofs.totals.total_lines.Given as goal

abbrev pub invariant-loop-total : goal.invariant-loop-total
invariant-loop-total l = rows_of l.rows.items ≡ map (total_text l.kind) (map answered (take l.total-index l.totals))
