use Rattle.std.proofs.Common.{◌∙◌, sym}
use Rattle.rs_csv_answers.proofs.Marks.{needs-some}
use Rattle.rs_csv_answers.proofs.records.has_to_be_marked.Goals as goal

pub returns-else-is_empty : goal.returns-else-is_empty
returns-else-is_empty c = c.has_any_call.ensures ∙ sym (needs-some c.args.inner.now (sym c.is_empty.ensures ∙ c.if-is_empty.false))
