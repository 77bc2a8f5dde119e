use Rattle.std.proofs.Common.{◌∙◌, ◌++◌, sym, ap, false}
use Rattle.std.proofs.lemmas.Result.{on_ok_weaker}
use Rattle.rs_csv_answers.specs.Records.{quotes_single}
use Rattle.rs_csv_answers.proofs.Marks.{unmarked}
use Rattle.rs_csv_answers.proofs.records.push_text.Goals as goal

pub returns-else-has_to_be_marked : goal.returns-else-has_to_be_marked
returns-else-has_to_be_marked c =
    let put = c.push_doubled-else-has_to_be_marked in
    let text = quotes_single false c.args.inner.now in
    on_ok_weaker put.result (λ more. more ∙ ap (λ l. c.args.text.now.items ++ l) (unmarked text (sym c.has_to_be_marked.ensures ∙ c.if-has_to_be_marked.false))) put.ensures
