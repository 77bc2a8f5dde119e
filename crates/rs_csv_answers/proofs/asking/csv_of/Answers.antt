use Rattle.std.proofs.Common.{◌≡◌, Ok, rules}
use Rattle.rs_csv_answers.proofs.asking.csv_of.Goals as goal

pub returns-in_ok-push_records-in-Done : goal.returns-in_ok-push_records-in-Done
returns-in_ok-push_records-in-Done c =
    let head_is : c.args.head ≡ Ok c.in_ok-text-in-Done.text = search rules in
    rw (c.in-Done.is, ← c.as_slice.ensures.value) (c.in_ok-text-in-Done.text, head_is, c.in_ok-push_records-in-Done.ensures)
