use Rattle.std.proofs.Common.{subst, sym}
use Rattle.rs_value.specs.Encoding.{SaysRow}
use Rattle.rs_value.proofs.KeptRows.{row_is, keeps_row_in}
use Rattle.rs_value.proofs.kept.KeptRow.of_encoded.Goals as goal

pub invariant_of-result : goal.invariant_of-result
invariant_of-result c =
    let says = rw c.in-Some.is at c.in_ok-bytes.ensures.row in
    keeps_row_in _ says.0 says.1

pub returns-in-Some-clause-row : goal.returns-in-Some-clause-row
returns-in-Some-clause-row c =
    let says = rw c.in-Some.is at c.in_ok-bytes.ensures.row in
    subst (λ r. SaysRow c.args.schema.now.items c.args.encoded.now r) (sym (row_is _ says.0 says.1)) says.2
