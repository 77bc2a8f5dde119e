use Rattle.std.proofs.Common.{map, length, ap, ◌∙◌, arith}
use Rattle.rs_facts.specs.Query.{column_at}
use Rattle.rs_syntax.specs.View.{column_tree}
use Rattle.rs_checker.proofs.ColumnLaws.{bytes_of}
use Rattle.rs_checker.proofs.StepLaws.{dissolve_made}
use Rattle.rs_checker.proofs.operators.dissolve.Goals as goal

pub chosen-columns-requires-clause-few : goal.chosen-columns-requires-clause-few
chosen-columns-requires-clause-few c =
    let few = c.in_ok-places.ensures.few in
    let same = ap length c.deref.ensures.value in
    let whole = ap length c.as_slice.ensures.value in
    let most = c.as_slice.ensures.fits in
    omega (arith, few, same, whole, most)

pub returns-clause-ok : goal.returns-clause-ok
returns-clause-ok c =
    let few = c.in_ok-places.ensures.few in
    let whole = ap length c.as_slice.ensures.value in
    let most = c.as_slice.ensures.fits in
    dissolve_made c.args.operand (bytes_of c.args.names.now) c.in_ok-places.places c.chosen-columns.result c.in_ok-places.ensures.places c.in_ok-places.ensures.apart
    (c.chosen-columns.ensures ∙ (λ i. map (column_at (map column_tree (c.as_slice.ensures.value i))) (c.deref.ensures.value i))) (omega (arith, few, whole, most))
