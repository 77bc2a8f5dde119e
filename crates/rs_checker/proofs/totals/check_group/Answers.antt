use Rattle.std.proofs.Common.{map, length, sym, ap, ◌∙◌, arith}
use Rattle.std.proofs.lemmas.List.{length-map}
use Rattle.rs_syntax.specs.View.{column_tree}
use Rattle.rs_checker.proofs.ColumnLaws.{bytes_of, few_places}
use Rattle.rs_checker.proofs.totals.check_group.Goals as goal

pub returns-clause-few : goal.returns-clause-few
returns-clause-few c =
    let few = few_places (map column_tree c.args.columns.now.items) (bytes_of c.args.names.now) c.in_ok-places.places.items c.in_ok-places.ensures.ok (sym c.some_name_twice.ensures ∙ c.if-some_name_twice.false) in
    let long = length-map c.args.columns.now.items column_tree in
    let whole = ap length c.as_slice-columns.ensures.value in
    let most = c.as_slice-columns.ensures.fits in
    omega (arith, few, long, whole, most)
