use Rattle.std.proofs.Common.{not, Ok, inr, map, sym, ap, ◌∙◌, arith}
use Rattle.std.proofs.lemmas.List.{length-map}
use Rattle.std.proofs.lemmas.Result.{err_from_is_err_and}
use Rattle.rs_refusal.specs.declared.refusal.Refusal.TheVariants.{ColumnTwice}
use Rattle.rs_facts.specs.Query.{dissolve_rows}
use Rattle.rs_syntax.specs.View.{column_tree}
use Rattle.rs_machine.specs.Checks.{◌>>=◌, unless, some_name_twice}
use Rattle.rs_checker.proofs.ColumnLaws.{bytes_of, few_places}
use Rattle.rs_checker.proofs.ConditionLaws.{or_refused}
use Rattle.rs_checker.proofs.operators.places_apart.Goals as goal

pub returns-in_err-places-clause-refused : goal.returns-in_err-places-clause-refused
returns-in_err-places-clause-refused c =
    let p = err_from_is_err_and c.from_residual.result c.from_residual.ensures.1 in
    rw (p.1, p.2) (or_refused (λ e query. ap (λ r. r >>= (λ places. unless (not (some_name_twice (bytes_of c.args.names.now))) ColumnTwice >>= (λ _. Ok (dissolve_rows query places)))) e) c.in_err-places.ensures.refused)

pub returns-then-some_name_twice-clause-refused : goal.returns-then-some_name_twice-clause-refused
returns-then-some_name_twice-clause-refused c = inr (λ query.
    ap (λ r. r >>= (λ places. unless (not (some_name_twice (bytes_of c.args.names.now))) ColumnTwice >>= (λ _. Ok (dissolve_rows query places)))) c.in_ok-places.ensures.ok
    ∙ ap (λ b. unless (not b) ColumnTwice >>= (λ _. Ok (dissolve_rows query c.in_ok-places.places.items))) (sym c.some_name_twice.ensures ∙ c.if-some_name_twice.true))

pub returns-clause-few : goal.returns-clause-few
returns-clause-few c =
    let few = few_places (map column_tree c.args.columns.now.items) (bytes_of c.args.names.now) c.in_ok-places.places.items c.in_ok-places.ensures.ok (sym c.some_name_twice.ensures ∙ c.if-some_name_twice.false) in
    let long = length-map c.args.columns.now.items column_tree in
    omega (arith, few, long)
