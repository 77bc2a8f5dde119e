use Rattle.std.proofs.Common.{◌≤◌, length, map, inr, Err, sym, ap, subst, ◌∙◌}
use Rattle.std.proofs.lemmas.List.{length-map}
use Rattle.std.proofs.lemmas.Result.{err_from_is_err_and}
use Rattle.std.specs.FinMap as names
use Rattle.rs_refusal.specs.declared.refusal.Refusal.TheVariants.{NoSuchRoute, NoSuchName}
use Rattle.rs_value.specs.View.{literal_row}
use Rattle.rs_value.specs.declared.column.TheConstants.{COLUMNS}
use Rattle.rs_syntax.specs.View.{column_tree, location_tree}
use Rattle.rs_machine.specs.Checks.{same_kind, location_kind, row_fits}
use Rattle.rs_command_checks.proofs.Outcomes.{found_some, found_none}
use Rattle.rs_command_checks.proofs.EventChecks.{row_no_route, row_no_table, row_off_route, row_other_kind, row_misfit}
use Rattle.rs_command_checks.proofs.Rows.{row_fits-kept}
use Rattle.rs_command_checks.proofs.checks.Checks.fitted_insertion.Goals as goal

pub returns-in_err-on-clause-refused : goal.returns-in_err-on-clause-refused
returns-in_err-on-clause-refused c = λ unseen.
    let p = err_from_is_err_and c.from_residual.result c.from_residual.ensures.1 in
    let none = found_none (names.get c.args.self.now.catalog.now.routes c.args.route.now.bytes) NoSuchRoute c.in_err-on.field-0.0 c.in_err-on.ensures in
    rw (p.1, p.2) (inr (row_no_route c.args.self.now unseen c.args.name.now.bytes c.args.route.now.bytes (location_tree c.args.place.now) (literal_row c.args.values.now) none.0 ∙ ap Err (sym none.1)))

pub returns-in_err-table-clause-refused : goal.returns-in_err-table-clause-refused
returns-in_err-table-clause-refused c = λ unseen.
    let p = err_from_is_err_and c.from_residual-in_err-table.result c.from_residual-in_err-table.ensures.1 in
    let route_there = found_some (names.get c.args.self.now.catalog.now.routes c.args.route.now.bytes) NoSuchRoute c.in_ok-on.on c.in_ok-on.ensures in
    let none = found_none (names.get c.args.self.now.catalog.now.tables c.args.name.now.bytes) NoSuchName c.in_err-table.field-0.0 c.in_err-table.ensures in
    rw (p.1, p.2) (inr (row_no_table c.args.self.now unseen c.args.name.now.bytes c.args.route.now.bytes (location_tree c.args.place.now) (literal_row c.args.values.now) c.in_ok-on.on route_there none.0 ∙ ap Err (sym none.1)))

pub returns-in_err-lo-clause-refused : goal.returns-in_err-lo-clause-refused
returns-in_err-lo-clause-refused c = λ unseen.
    let p = err_from_is_err_and c.from_residual-in_err-lo.result c.from_residual-in_err-lo.ensures.1 in
    let route_there = found_some (names.get c.args.self.now.catalog.now.routes c.args.route.now.bytes) NoSuchRoute c.in_ok-on.on c.in_ok-on.ensures in
    let table_there = found_some (names.get c.args.self.now.catalog.now.tables c.args.name.now.bytes) NoSuchName c.in_ok-table.table.now c.in_ok-table.ensures in
    rw (p.1, p.2) (inr (row_off_route c.args.self.now unseen c.args.name.now.bytes c.args.route.now.bytes (location_tree c.args.place.now) (literal_row c.args.values.now) c.in_ok-on.on route_there c.in_ok-table.table.now table_there _ (sym c.in_err-lo.ensures)))

pub returns-then-not-is_of_kind-clause-refused : goal.returns-then-not-is_of_kind-clause-refused
returns-then-not-is_of_kind-clause-refused c = λ unseen.
    let route_there = found_some (names.get c.args.self.now.catalog.now.routes c.args.route.now.bytes) NoSuchRoute c.in_ok-on.on c.in_ok-on.ensures in
    let table_there = found_some (names.get c.args.self.now.catalog.now.tables c.args.name.now.bytes) NoSuchName c.in_ok-table.table.now c.in_ok-table.ensures in
    let other = ap (λ kind. same_kind kind (location_kind (location_tree c.args.place.now))) (sym c.kind-kind.ensures) ∙ sym c.is_of_kind.ensures ∙ c.if-not-is_of_kind.true in
    inr (row_other_kind c.args.self.now unseen c.args.name.now.bytes c.args.route.now.bytes (location_tree c.args.place.now) (literal_row c.args.values.now) c.in_ok-on.on route_there c.in_ok-table.table.now table_there (c.in_ok-lo.lo, c.in_ok-lo.hi) (sym c.in_ok-lo.ensures) other)

pub fitted-requires : goal.fitted-requires
fitted-requires c =
    let table_there = found_some (names.get c.args.self.now.catalog.now.tables c.args.name.now.bytes) NoSuchName c.in_ok-table.table.now c.in_ok-table.ensures in
    let few = (c.stand.ensures.tables c.args.name.now.bytes c.in_ok-table.table.now table_there).1 in
    subst (λ n. n ≤ COLUMNS) (sym (ap length c.columns.ensures) ∙ length-map c.columns.result.now column_tree) few

pub of_literals-requires : goal.of_literals-requires
of_literals-requires c = row_fits-kept (map column_tree c.columns.result.now) (literal_row c.args.values.now) tt c.requires.values c.in_ok-fitted.ensures.ok

pub returns-in_err-fitted-clause-refused : goal.returns-in_err-fitted-clause-refused
returns-in_err-fitted-clause-refused c = λ unseen.
    let p = err_from_is_err_and c.from_residual-in_err-fitted.result c.from_residual-in_err-fitted.ensures.1 in
    let route_there = found_some (names.get c.args.self.now.catalog.now.routes c.args.route.now.bytes) NoSuchRoute c.in_ok-on.on c.in_ok-on.ensures in
    let table_there = found_some (names.get c.args.self.now.catalog.now.tables c.args.name.now.bytes) NoSuchName c.in_ok-table.table.now c.in_ok-table.ensures in
    let same = ap (λ kind. same_kind kind (location_kind (location_tree c.args.place.now))) (sym c.kind-kind.ensures) ∙ sym c.is_of_kind.ensures ∙ c.if-not-is_of_kind.false in
    rw (p.1, p.2) (inr (row_misfit c.args.self.now unseen c.args.name.now.bytes c.args.route.now.bytes (location_tree c.args.place.now) (literal_row c.args.values.now) c.in_ok-on.on route_there c.in_ok-table.table.now table_there (c.in_ok-lo.lo, c.in_ok-lo.hi) (sym c.in_ok-lo.ensures) same _
    (ap (λ columns. row_fits columns (literal_row c.args.values.now)) (sym c.columns.ensures) ∙ c.in_err-fitted.ensures.refused)))
