use Rattle.std.proofs.Common.{◌≡◌, ◌≤◌, length, inl, inr, Err, ⊎_elim, sym, ap, subst, ◌∙◌}
use Rattle.std.proofs.lemmas.List.{length-map}
use Rattle.std.proofs.lemmas.Result.{err_from_is_err_and}
use Rattle.std.specs.FinMap as names
use Rattle.rs_refusal.specs.declared.refusal.Refusal.TheVariants.{OutOfMemory, NoSuchRoute, NoSuchName}
use Rattle.rs_value.specs.declared.column.TheConstants.{COLUMNS}
use Rattle.rs_syntax.specs.View.{column_tree, removal_tree}
use Rattle.rs_syntax.specs.QueryView.{window_tree}
use Rattle.rs_machine.specs.Checking.{removal_checked}
use Rattle.rs_command_checks.proofs.Outcomes.{found_some, found_none}
use Rattle.rs_command_checks.proofs.EventChecks.{removal_no_route, removal_no_table, removal_off_route, removal_no_test}
use Rattle.rs_command_checks.proofs.checks.Checks.fitted_removal.Goals as goal

pub returns-in_err-on-clause-refused : goal.returns-in_err-on-clause-refused
returns-in_err-on-clause-refused c = λ unseen.
    let p = err_from_is_err_and c.from_residual.result c.from_residual.ensures.1 in
    let named = ap (names.get c.args.self.now.catalog.now.routes) (sym c.route_of-route.ensures) in
    let none = found_none (names.get c.args.self.now.catalog.now.routes c.route_of-route.result.now.bytes) NoSuchRoute c.in_err-on.field-0.0 c.in_err-on.ensures in
    rw (p.1, p.2) (inr (removal_no_route c.args.self.now unseen c.args.name.now.bytes (window_tree c.args.window.now) (removal_tree c.args.condition.now) (named ∙ none.0) ∙ ap Err (sym none.1)))

pub returns-in_err-table-clause-refused : goal.returns-in_err-table-clause-refused
returns-in_err-table-clause-refused c = λ unseen.
    let p = err_from_is_err_and c.from_residual-in_err-table.result c.from_residual-in_err-table.ensures.1 in
    let named = ap (names.get c.args.self.now.catalog.now.routes) (sym c.route_of-route.ensures) in
    let route_there = named ∙ found_some (names.get c.args.self.now.catalog.now.routes c.route_of-route.result.now.bytes) NoSuchRoute c.in_ok-on.on c.in_ok-on.ensures in
    let none = found_none (names.get c.args.self.now.catalog.now.tables c.args.name.now.bytes) NoSuchName c.in_err-table.field-0.0 c.in_err-table.ensures in
    rw (p.1, p.2) (inr (removal_no_table c.args.self.now unseen c.args.name.now.bytes (window_tree c.args.window.now) (removal_tree c.args.condition.now) c.in_ok-on.on route_there none.0 ∙ ap Err (sym none.1)))

pub returns-in_err-lo-clause-refused : goal.returns-in_err-lo-clause-refused
returns-in_err-lo-clause-refused c = λ unseen.
    let p = err_from_is_err_and c.from_residual-in_err-lo.result c.from_residual-in_err-lo.ensures.1 in
    let named = ap (names.get c.args.self.now.catalog.now.routes) (sym c.route_of-route.ensures) in
    let route_there = named ∙ found_some (names.get c.args.self.now.catalog.now.routes c.route_of-route.result.now.bytes) NoSuchRoute c.in_ok-on.on c.in_ok-on.ensures in
    let table_there = found_some (names.get c.args.self.now.catalog.now.tables c.args.name.now.bytes) NoSuchName c.in_ok-table.table.now c.in_ok-table.ensures in
    rw (p.1, p.2) (inr (removal_off_route c.args.self.now unseen c.args.name.now.bytes (window_tree c.args.window.now) (removal_tree c.args.condition.now) c.in_ok-on.on route_there c.in_ok-table.table.now table_there _ (sym c.in_err-lo.ensures)))

pub checked_rows-requires : goal.checked_rows-requires
checked_rows-requires c =
    let table_there = found_some (names.get c.args.self.now.catalog.now.tables c.args.name.now.bytes) NoSuchName c.in_ok-table.table.now c.in_ok-table.ensures in
    let few = (c.stand.ensures.tables c.args.name.now.bytes c.in_ok-table.table.now table_there).1 in
    subst (λ n. n ≤ COLUMNS) (sym (ap length c.columns.ensures) ∙ length-map c.columns.result.now column_tree) few

pub returns-in_err-goes-clause-refused : goal.returns-in_err-goes-clause-refused
returns-in_err-goes-clause-refused c = λ unseen.
    let p = err_from_is_err_and c.from_residual-in_err-goes.result c.from_residual-in_err-goes.ensures.1 in
    let named = ap (names.get c.args.self.now.catalog.now.routes) (sym c.route_of-route.ensures) in
    let route_there = named ∙ found_some (names.get c.args.self.now.catalog.now.routes c.route_of-route.result.now.bytes) NoSuchRoute c.in_ok-on.on c.in_ok-on.ensures in
    let table_there = found_some (names.get c.args.self.now.catalog.now.tables c.args.name.now.bytes) NoSuchName c.in_ok-table.table.now c.in_ok-table.ensures in
    rw (p.1, p.2) (⊎_elim
    (λ (wanting : c.in_err-goes.field-0.0 ≡ OutOfMemory). inl wanting)
    (λ off. inr (removal_no_test c.args.self.now unseen c.args.name.now.bytes (window_tree c.args.window.now) (removal_tree c.args.condition.now) c.in_ok-on.on route_there c.in_ok-table.table.now table_there (c.in_ok-lo.lo, c.in_ok-lo.hi) (sym c.in_ok-lo.ensures) _
    (ap (λ columns. removal_checked columns (removal_tree c.args.condition.now)) (sym c.columns.ensures) ∙ off)))
    c.in_err-goes.ensures.refused)

pub returns-clause-done : goal.returns-clause-done
returns-clause-done c =
    let named = ap (names.get c.args.self.now.catalog.now.routes) (sym c.route_of-route.ensures) in
    record {
      there = record {
        table = c.in_ok-table.table.now;
        table_there = found_some (names.get c.args.self.now.catalog.now.tables c.args.name.now.bytes) NoSuchName c.in_ok-table.table.now c.in_ok-table.ensures;
        table_numbered = sym c.number.ensures;
        on = c.in_ok-on.on;
        route_there = named ∙ found_some (names.get c.args.self.now.catalog.now.routes c.route_of-route.result.now.bytes) NoSuchRoute c.in_ok-on.on c.in_ok-on.ensures;
        route_numbered = sym c.number-2.ensures;
      };
      located = sym c.in_ok-lo.ensures;
      goes = ap (λ columns. removal_checked columns (removal_tree c.args.condition.now)) (sym c.columns.ensures) ∙ c.in_ok-goes.ensures.done;
    }
