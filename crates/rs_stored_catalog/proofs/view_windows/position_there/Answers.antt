use Rattle.std.proofs.Common.{◌∙◌, ◌&&◌, ◌||◌, sym, ap}
use Rattle.rs_catalog.specs.Referents.{referents_on}
use Rattle.rs_machine.specs.State.{has}
use Rattle.rs_methods.specs.Position.{expression_of}
use Rattle.rs_stored_catalog.specs.Windows.{position_there}
use Rattle.rs_stored_catalog.proofs.PositionsThere.{is_there}
use Rattle.rs_stored_catalog.proofs.view_windows.position_there.Goals as goal

pub returns-else-is_start : goal.returns-else-is_start
returns-else-is_start c =
    let on = referents_on c.args.referents.now in
    let route = c.args.route.now.bytes in
    let name = c.in-Relative.name.bytes in
    c.has.ensures
    ∙ ap (λ n. has (on n) name) c.number.ensures
    ∙ ap (λ b. b || has (on c.in-Some.entry.number) name) (sym c.if-is_start.false ∙ c.is_start.ensures)
    ∙ sym (is_there c.args.catalog.now on route c.in-Some.entry name c.in-Relative.field-1 c.in-Relative.field-2 (sym c.route.ensures ∙ c.in-Some.is))
    ∙ ap (λ p. has c.args.catalog.now.routes route && position_there c.args.catalog.now on route (expression_of p)) (sym c.in-Relative.is)
