use Rattle.std.proofs.Common.{sym, ap, ◌∙◌}
use Rattle.std.specs.FinMap as maps
use Rattle.std.specs.FinMap.{len-empty}
use Rattle.rs_cursor.proofs.BySession.{at_found, at_none}
use Rattle.rs_cursor.proofs.MachineCursors.{len-cursors_by}
use Rattle.rs_cursor.specs.declared.cursor.Cursor.{Cursor}
use Rattle.rs_facts.specs.Fact.{Names, name_cmp}
use Rattle.rs_cursor.proofs.cursors.Cursors.count.Goals as goal

pub returns-in-Some : goal.returns-in-Some
returns-in-Some c = λ lines.
    c.len.ensures
    ∙ ap (λ (cursors : Names Cursor). maps.len cursors) (sym (at_found c.self.inside.by_session.entries c.args.self.now c.number.result c.args.session c.self.view_is c.number.ensures.value c.in-Some.cursors.now (sym c.in-Some.ensures.value)))
    ∙ sym (len-cursors_by lines c.args.self.now c.args.session)

pub returns-in-None : goal.returns-in-None
returns-in-None c = λ lines.
    sym (len-cursors_by lines c.args.self.now c.args.session
    ∙ ap (λ (cursors : Names Cursor). maps.len cursors) (at_none c.self.inside.by_session.entries c.args.self.now c.number.result c.args.session c.self.view_is c.number.ensures.value (sym c.in-None.ensures.value))
    ∙ len-empty name_cmp Cursor)
