use Rattle.std.proofs.Common.{sym, ap, ◌∙◌}
use Rattle.std.specs.FinMap as maps
use Rattle.std.specs.Option.{option_copied}
use Rattle.rs_cursor.proofs.BySession.{at_found, at_none}
use Rattle.rs_cursor.proofs.HeldLaws.{none_held}
use Rattle.rs_cursor.specs.Held.{held_of}
use Rattle.rs_cursor.specs.declared.cursor.Cursor.{Cursor}
use Rattle.rs_facts.specs.Fact.{Names}
use Rattle.rs_cursor.proofs.cursors.Cursors.get.Goals as goal

pub returns-in_err-get : goal.returns-in_err-get
returns-in_err-get c =
    ap option_copied c.from_residual.ensures
    ∙ sym (none_held (held_of c.args.self.now c.args.session) c.args.name.now.bytes (at_none c.self.inside.by_session.entries c.args.self.now c.number.result c.args.session c.self.view_is c.number.ensures.value (sym c.in_err-get.ensures.value)))

pub returns : goal.returns
returns c =
    c.get-2.ensures
    ∙ ap (λ (cursors : Names Cursor). maps.get cursors c.args.name.now.bytes) (sym (at_found c.self.inside.by_session.entries c.args.self.now c.number.result c.args.session c.self.view_is c.number.ensures.value c.in_ok-get.field-0.now (sym c.in_ok-get.ensures.value)))
