use Rattle.std.proofs.Common.{sym, ap, ◌∙◌}
use Rattle.std.specs.FinMap as maps
use Rattle.std.specs.Option.{option_copied_mut}
use Rattle.rs_catalog.proofs.MapLaws.{some_there}
use Rattle.rs_catalog.proofs.Numbered.{numbered, numbered-put}
use Rattle.rs_cursor.proofs.BySession.{BySession, at_found, none_removed, of_sessions_put, put_at}
use Rattle.rs_cursor.specs.Held.{held_of}
use Rattle.rs_cursor.specs.declared.cursor.Cursor.{Cursor}
use Rattle.rs_facts.specs.Fact.{Names}
use Rattle.rs_cursor.proofs.cursors.Cursors.close.Goals as goal

pub invariant_of-self-2 : goal.invariant_of-self-2
invariant_of-self-2 c =
    let puts = ((c.get_mut.follows.holds c.remove.new.self).3 (some_there _ _ (sym c.in-Some.ensures.value))).0 in
    of_sessions_put (numbered c.self.inside.by_session.entries) _ c.number.result c.args.session c.remove.new.self c.self.invariant c.number.ensures.value c.number.ensures.in_range
    (numbered-put c.self.inside.by_session.entries _ c.number.result c.remove.new.self puts)

pub returns-in_default : goal.returns-in_default
returns-in_default c =
    ap (λ (by_session : BySession). held_of (numbered by_session.entries)) c.get_mut.follows.holds-at-none ∙ ap held_of c.self.view_is
    ∙ none_removed c.self.inside.by_session.entries c.args.self.now c.number.result c.args.session c.self.view_is c.number.ensures.value c.args.name.now.bytes
    (sym c.get_mut.ensures.value ∙ ap option_copied_mut c.in_default.is)

pub returns : goal.returns
returns c =
    let there = sym c.in-Some.ensures.value in
    let puts = ((c.get_mut.follows.holds c.remove.new.self).3 (some_there _ _ there)).0 in
    put_at c.self.inside.by_session.entries c.args.self.now c.number.result c.args.session c.self.view_is c.number.ensures.value _ c.remove.new.self _
    (numbered-put c.self.inside.by_session.entries _ c.number.result c.remove.new.self puts)
    (c.remove.ensures ∙ ap (λ (cursors : Names Cursor). maps.remove cursors c.args.name.now.bytes)
    (sym (at_found c.self.inside.by_session.entries c.args.self.now c.number.result c.args.session c.self.view_is c.number.ensures.value c.in-Some.cursors.now there)))
