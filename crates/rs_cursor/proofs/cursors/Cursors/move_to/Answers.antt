use Rattle.std.proofs.Common.{sym, ap, ◌∙◌}
use Rattle.std.specs.FinMap as maps
use Rattle.std.specs.Option.{option_copied_mut}
use Rattle.rs_catalog.proofs.MapLaws.{none_some, some_there}
use Rattle.rs_catalog.proofs.Numbered.{numbered, numbered-put}
use Rattle.rs_cursor.proofs.BySession.{at_found, at_none, of_sessions_put, put_at, same_at}
use Rattle.rs_cursor.proofs.HeldLaws.{none_held}
use Rattle.rs_cursor.specs.Held.{held_of}
use Rattle.rs_cursor.specs.declared.cursor.Cursor.{Cursor}
use Rattle.rs_facts.specs.Fact.{Names}
use Rattle.rs_cursor.proofs.cursors.Cursors.move_to.Goals as goal

pub returns-in_default-clause-there : goal.returns-in_default-clause-there
returns-in_default-clause-there c = λ cursor there.
    let none = at_none c.self.inside.by_session.entries c.args.self.now c.number.result c.args.session c.self.view_is c.number.ensures.value (sym c.get_mut.ensures.value ∙ ap option_copied_mut c.in_default.is) in
    none_some cursor (sym (none_held (held_of c.args.self.now c.args.session) c.args.name.now.bytes none) ∙ there)

pub invariant_of-self-2 : goal.invariant_of-self-2
invariant_of-self-2 c =
    let puts = ((c.get_mut.follows.holds c.move_in.new.cursors).3 (some_there _ _ (sym c.in-Some.ensures.value))).0 in
    of_sessions_put (numbered c.self.inside.by_session.entries) _ c.number.result c.args.session c.move_in.new.cursors c.self.invariant c.number.ensures.value c.number.ensures.in_range
    (numbered-put c.self.inside.by_session.entries _ c.number.result c.move_in.new.cursors puts)

pub returns-clause-there : goal.returns-clause-there
returns-clause-there c = λ cursor held.
    let there = sym c.in-Some.ensures.value in
    let puts = ((c.get_mut.follows.holds c.move_in.new.cursors).3 (some_there _ _ there)).0 in
    let are = at_found c.self.inside.by_session.entries c.args.self.now c.number.result c.args.session c.self.view_is c.number.ensures.value c.in-Some.cursors.now there in
    put_at c.self.inside.by_session.entries c.args.self.now c.number.result c.args.session c.self.view_is c.number.ensures.value _ c.move_in.new.cursors _
    (numbered-put c.self.inside.by_session.entries _ c.number.result c.move_in.new.cursors puts)
    (c.move_in.ensures.there cursor (ap (λ (cursors : Names Cursor). maps.get cursors c.args.name.now.bytes) (sym are) ∙ held)
    ∙ ap (λ (cursors : Names Cursor). maps.insert cursors c.args.name.now.bytes (record cursor { place = c.args.place })) (sym are))

pub returns-clause-none : goal.returns-clause-none
returns-clause-none c = λ none.
    let there = sym c.in-Some.ensures.value in
    let puts = ((c.get_mut.follows.holds c.move_in.new.cursors).3 (some_there _ _ there)).0 in
    let are = at_found c.self.inside.by_session.entries c.args.self.now c.number.result c.args.session c.self.view_is c.number.ensures.value c.in-Some.cursors.now there in
    same_at c.self.inside.by_session.entries c.args.self.now c.number.result c.args.session c.self.view_is c.number.ensures.value _ c.move_in.new.cursors c.in-Some.cursors.now there
    (numbered-put c.self.inside.by_session.entries _ c.number.result c.move_in.new.cursors puts)
    (c.move_in.ensures.none (ap (λ (cursors : Names Cursor). maps.get cursors c.args.name.now.bytes) (sym are) ∙ none))
