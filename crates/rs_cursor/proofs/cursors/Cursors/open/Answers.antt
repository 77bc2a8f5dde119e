use Rattle.std.proofs.Common.{sym, ap, subst, ◌∙◌}
use Rattle.std.proofs.lemmas.Result.{on_err_weaker, on_ok_weaker}
use Rattle.std.specs.FinMap as maps
use Rattle.rs_catalog.proofs.MapLaws.{some_there}
use Rattle.rs_catalog.proofs.Numbered.{numbered, numbered-put}
use Rattle.rs_cursor.proofs.BySession.{BySession, at_found, at_none, of_sessions_put, put_at, same_at}
use Rattle.rs_cursor.specs.Sessions.{AreOfSessions}
use Rattle.rs_cursor.specs.declared.cursor.Cursor.{Cursor}
use Rattle.rs_facts.specs.Fact.{Names}
use Rattle.rs_cursor.proofs.cursors.Cursors.open.Goals as goal

pub invariant_of-self : goal.invariant_of-self
invariant_of-self c =
    let puts = ((c.get_mut.follows.holds c.define.new.self).3 (some_there _ _ (sym c.in-Some.ensures.value))).0 in
    of_sessions_put (numbered c.self.inside.by_session.entries) _ c.number.result c.args.session c.define.new.self c.self.invariant c.number.ensures.value c.number.ensures.in_range
    (numbered-put c.self.inside.by_session.entries _ c.number.result c.define.new.self puts)

pub invariant_of-self-in-None : goal.invariant_of-self-in-None
invariant_of-self-in-None c =
    of_sessions_put (numbered c.get_mut.follows.lender-at-none.entries) _ c.number-in-None.result c.args.session c.define-in-None.new.self
    (subst (λ (old : BySession). AreOfSessions (numbered old.entries)) (sym c.get_mut.follows.holds-at-none) c.self.invariant) c.number-in-None.ensures.value c.number-in-None.ensures.in_range
    (numbered-put _ _ c.number-in-None.result c.define-in-None.new.self c.in_ok-insert-in-None.ensures.updates.0)

pub returns-in-Some-clause-ok : goal.returns-in-Some-clause-ok
returns-in-Some-clause-ok c =
    let there = sym c.in-Some.ensures.value in
    let puts = ((c.get_mut.follows.holds c.define.new.self).3 (some_there _ _ there)).0 in
    let are = at_found c.self.inside.by_session.entries c.args.self.now c.number.result c.args.session c.self.view_is c.number.ensures.value c.in-Some.cursors.now there in
    on_ok_weaker c.define.result (λ is.
    put_at c.self.inside.by_session.entries c.args.self.now c.number.result c.args.session c.self.view_is c.number.ensures.value _ c.define.new.self _
    (numbered-put c.self.inside.by_session.entries _ c.number.result c.define.new.self puts)
    (is ∙ ap (λ (cursors : Names Cursor). maps.insert cursors c.args.name.bytes c.args.cursor) (sym are))) c.define.ensures.ok

pub returns-in-Some-clause-err : goal.returns-in-Some-clause-err
returns-in-Some-clause-err c =
    let there = sym c.in-Some.ensures.value in
    let puts = ((c.get_mut.follows.holds c.define.new.self).3 (some_there _ _ there)).0 in
    on_err_weaker c.define.result (λ unchanged.
    same_at c.self.inside.by_session.entries c.args.self.now c.number.result c.args.session c.self.view_is c.number.ensures.value _ c.define.new.self c.in-Some.cursors.now there
    (numbered-put c.self.inside.by_session.entries _ c.number.result c.define.new.self puts) unchanged) c.define.ensures.err

pub returns-in_ok-insert-in-None-clause-ok : goal.returns-in_ok-insert-in-None-clause-ok
returns-in_ok-insert-in-None-clause-ok c =
    let none = at_none c.self.inside.by_session.entries c.args.self.now c.number.result c.args.session c.self.view_is c.number.ensures.value (sym c.in-None.ensures.value) in
    put_at _ c.args.self.now c.number-in-None.result c.args.session (ap (λ (old : BySession). numbered old.entries) c.get_mut.follows.holds-at-none ∙ c.self.view_is) c.number-in-None.ensures.value _ c.define-in-None.new.self _
    (numbered-put _ _ c.number-in-None.result c.define-in-None.new.self c.in_ok-insert-in-None.ensures.updates.0)
    (c.in_ok-define-in-None.ensures.ok
    ∙ ap (λ (cursors : Names Cursor). maps.insert cursors c.args.name.bytes c.args.cursor) (c.new-cursors.ensures ∙ sym none))
