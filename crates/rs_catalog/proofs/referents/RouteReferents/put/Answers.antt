use Rattle.std.proofs.Common.{ℕ, [], sym, ap, ◌∙◌}
use Rattle.std.proofs.lemmas.Result.{on_ok_weaker, on_err_weaker}
use Rattle.std.specs.FinMap as maps
use Rattle.rs_facts.specs.Fact.{Names}
use Rattle.rs_machine.specs.State.{has}
use Rattle.rs_catalog.proofs.Numbered.{numbered, numbered-put, insert-same}
use Rattle.rs_catalog.proofs.MapLaws.{some_there}
use Rattle.rs_catalog.proofs.ReferentLaws.{Held, ByNumber, put_own, held_at, held_none, no_referents_in_order, found_list, found_no_list, referent_put, has_measure, no_list_has_none}
use Rattle.rs_catalog.proofs.referents.RouteReferents.put.Goals as goal

pub returns-in-Some-clause-ok : goal.returns-in-Some-clause-ok
returns-in-Some-clause-ok c =
    let there = found_list c.self.inside.by_route.entries c.args.self.now c.args.number _ c.self.view_is (sym c.in-Some.ensures.value) in
    let puts = ((c.get_mut.follows.holds c.insert.new.self).3 (some_there _ _ (sym c.in-Some.ensures.value))).0 in
    let put = numbered-put c.self.inside.by_route.entries _ c.args.number c.insert.new.self puts in
    on_ok_weaker c.insert.result (λ is.
    referent_put c.args.self.now _ c.args.number c.args.name.bytes c.in-Some.referents.now (held_at c.args.self.now c.args.number _ there) c.args.measure c.insert.ensures.were_in_order
    (put ∙ ap (λ (old : Held). maps.insert old c.args.number c.insert.new.self) c.self.view_is ∙ ap (maps.insert c.args.self.now c.args.number) is)) c.insert.ensures.ok

pub returns-in-Some-clause-err : goal.returns-in-Some-clause-err
returns-in-Some-clause-err c =
    let there = found_list c.self.inside.by_route.entries c.args.self.now c.args.number _ c.self.view_is (sym c.in-Some.ensures.value) in
    let puts = ((c.get_mut.follows.holds c.insert.new.self).3 (some_there _ _ (sym c.in-Some.ensures.value))).0 in
    let put = numbered-put c.self.inside.by_route.entries _ c.args.number c.insert.new.self puts in
    on_err_weaker c.insert.result (λ unchanged.
    put ∙ ap (λ (old : Held). maps.insert old c.args.number c.insert.new.self) c.self.view_is ∙ ap (maps.insert c.args.self.now c.args.number) unchanged
    ∙ insert-same c.args.self.now c.args.number _ there) c.insert.ensures.err

pub returns-in_ok-insert-in-None-2-clause-ok : goal.returns-in_ok-insert-in-None-2-clause-ok
returns-in_ok-insert-in-None-2-clause-ok c =
    let there = found_no_list c.self.inside.by_route.entries c.args.self.now c.args.number c.self.view_is (sym c.in-None.ensures.value) in
    let put = numbered-put _ _ c.args.number c.insert-in-None.new.self c.in_ok-insert-in-None-2.ensures.updates.0 in
    let from_old = put ∙ ap (λ (old : ByNumber). maps.insert (numbered old.entries) c.args.number c.insert-in-None.new.self) c.get_mut.follows.holds-at-none in
    let list = c.in_ok-insert-in-None.ensures.ok ∙ ap (put_own c.args.name.bytes c.args.measure) c.new-referents.ensures in
    referent_put c.args.self.now _ c.args.number c.args.name.bytes [] (held_none c.args.self.now c.args.number there) c.args.measure no_referents_in_order
    (from_old ∙ ap (λ (old : Held). maps.insert old c.args.number c.insert-in-None.new.self) c.self.view_is ∙ ap (maps.insert c.args.self.now c.args.number) list)

pub returns-in-Some-clause-moved : goal.returns-in-Some-clause-moved
returns-in-Some-clause-moved c had =
    let there = found_list c.self.inside.by_route.entries c.args.self.now c.args.number _ c.self.view_is (sym c.in-Some.ensures.value) in
    c.insert.ensures.moved (has_measure c.in-Some.referents.now c.args.name.bytes (sym (ap (λ (held : Names ℕ). has held c.args.name.bytes) (held_at c.args.self.now c.args.number _ there)) ∙ had))

pub returns-in_err-insert-in-None-clause-moved : goal.returns-in_err-insert-in-None-clause-moved
returns-in_err-insert-in-None-clause-moved c had =
    no_list_has_none c.args.self.now c.args.number c.args.name.bytes (found_no_list c.self.inside.by_route.entries c.args.self.now c.args.number c.self.view_is (sym c.in-None.ensures.value)) had

pub returns-in_err-insert-in-None-2-clause-moved : goal.returns-in_err-insert-in-None-2-clause-moved
returns-in_err-insert-in-None-2-clause-moved c had =
    no_list_has_none c.args.self.now c.args.number c.args.name.bytes (found_no_list c.self.inside.by_route.entries c.args.self.now c.args.number c.self.view_is (sym c.in-None.ensures.value)) had
