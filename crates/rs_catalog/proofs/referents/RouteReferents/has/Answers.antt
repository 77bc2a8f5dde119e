use Rattle.std.proofs.Common.{ℕ, [], sym, ap, ◌∙◌}
use Rattle.std.specs.Prelude.{is_some}
use Rattle.rs_facts.specs.Fact.{Names}
use Rattle.rs_machine.specs.State.{has}
use Rattle.rs_catalog.specs.Referents.{referents_by_name}
use Rattle.rs_catalog.proofs.ReferentLaws.{get-referents, held_at, held_none, found_list, found_no_list}
use Rattle.rs_catalog.proofs.referents.RouteReferents.has.Goals as goal

pub returns-in-Some : goal.returns-in-Some
returns-in-Some c =
    let there = found_list c.self.inside.by_route.entries c.args.self.now c.args.number _ c.self.view_is (sym c.in-Some.ensures.value) in
    c.is_some.ensures ∙ ap is_some (c.get-in-Some.ensures.measure ∙ sym (get-referents c.in-Some.referents.now c.as_str.result.now))
    ∙ ap (has (referents_by_name c.in-Some.referents.now)) c.as_str.ensures.value
    ∙ ap (λ (held : Names ℕ). has held c.args.name.now.bytes) (sym (held_at c.args.self.now c.args.number _ there))

pub returns-in-None : goal.returns-in-None
returns-in-None c =
    let there = found_no_list c.self.inside.by_route.entries c.args.self.now c.args.number c.self.view_is (sym c.in-None.ensures.value) in
    sym (ap (λ (held : Names ℕ). has held c.args.name.now.bytes) (held_none c.args.self.now c.args.number there) ∙ ap is_some (get-referents [] c.args.name.now.bytes))
