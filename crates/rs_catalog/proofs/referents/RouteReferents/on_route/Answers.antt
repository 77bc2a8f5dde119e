use Rattle.std.proofs.Common.{ℕ, [], sym, ap, ◌∙◌}
use Rattle.std.specs.FinMap as names
use Rattle.rs_facts.specs.Fact.{Names}
use Rattle.rs_catalog.proofs.ReferentLaws.{entries-referents, no_referents_in_order, held_at, held_none, found_list, found_no_list}
use Rattle.rs_catalog.proofs.referents.RouteReferents.on_route.Goals as goal

pub returns-in-Some : goal.returns-in-Some
returns-in-Some c =
    let there = found_list c.self.inside.by_route.entries c.args.self.now c.args.number _ c.self.view_is (sym c.in-Some.ensures.value) in
    c.on_route.ensures ∙ sym (ap (λ (held : Names ℕ). names.entries held) (held_at c.args.self.now c.args.number _ there) ∙ entries-referents c.in-Some.referents.now c.stand_in_order.ensures)

pub returns-in-None : goal.returns-in-None
returns-in-None c =
    let there = found_no_list c.self.inside.by_route.entries c.args.self.now c.args.number c.self.view_is (sym c.in-None.ensures.value) in
    sym (ap (λ (held : Names ℕ). names.entries held) (held_none c.args.self.now c.args.number there) ∙ entries-referents _ no_referents_in_order)
