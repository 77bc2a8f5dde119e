use Rattle.std.proofs.Common.{◌≡◌, ℕ, [], sym, ap, subst, ◌∙◌}
use Rattle.std.specs.FinMap as names
use Rattle.rs_facts.specs.Fact.{Names}
use Rattle.rs_methods.specs.Position.{expression_of, located}
use Rattle.rs_catalog.specs.Referents.{HeldReferents, referents_by_name, referents_on}
use Rattle.rs_catalog.proofs.ReferentLaws.{held_at, held_none, found_list, found_no_list}
use Rattle.rs_catalog.proofs.referents.RouteReferents.located.Goals as goal

pub returns-in-Some : goal.returns-in-Some
returns-in-Some c =
    let there = found_list c.self.inside.by_route.entries c.args.self.now c.number.result _ c.self.view_is (sym c.in-Some.ensures.value) in
    c.located_by.ensures ∙ ap (λ (held : Names ℕ). located c.args.route.ends.start c.args.route.ends.finish (names.entries held) (expression_of c.args.position.now)) (sym (subst (λ n. referents_on c.args.self.now n ≡ referents_by_name c.in-Some.referents.now) c.number.ensures (held_at c.args.self.now c.number.result _ there)))

pub returns-in-None : goal.returns-in-None
returns-in-None c =
    let there = found_no_list c.self.inside.by_route.entries c.args.self.now c.number.result c.self.view_is (sym c.in-None.ensures.value) in
    c.located_by-in-None-2.ensures
    ∙ ap (λ (list : HeldReferents). located c.args.route.ends.start c.args.route.ends.finish (names.entries (referents_by_name list)) (expression_of c.args.position.now)) c.new.ensures
    ∙ ap (λ (held : Names ℕ). located c.args.route.ends.start c.args.route.ends.finish (names.entries held) (expression_of c.args.position.now)) (sym (subst (λ n. referents_on c.args.self.now n ≡ referents_by_name []) c.number.ensures (held_none c.args.self.now c.number.result there)))
