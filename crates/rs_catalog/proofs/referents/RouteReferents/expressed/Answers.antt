use Rattle.std.proofs.Common.{◌≡◌, ℕ, [], sym, ap, subst, ◌∙◌}
use Rattle.std.proofs.lemmas.Result.{IfOk-weaker}
use Rattle.std.specs.FinMap as names
use Rattle.rs_facts.specs.Fact.{Names}
use Rattle.rs_methods.specs.Position.{expression_at, expression_text}
use Rattle.rs_catalog.specs.Referents.{HeldReferents, referents_by_name, referents_on}
use Rattle.rs_catalog.proofs.ReferentLaws.{held_at, held_none, found_list, found_no_list}
use Rattle.rs_catalog.proofs.referents.RouteReferents.expressed.Goals as goal

pub returns-in-Some : goal.returns-in-Some
returns-in-Some c =
    let there = found_list c.self.inside.by_route.entries c.args.self.now c.number.result _ c.self.view_is (sym c.in-Some.ensures.value) in
    IfOk-weaker c.expressed_by.result _ _ (λ text is. is
    ∙ ap (λ (held : Names ℕ). expression_text (expression_at c.args.route.ends.start c.args.route.ends.finish (names.entries held) c.args.method c.args.k)) (sym (subst (λ n. referents_on c.args.self.now n ≡ referents_by_name c.in-Some.referents.now) c.number.ensures (held_at c.args.self.now c.number.result _ there))))
    c.expressed_by.ensures

pub returns-in-None : goal.returns-in-None
returns-in-None c =
    let there = found_no_list c.self.inside.by_route.entries c.args.self.now c.number.result c.self.view_is (sym c.in-None.ensures.value) in
    IfOk-weaker c.expressed_by-in-None-2.result _ _ (λ text is. is
    ∙ ap (λ (list : HeldReferents). expression_text (expression_at c.args.route.ends.start c.args.route.ends.finish (names.entries (referents_by_name list)) c.args.method c.args.k)) c.new.ensures
    ∙ ap (λ (held : Names ℕ). expression_text (expression_at c.args.route.ends.start c.args.route.ends.finish (names.entries held) c.args.method c.args.k)) (sym (subst (λ n. referents_on c.args.self.now n ≡ referents_by_name []) c.number.ensures (held_none c.args.self.now c.number.result there))))
    c.expressed_by-in-None-2.ensures
