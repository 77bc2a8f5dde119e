-- A referent that is there moves, and another is defined.
use Rattle.std.proofs.Common.{◌≡◌, ◌∙◌, ℕ, Some, true, false, ap, sym}
use Rattle.std.specs.FinMap as names
use Rattle.rs_catalog.specs.Definitions.{Definitions}
use Rattle.rs_catalog.specs.Referents.{referents_on}
use Rattle.rs_facts.specs.Fact.{Names}
use Rattle.rs_machine.specs.State.{State, has}
use Rattle.rs_store.specs.Kept.{StoreState}
use Rattle.rs_store.proofs.Referred.{of_number}
use Rattle.rs_store.proofs.store.Store.put_referent.Goals as goal

pub returns-then-has-clause-puts : goal.returns-then-has-clause-puts
returns-then-has-clause-puts g c = λ from state stands low high lawful.
    let old = c.args.self.now in
    let route = c.args.route.now.bytes in
    let name = c.args.name.bytes in
    let on = c.unwrap.result in
    let listed : old.catalog ≡ c.self.inside.catalog = sym (ap (λ (s : StoreState g.row.D.Denot). s.catalog) c.self.view_is) in
    let there : names.get old.catalog.routes route ≡ Some on = ap (λ (k : Definitions). names.get k.routes route) listed ∙ sym c.route.ensures ∙ c.unwrap.ensures in
    let found : state.referents route ≡ referents_on old.referents on.number =
    ap (λ (s : State). s.referents route) (c.store_stands_in_one_state.ensures.state from old state stands) ∙ of_number old.catalog (referents_on old.referents) route on there in
    let is : has (referents_on old.referents on.number) name ≡ true =
    ap (λ (s : StoreState g.row.D.Denot). has (referents_on s.referents on.number) name) (sym c.self.view_is)
    ∙ ap (λ (n : ℕ). has (referents_on c.self.inside.referents n) name) (sym c.number-number.ensures) ∙ sym c.has.ensures ∙ c.if-has.true in
    c.move_referent.ensures.moves route on there (sym c.number-number.ensures) from state stands low high (ap (λ (m : Names ℕ). has m name) found ∙ is, lawful)

pub returns-else-has-clause-puts : goal.returns-else-has-clause-puts
returns-else-has-clause-puts g c = λ from state stands low high lawful.
    let old = c.args.self.now in
    let route = c.args.route.now.bytes in
    let name = c.args.name.bytes in
    let on = c.unwrap.result in
    let listed : old.catalog ≡ c.self.inside.catalog = sym (ap (λ (s : StoreState g.row.D.Denot). s.catalog) c.self.view_is) in
    let there : names.get old.catalog.routes route ≡ Some on = ap (λ (k : Definitions). names.get k.routes route) listed ∙ sym c.route.ensures ∙ c.unwrap.ensures in
    let found : state.referents route ≡ referents_on old.referents on.number =
    ap (λ (s : State). s.referents route) (c.store_stands_in_one_state.ensures.state from old state stands) ∙ of_number old.catalog (referents_on old.referents) route on there in
    let is : has (referents_on old.referents on.number) name ≡ false =
    ap (λ (s : StoreState g.row.D.Denot). has (referents_on s.referents on.number) name) (sym c.self.view_is)
    ∙ ap (λ (n : ℕ). has (referents_on c.self.inside.referents n) name) (sym c.number-number.ensures) ∙ sym c.has.ensures ∙ c.if-has.false in
    c.define_referent.ensures.puts route on there (sym c.number-number.ensures) from state stands low high (ap (λ (m : Names ℕ). has m name) found ∙ is, lawful)
