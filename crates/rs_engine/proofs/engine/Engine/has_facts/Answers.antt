-- Whether some table has a fact on a route.
use Rattle.std.proofs.Common.{◌∙◌, ap, subst, sym}
use Rattle.std.proofs.lemmas.Result.{IfErr-weaker}
use Rattle.std.specs.FinMap as names
use Rattle.std.specs.Prelude.{IfErr}
use Rattle.rs_catalog.specs.Definitions.{Definitions}
use Rattle.rs_engine.specs.Kept.{EngineState, IsMachine}
use Rattle.rs_engine.specs.Reads.{WantsFrom}
use Rattle.rs_engine.proofs.Facts.{no_route, told_result}
use Rattle.rs_engine.proofs.Wanting.{wants_any}
use Rattle.rs_engine.proofs.engine.Engine.has_facts.Goals as goal

pub returns-in_default-clause-tells : goal.returns-in_default-clause-tells
returns-in_default-clause-tells g c machine here =
    let old : EngineState g.row.D.Denot = record { store = c.self.inside.live.store; oldest = c.self.inside.live.oldest; cursors = c.self.inside.cursors } in
    let is = subst (λ (e : EngineState g.row.D.Denot). IsMachine g.D.Disk e machine) (sym c.self.view_is) here in
    no_route g.D.Disk c.stores_have_their_laws.ensures old machine is c.args.name.now.bytes
    (ap (λ (definitions : Definitions). names.get definitions.routes c.args.name.now.bytes) (sym c.catalog.ensures) ∙ sym c.route.ensures ∙ c.in_default.is)

pub returns-clause-tells : goal.returns-clause-tells
returns-clause-tells g c machine here =
    let old : EngineState g.row.D.Denot = record { store = c.self.inside.live.store; oldest = c.self.inside.live.oldest; cursors = c.self.inside.cursors } in
    let is = subst (λ (e : EngineState g.row.D.Denot). IsMachine g.D.Disk e machine) (sym c.self.view_is) here in
    told_result g.D.Disk c.stores_have_their_laws.ensures old machine is c.args.name.now.bytes c.in-Some.route
    (ap (λ (definitions : Definitions). names.get definitions.routes c.args.name.now.bytes) (sym c.catalog.ensures) ∙ sym c.route.ensures ∙ c.in-Some.is)
    c.number.result c.number.ensures c.has_facts_on.result c.has_facts_on.ensures.says

pub returns-clause-wants : goal.returns-clause-wants
returns-clause-wants g c =
    subst (λ (e : EngineState g.row.D.Denot). IfErr c.has_facts_on.result (λ why. WantsFrom g.D.Disk why e.oldest e.store c.has_facts_on.new.store)) c.self.view_is
    (IfErr-weaker c.has_facts_on.result _ _ (wants_any g.D.Disk c.self.inside.live.oldest c.self.inside.live.store c.has_facts_on.new.store) c.has_facts_on.ensures.wants)
