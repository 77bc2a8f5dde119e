-- They are those of the state for which the engine stands.
use Rattle.std.proofs.Common.{◌≡◌, ◌⊎◌, ⊎_elim, ℕ, Err, inl, inr, map, subst, sym}
use Rattle.std.proofs.lemmas.Result.{IfErr-weaker, IfOk-weaker}
use Rattle.std.specs.Prelude.{IfErr}
use Rattle.rs_answers.specs.Plans.{IsPlanFor}
use Rattle.rs_answers.specs.Present.{IsPresent}
use Rattle.rs_answers.specs.Totalled.{totals_of_query}
use Rattle.rs_checker.specs.CheckedView.{query_of}
use Rattle.rs_engine.specs.Kept.{EngineState, IsMachine}
use Rattle.rs_engine.specs.Reads.{WantsFrom}
use Rattle.rs_engine.proofs.Filing.{engine_with}
use Rattle.rs_syntax.specs.View.{column_tree, summed_tree}
use Rattle.rs_engine.proofs.engine.Engine.total_of_checked.Goals as goal

pub returns-clause-done : goal.returns-clause-done
returns-clause-done g c = λ machine is seen.
    let was = engine_with c.self.inside.live.store c.self.inside.live.oldest c.self.inside.cursors in
    let now = c.engine_stands_for_its_state.ensures.state was machine (subst (λ (e : EngineState g.row.D.Denot). IsMachine g.D.Disk e machine) (sym c.self.view_is) is) in
    let present = subst (λ (version : ℕ). IsPresent was.store.catalog was.store.referents machine.state (now.snapshots version)) (sym c.accepted-version.ensures) now.present in
    let means = subst (λ (e : EngineState g.row.D.Denot). IsPlanFor e.store.catalog (query_of c.args.checked.query) c.in_ok-plan.plan) (sym c.self.view_is) c.in_ok-plan.ensures.means in
    IfOk-weaker c.total_of.result _ _ (λ rows done.
    done (query_of c.args.checked.query) means machine.state (record { snapshots = now.snapshots; is = now.shows; present = present })
    (map column_tree c.args.checked.columns.items) (map (λ name. name.bytes) c.args.by.now) (summed_tree c.args.summed.now) c.in_ok-columns.ensures.ok seen)
    c.total_of.ensures.done

pub returns-clause-refused : goal.returns-clause-refused
returns-clause-refused g c = λ machine is seen.
    let was = engine_with c.self.inside.live.store c.self.inside.live.oldest c.self.inside.cursors in
    let now = c.engine_stands_for_its_state.ensures.state was machine (subst (λ (e : EngineState g.row.D.Denot). IsMachine g.D.Disk e machine) (sym c.self.view_is) is) in
    let present = subst (λ (version : ℕ). IsPresent was.store.catalog was.store.referents machine.state (now.snapshots version)) (sym c.accepted-version.ensures) now.present in
    let means = subst (λ (e : EngineState g.row.D.Denot). IsPlanFor e.store.catalog (query_of c.args.checked.query) c.in_ok-plan.plan) (sym c.self.view_is) c.in_ok-plan.ensures.means in
    subst (λ (e : EngineState g.row.D.Denot). IfErr c.total_of.result (λ why. WantsFrom g.D.Disk why e.oldest e.store c.total_of.new.e.store
    ⊎ (totals_of_query machine.state (query_of c.args.checked.query) (map (λ name. name.bytes) c.args.by.now) (summed_tree c.args.summed.now) ≡ Err why))) c.self.view_is
    (IfErr-weaker c.total_of.result _ _ (λ why. ⊎_elim (λ wanted. inl wanted) (λ off.
    inr (off (query_of c.args.checked.query) means machine.state (record { snapshots = now.snapshots; is = now.shows; present = present })
    (map column_tree c.args.checked.columns.items) (map (λ name. name.bytes) c.args.by.now) (summed_tree c.args.summed.now) c.in_ok-columns.ensures.ok seen)))
    c.total_of.ensures.refused)
