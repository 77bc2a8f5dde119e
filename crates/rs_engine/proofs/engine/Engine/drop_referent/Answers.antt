-- A referent that is dropped.
use Rattle.std.proofs.Common.{◌≡◌, ◌∙◌, ℕ, List, Err, ap, refl, true}
use Rattle.std.proofs.lemmas.Result.{err_from_is_err_and}
use Rattle.std.specs.FinMap as names
use Rattle.rs_engine.specs.Kept.{EngineState}
use Rattle.rs_engine.specs.Replied.{count_reply_of}
use Rattle.rs_engine.proofs.Staying.{leaves_at_once, leaves_made, leaves_refused}
use Rattle.rs_engine.proofs.Stepping.{IsStep, change_made, change_refused, check_refused}
use Rattle.rs_machine.specs.State.{State, has}
use Rattle.rs_machine.specs.Step.{with_referents}
use Rattle.rs_store_source.specs.Changing.{Always}
use Rattle.rs_syntax.specs.Tree as tree
use Rattle.rs_engine.proofs.engine.Engine.drop_referent.Goals as goal

abbrev dropped : List ℕ → List ℕ → State → State
dropped route name state = with_referents state route (names.remove (state.referents route) name)

is_step : (route name : List ℕ) → IsStep (dropped route name)
is_step route name = record { beside = λ cursors state. refl; none = λ state. refl }

pub returns-in_err-check_old_referent : goal.returns-in_err-check_old_referent
returns-in_err-check_old_referent g c =
    let p = err_from_is_err_and c.from_residual.result c.from_residual.ensures.1 in
    record {
      serves = λ machine here. check_refused c.accepted_step_leaves_the_state_lawful.ensures g.D.Disk c.stores_have_their_laws.ensures c.args.self.now c.args.self.now refl
          c.checks.result c.checks.ensures machine here (tree.drop_referent c.args.route.now.bytes c.args.name.now.bytes) c.from_residual.result count_reply_of c.in_err-check_old_referent.field-0.0
          c.args.self.now refl (p.1 ∙ ap Err p.2) refl c.in_err-check_old_referent.ensures.refused;
      leaves = leaves_at_once g.D.Disk c.args.self.now c.from_residual.result;
    }

pub returns-in_err-drop_referent : goal.returns-in_err-drop_referent
returns-in_err-drop_referent g c =
    let old : EngineState g.row.D.Denot = record { store = c.self.inside.live.store; oldest = c.self.inside.live.oldest; cursors = c.self.inside.cursors } in
    let route = c.args.route.now.bytes in
    let name = c.args.name.now.bytes in
    let p = err_from_is_err_and c.from_residual-in_err-drop_referent.result c.from_residual-in_err-drop_referent.ensures.1 in
    record {
      serves = λ machine here. change_refused c.accepted_step_leaves_the_state_lawful.ensures g.D.Disk c.stores_have_their_laws.ensures old c.args.self.now c.self.view_is
          c.checks.result c.checks.ensures machine here (tree.drop_referent route name) c.requires.sound (dropped route name) (is_step route name) 0 c.in_ok-check_old_referent.ensures.accepted
          Always (record { store = c.drop_referent.new.self; oldest = old.oldest; cursors = old.cursors }) c.from_residual-in_err-drop_referent.result count_reply_of c.in_err-drop_referent.field-0.0
          c.in_err-drop_referent.ensures.leaves (refl, refl) (λ is known lawful. tt) (p.1 ∙ ap Err p.2) refl;
      leaves = leaves_refused g.D.Disk c.self.view_is c.in_err-drop_referent.ensures.leaves (refl, refl) c.from_residual-in_err-drop_referent.result;
    }

pub returns : goal.returns
returns g c =
    let old : EngineState g.row.D.Denot = record { store = c.self.inside.live.store; oldest = c.self.inside.live.oldest; cursors = c.self.inside.cursors } in
    let states = c.stores_have_their_laws.ensures in
    let route = c.args.route.now.bytes in
    let name = c.args.name.now.bytes in
    record {
      serves = λ machine here. change_made c.accepted_step_leaves_the_state_lawful.ensures g.D.Disk states old c.args.self.now c.self.view_is
          c.checks.result c.checks.ensures machine here (tree.drop_referent route name) c.requires.sound (dropped route name) (is_step route name) 0 c.in_ok-check_old_referent.ensures.accepted
          Always (record { store = c.drop_referent.new.self; oldest = c.oldest-oldest.result; cursors = old.cursors }) c.in_ok-drop_referent.field-0 c.in_ok-drop_referent.ensures.leaves
          c.oldest-oldest.result (refl, refl) c.oldest-oldest.ensures (λ is known low high level lawful. c.in_ok-drop_referent.ensures.drops old.oldest is.state is.stands low high
          (known (λ (state : State). has (state.referents route) name ≡ true) (λ state alone. alone) c.in_ok-check_old_referent.ensures.has, lawful));
      leaves = leaves_made g.D.Disk c.self.view_is c.in_ok-drop_referent.ensures.leaves refl;
    }
