-- A view that is dropped.
use Rattle.std.proofs.Common.{◌∙◌, ℕ, List, Err, ap, refl}
use Rattle.std.proofs.lemmas.Result.{err_from_is_err_and}
use Rattle.rs_engine.specs.Kept.{EngineState}
use Rattle.rs_engine.specs.Replied.{count_reply_of}
use Rattle.rs_engine.proofs.Staying.{leaves_at_once, leaves_made, leaves_refused}
use Rattle.rs_engine.proofs.Stepping.{IsStep, change_made, change_refused, check_refused}
use Rattle.rs_machine.specs.State.{State}
use Rattle.rs_syntax.specs.Tree as tree
use Rattle.rs_machine.specs.Step.{without_view}
use Rattle.rs_machine.specs.Lawful.{IsLawful}
use Rattle.rs_engine.proofs.engine.Engine.drop_view.Goals as goal

abbrev next_of : List ℕ → State → State
next_of name state = without_view state name

is_step : (name : List ℕ) → IsStep (next_of name)
is_step name = record { beside = λ cursors state. refl; none = λ state. refl }

pub returns-in_err-check_old_view : goal.returns-in_err-check_old_view
returns-in_err-check_old_view g c =
    let name = c.args.name.now.bytes in
    let p = err_from_is_err_and c.from_residual.result c.from_residual.ensures.1 in
    record {
      serves = λ machine here. check_refused c.accepted_step_leaves_the_state_lawful.ensures g.D.Disk c.stores_have_their_laws.ensures c.args.self.now c.args.self.now refl
          c.checks.result c.checks.ensures machine here (tree.drop_view name) c.from_residual.result count_reply_of c.in_err-check_old_view.field-0.0
          c.args.self.now refl (p.1 ∙ ap Err p.2) refl c.in_err-check_old_view.ensures.refused;
      leaves = leaves_at_once g.D.Disk c.args.self.now c.from_residual.result;
    }

pub returns-in_err-drop_view : goal.returns-in_err-drop_view
returns-in_err-drop_view g c =
    let old : EngineState g.row.D.Denot = record { store = c.self.inside.live.store; oldest = c.self.inside.live.oldest; cursors = c.self.inside.cursors } in
    let name = c.args.name.now.bytes in
    let p = err_from_is_err_and c.from_residual-in_err-drop_view.result c.from_residual-in_err-drop_view.ensures.1 in
    record {
      serves = λ machine here. change_refused c.accepted_step_leaves_the_state_lawful.ensures g.D.Disk c.stores_have_their_laws.ensures old c.args.self.now c.self.view_is
          c.checks.result c.checks.ensures machine here (tree.drop_view name) c.requires.sound (next_of name) (is_step name) 0 c.in_ok-check_old_view.ensures.accepted
          (λ (state : State). IsLawful (next_of name state)) (record { store = c.drop_view.new.self; oldest = old.oldest; cursors = old.cursors }) c.from_residual-in_err-drop_view.result count_reply_of c.in_err-drop_view.field-0.0
          c.in_err-drop_view.ensures.leaves (refl, refl) (λ is known lawful. lawful) (p.1 ∙ ap Err p.2) refl;
      leaves = leaves_refused g.D.Disk c.self.view_is c.in_err-drop_view.ensures.leaves (refl, refl) c.from_residual-in_err-drop_view.result;
    }

pub returns : goal.returns
returns g c =
    let old : EngineState g.row.D.Denot = record { store = c.self.inside.live.store; oldest = c.self.inside.live.oldest; cursors = c.self.inside.cursors } in
    let name = c.args.name.now.bytes in
    record {
      serves = λ machine here. change_made c.accepted_step_leaves_the_state_lawful.ensures g.D.Disk c.stores_have_their_laws.ensures old c.args.self.now c.self.view_is
          c.checks.result c.checks.ensures machine here (tree.drop_view name) c.requires.sound (next_of name) (is_step name) 0 c.in_ok-check_old_view.ensures.accepted
          (λ (state : State). IsLawful (next_of name state)) (record { store = c.drop_view.new.self; oldest = c.oldest-oldest.result; cursors = old.cursors }) c.in_ok-drop_view.field-0 c.in_ok-drop_view.ensures.leaves
          c.oldest-oldest.result (refl, refl) c.oldest-oldest.ensures (λ is known low high level lawful. c.in_ok-drop_view.ensures.drops old.oldest is.state is.stands low high lawful);
      leaves = leaves_made g.D.Disk c.self.view_is c.in_ok-drop_view.ensures.leaves refl;
    }
