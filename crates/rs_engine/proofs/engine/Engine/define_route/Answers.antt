-- A route that is defined.
use Rattle.std.proofs.Common.{◌∙◌, ℕ, List, Err, ap, refl}
use Rattle.std.proofs.lemmas.Result.{err_from_is_err_and}
use Rattle.rs_engine.specs.Kept.{EngineState}
use Rattle.rs_engine.specs.Replied.{count_reply_of}
use Rattle.rs_engine.proofs.Staying.{leaves_at_once, leaves_made, leaves_refused}
use Rattle.rs_engine.proofs.Stepping.{IsStep, change_made, change_refused, check_refused}
use Rattle.rs_machine.specs.State.{State}
use Rattle.rs_syntax.specs.Tree as tree
use Rattle.rs_machine.specs.Step.{with_route}
use Rattle.rs_machine.specs.Lawful.{IsLawful}
use Rattle.rs_engine.proofs.engine.Engine.define_route.Goals as goal

abbrev next_of : List ℕ → ℕ → ℕ → State → State
next_of name start finish state = with_route state name start finish

is_step : (name : List ℕ) (start : ℕ) (finish : ℕ) → IsStep (next_of name start finish)
is_step name start finish = record { beside = λ cursors state. refl; none = λ state. refl }

pub returns-in_err-check_new_route : goal.returns-in_err-check_new_route
returns-in_err-check_new_route g c =
    let name = c.args.name.bytes in
    let p = err_from_is_err_and c.from_residual.result c.from_residual.ensures.1 in
    record {
      serves = λ machine here. check_refused c.accepted_step_leaves_the_state_lawful.ensures g.D.Disk c.stores_have_their_laws.ensures c.args.self.now c.args.self.now refl
          c.checks.result c.checks.ensures machine here (tree.define_route name c.args.start c.args.finish) c.from_residual.result count_reply_of c.in_err-check_new_route.field-0.0
          c.args.self.now refl (p.1 ∙ ap Err p.2) refl c.in_err-check_new_route.ensures.refused;
      leaves = leaves_at_once g.D.Disk c.args.self.now c.from_residual.result;
    }

pub returns-in_err-define_route : goal.returns-in_err-define_route
returns-in_err-define_route g c =
    let old : EngineState g.row.D.Denot = record { store = c.self.inside.live.store; oldest = c.self.inside.live.oldest; cursors = c.self.inside.cursors } in
    let name = c.args.name.bytes in
    let p = err_from_is_err_and c.from_residual-in_err-define_route.result c.from_residual-in_err-define_route.ensures.1 in
    record {
      serves = λ machine here. change_refused c.accepted_step_leaves_the_state_lawful.ensures g.D.Disk c.stores_have_their_laws.ensures old c.args.self.now c.self.view_is
          c.checks.result c.checks.ensures machine here (tree.define_route name c.args.start c.args.finish) c.requires.sound (next_of name c.args.start c.args.finish) (is_step name c.args.start c.args.finish) 0 c.in_ok-check_new_route.ensures.accepted
          (λ (state : State). IsLawful (next_of name c.args.start c.args.finish state)) (record { store = c.define_route.new.self; oldest = old.oldest; cursors = old.cursors }) c.from_residual-in_err-define_route.result count_reply_of c.in_err-define_route.field-0.0
          c.in_err-define_route.ensures.leaves (refl, refl) (λ is known lawful. lawful) (p.1 ∙ ap Err p.2) refl;
      leaves = leaves_refused g.D.Disk c.self.view_is c.in_err-define_route.ensures.leaves (refl, refl) c.from_residual-in_err-define_route.result;
    }

pub returns : goal.returns
returns g c =
    let old : EngineState g.row.D.Denot = record { store = c.self.inside.live.store; oldest = c.self.inside.live.oldest; cursors = c.self.inside.cursors } in
    let name = c.args.name.bytes in
    record {
      serves = λ machine here. change_made c.accepted_step_leaves_the_state_lawful.ensures g.D.Disk c.stores_have_their_laws.ensures old c.args.self.now c.self.view_is
          c.checks.result c.checks.ensures machine here (tree.define_route name c.args.start c.args.finish) c.requires.sound (next_of name c.args.start c.args.finish) (is_step name c.args.start c.args.finish) 0 c.in_ok-check_new_route.ensures.accepted
          (λ (state : State). IsLawful (next_of name c.args.start c.args.finish state)) (record { store = c.define_route.new.self; oldest = c.oldest-oldest.result; cursors = old.cursors }) c.in_ok-define_route.field-0 c.in_ok-define_route.ensures.leaves
          c.oldest-oldest.result (refl, refl) c.oldest-oldest.ensures (λ is known low high level lawful. c.in_ok-define_route.ensures.defines old.oldest is.state is.stands low high lawful);
      leaves = leaves_made g.D.Disk c.self.view_is c.in_ok-define_route.ensures.leaves refl;
    }
