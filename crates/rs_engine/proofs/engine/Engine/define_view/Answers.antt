-- A view that is defined.
use Rattle.std.proofs.Common.{◌∙◌, ℕ, List, Err, ap, refl}
use Rattle.std.proofs.lemmas.Result.{err_from_is_err_and}
use Rattle.rs_engine.specs.Kept.{EngineState}
use Rattle.rs_engine.specs.Replied.{count_reply_of}
use Rattle.rs_engine.proofs.Staying.{leaves_at_once, leaves_made, leaves_refused}
use Rattle.rs_engine.proofs.Stepping.{IsStep, change_made, change_refused, check_wanting}
use Rattle.rs_machine.specs.State.{State}
use Rattle.rs_syntax.specs.Tree as tree
use Rattle.rs_machine.specs.Step.{with_view}
use Rattle.rs_machine.specs.Lawful.{IsLawful}
use Rattle.std.specs.Prelude.{string_bytes}
use Rattle.rs_file_meaning.specs.States.{HasLine}
use Rattle.rs_syntax.specs.QueryView.{query_tree}
use Rattle.rs_syntax.specs.Tree.{QueryTree}
use Rattle.rs_engine.proofs.engine.Engine.define_view.Goals as goal

abbrev next_of : List ℕ → QueryTree → State → State
next_of name query state = with_view state name query

is_step : (name : List ℕ) (query : QueryTree) → IsStep (next_of name query)
is_step name query = record { beside = λ cursors state. refl; none = λ state. refl }

pub returns-in_err-check_new_view : goal.returns-in_err-check_new_view
returns-in_err-check_new_view g c =
    let name = c.args.name.bytes in
    let query = query_tree c.args.query in
    let text = string_bytes c.args.text in
    let p = err_from_is_err_and c.from_residual.result c.from_residual.ensures.1 in
    record {
      serves = λ session said machine here. check_wanting c.accepted_step_leaves_the_state_lawful.ensures g.D.Disk c.stores_have_their_laws.ensures c.args.self.now c.args.self.now refl
          c.checks.result c.checks.ensures machine here (tree.define_view name query text) c.from_residual.result count_reply_of c.in_err-check_new_view.field-0.0
          c.args.self.now refl (p.1 ∙ ap Err p.2) refl c.in_err-check_new_view.ensures.refused;
      leaves = leaves_at_once g.D.Disk c.args.self.now c.from_residual.result;
    }

pub returns-in_err-define_view : goal.returns-in_err-define_view
returns-in_err-define_view g c =
    let old : EngineState g.row.D.Denot = record { store = c.self.inside.live.store; oldest = c.self.inside.live.oldest; cursors = c.self.inside.cursors } in
    let name = c.args.name.bytes in
    let query = query_tree c.args.query in
    let text = string_bytes c.args.text in
    let p = err_from_is_err_and c.from_residual-in_err-define_view.result c.from_residual-in_err-define_view.ensures.1 in
    record {
      serves = λ session said machine here. change_refused c.accepted_step_leaves_the_state_lawful.ensures g.D.Disk c.stores_have_their_laws.ensures old c.args.self.now c.self.view_is
          c.checks.result c.checks.ensures machine here (tree.define_view name query text) c.requires.sound (next_of name query) (is_step name query) 0 c.in_ok-check_new_view.ensures.accepted
          (λ (state : State). HasLine name query text × IsLawful (next_of name query state)) (record { store = c.define_view.new.self; oldest = old.oldest; cursors = old.cursors }) c.from_residual-in_err-define_view.result count_reply_of c.in_err-define_view.field-0.0
          c.in_err-define_view.ensures.leaves (refl, refl) (λ is known lawful. (record { line = said.line; session = session; asks = said.asks }, lawful)) (p.1 ∙ ap Err p.2) refl;
      leaves = leaves_refused g.D.Disk c.self.view_is c.in_err-define_view.ensures.leaves (refl, refl) c.from_residual-in_err-define_view.result;
    }

pub returns : goal.returns
returns g c =
    let old : EngineState g.row.D.Denot = record { store = c.self.inside.live.store; oldest = c.self.inside.live.oldest; cursors = c.self.inside.cursors } in
    let name = c.args.name.bytes in
    let query = query_tree c.args.query in
    let text = string_bytes c.args.text in
    record {
      serves = λ session said machine here. change_made c.accepted_step_leaves_the_state_lawful.ensures g.D.Disk c.stores_have_their_laws.ensures old c.args.self.now c.self.view_is
          c.checks.result c.checks.ensures machine here (tree.define_view name query text) c.requires.sound (next_of name query) (is_step name query) 0 c.in_ok-check_new_view.ensures.accepted
          (λ (state : State). HasLine name query text × IsLawful (next_of name query state)) (record { store = c.define_view.new.self; oldest = c.oldest-oldest.result; cursors = old.cursors }) c.in_ok-define_view.field-0 c.in_ok-define_view.ensures.leaves
          c.oldest-oldest.result (refl, refl) c.oldest-oldest.ensures (λ is known low high level lawful. c.in_ok-define_view.ensures.defines old.oldest is.state is.stands low high (record { line = said.line; session = session; asks = said.asks }, lawful));
      leaves = leaves_made g.D.Disk c.self.view_is c.in_ok-define_view.ensures.leaves refl;
    }
