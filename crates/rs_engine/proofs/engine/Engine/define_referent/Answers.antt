-- A referent that is put on its route.
use Rattle.std.proofs.Common.{◌∙◌, ℕ, List, Err, ap, refl}
use Rattle.std.proofs.lemmas.Result.{err_from_is_err_and}
use Rattle.std.specs.FinMap as names
use Rattle.rs_engine.specs.Kept.{EngineState}
use Rattle.rs_engine.specs.Replied.{count_reply_of}
use Rattle.rs_engine.proofs.Staying.{leaves_at_once, leaves_made, leaves_refused}
use Rattle.rs_engine.proofs.Stepping.{IsStep, change_made, change_refused, check_refused}
use Rattle.rs_machine.specs.State.{State}
use Rattle.rs_syntax.specs.Tree as tree
use Rattle.rs_machine.specs.Step.{with_referents}
use Rattle.rs_store_source.specs.Changing.{Always}
use Rattle.rs_methods.specs.Position.{expression_of}
use Rattle.rs_engine.proofs.Naming.{named_positive}
use Rattle.rs_engine.proofs.engine.Engine.define_referent.Goals as goal

abbrev put : List ℕ → List ℕ → ℕ → State → State
put route name measure state = with_referents state route (names.insert (state.referents route) name measure)

is_step : (route name : List ℕ) (measure : ℕ) → IsStep (put route name measure)
is_step route name measure = record { beside = λ cursors state. refl; none = λ state. refl }

pub put_referent-requires-clause-name : goal.put_referent-requires-clause-name
put_referent-requires-clause-name g c = named_positive c.args.name.bytes c.requires.sound.1

pub returns-in_err-measure : goal.returns-in_err-measure
returns-in_err-measure g c =
    let route = c.args.route.now.bytes in
    let name = c.args.name.bytes in
    let p = err_from_is_err_and c.from_residual.result c.from_residual.ensures.1 in
    record {
      serves = λ machine here. check_refused c.accepted_step_leaves_the_state_lawful.ensures g.D.Disk c.stores_have_their_laws.ensures c.args.self.now c.args.self.now refl
          c.checks.result c.checks.ensures machine here (tree.define_referent route name (expression_of c.args.position.now)) c.from_residual.result count_reply_of c.in_err-measure.field-0.0
          c.args.self.now refl (p.1 ∙ ap Err p.2) refl c.in_err-measure.ensures.refused;
      leaves = leaves_at_once g.D.Disk c.args.self.now c.from_residual.result;
    }

pub returns-in_err-put_referent : goal.returns-in_err-put_referent
returns-in_err-put_referent g c =
    let old : EngineState g.row.D.Denot = record { store = c.self.inside.live.store; oldest = c.self.inside.live.oldest; cursors = c.self.inside.cursors } in
    let route = c.args.route.now.bytes in
    let name = c.args.name.bytes in
    let p = err_from_is_err_and c.from_residual-in_err-put_referent.result c.from_residual-in_err-put_referent.ensures.1 in
    record {
      serves = λ machine here. change_refused c.accepted_step_leaves_the_state_lawful.ensures g.D.Disk c.stores_have_their_laws.ensures old c.args.self.now c.self.view_is
          c.checks.result c.checks.ensures machine here (tree.define_referent route name (expression_of c.args.position.now)) c.requires.sound (put route name c.in_ok-measure.measure) (is_step route name c.in_ok-measure.measure) 0 c.in_ok-measure.ensures.accepted
          Always (record { store = c.put_referent.new.self; oldest = old.oldest; cursors = old.cursors }) c.from_residual-in_err-put_referent.result count_reply_of c.in_err-put_referent.field-0.0
          c.in_err-put_referent.ensures.leaves (refl, refl) (λ is known lawful. tt) (p.1 ∙ ap Err p.2) refl;
      leaves = leaves_refused g.D.Disk c.self.view_is c.in_err-put_referent.ensures.leaves (refl, refl) c.from_residual-in_err-put_referent.result;
    }

pub returns : goal.returns
returns g c =
    let old : EngineState g.row.D.Denot = record { store = c.self.inside.live.store; oldest = c.self.inside.live.oldest; cursors = c.self.inside.cursors } in
    let route = c.args.route.now.bytes in
    let name = c.args.name.bytes in
    record {
      serves = λ machine here. change_made c.accepted_step_leaves_the_state_lawful.ensures g.D.Disk c.stores_have_their_laws.ensures old c.args.self.now c.self.view_is
          c.checks.result c.checks.ensures machine here (tree.define_referent route name (expression_of c.args.position.now)) c.requires.sound (put route name c.in_ok-measure.measure) (is_step route name c.in_ok-measure.measure) 0 c.in_ok-measure.ensures.accepted
          Always (record { store = c.put_referent.new.self; oldest = c.oldest-oldest.result; cursors = old.cursors }) c.in_ok-put_referent.field-0 c.in_ok-put_referent.ensures.leaves
          c.oldest-oldest.result (refl, refl) c.oldest-oldest.ensures (λ is known low high level lawful. c.in_ok-put_referent.ensures.puts old.oldest is.state is.stands low high lawful);
      leaves = leaves_made g.D.Disk c.self.view_is c.in_ok-put_referent.ensures.leaves refl;
    }
