-- A route that is dropped, where it is known whether some table has a fact on it.
use Rattle.std.proofs.Common.{◌≡◌, ◌∙◌, ℕ, Bool, List, Err, Ok, ap, false, refl, subst, sym}
use Rattle.std.proofs.lemmas.Result.{err_from_is_err_and}
use Rattle.rs_command_checks.specs.Facts.{TellsOfFacts}
use Rattle.rs_disk.specs.declared.disk.Disk as disk
use Rattle.rs_engine.specs.Kept.{EngineState, IsMachine}
use Rattle.rs_engine.specs.Replied.{count_reply_of}
use Rattle.rs_engine.proofs.Waiting.{none_waits_for_route}
use Rattle.rs_engine.proofs.Staying.{leaves_at_once, leaves_made, leaves_refused}
use Rattle.rs_engine.proofs.Stepping.{IsStep, check_refused_at, found, made_at, refused_at}
use Rattle.rs_machine.specs.Lawful.{IsLawful}
use Rattle.rs_machine.specs.Served.{Machine}
use Rattle.rs_machine.specs.State.{State}
use Rattle.rs_machine.specs.Step.{counted, route_dropped, without_route}
use Rattle.rs_store_source.specs.Routing.{HasNoFactOn}
use Rattle.rs_syntax.specs.Tree as tree
use Rattle.rs_engine.proofs.engine.Engine.take_route.Goals as goal

abbrev next_of : List ℕ → State → State
next_of name state = without_route state name

is_step : (name : List ℕ) → IsStep (next_of name)
is_step name = record { beside = λ cursors state. refl; none = λ state. refl }

-- the file's state has no fact on the route where that is told of the machine's
none_on : {D : Type 0} (d : disk.Ghosts D) (engine : EngineState D) (machine : Machine) (is : IsMachine d engine machine) (name : List ℕ) (has_facts : Bool)
    → TellsOfFacts machine.state name has_facts → has_facts ≡ false → HasNoFactOn name is.state
none_on d engine machine is name has_facts tells none ends there =
    sym (subst (λ (state : State). TellsOfFacts state name has_facts) is.is tells ends there) ∙ none

pub returns-in_err-check_old_route : goal.returns-in_err-check_old_route
returns-in_err-check_old_route g c =
    let name = c.args.name.now.bytes in
    let p = err_from_is_err_and c.from_residual.result c.from_residual.ensures.1 in
    record {
      serves = λ machine here tells. check_refused_at c.accepted_step_leaves_the_state_lawful.ensures g.D.Disk c.stores_have_their_laws.ensures c.args.self.now c.args.self.now refl
          c.checks.result c.checks.ensures machine here (tree.drop_route name) c.from_residual.result count_reply_of c.in_err-check_old_route.field-0.0
          c.args.self.now refl (p.1 ∙ ap Err p.2) refl
          (found c.accepted_step_leaves_the_state_lawful.ensures g.D.Disk c.stores_have_their_laws.ensures c.args.self.now c.args.self.now refl c.checks.result c.checks.ensures machine here
          (tree.drop_route name) (λ (state : State). TellsOfFacts state name c.args.has_facts → route_dropped state name ≡ Err c.in_err-check_old_route.field-0.0)
          c.in_err-check_old_route.ensures.refused tells);
      leaves = leaves_at_once g.D.Disk c.args.self.now c.from_residual.result;
    }

pub returns-in_err-drop_route : goal.returns-in_err-drop_route
returns-in_err-drop_route g c =
    let old : EngineState g.row.D.Denot = record { store = c.self.inside.live.store; oldest = c.self.inside.live.oldest; cursors = c.self.inside.cursors } in
    let laws = c.accepted_step_leaves_the_state_lawful.ensures in
    let states = c.stores_have_their_laws.ensures in
    let name = c.args.name.now.bytes in
    let p = err_from_is_err_and c.from_residual-in_err-drop_route.result c.from_residual-in_err-drop_route.ensures.1 in
    record {
      serves = λ machine here tells.
          let out = found laws g.D.Disk states old c.args.self.now c.self.view_is c.checks.result c.checks.ensures machine here (tree.drop_route name)
          (λ (state : State). TellsOfFacts state name c.args.has_facts → route_dropped state name ≡ Ok (counted 0 (next_of name state))) c.in_ok-check_old_route.ensures.accepted tells in
          refused_at laws g.D.Disk states old c.args.self.now c.self.view_is c.checks.result c.checks.ensures machine here (tree.drop_route name) c.requires.sound (next_of name) (is_step name) 0 out
          (λ (state : State). HasNoFactOn name state × IsLawful (next_of name state)) (record { store = c.drop_route.new.self; oldest = old.oldest; cursors = old.cursors }) c.from_residual-in_err-drop_route.result count_reply_of
          c.in_err-drop_route.field-0.0 c.in_err-drop_route.ensures.leaves (refl, refl)
          (λ is known lawful. (none_on g.D.Disk old machine is name c.args.has_facts tells c.in_ok-check_old_route.ensures.no_facts, lawful)) (p.1 ∙ ap Err p.2) refl;
      leaves = leaves_refused g.D.Disk c.self.view_is c.in_err-drop_route.ensures.leaves (refl, refl) c.from_residual-in_err-drop_route.result;
    }

pub returns : goal.returns
returns g c =
    let old : EngineState g.row.D.Denot = record { store = c.self.inside.live.store; oldest = c.self.inside.live.oldest; cursors = c.self.inside.cursors } in
    let laws = c.accepted_step_leaves_the_state_lawful.ensures in
    let states = c.stores_have_their_laws.ensures in
    let name = c.args.name.now.bytes in
    record {
      serves = λ machine here tells.
          let out = found laws g.D.Disk states old c.args.self.now c.self.view_is c.checks.result c.checks.ensures machine here (tree.drop_route name)
          (λ (state : State). TellsOfFacts state name c.args.has_facts → route_dropped state name ≡ Ok (counted 0 (next_of name state))) c.in_ok-check_old_route.ensures.accepted tells in
          made_at laws g.D.Disk states old c.args.self.now c.self.view_is c.checks.result c.checks.ensures machine here (tree.drop_route name) c.requires.sound (next_of name) (is_step name) 0 out
          (λ (state : State). HasNoFactOn name state × IsLawful (next_of name state)) (record { store = c.drop_route.new.self; oldest = c.oldest-oldest.result; cursors = old.cursors }) c.in_ok-drop_route.field-0
          c.in_ok-drop_route.ensures.leaves c.oldest-oldest.result (refl, refl) c.oldest-oldest.ensures
          (λ is known low high level lawful. c.in_ok-drop_route.ensures.drops
          (level (none_waits_for_route machine.state name (counted 0 (next_of name machine.state)) out)) old.oldest is.state is.stands low high
          (none_on g.D.Disk old machine is name c.args.has_facts tells c.in_ok-check_old_route.ensures.no_facts, lawful));
      leaves = leaves_made g.D.Disk c.self.view_is c.in_ok-drop_route.ensures.leaves refl;
    }
