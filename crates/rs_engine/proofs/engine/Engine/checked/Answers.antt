-- What its checks say of any spans is so of those of the store.
use Rattle.std.proofs.Common.{◌≡◌, ◌⊎◌, Err}
use Rattle.std.specs.Prelude.{IfErr, IfOk}
use Rattle.rs_checker.specs.Checks.{IsChecked}
use Rattle.rs_engine.proofs.Checking.{can_be_planned, on_machine}
use Rattle.rs_machine.specs.Checking.{checked}
use Rattle.rs_machine.specs.State.{State}
use Rattle.rs_refusal.specs.declared.refusal.Refusal.TheVariants.{OutOfMemory}
use Rattle.rs_syntax.specs.QueryView.{query_tree}
use Rattle.rs_engine.proofs.engine.Engine.checked.Goals as goal

pub returns-clause-is : goal.returns-clause-is
returns-clause-is g c =
    on_machine g.D.Disk c.stores_have_their_laws.ensures c.args.self.now c.checks.result c.checks.ensures (λ (state : State). IfOk c.checked.result (IsChecked state (query_tree c.args.query.now)))
    c.checked.ensures.is

pub returns-clause-can : goal.returns-clause-can
returns-clause-can g c = can_be_planned c.args.self.now c.checks.result c.checks.ensures (query_tree c.args.query.now) c.checked.result c.checked.ensures.is c.checked.ensures.numbers

pub returns-clause-refused : goal.returns-clause-refused
returns-clause-refused g c =
    on_machine g.D.Disk c.stores_have_their_laws.ensures c.args.self.now c.checks.result c.checks.ensures
    (λ (state : State). IfErr c.checked.result (λ why. (why ≡ OutOfMemory) ⊎ (checked state (query_tree c.args.query.now) ≡ Err why))) c.checked.ensures.refused
