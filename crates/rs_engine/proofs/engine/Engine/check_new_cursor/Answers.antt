-- What its checks say of any spans is so of those of the store.
use Rattle.std.proofs.Common.{◌≡◌, ◌⊎◌, Err, Ok}
use Rattle.std.specs.Prelude.{IfErr, IfOk}
use Rattle.rs_checker.specs.CheckedView.{query_of}
use Rattle.rs_engine.proofs.Checking.{can_be_planned, on_machine}
use Rattle.rs_machine.specs.State.{State}
use Rattle.rs_machine.specs.Step.{counted, cursor_opened, lines_of, with_cursor}
use Rattle.rs_refusal.specs.declared.refusal.Refusal.TheVariants.{OutOfMemory}
use Rattle.rs_syntax.specs.QueryView.{query_tree}
use Rattle.rs_engine.proofs.engine.Engine.check_new_cursor.Goals as goal

pub returns-clause-accepted : goal.returns-clause-accepted
returns-clause-accepted g c =
    let name = c.args.name.now.bytes in
    on_machine g.D.Disk c.stores_have_their_laws.ensures c.args.self.now c.checks.result c.checks.ensures
    (λ (state : State). IfOk c.check_new_cursor.result (λ checked. cursor_opened state c.args.session name (query_tree c.args.query.now) c.args.method
    ≡ Ok (counted 0 (with_cursor state c.args.session name (lines_of state (query_of checked.query) c.args.method)))))
    c.check_new_cursor.ensures.accepted

pub returns-clause-refused : goal.returns-clause-refused
returns-clause-refused g c =
    on_machine g.D.Disk c.stores_have_their_laws.ensures c.args.self.now c.checks.result c.checks.ensures
    (λ (state : State). IfErr c.check_new_cursor.result (λ why. (why ≡ OutOfMemory)
    ⊎ (cursor_opened state c.args.session c.args.name.now.bytes (query_tree c.args.query.now) c.args.method ≡ Err why)))
    c.check_new_cursor.ensures.refused

pub returns-clause-can : goal.returns-clause-can
returns-clause-can g c = can_be_planned c.args.self.now c.checks.result c.checks.ensures (query_tree c.args.query.now) c.check_new_cursor.result c.check_new_cursor.ensures.is c.check_new_cursor.ensures.numbers
