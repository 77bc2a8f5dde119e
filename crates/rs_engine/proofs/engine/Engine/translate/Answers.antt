-- What the check of the position says of any spans is so of those of the store.
use Rattle.std.proofs.Common.{◌≡◌, ◌⊎◌, Err, Ok, length}
use Rattle.std.specs.Prelude.{IfErr, IfOk}
use Rattle.rs_engine.proofs.Checking.{on_machine}
use Rattle.rs_engine.proofs.Reading.{rows_at_once}
use Rattle.rs_machine.specs.State.{State}
use Rattle.rs_machine.specs.Step.{effect, position_translated}
use Rattle.rs_methods.specs.Position.{expression_of}
use Rattle.rs_refusal.specs.declared.refusal.Refusal.TheVariants.{OutOfMemory}
use Rattle.rs_serve.specs.ReplyView.{rows_of}
use Rattle.rs_engine.proofs.engine.Engine.translate.Goals as goal

pub returns : goal.returns
returns g c = record {
  serves = λ machine is.
      let route = c.args.route.now.bytes in
      let position = expression_of c.args.position.now in
      let result = c.translate.result in
      let states = c.stores_have_their_laws.ensures in
      rows_at_once g.D.Disk c.args.self.now machine is (position_translated machine.state route position c.args.method) result
      (on_machine g.D.Disk states c.args.self.now c.checks.result c.checks.ensures
      (λ (state : State). IfOk result (λ rows. position_translated state route position c.args.method ≡ Ok (effect (rows_of rows.items) (length (rows_of rows.items)) state)))
      c.translate.ensures.done machine is)
      (on_machine g.D.Disk states c.args.self.now c.checks.result c.checks.ensures
      (λ (state : State). IfErr result (λ why. (why ≡ OutOfMemory) ⊎ (position_translated state route position c.args.method ≡ Err why)))
      c.translate.ensures.refused machine is);
}
