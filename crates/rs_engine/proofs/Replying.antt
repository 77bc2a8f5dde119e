-- What is served is served by a reply that is the same, to a command that is the same.
use Rattle.std.proofs.Common.{◌≡◌, ℕ, subst, sym}
use Rattle.rs_disk.specs.declared.disk.Disk as disk
use Rattle.rs_engine.specs.Kept.{EngineState}
use Rattle.rs_engine.specs.Serving.{IsServed}
use Rattle.rs_machine.specs.Served.{Machine, Reply}
use Rattle.rs_machine.specs.Step.{outcome}
use Rattle.rs_syntax.specs.View.{tree_of}
use Rattle.rs_syntax.specs.declared.commands.Command.{Command}

pub replied : {D : Type 0} (d : disk.Ghosts D) (session : ℕ) (machine : Machine) {new : EngineState D} {reply other : Reply} {command given : Command} → command ≡ given → reply ≡ other
    → IsServed d (outcome machine.state session (tree_of given)) machine other new → IsServed d (outcome machine.state session (tree_of command)) machine reply new
replied d session machine {new = new} {reply = reply} {given = given} is same served =
    subst (λ (one : Command). IsServed d (outcome machine.state session (tree_of one)) machine reply new) (sym is)
    (subst (λ (r : Reply). IsServed d (outcome machine.state session (tree_of given)) machine r new) (sym same) served)
