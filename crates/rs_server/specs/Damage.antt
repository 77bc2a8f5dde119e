-- What is kept in mind of the reopenings of an engine.
use Rattle.std.specs.Prelude.{◌≡◌, Bool, true, false, Option, Some, None}
use Rattle.rs_machine.specs.Served.{Machine}
use Rattle.rs_refusal.specs.declared.refusal.Refusal.TheVariants.{DamagedFile}
use Rattle.rs_serve.specs.declared.reply.Finish.{Finish}
use Rattle.rs_serve.specs.declared.reply.Finish.TheVariants as finish
use Rattle.rs_server.specs.declared.reopened.Reopened.{Reopened}
use Rattle.rs_server.specs.declared.report.Failure.{Failure}
use Rattle.rs_server.specs.declared.report.Failure.TheVariants as failures
use Rattle.rs_syntax.specs.Tree.{CommandTree, reopen}

abbrev pub asks_to_reopen : CommandTree → Bool
asks_to_reopen reopen = true
asks_to_reopen command = false

-- a REOPEN that is accepted finds no damage, and one that is refused 94 does; any other command, or refusal, finds neither
abbrev pub found_after : Bool → Finish → Bool → Bool
found_after true (finish.Done count) before = false
found_after true (finish.Refused DamagedFile) before = true
found_after reopens end before = before

-- the first of a failure and of damage that was found
abbrev pub failure_with : Option Failure → Bool → Option Failure
failure_with (Some failure) is_damaged = Some failure
failure_with None true = Some (failures.Refused DamagedFile)
failure_with None false = None

-- the engine is the machine, and no damage was found
pub record IsSound {E : Type 0} (Is : E → Machine → Type 0) (it : Reopened E) (machine : Machine) : Type 0 where
  pub is : Is it.engine machine
  pub sound : it.is_damaged ≡ false
