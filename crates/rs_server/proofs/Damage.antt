-- Of an engine that is a machine no REOPEN finds damage.
use Rattle.std.proofs.Common.{◌≡◌, ◌⊎◌, ℕ, Bool, true, false, List, Option, Some, None, inl, inr, refl}
use Rattle.rs_machine.specs.Served.{Machine, Served}
use Rattle.rs_machine.specs.State.{RowText}
use Rattle.rs_refusal.specs.declared.refusal.Refusal.{Refusal}
use Rattle.rs_refusal.specs.declared.refusal.Refusal.TheVariants.{DamagedFile}
use Rattle.rs_serve.specs.ReplyView.{finished}
use Rattle.rs_serve.specs.declared.reply.Finish.{Finish}
use Rattle.rs_serve.specs.declared.reply.Finish.TheVariants as finish
use Rattle.rs_server.specs.Damage.{asks_to_reopen, failure_with, found_after}
use Rattle.rs_server.specs.declared.report.Failure.{Failure}
use Rattle.rs_syntax.specs.Tree.{CommandTree, reopen}

none_by_done : (reopens : Bool) (count : ℕ) → found_after reopens (finish.Done count) false ≡ false
none_by_done true count = refl
none_by_done false count = refl

pub never_damaged : (old new : Machine) (session : ℕ) (rows : List RowText) → Served old session reopen (finished rows (finish.Refused DamagedFile)) new → ⊥
never_damaged old new session rows (inl answers) = let wrong = answers.0 in cc
never_damaged old new session rows (inr (_, (inl memory))) = cc
never_damaged old new session rows (inr (_, (inr (inl disk)))) = let wrong = disk.0 in cc
never_damaged old new session rows (inr (_, (inr (inr room)))) = let wrong = room.0 in cc

pub none_found : (command : CommandTree) (end : Finish) (rows : List RowText) (old new : Machine) (session : ℕ)
    → Served old session command (finished rows end) new → found_after (asks_to_reopen command) end false ≡ false
none_found command (finish.Done count) rows old new session served = none_by_done (asks_to_reopen command) count
none_found reopen (finish.Refused DamagedFile) rows old new session served = absurd (never_damaged old new session rows served)
none_found command (finish.Refused refusal) rows old new session served = refl

-- where none was found a failure is told as it is
pub told_as_it_is : (failure : Option Failure) (is_damaged : Bool) → is_damaged ≡ false → failure_with failure is_damaged ≡ failure
told_as_it_is (Some failure) is_damaged none = refl
told_as_it_is None false none = refl
told_as_it_is None true none = cc
