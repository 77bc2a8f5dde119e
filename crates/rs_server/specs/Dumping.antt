-- What comes of a file that is dumped, where the program fails.
use Rattle.std.specs.Prelude.{◌≡◌, ◌⊎◌, ℕ, Bool, true, List, Option, None}
use Rattle.rs_disk.specs.Content.{Content}
use Rattle.rs_dump.specs.States.{CanBeDumpedWhole}
use Rattle.rs_dump.specs.declared.stop.Stop.{Stop}
use Rattle.rs_file_dump.specs.Files.{DumpsDisk, RefusesDisk, StopsDumping}
use Rattle.rs_machine.specs.State.{State}
use Rattle.rs_engine.specs.Standing.{Stands}

-- All is wanted, and something of the state was told and left out, which had to be.
pub record LeavesOut (limit : ℕ) (content : Content) (table : Option (List ℕ)) (omits_rows : Bool) (before after : Option (List ℕ)) : Type 0 where
  pub dumps : DumpsDisk limit content table omits_rows true before after
  pub all : table ≡ None
  pub has_to : (state : State) → Stands limit content state → CanBeDumpedWhole state → ⊥

-- The file was refused, or a front of what was wanted of it was written.
abbrev pub StopsEarly : ℕ → Content → Option (List ℕ) → Bool → Option (List ℕ) → Option (List ℕ) → Type 0
StopsEarly limit content table omits_rows before after =
    (stop : Stop) × (RefusesDisk limit content stop before after ⊎ StopsDumping limit content table omits_rows stop before after)

abbrev pub FailsToDump : ℕ → Content → Option (List ℕ) → Bool → Option (List ℕ) → Option (List ℕ) → Type 0
FailsToDump limit content table omits_rows before after =
    LeavesOut limit content table omits_rows before after ⊎ StopsEarly limit content table omits_rows before after
