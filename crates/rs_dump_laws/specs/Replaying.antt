-- What is answered to the lines of a dump.
use Rattle.std.specs.Prelude.{◌≡◌, ◌≢◌, ℕ, true, List, map}
use Rattle.std.specs.List.{AllByRecursion}
use Rattle.rs_refusal.specs.declared.refusal.Refusal.TheVariants.{OutOfMemory, Disk, FileFull}
use Rattle.rs_syntax.specs.Tree.{CommandTree}
use Rattle.rs_machine.specs.Answered.{Answer}
use Rattle.rs_machine.specs.Served.{refused}
use Rattle.rs_machine_laws.specs.Given.{is_accepted}
use Rattle.rs_dump_laws.specs.Lines.{IsSaid, dump_line}

abbrev pub dump_lines : List CommandTree → List (List ℕ)
dump_lines commands = map dump_line commands

-- the line of each asks it
abbrev pub AreSaid : List CommandTree → Type 0
AreSaid commands = AllByRecursion IsSaid commands

-- session 0 is answered OK
pub record IsOkAnswer (given : Answer) : Type 0 where
  pub session : given.session ≡ 0
  pub accepted : is_accepted given.reply ≡ true

-- no want is named, of memory, of the disk or of room
pub record NamesNoWant (given : Answer) : Type 0 where
  pub memory : given.reply ≢ refused OutOfMemory
  pub disk : given.reply ≢ refused Disk
  pub room : given.reply ≢ refused FileFull
