-- What opening a file of the system may give.
use Rattle.std.specs.Prelude.{◌≡◌, ℕ, List, Result, Ok, Err}
use Rattle.rs_disk.specs.Calls.{Calls, no_calls}
use Rattle.rs_refusal.specs.declared.refusal.Refusal.TheVariants.{Disk}
use Rattle.rs_server.specs.declared.file_system.Opening.{Opening}
use Rattle.rs_server.specs.declared.file_system.Opening.TheVariants.{New}
use Rattle.rs_server.specs.declared.report.Failure.{Failure}
use Rattle.rs_server.specs.declared.report.Failure.TheVariants.{CannotOpen, FileExists, Refused}

-- the file of this name was not opened
abbrev pub IsNotOpened : List ℕ → Failure → Type 0
IsNotOpened file (CannotOpen place why) = place.now ≡ file
IsNotOpened file failure = ⊥

-- it was not made, or something was there, or its folder was not synced
abbrev pub IsNotMade : List ℕ → Failure → Type 0
IsNotMade file FileExists = Unit {0}
IsNotMade file (Refused Disk) = Unit {0}
IsNotMade file failure = IsNotOpened file failure

-- a disk of which no call was made yet, or that failure
abbrev pub GivesFile : Opening → List ℕ → Result Calls Failure → Type 0
GivesFile opening file (Ok calls) = calls ≡ no_calls
GivesFile New file (Err failure) = IsNotMade file failure
GivesFile opening file (Err failure) = IsNotOpened file failure
