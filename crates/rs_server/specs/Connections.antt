-- Connections that one machine serves, one after another.
use Rattle.std.specs.Prelude.{◌≡◌, ◌<◌, ℕ, ℤ, pos, zero, suc, List, [], ◌∷◌, Option, Some, None, Result, Ok, Err, Contains}
use Rattle.std.specs.Borrow.{Bor}
use Rattle.std.specs.Io.KnownBytes.{Appends, Keeps}
use Rattle.rs_machine.specs.Served.{Machine}
use Rattle.rs_protocol.specs.Ends.{Ends}
use Rattle.rs_protocol.specs.declared.stream.End.{End}
use Rattle.rs_protocol.specs.declared.stream.Fault.{Fault}
use Rattle.rs_protocol.specs.declared.stream.Fault.TheVariants.{Write}
use Rattle.rs_server.specs.Saying.{SaysFront, listening_text}
use Rattle.rs_server.specs.declared.report.Failure.{Failure}
use Rattle.rs_server.specs.declared.report.Failure.TheVariants.{CannotAccept, CannotListen, Stream}

-- what a peer told was served, until the end of that or a fault of the connection
pub record ServesPeer (old new : Machine) : Type 0 where
  pub outcome : Result End Fault
  pub told : List ℕ
  pub unread : Option (List ℕ)
  pub before : Option (List ℕ)
  pub after : Option (List ℕ)
  pub ended : Ends outcome told unread old new before after

-- So many connections were served in turn. One that failed before it began is a peer that told nothing.
abbrev pub ServesInTurn : ℕ → Machine → Machine → Type 0
ServesInTurn zero old new = new ≡ old
ServesInTurn (suc count) old new = (between : Machine) × ServesInTurn count old between × ServesPeer between new

-- the next one was served; or none was accepted, which changed nothing
abbrev pub ServesNext : {T F : Type 0} → Result T F → Machine → Machine → Type 0
ServesNext (Ok done) old new = ServesPeer old new
ServesNext (Err fault) old new = new ≡ old

-- all of them were served in turn, or fewer where none was accepted any more
abbrev pub ServesThem : {T F : Type 0} → Result T F → ℕ → Machine → Machine → Type 0
ServesThem (Ok done) connections old new = ServesInTurn connections old new
ServesThem (Err fault) connections old new = (count : ℕ) × (count < connections) × ServesInTurn count old new

-- ---- at an address

-- Where nothing failed the output says that the address is bound, and so many connections were served in turn; fewer, where none was accepted
-- any more. Where the address was not bound nothing is said, and where that was not said whole none was served.
abbrev pub ServesAddress : Bor (List ℕ) → ℕ → Option Failure → Machine → Machine → Option (List ℕ) → Option (List ℕ) → Type 0
ServesAddress address connections None old new before after =
    ((port : Option ℕ) × Appends before after (listening_text port)) × ServesInTurn connections old new
ServesAddress address connections (Some CannotAccept) old new before after =
    ((port : Option ℕ) × Appends before after (listening_text port)) × ((count : ℕ) × (count < connections) × ServesInTurn count old new)
ServesAddress address connections (Some (Stream Write)) old new before after = ((port : Option ℕ) × SaysFront (listening_text port) before after) × (new ≡ old)
ServesAddress address connections (Some (CannotListen place why)) old new before after = (place ≡ address) × Keeps before after × (new ≡ old)
ServesAddress address connections (Some failure) old new before after = ⊥

-- ---- failures that are no connection's

-- the system's numbers for want of memory, of descriptors in all and of the process, and of buffers
abbrev pub lacks : List ℤ
lacks = pos 12 ∷ pos 23 ∷ pos 24 ∷ pos 105 ∷ []

abbrev pub IsLack : Option ℤ → Type 0
IsLack None = ⊥
IsLack (Some number) = Contains lacks number
