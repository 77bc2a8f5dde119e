-- What is shown of a file that is dumped, and what a dump of a disk is.
use Rattle.std.specs.Prelude.{◌≡◌, ◌⊎◌, ◌-◌, ◌^◌, ℕ, Bool, IfSome, List, Option, None, Some}
use Rattle.std.specs.FinMap as names
use Rattle.rs_catalog.specs.Definitions.{Definitions, Numbered}
use Rattle.rs_catalog.specs.Referents.{HeldReferents}
use Rattle.rs_disk.specs.Content.{Content}
use Rattle.rs_disk.specs.declared.disk.Disk as disk
use Rattle.rs_dump.specs.Dumped.{FrontOfAll, FrontOfTable, WroteAll, WroteTable}
use Rattle.rs_dump.specs.Shown.{Shown}
use Rattle.rs_dump.specs.States.{IsStateOf}
use Rattle.rs_dump.specs.Written.{StopsWriting}
use Rattle.rs_dump.specs.declared.stop.Stop.{Stop}
use Rattle.rs_dump.specs.declared.stop.Stop.TheVariants.{Refused}
use Rattle.rs_facts.specs.Fact.{Name}
use Rattle.rs_machine.specs.State.{State}
use Rattle.rs_refusal.specs.declared.refusal.Refusal.{Refusal}
use Rattle.rs_table_reads.specs.Read.{spans_in}
use Rattle.rs_table_reads.specs.declared.window.RouteWindow.{RouteWindow}
use Rattle.rs_file_meaning.specs.Seen.{events_of}
use Rattle.rs_refusal.specs.declared.refusal.Refusal.TheVariants as refusal
use Rattle.rs_store_source.specs.Calls.{IsLeftOpen, IsNoFileOfAny, WantsOpening}
use Rattle.rs_store_source.specs.Kept.{StandsIn, StoreState}
use Rattle.rs_store_source.specs.Standing.{Stands}
use Rattle.rs_value.specs.declared.column.Kind.{Kind}

-- all of a route at a version
abbrev pub whole_route : Kind → ℕ → ℕ → RouteWindow
whole_route kind version route = record { kind = kind; version = version; route = route; from = 0; to = 2 ^ 32 - 1 }

module _ {D : Type 0} (d : disk.Ghosts D) where
  -- The store stands in a state. What is shown are the spans that the version accepted last sees.
  pub record ShowsFile (store : StoreState D) (shown : Shown) : Type 0 where
    pub oldest : ℕ
    pub state : State
    pub stands : StandsIn d oldest store state
    pub spans : (table : ℕ) (kind : Kind) (route : ℕ)
        → shown table kind route ≡ spans_in (whole_route kind store.file.accepted route) (events_of stands.contents table)

-- The disk stands for a state, whose definitions, referents and spans are these. Of them was written what was wanted: all, with or without
-- rows, or one table.
pub record DumpsDisk (limit : ℕ) (content : Content) (table : Option Name) (omits_rows lacks : Bool) (before after : Option (List ℕ)) : Type 0 where
  pub state : State
  pub stood : Stands limit content state
  pub definitions : Definitions
  pub held : Numbered HeldReferents
  pub shown : Shown
  pub is : IsStateOf definitions held shown state
  pub all : table ≡ None → WroteAll definitions held shown omits_rows lacks before after
  pub one : IfSome table (λ name. WroteTable definitions shown omits_rows name before after)

-- ---- why a dump of a disk stops

-- For want of memory, since the output failed, since the table that is wanted is not there, or since the file is refused as one that is
-- opened may be. Nothing is refused for want of room.
abbrev pub WantsDumping : Stop → Type 0
WantsDumping stop = StopsWriting stop ⊎ (stop ≡ Refused refusal.NoSuchName) ⊎ ((why : Refusal) × (stop ≡ Refused why) × WantsOpening why)

-- The file was refused, and no line was written. It is damaged only where the disk is a file of no state, closed or not, and was not closed
-- only where it is a file of version 1 of some state and its flag is set.
pub record RefusesDisk (limit : ℕ) (content : Content) (stop : Stop) (before after : Option (List ℕ)) : Type 0 where
  pub why : Refusal
  pub is : stop ≡ Refused why
  pub wants : WantsOpening why
  pub damaged : why ≡ refusal.DamagedFile → IsNoFileOfAny limit content
  pub left_open : why ≡ refusal.FileNotClosed → IsLeftOpen limit content
  pub kept : after ≡ before

-- one table of the state is wanted, and it has none of this name
pub record LacksTable (table : Option Name) (state : State) : Type 0 where
  pub name : Name
  pub wanted : table ≡ Some name
  pub missing : names.get state.tables name ≡ None

-- The disk stands for a state, and a front of what was wanted of it was written: memory, the disk or the output gave out; or there is no
-- such table.
pub record StopsDumping (limit : ℕ) (content : Content) (table : Option Name) (omits_rows : Bool) (stop : Stop) (before after : Option (List ℕ)) : Type 0 where
  pub state : State
  pub stood : Stands limit content state
  pub definitions : Definitions
  pub held : Numbered HeldReferents
  pub shown : Shown
  pub is : IsStateOf definitions held shown state
  pub wants : StopsWriting stop ⊎ (stop ≡ Refused refusal.Disk) ⊎ ((stop ≡ Refused refusal.NoSuchName) × LacksTable table state)
  pub all : table ≡ None → FrontOfAll definitions held shown omits_rows stop before after
  pub one : IfSome table (λ name. FrontOfTable definitions shown omits_rows name stop before after)
