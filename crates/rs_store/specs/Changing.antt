-- What a change makes of a store: the state of the next version, in which live versions see what they saw.
use Rattle.std.specs.Prelude.{◌≡◌, ◌≢◌, ◌≤◌, ◌+◌, ℕ, Err, Result, MatchResult, OnErr, Some, IfErr, ◌⊎◌}
use Rattle.std.specs.FinMap as names
use Rattle.rs_catalog.specs.Definitions.{Definitions, RouteItem, TableItem}
use Rattle.rs_catalog.specs.Events.{behind}
use Rattle.rs_catalog.specs.Referents.{referents_on}
use Rattle.rs_disk.specs.declared.disk.Disk as disk
use Rattle.rs_facts.specs.Fact.{Name}
use Rattle.rs_facts.specs.Runs.{Stretch}
use Rattle.rs_facts.specs.Spans.{IsPlaced}
use Rattle.rs_file.specs.Contents.{Contents}
use Rattle.rs_file_parts.specs.Parts.{IsAsItWas}
use Rattle.rs_machine.specs.Checks.{column_types}
use Rattle.rs_machine.specs.State.{State}
use Rattle.rs_pager.specs.Lasts.{Lasts}
use Rattle.rs_pager.specs.Maps.{HoldsNoChange, KeepsChanges}
use Rattle.rs_pager.specs.Opened.{CountsFault}
use Rattle.rs_pager.specs.Paged.{Paged}
use Rattle.rs_refusal.specs.Counts.{counted_on}
use Rattle.rs_refusal.specs.declared.refusal.Refusal.{Refusal}
use Rattle.rs_changes.specs.Changing.{ClearsEnough, HasTurned}
use Rattle.rs_file_meaning.specs.Live.{KeepsLive}
use Rattle.rs_refusal.specs.declared.refusal.Refusal.TheVariants as refusal
use Rattle.rs_store.specs.Kept.{Keeps, StandsIn, StoreState}
use Rattle.rs_value.specs.Values.{IsRowOf}
use Rattle.rs_value.specs.declared.column.Kind.{Kind}

-- the table and the route of these names have these numbers
pub record HaveNumbers (definitions : Definitions) (name on : Name) (table route : ℕ) : Type 0 where
  pub table_item : TableItem
  pub table_there : names.get definitions.tables name ≡ Some table_item
  pub table_numbered : table_item.number ≡ table
  pub route_item : RouteItem
  pub route_there : names.get definitions.routes on ≡ Some route_item
  pub route_numbered : route_item.number ≡ route

-- a table of this number and kind is there, and the row is one of its columns, along a span of its kind
pub record IsRowFor (definitions : Definitions) (number : ℕ) (kind : Kind) (span : Stretch) : Type 0 where
  pub name : Name
  pub table : TableItem
  pub there : names.get definitions.tables name ≡ Some table
  pub numbered : table.number ≡ number
  pub of_kind : table.kind ≡ kind
  pub row : IsRowOf (column_types table.columns) span.row
  pub placed : IsPlaced kind span

-- a route of this number is there, and the span, of this kind, lies on it
pub record LiesOn (definitions : Definitions) (kind : Kind) (number : ℕ) (span : Stretch) : Type 0 where
  pub name : Name
  pub on : RouteItem
  pub there : names.get definitions.routes name ≡ Some on
  pub numbered : on.number ≡ number
  pub from : on.ends.start ≤ span.lo
  pub upto : span.hi ≤ behind kind on.ends

-- a change that any state allows
abbrev pub Always : State → Type 0
Always state = Unit {0}

-- why a change is refused
abbrev pub WantsChanging : Refusal → Type 0
WantsChanging why = (why ≡ refusal.OutOfMemory) ⊎ (why ≡ refusal.Disk) ⊎ (why ≡ refusal.FileFull) ⊎ (why ≡ refusal.DamagedFile)

module _ {D : Type 0} (d : disk.Ghosts D) where
  -- The store stands in the state of the next version, and versions from the oldest on see what they saw. Records that lived have ended
  -- at that version, and others were born at it; of those that no version from the oldest on sees then, enough are gone, and no other.
  pub record HasBecome (oldest : ℕ) (old : Contents) (store : StoreState D) (state : State) : Type 0 where
    pub between : Contents
    pub turned : HasTurned (old.directory.accepted + 1) old between
    pub stands : StandsIn d oldest store state
    pub clears : ClearsEnough oldest old between stands.contents
    pub next : stands.contents.directory.accepted ≡ old.directory.accepted + 1
    pub live : KeepsLive oldest old stands.contents

  -- where a change is refused with 92 the refusals of a full file have risen, by one; they never fall
  pub record CountsFull (why : Refusal) (old new : ℕ) : Type 0 where
    pub full : why ≡ refusal.FileFull → new ≡ counted_on old
    pub other : why ≢ refusal.FileFull → old ≤ new

  -- the held changes are as they were, or all of them have been written; no page is committed besides
  pub record StillHolds (old new : Paged D) : Type 0 where
    pub committed_fields : new.committed_fields ≡ old.committed_fields
    pub working_fields : new.working ≡ old.working
    pub changes : KeepsChanges old new ⊎ HoldsNoChange new

  -- What a change leaves, whatever it is: what lasts, and after a refusal the store keeps what it kept, the same is in memory, and what is
  -- open and the held changes are as they were, whatever the disk is. 91 comes exactly where the disk's failures rose, by one; 92 only where the full
  -- refusals rose; 94 never where the store stands in a state that may change so.
  pub record LeavesStore (may : State → Type 0) {T : Type 0} (result : Result T Refusal) (old new : StoreState D) : Type 0 where
    pub stays : (contents : Contents) → Keeps d old contents → OnErr result (Keeps d new contents)
    pub cause : IfErr result WantsChanging
    pub sound : (from : ℕ) (state : State) → StandsIn d from old state → may state → result ≢ Err refusal.DamagedFile
    pub catalog : OnErr result (new.catalog ≡ old.catalog)
    pub referents : OnErr result ((route : ℕ) → referents_on new.referents route ≡ referents_on old.referents route)
    pub opened : OnErr result (IsAsItWas old.file new.file)
    pub changes : OnErr result (StillHolds old.pager new.pager)
    pub accepted : MatchResult result (λ _. new.file.accepted ≡ old.file.accepted + 1) (λ _. new.file.accepted ≡ old.file.accepted)
    pub failures : MatchResult result (λ _. d.failures new.pager.disk ≡ d.failures old.pager.disk)
        (λ why. CountsFault why (d.failures old.pager.disk) (d.failures new.pager.disk))
    pub full : MatchResult result (λ _. new.pager.full_refusals ≡ old.pager.full_refusals)
        (λ why. CountsFull why old.pager.full_refusals new.pager.full_refusals)
    pub honesty : d.is_honest new.pager.disk ≡ d.is_honest old.pager.disk
    pub limit : new.pager.limit ≡ old.pager.limit
    pub lasts : Lasts d old.pager new.pager
