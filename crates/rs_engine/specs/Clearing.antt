-- What an accepted change and an accepted CLOSE clear: records that no version sees any more that is looked at.
use Rattle.std.specs.Prelude.{◌≡◌, ◌≤◌, ◌+◌, Result, min}
use Rattle.rs_store_source.specs.ChangeLawsChanging.{ClearsEnough, HasTurned}
use Rattle.rs_disk.specs.declared.disk.Disk as disk
use Rattle.rs_engine.specs.Kept.{EngineState, IsMachine, IsOldestIn}
use Rattle.rs_engine.specs.Serving.{IsServed}
use Rattle.rs_file.specs.Contents.{Contents}
use Rattle.rs_file_parts.specs.Clearing.{clearable}
use Rattle.rs_machine.specs.Served.{Machine, Reply, done, refused}
use Rattle.rs_machine.specs.State.{State}
use Rattle.rs_machine.specs.Step.{Effect}
use Rattle.rs_refusal.specs.declared.refusal.Refusal.{Refusal}
use Rattle.rs_store_source.specs.Kept.{Keeps}
use Rattle.rs_syntax.specs.Tree.{CommandTree, close_cursor, explain, fetch, open_cursor, reopen, save, select, total, translate}

-- ---- what a step itself makes of the records, before any are cleared

-- a change ends some and bears others
abbrev pub ByChange : Contents → Contents → Type 0
ByChange before between = HasTurned (before.directory.accepted + 1) before between

-- a CLOSE leaves all
abbrev pub ByClose : Contents → Contents → Type 0
ByClose before between = between ≡ before

-- ---- who clears

-- what is so where a command is accepted
abbrev pub WhereDone : Reply → Type 0 → Type 0
WhereDone (done rows count) P = P
WhereDone (refused why) P = Unit {0}

-- what is so where a change of the file is accepted, and where a CLOSE is; no other command clears
abbrev pub WhereClearing : CommandTree → Reply → Type 0 → Type 0 → Type 0
WhereClearing (translate route position method) reply P Q = Unit {0}
WhereClearing (select query method) reply P Q = Unit {0}
WhereClearing (total query by summed) reply P Q = Unit {0}
WhereClearing (explain query) reply P Q = Unit {0}
WhereClearing (open_cursor name query method) reply P Q = Unit {0}
WhereClearing (fetch name rows) reply P Q = Unit {0}
WhereClearing save reply P Q = Unit {0}
WhereClearing reopen reply P Q = Unit {0}
WhereClearing (close_cursor name) reply P Q = WhereDone reply Q
WhereClearing _ reply P Q = WhereDone reply P

module _ {D : Type 0} (d : disk.Ghosts D) where
  -- What is looked at then is the oldest version of a cursor, or the one that was accepted last. The step itself has changed the contents
  -- that were kept. Of the records that no version from the oldest on sees then, 64 are gone, or all where they are fewer; no other is,
  -- and what is left is kept.
  pub record HasCleared (changes : Contents → Contents → Type 0) (before : Contents) (new : EngineState D) : Type 0 where
    pub oldest : IsOldestIn new new.store.file.accepted new.oldest
    pub between : Contents
    pub changed : changes before between
    pub after : Contents
    pub keeps : Keeps d new.store after
    pub clears : ClearsEnough new.oldest before between after
    pub enough : min 64 (clearable new.oldest between) ≤ clears.gone

  -- it is served, and where it is accepted it has cleared records
  pub record IsServedClearing (changes : Contents → Contents → Type 0) (outcome : Result Effect Refusal) (old : Machine) (before : Contents) (reply : Reply) (new : EngineState D) : Type 0 where
    pub served : IsServed d outcome old reply new
    pub cleared : WhereDone reply (HasCleared changes before new)

  -- so it is, whichever machine the engine was and whatever its store kept
  abbrev pub ServesClearing : (Contents → Contents → Type 0) → (State → Result Effect Refusal) → Reply → EngineState D → EngineState D → Type 0
  ServesClearing changes outcome reply old new = (machine : Machine) (is : IsMachine d old machine) → IsServedClearing changes (outcome machine.state) machine is.stands.contents reply new

  -- each change and each CLOSE that is accepted has cleared records, whatever the engine's store kept
  pub record ClearsWhereAsked (tree : CommandTree) (reply : Reply) (old new : EngineState D) : Type 0 where
    pub each : (machine : Machine) (is : IsMachine d old machine)
        → WhereClearing tree reply (HasCleared ByChange is.stands.contents new) (HasCleared ByClose is.stands.contents new)
