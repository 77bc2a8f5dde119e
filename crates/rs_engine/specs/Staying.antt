-- What a step leaves as it was, whatever its disk gives back: no premise on the disk stands here.
use Rattle.std.specs.Prelude.{◌≡◌, ℕ, OnErr, Result, Some}
use Rattle.std.specs.FinMap as names
use Rattle.rs_catalog.specs.Referents.{referents_on}
use Rattle.rs_cursor.specs.Held.{held_at, held_of}
use Rattle.rs_cursor.specs.declared.cursor.Cursor.{Cursor}
use Rattle.rs_cursor.specs.declared.place.Place.{Place}
use Rattle.rs_disk.specs.declared.disk.Disk as disk
use Rattle.rs_engine.specs.Ahead.{IsEmpty}
use Rattle.rs_engine.specs.Clearing.{WhereDone}
use Rattle.rs_engine.specs.Kept.{EngineState}
use Rattle.rs_facts.specs.Fact.{Name}
use Rattle.rs_file_parts.specs.Parts.{IsAsItWas}
use Rattle.rs_machine.specs.Served.{Reply, done, refused}
use Rattle.rs_methods.specs.declared.position.Method.{Method}
use Rattle.rs_pager.specs.Lasts.{Lasts}
use Rattle.rs_pager.specs.Maps.{KeepsChanges}
use Rattle.rs_refusal.specs.declared.refusal.Refusal.{Refusal}
use Rattle.rs_store_source.specs.Changing.{StillHolds}
use Rattle.rs_syntax.specs.Tree.{CommandTree, close_cursor, explain, fetch, open_cursor, reopen, select, total, translate}

-- ---- the cursors of sessions

-- the session has a cursor of this name
pub record HasCursor {D : Type 0} (session : ℕ) (name : Name) (engine : EngineState D) : Type 0 where
  pub cursor : Cursor
  pub there : names.get (held_of engine.cursors.held session) name ≡ Some cursor

-- one cursor has come, of this session and name: it looks at the version that was accepted last, and has given nothing. Nothing is kept
-- ahead, of it or of others
pub record HasOpened {D : Type 0} (session : ℕ) (name : Name) (method : Method) (old new : EngineState D) : Type 0 where
  pub cursor : Cursor
  pub method_is : cursor.method ≡ method
  pub version : cursor.version ≡ old.store.file.accepted
  pub route : cursor.place.route ≡ 0
  pub given : cursor.place.given ≡ 0
  pub held : held_of new.cursors.held ≡ held_at session (names.insert (held_of old.cursors.held session) name cursor) (held_of old.cursors.held)
  pub none_ahead : IsEmpty new.cursors.ahead

-- one cursor, of this session and name, is at a place; its plan, its method and its version are what they were
pub record HasMoved {D : Type 0} (session : ℕ) (name : Name) (old new : EngineState D) : Type 0 where
  pub cursor : Cursor
  pub there : names.get (held_of old.cursors.held session) name ≡ Some cursor
  pub place : Place
  pub held : held_of new.cursors.held ≡ held_at session (names.insert (held_of old.cursors.held session) name (record cursor { place = place })) (held_of old.cursors.held)

-- the cursor of this session and name is gone, and no other
abbrev pub HasClosed : {D : Type 0} → ℕ → Name → EngineState D → EngineState D → Type 0
HasClosed session name old new = held_of new.cursors.held ≡ held_at session (names.remove (held_of old.cursors.held session) name) (held_of old.cursors.held)

-- no session has a cursor
abbrev pub HasNone : {D : Type 0} → EngineState D → Type 0
HasNone engine = (session : ℕ) → held_of engine.cursors.held session ≡ names.empty

-- What a command makes of the cursors where it is accepted: OPEN, FETCH and CLOSE change the one that they name, REOPEN closes all, and
-- every other command leaves each with its plan, its method, its version and its place.
abbrev pub CursorsAfter : {D : Type 0} → ℕ → CommandTree → EngineState D → EngineState D → Type 0
CursorsAfter session (open_cursor name query method) old new = HasOpened session name method old new
CursorsAfter session (fetch name rows) old new = HasMoved session name old new
CursorsAfter session (close_cursor name) old new = HasClosed session name old new
CursorsAfter session reopen old new = HasNone new
CursorsAfter session _ old new = new.cursors.held ≡ old.cursors.held

-- ---- which commands are meant

-- what is so where a command is refused
abbrev pub WhereRefused : Reply → Type 0 → Type 0
WhereRefused (done rows count) P = Unit {0}
WhereRefused (refused why) P = P

-- what is so of a command that only reads the file
abbrev pub WhereReading : CommandTree → Type 0 → Type 0
WhereReading (translate route position method) P = P
WhereReading (select query method) P = P
WhereReading (total query by summed) P = P
WhereReading (explain query) P = P
WhereReading (open_cursor name query method) P = P
WhereReading (fetch name rows) P = P
WhereReading _ P = Unit {0}

module _ {D : Type 0} (d : disk.Ghosts D) where
  -- ---- what stays

  -- Each cursor of each session is as it was: its plan, its method, its version and its place. So are the oldest version that is looked
  -- at, what is open of the file, and the definitions and the referents in memory. Held changes are held still, or all of them have been
  -- written.
  pub record StaysAsItWas (old new : EngineState D) : Type 0 where
    pub cursors : new.cursors.held ≡ old.cursors.held
    pub oldest : new.oldest ≡ old.oldest
    pub opened : IsAsItWas old.store.file new.store.file
    pub catalog : new.store.catalog ≡ old.store.catalog
    pub referents : (route : ℕ) → referents_on new.store.referents route ≡ referents_on old.store.referents route
    pub changes : StillHolds d old.store.pager new.store.pager

  -- Where a step is refused all stays as it was. Where it is accepted the cursors are those that its command leaves. A command that only
  -- reads leaves the held changes, whatever it is answered. Whatever it is, what lasts, lasts, and the limit stays: what a crash might
  -- have left while the step ran was left before, or gives the pages kept last or the committed ones, and after it the one or the other
  -- are kept last.
  pub record StaysOnAnyDisk (session : ℕ) (tree : CommandTree) (reply : Reply) (old new : EngineState D) : Type 0 where
    pub refused : WhereRefused reply (StaysAsItWas old new)
    pub cursors : WhereDone reply (CursorsAfter session tree old new)
    pub changes : WhereReading tree (KeepsChanges old.store.pager new.store.pager)
    pub lasts : Lasts d old.store.pager new.store.pager
    pub limit : new.store.pager.limit ≡ old.store.pager.limit

  -- the same of a call that leaves all cursors: one that changes the file, or writes what is held
  pub record LeavesCursors {T : Type 0} (result : Result T Refusal) (old new : EngineState D) : Type 0 where
    pub held : new.cursors.held ≡ old.cursors.held
    pub refused : OnErr result (StaysAsItWas old new)
    pub lasts : Lasts d old.store.pager new.store.pager
    pub limit : new.store.pager.limit ≡ old.store.pager.limit
