-- What a cursor of a session gives next.
use Rattle.std.specs.Prelude.{◌≡◌, ℕ, Some, drop, take}
use Rattle.std.specs.FinMap as names
use Rattle.rs_answers.specs.Versions.{LiesOnRoutes, SeenVersion}
use Rattle.rs_cursor.specs.Held.{HeldCursors, held_of, lines_left}
use Rattle.rs_cursor.specs.declared.cursor.Cursor.{Cursor}
use Rattle.rs_cursor.specs.declared.next_lines.NextLines.{NextLines}
use Rattle.rs_disk.specs.declared.disk.Disk as disk
use Rattle.rs_engine.specs.Kept.{EngineState}
use Rattle.rs_engine.specs.Reads.{ShowsVersion}
use Rattle.rs_facts.specs.Fact.{Name}
use Rattle.rs_machine.specs.Served.{Machine}
use Rattle.rs_serve.specs.ReplyView.{rows_of}

-- The session has a cursor of this name. The lines are the next of those that it has left, so many or as many as there are; from its
-- place then it has the others left.
pub record GivesNext (versions : ℕ → SeenVersion) (held : HeldCursors) (session : ℕ) (name : Name) (rows : ℕ) (next : NextLines) : Type 0 where
  pub cursor : Cursor
  pub there : names.get (held_of held session) name ≡ Some cursor
  pub lines : rows_of next.lines.items ≡ take rows (lines_left versions cursor)
  pub left : lines_left versions (record cursor { place = next.place }) ≡ drop rows (lines_left versions cursor)

module _ {D : Type 0} (d : disk.Ghosts D) where
  -- The machine's cursor of this name has still to give what the engine's has left at its version. The store shows that version, and the
  -- plan has rows on routes alone there: so whatever the store gives of the cursor are the first lines of the machine's.
  pub record HasItsLines (engine : EngineState D) (machine : Machine) (session : ℕ) (name : Name) (cursor : Cursor) : Type 0 where
    pub versions : ℕ → SeenVersion
    pub lines : names.get (machine.state.cursors session) name ≡ Some (lines_left versions cursor)
    pub shows : ShowsVersion d engine.oldest engine.store cursor.version (versions cursor.version)
    pub lies : LiesOnRoutes (versions cursor.version) cursor.plan
