-- The cursors that are kept of each session, and the lines that each has still to give.
use Rattle.std.specs.Prelude.{◌≡◌, ◌≤◌, ℕ, List, Some, drop, if◌then◌else◌, nat_eq, unwrap_or}
use Rattle.std.specs.Coded.{Coded}
use Rattle.std.specs.FinMap as maps
use Rattle.rs_answers.specs.Versions.{SeenVersion, lines_seen}
use Rattle.rs_catalog.specs.Codes.{names_code, numbered_code}
use Rattle.rs_catalog.specs.Definitions.{Numbered}
use Rattle.rs_catalog.specs.Names.{map_values}
use Rattle.rs_cursor.specs.contracts.cursor.Cursor as cursor
use Rattle.rs_cursor.specs.declared.cursor.Cursor.{Cursor}
use Rattle.rs_facts.specs.Fact.{Name, Names}
use Rattle.rs_machine.specs.State.{Cursors, RowText}

-- ---- what is kept

abbrev pub HeldCursors : Type 0
HeldCursors = Numbered (Names Cursor)

abbrev pub held_cursors_code : Coded HeldCursors
held_cursors_code = numbered_code (names_code cursor.the_row.coded)

-- the cursors of a session; none where nothing is kept of it
unfoldable pub held_of : HeldCursors → ℕ → Names Cursor
held_of held session = unwrap_or (maps.get held session) maps.empty

-- one session has other cursors
unfoldable pub held_at : ℕ → Names Cursor → (ℕ → Names Cursor) → ℕ → Names Cursor
held_at session cursors old = λ other. if nat_eq other session then cursors else old other

-- the oldest version of them, or the version `most` where it is older; `most` where there is none
pub record IsOldest (held : ℕ → Names Cursor) (most oldest : ℕ) : Type 0 where
  pub within : oldest ≤ most
  pub below : (session : ℕ) (name : Name) (cursor : Cursor) → maps.get (held session) name ≡ Some cursor → oldest ≤ cursor.version
  pub greatest : (bound : ℕ) → bound ≤ most
      → ((session : ℕ) (name : Name) (cursor : Cursor) → maps.get (held session) name ≡ Some cursor → bound ≤ cursor.version) → bound ≤ oldest

-- ---- the lines that are left

-- the lines of its version from its place on: those of the routes from there on, less those that were given of the first of them
abbrev pub lines_left : (ℕ → SeenVersion) → Cursor → List RowText
lines_left versions one = drop one.place.given (lines_seen (versions one.version) one.plan one.method (drop one.place.route (maps.entries (versions one.version).routes)))

-- the machine's cursors, where each has these lines left
unfoldable pub cursors_by : (Cursor → List RowText) → HeldCursors → ℕ → Cursors
cursors_by lines held session = map_values lines (held_of held session)
