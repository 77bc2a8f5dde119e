-- What is kept of cursors: routes, and lines that were formed ahead.
use Rattle.std.specs.Prelude.{◌≡◌, ◌⊎◌, ℕ, [], Contains, Option, Some}
use Rattle.std.specs.FinMap as names
use Rattle.rs_answers.specs.Versions.{SeenVersion}
use Rattle.rs_cursor.specs.Held.{held_of}
use Rattle.rs_cursor.specs.Kept.{AreKept}
use Rattle.rs_cursor.specs.declared.cursor.Cursor.{Cursor}
use Rattle.rs_cursor.specs.declared.kept.KeptAhead.{KeptAhead}
use Rattle.rs_engine.specs.declared.engine.ahead.Ahead.{Ahead}
use Rattle.rs_engine.specs.declared.engine.ahead.LinesAhead.{LinesAhead}
use Rattle.rs_engine.specs.declared.engine.open.OpenCursors.{OpenCursors}
use Rattle.rs_facts.specs.Fact.{Name}
use Rattle.rs_methods.specs.declared.position.Method.{Method}
use Rattle.rs_plan.specs.declared.plan.Plan.{Plan}

-- this is kept of the cursor of this name of this session
abbrev pub IsOf : ℕ → Name → Ahead → Type 0
IsOf session name ahead = (ahead.session ≡ session) × (ahead.name.bytes ≡ name)

-- it is among what is kept, with its lines or with a mark alone
abbrev pub IsAmong : LinesAhead → Ahead → Type 0
IsAmong there one = Contains there.slots.items one ⊎ Contains there.marks.items one

abbrev pub IsEmpty : LinesAhead → Type 0
IsEmpty there = (there.slots.items ≡ []) × (there.marks.items ≡ [])

pub record IsAheadOf (session : ℕ) (name : Name) (there : LinesAhead) (kept : KeptAhead) : Type 0 where
  pub ahead : Ahead
  pub is : IsAmong there ahead
  pub of : IsOf session name ahead
  pub is_kept : kept ≡ ahead.kept

-- this is kept as that cursor's
pub record IsNewest (session : ℕ) (name : Name) (kept : Option KeptAhead) (ahead : Ahead) : Type 0 where
  pub of : IsOf session name ahead
  pub is_kept : kept ≡ Some ahead.kept

-- something else is kept of the same cursor, and what is so of it is so of this
pub record IsLessOf (there : LinesAhead) (ahead : Ahead) : Type 0 where
  pub more : Ahead
  pub is : IsAmong there more
  pub of : IsOf more.session more.name.bytes ahead
  pub kept : (seen : SeenVersion) (plan : Plan) (method : Method) → AreKept seen plan method more.kept → AreKept seen plan method ahead.kept

-- each cursor of which something is kept, where it is open, has these routes and lines at its version
pub record AreAhead (versions : ℕ → SeenVersion) (cursors : OpenCursors) : Type 0 where
  pub each : (ahead : Ahead) → IsAmong cursors.ahead ahead → (cursor : Cursor) → names.get (held_of cursors.held ahead.session) ahead.name.bytes ≡ Some cursor
      → AreKept (versions cursor.version) cursor.plan cursor.method ahead.kept
