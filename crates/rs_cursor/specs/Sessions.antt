-- Which numbers sessions have.
use Rattle.std.specs.Prelude.{ℕ, ◌<◌, IsTrue}
use Rattle.std.specs.FinMap as maps
use Rattle.rs_cursor.specs.Held.{HeldCursors}
use Rattle.rs_machine.specs.declared.limits.TheConstants.{SESSIONS}

-- something is kept of sessions alone
abbrev pub AreOfSessions : HeldCursors → Type 0
AreOfSessions held = (session : ℕ) → IsTrue (maps.contains_key held session) → session < SESSIONS
