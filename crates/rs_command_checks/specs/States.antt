-- The state of the reference machine for which what commands are checked against stands, whatever they are not checked against.
use Rattle.std.specs.Prelude.{ℕ, List}
use Rattle.rs_facts.specs.Runs.{Stretch}
use Rattle.rs_machine.specs.State.{RowText, State}
use Rattle.rs_catalog.specs.Definitions.{Rest, state_from}
use Rattle.rs_catalog.specs.Referents.{referents_on}
use Rattle.rs_cursor.specs.Held.{cursors_by}
use Rattle.rs_cursor.specs.declared.cursor.Cursor.{Cursor}
use Rattle.rs_command_checks.specs.declared.checks.Checks.{Checks}

-- what commands are not checked against: the spans of tables, by the tables' and the routes' numbers, and the lines that cursors have
-- still to give
pub record Unseen : Type 0 where
  pub spans : ℕ → ℕ → List Stretch
  pub lines : Cursor → List RowText

abbrev pub rest_by : Checks → Unseen → Rest
rest_by checks unseen = record { changes = checks.changes; cursors = cursors_by unseen.lines checks.cursors.now }

abbrev pub state_by : Checks → Unseen → State
state_by checks unseen = state_from checks.catalog.now (referents_on checks.referents.now) unseen.spans (rest_by checks unseen)
