use Rattle.std.proofs.Common.{◌≡◌, ◌+◌, ◌-◌, ◌≤◌, ◌++◌, vec_len}
use Rattle.std.specs.FinMap as names
use Rattle.std.specs.Prelude.{IfSome}
use Rattle.rs_answers.specs.Versions.{LiesOnRoutes, SeenVersion, lines_seen_on}
use Rattle.rs_cursor.proofs.NextLines.{lines_from}
use Rattle.rs_cursor.proofs.next_lines.lines_of_routes.Given as goal
use Rattle.rs_cursor.specs.Kept.{AreFormed, AreListed}
use Rattle.rs_exec.specs.Leaving.{LeavesBehind}
use Rattle.rs_serve.specs.ReplyView.{rows_of}

abbrev pub invariant-loop-place : goal.invariant-loop-place
invariant-loop-place g l = record {
  leaves : LeavesBehind g.V.Source l.fn.store l.store;
  few : vec_len l.lines ≤ l.wanted;
  parted : (shown : SeenVersion) → g.V.Versions.shows l.fn.store l.cursor.version shown → LiesOnRoutes shown l.cursor.plan → AreListed shown l.cursor.plan l.cursor.method l.routes l.fn.kept
      → lines_from (lines_seen_on shown l.cursor.plan l.cursor.method) (names.entries shown.routes) l.cursor.place
      ≡ rows_of l.lines.items ++ lines_from (lines_seen_on shown l.cursor.plan l.cursor.method) (names.entries shown.routes) l.place;
  keeps : (shown : SeenVersion) → g.V.Versions.shows l.fn.store l.cursor.version shown → LiesOnRoutes shown l.cursor.plan → AreListed shown l.cursor.plan l.cursor.method l.routes l.fn.kept
      → IfSome l.kept (AreFormed shown l.cursor.plan l.cursor.method);
}

abbrev pub decreases-loop-place : goal.decreases-loop-place
decreases-loop-place g l = (l.count - l.place.route) + (l.wanted - vec_len l.lines)
