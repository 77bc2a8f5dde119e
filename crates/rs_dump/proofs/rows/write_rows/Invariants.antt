-- What is held was only read, and the lines so far and those that are left.
use Rattle.std.proofs.Common.{drop, map}
use Rattle.rs_dump.specs.Reads.{Reads}
use Rattle.rs_dump.specs.Sections.{route_seen, row_commands, table_seen}
use Rattle.rs_dump.specs.Shown.{Shown}
use Rattle.rs_dump.specs.Written.{WroteSome}
use Rattle.rs_dump.proofs.rows.write_rows.Given as goal

abbrev pub invariant-loop-table : goal.invariant-loop-table
invariant-loop-table g l = record {
  reads : Reads g.H.Held l.fn.held l.held;
  lines : (shown : Shown) → g.H.Held.shows l.fn.held shown
      → WroteSome (row_commands (map table_seen l.tables) (map route_seen l.routes) shown) (row_commands (map table_seen (drop l.table-index l.tables)) (map route_seen l.routes) shown) (g.W.Write.contents l.fn.output) (g.W.Write.contents l.output);
}
