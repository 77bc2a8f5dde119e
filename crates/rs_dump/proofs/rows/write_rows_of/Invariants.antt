-- What is held was only read, and the lines so far and those that are left.
use Rattle.std.proofs.Common.{[], drop, map}
use Rattle.rs_dump.specs.Reads.{Reads}
use Rattle.rs_dump.specs.Sections.{route_seen, rows_of_table, table_seen}
use Rattle.rs_dump.specs.Shown.{Shown}
use Rattle.rs_dump.specs.Written.{AddedSome}
use Rattle.rs_dump.proofs.rows.write_rows_of.Given as goal

abbrev pub invariant-loop-route : goal.invariant-loop-route
invariant-loop-route g l = record {
  reads : Reads g.H.Held l.fn.held l.held;
  lines : (shown : Shown) → g.H.Held.shows l.fn.held shown
      → AddedSome [] (rows_of_table (table_seen l.table) (map route_seen l.routes) shown) (rows_of_table (table_seen l.table) (map route_seen (drop l.route-index l.routes)) shown) l.piece.items
      (g.W.Write.contents l.fn.output) (g.W.Write.contents l.output);
}
