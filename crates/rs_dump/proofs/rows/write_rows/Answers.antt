-- One table after another.
use Rattle.std.proofs.Common.{◌≡◌, ◌+◌, List, [], ap, arith, drop, map, refl}
use Rattle.std.proofs.Math.ListN.{drop_of_length-le}
use Rattle.rs_dump.specs.Sections.{route_seen, row_commands, rows_of_table, table_seen}
use Rattle.rs_dump.specs.declared.held.NamedTable.{NamedTable}
use Rattle.rs_dump.proofs.Puts.{next_left}
use Rattle.rs_dump.proofs.Reading.{reads_joined, reads_nothing, stops_after}
use Rattle.rs_dump.proofs.Stops.{passed_on, stops_chunk}
use Rattle.rs_dump.proofs.Written.{wrote_all, wrote_chunk, wrote_first}
use Rattle.rs_dump.proofs.rows.write_rows.Goals as goal

pub loop-table-init : goal.loop-table-init
loop-table-init g c = record {
  reads = reads_nothing g.H.Held c.args.held.now;
  lines = λ shown shows.
      wrote_first (row_commands (map table_seen c.args.tables.now) (map route_seen c.args.routes.now) shown) (row_commands (map table_seen c.args.tables.now) (map route_seen c.args.routes.now) shown) (g.W.Write.contents c.args.output.now) refl;
}

pub returns-in_err-write_rows_of-clause-reads : goal.returns-in_err-write_rows_of-clause-reads
returns-in_err-write_rows_of-clause-reads g c =
    reads_joined g.H.Held c.args.held.now c.loop-table.held c.write_rows_of.new.held c.loop-table.invariant.reads c.write_rows_of.ensures.reads

pub loop-table-preserved : goal.loop-table-preserved
loop-table-preserved g c =
    let tables = c.args.tables.now in
    let routes = c.args.routes.now in
    let one = c.table-item.result in record {
      reads = reads_joined g.H.Held c.args.held.now c.loop-table.held c.write_rows_of.new.held c.loop-table.invariant.reads c.write_rows_of.ensures.reads;
      lines = λ shown shows.
          wrote_chunk (row_commands (map table_seen tables) (map route_seen routes) shown) (row_commands (map table_seen (drop c.loop-table.table-index tables)) (map route_seen routes) shown) (row_commands (map table_seen (drop (c.loop-table.table-index + 1) tables)) (map route_seen routes) shown)
          (rows_of_table (table_seen one) (map route_seen routes) shown) (g.W.Write.contents c.args.output.now) (g.W.Write.contents c.loop-table.output) (g.W.Write.contents c.write_rows_of.new.output)
          (ap (λ (l : List NamedTable). row_commands (map table_seen l) (map route_seen routes) shown) (next_left tables c.loop-table.table-index one c.loop-table-test.true c.table-item.is))
          (c.loop-table.invariant.lines shown shows) (c.in_ok-write_rows_of.ensures.lines shown (c.loop-table.invariant.reads.shows shown shows));
    }

pub returns-clause-lines : goal.returns-clause-lines
returns-clause-lines g c = λ shown shows.
    let tables = c.args.tables.now in
    let routes = c.args.routes.now in
    let none : drop c.loop-table.table-index tables ≡ [] = drop_of_length-le tables (omega (arith, c.loop-table-test.false)) in
    wrote_all (row_commands (map table_seen tables) (map route_seen routes) shown) (row_commands (map table_seen (drop c.loop-table.table-index tables)) (map route_seen routes) shown) (g.W.Write.contents c.args.output.now) (g.W.Write.contents c.loop-table.output)
    (c.loop-table.invariant.lines shown shows) (ap (λ (l : List NamedTable). row_commands (map table_seen l) (map route_seen routes) shown) none)

pub returns-in_err-write_rows_of-clause-lines : goal.returns-in_err-write_rows_of-clause-lines
returns-in_err-write_rows_of-clause-lines g c = λ shown shows.
    let tables = c.args.tables.now in
    let routes = c.args.routes.now in
    let one = c.table-item.result in
    let stop = c.in_err-write_rows_of.field-0.0 in
    passed_on c.from_residual.result stop _ _ c.from_residual.ensures.1
    (stops_chunk stop (row_commands (map table_seen tables) (map route_seen routes) shown) (row_commands (map table_seen (drop c.loop-table.table-index tables)) (map route_seen routes) shown) (row_commands (map table_seen (drop (c.loop-table.table-index + 1) tables)) (map route_seen routes) shown)
    (rows_of_table (table_seen one) (map route_seen routes) shown) (g.W.Write.contents c.args.output.now) (g.W.Write.contents c.loop-table.output) (g.W.Write.contents c.write_rows_of.new.output)
    (ap (λ (l : List NamedTable). row_commands (map table_seen l) (map route_seen routes) shown) (next_left tables c.loop-table.table-index one c.loop-table-test.true c.table-item.is))
    (c.loop-table.invariant.lines shown shows) (c.in_err-write_rows_of.ensures.lines shown (c.loop-table.invariant.reads.shows shown shows)))

pub returns-in_err-write_rows_of-clause-wants : goal.returns-in_err-write_rows_of-clause-wants
returns-in_err-write_rows_of-clause-wants g c =
    let stop = c.in_err-write_rows_of.field-0.0 in
    passed_on c.from_residual.result stop _ _ c.from_residual.ensures.1
    (stops_after g.H.Held g.met.H.Held.wants_later stop c.args.held.now c.loop-table.held c.write_rows_of.new.held c.loop-table.invariant.reads c.in_err-write_rows_of.ensures.wants)
