-- What is lent of the cell in the place comes next.
use Rattle.std.proofs.Common.{arith}
use Rattle.rs_records.specs.Listed.{listed}
use Rattle.rs_versioned.proofs.CellsWide.{cell_wide}
use Rattle.rs_table_reads.proofs.Lends.{lends_next, row_lent, said_at}
use Rattle.rs_table_reads.proofs.event_cells.FoundEvents.span_at.Goals as goal

pub lent_within-requires : goal.lent_within-requires
lent_within-requires c = record {
  width = omega (arith, cell_wide c.args.self.now.cells c.args.place c.get.result.now c.get.ensures, c.args.self.now.wide);
}

pub returns-clause-lends : goal.returns-clause-lends
returns-clause-lends c events say =
    let found = c.args.self.now in
    lends_next found.schema.items found.window (listed found.cells) events c.args.place c.get.result.now c.lent_within.result say c.get.ensures (c.lent_within.ensures.lends found.schema.items)

pub returns-clause-row : goal.returns-clause-row
returns-clause-row c are =
    let found = c.args.self.now in
    let one = said_at found.schema.items (listed found.cells) c.args.place c.get.result.now are c.get.ensures in
    row_lent found.schema.items c.lent_within.result one.0 (c.lent_within.ensures.says found.schema.items one.0 one.1)
