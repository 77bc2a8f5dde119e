-- It says one exactly where its row is one.
use Rattle.rs_versioned.proofs.CellParts.{says_where_row_said}
use Rattle.rs_versioned.proofs.event.says_event.Goals as goal

pub returns : goal.returns
returns c =
    says_where_row_said c.args.schema.now.items c.row_width-end.result c.args.cell.now c.row_width-end.ensures c.requires.width
    c.says_row.result (λ i. (c.type_inv.cell i).fits) c.says_row.ensures
