-- The cell comes to the place where it belongs.
use Rattle.rs_records.specs.Records.{records}
use Rattle.rs_tree.specs.Form.{joined}
use Rattle.rs_tree_insert.proofs.Cells.{one_record}
use Rattle.rs_tree_insert.proofs.Halves.{if_ok}
use Rattle.rs_tree_insert.proofs.Here.{here_puts}
use Rattle.rs_tree_insert.proofs.path.insert_here.Goals as goal

pub returns-clause-puts : goal.returns-clause-puts
returns-clause-puts g c = λ tied page there spot.
    if_ok c.put_records.result (c.put_records.ensures.puts tied page there) (λ answer puts.
    here_puts (λ bytes cells. g.S.Summary.says bytes (joined g.S.Summary.unit g.S.Summary.join g.S.Summary.of cells)) c.args.layout (g.P.Pages.store c.args.pages.now).map c.args.place.number c.args.place.count c.args.place.at page c.args.cell.now
    spot.node there spot.place spot.none (g.P.Pages.store c.put_records.new.pages).map answer (records 1 c.args.layout.width c.args.cell.now) (one_record c.args.layout.width c.args.cell.now c.requires.width) puts)
