-- The record of the cell has come as the cell has.
use Rattle.std.proofs.Common.{◌-◌, ◌^◌, sym, ap, ◌∙◌}
use Rattle.std.proofs.lemmas.Bool.{eqb-true}
use Rattle.std.proofs.lemmas.Result.{IfOk-weaker}
use Rattle.rs_tree.specs.Cells.{with_cell}
use Rattle.rs_tree.specs.Forms.{form}
use Rattle.rs_cell_versions.specs.Calls as cells
use Rattle.rs_cell_versions.specs.Version.{died_of}
use Rattle.rs_cell_versions.specs.Versioned.{ChangesCells}
use Rattle.rs_versioned.specs.Calls.{IsAdded}
use Rattle.rs_versioned.specs.Kinds.{kept_as}
use Rattle.rs_versioned.proofs.Changing.{is_added}
use Rattle.rs_versioned.proofs.InTables.{in_table, kept_in_table, table_of}
use Rattle.rs_versioned.proofs.record_table.RecordTable.add_cell.Goals as goal

pub returns-clause-adds : goal.returns-clause-adds
returns-clause-adds g c = λ tied.
    let kind = g.K.RecordKind in
    let summary = g.K.Summary.Summary in
    let d = c.self.inside in
    let table = c.args.self.now in
    let laws = kept_in_table summary kind d.kind d.versions table c.self.invariant c.self.view_is in
    let here = in_table summary kind d.kind d.versions table c.self.invariant c.self.view_is in
    let old = (g.P.Pages.store c.args.pages.now).map in
    let new = (g.P.Pages.store c.add.new.pages).map in
    let is = c.add.new.self.working in
    let now = table_of d.kind c.add.new.self in
    let cell = c.args.cell.now in
    IfOk-weaker c.add.result (cells.IsAdded (form summary d.versions.width) old new d.versions c.add.new.self cell)
    (λ is_new. (one : kind.Record) → kind.says table.types cell one → IsAdded (kept_as summary kind table.types) old new table.working is table now one is_new)
    (λ is_new added one says.
    is_added (kept_as summary kind table.types) laws old new table.working is table now cell one is_new says (sym (laws.died cell one says) ∙ eqb-true (died_of cell) (2 ^ 64 - 1) c.requires.living)
    (here (λ width working. ChangesCells (form summary width) old new working is (with_cell cell)) added.changes)
    (here (λ width working. cells.TellsNew (form summary width) old working cell is_new) added.tells)
    (λ isnt. ((added.rests isnt).0, ap (table_of d.kind) (added.rests isnt).1 ∙ c.self.view_is)))
    (c.add.ensures.adds tied)
