-- The records of the cells that are cleared are gone.
use Rattle.std.proofs.Common.{◌≡◌}
use Rattle.std.proofs.lemmas.Result.{IfOk-weaker}
use Rattle.rs_records.specs.Listed.{listed, record_width}
use Rattle.rs_tree.specs.Forms.{form}
use Rattle.rs_cell_versions.specs.Calls as cells
use Rattle.rs_cell_versions.specs.Changes.{cleared, without_cells}
use Rattle.rs_cell_versions.specs.Versioned.{ChangesCells}
use Rattle.rs_versioned.specs.Calls.{IsVacuumed, TakesFirst}
use Rattle.rs_versioned.specs.Kinds.{kept_as}
use Rattle.rs_versioned.proofs.Answering.{if_ok_both}
use Rattle.rs_versioned.proofs.Changing.{is_vacuumed}
use Rattle.rs_versioned.proofs.InTables.{in_table, kept_in_table}
use Rattle.rs_versioned.proofs.record_table.RecordTable.vacuum.Goals as goal

pub returns-clause-vacuums : goal.returns-clause-vacuums
returns-clause-vacuums g c = λ tied.
    let kind = g.K.RecordKind in
    let summary = g.K.Summary.Summary in
    let d = c.self.inside in
    let table = c.args.self.now in
    let laws = kept_in_table summary kind d.kind d.versions table c.self.invariant c.self.view_is in
    let here = in_table summary kind d.kind d.versions table c.self.invariant c.self.view_is in
    let old = (g.P.Pages.store c.args.pages.now).map in
    let new = (g.P.Pages.store c.vacuum.new.pages).map in
    let is = c.vacuum.new.self.working in
    let oldest = c.args.oldest in
    let most = c.args.most in
    if_ok_both c.vacuum.result (cells.TakesFirst oldest most d.versions c.vacuum.new.self)
    (λ taken. ChangesCells (form summary d.versions.width) old new d.versions.working is (without_cells (cleared oldest most d.versions.working.dead)))
    (IsVacuumed (kept_as summary kind table.types) old new table.working is oldest most)
    (λ taken takes changes. is_vacuumed (kept_as summary kind table.types) laws old new table.working is oldest most taken
    (here (λ width working. listed taken ≡ cleared oldest most working.dead) takes.cells)
    (here (λ width working. ChangesCells (form summary width) old new working is (without_cells (cleared oldest most working.dead))) changes))
    c.vacuum.ensures.takes (c.vacuum.ensures.vacuums tied)

pub returns-clause-takes : goal.returns-clause-takes
returns-clause-takes g c =
    let kind = g.K.RecordKind in
    let d = c.self.inside in
    let table = c.args.self.now in
    let here = in_table g.K.Summary.Summary kind d.kind d.versions table c.self.invariant c.self.view_is in
    let oldest = c.args.oldest in
    let most = c.args.most in
    IfOk-weaker c.vacuum.result (cells.TakesFirst oldest most d.versions c.vacuum.new.self) (TakesFirst (kind.width table.types) oldest most table.working)
    (λ taken takes. record {
      cells = here (λ width working. listed taken ≡ cleared oldest most working.dead) takes.cells;
      width = here (λ width working. record_width taken ≡ width) takes.width;
    })
    c.vacuum.ensures.takes
