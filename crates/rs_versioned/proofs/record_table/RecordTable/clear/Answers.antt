-- No cells are left, and so no records.
use Rattle.std.proofs.Common.{[]}
use Rattle.std.proofs.lemmas.Result.{on_ok_weaker}
use Rattle.rs_tree.specs.Forms.{form}
use Rattle.rs_cell_versions.specs.Versioned.{ChangesCells}
use Rattle.rs_versioned.specs.Kinds.{kept_as}
use Rattle.rs_versioned.proofs.Changing.{is_cleared}
use Rattle.rs_versioned.proofs.InTables.{in_table, kept_in_table}
use Rattle.rs_versioned.proofs.record_table.RecordTable.clear.Goals as goal

pub returns-clause-clears : goal.returns-clause-clears
returns-clause-clears g c = λ tied.
    let kind = g.K.RecordKind in
    let summary = g.K.Summary.Summary in
    let d = c.self.inside in
    let table = c.args.self.now in
    let laws = kept_in_table summary kind d.kind d.versions table c.self.invariant c.self.view_is in
    let here = in_table summary kind d.kind d.versions table c.self.invariant c.self.view_is in
    let old = (g.P.Pages.store c.args.pages.now).map in
    let new = (g.P.Pages.store c.clear.new.pages).map in
    let is = c.clear.new.self.working in
    on_ok_weaker c.clear.result
    (λ changes. is_cleared (kept_as summary kind table.types) laws old new table.working is (here (λ width working. ChangesCells (form summary width) old new working is (λ _. [])) changes))
    (c.clear.ensures.clears tied)
