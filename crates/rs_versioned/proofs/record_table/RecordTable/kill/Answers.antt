-- The record of the cell ends as the cell does.
use Rattle.std.proofs.lemmas.Result.{IfOk-weaker}
use Rattle.rs_tree.specs.Forms.{form}
use Rattle.rs_cell_versions.specs.Calls as cells
use Rattle.rs_cell_versions.specs.Changes.{Ends}
use Rattle.rs_cell_versions.specs.Version.{HaveDiedBy}
use Rattle.rs_versioned.specs.Calls.{IsEnded}
use Rattle.rs_versioned.specs.Kinds.{kept_as}
use Rattle.rs_versioned.proofs.Changing.{is_ended}
use Rattle.rs_versioned.proofs.InTables.{from_table, in_table, kept_in_table}
use Rattle.rs_versioned.proofs.record_table.RecordTable.kill.Goals as goal

pub returns-clause-kills : goal.returns-clause-kills
returns-clause-kills g c = λ tied.
    let kind = g.K.RecordKind in
    let summary = g.K.Summary.Summary in
    let d = c.self.inside in
    let table = c.args.self.now in
    let laws = kept_in_table summary kind d.kind d.versions table c.self.invariant c.self.view_is in
    let here = in_table summary kind d.kind d.versions table c.self.invariant c.self.view_is in
    let old = (g.P.Pages.store c.args.pages.now).map in
    let new = (g.P.Pages.store c.kill.new.pages).map in
    let is = c.kill.new.self.working in
    let version = c.args.version in
    let cell = c.args.cell.now in
    IfOk-weaker c.kill.result (cells.IsEnded (form summary d.versions.width) old new d.versions c.kill.new.self version cell)
    (IsEnded (kept_as summary kind table.types) old new table.working is version cell)
    (λ found ended. is_ended (kept_as summary kind table.types) laws old new table.working is version cell found c.requires.version
    (here (λ width working. Ends (form summary width) old new working is version cell) ended.ends)
    (here (λ width working. cells.TellsOf (form summary width) old working cell found) ended.tells))
    (c.kill.ensures.kills tied)

pub returns-clause-order : goal.returns-clause-order
returns-clause-order g c = λ last later before.
    c.kill.ensures.order last later
    (from_table g.K.Summary.Summary g.K.RecordKind c.self.inside.kind c.self.inside.versions c.args.self.now c.self.invariant c.self.view_is (λ working. HaveDiedBy last working.dead) before)
