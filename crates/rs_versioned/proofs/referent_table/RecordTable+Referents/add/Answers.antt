-- The referent of the cell that was made has come.
use Rattle.std.proofs.Common.{◌-◌, ◌^◌, rules}
use Rattle.std.proofs.lemmas.Bool.{eq-eqb}
use Rattle.std.proofs.lemmas.Result.{IfOk-weaker}
use Rattle.rs_cell_versions.specs.Version.{died_of}
use Rattle.rs_versioned.specs.Calls.{IsAdded}
use Rattle.rs_versioned.specs.Referents.{ReferentRecord, SaysReferent, kept_referents, record_of}
use Rattle.rs_versioned.proofs.KeptReferents.{referents_are_kept}
use Rattle.rs_versioned.proofs.ReferentCells.{referent_wide}
use Rattle.rs_versioned.proofs.referent_table.RecordTable+Referents.add.Goals as goal

pub add_cell-requires-clause-width : goal.add_cell-requires-clause-width
add_cell-requires-clause-width g c =
    let referent : ReferentRecord = record_of c.args.referent.now c.args.version in
    let says : SaysReferent c.deref.result.now referent = search rules in
    referent_wide c.deref.result.now referent says

pub add_cell-requires-clause-living : goal.add_cell-requires-clause-living
add_cell-requires-clause-living g c =
    let referent : ReferentRecord = record_of c.args.referent.now c.args.version in
    let says : SaysReferent c.deref.result.now referent = search rules in
    eq-eqb (died_of c.deref.result.now) (2 ^ 64 - 1) (referents_are_kept.died c.deref.result.now referent says)

pub returns-clause-adds : goal.returns-clause-adds
returns-clause-adds g c = λ tied.
    let referent : ReferentRecord = record_of c.args.referent.now c.args.version in
    let says : SaysReferent c.deref.result.now referent = search rules in
    let table = c.args.self.now in
    let now = c.add_cell.new.self in
    let old = (g.P.Pages.store c.args.pages.now).map in
    let new = (g.P.Pages.store c.add_cell.new.pages).map in
    IfOk-weaker c.add_cell.result
    (λ is_new. (one : ReferentRecord) → SaysReferent c.deref.result.now one → IsAdded kept_referents old new table.working now.working table now one is_new)
    (IsAdded kept_referents old new table.working now.working table now referent)
    (λ is_new all. all referent says)
    (c.add_cell.ensures.adds tied)
