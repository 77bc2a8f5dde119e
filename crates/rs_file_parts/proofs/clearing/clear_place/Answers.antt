-- One table among the others.
use Rattle.std.proofs.Common.{◌+◌, ℕ, refl}
use Rattle.std.proofs.lemmas.Result.{IfOk-weaker}
use Rattle.std.specs.Vec.{with_item}
use Rattle.rs_attr.specs.Tables.{HoldsNoTable}
use Rattle.rs_cell_versions.specs.Version.{HaveDiedBy}
use Rattle.rs_file.specs.declared.opened.OpenedFile.{OpenedFile}
use Rattle.rs_file.specs.declared.opened.OpenedTable.{OpenedTable}
use Rattle.rs_file_parts.specs.Inner.{ClearsOpened, ClearsPlaces}
use Rattle.rs_file_parts.specs.Parts.{HoldsNoParts, Makes}
use Rattle.rs_file_parts.proofs.Placed.{place_all, place_cleared, place_keeps, place_none, place_on_cells}
use Rattle.rs_page_owners.proofs.Working.{works_of}
use Rattle.rs_file_parts.proofs.clearing.clear_place.Goals as goal

pub clear_table-requires-clause-indexes : goal.clear_table-requires-clause-indexes
clear_table-requires-clause-indexes g c = place_on_cells c.args.file.now c.args.place c.index_mut.result.now c.requires.place c.index_mut.ensures.value c.requires.ready

pub returns-clause-leaves : goal.returns-clause-leaves
returns-clause-leaves g c =
    let was = c.args.file.now in
    let one = c.index_mut.result.now in
    let old = g.P.Pages.store c.args.pages.now in
    record {
      keeps = c.clear_table.ensures.leaves.keeps;
      works = works_of (g.P.Pages.is_tied c.args.pages.now → HoldsNoTable one.records.types old.map one.records.working one.indexes.items) (g.P.Pages.is_tied c.args.pages.now → HoldsNoParts old.map was) c.clear_table.result
          old (g.P.Pages.store c.clear_table.new.pages) (λ none tied. place_none was c.args.place one c.requires.place c.index_mut.ensures.value old.map (none tied)) c.clear_table.ensures.leaves.works;
    }

pub returns-clause-clears : goal.returns-clause-clears
returns-clause-clears g c = λ tied.
    let was : OpenedFile = c.args.file.now in
    let one : OpenedTable = c.index_mut.result.now in
    let now : OpenedTable = c.clear_table.new.table in
    let is : OpenedFile = record was { tables = with_item was.tables c.args.place now } in
    let old = (g.P.Pages.store c.args.pages.now).map in
    let new = (g.P.Pages.store c.clear_table.new.pages).map in
    IfOk-weaker c.clear_table.result (ClearsOpened old new one now c.args.oldest c.args.most)
    (λ gone. (accepted : ℕ) → Makes old new was is accepted accepted (ClearsPlaces c.args.oldest c.args.most gone c.args.place (c.args.place + 1)))
    (λ gone clears accepted. place_cleared was c.args.place one c.requires.place c.index_mut.ensures.value now c.clear_table.ensures.table old new is c.args.oldest c.args.most gone refl refl refl refl clears accepted)
    (c.clear_table.ensures.clears tied)

pub returns-clause-keeps : goal.returns-clause-keeps
returns-clause-keeps g c = record {
  definitions = refl;
  pages = refl;
  accepted = refl;
  tables = place_keeps c.args.file.now c.args.place c.index_mut.result.now c.requires.place c.index_mut.ensures.value c.clear_table.new.table c.clear_table.ensures.table;
  referents = refl;
}

pub returns-clause-order : goal.returns-clause-order
returns-clause-order g c = λ version have. record {
  tables = place_all c.args.file.now c.args.place c.index_mut.result.now c.requires.place c.index_mut.ensures.value c.clear_table.new.table c.clear_table.ensures.table
      (λ (table : OpenedTable). HaveDiedBy version table.records.working.dead) (c.clear_table.ensures.order version) have.tables;
  referents = have.referents;
}
