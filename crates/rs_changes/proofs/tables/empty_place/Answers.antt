-- One table among the others is emptied.
use Rattle.std.proofs.Common.{refl, arith}
use Rattle.std.specs.Vec.{with_item}
use Rattle.rs_attr.specs.Tables.{HoldsNoTable}
use Rattle.rs_file.specs.declared.opened.OpenedFile.{OpenedFile}
use Rattle.rs_file.specs.declared.opened.OpenedTable.{OpenedTable}
use Rattle.rs_file_parts.specs.Parts.{HoldsNoParts}
use Rattle.rs_change_laws.specs.Parts.{ChangesTableAt}
use Rattle.rs_changes.proofs.Commuting.{changes_table_at}
use Rattle.rs_changes.proofs.Next.{where_ok}
use Rattle.rs_file_parts.proofs.Made.{ChangesAt, makes_weaker}
use Rattle.rs_file_parts.proofs.Placed.{place_keeps, place_made, place_none, place_on_cells}
use Rattle.rs_page_owners.proofs.Working.{works_of}
use Rattle.rs_versioned.specs.Events.{Event}
use Rattle.rs_versioned.specs.Records.{HasNone}
use Rattle.rs_changes.proofs.tables.empty_place.Goals as goal

pub empty_table-requires-clause-indexes : goal.empty_table-requires-clause-indexes
empty_table-requires-clause-indexes g c = place_on_cells c.args.file.now c.args.place c.index_mut.result.now c.requires.place c.index_mut.ensures.value c.requires.ready

pub returns-clause-leaves : goal.returns-clause-leaves
returns-clause-leaves g c =
    let was = c.args.file.now in
    let one = c.index_mut.result.now in
    let old = g.P.Pages.store c.args.pages.now in
    record {
      keeps = c.empty_table.ensures.leaves.keeps;
      works = works_of (g.P.Pages.is_tied c.args.pages.now → HoldsNoTable one.records.types old.map one.records.working one.indexes.items) (g.P.Pages.is_tied c.args.pages.now → HoldsNoParts old.map was) c.empty_table.result
          old (g.P.Pages.store c.empty_table.new.pages) (λ none tied. place_none was c.args.place one c.requires.place c.index_mut.ensures.value old.map (none tied)) c.empty_table.ensures.leaves.works;
    }

pub returns-clause-makes : goal.returns-clause-makes
returns-clause-makes g c = λ tied.
    let was : OpenedFile = c.args.file.now in
    let one : OpenedTable = c.index_mut.result.now in
    let now : OpenedTable = c.empty_table.new.table in
    let is : OpenedFile = record was { tables = with_item was.tables c.args.place now } in
    let old = (g.P.Pages.store c.args.pages.now).map in
    let new = (g.P.Pages.store c.empty_table.new.pages).map in
    where_ok c.empty_table.result (c.empty_table.ensures.clears tied) (λ clears accepted.
    makes_weaker (ChangesAt one.records.types c.args.place (HasNone {R = Event})) (ChangesTableAt c.args.place (HasNone {R = Event})) (changes_table_at one.records.types c.args.place (HasNone {R = Event})) old new was is accepted accepted
    (place_made was c.args.place one c.requires.place c.index_mut.ensures.value now c.empty_table.ensures.table old new is accepted accepted (HasNone {R = Event}) refl refl refl refl (omega arith) (clears accepted)))

pub returns-clause-keeps : goal.returns-clause-keeps
returns-clause-keeps g c = record {
  definitions = refl;
  pages = refl;
  accepted = refl;
  tables = place_keeps c.args.file.now c.args.place c.index_mut.result.now c.requires.place c.index_mut.ensures.value c.empty_table.new.table c.empty_table.ensures.table;
  referents = refl;
}
