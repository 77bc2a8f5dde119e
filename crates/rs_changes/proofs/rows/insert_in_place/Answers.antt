-- The table at its place changes.
use Rattle.std.proofs.Common.{◌+◌, ℕ, min, refl, arith}
use Rattle.std.proofs.lemmas.Result.{IfOk-weaker}
use Rattle.std.specs.Vec.{with_item}
use Rattle.rs_changes.specs.InPlace.{MakesAt}
use Rattle.rs_facts.specs.Spans.{seen}
use Rattle.rs_file.specs.declared.opened.OpenedFile.{OpenedFile}
use Rattle.rs_file.specs.declared.opened.OpenedTable.{OpenedTable}
use Rattle.rs_file_parts.proofs.Placed.{place_keeps, place_on_cells}
use Rattle.rs_table_changes.specs.Changes.{Inserted, Inserts}
use Rattle.rs_table_changes.specs.declared.moment.Moment.{Moment}
use Rattle.rs_changes.proofs.TablesPlaced.{garbage_placed, grows_placed, leaves_placed, made_placed, order_later, order_placed, tables_died}
use Rattle.rs_changes.proofs.rows.insert_in_place.Goals as goal

pub insert-requires-clause-may : goal.insert-requires-clause-may
insert-requires-clause-may g c = record {
  begun = c.requires.may.begun;
  indexes = place_on_cells c.args.file.now c.args.insertion.now.table c.index_mut.result.now c.requires.row.there c.index_mut.ensures.value c.requires.may.opened.ready;
  mortal = omega (arith, c.requires.may.room);
  order = order_placed c.args.file.now c.args.insertion.now.table c.index_mut.result.now c.requires.row.there c.index_mut.ensures.value c.requires.may.opened.order;
}

pub returns-clause-leaves : goal.returns-clause-leaves
returns-clause-leaves g c =
    leaves_placed c.args.file.now c.args.insertion.now.table c.index_mut.result.now c.requires.row.there c.index_mut.ensures.value g.P.Pages (c.args.file.now.accepted + 1) c.insert.result
    c.args.pages.now c.insert.new.pages (omega arith) c.insert.ensures.leaves

pub returns-clause-inserts : goal.returns-clause-inserts
returns-clause-inserts g c = λ tied.
    let was : OpenedFile = c.args.file.now in
    let place : ℕ = c.args.insertion.now.table in
    let one : OpenedTable = c.index_mut.result.now in
    let now : OpenedTable = c.insert.new.table in
    let is : OpenedFile = record was { tables = with_item was.tables place now } in
    let old = (g.P.Pages.store c.args.pages.now).map in
    let new = (g.P.Pages.store c.insert.new.pages).map in
    let version : ℕ = was.accepted + 1 in
    let level : ℕ = min c.args.oldest version in
    let moment : Moment = record { version = version; oldest = c.args.oldest } in
    IfOk-weaker c.insert.result (Inserted old new one now moment c.args.insertion.now.kind c.args.insertion.now.route (seen c.args.insertion.now.span))
    (λ count. MakesAt old new was is place level (Inserts c.args.insertion.now.kind was.accepted version c.args.insertion.now.route (seen c.args.insertion.now.span) count))
    (λ count did. made_placed was place one c.requires.row.there c.index_mut.ensures.value now c.insert.ensures.keeps.table old new is level (Inserts c.args.insertion.now.kind was.accepted version c.args.insertion.now.route (seen c.args.insertion.now.span) count) refl refl refl refl
    (did was.accepted (omega arith)))
    (c.insert.ensures.inserts tied)

pub returns-clause-keeps : goal.returns-clause-keeps
returns-clause-keeps g c = record {
  definitions = refl;
  pages = refl;
  accepted = refl;
  tables = place_keeps c.args.file.now c.args.insertion.now.table c.index_mut.result.now c.requires.row.there c.index_mut.ensures.value c.insert.new.table c.insert.ensures.keeps.table;
  referents = refl;
}

pub returns-clause-order : goal.returns-clause-order
returns-clause-order g c = record {
  tables = tables_died c.args.file.now c.args.insertion.now.table c.index_mut.result.now c.requires.row.there c.index_mut.ensures.value c.insert.new.table c.insert.ensures.keeps.table
      c.requires.may.opened.order c.insert.ensures.keeps.order;
  referents = (order_later c.args.file.now.accepted (c.args.file.now.accepted + 1) c.args.file.now (omega arith) c.requires.may.opened.order).referents;
}

pub returns-clause-more : goal.returns-clause-more
returns-clause-more g c = garbage_placed c.args.file.now c.args.insertion.now.table c.index_mut.result.now c.requires.row.there c.index_mut.ensures.value c.insert.new.table c.insert.ensures.keeps.more

pub returns-clause-grows : goal.returns-clause-grows
returns-clause-grows g c =
    let is : OpenedFile = record c.args.file.now { tables = with_item c.args.file.now.tables c.args.insertion.now.table c.insert.new.table } in
    grows_placed c.args.file.now c.args.insertion.now.table c.index_mut.result.now c.requires.row.there c.index_mut.ensures.value c.insert.new.table is refl refl
