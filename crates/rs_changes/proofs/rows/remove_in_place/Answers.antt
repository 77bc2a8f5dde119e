-- The table at its place changes.
use Rattle.std.proofs.Common.{◌+◌, ℕ, min, refl, subst, arith}
use Rattle.std.specs.Prelude.{Option}
use Rattle.std.specs.Option.{option_copied}
use Rattle.std.proofs.lemmas.Result.{IfOk-weaker}
use Rattle.std.specs.Vec.{with_item}
use Rattle.rs_attr.specs.Tables.{ChangesTable}
use Rattle.rs_changes.specs.InPlace.{MakesAt}
use Rattle.rs_facts.specs.declared.condition.Condition.{Condition}
use Rattle.rs_file.specs.declared.opened.OpenedFile.{OpenedFile}
use Rattle.rs_file.specs.declared.opened.OpenedTable.{OpenedTable}
use Rattle.rs_file_parts.proofs.Placed.{place_keeps, place_on_cells}
use Rattle.rs_table_changes.specs.Changes.{Removed, Removes, ThenCleared}
use Rattle.rs_table_changes.specs.declared.moment.Moment.{Moment}
use Rattle.rs_changes.proofs.TablesPlaced.{garbage_placed, grows_placed, leaves_placed, made_placed, order_later, order_placed, tables_died}
use Rattle.rs_changes.proofs.rows.remove_in_place.Goals as goal

pub remove-requires : goal.remove-requires
remove-requires g c = record {
  may = record {
    begun = c.requires.may.begun;
    indexes = place_on_cells c.args.file.now c.args.removal.now.table c.index_mut.result.now c.requires.place c.index_mut.ensures.value c.requires.may.opened.ready;
    mortal = omega (arith, c.requires.may.room);
    order = order_placed c.args.file.now c.args.removal.now.table c.index_mut.result.now c.requires.place c.index_mut.ensures.value c.requires.may.opened.order;
  };
}

pub returns-clause-leaves : goal.returns-clause-leaves
returns-clause-leaves g c =
    leaves_placed c.args.file.now c.args.removal.now.table c.index_mut.result.now c.requires.place c.index_mut.ensures.value g.P.Pages (c.args.file.now.accepted + 1) c.remove.result
    c.args.pages.now c.remove.new.pages (omega arith) c.remove.ensures.leaves

pub returns-clause-removes : goal.returns-clause-removes
returns-clause-removes g c = λ tied.
    let was : OpenedFile = c.args.file.now in
    let place : ℕ = c.args.removal.now.table in
    let one : OpenedTable = c.index_mut.result.now in
    let now : OpenedTable = c.remove.new.table in
    let is : OpenedFile = record was { tables = with_item was.tables place now } in
    let old = (g.P.Pages.store c.args.pages.now).map in
    let new = (g.P.Pages.store c.remove.new.pages).map in
    let version : ℕ = was.accepted + 1 in
    let level : ℕ = min c.args.oldest version in
    let moment : Moment = record { version = version; oldest = c.args.oldest } in
    IfOk-weaker c.remove.result (Removed old new one now moment c.args.removal.now.route c.args.removal.now.lo c.args.removal.now.hi (option_copied c.as_ref-goes.result))
    (λ count. MakesAt old new was is place level (Removes was.accepted version c.args.removal.now.route c.args.removal.now.lo c.args.removal.now.hi c.args.removal.now.goes count))
    (λ count did. made_placed was place one c.requires.place c.index_mut.ensures.value now c.remove.ensures.keeps.table old new is level (Removes was.accepted version c.args.removal.now.route c.args.removal.now.lo c.args.removal.now.hi c.args.removal.now.goes count) refl refl refl refl
    (subst (λ (goes : Option Condition). ChangesTable one.records.types old new one.records.working now.records.working one.indexes.items now.indexes.items was.accepted version
    (ThenCleared level one.records.types (Removes was.accepted version c.args.removal.now.route c.args.removal.now.lo c.args.removal.now.hi goes count))) c.as_ref-goes.ensures.value (did was.accepted (omega arith))))
    (c.remove.ensures.removes tied)

pub returns-clause-keeps : goal.returns-clause-keeps
returns-clause-keeps g c = record {
  definitions = refl;
  pages = refl;
  accepted = refl;
  tables = place_keeps c.args.file.now c.args.removal.now.table c.index_mut.result.now c.requires.place c.index_mut.ensures.value c.remove.new.table c.remove.ensures.keeps.table;
  referents = refl;
}

pub returns-clause-order : goal.returns-clause-order
returns-clause-order g c = record {
  tables = tables_died c.args.file.now c.args.removal.now.table c.index_mut.result.now c.requires.place c.index_mut.ensures.value c.remove.new.table c.remove.ensures.keeps.table
      c.requires.may.opened.order c.remove.ensures.keeps.order;
  referents = (order_later c.args.file.now.accepted (c.args.file.now.accepted + 1) c.args.file.now (omega arith) c.requires.may.opened.order).referents;
}

pub returns-clause-more : goal.returns-clause-more
returns-clause-more g c = garbage_placed c.args.file.now c.args.removal.now.table c.index_mut.result.now c.requires.place c.index_mut.ensures.value c.remove.new.table c.remove.ensures.keeps.more

pub returns-clause-grows : goal.returns-clause-grows
returns-clause-grows g c =
    let is : OpenedFile = record c.args.file.now { tables = with_item c.args.file.now.tables c.args.removal.now.table c.remove.new.table } in
    grows_placed c.args.file.now c.args.removal.now.table c.index_mut.result.now c.requires.place c.index_mut.ensures.value c.remove.new.table is refl refl
