-- The cell of the event comes into the table and its indexes.
use Rattle.std.proofs.Common.{◌≡◌, ◌-◌, ◌^◌, ℕ, List, length, subst, sym, refl, ap, ◌∙◌, rules}
use Rattle.std.proofs.lemmas.Bool.{eq-eqb, false≢true}
use Rattle.std.proofs.lemmas.Result.{err_from_is_err_and}
use Rattle.rs_attr.specs.Inner.{ChangeIndexes, HoldNoIndexes}
use Rattle.rs_attr.specs.Tables.{HoldsNoTable}
use Rattle.rs_attr.proofs.Tabled.{cells_become, cells_move, cells_stay, indexes_stay, no_table, no_table_before, together}
use Rattle.rs_attr.proofs.Together.{AreOf}
use Rattle.rs_interval.specs.Finding.{event_form}
use Rattle.rs_tree.specs.Cells.{with_cell}
use Rattle.rs_page_owners.proofs.Working.{CountsNothing-refl, Works-refl}
use Rattle.rs_page_owners.proofs.Following.{works_err}
use Rattle.rs_versioned.specs.Events.{Event, SaysEvent, event_of, event_width}
use Rattle.rs_versioned.specs.Records.{HasOneMore}
use Rattle.rs_versioned.specs.Tables.{EventTableState}
use Rattle.rs_versioned.proofs.EventCells.{event_wide}
use Rattle.rs_versioned.proofs.KeptRecords.{events_are_kept}
use Rattle.rs_cell_versions.specs.Version.{died_of}
use Rattle.rs_cell_versions.specs.Versioned.{HoldsNone}
use Rattle.rs_attr.proofs.table.add.Goals as goal
use Rattle.rs_attr.proofs.table.add.Goals.{then-new+in_ok-change_each, else-new}

pub returns-in_err-new-clause-leaves : goal.returns-in_err-new-clause-leaves
returns-in_err-new-clause-leaves g c =
    let types = c.args.table.now.types in
    let old = (g.P.Pages.store c.args.pages.now).map in
    let p = err_from_is_err_and c.from_residual-in_err-new.result c.from_residual-in_err-new.ensures.1 in
    record {
      keeps = c.in_err-new.ensures.leaves.keeps;
      works = rw (p.1, p.2) (works_err (g.P.Pages.is_tied c.args.pages.now → HoldsNoTable types old c.args.table.now.working c.args.indexes.now)
          (g.P.Pages.is_tied c.args.pages.now → HoldsNone (event_form (event_width types)) old c.args.table.now.working) c.in_err-new.field-0.0
          (g.P.Pages.store c.args.pages.now) (g.P.Pages.store c.args.pages.now) (g.P.Pages.store c.add_cell.new.pages) (Works-refl (g.P.Pages.store c.args.pages.now)) (CountsNothing-refl (g.P.Pages.store c.args.pages.now))
          (λ none tied. no_table types old c.args.table.now.working c.args.indexes.now (none tied)) c.in_err-new.ensures.leaves.works);
    }

pub add_cell-requires-clause-width : goal.add_cell-requires-clause-width
add_cell-requires-clause-width g c =
    let event : Event = event_of c.args.route c.args.span.now c.args.version in
    let says : SaysEvent c.args.table.now.types c.in_ok-cell.cell.items event = search rules in
    ap length c.deref.ensures.value ∙ event_wide c.args.table.now.types c.in_ok-cell.cell.items event says

pub add_cell-requires-clause-living : goal.add_cell-requires-clause-living
add_cell-requires-clause-living g c =
    let event : Event = event_of c.args.route c.args.span.now c.args.version in
    let says : SaysEvent c.args.table.now.types c.in_ok-cell.cell.items event = search rules in
    eq-eqb (died_of c.deref.result.now) (2 ^ 64 - 1) (ap died_of c.deref.ensures.value ∙ (events_are_kept c.args.table.now.types).died c.in_ok-cell.cell.items event says)

pub change_each-requires-clause-width : goal.change_each-requires-clause-width
change_each-requires-clause-width g c =
    let event : Event = event_of c.args.route c.args.span.now c.args.version in
    let says : SaysEvent c.args.table.now.types c.in_ok-cell.cell.items event = search rules in
    let wide : length c.deref-then-new.result.now ≡ event_width c.args.table.now.types = ap length c.deref-then-new.ensures.value ∙ event_wide c.args.table.now.types c.in_ok-cell.cell.items event says in
    subst (λ (n : ℕ). AreOf n c.args.indexes.now) (sym wide) c.requires.indexes

pub returns-in_err-change_each-clause-leaves : goal.returns-in_err-change_each-clause-leaves
returns-in_err-change_each-clause-leaves g c =
    let types = c.args.table.now.types in
    let was = c.args.table.now.working in
    let old = (g.P.Pages.store c.args.pages.now).map in
    let mid = (g.P.Pages.store c.add_cell.new.pages).map in
    let cell = c.deref-then-new.result.now in
    let event : Event = event_of c.args.route c.args.span.now c.args.version in
    let made : SaysEvent types c.in_ok-cell.cell.items event = search rules in
    let says : SaysEvent types cell event = subst (λ (x : List ℕ). SaysEvent types x event) (sym c.deref-then-new.ensures.value) made in
    let first : SaysEvent types c.deref.result.now event = subst (λ (x : List ℕ). SaysEvent types x event) (sym c.deref.ensures.value) made in
    let wide : length cell ≡ event_width types = event_wide types cell event says in
    let p = err_from_is_err_and c.from_residual-in_err-change_each.result c.from_residual-in_err-change_each.ensures.1 in
    record {
      keeps = g.met.P.Pages.keeps_trans c.args.pages.now c.add_cell.new.pages c.change_each.new.pages c.in_ok-new.ensures.leaves.keeps c.in_err-change_each.ensures.leaves.keeps;
      works = rw (p.1, p.2) (works_err (g.P.Pages.is_tied c.args.pages.now → HoldsNoTable types old was c.args.indexes.now)
          (g.P.Pages.is_tied c.add_cell.new.pages → HoldNoIndexes mid c.args.indexes.now (length cell)) c.in_err-change_each.field-0.0
          (g.P.Pages.store c.args.pages.now) (g.P.Pages.store c.add_cell.new.pages) (g.P.Pages.store c.change_each.new.pages) c.in_ok-new.ensures.leaves.works.works c.in_ok-new.ensures.leaves.works.ends
          (λ none tied. no_table_before types old was c.args.indexes.now mid
          (cells_move types old mid was c.add_cell.new.self.working (with_cell cell) ((c.in_ok-new.ensures.adds tied event first).cells cell says))
          (subst (HoldNoIndexes mid c.args.indexes.now) wide (none (g.met.P.Pages.keeps_tied c.args.pages.now c.add_cell.new.pages c.in_ok-new.ensures.leaves.keeps tied))))
          c.in_err-change_each.ensures.leaves.works);
    }

pub returns-clause-adds : goal.returns-clause-adds
returns-clause-adds g c = λ tied.
    let types = c.args.table.now.types in
    let was = c.args.table.now.working in
    let is = c.add_cell.new.self.working in
    let old = (g.P.Pages.store c.args.pages.now).map in
    let mid = (g.P.Pages.store c.add_cell.new.pages).map in
    let version = c.args.version in
    let event : Event = event_of c.args.route c.args.span.now version in
    let made : SaysEvent types c.in_ok-cell.cell.items event = search rules in
    let first : SaysEvent types c.deref.result.now event = subst (λ (x : List ℕ). SaysEvent types x event) (sym c.deref.ensures.value) made in
    let added = c.in_ok-new.ensures.adds tied event first in
    elim c.if-new.branch [
      | then-new+in_ok-change_each w ↦
          let new = (g.P.Pages.store w.change_each.new.pages).map in
          let cell = w.deref-then-new.result.now in
          let says : SaysEvent types cell event = subst (λ (x : List ℕ). SaysEvent types x event) (sym w.deref-then-new.ensures.value) made in
          rw (w.pages-is, w.indexes-is) (record {
            changes = λ accepted later. together types old was c.args.indexes.now mid new is w.change_each.new.indexes accepted version (HasOneMore event) (with_cell cell)
                (added.changes accepted later) (cells_become types old mid was is accepted (with_cell cell) (added.cells cell says))
                (subst (λ (n : ℕ). ChangeIndexes mid new c.args.indexes.now w.change_each.new.indexes n (with_cell cell)) (event_wide types cell event says)
                (w.in_ok-change_each.ensures.changed (g.met.P.Pages.keeps_tied c.args.pages.now c.add_cell.new.pages c.in_ok-new.ensures.leaves.keeps tied)));
            tells = added.tells;
            rests = λ isnt. absurd (false≢true (sym isnt ∙ w.if-new.true));
          })
      | else-new w ↦
          let same = added.rests w.if-new.false in
          rw (w.pages-is, w.indexes-is) (record {
            changes = λ accepted later. together types old was c.args.indexes.now mid mid is c.args.indexes.now accepted version (HasOneMore event) (λ cells. cells)
                (added.changes accepted later) (cells_stay types old mid was is accepted same.0 (ap (λ (t : EventTableState). t.working) same.1)) (indexes_stay (event_width types) mid c.args.indexes.now);
            tells = added.tells;
            rests = λ isnt. (same.0, same.1, refl);
          })
    ]
