-- The cells that are cleared leave the table and its indexes.
use Rattle.std.proofs.Common.{◌≡◌, ◌+◌, ℕ, suc, List, take, length, subst, sym, refl, ap, ◌∙◌, arith}
use Rattle.std.proofs.lemmas.List.{take_all}
use Rattle.std.proofs.lemmas.Result.{err_from_is_err_and}
use Rattle.rs_attr.specs.Inner.{ChangeIndexes, HoldNoIndexes}
use Rattle.rs_attr.specs.Tables.{HoldsNoTable}
use Rattle.rs_attr.proofs.Tabled.{become_as, cells_become, cells_move, change_as, changes_then, indexes_stay, no_table, no_table_before, none_before, together, without_all_are, without_last}
use Rattle.rs_attr.proofs.Together.{AreOf, still_of}
use Rattle.rs_interval.specs.Finding.{event_form}
use Rattle.rs_records.specs.Listed.{listed}
use Rattle.rs_tree.specs.Cells.{without_cell}
use Rattle.rs_tree.proofs.Lists.{take_next}
use Rattle.rs_page_owners.proofs.Working.{CountsNothing-refl, CountsNothing-trans, Works-refl, Works-trans}
use Rattle.rs_page_owners.proofs.Following.{works_err}
use Rattle.rs_versioned.specs.Events.{event_width, kept_events}
use Rattle.rs_versioned.specs.Records.{HasCleared}
use Rattle.rs_versioned.proofs.CellsWide.{cell_wide}
use Rattle.rs_cell_versions.specs.Changes.{cleared, without_cells}
use Rattle.rs_cell_versions.specs.Versioned.{HoldsNone}
use Rattle.rs_attr.proofs.table.vacuum.Goals as goal

pub returns-in_err-taken-clause-leaves : goal.returns-in_err-taken-clause-leaves
returns-in_err-taken-clause-leaves g c =
    let types = c.args.table.now.types in
    let old = (g.P.Pages.store c.args.pages.now).map in
    let p = err_from_is_err_and c.from_residual.result c.from_residual.ensures.1 in
    record {
      keeps = c.in_err-taken.ensures.leaves.keeps;
      works = rw (p.1, p.2) (works_err (g.P.Pages.is_tied c.args.pages.now → HoldsNoTable types old c.args.table.now.working c.args.indexes.now)
          (g.P.Pages.is_tied c.args.pages.now → HoldsNone (event_form (event_width types)) old c.args.table.now.working) c.in_err-taken.field-0.0
          (g.P.Pages.store c.args.pages.now) (g.P.Pages.store c.args.pages.now) (g.P.Pages.store c.vacuum.new.pages) (Works-refl (g.P.Pages.store c.args.pages.now)) (CountsNothing-refl (g.P.Pages.store c.args.pages.now))
          (λ none tied. no_table types old c.args.table.now.working c.args.indexes.now (none tied)) c.in_err-taken.ensures.leaves.works);
    }

pub loop-place-init : goal.loop-place-init
loop-place-init g c = record {
  keeps = g.met.P.Pages.keeps_refl c.vacuum.new.pages;
  works = Works-refl (g.P.Pages.store c.vacuum.new.pages);
  nothing = CountsNothing-refl (g.P.Pages.store c.vacuum.new.pages);
  kept = refl;
  taken = λ tied. indexes_stay (event_width c.args.table.now.types) (g.P.Pages.store c.vacuum.new.pages).map c.args.indexes.now;
}

pub change_each-requires-clause-width : goal.change_each-requires-clause-width
change_each-requires-clause-width g c =
    let wide : length c.get.result.now ≡ event_width c.args.table.now.types = cell_wide c.in_ok-taken.taken c.loop-place.place c.get.result.now c.get.ensures ∙ c.in_ok-taken.ensures.takes.width in
    subst (λ (n : ℕ). AreOf n c.loop-place.indexes) (sym wide) (still_of (event_width c.args.table.now.types) c.args.indexes.now c.loop-place.indexes c.loop-place.invariant.kept c.requires.indexes)

pub returns-in_err-change_each-clause-leaves : goal.returns-in_err-change_each-clause-leaves
returns-in_err-change_each-clause-leaves g c =
    let types = c.args.table.now.types in
    let was = c.args.table.now.working in
    let first = g.P.Pages.store c.args.pages.now in
    let begun = g.P.Pages.store c.vacuum.new.pages in
    let last = g.P.Pages.store c.loop-place.pages in
    let cell = c.get.result.now in
    let gone = take c.loop-place.place (listed c.in_ok-taken.taken) in
    let wide : length cell ≡ event_width types = cell_wide c.in_ok-taken.taken c.loop-place.place cell c.get.ensures ∙ c.in_ok-taken.ensures.takes.width in
    let p = err_from_is_err_and c.from_residual-in_err-change_each.result c.from_residual-in_err-change_each.ensures.1 in
    record {
      keeps = g.met.P.Pages.keeps_trans c.args.pages.now c.vacuum.new.pages c.change_each.new.pages c.in_ok-taken.ensures.leaves.keeps
          (g.met.P.Pages.keeps_trans c.vacuum.new.pages c.loop-place.pages c.change_each.new.pages c.loop-place.invariant.keeps c.in_err-change_each.ensures.leaves.keeps);
      works = rw (p.1, p.2) (works_err (g.P.Pages.is_tied c.args.pages.now → HoldsNoTable types first.map was c.args.indexes.now)
          (g.P.Pages.is_tied c.loop-place.pages → HoldNoIndexes last.map c.loop-place.indexes (length cell)) c.in_err-change_each.field-0.0
          first last (g.P.Pages.store c.change_each.new.pages)
          (Works-trans first begun last c.in_ok-taken.ensures.leaves.works.works c.loop-place.invariant.works)
          (CountsNothing-trans first begun last c.in_ok-taken.ensures.leaves.works.ends c.loop-place.invariant.nothing)
          (λ none tied.
          let tied_begun = g.met.P.Pages.keeps_tied c.args.pages.now c.vacuum.new.pages c.in_ok-taken.ensures.leaves.keeps tied in
          let tied_last = g.met.P.Pages.keeps_tied c.vacuum.new.pages c.loop-place.pages c.loop-place.invariant.keeps tied_begun in
          no_table_before types first.map was c.args.indexes.now begun.map
          (cells_move types first.map begun.map was c.vacuum.new.self.working (without_cells (cleared c.args.oldest c.args.most was.dead)) (c.in_ok-taken.ensures.vacuums tied).cells)
          (none_before (event_width types) begun.map last.map c.args.indexes.now c.loop-place.indexes (without_cells gone) (without_all_are (event_width types) gone) (c.loop-place.invariant.taken tied_begun)
          (subst (HoldNoIndexes last.map c.loop-place.indexes) wide (none tied_last))))
          c.in_err-change_each.ensures.leaves.works);
    }

pub returns-in_err-change_each-clause-table : goal.returns-in_err-change_each-clause-table
returns-in_err-change_each-clause-table g c = record {
  types = c.in_ok-taken.ensures.table.types;
  committed = c.in_ok-taken.ensures.table.committed;
  kept = c.in_err-change_each.ensures.kept ∙ c.loop-place.invariant.kept;
}

pub loop-place-preserved : goal.loop-place-preserved
loop-place-preserved g c =
    let types = c.args.table.now.types in
    let begun = g.P.Pages.store c.vacuum.new.pages in
    let last = g.P.Pages.store c.loop-place.pages in
    let now = g.P.Pages.store c.change_each.new.pages in
    let cell = c.get.result.now in
    let all = listed c.in_ok-taken.taken in
    let place = c.loop-place.place in
    let next : suc place ≡ place + 1 = omega arith in
    let wide : length cell ≡ event_width types = cell_wide c.in_ok-taken.taken place cell c.get.ensures ∙ c.in_ok-taken.ensures.takes.width in
    record {
      keeps = g.met.P.Pages.keeps_trans c.vacuum.new.pages c.loop-place.pages c.change_each.new.pages c.loop-place.invariant.keeps c.in_ok-change_each.ensures.leaves.keeps;
      works = Works-trans begun last now c.loop-place.invariant.works c.in_ok-change_each.ensures.leaves.works.works;
      nothing = CountsNothing-trans begun last now c.loop-place.invariant.nothing c.in_ok-change_each.ensures.leaves.works.ends;
      kept = c.in_ok-change_each.ensures.kept ∙ c.loop-place.invariant.kept;
      taken = λ tied.
          change_as begun.map now.map c.args.indexes.now c.change_each.new.indexes (event_width types) (λ cells. without_cell cell (without_cells (take place all) cells)) (without_cells (take (place + 1) all))
          (λ cells. without_last (take place all) cell cells ∙ ap (λ (gone : List (List ℕ)). without_cells gone cells) (sym (take_next all place cell c.get.ensures) ∙ ap (λ (n : ℕ). take n all) next))
          (changes_then (event_width types) begun.map last.map c.args.indexes.now c.loop-place.indexes (without_cells (take place all)) (without_all_are (event_width types) (take place all)) (c.loop-place.invariant.taken tied)
          now.map c.change_each.new.indexes (without_cell cell)
          (subst (λ (n : ℕ). ChangeIndexes last.map now.map c.loop-place.indexes c.change_each.new.indexes n (without_cell cell)) wide
          (c.in_ok-change_each.ensures.changed (g.met.P.Pages.keeps_tied c.vacuum.new.pages c.loop-place.pages c.loop-place.invariant.keeps tied))));
    }

pub returns-clause-leaves : goal.returns-clause-leaves
returns-clause-leaves g c =
    let first = g.P.Pages.store c.args.pages.now in
    let begun = g.P.Pages.store c.vacuum.new.pages in
    let last = g.P.Pages.store c.loop-place.pages in
    record {
      keeps = g.met.P.Pages.keeps_trans c.args.pages.now c.vacuum.new.pages c.loop-place.pages c.in_ok-taken.ensures.leaves.keeps c.loop-place.invariant.keeps;
      works = record {
        works = Works-trans first begun last c.in_ok-taken.ensures.leaves.works.works c.loop-place.invariant.works;
        ends = CountsNothing-trans first begun last c.in_ok-taken.ensures.leaves.works.ends c.loop-place.invariant.nothing;
      };
    }

pub returns-clause-vacuums : goal.returns-clause-vacuums
returns-clause-vacuums g c = λ tied.
    let types = c.args.table.now.types in
    let was = c.args.table.now.working in
    let is = c.vacuum.new.self.working in
    let old = (g.P.Pages.store c.args.pages.now).map in
    let mid = (g.P.Pages.store c.vacuum.new.pages).map in
    let new = (g.P.Pages.store c.loop-place.pages).map in
    let all = listed c.in_ok-taken.taken in
    let some = take c.loop-place.place all in
    let whole : some ≡ all = take_all c.loop-place.place all (omega (arith, c.len-place-end.ensures)) in
    let gone : cleared c.args.oldest c.args.most was.dead ≡ some = sym (whole ∙ c.in_ok-taken.ensures.takes.cells) in
    record {
      changes = λ accepted.
          together types old was c.args.indexes.now mid new is c.loop-place.indexes accepted accepted (HasCleared (kept_events types) c.args.oldest all) (without_cells some)
          ((c.in_ok-taken.ensures.vacuums tied).changes accepted)
          (become_as types old mid was is accepted (without_cells (cleared c.args.oldest c.args.most was.dead)) (without_cells some) (λ cells. ap (λ (xs : List (List ℕ)). without_cells xs cells) gone)
          (cells_become types old mid was is accepted (without_cells (cleared c.args.oldest c.args.most was.dead)) (c.in_ok-taken.ensures.vacuums tied).cells))
          (c.loop-place.invariant.taken (g.met.P.Pages.keeps_tied c.args.pages.now c.vacuum.new.pages c.in_ok-taken.ensures.leaves.keeps tied));
      as_many = (c.in_ok-taken.ensures.vacuums tied).as_many;
    }

pub returns-clause-table : goal.returns-clause-table
returns-clause-table g c = record {
  types = c.in_ok-taken.ensures.table.types;
  committed = c.in_ok-taken.ensures.table.committed;
  kept = c.loop-place.invariant.kept;
}
