-- The table has no cells left, and then each index in turn no entries.
use Rattle.std.proofs.Common.{[], refl, slice_index_or, arith}
use Rattle.std.proofs.lemmas.Result.{err_from_is_err_and}
use Rattle.rs_attr.specs.Entries.{HoldsNoIndex}
use Rattle.rs_attr.specs.Tables.{HoldsNoTable}
use Rattle.rs_attr.proofs.Tabled.{cells_become, cells_move, no_table, no_table_before, together}
use Rattle.rs_attr.proofs.Together.{kept_next, missing_at, partly_at, partly_done, partly_none, rootless_next, wide_at}
use Rattle.rs_interval.specs.Finding.{event_form}
use Rattle.rs_page_owners.proofs.Working.{CountsNothing-refl, CountsNothing-trans, Works-refl, Works-trans}
use Rattle.rs_page_owners.proofs.Following.{works_err}
use Rattle.rs_versioned.specs.Events.{Event, event_width}
use Rattle.rs_versioned.specs.Records.{HasNone}
use Rattle.rs_cell_versions.specs.Versioned.{HoldsNone}
use Rattle.rs_attr.proofs.table.clear.Goals as goal

pub returns-in_err-clear-clause-leaves : goal.returns-in_err-clear-clause-leaves
returns-in_err-clear-clause-leaves g c =
    let types = c.args.table.now.types in
    let old = (g.P.Pages.store c.args.pages.now).map in
    let p = err_from_is_err_and c.from_residual.result c.from_residual.ensures.1 in
    record {
      keeps = c.in_err-clear.ensures.leaves.keeps;
      works = rw (p.1, p.2) (works_err (g.P.Pages.is_tied c.args.pages.now → HoldsNoTable types old c.args.table.now.working c.args.indexes.now)
          (g.P.Pages.is_tied c.args.pages.now → HoldsNone (event_form (event_width types)) old c.args.table.now.working) c.in_err-clear.field-0.0
          (g.P.Pages.store c.args.pages.now) (g.P.Pages.store c.args.pages.now) (g.P.Pages.store c.clear.new.pages) (Works-refl (g.P.Pages.store c.args.pages.now)) (CountsNothing-refl (g.P.Pages.store c.args.pages.now))
          (λ none tied. no_table types old c.args.table.now.working c.args.indexes.now (none tied)) c.in_err-clear.ensures.leaves.works);
    }

pub loop-place-init : goal.loop-place-init
loop-place-init g c = record {
  keeps = g.met.P.Pages.keeps_refl c.clear.new.pages;
  works = Works-refl (g.P.Pages.store c.clear.new.pages);
  nothing = CountsNothing-refl (g.P.Pages.store c.clear.new.pages);
  kept = refl;
  roots = tt;
  cleared = λ tied. partly_none (g.P.Pages.store c.clear.new.pages).map c.args.indexes.now (event_width c.args.table.now.types) (λ _. []);
}

pub returns-in_err-clear-2-clause-leaves : goal.returns-in_err-clear-2-clause-leaves
returns-in_err-clear-2-clause-leaves g c =
    let types = c.args.table.now.types in
    let was = c.args.table.now.working in
    let first = g.P.Pages.store c.args.pages.now in
    let begun = g.P.Pages.store c.clear.new.pages in
    let last = g.P.Pages.store c.loop-place.pages in
    let all = c.loop-place.indexes in
    let place = c.loop-place.place in
    let other = c.index-indexes-place.result in
    let wide = wide_at (event_width types) c.args.indexes.now all place other (omega arith) c.loop-place.invariant.kept c.requires.indexes in
    let p = err_from_is_err_and c.from_residual-in_err-clear-2.result c.from_residual-in_err-clear-2.ensures.1 in
    record {
      keeps = g.met.P.Pages.keeps_trans c.args.pages.now c.clear.new.pages c.clear-in-loop-place.new.pages c.in_ok-clear.ensures.leaves.keeps
          (g.met.P.Pages.keeps_trans c.clear.new.pages c.loop-place.pages c.clear-in-loop-place.new.pages c.loop-place.invariant.keeps c.in_err-clear-2.ensures.leaves.keeps);
      works = rw (p.1, p.2) (works_err (g.P.Pages.is_tied c.args.pages.now → HoldsNoTable types first.map was c.args.indexes.now)
          (g.P.Pages.is_tied c.loop-place.pages → HoldsNoIndex (slice_index_or all place other).field last.map (slice_index_or all place other).working) c.in_err-clear-2.field-0.0
          first last (g.P.Pages.store c.clear-in-loop-place.new.pages)
          (Works-trans first begun last c.in_ok-clear.ensures.leaves.works.works c.loop-place.invariant.works)
          (CountsNothing-trans first begun last c.in_ok-clear.ensures.leaves.works.ends c.loop-place.invariant.nothing)
          (λ none tied.
          let tied_begun = g.met.P.Pages.keeps_tied c.args.pages.now c.clear.new.pages c.in_ok-clear.ensures.leaves.keeps tied in
          let tied_last = g.met.P.Pages.keeps_tied c.clear.new.pages c.loop-place.pages c.loop-place.invariant.keeps tied_begun in
          no_table_before types first.map was c.args.indexes.now begun.map
          (cells_move types first.map begun.map was c.clear.new.self.working (λ _. []) (c.in_ok-clear.ensures.clears tied).cells)
          (missing_at begun.map last.map c.args.indexes.now all place other (event_width types) (λ _. []) (omega arith) wide (c.loop-place.invariant.cleared tied_begun) (none tied_last)))
          c.in_err-clear-2.ensures.leaves.works);
    }

pub loop-place-preserved : goal.loop-place-preserved
loop-place-preserved g c =
    let types = c.args.table.now.types in
    let begun = g.P.Pages.store c.clear.new.pages in
    let last = g.P.Pages.store c.loop-place.pages in
    let now = g.P.Pages.store c.clear-in-loop-place.new.pages in
    let all = c.loop-place.indexes in
    let place = c.loop-place.place in
    let other = c.index-indexes-place.result in
    let wide = wide_at (event_width types) c.args.indexes.now all place other (omega arith) c.loop-place.invariant.kept c.requires.indexes in
    record {
      keeps = g.met.P.Pages.keeps_trans c.clear.new.pages c.loop-place.pages c.clear-in-loop-place.new.pages c.loop-place.invariant.keeps c.in_ok-clear-2.ensures.leaves.keeps;
      works = Works-trans begun last now c.loop-place.invariant.works c.in_ok-clear-2.ensures.leaves.works.works;
      nothing = CountsNothing-trans begun last now c.loop-place.invariant.nothing c.in_ok-clear-2.ensures.leaves.works.ends;
      kept = kept_next c.args.indexes.now all place c.clear-in-loop-place.new.self other (omega arith) c.in_ok-clear-2.ensures.index.field c.in_ok-clear-2.ensures.index.committed c.loop-place.invariant.kept;
      roots = rootless_next all place c.clear-in-loop-place.new.self (omega arith) c.in_ok-clear-2.ensures.empty c.loop-place.invariant.roots;
      cleared = λ tied. partly_at begun.map last.map c.args.indexes.now all place other (event_width types) (λ _. []) (omega arith) wide (c.loop-place.invariant.cleared tied) now.map c.clear-in-loop-place.new.self c.in_ok-clear-2.ensures.index.field
          (c.in_ok-clear-2.ensures.cleared (g.met.P.Pages.keeps_tied c.clear.new.pages c.loop-place.pages c.loop-place.invariant.keeps tied));
    }

pub returns-clause-clears : goal.returns-clause-clears
returns-clause-clears g c = λ tied accepted.
    let types = c.args.table.now.types in
    let was = c.args.table.now.working in
    let is = c.clear.new.self.working in
    let old = (g.P.Pages.store c.args.pages.now).map in
    let mid = (g.P.Pages.store c.clear.new.pages).map in
    let new = (g.P.Pages.store c.loop-place.pages).map in
    together types old was c.args.indexes.now mid new is c.loop-place.indexes accepted accepted (HasNone {R = Event}) (λ _. [])
    ((c.in_ok-clear.ensures.clears tied).changes accepted)
    (cells_become types old mid was is accepted (λ _. []) (c.in_ok-clear.ensures.clears tied).cells)
    (partly_done mid new c.args.indexes.now c.loop-place.indexes c.loop-place.place (event_width types) (λ _. []) (omega arith)
    (c.loop-place.invariant.cleared (g.met.P.Pages.keeps_tied c.args.pages.now c.clear.new.pages c.in_ok-clear.ensures.leaves.keeps tied)))
