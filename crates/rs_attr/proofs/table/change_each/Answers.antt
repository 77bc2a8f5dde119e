-- Each index in turn.
use Rattle.std.proofs.Common.{refl, sym, length, slice_index_or, arith}
use Rattle.std.proofs.lemmas.Result.{err_from_is_err_and}
use Rattle.rs_attr.specs.Entries.{HoldsNoIndex}
use Rattle.rs_attr.specs.Inner.{HoldNoIndexes, changed}
use Rattle.rs_attr.proofs.Together.{kept_next, missing_at, partly_at, partly_done, partly_none, wide_at}
use Rattle.rs_page_owners.proofs.Working.{CountsNothing-refl, CountsNothing-trans, Works-refl, Works-trans}
use Rattle.rs_page_owners.proofs.Following.{works_err}
use Rattle.rs_attr.proofs.table.change_each.Goals as goal

pub loop-place-init : goal.loop-place-init
loop-place-init g c = record {
  keeps = g.met.P.Pages.keeps_refl c.args.pages.now;
  works = Works-refl (g.P.Pages.store c.args.pages.now);
  nothing = CountsNothing-refl (g.P.Pages.store c.args.pages.now);
  kept = refl;
  changed = λ tied. partly_none (g.P.Pages.store c.args.pages.now).map c.args.indexes.now (length c.args.cell.now) (changed c.args.change c.args.cell.now);
}

pub change-requires-clause-width : goal.change-requires-clause-width
change-requires-clause-width g c =
    sym (wide_at (length c.args.cell.now) c.args.indexes.now c.loop-place.indexes c.loop-place.place c.index-indexes-place.result (omega arith) c.loop-place.invariant.kept c.requires.width)

pub returns-in_err-change-clause-leaves : goal.returns-in_err-change-clause-leaves
returns-in_err-change-clause-leaves g c =
    let old = (g.P.Pages.store c.args.pages.now).map in
    let mid = (g.P.Pages.store c.loop-place.pages).map in
    let all = c.loop-place.indexes in
    let place = c.loop-place.place in
    let other = c.index-indexes-place.result in
    let width = length c.args.cell.now in
    let wide = wide_at width c.args.indexes.now all place other (omega arith) c.loop-place.invariant.kept c.requires.width in
    let p = err_from_is_err_and c.from_residual.result c.from_residual.ensures.1 in
    record {
      keeps = g.met.P.Pages.keeps_trans c.args.pages.now c.loop-place.pages c.change.new.pages c.loop-place.invariant.keeps c.in_err-change.ensures.leaves.keeps;
      works = rw (p.1, p.2) (works_err (g.P.Pages.is_tied c.args.pages.now → HoldNoIndexes old c.args.indexes.now width)
          (g.P.Pages.is_tied c.loop-place.pages → HoldsNoIndex (slice_index_or all place other).field mid (slice_index_or all place other).working) c.in_err-change.field-0.0
          (g.P.Pages.store c.args.pages.now) (g.P.Pages.store c.loop-place.pages) (g.P.Pages.store c.change.new.pages) c.loop-place.invariant.works c.loop-place.invariant.nothing
          (λ none tied. missing_at old mid c.args.indexes.now all place other width (changed c.args.change c.args.cell.now) (omega arith) wide (c.loop-place.invariant.changed tied)
          (none (g.met.P.Pages.keeps_tied c.args.pages.now c.loop-place.pages c.loop-place.invariant.keeps tied)))
          c.in_err-change.ensures.leaves.works);
    }

pub loop-place-preserved : goal.loop-place-preserved
loop-place-preserved g c =
    let old = (g.P.Pages.store c.args.pages.now).map in
    let mid = (g.P.Pages.store c.loop-place.pages).map in
    let new = (g.P.Pages.store c.change.new.pages).map in
    let all = c.loop-place.indexes in
    let place = c.loop-place.place in
    let other = c.index-indexes-place.result in
    let width = length c.args.cell.now in
    let wide = wide_at width c.args.indexes.now all place other (omega arith) c.loop-place.invariant.kept c.requires.width in
    record {
      keeps = g.met.P.Pages.keeps_trans c.args.pages.now c.loop-place.pages c.change.new.pages c.loop-place.invariant.keeps c.in_ok-change.ensures.leaves.keeps;
      works = Works-trans (g.P.Pages.store c.args.pages.now) (g.P.Pages.store c.loop-place.pages) (g.P.Pages.store c.change.new.pages) c.loop-place.invariant.works c.in_ok-change.ensures.leaves.works.works;
      nothing = CountsNothing-trans (g.P.Pages.store c.args.pages.now) (g.P.Pages.store c.loop-place.pages) (g.P.Pages.store c.change.new.pages) c.loop-place.invariant.nothing c.in_ok-change.ensures.leaves.works.ends;
      kept = kept_next c.args.indexes.now all place c.change.new.self other (omega arith) c.in_ok-change.ensures.index.field c.in_ok-change.ensures.index.committed c.loop-place.invariant.kept;
      changed = λ tied. partly_at old mid c.args.indexes.now all place other width (changed c.args.change c.args.cell.now) (omega arith) wide (c.loop-place.invariant.changed tied) new c.change.new.self c.in_ok-change.ensures.index.field
          (c.in_ok-change.ensures.changed (g.met.P.Pages.keeps_tied c.args.pages.now c.loop-place.pages c.loop-place.invariant.keeps tied));
    }

pub returns-clause-changed : goal.returns-clause-changed
returns-clause-changed g c = λ tied.
    let old = (g.P.Pages.store c.args.pages.now).map in
    let new = (g.P.Pages.store c.loop-place.pages).map in
    partly_done old new c.args.indexes.now c.loop-place.indexes c.loop-place.place (length c.args.cell.now) (changed c.args.change c.args.cell.now) (omega arith) (c.loop-place.invariant.changed tied)
