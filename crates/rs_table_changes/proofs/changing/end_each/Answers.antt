-- One cell after the other.
use Rattle.std.proofs.Common.{◌≡◌, ◌∙◌, [], ◌∷◌, take, refl, sym, ap, subst, arith}
use Rattle.std.proofs.lemmas.List.{take_all}
use Rattle.std.proofs.lemmas.Result.{err_from_is_err_and}
use Rattle.rs_attr.proofs.Roots.{still_on}
use Rattle.rs_attr.specs.Tables.{AreOn, ChangesTable}
use Rattle.rs_page_owners.proofs.Following.{works_err}
use Rattle.rs_page_owners.proofs.Working.{CountsNothing-refl, CountsNothing-trans, Works-refl, Works-trans}
use Rattle.rs_pages.proofs.Stores.{SamePages-refl}
use Rattle.rs_records.specs.Listed.{listed}
use Rattle.rs_versioned.specs.Events.{Event, SaysEvent, event_width, kept_events}
use Rattle.rs_versioned.specs.Records.{HasEnded}
use Rattle.rs_versioned.proofs.CellsWide.{cell_wide}
use Rattle.rs_table_changes.specs.Inner.{Ended, HoldsNoTableWith}
use Rattle.rs_table_changes.proofs.Tables.{ended_next, ended_none, none_with}
use Rattle.rs_table_changes.proofs.changing.end_each.Goals as goal

pub loop-place-init : goal.loop-place-init
loop-place-init g c =
    let table = c.args.table.now in
    let first = g.P.Pages.store c.args.pages.now in
    record {
      keeps = g.met.P.Pages.keeps_refl c.args.pages.now;
      works = Works-refl first;
      nothing = CountsNothing-refl first;
      table = record { types = refl; committed = refl; kept = refl };
      order = c.requires.may.order;
      more = omega arith;
      ended = λ tied gone say. ended_none table.records.types c.args.version c.args.at first.map table.records.working table.indexes.items gone say (SamePages-refl first.map);
    }

pub end_one-requires-clause-width : goal.end_one-requires-clause-width
end_one-requires-clause-width g c =
    cell_wide c.args.cells.now c.loop-place.place c.get.result.now c.get.ensures ∙ c.requires.width ∙ ap event_width (sym c.loop-place.invariant.table.types)

pub end_one-requires-clause-may : goal.end_one-requires-clause-may
end_one-requires-clause-may g c = record {
  begun = c.loop-place.invariant.works.counts.begun ∙ c.requires.may.begun;
  indexes = subst (λ types. AreOn types c.loop-place.table.indexes.items) (sym c.loop-place.invariant.table.types)
      (still_on c.args.table.now.records.types c.args.table.now.indexes.items c.loop-place.table.indexes.items c.loop-place.invariant.table.kept c.requires.may.indexes);
  mortal = c.requires.may.mortal;
  order = c.loop-place.invariant.order;
}

pub returns-in_err-end_one-clause-leaves : goal.returns-in_err-end_one-clause-leaves
returns-in_err-end_one-clause-leaves g c =
    let was = c.args.table.now in
    let next = c.loop-place.table in
    let first = g.P.Pages.store c.args.pages.now in
    let last = g.P.Pages.store c.loop-place.pages in
    let cells = listed c.args.cells.now in
    let cell = c.get.result.now in
    let p = err_from_is_err_and c.from_residual.result c.from_residual.ensures.1 in
    record {
      keeps = g.met.P.Pages.keeps_trans c.args.pages.now c.loop-place.pages c.end_one.new.pages c.loop-place.invariant.keeps c.in_err-end_one.ensures.leaves.keeps;
      works = rw (p.1, p.2) (works_err (g.P.Pages.is_tied c.args.pages.now → HoldsNoTableWith c.args.version cells was.records.types first.map was.records.working was.indexes.items)
          (g.P.Pages.is_tied c.loop-place.pages → HoldsNoTableWith c.args.version (cell ∷ []) next.records.types last.map next.records.working next.indexes.items) c.in_err-end_one.field-0.0
          first last (g.P.Pages.store c.end_one.new.pages) c.loop-place.invariant.works c.loop-place.invariant.nothing
          (λ none tied.
          none_with was.records.types c.args.version c.args.at first.map last.map last.map was.records.working next.records.working next.records.working was.indexes.items next.indexes.items next.indexes.items
          cells c.loop-place.place cell c.get.ensures (c.loop-place.invariant.ended tied)
          (subst (λ types. HoldsNoTableWith c.args.version (cell ∷ []) types last.map next.records.working next.indexes.items) c.loop-place.invariant.table.types
          (none (g.met.P.Pages.keeps_tied c.args.pages.now c.loop-place.pages c.loop-place.invariant.keeps tied))))
          c.in_err-end_one.ensures.leaves.works);
    }

pub returns-in_err-end_one-clause-keeps : goal.returns-in_err-end_one-clause-keeps
returns-in_err-end_one-clause-keeps g c = record {
  table = record {
    types = c.in_err-end_one.ensures.keeps.table.types ∙ c.loop-place.invariant.table.types;
    committed = c.in_err-end_one.ensures.keeps.table.committed ∙ c.loop-place.invariant.table.committed;
    kept = c.in_err-end_one.ensures.keeps.table.kept ∙ c.loop-place.invariant.table.kept;
  };
  order = c.in_err-end_one.ensures.keeps.order;
  more = omega (arith, c.in_err-end_one.ensures.keeps.more, c.loop-place.invariant.more);
}

pub loop-place-preserved : goal.loop-place-preserved
loop-place-preserved g c =
    let was = c.args.table.now in
    let next = c.loop-place.table in
    let is = c.end_one.new.table in
    let first = g.P.Pages.store c.args.pages.now in
    let last = g.P.Pages.store c.loop-place.pages in
    let now = g.P.Pages.store c.end_one.new.pages in
    let cells = listed c.args.cells.now in
    let cell = c.get.result.now in
    let version = c.args.version in
    let at = c.args.at in
    record {
      keeps = g.met.P.Pages.keeps_trans c.args.pages.now c.loop-place.pages c.end_one.new.pages c.loop-place.invariant.keeps c.in_ok-end_one.ensures.leaves.keeps;
      works = Works-trans first last now c.loop-place.invariant.works c.in_ok-end_one.ensures.leaves.works.works;
      nothing = CountsNothing-trans first last now c.loop-place.invariant.nothing c.in_ok-end_one.ensures.leaves.works.ends;
      table = record {
        types = c.in_ok-end_one.ensures.keeps.table.types ∙ c.loop-place.invariant.table.types;
        committed = c.in_ok-end_one.ensures.keeps.table.committed ∙ c.loop-place.invariant.table.committed;
        kept = c.in_ok-end_one.ensures.keeps.table.kept ∙ c.loop-place.invariant.table.kept;
      };
      order = c.in_ok-end_one.ensures.keeps.order;
      more = omega (arith, c.in_ok-end_one.ensures.keeps.more, c.loop-place.invariant.more);
      ended = λ tied.
          let step = c.in_ok-end_one.ensures.ended (g.met.P.Pages.keeps_tied c.args.pages.now c.loop-place.pages c.loop-place.invariant.keeps tied) in
          ended_next was.records.types version at first.map last.map now.map was.records.working next.records.working is.records.working was.indexes.items next.indexes.items is.indexes.items
          cells c.loop-place.place cell c.get.ensures (c.loop-place.invariant.ended tied)
          (subst (λ types. (one : Event) → SaysEvent types cell one → ChangesTable types last.map now.map next.records.working is.records.working next.indexes.items is.indexes.items version version (HasEnded (kept_events types) at one))
          c.loop-place.invariant.table.types step);
    }

pub returns-clause-leaves : goal.returns-clause-leaves
returns-clause-leaves g c = record {
  keeps = c.loop-place.invariant.keeps;
  works = record { works = c.loop-place.invariant.works; ends = c.loop-place.invariant.nothing };
}

pub returns-clause-ended : goal.returns-clause-ended
returns-clause-ended g c = λ tied.
    let cells = listed c.args.cells.now in
    let whole : take c.loop-place.place cells ≡ cells = take_all c.loop-place.place cells (omega (arith, c.len-place-end.ensures)) in
    subst (Ended (g.P.Pages.store c.args.pages.now).map (g.P.Pages.store c.loop-place.pages).map c.args.table.now c.loop-place.table c.args.version c.args.at) whole (c.loop-place.invariant.ended tied)

pub returns-clause-keeps : goal.returns-clause-keeps
returns-clause-keeps g c = record { table = c.loop-place.invariant.table; order = c.loop-place.invariant.order; more = c.loop-place.invariant.more }
