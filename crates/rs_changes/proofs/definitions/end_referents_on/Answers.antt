-- One cell after the other.
use Rattle.std.proofs.Common.{◌≤◌, ◌∙◌, length, refl, arith}
use Rattle.std.proofs.lemmas.Result.{err_from_is_err_and}
use Rattle.rs_changes.specs.Ending.{HoldsNoReferents, SaysNoLiving}
use Rattle.rs_page_owners.proofs.Following.{works_err}
use Rattle.rs_page_owners.proofs.Working.{CountsNothing-refl, CountsNothing-trans, Rests-works, Works-refl, Works-trans, rests-work}
use Rattle.rs_records.specs.Listed.{listed}
use Rattle.rs_changes.proofs.EndedReferents.{ends_all, ends_none, ends_one, none_said, reading_refused}
use Rattle.rs_versioned.proofs.CellsWide.{cell_wide}
use Rattle.rs_changes.proofs.definitions.end_referents_on.Goals as goal

pub returns-in_err-cells-clause-leaves : goal.returns-in_err-cells-clause-leaves
returns-in_err-cells-clause-leaves g c =
    let was = c.args.referents.now.working in
    let old = g.P.Pages.store c.args.pages.now in
    let new = g.P.Pages.store c.visible.new.pages in
    let tied = g.P.Pages.is_tied c.args.pages.now in
    let p = err_from_is_err_and c.from_residual.result c.from_residual.ensures.1 in
    let worked = rests-work g.P.Pages.is_tied g.P.Pages.store g.P.Pages.keeps (tied → HoldsNoReferents old.map was c.args.version) c.visible.result c.args.pages.now c.visible.new.pages c.visible.ensures.rests
    (rw c.in_err-cells.was (reading_refused tied c.in_err-cells.field-0.0 old new was c.args.version c.in_err-cells.ensures.refused)) in
    record {
      keeps = c.in_err-cells.ensures.rests.below;
      works = rw (p.1, p.2) (works_err (tied → HoldsNoReferents old.map was c.args.version) (tied → HoldsNoReferents old.map was c.args.version) c.in_err-cells.field-0.0 old old new
          (Works-refl old) (CountsNothing-refl old) (λ none. none) (rw c.in_err-cells.was at worked));
    }

pub loop-place-init : goal.loop-place-init
loop-place-init g c =
    let was = c.args.referents.now.working in
    let old = g.P.Pages.store c.args.pages.now in
    let mid = g.P.Pages.store c.visible.new.pages in
    let rests = c.in_ok-cells.ensures.rests in
    record {
      keeps = rests.below;
      works = Rests-works (g.P.Pages.is_tied c.args.pages.now) old mid rests.rests;
      nothing = record { failures = rests.count; full = rests.rests.full };
      committed = refl;
      order = c.requires.order;
      ends = λ tied accepted later.
          ends_none c.args.version c.args.route c.requires.version old.map was (listed c.in_ok-cells.cells) (c.in_ok-cells.ensures.found tied) mid.map (rests.rests.keeps.pages tied) accepted later;
    }

pub end_living-requires-clause-width : goal.end_living-requires-clause-width
end_living-requires-clause-width g c = cell_wide c.in_ok-cells.cells c.loop-place.place c.get.result.now c.get.ensures ∙ c.in_ok-cells.ensures.width

pub returns-in_err-end_living-clause-leaves : goal.returns-in_err-end_living-clause-leaves
returns-in_err-end_living-clause-leaves g c =
    let was = c.args.referents.now.working in
    let first = g.P.Pages.store c.args.pages.now in
    let mid = g.P.Pages.store c.loop-place.pages in
    let p = err_from_is_err_and c.from_residual-in_err-end_living.result c.from_residual-in_err-end_living.ensures.1 in
    record {
      keeps = g.met.P.Pages.keeps_trans c.args.pages.now c.loop-place.pages c.end_living.new.pages c.loop-place.invariant.keeps c.in_err-end_living.ensures.leaves.keeps;
      works = rw (p.1, p.2) (works_err (g.P.Pages.is_tied c.args.pages.now → HoldsNoReferents first.map was c.args.version)
          (g.P.Pages.is_tied c.loop-place.pages → SaysNoLiving mid.map c.loop-place.referents.working c.get.result.now) c.in_err-end_living.field-0.0
          first mid (g.P.Pages.store c.end_living.new.pages) c.loop-place.invariant.works c.loop-place.invariant.nothing
          (λ none tied. none_said c.args.version c.args.route c.requires.version (listed c.in_ok-cells.cells) c.loop-place.place c.get.result.now c.get.ensures first.map mid.map was c.loop-place.referents.working
          (c.loop-place.invariant.ends tied) (none (g.met.P.Pages.keeps_tied c.args.pages.now c.loop-place.pages c.loop-place.invariant.keeps tied)))
          c.in_err-end_living.ensures.leaves.works);
    }

pub loop-place-preserved : goal.loop-place-preserved
loop-place-preserved g c =
    let was = c.args.referents.now.working in
    let first = g.P.Pages.store c.args.pages.now in
    let mid = g.P.Pages.store c.loop-place.pages in
    let last = g.P.Pages.store c.end_living.new.pages in
    let keeps = c.loop-place.invariant.keeps in
    record {
      keeps = g.met.P.Pages.keeps_trans c.args.pages.now c.loop-place.pages c.end_living.new.pages keeps c.in_ok-end_living.ensures.leaves.keeps;
      works = Works-trans first mid last c.loop-place.invariant.works c.in_ok-end_living.ensures.leaves.works.works;
      nothing = CountsNothing-trans first mid last c.loop-place.invariant.nothing c.in_ok-end_living.ensures.leaves.works.ends;
      committed = c.in_ok-end_living.ensures.committed ∙ c.loop-place.invariant.committed;
      order = c.in_ok-end_living.ensures.order;
      ends = λ tied accepted later.
          ends_one c.args.version c.args.route c.requires.version (listed c.in_ok-cells.cells) c.loop-place.place c.get.result.now c.get.ensures first.map mid.map was c.loop-place.referents.working
          (c.loop-place.invariant.ends tied) last.map c.end_living.new.referents.working
          (c.in_ok-end_living.ensures.ends (g.met.P.Pages.keeps_tied c.args.pages.now c.loop-place.pages keeps tied)) accepted later;
    }

pub returns-clause-ends : goal.returns-clause-ends
returns-clause-ends g c = λ tied accepted later.
    let cells = listed c.in_ok-cells.cells in
    let past : length cells ≤ c.loop-place.place = omega (arith, c.loop-place-test.false) in
    ends_all c.args.version c.args.route c.requires.version cells c.loop-place.place (g.P.Pages.store c.args.pages.now).map (g.P.Pages.store c.loop-place.pages).map
    c.args.referents.now.working c.loop-place.referents.working past accepted (c.loop-place.invariant.ends tied accepted later)
