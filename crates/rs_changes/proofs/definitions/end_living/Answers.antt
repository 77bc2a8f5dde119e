-- The cell's referent ends.
use Rattle.std.proofs.Common.{arith, sym}
use Rattle.std.proofs.lemmas.Result.{err_from_is_err_and}
use Rattle.rs_cell_versions.specs.Versioned.{HoldsNone}
use Rattle.rs_changes.specs.Ending.{SaysNoLiving}
use Rattle.rs_page_owners.proofs.Following.{damaged_err, works_err}
use Rattle.rs_page_owners.proofs.Working.{CountsNothing-refl, Works-refl}
use Rattle.rs_changes.proofs.EndedReferents.{no_cells, not_living, not_there}
use Rattle.rs_versioned.specs.Referents.{referent_form}
use Rattle.rs_changes.proofs.definitions.end_living.Goals as goal

pub returns-then-not-is_living-clause-leaves : goal.returns-then-not-is_living-clause-leaves
returns-then-not-is_living-clause-leaves g c =
    let old = g.P.Pages.store c.args.pages.now in
    let was = c.args.referents.now.working in
    record {
      keeps = g.met.P.Pages.keeps_refl c.args.pages.now;
      works = damaged_err (g.P.Pages.is_tied c.args.pages.now → SaysNoLiving old.map was c.args.cell.now) old old (Works-refl old) (CountsNothing-refl old)
          (λ tied. not_living old.map was c.args.cell.now (sym c.if-not-is_living.ensures));
    }

pub returns-in_err-ended-clause-leaves : goal.returns-in_err-ended-clause-leaves
returns-in_err-ended-clause-leaves g c =
    let old = g.P.Pages.store c.args.pages.now in
    let was = c.args.referents.now.working in
    let p = err_from_is_err_and c.from_residual.result c.from_residual.ensures.1 in
    record {
      keeps = c.in_err-ended.ensures.leaves.keeps;
      works = rw (p.1, p.2) (works_err (g.P.Pages.is_tied c.args.pages.now → SaysNoLiving old.map was c.args.cell.now)
          (g.P.Pages.is_tied c.args.pages.now → HoldsNone referent_form old.map was) c.in_err-ended.field-0.0 old old (g.P.Pages.store c.kill.new.pages)
          (Works-refl old) (CountsNothing-refl old) (λ none tied. no_cells old.map was c.args.cell.now (none tied)) c.in_err-ended.ensures.leaves.works);
    }

pub returns-then-not-ended-clause-leaves : goal.returns-then-not-ended-clause-leaves
returns-then-not-ended-clause-leaves g c =
    let old = g.P.Pages.store c.args.pages.now in
    let new = g.P.Pages.store c.kill.new.pages in
    let was = c.args.referents.now.working in
    record {
      keeps = c.in_ok-ended.ensures.leaves.keeps;
      works = damaged_err (g.P.Pages.is_tied c.args.pages.now → SaysNoLiving old.map was c.args.cell.now) old new c.in_ok-ended.ensures.leaves.works.works c.in_ok-ended.ensures.leaves.works.ends
          (λ tied. not_there c.args.version old.map new.map was c.kill.new.self.working c.args.cell.now c.in_ok-ended.ended (c.in_ok-ended.ensures.kills tied) c.if-not-ended.true);
    }

pub returns-clause-ends : goal.returns-clause-ends
returns-clause-ends g c tied accepted one later says =
    (c.in_ok-ended.ensures.kills tied).changes accepted c.args.version one later (omega arith) says
