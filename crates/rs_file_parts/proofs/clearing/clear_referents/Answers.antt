-- The referents are cleared, and all else stays.
use Rattle.std.proofs.Common.{refl, sym, arith}
use Rattle.std.proofs.lemmas.Result.{err_from_is_err_and}
use Rattle.rs_cell_versions.specs.Versioned.{HoldsNone}
use Rattle.rs_file.specs.declared.opened.OpenedFile.{OpenedFile}
use Rattle.rs_file_parts.specs.Calls.{ChangesReferents}
use Rattle.rs_file_parts.specs.Inner.{ClearsAllReferents}
use Rattle.rs_file_parts.specs.Parts.{HoldsNoParts, KeepsOpened}
use Rattle.rs_file_parts.proofs.Cleared.{WentReferents, clears_referents, referents_went}
use Rattle.rs_file_parts.proofs.Lists.{each_same}
use Rattle.rs_file_parts.proofs.Made.{makes_weaker, no_referents, referents_made}
use Rattle.rs_file_parts.proofs.Ready.{same_kept}
use Rattle.rs_page_owners.proofs.Following.{works_err}
use Rattle.rs_page_owners.proofs.Working.{CountsNothing-refl, Works-refl}
use Rattle.rs_versioned.specs.Referents.{referent_form}
use Rattle.rs_file_parts.proofs.clearing.clear_referents.Goals as goal

pub returns-in_err-taken-clause-leaves : goal.returns-in_err-taken-clause-leaves
returns-in_err-taken-clause-leaves g c =
    let was = c.args.file.now in
    let old = g.P.Pages.store c.args.pages.now in
    let p = err_from_is_err_and c.from_residual.result c.from_residual.ensures.1 in
    record {
      keeps = c.in_err-taken.ensures.leaves.keeps;
      works = rw (p.1, p.2) (works_err (g.P.Pages.is_tied c.args.pages.now → HoldsNoParts old.map was)
          (g.P.Pages.is_tied c.args.pages.now → HoldsNone referent_form old.map was.referents.working) c.in_err-taken.field-0.0
          old old (g.P.Pages.store c.vacuum.new.pages) (Works-refl old) (CountsNothing-refl old)
          (λ none tied. no_referents old.map was (none tied)) c.in_err-taken.ensures.leaves.works);
    }

pub returns-in_err-taken-clause-keeps : goal.returns-in_err-taken-clause-keeps
returns-in_err-taken-clause-keeps g c = record {
  definitions = refl;
  pages = refl;
  accepted = refl;
  tables = each_same KeepsOpened same_kept c.args.file.now.tables.items;
  referents = c.in_err-taken.ensures.table.committed;
}

pub returns-clause-clears : goal.returns-clause-clears
returns-clause-clears g c = λ tied accepted.
    let was : OpenedFile = c.args.file.now in
    let is : OpenedFile = record was { referents = c.vacuum.new.self } in
    let old = (g.P.Pages.store c.args.pages.now).map in
    let new = (g.P.Pages.store c.vacuum.new.pages).map in
    let gone = c.len.result in
    makes_weaker (ChangesReferents (WentReferents c.args.oldest c.args.most gone)) (ClearsAllReferents c.args.oldest c.args.most gone) (clears_referents c.args.oldest c.args.most gone)
    old new was is accepted accepted
    (referents_made old new was is accepted accepted (WentReferents c.args.oldest c.args.most gone) refl refl refl (omega arith)
    (referents_went old new was.referents.working is.referents.working c.args.oldest c.args.most c.in_ok-taken.taken gone (sym c.len.ensures) (c.in_ok-taken.ensures.vacuums tied) accepted))

pub returns-clause-keeps : goal.returns-clause-keeps
returns-clause-keeps g c = record {
  definitions = refl;
  pages = refl;
  accepted = refl;
  tables = each_same KeepsOpened same_kept c.args.file.now.tables.items;
  referents = c.in_ok-taken.ensures.table.committed;
}

pub returns-clause-order : goal.returns-clause-order
returns-clause-order g c = λ version have. record { tables = have.tables; referents = c.in_ok-taken.ensures.order version have.referents }
