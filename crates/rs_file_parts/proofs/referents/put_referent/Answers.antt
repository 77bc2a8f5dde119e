-- The referents change, and all else stays.
use Rattle.std.proofs.Common.{refl}
use Rattle.std.proofs.lemmas.Result.{err_from_is_err_and}
use Rattle.rs_cell_versions.specs.Versioned.{HoldsNone}
use Rattle.rs_file.specs.declared.opened.OpenedFile.{OpenedFile}
use Rattle.rs_file_parts.specs.Parts.{HoldsNoParts, KeepsOpened}
use Rattle.rs_file_parts.proofs.Lists.{each_same}
use Rattle.rs_file_parts.proofs.Made.{no_referents, referents_made}
use Rattle.rs_file_parts.proofs.Ready.{same_kept}
use Rattle.rs_page_owners.proofs.Following.{works_err}
use Rattle.rs_page_owners.proofs.Working.{CountsNothing-refl, Works-refl}
use Rattle.rs_versioned.specs.Records.{HasOneMore}
use Rattle.rs_versioned.specs.Referents.{record_of, referent_form}
use Rattle.rs_file_parts.proofs.referents.put_referent.Goals as goal

pub returns-in_err-add-clause-leaves : goal.returns-in_err-add-clause-leaves
returns-in_err-add-clause-leaves g c =
    let was = c.args.file.now in
    let old = g.P.Pages.store c.args.pages.now in
    let p = err_from_is_err_and c.from_residual.result c.from_residual.ensures.1 in
    record {
      keeps = c.in_err-add.ensures.leaves.keeps;
      works = rw (p.1, p.2) (works_err (g.P.Pages.is_tied c.args.pages.now → HoldsNoParts old.map was)
          (g.P.Pages.is_tied c.args.pages.now → HoldsNone referent_form old.map was.referents.working) c.in_err-add.field-0.0
          old old (g.P.Pages.store c.add.new.pages) (Works-refl old) (CountsNothing-refl old)
          (λ none tied. no_referents old.map was (none tied)) c.in_err-add.ensures.leaves.works);
    }

pub returns-in_err-add-clause-keeps : goal.returns-in_err-add-clause-keeps
returns-in_err-add-clause-keeps g c = record {
  definitions = refl;
  pages = refl;
  accepted = refl;
  tables = each_same KeepsOpened same_kept c.args.file.now.tables.items;
  referents = c.in_err-add.ensures.table.committed;
}

pub returns-clause-puts : goal.returns-clause-puts
returns-clause-puts g c = λ tied accepted later.
    let was : OpenedFile = c.args.file.now in
    let is : OpenedFile = record was { referents = c.add.new.self } in
    referents_made (g.P.Pages.store c.args.pages.now).map (g.P.Pages.store c.add.new.pages).map was is accepted c.args.version
    (HasOneMore (record_of c.args.referent.now c.args.version)) refl refl refl later ((c.in_ok-add.ensures.adds tied).changes accepted later)

pub returns-clause-keeps : goal.returns-clause-keeps
returns-clause-keeps g c = record {
  definitions = refl;
  pages = refl;
  accepted = refl;
  tables = each_same KeepsOpened same_kept c.args.file.now.tables.items;
  referents = c.in_ok-add.ensures.table.committed;
}
