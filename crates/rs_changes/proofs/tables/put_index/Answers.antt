-- The index is made, and comes to the others.
use Rattle.std.proofs.Common.{List, sym, subst}
use Rattle.std.proofs.lemmas.Result.{err_from_is_err_and}
use Rattle.rs_attr.specs.Tables.{ChangesTable, HoldsNoTable, IndexState}
use Rattle.rs_attr.proofs.Tabled.{no_table}
use Rattle.rs_cell_versions.specs.Versioned.{HoldsNone}
use Rattle.rs_changes.specs.Tables.{StaySame}
use Rattle.rs_page_owners.proofs.Following.{works_err}
use Rattle.rs_page_owners.proofs.Working.{CountsNothing-refl, Works-refl}
use Rattle.rs_changes.proofs.Indexed.{index_comes}
use Rattle.rs_changes.proofs.Next.{where_ok}
use Rattle.rs_versioned.specs.Events.{kept_events}
use Rattle.rs_changes.proofs.tables.put_index.Goals as goal

pub returns-in_err-index-clause-leaves : goal.returns-in_err-index-clause-leaves
returns-in_err-index-clause-leaves g c =
    let table = c.args.table.now in
    let types = table.records.types in
    let old = g.P.Pages.store c.args.pages.now in
    let p = err_from_is_err_and c.from_residual.result c.from_residual.ensures.1 in
    record {
      keeps = c.in_err-index.ensures.leaves.keeps;
      works = rw (p.1, p.2) (works_err (g.P.Pages.is_tied c.args.pages.now → HoldsNoTable types old.map table.records.working table.indexes.items)
          (g.P.Pages.is_tied c.args.pages.now → HoldsNone (kept_events types).form old.map table.records.working) c.in_err-index.field-0.0
          old old (g.P.Pages.store c.define.new.pages) (Works-refl old) (CountsNothing-refl old)
          (λ none tied. no_table types old.map table.records.working table.indexes.items (none tied)) c.in_err-index.ensures.leaves.works);
    }

pub returns-clause-changes : goal.returns-clause-changes
returns-clause-changes g c = λ tied.
    let table = c.args.table.now in
    let types = table.records.types in
    let old = (g.P.Pages.store c.args.pages.now).map in
    let new = (g.P.Pages.store c.define.new.pages).map in
    where_ok c.put_at.result c.put_at.ensures.put (λ put accepted.
    subst (λ (is : List IndexState). ChangesTable types old new table.records.working table.records.working table.indexes.items is accepted accepted StaySame) (sym put)
    (index_comes types old new table.records.working table.indexes.items c.args.position c.in_ok-index.index c.requires.position (c.in_ok-index.ensures.defines tied) accepted))
