-- A table without events is put at the place of what is open.
use Rattle.std.proofs.Common.{refl, ap, sym, subst}
use Rattle.std.specs.List.{AllZip}
use Rattle.rs_file.specs.declared.opened.OpenedFile.{OpenedFile}
use Rattle.rs_file.specs.declared.opened.OpenedTable.{OpenedTable}
use Rattle.rs_file_parts.specs.Parts.{KeepsOpened}
use Rattle.rs_changes.proofs.Next.{where_err, where_ok}
use Rattle.rs_changes.proofs.Tabled.{table_made}
use Rattle.rs_changes.proofs.tables.put_table.Goals as goal
use Rattle.rs_file_parts.proofs.Lists.{each_same}
use Rattle.rs_file_parts.proofs.Ready.{same_kept}

pub returns-clause-makes : goal.returns-clause-makes
returns-clause-makes c =
    let table : OpenedTable = record { records = c.new-records.result; indexes = c.new-indexes.result } in
    let is : OpenedFile = record c.args.file.now { tables = c.put_at.new.list } in
    where_ok c.put_at.result c.put_at.ensures.put (λ put map accepted.
    table_made c.args.place c.args.schema.items c.args.file.now is table c.requires.place c.new-records.ensures.types c.new-indexes.ensures.items c.new-records.ensures.empty put refl refl refl map accepted)

pub returns-clause-put : goal.returns-clause-put
returns-clause-put c =
    where_ok c.put_at.result c.put_at.ensures.put (λ put. record {
      table = record { records = c.new-records.result; indexes = c.new-indexes.result };
      types_are = c.new-records.ensures.types;
      none_dead = ap (λ (s : _). s.dead) c.new-records.ensures.working;
      no_indexes = c.new-indexes.ensures.items;
      tables = put;
      rest = refl;
    })

pub returns-clause-stays : goal.returns-clause-stays
returns-clause-stays c =
    let was : OpenedFile = c.args.file.now in
    where_err c.put_at.result c.put_at.ensures.stays (λ same. record {
      definitions = refl;
      pages = refl;
      accepted = refl;
      tables = subst (AllZip KeepsOpened was.tables.items) (sym same) (each_same KeepsOpened same_kept was.tables.items);
      referents = refl;
    })
