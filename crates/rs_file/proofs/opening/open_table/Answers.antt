-- The columns, the slot in the directory, the indexes, and then the pages.
use Rattle.std.proofs.Common.{◌≡◌, ◌≤◌, ◌+◌, ◌*◌, ◌==◌, Some, Err, List, filter, map, slice_get, sym, ap, subst, ◌∙◌}
use Rattle.std.proofs.lemmas.Result.{err_from_is_err_and}
use Rattle.std.specs.List.{AllByRecursion, AllZip}
use Rattle.rs_attr.specs.Opening.{OpensNoTable, OpensTable}
use Rattle.rs_attr.specs.Tables.{AreOn, IndexState}
use Rattle.rs_catalog_pages.specs.Items.{IndexItem}
use Rattle.rs_catalog_pages.specs.Said.{said_catalogue, said_directory, said_index, said_table, said_tree}
use Rattle.rs_catalog_pages.specs.declared.directory_items.StoredTree.{StoredTree}
use Rattle.rs_file.specs.Contents.{IsIndex}
use Rattle.rs_file.proofs.Numbering.{said_at}
use Rattle.rs_file.proofs.OneOpened.{are_on, none_of_indexes, none_of_pages, one_of_pages}
use Rattle.rs_refusal.specs.declared.refusal.Refusal.TheVariants as refusal
use Rattle.rs_page_marks.specs.Marks.{taken}
use Rattle.rs_value.specs.declared.column.ColumnType.{ColumnType}
use Rattle.rs_versioned.specs.Events.{event_width}
use Rattle.rs_attr.specs.ToldRecords.{ToldRecords}
use Rattle.rs_attr.specs.Version.{died_of}
use Rattle.rs_file.proofs.opening.open_table.Goals as goal

pub returns-in_err-indexes-clause-opens : goal.returns-in_err-indexes-clause-opens
returns-in_err-indexes-clause-opens g c = λ tied.
    let p = err_from_is_err_and c.from_residual.result c.from_residual.ensures.1 in
    record {
      opens = rw (p.1) tt;
      damaged = λ is.
          let why : c.in_err-indexes.field-0.0 ≡ refusal.DamagedFile = cc (p.1, p.2, is) in
          let items = c.as_slice-items.result.now in
          let directory = said_directory c.args.directory.now in
          none_of_indexes c.args.routes.now (g.P.Pages.store c.args.pages.now).map directory (said_catalogue c.args.definitions.now) (said_table c.args.item.now) (taken c.args.reached.now)
          c.in-Some.schema.items c.in-Some.ensures.columns
          (λ states all. c.in_err-indexes.ensures.none (ap Err why) states
          (subst (λ xs. AllZip (IsIndex c.in-Some.schema.items directory) (filter (λ (index : IndexItem). index.table == c.args.item.now.number) (map said_index xs)) states) (sym c.as_slice-items.ensures.value) all));
    }

pub open-requires-clause-indexes : goal.open-requires-clause-indexes
open-requires-clause-indexes g c =
    let items = filter (λ (index : IndexItem). index.table == c.args.item.now.number) (map said_index c.as_slice-items.result.now) in
    subst (λ (ts : List ColumnType). AreOn ts c.as_slice-2.result.now) (sym c.told_table-told.ensures.columns)
    (subst (AreOn c.in-Some.schema.items) (sym c.as_slice-2.ensures.value)
    (are_on c.in-Some.schema.items (said_directory c.args.directory.now) items c.in_ok-indexes.indexes.items c.in_ok-indexes.ensures.indexes))

pub returns-in_err-records-clause-opens : goal.returns-in_err-records-clause-opens
returns-in_err-records-clause-opens g c = λ tied.
    let p = err_from_is_err_and c.from_residual-in_err-records.result c.from_residual-in_err-records.ensures.1 in
    record {
      opens = rw (p.1) tt;
      damaged = λ is.
          let why : c.in_err-records.field-0.0 ≡ refusal.DamagedFile = cc (p.1, p.2, is) in
          let file = (g.P.Pages.store c.args.pages.now).map in
          let before = taken c.args.reached.now in
          let types = c.in-Some.schema.items in
          let directory = said_directory c.args.directory.now in
          let tree = c.in-Some-get.tree.now in
          let slot = subst (λ (xs : List StoredTree). slice_get (map said_tree xs) c.args.item.now.number ≡ Some (said_tree tree)) c.as_slice.ensures.value
          (said_at said_tree c.as_slice.result.now c.args.item.now.number tree c.in-Some-get.ensures.lookup.3.0 c.in-Some-get.ensures.lookup.1) in
          let missing = (c.in_err-records.ensures.opens tied).damaged (ap Err why) in
          none_of_pages c.args.routes.now file directory (said_catalogue c.args.definitions.now) (said_table c.args.item.now) before types c.in-Some.ensures.columns (said_tree tree) c.told_table-told.result c.in_ok-indexes.indexes.items slot
          c.told_table-told.ensures.columns c.told_table-told.ensures.kind (c.told_table-told.ensures.records ∙ c.told_of.ensures)
          (subst (λ xs. AllZip (IsIndex types directory) (filter (λ (index : IndexItem). index.table == c.args.item.now.number) (map said_index xs)) c.in_ok-indexes.indexes.items)
          c.as_slice-items.ensures.value c.in_ok-indexes.ensures.indexes)
          (subst (λ (indexes : List IndexState). OpensNoTable file c.told_table-told.result indexes c.args.routes.now before) c.as_slice-2.ensures.value missing);
    }

pub returns-clause-table : goal.returns-clause-table
returns-clause-table g c =
    let same : c.in_ok-records.records.types ≡ c.in-Some.schema.items = c.in_ok-records.ensures.table.types ∙ c.told_table-told.ensures.columns in
    let directory = said_directory c.args.directory.now in
    record {
      few = c.in-Some.ensures.fits.0;
      types = same ∙ c.in-Some.ensures.columns;
      fits = subst (λ (types : List ColumnType). 3 * (8 + event_width types) ≤ 4080) (sym same) c.in-Some.ensures.fits.1;
      indexes = subst (λ (types : List ColumnType). AllZip (IsIndex types directory)
          (filter (λ (index : IndexItem). index.table == c.args.item.now.number) (map said_index c.args.definitions.now.indexes.items)) c.in_ok-indexes.indexes.items) (sym same)
          (subst (λ xs. AllZip (IsIndex c.in-Some.schema.items directory) (filter (λ (index : IndexItem). index.table == c.args.item.now.number) (map said_index xs)) c.in_ok-indexes.indexes.items)
          c.as_slice-items.ensures.value c.in_ok-indexes.ensures.indexes);
      committed = c.in_ok-records.ensures.table.committed;
      indexes_committed = c.in_ok-indexes.ensures.committed;
      order = subst (λ (told : ToldRecords). AllByRecursion (λ dead. died_of dead ≤ told.accepted) c.in_ok-records.records.working.dead) (c.told_table-told.ensures.records ∙ c.told_of.ensures) c.in_ok-records.ensures.table.order;
    }

pub returns-clause-opens : goal.returns-clause-opens
returns-clause-opens g c = λ tied.
    let file = (g.P.Pages.store c.args.pages.now).map in
    let before = taken c.args.reached.now in
    let after = taken c.open.new.reached in
    let records = c.in_ok-records.records in
    let indexes = c.in_ok-indexes.indexes.items in
    let tree = c.in-Some-get.tree.now in
    let slot = subst (λ (xs : List StoredTree). slice_get (map said_tree xs) c.args.item.now.number ≡ Some (said_tree tree)) c.as_slice.ensures.value
    (said_at said_tree c.as_slice.result.now c.args.item.now.number tree c.in-Some-get.ensures.lookup.3.0 c.in-Some-get.ensures.lookup.1) in
    record {
      opens =
          one_of_pages c.args.routes.now file (said_directory c.args.directory.now) (said_catalogue c.args.definitions.now) (said_table c.args.item.now) before (said_tree tree) c.told_table-told.result slot
          (record { records = records; indexes = c.in_ok-indexes.indexes }) after (returns-clause-table g c) c.in_ok-records.ensures.table.types c.told_table-told.ensures.kind (c.told_table-told.ensures.records ∙ c.told_of.ensures)
          (subst (λ (is : List IndexState). OpensTable file c.told_table-told.result records.working is c.args.routes.now before after) c.as_slice-2.ensures.value (c.in_ok-records.ensures.opens tied).opens);
      damaged = λ is. absurd (cc);
    }
