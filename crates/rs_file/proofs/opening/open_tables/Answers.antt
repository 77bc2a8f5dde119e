-- One table after the other.
use Rattle.std.proofs.Common.{◌≡◌, ◌+◌, [], ◌∷◌, ◌++◌, Some, Ok, Err, List, map, slice_get, take, sym, ap, subst, ◌∙◌}
use Rattle.std.proofs.lemmas.Result.{err_from_is_err_and}
use Rattle.std.specs.List.{AllZip}
use Rattle.rs_catalog_pages.specs.Said.{said_catalogue, said_directory, said_table}
use Rattle.rs_catalog_pages.specs.declared.items.StoredTable.{StoredTable}
use Rattle.rs_pages.proofs.Resting.{rests_err, rests_ok, rests_refused, rests_then}
use Rattle.rs_file.specs.Opening.{IsTableOf, OpensNotOne, OpensOne, OpensTables}
use Rattle.rs_file.specs.declared.opened.OpenedTable.{OpenedTable}
use Rattle.rs_file.proofs.Loaded.{same_map}
use Rattle.rs_file.proofs.Numbering.{said_at}
use Rattle.rs_file.proofs.TablesOpened.{opens_missing, opens_next, zip_next}
use Rattle.rs_refusal.specs.declared.refusal.Refusal.TheVariants as refusal
use Rattle.rs_pages.specs.PageMap.{PageMap}
use Rattle.rs_page_marks.specs.Marks.{taken}
use Rattle.rs_file.proofs.opening.open_tables.Goals as goal

pub returns-in_err-table-clause-rests : goal.returns-in_err-table-clause-rests
returns-in_err-table-clause-rests g c =
    let p = err_from_is_err_and c.from_residual.result c.from_residual.ensures.1 in
    rw (p.1, p.2) (rests_err g.P.Pages.is_tied g.P.Pages.store g.P.Pages.keeps c.in_err-table.field-0.0 c.args.pages.now c.open_table.new.pages
    (rests_then g.P.Pages.is_tied g.P.Pages.store g.P.Pages.keeps tt (Err c.in_err-table.field-0.0) c.args.pages.now c.loop-item.pages c.open_table.new.pages g.met.P.Pages.keeps_trans g.met.P.Pages.keeps_tied
    c.loop-item.invariant.rests c.in_err-table.ensures.rests))

pub returns-in_err-table-clause-opens : goal.returns-in_err-table-clause-opens
returns-in_err-table-clause-opens g c = λ tied.
    let p = err_from_is_err_and c.from_residual.result c.from_residual.ensures.1 in
    record {
      opens = rw (p.1) tt;
      damaged = λ is.
          let old = (g.P.Pages.store c.args.pages.now).map in
          let mid = (g.P.Pages.store c.loop-item.pages).map in
          let directory = said_directory c.args.directory.now in
          let definitions = said_catalogue c.args.definitions.now in
          let k = c.loop-item.item-index in
          let item = said_table c.item-item.result in
          let between = taken c.loop-item.reached in
          let later = g.met.P.Pages.keeps_tied c.args.pages.now c.loop-item.pages c.loop-item.invariant.rests.below tied in
          let same = c.loop-item.invariant.rests.rests.keeps.pages tied in
          let why : c.in_err-table.field-0.0 ≡ refusal.DamagedFile = cc (p.1, p.2, is) in
          let there = subst (λ (xs : List StoredTable). slice_get (map said_table xs) k ≡ Some item) c.as_slice-item-items.ensures.value
          (said_at said_table c.as_slice-item-items.result.now k c.item-item.result c.loop-item-test.true c.item-item.is) in
          opens_missing c.args.routes.now old directory definitions k item there c.loop-item.tables.items (taken c.args.reached.now) between (c.loop-item.invariant.opens tied)
          (subst (λ (file : PageMap). OpensNotOne c.args.routes.now file directory definitions item between) (same_map mid old same) ((c.in_err-table.ensures.opens later).damaged (ap Err why)));
    }

pub returns-in_err-push-clause-rests : goal.returns-in_err-push-clause-rests
returns-in_err-push-clause-rests g c =
    let p = err_from_is_err_and c.from_residual-in_err-push.result c.from_residual-in_err-push.ensures.1 in
    rw (p.1, p.2) (rests_refused g.P.Pages.is_tied g.P.Pages.store g.P.Pages.keeps c.in_ok-table.table refusal.OutOfMemory c.args.pages.now c.open_table.new.pages (λ is. cc)
    (rests_then g.P.Pages.is_tied g.P.Pages.store g.P.Pages.keeps tt (Ok c.in_ok-table.table) c.args.pages.now c.loop-item.pages c.open_table.new.pages g.met.P.Pages.keeps_trans g.met.P.Pages.keeps_tied
    c.loop-item.invariant.rests c.in_ok-table.ensures.rests))

pub loop-item-preserved : goal.loop-item-preserved
loop-item-preserved g c =
    let old = (g.P.Pages.store c.args.pages.now).map in
    let mid = (g.P.Pages.store c.loop-item.pages).map in
    let directory = said_directory c.args.directory.now in
    let definitions = said_catalogue c.args.definitions.now in
    let k = c.loop-item.item-index in
    let item = said_table c.item-item.result in
    let table = c.in_ok-table.table in
    let found = c.loop-item.tables.items in
    let more : c.push.new.self.items ≡ found ++ table ∷ [] = c.in_ok-push.ensures.items in
    let between = taken c.loop-item.reached in
    let after = taken c.open_table.new.reached in
    let there = subst (λ (xs : List StoredTable). slice_get (map said_table xs) k ≡ Some item) c.as_slice-item-items.ensures.value
    (said_at said_table c.as_slice-item-items.result.now k c.item-item.result c.loop-item-test.true c.item-item.is) in
    record {
      rests = rests_ok g.P.Pages.is_tied g.P.Pages.store g.P.Pages.keeps table tt c.args.pages.now c.open_table.new.pages
          (rests_then g.P.Pages.is_tied g.P.Pages.store g.P.Pages.keeps tt (Ok table) c.args.pages.now c.loop-item.pages c.open_table.new.pages g.met.P.Pages.keeps_trans g.met.P.Pages.keeps_tied
          c.loop-item.invariant.rests c.in_ok-table.ensures.rests);
      size = c.in_ok-table.ensures.size ∙ c.loop-item.invariant.size;
      opens = λ tied.
          let later = g.met.P.Pages.keeps_tied c.args.pages.now c.loop-item.pages c.loop-item.invariant.rests.below tied in
          let same = c.loop-item.invariant.rests.rests.keeps.pages tied in
          subst (λ (opened : List OpenedTable). OpensTables c.args.routes.now old directory definitions (take (k + 1) definitions.tables) opened (taken c.args.reached.now) after) (sym more)
          (opens_next c.args.routes.now old directory definitions k item there found (taken c.args.reached.now) between (c.loop-item.invariant.opens tied) table after
          (subst (λ (file : PageMap). OpensOne c.args.routes.now file directory definitions item table between after) (same_map mid old same) (c.in_ok-table.ensures.opens later).opens));
      are = subst (λ (opened : List OpenedTable). AllZip (IsTableOf directory definitions) (take (k + 1) definitions.tables) opened) (sym more)
          (zip_next (IsTableOf directory definitions) definitions.tables k item found table there c.loop-item.invariant.are c.in_ok-table.ensures.table);
    }
