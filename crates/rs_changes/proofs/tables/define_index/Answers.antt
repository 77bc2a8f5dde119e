-- Records are cleared, the index comes, and the definitions with it are written.
use Rattle.std.proofs.Common.{◌≡◌, ℕ, Err, List, get_or, length, set, refl, sym, ap, ◌∙◌, subst, arith}
use Rattle.std.proofs.lemmas.List.Edits.{length-insert}
use Rattle.std.proofs.lemmas.Result.{err_from_is_err_and}
use Rattle.std.specs.List.{AllZip, remove}
use Rattle.std.specs.Vec.{vec_len, with_item}
use Rattle.rs_attr.specs.Tables.{HoldsNoTable, IndexState, kept_parts}
use Rattle.rs_catalog_pages.specs.Said.{said_catalogue}
use Rattle.rs_catalog_pages.specs.declared.items.StoredCatalogue.{StoredCatalogue}
use Rattle.rs_file.specs.declared.opened.OpenedFile.{OpenedFile}
use Rattle.rs_file.specs.declared.opened.OpenedTable.{OpenedTable}
use Rattle.rs_file_parts.specs.Clearing.{ClearsAsMany}
use Rattle.rs_file_parts.specs.Parts.{HoldsNoParts, KeepsOpened}
use Rattle.rs_changes.specs.Tables.{HasIndexOfAt, HoldsNoneBeside, StaySame}
use Rattle.rs_file_parts.proofs.Made.{none_before}
use Rattle.rs_file_parts.proofs.Placed.{place_none}
use Rattle.rs_file_parts.proofs.Ready.{keeps_then, ready_after}
use Rattle.rs_change_laws.specs.Parts.{ChangesIndexes, ChangesTableAt}
use Rattle.rs_changes.proofs.Among.{removed_again}
use Rattle.rs_changes.proofs.Commuting.{ThenChanges, index_commutes}
use Rattle.rs_changes.proofs.Next.{file_changed, next_written, none_next}
use Rattle.rs_changes.proofs.Readied.{ready_with_index}
use Rattle.rs_changes.proofs.Replaced.{births_still, here_is, index_fits, index_made, indexed_there, open_there, place_kept, place_order, place_restored, read_back}
use Rattle.rs_changes.proofs.Wholes.{leaves_refused, no_file, part_refused, stored_by_works, stored_then, storing_by_works}
use Rattle.rs_changes.proofs.tables.define_index.Goals as goal

pub returns-in_err-clear-clause-leaves : goal.returns-in_err-clear-clause-leaves
returns-in_err-clear-clause-leaves g c =
    let p = err_from_is_err_and c.from_residual.result c.from_residual.ensures.1 in
    rw (p.1, p.2) (part_refused g.P.Pages c.args.file.now c.in_err-clear.field-0.0 c.args.pages.now c.clear.new.pages c.in_err-clear.ensures.leaves)

pub index_mut-requires : goal.index_mut-requires
index_mut-requires g c =
    let was : OpenedFile = c.args.file.now in
    let f1 : OpenedFile = c.clear.new.file in
    let place : ℕ = c.args.place.table in
    let keeps = c.in_ok-clear.ensures.keeps in
    let more = subst (λ (d : StoredCatalogue). HasIndexOfAt place c.args.place.position c.args.place.column (said_catalogue d) (said_catalogue c.args.definitions)) (sym keeps.definitions) c.requires.more in
    let there = indexed_there (said_catalogue c.args.definitions) f1 place c.args.place.position more.more in
    omega (arith, open_there f1 place more.more.table (ready_after was f1 keeps c.requires.may.opened.ready) there, f1.tables.ok.0)

pub put_index-requires-clause-column : goal.put_index-requires-clause-column
put_index-requires-clause-column g c =
    let was : OpenedFile = c.args.file.now in
    let f1 : OpenedFile = c.clear.new.file in
    let place : ℕ = c.args.place.table in
    let keeps = c.in_ok-clear.ensures.keeps in
    let ready = ready_after was f1 keeps c.requires.may.opened.ready in
    let more = subst (λ (d : StoredCatalogue). HasIndexOfAt place c.args.place.position c.args.place.column (said_catalogue d) (said_catalogue c.args.definitions)) (sym keeps.definitions) c.requires.more in
    let below = open_there f1 place more.more.table ready (indexed_there (said_catalogue c.args.definitions) f1 place c.args.place.position more.more) in
    let one : OpenedTable = c.index_mut.result.now in
    let here = here_is f1 place one below c.index_mut.ensures.value in
    (index_fits (said_catalogue c.args.definitions) f1 place c.args.place.position c.args.place.column one ready here more).0

pub put_index-requires-clause-fits : goal.put_index-requires-clause-fits
put_index-requires-clause-fits g c =
    let was : OpenedFile = c.args.file.now in
    let f1 : OpenedFile = c.clear.new.file in
    let place : ℕ = c.args.place.table in
    let keeps = c.in_ok-clear.ensures.keeps in
    let ready = ready_after was f1 keeps c.requires.may.opened.ready in
    let more = subst (λ (d : StoredCatalogue). HasIndexOfAt place c.args.place.position c.args.place.column (said_catalogue d) (said_catalogue c.args.definitions)) (sym keeps.definitions) c.requires.more in
    let below = open_there f1 place more.more.table ready (indexed_there (said_catalogue c.args.definitions) f1 place c.args.place.position more.more) in
    let one : OpenedTable = c.index_mut.result.now in
    let here = here_is f1 place one below c.index_mut.ensures.value in
    (index_fits (said_catalogue c.args.definitions) f1 place c.args.place.position c.args.place.column one ready here more).1

pub put_index-requires-clause-position : goal.put_index-requires-clause-position
put_index-requires-clause-position g c =
    let was : OpenedFile = c.args.file.now in
    let f1 : OpenedFile = c.clear.new.file in
    let place : ℕ = c.args.place.table in
    let keeps = c.in_ok-clear.ensures.keeps in
    let ready = ready_after was f1 keeps c.requires.may.opened.ready in
    let more = subst (λ (d : StoredCatalogue). HasIndexOfAt place c.args.place.position c.args.place.column (said_catalogue d) (said_catalogue c.args.definitions)) (sym keeps.definitions) c.requires.more in
    let below = open_there f1 place more.more.table ready (indexed_there (said_catalogue c.args.definitions) f1 place c.args.place.position more.more) in
    let one : OpenedTable = c.index_mut.result.now in
    let here = here_is f1 place one below c.index_mut.ensures.value in
    (index_fits (said_catalogue c.args.definitions) f1 place c.args.place.position c.args.place.column one ready here more).2

pub returns-in_err-put_index-clause-leaves : goal.returns-in_err-put_index-clause-leaves
returns-in_err-put_index-clause-leaves g c =
    let was : OpenedFile = c.args.file.now in
    let f1 : OpenedFile = c.clear.new.file in
    let place : ℕ = c.args.place.table in
    let keeps = c.in_ok-clear.ensures.keeps in
    let more = subst (λ (d : StoredCatalogue). HasIndexOfAt place c.args.place.position c.args.place.column (said_catalogue d) (said_catalogue c.args.definitions)) (sym keeps.definitions) c.requires.more in
    let there = indexed_there (said_catalogue c.args.definitions) f1 place c.args.place.position more.more in
    let below = open_there f1 place more.more.table (ready_after was f1 keeps c.requires.may.opened.ready) there in
    let one : OpenedTable = c.index_mut.result.now in
    let s0 = g.P.Pages.store c.args.pages.now in
    let s1 = g.P.Pages.store c.clear.new.pages in
    let later : Type 0 = g.P.Pages.is_tied c.clear.new.pages → HoldsNoTable one.records.types s1.map one.records.working one.indexes.items in
    let p = err_from_is_err_and c.from_residual-in_err-put_index.result c.from_residual-in_err-put_index.ensures.1 in
    rw (p.1, p.2) (leaves_refused g.P.Pages was later c.in_err-put_index.field-0.0 c.args.pages.now c.clear.new.pages c.put_index.new.pages
    (g.met.P.Pages.keeps_trans c.args.pages.now c.clear.new.pages c.put_index.new.pages c.in_ok-clear.ensures.leaves.keeps c.in_err-put_index.ensures.leaves.keeps)
    (stored_by_works (g.P.Pages.is_tied c.args.pages.now → HoldsNoParts s0.map was) c.in_ok-clear.field-0 s0 s1 c.in_ok-clear.ensures.leaves.works)
    (λ none tied. no_file s0.map was (none_before (λ accepted. ClearsAsMany c.args.oldest 64 c.in_ok-clear.field-0) s0.map s1.map was f1 (c.in_ok-clear.ensures.clears tied)
    (place_none f1 place one below c.index_mut.ensures.value s1.map (none (g.met.P.Pages.keeps_tied c.args.pages.now c.clear.new.pages c.in_ok-clear.ensures.leaves.keeps tied)))))
    (storing_by_works later (Err c.in_err-put_index.field-0.0) s1 (g.P.Pages.store c.put_index.new.pages) c.in_err-put_index.ensures.leaves.works))

pub returns-in_err-put_index-clause-opened : goal.returns-in_err-put_index-clause-opened
returns-in_err-put_index-clause-opened g c =
    let was : OpenedFile = c.args.file.now in
    let f1 : OpenedFile = c.clear.new.file in
    let place : ℕ = c.args.place.table in
    let keeps = c.in_ok-clear.ensures.keeps in
    let more = subst (λ (d : StoredCatalogue). HasIndexOfAt place c.args.place.position c.args.place.column (said_catalogue d) (said_catalogue c.args.definitions)) (sym keeps.definitions) c.requires.more in
    let there = indexed_there (said_catalogue c.args.definitions) f1 place c.args.place.position more.more in
    let below = open_there f1 place more.more.table (ready_after was f1 keeps c.requires.may.opened.ready) there in
    let now : OpenedTable = c.put_index.new.table in
    let f2 : OpenedFile = record f1 { tables = with_item f1.tables place now } in
    let p = err_from_is_err_and c.from_residual-in_err-put_index.result c.from_residual-in_err-put_index.ensures.1 in
    rw p.1 (record {
      next = tt;
      stays = keeps_then was f1 f2 keeps (record {
        definitions = refl;
        pages = refl;
        accepted = refl;
        tables = place_kept f1 place c.index_mut.result.now below c.index_mut.ensures.value now c.in_err-put_index.ensures.table;
        referents = refl;
      });
    })

pub write_next-requires-clause-ready : goal.write_next-requires-clause-ready
write_next-requires-clause-ready g c =
    let was : OpenedFile = c.args.file.now in
    let f1 : OpenedFile = c.clear.new.file in
    let place : ℕ = c.args.place.table in
    let keeps = c.in_ok-clear.ensures.keeps in
    let ready = ready_after was f1 keeps c.requires.may.opened.ready in
    let more = subst (λ (d : StoredCatalogue). HasIndexOfAt place c.args.place.position c.args.place.column (said_catalogue d) (said_catalogue c.args.definitions)) (sym keeps.definitions) c.requires.more in
    let there = indexed_there (said_catalogue c.args.definitions) f1 place c.args.place.position more.more in
    let below = open_there f1 place more.more.table ready there in
    let one : OpenedTable = c.index_mut.result.now in
    let now : OpenedTable = c.put_index.new.table in
    let f2 : OpenedFile = record f1 { definitions = c.args.definitions; tables = with_item f1.tables place now } in
    ready_with_index f1 f2 ready c.requires.given place c.args.place.position c.args.place.column more one now (here_is f1 place one below c.index_mut.ensures.value)
    c.in_ok-put_index.ensures.put refl

pub write_next-requires-clause-births : goal.write_next-requires-clause-births
write_next-requires-clause-births g c =
    births_still (said_catalogue c.args.definitions).routes c.args.file.now.accepted c.clear.new.file.accepted c.in_ok-clear.ensures.keeps.accepted c.requires.may.births

pub index_mut-requires-in-Err : goal.index_mut-requires-in-Err
index_mut-requires-in-Err g c =
    let was : OpenedFile = c.args.file.now in
    let f1 : OpenedFile = c.clear.new.file in
    let place : ℕ = c.args.place.table in
    let keeps = c.in_ok-clear.ensures.keeps in
    let more = subst (λ (d : StoredCatalogue). HasIndexOfAt place c.args.place.position c.args.place.column (said_catalogue d) (said_catalogue c.args.definitions)) (sym keeps.definitions) c.requires.more in
    let there = indexed_there (said_catalogue c.args.definitions) f1 place c.args.place.position more.more in
    omega (arith, open_there f1 place more.more.table (ready_after was f1 keeps c.requires.may.opened.ready) there, f1.tables.ok.0, ap (λ (f : OpenedFile). vec_len f.tables) c.in-Err.ensures.stays)

pub remove-index-requires : goal.remove-index-requires
remove-index-requires g c =
    let was : OpenedFile = c.args.file.now in
    let f1 : OpenedFile = c.clear.new.file in
    let place : ℕ = c.args.place.table in
    let keeps = c.in_ok-clear.ensures.keeps in
    let ready = ready_after was f1 keeps c.requires.may.opened.ready in
    let more = subst (λ (d : StoredCatalogue). HasIndexOfAt place c.args.place.position c.args.place.column (said_catalogue d) (said_catalogue c.args.definitions)) (sym keeps.definitions) c.requires.more in
    let below = open_there f1 place more.more.table ready (indexed_there (said_catalogue c.args.definitions) f1 place c.args.place.position more.more) in
    let one : OpenedTable = c.index_mut.result.now in
    let here = here_is f1 place one below c.index_mut.ensures.value in
    let now : OpenedTable = c.put_index.new.table in
    let f2 : OpenedFile = record f1 { tables = with_item f1.tables place now } in
    let other : OpenedTable = c.index_mut-in-Err.result.now in
    let same : other ≡ now = read_back f1 place one below c.index_mut.ensures.value now other
    (c.index_mut-in-Err.ensures.value ∙ ap (λ (f : OpenedFile). get_or f.tables.items place other) c.in-Err.ensures.stays) in
    let inside = (index_fits (said_catalogue c.args.definitions) f1 place c.args.place.position c.args.place.column one ready here more).2 in
    let put = c.in_ok-put_index.ensures.put in
    omega (arith, inside, other.indexes.ok.0, ap (λ (t : OpenedTable). length t.indexes.items) same, ap length put.indexes, length-insert one.indexes.items c.args.place.position put.index inside)

pub returns-in-Ok-clause-changes : goal.returns-in-Ok-clause-changes
returns-in-Ok-clause-changes g c = λ tied.
    let was : OpenedFile = c.args.file.now in
    let f1 : OpenedFile = c.clear.new.file in
    let place : ℕ = c.args.place.table in
    let oldest : ℕ = c.args.oldest in
    let gone : ℕ = c.in_ok-clear.field-0 in
    let keeps = c.in_ok-clear.ensures.keeps in
    let more = subst (λ (d : StoredCatalogue). HasIndexOfAt place c.args.place.position c.args.place.column (said_catalogue d) (said_catalogue c.args.definitions)) (sym keeps.definitions) c.requires.more in
    let there = indexed_there (said_catalogue c.args.definitions) f1 place c.args.place.position more.more in
    let below = open_there f1 place more.more.table (ready_after was f1 keeps c.requires.may.opened.ready) there in
    let one : OpenedTable = c.index_mut.result.now in
    let now : OpenedTable = c.put_index.new.table in
    let f2 : OpenedFile = record f1 { tables = with_item f1.tables place now } in
    let s0 = (g.P.Pages.store c.args.pages.now).map in
    let s1 = (g.P.Pages.store c.clear.new.pages).map in
    let s2 = (g.P.Pages.store c.put_index.new.pages).map in
    let tied1 = g.met.P.Pages.keeps_tied c.args.pages.now c.clear.new.pages c.in_ok-clear.ensures.leaves.keeps tied in
    let tied2 = g.met.P.Pages.keeps_tied c.clear.new.pages c.put_index.new.pages c.in_ok-put_index.ensures.leaves.keeps tied1 in
    file_changed s0 s2 was f2 (ThenChanges oldest gone (ChangesTableAt place StaySame)) keeps.accepted
    (index_made oldest gone place s0 s1 s2 was f1 f2 one now below c.index_mut.ensures.value refl refl refl refl
    (ap (λ (r : _). r.types) c.in_ok-put_index.ensures.put.records) (c.in_ok-clear.ensures.clears tied) (c.in_ok-put_index.ensures.changes tied1))
    oldest c.args.definitions (g.P.Pages.store c.write_next.new.pages).map c.write_next.new.file (ChangesIndexes place (said_catalogue c.args.definitions))
    (λ contents last whole. index_commutes oldest gone (said_catalogue c.args.definitions) c.write_next.new.file.pages.items place contents last whole)
    (c.in-Ok.ensures.writes tied2) c.in-Ok.ensures.opened

pub returns-in-Ok-clause-opened : goal.returns-in-Ok-clause-opened
returns-in-Ok-clause-opened g c =
    let was : OpenedFile = c.args.file.now in
    let f1 : OpenedFile = c.clear.new.file in
    let place : ℕ = c.args.place.table in
    let keeps = c.in_ok-clear.ensures.keeps in
    let ready = ready_after was f1 keeps c.requires.may.opened.ready in
    let more = subst (λ (d : StoredCatalogue). HasIndexOfAt place c.args.place.position c.args.place.column (said_catalogue d) (said_catalogue c.args.definitions)) (sym keeps.definitions) c.requires.more in
    let below = open_there f1 place more.more.table ready (indexed_there (said_catalogue c.args.definitions) f1 place c.args.place.position more.more) in
    let one : OpenedTable = c.index_mut.result.now in
    let here = here_is f1 place one below c.index_mut.ensures.value in
    let now : OpenedTable = c.put_index.new.table in
    let f2 : OpenedFile = record f1 { tables = with_item f1.tables place now } in
    let f3 : OpenedFile = record f1 { definitions = c.args.definitions; tables = with_item f1.tables place now } in
    let order = c.in_ok-clear.ensures.order was.accepted c.requires.may.opened.order in
    record {
      next = next_written c.args.definitions was f2 c.write_next.new.file keeps.accepted
          (ready_with_index f1 f3 ready c.requires.given place c.args.place.position c.args.place.column more one now here c.in_ok-put_index.ensures.put refl)
          (record { tables = place_order f1 place one below c.index_mut.ensures.value now was.accepted c.in_ok-put_index.ensures.put.records order.tables; referents = order.referents })
          c.in-Ok.ensures.opened;
      stays = tt;
    }

pub returns-in-Err-clause-leaves : goal.returns-in-Err-clause-leaves
returns-in-Err-clause-leaves g c =
    let was : OpenedFile = c.args.file.now in
    let f1 : OpenedFile = c.clear.new.file in
    let place : ℕ = c.args.place.table in
    let keeps = c.in_ok-clear.ensures.keeps in
    let ready = ready_after was f1 keeps c.requires.may.opened.ready in
    let more = subst (λ (d : StoredCatalogue). HasIndexOfAt place c.args.place.position c.args.place.column (said_catalogue d) (said_catalogue c.args.definitions)) (sym keeps.definitions) c.requires.more in
    let below = open_there f1 place more.more.table ready (indexed_there (said_catalogue c.args.definitions) f1 place c.args.place.position more.more) in
    let one : OpenedTable = c.index_mut.result.now in
    let here = here_is f1 place one below c.index_mut.ensures.value in
    let now : OpenedTable = c.put_index.new.table in
    let f2 : OpenedFile = record f1 { tables = with_item f1.tables place now } in
    let oldest : ℕ = c.args.oldest in
    let gone : ℕ = c.in_ok-clear.field-0 in
    let s0 = g.P.Pages.store c.args.pages.now in
    let s1 = g.P.Pages.store c.clear.new.pages in
    let s2 = g.P.Pages.store c.put_index.new.pages in
    let later : Type 0 = g.P.Pages.is_tied c.put_index.new.pages → HoldsNoneBeside s2.map f2 in
    leaves_refused g.P.Pages was later c.in-Err.why c.args.pages.now c.put_index.new.pages c.write_next.new.pages
    (g.met.P.Pages.keeps_trans c.args.pages.now c.clear.new.pages c.write_next.new.pages c.in_ok-clear.ensures.leaves.keeps
    (g.met.P.Pages.keeps_trans c.clear.new.pages c.put_index.new.pages c.write_next.new.pages c.in_ok-put_index.ensures.leaves.keeps c.in-Err.ensures.leaves.keeps))
    (stored_then s0 s1 s2 (stored_by_works (g.P.Pages.is_tied c.args.pages.now → HoldsNoParts s0.map was) gone s0 s1 c.in_ok-clear.ensures.leaves.works)
    (stored_by_works (g.P.Pages.is_tied c.clear.new.pages → HoldsNoTable one.records.types s1.map one.records.working one.indexes.items) c.in_ok-put_index.field-0 s1 s2 c.in_ok-put_index.ensures.leaves.works))
    (λ none tied.
    let tied1 = g.met.P.Pages.keeps_tied c.args.pages.now c.clear.new.pages c.in_ok-clear.ensures.leaves.keeps tied in
    let tied2 = g.met.P.Pages.keeps_tied c.clear.new.pages c.put_index.new.pages c.in_ok-put_index.ensures.leaves.keeps tied1 in
    none_next s0.map s2.map was f2 (ThenChanges oldest gone (ChangesTableAt place StaySame)) keeps.accepted
    (index_made oldest gone place s0.map s1.map s2.map was f1 f2 one now below c.index_mut.ensures.value refl refl refl refl
    (ap (λ (r : _). r.types) c.in_ok-put_index.ensures.put.records) (c.in_ok-clear.ensures.clears tied) (c.in_ok-put_index.ensures.changes tied1)) (none tied2))
    c.in-Err.ensures.leaves.stores

pub returns-in-Err-clause-opened : goal.returns-in-Err-clause-opened
returns-in-Err-clause-opened g c =
    let was : OpenedFile = c.args.file.now in
    let f1 : OpenedFile = c.clear.new.file in
    let place : ℕ = c.args.place.table in
    let keeps = c.in_ok-clear.ensures.keeps in
    let ready = ready_after was f1 keeps c.requires.may.opened.ready in
    let more = subst (λ (d : StoredCatalogue). HasIndexOfAt place c.args.place.position c.args.place.column (said_catalogue d) (said_catalogue c.args.definitions)) (sym keeps.definitions) c.requires.more in
    let below = open_there f1 place more.more.table ready (indexed_there (said_catalogue c.args.definitions) f1 place c.args.place.position more.more) in
    let one : OpenedTable = c.index_mut.result.now in
    let here = here_is f1 place one below c.index_mut.ensures.value in
    let now : OpenedTable = c.put_index.new.table in
    let f2 : OpenedFile = record f1 { tables = with_item f1.tables place now } in
    let f3 : OpenedFile = c.write_next.new.file in
    let stays = c.in-Err.ensures.stays in
    let put = c.in_ok-put_index.ensures.put in
    let other : OpenedTable = c.index_mut-in-Err.result.now in
    let same : other ≡ now = read_back f1 place one below c.index_mut.ensures.value now other
    (c.index_mut-in-Err.ensures.value ∙ ap (λ (f : OpenedFile). get_or f.tables.items place other) stays) in
    let inside = (index_fits (said_catalogue c.args.definitions) f1 place c.args.place.position c.args.place.column one ready here more).2 in
    let last : OpenedTable = record { records = other.records; indexes = c.remove-index.new.self } in
    let restored : KeepsOpened one last = record {
      types = ap (λ (t : OpenedTable). t.records.types) same ∙ ap (λ (r : _). r.types) put.records;
      committed = ap (λ (t : OpenedTable). t.records.committed) same ∙ ap (λ (r : _). r.committed) put.records;
      kept = ap kept_parts (c.remove-index.ensures.items ∙ ap (λ (t : OpenedTable). remove t.indexes.items c.args.place.position) same
          ∙ ap (λ (xs : List IndexState). remove xs c.args.place.position) put.indexes ∙ removed_again one.indexes.items c.args.place.position put.index inside);
    } in
    let f4 : OpenedFile = record f3 { tables = with_item f3.tables place last } in
    record {
      next = tt;
      stays = keeps_then was f1 f4 keeps (record {
        definitions = ap (λ (f : OpenedFile). f.definitions) stays;
        pages = ap (λ (f : OpenedFile). f.pages) stays;
        accepted = ap (λ (f : OpenedFile). f.accepted) stays;
        tables = subst (AllZip KeepsOpened f1.tables.items) (sym (ap (λ (f : OpenedFile). set f.tables.items place last) stays)) (place_restored f1 place one below c.index_mut.ensures.value now last restored);
        referents = ap (λ (f : OpenedFile). f.referents.committed) stays;
      });
    }
