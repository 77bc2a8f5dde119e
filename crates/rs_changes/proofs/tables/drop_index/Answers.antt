-- Records are cleared, the index goes, and the definitions without it are written.
use Rattle.std.proofs.Common.{◌≡◌, ◌<◌, ℕ, Err, Some, get_or, length, set, slice_get, refl, sym, ap, ◌∙◌, subst, arith}
use Rattle.std.proofs.lemmas.List.Edits.{length-remove}
use Rattle.std.proofs.lemmas.Result.{err_from_is_err_and}
use Rattle.std.specs.List.{AllZip, insert}
use Rattle.std.specs.Vec.{vec_capacity, vec_len, with_item}
use Rattle.rs_attr.specs.Tables.{HoldsNoTable, kept_parts}
use Rattle.rs_catalog_pages.specs.Said.{said_catalogue}
use Rattle.rs_catalog_pages.specs.declared.items.StoredCatalogue.{StoredCatalogue}
use Rattle.rs_file.specs.declared.opened.OpenedFile.{OpenedFile}
use Rattle.rs_file.specs.declared.opened.OpenedTable.{OpenedTable}
use Rattle.rs_file_parts.specs.Clearing.{ClearsAsMany}
use Rattle.rs_file_parts.specs.Parts.{HoldsNoParts, KeepsOpened}
use Rattle.rs_changes.specs.Tables.{HasIndexAt, HoldsNoneBeside, StaySame}
use Rattle.rs_file_parts.proofs.Made.{none_before}
use Rattle.rs_file_parts.proofs.Placed.{place_none, place_on_cells}
use Rattle.rs_file_parts.proofs.Ready.{keeps_then, ready_after}
use Rattle.rs_change_laws.specs.Changing.{HoldsNoFile}
use Rattle.rs_change_laws.specs.Parts.{ChangesIndexes, ChangesTableAt}
use Rattle.rs_changes.proofs.Commuting.{ThenChanges, index_commutes}
use Rattle.rs_changes.proofs.Next.{file_changed, next_written, none_next}
use Rattle.rs_changes.proofs.Readied.{ready_without_index}
use Rattle.rs_changes.proofs.Replaced.{births_still, here_is, index_made, open_there, place_kept, place_order, place_restored, position_inside, read_back, when_ok}
use Rattle.rs_changes.proofs.Wholes.{leaves_refused, no_file, part_refused, stored_by_storing, stored_by_works, stored_ok, stored_then, storing_by_works}
use Rattle.rs_changes.proofs.tables.drop_index.Goals as goal

pub returns-in_err-clear-clause-leaves : goal.returns-in_err-clear-clause-leaves
returns-in_err-clear-clause-leaves g c =
    let p = err_from_is_err_and c.from_residual.result c.from_residual.ensures.1 in
    rw (p.1, p.2) (part_refused g.P.Pages c.args.file.now c.in_err-clear.field-0.0 c.args.pages.now c.clear.new.pages c.in_err-clear.ensures.leaves)

pub index_mut-requires : goal.index_mut-requires
index_mut-requires g c =
    let was : OpenedFile = c.args.file.now in
    let f1 : OpenedFile = c.clear.new.file in
    let place : ℕ = c.args.place.table in
    let keeps = c.in_ok-clear.ensures.keeps in
    let there : slice_get (said_catalogue f1.definitions).tables place ≡ Some c.requires.less.table = ap (λ (d : StoredCatalogue). slice_get (said_catalogue d).tables place) keeps.definitions ∙ c.requires.less.there in
    omega (arith, open_there f1 place c.requires.less.table (ready_after was f1 keeps c.requires.may.opened.ready) there, f1.tables.ok.0)

pub take_index-requires-clause-position : goal.take_index-requires-clause-position
take_index-requires-clause-position g c =
    let was : OpenedFile = c.args.file.now in
    let f1 : OpenedFile = c.clear.new.file in
    let place : ℕ = c.args.place.table in
    let keeps = c.in_ok-clear.ensures.keeps in
    let ready = ready_after was f1 keeps c.requires.may.opened.ready in
    let less = subst (λ (d : StoredCatalogue). HasIndexAt place c.args.place.position (said_catalogue c.args.definitions) (said_catalogue d)) (sym keeps.definitions) c.requires.less in
    let below = open_there f1 place less.table ready less.there in
    let one : OpenedTable = c.index_mut.result.now in
    let here = here_is f1 place one below c.index_mut.ensures.value in
    position_inside (said_catalogue c.args.definitions) f1 place c.args.place.position one ready here less

pub take_index-requires-clause-indexes : goal.take_index-requires-clause-indexes
take_index-requires-clause-indexes g c =
    let was : OpenedFile = c.args.file.now in
    let f1 : OpenedFile = c.clear.new.file in
    let place : ℕ = c.args.place.table in
    let keeps = c.in_ok-clear.ensures.keeps in
    let ready = ready_after was f1 keeps c.requires.may.opened.ready in
    let there : slice_get (said_catalogue f1.definitions).tables place ≡ Some c.requires.less.table = ap (λ (d : StoredCatalogue). slice_get (said_catalogue d).tables place) keeps.definitions ∙ c.requires.less.there in
    place_on_cells f1 place c.index_mut.result.now (open_there f1 place c.requires.less.table ready there) c.index_mut.ensures.value ready

pub returns-in_err-index-clause-leaves : goal.returns-in_err-index-clause-leaves
returns-in_err-index-clause-leaves g c =
    let was : OpenedFile = c.args.file.now in
    let f1 : OpenedFile = c.clear.new.file in
    let place : ℕ = c.args.place.table in
    let keeps = c.in_ok-clear.ensures.keeps in
    let there : slice_get (said_catalogue f1.definitions).tables place ≡ Some c.requires.less.table = ap (λ (d : StoredCatalogue). slice_get (said_catalogue d).tables place) keeps.definitions ∙ c.requires.less.there in
    let below = open_there f1 place c.requires.less.table (ready_after was f1 keeps c.requires.may.opened.ready) there in
    let one : OpenedTable = c.index_mut.result.now in
    let s0 = g.P.Pages.store c.args.pages.now in
    let s1 = g.P.Pages.store c.clear.new.pages in
    let later : Type 0 = g.P.Pages.is_tied c.clear.new.pages → HoldsNoTable one.records.types s1.map one.records.working one.indexes.items in
    let p = err_from_is_err_and c.from_residual-in_err-index.result c.from_residual-in_err-index.ensures.1 in
    rw (p.1, p.2) (leaves_refused g.P.Pages was later c.in_err-index.field-0.0 c.args.pages.now c.clear.new.pages c.take_index.new.pages
    (g.met.P.Pages.keeps_trans c.args.pages.now c.clear.new.pages c.take_index.new.pages c.in_ok-clear.ensures.leaves.keeps c.in_err-index.ensures.leaves.keeps)
    (stored_by_works (g.P.Pages.is_tied c.args.pages.now → HoldsNoParts s0.map was) c.in_ok-clear.field-0 s0 s1 c.in_ok-clear.ensures.leaves.works)
    (λ none tied. no_file s0.map was (none_before (λ accepted. ClearsAsMany c.args.oldest 64 c.in_ok-clear.field-0) s0.map s1.map was f1 (c.in_ok-clear.ensures.clears tied)
    (place_none f1 place one below c.index_mut.ensures.value s1.map (none (g.met.P.Pages.keeps_tied c.args.pages.now c.clear.new.pages c.in_ok-clear.ensures.leaves.keeps tied)))))
    (storing_by_works later (Err c.in_err-index.field-0.0) s1 (g.P.Pages.store c.take_index.new.pages) c.in_err-index.ensures.leaves.works))

pub returns-in_err-index-clause-opened : goal.returns-in_err-index-clause-opened
returns-in_err-index-clause-opened g c =
    let was : OpenedFile = c.args.file.now in
    let f1 : OpenedFile = c.clear.new.file in
    let place : ℕ = c.args.place.table in
    let keeps = c.in_ok-clear.ensures.keeps in
    let there : slice_get (said_catalogue f1.definitions).tables place ≡ Some c.requires.less.table = ap (λ (d : StoredCatalogue). slice_get (said_catalogue d).tables place) keeps.definitions ∙ c.requires.less.there in
    let below = open_there f1 place c.requires.less.table (ready_after was f1 keeps c.requires.may.opened.ready) there in
    let now : OpenedTable = c.take_index.new.table in
    let f2 : OpenedFile = record f1 { tables = with_item f1.tables place now } in
    let p = err_from_is_err_and c.from_residual-in_err-index.result c.from_residual-in_err-index.ensures.1 in
    rw p.1 (record {
      next = tt;
      stays = keeps_then was f1 f2 keeps (record {
        definitions = refl;
        pages = refl;
        accepted = refl;
        tables = place_kept f1 place c.index_mut.result.now below c.index_mut.ensures.value now c.in_err-index.ensures.table;
        referents = refl;
      });
    })

pub write_next-requires-clause-ready : goal.write_next-requires-clause-ready
write_next-requires-clause-ready g c =
    let was : OpenedFile = c.args.file.now in
    let f1 : OpenedFile = c.clear.new.file in
    let place : ℕ = c.args.place.table in
    let keeps = c.in_ok-clear.ensures.keeps in
    let ready = ready_after was f1 keeps c.requires.may.opened.ready in
    let there : slice_get (said_catalogue f1.definitions).tables place ≡ Some c.requires.less.table = ap (λ (d : StoredCatalogue). slice_get (said_catalogue d).tables place) keeps.definitions ∙ c.requires.less.there in
    let below = open_there f1 place c.requires.less.table ready there in
    let one : OpenedTable = c.index_mut.result.now in
    let now : OpenedTable = c.take_index.new.table in
    let f2 : OpenedFile = record f1 { definitions = c.args.definitions; tables = with_item f1.tables place now } in
    let less = subst (λ (d : StoredCatalogue). HasIndexAt place c.args.place.position (said_catalogue c.args.definitions) (said_catalogue d)) (sym keeps.definitions) c.requires.less in
    ready_without_index f1 f2 ready c.requires.given place c.args.place.position less one now (here_is f1 place one below c.index_mut.ensures.value)
    c.in_ok-index.ensures.taken.records c.in_ok-index.ensures.taken.indexes refl

pub write_next-requires-clause-births : goal.write_next-requires-clause-births
write_next-requires-clause-births g c =
    births_still (said_catalogue c.args.definitions).routes c.args.file.now.accepted c.clear.new.file.accepted c.in_ok-clear.ensures.keeps.accepted c.requires.may.births

pub index_mut-requires-in-Err : goal.index_mut-requires-in-Err
index_mut-requires-in-Err g c =
    let was : OpenedFile = c.args.file.now in
    let f1 : OpenedFile = c.clear.new.file in
    let place : ℕ = c.args.place.table in
    let keeps = c.in_ok-clear.ensures.keeps in
    let there : slice_get (said_catalogue f1.definitions).tables place ≡ Some c.requires.less.table = ap (λ (d : StoredCatalogue). slice_get (said_catalogue d).tables place) keeps.definitions ∙ c.requires.less.there in
    omega (arith, open_there f1 place c.requires.less.table (ready_after was f1 keeps c.requires.may.opened.ready) there, f1.tables.ok.0, ap (λ (f : OpenedFile). vec_len f.tables) c.in-Err.ensures.stays)

pub put_at-put-requires : goal.put_at-put-requires
put_at-put-requires g c =
    let was : OpenedFile = c.args.file.now in
    let f1 : OpenedFile = c.clear.new.file in
    let place : ℕ = c.args.place.table in
    let keeps = c.in_ok-clear.ensures.keeps in
    let ready = ready_after was f1 keeps c.requires.may.opened.ready in
    let less = subst (λ (d : StoredCatalogue). HasIndexAt place c.args.place.position (said_catalogue c.args.definitions) (said_catalogue d)) (sym keeps.definitions) c.requires.less in
    let below = open_there f1 place less.table ready less.there in
    let one : OpenedTable = c.index_mut.result.now in
    let here = here_is f1 place one below c.index_mut.ensures.value in
    let now : OpenedTable = c.take_index.new.table in
    let f2 : OpenedFile = record f1 { tables = with_item f1.tables place now } in
    let other : OpenedTable = c.index_mut-in-Err.result.now in
    let same : other ≡ now = read_back f1 place one below c.index_mut.ensures.value now other
    (c.index_mut-in-Err.ensures.value ∙ ap (λ (f : OpenedFile). get_or f.tables.items place other) c.in-Err.ensures.stays) in
    let inside = position_inside (said_catalogue c.args.definitions) f1 place c.args.place.position one ready here less in
    record {
      place = omega (arith, inside, ap (λ (t : OpenedTable). length t.indexes.items) same, ap length c.in_ok-index.ensures.taken.indexes, length-remove one.indexes.items c.args.place.position inside);
    }

pub returns-in-Ok-clause-leaves : goal.returns-in-Ok-clause-leaves
returns-in-Ok-clause-leaves g c =
    let was : OpenedFile = c.args.file.now in
    let f1 : OpenedFile = c.clear.new.file in
    let one : OpenedTable = c.index_mut.result.now in
    let f2 : OpenedFile = record f1 { tables = with_item f1.tables c.args.place.table c.take_index.new.table } in
    let s0 = g.P.Pages.store c.args.pages.now in
    let s1 = g.P.Pages.store c.clear.new.pages in
    let s2 = g.P.Pages.store c.take_index.new.pages in
    let s3 = g.P.Pages.store c.write_next.new.pages in
    record {
      keeps = g.met.P.Pages.keeps_trans c.args.pages.now c.clear.new.pages c.write_next.new.pages c.in_ok-clear.ensures.leaves.keeps
          (g.met.P.Pages.keeps_trans c.clear.new.pages c.take_index.new.pages c.write_next.new.pages c.in_ok-index.ensures.leaves.keeps c.in-Ok.ensures.leaves.keeps);
      stores = stored_ok (g.P.Pages.is_tied c.args.pages.now → HoldsNoFile s0.map was) tt s0 s3
          (stored_then s0 s1 s3 (stored_by_works (g.P.Pages.is_tied c.args.pages.now → HoldsNoParts s0.map was) c.in_ok-clear.field-0 s0 s1 c.in_ok-clear.ensures.leaves.works)
          (stored_then s1 s2 s3 (stored_by_works (g.P.Pages.is_tied c.clear.new.pages → HoldsNoTable one.records.types s1.map one.records.working one.indexes.items) c.in_ok-index.index s1 s2 c.in_ok-index.ensures.leaves.works)
          (stored_by_storing (g.P.Pages.is_tied c.take_index.new.pages → HoldsNoneBeside s2.map f2) tt s2 s3 c.in-Ok.ensures.leaves.stores)));
    }

pub returns-in-Ok-clause-changes : goal.returns-in-Ok-clause-changes
returns-in-Ok-clause-changes g c = λ tied.
    let was : OpenedFile = c.args.file.now in
    let f1 : OpenedFile = c.clear.new.file in
    let place : ℕ = c.args.place.table in
    let oldest : ℕ = c.args.oldest in
    let gone : ℕ = c.in_ok-clear.field-0 in
    let keeps = c.in_ok-clear.ensures.keeps in
    let there : slice_get (said_catalogue f1.definitions).tables place ≡ Some c.requires.less.table = ap (λ (d : StoredCatalogue). slice_get (said_catalogue d).tables place) keeps.definitions ∙ c.requires.less.there in
    let below = open_there f1 place c.requires.less.table (ready_after was f1 keeps c.requires.may.opened.ready) there in
    let one : OpenedTable = c.index_mut.result.now in
    let now : OpenedTable = c.take_index.new.table in
    let f2 : OpenedFile = record f1 { tables = with_item f1.tables place now } in
    let s0 = (g.P.Pages.store c.args.pages.now).map in
    let s1 = (g.P.Pages.store c.clear.new.pages).map in
    let s2 = (g.P.Pages.store c.take_index.new.pages).map in
    let tied1 = g.met.P.Pages.keeps_tied c.args.pages.now c.clear.new.pages c.in_ok-clear.ensures.leaves.keeps tied in
    let tied2 = g.met.P.Pages.keeps_tied c.clear.new.pages c.take_index.new.pages c.in_ok-index.ensures.leaves.keeps tied1 in
    file_changed s0 s2 was f2 (ThenChanges oldest gone (ChangesTableAt place StaySame)) keeps.accepted
    (index_made oldest gone place s0 s1 s2 was f1 f2 one now below c.index_mut.ensures.value refl refl refl refl
    (ap (λ (r : _). r.types) c.in_ok-index.ensures.taken.records) (c.in_ok-clear.ensures.clears tied) (c.in_ok-index.ensures.changes tied1))
    oldest c.args.definitions (g.P.Pages.store c.write_next.new.pages).map c.write_next.new.file (ChangesIndexes place (said_catalogue c.args.definitions))
    (λ contents last whole. index_commutes oldest gone (said_catalogue c.args.definitions) c.write_next.new.file.pages.items place contents last whole)
    (c.in-Ok.ensures.writes tied2) c.in-Ok.ensures.opened

pub returns-in-Ok-clause-opened : goal.returns-in-Ok-clause-opened
returns-in-Ok-clause-opened g c =
    let was : OpenedFile = c.args.file.now in
    let f1 : OpenedFile = c.clear.new.file in
    let place : ℕ = c.args.place.table in
    let keeps = c.in_ok-clear.ensures.keeps in
    let ready = ready_after was f1 keeps c.requires.may.opened.ready in
    let less = subst (λ (d : StoredCatalogue). HasIndexAt place c.args.place.position (said_catalogue c.args.definitions) (said_catalogue d)) (sym keeps.definitions) c.requires.less in
    let below = open_there f1 place less.table ready less.there in
    let one : OpenedTable = c.index_mut.result.now in
    let here = here_is f1 place one below c.index_mut.ensures.value in
    let now : OpenedTable = c.take_index.new.table in
    let f2 : OpenedFile = record f1 { tables = with_item f1.tables place now } in
    let f3 : OpenedFile = record f1 { definitions = c.args.definitions; tables = with_item f1.tables place now } in
    let order = c.in_ok-clear.ensures.order was.accepted c.requires.may.opened.order in
    record {
      next = next_written c.args.definitions was f2 c.write_next.new.file keeps.accepted
          (ready_without_index f1 f3 ready c.requires.given place c.args.place.position less one now here c.in_ok-index.ensures.taken.records c.in_ok-index.ensures.taken.indexes refl)
          (record { tables = place_order f1 place one below c.index_mut.ensures.value now was.accepted c.in_ok-index.ensures.taken.records order.tables; referents = order.referents })
          c.in-Ok.ensures.opened;
      stays = tt;
    }

pub returns-in-Err-clause-leaves : goal.returns-in-Err-clause-leaves
returns-in-Err-clause-leaves g c =
    let was : OpenedFile = c.args.file.now in
    let f1 : OpenedFile = c.clear.new.file in
    let place : ℕ = c.args.place.table in
    let keeps = c.in_ok-clear.ensures.keeps in
    let ready = ready_after was f1 keeps c.requires.may.opened.ready in
    let less = subst (λ (d : StoredCatalogue). HasIndexAt place c.args.place.position (said_catalogue c.args.definitions) (said_catalogue d)) (sym keeps.definitions) c.requires.less in
    let below = open_there f1 place less.table ready less.there in
    let one : OpenedTable = c.index_mut.result.now in
    let here = here_is f1 place one below c.index_mut.ensures.value in
    let now : OpenedTable = c.take_index.new.table in
    let f2 : OpenedFile = record f1 { tables = with_item f1.tables place now } in
    let oldest : ℕ = c.args.oldest in
    let gone : ℕ = c.in_ok-clear.field-0 in
    let s0 = g.P.Pages.store c.args.pages.now in
    let s1 = g.P.Pages.store c.clear.new.pages in
    let s2 = g.P.Pages.store c.take_index.new.pages in
    let later : Type 0 = g.P.Pages.is_tied c.take_index.new.pages → HoldsNoneBeside s2.map f2 in
    leaves_refused g.P.Pages was later c.in-Err.why c.args.pages.now c.take_index.new.pages c.write_next.new.pages
    (g.met.P.Pages.keeps_trans c.args.pages.now c.clear.new.pages c.write_next.new.pages c.in_ok-clear.ensures.leaves.keeps
    (g.met.P.Pages.keeps_trans c.clear.new.pages c.take_index.new.pages c.write_next.new.pages c.in_ok-index.ensures.leaves.keeps c.in-Err.ensures.leaves.keeps))
    (stored_then s0 s1 s2 (stored_by_works (g.P.Pages.is_tied c.args.pages.now → HoldsNoParts s0.map was) gone s0 s1 c.in_ok-clear.ensures.leaves.works)
    (stored_by_works (g.P.Pages.is_tied c.clear.new.pages → HoldsNoTable one.records.types s1.map one.records.working one.indexes.items) c.in_ok-index.index s1 s2 c.in_ok-index.ensures.leaves.works))
    (λ none tied.
    let tied1 = g.met.P.Pages.keeps_tied c.args.pages.now c.clear.new.pages c.in_ok-clear.ensures.leaves.keeps tied in
    let tied2 = g.met.P.Pages.keeps_tied c.clear.new.pages c.take_index.new.pages c.in_ok-index.ensures.leaves.keeps tied1 in
    none_next s0.map s2.map was f2 (ThenChanges oldest gone (ChangesTableAt place StaySame)) keeps.accepted
    (index_made oldest gone place s0.map s1.map s2.map was f1 f2 one now below c.index_mut.ensures.value refl refl refl refl
    (ap (λ (r : _). r.types) c.in_ok-index.ensures.taken.records) (c.in_ok-clear.ensures.clears tied) (c.in_ok-index.ensures.changes tied1)) (none tied2))
    c.in-Err.ensures.leaves.stores

pub returns-in-Err-clause-opened : goal.returns-in-Err-clause-opened
returns-in-Err-clause-opened g c =
    let was : OpenedFile = c.args.file.now in
    let f1 : OpenedFile = c.clear.new.file in
    let place : ℕ = c.args.place.table in
    let keeps = c.in_ok-clear.ensures.keeps in
    let ready = ready_after was f1 keeps c.requires.may.opened.ready in
    let less = subst (λ (d : StoredCatalogue). HasIndexAt place c.args.place.position (said_catalogue c.args.definitions) (said_catalogue d)) (sym keeps.definitions) c.requires.less in
    let below = open_there f1 place less.table ready less.there in
    let one : OpenedTable = c.index_mut.result.now in
    let here = here_is f1 place one below c.index_mut.ensures.value in
    let now : OpenedTable = c.take_index.new.table in
    let f2 : OpenedFile = record f1 { tables = with_item f1.tables place now } in
    let f3 : OpenedFile = c.write_next.new.file in
    let stays = c.in-Err.ensures.stays in
    let taken = c.in_ok-index.ensures.taken in
    let other : OpenedTable = c.index_mut-in-Err.result.now in
    let same : other ≡ now = read_back f1 place one below c.index_mut.ensures.value now other
    (c.index_mut-in-Err.ensures.value ∙ ap (λ (f : OpenedFile). get_or f.tables.items place other) stays) in
    let room : vec_len other.indexes < vec_capacity other.indexes = subst (λ (t : OpenedTable). vec_len t.indexes < vec_capacity t.indexes) (sym same) taken.room in
    let put = when_ok c.put_at-put.result (c.put_at-put.ensures.room room) c.put_at-put.ensures.put in
    let last : OpenedTable = record { records = other.records; indexes = c.put_at-put.new.list } in
    let restored : KeepsOpened one last = record {
      types = ap (λ (t : OpenedTable). t.records.types) same ∙ ap (λ (r : _). r.types) taken.records;
      committed = ap (λ (t : OpenedTable). t.records.committed) same ∙ ap (λ (r : _). r.committed) taken.records;
      kept = ap kept_parts (put ∙ ap (λ (t : OpenedTable). insert t.indexes.items c.args.place.position c.in_ok-index.index) same) ∙ taken.kept;
    } in
    let f4 : OpenedFile = record f3 { tables = with_item f3.tables place last } in
    record {
      next = tt;
      stays = keeps_then was f1 f4 keeps (record {
        definitions = ap (λ (f : OpenedFile). f.definitions) stays;
        pages = ap (λ (f : OpenedFile). f.pages) stays;
        accepted = ap (λ (f : OpenedFile). f.accepted) stays;
        tables = subst (AllZip KeepsOpened f1.tables.items) (sym (ap (λ (f : OpenedFile). set f.tables.items place last) stays)) (place_restored f1 place one below c.index_mut.ensures.value now last restored);
        referents = ap (λ (f : OpenedFile). f.referents.committed) stays;
      });
    }
