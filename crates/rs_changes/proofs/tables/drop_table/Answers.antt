-- The table is emptied, records are cleared, the table goes, and the definitions without it are written.
use Rattle.std.proofs.Common.{◌≡◌, ◌<◌, ℕ, Err, List, refl, sym, ap, ◌∙◌, subst, arith}
use Rattle.std.proofs.lemmas.Result.{err_from_is_err_and}
use Rattle.std.specs.List.{AllByRecursion, AllZip, insert}
use Rattle.std.specs.Vec.{vec_capacity, vec_len}
use Rattle.rs_catalog_pages.specs.Said.{said_catalogue}
use Rattle.rs_catalog_pages.specs.declared.items.StoredCatalogue.{StoredCatalogue}
use Rattle.rs_cell_versions.specs.Version.{HaveDiedBy}
use Rattle.rs_file.specs.declared.opened.OpenedFile.{OpenedFile}
use Rattle.rs_file.specs.declared.opened.OpenedTable.{OpenedTable}
use Rattle.rs_file_parts.specs.Clearing.{ClearsAsMany}
use Rattle.rs_file_parts.specs.Parts.{HoldsNoParts, KeepsOpened}
use Rattle.rs_changes.specs.Tables.{HoldsNoneBeside, LosesTableAt}
use Rattle.rs_file_parts.proofs.Lists.{each_same}
use Rattle.rs_file_parts.proofs.Made.{makes_then, none_before}
use Rattle.rs_file_parts.proofs.Ready.{keeps_then, ready_after, same_kept}
use Rattle.rs_change_laws.specs.Parts.{ChangesTableAt, TakesTable}
use Rattle.rs_changes.proofs.Next.{file_changed, next_written, none_next}
use Rattle.rs_changes.proofs.Placing.{order_without_table, place_to_go, put_again}
use Rattle.rs_changes.proofs.Readied.{ready_without_table}
use Rattle.rs_changes.proofs.Replaced.{births_still, when_ok}
use Rattle.rs_changes.proofs.Tabled.{EmptiedAndCleared, GoesCleared, emptied_and_cleared, table_gone, table_leaves}
use Rattle.rs_changes.proofs.Wholes.{leaves_refused, no_file, part_refused, stored_by_works, stored_then, storing_by_works}
use Rattle.rs_versioned.specs.Events.{Event}
use Rattle.rs_versioned.specs.Records.{HasNone}
use Rattle.rs_changes.proofs.tables.drop_table.Goals as goal

pub empty_place-requires-clause-place : goal.empty_place-requires-clause-place
empty_place-requires-clause-place g c = place_to_go (said_catalogue c.args.definitions) c.args.file.now c.args.place c.requires.may.opened.ready c.requires.less

pub returns-in_err-empty_place-clause-leaves : goal.returns-in_err-empty_place-clause-leaves
returns-in_err-empty_place-clause-leaves g c =
    let p = err_from_is_err_and c.from_residual.result c.from_residual.ensures.1 in
    rw (p.1, p.2) (part_refused g.P.Pages c.args.file.now c.in_err-empty_place.field-0.0 c.args.pages.now c.empty_place.new.pages c.in_err-empty_place.ensures.leaves)

pub clear-requires-clause-ready : goal.clear-requires-clause-ready
clear-requires-clause-ready g c = ready_after c.args.file.now c.empty_place.new.file c.in_ok-empty_place.ensures.keeps c.requires.may.opened.ready

pub returns-in_err-clear-clause-leaves : goal.returns-in_err-clear-clause-leaves
returns-in_err-clear-clause-leaves g c =
    let was : OpenedFile = c.args.file.now in
    let f1 : OpenedFile = c.empty_place.new.file in
    let place : ℕ = c.args.place in
    let keeps1 = c.in_ok-empty_place.ensures.keeps in
    let s0 = g.P.Pages.store c.args.pages.now in
    let s1 = g.P.Pages.store c.empty_place.new.pages in
    let later : Type 0 = g.P.Pages.is_tied c.empty_place.new.pages → HoldsNoParts s1.map f1 in
    let p = err_from_is_err_and c.from_residual-in_err-clear.result c.from_residual-in_err-clear.ensures.1 in
    rw (p.1, p.2) (leaves_refused g.P.Pages was later c.in_err-clear.field-0.0 c.args.pages.now c.empty_place.new.pages c.clear.new.pages
    (g.met.P.Pages.keeps_trans c.args.pages.now c.empty_place.new.pages c.clear.new.pages c.in_ok-empty_place.ensures.leaves.keeps c.in_err-clear.ensures.leaves.keeps)
    (stored_by_works (g.P.Pages.is_tied c.args.pages.now → HoldsNoParts s0.map was) tt s0 s1 c.in_ok-empty_place.ensures.leaves.works)
    (λ none tied. no_file s0.map was (none_before (λ accepted. ChangesTableAt place (HasNone {R = Event})) s0.map s1.map was f1 (c.in_ok-empty_place.ensures.makes tied)
    (none (g.met.P.Pages.keeps_tied c.args.pages.now c.empty_place.new.pages c.in_ok-empty_place.ensures.leaves.keeps tied))))
    (storing_by_works later (Err c.in_err-clear.field-0.0) s1 (g.P.Pages.store c.clear.new.pages) c.in_err-clear.ensures.leaves.works))

pub returns-in_err-clear-clause-opened : goal.returns-in_err-clear-clause-opened
returns-in_err-clear-clause-opened g c =
    let p = err_from_is_err_and c.from_residual-in_err-clear.result c.from_residual-in_err-clear.ensures.1 in
    rw p.1 (record { next = tt; stays = keeps_then c.args.file.now c.empty_place.new.file c.clear.new.file c.in_ok-empty_place.ensures.keeps c.in_err-clear.ensures.keeps })

pub remove-table-requires : goal.remove-table-requires
remove-table-requires g c =
    let was : OpenedFile = c.args.file.now in
    let f1 : OpenedFile = c.empty_place.new.file in
    let place : ℕ = c.args.place in
    let keeps1 = c.in_ok-empty_place.ensures.keeps in
    let f2 : OpenedFile = c.clear.new.file in
    let keeps = keeps_then was f1 f2 keeps1 c.in_ok-clear.ensures.keeps in
    let ready = ready_after was f2 keeps c.requires.may.opened.ready in
    let less = subst (λ (d : StoredCatalogue). LosesTableAt place (said_catalogue d) (said_catalogue c.args.definitions)) (sym keeps.definitions) c.requires.less in
    let inside = place_to_go (said_catalogue c.args.definitions) f2 place ready less in
    omega (arith, inside, f2.tables.ok.0)

pub write_next-requires-clause-ready : goal.write_next-requires-clause-ready
write_next-requires-clause-ready g c =
    let was : OpenedFile = c.args.file.now in
    let f1 : OpenedFile = c.empty_place.new.file in
    let place : ℕ = c.args.place in
    let keeps1 = c.in_ok-empty_place.ensures.keeps in
    let f2 : OpenedFile = c.clear.new.file in
    let keeps = keeps_then was f1 f2 keeps1 c.in_ok-clear.ensures.keeps in
    let ready = ready_after was f2 keeps c.requires.may.opened.ready in
    let less = subst (λ (d : StoredCatalogue). LosesTableAt place (said_catalogue d) (said_catalogue c.args.definitions)) (sym keeps.definitions) c.requires.less in
    let inside = place_to_go (said_catalogue c.args.definitions) f2 place ready less in
    ready_without_table f2 (record f2 { definitions = c.args.definitions; tables = c.remove-table.new.self }) ready c.requires.given place less c.remove-table.ensures.items

pub write_next-requires-clause-births : goal.write_next-requires-clause-births
write_next-requires-clause-births g c =
    births_still (said_catalogue c.args.definitions).routes c.args.file.now.accepted c.clear.new.file.accepted
    (c.in_ok-clear.ensures.keeps.accepted ∙ c.in_ok-empty_place.ensures.keeps.accepted) c.requires.may.births

pub returns-in-Ok-clause-takes : goal.returns-in-Ok-clause-takes
returns-in-Ok-clause-takes g c = λ tied.
    let was : OpenedFile = c.args.file.now in
    let f1 : OpenedFile = c.empty_place.new.file in
    let place : ℕ = c.args.place in
    let keeps1 = c.in_ok-empty_place.ensures.keeps in
    let f2 : OpenedFile = c.clear.new.file in
    let keeps = keeps_then was f1 f2 keeps1 c.in_ok-clear.ensures.keeps in
    let ready = ready_after was f2 keeps c.requires.may.opened.ready in
    let less = subst (λ (d : StoredCatalogue). LosesTableAt place (said_catalogue d) (said_catalogue c.args.definitions)) (sym keeps.definitions) c.requires.less in
    let inside = place_to_go (said_catalogue c.args.definitions) f2 place ready less in
    let f3 : OpenedFile = record f2 { tables = c.remove-table.new.self } in
    let oldest : ℕ = c.args.oldest in
    let gone : ℕ = c.in_ok-clear.field-0 in
    let s0 = (g.P.Pages.store c.args.pages.now).map in
    let s1 = (g.P.Pages.store c.empty_place.new.pages).map in
    let s2 = (g.P.Pages.store c.clear.new.pages).map in
    let tied1 = g.met.P.Pages.keeps_tied c.args.pages.now c.empty_place.new.pages c.in_ok-empty_place.ensures.leaves.keeps tied in
    let tied2 = g.met.P.Pages.keeps_tied c.empty_place.new.pages c.clear.new.pages c.in_ok-clear.ensures.leaves.keeps tied1 in
    file_changed s0 s2 was f3 (GoesCleared oldest gone place) keeps.accepted
    (λ version. table_leaves oldest gone place s0 s2 was f2 f3 version
    (makes_then (ChangesTableAt place (HasNone {R = Event})) (ClearsAsMany oldest 64 gone) (EmptiedAndCleared oldest gone place) (emptied_and_cleared oldest gone place)
    s0 s1 s2 was f1 f2 version version version (c.in_ok-empty_place.ensures.makes tied version) (c.in_ok-clear.ensures.clears tied1 version))
    c.remove-table.ensures.items refl refl refl)
    oldest c.args.definitions (g.P.Pages.store c.write_next.new.pages).map c.write_next.new.file (TakesTable place (said_catalogue c.args.definitions))
    (λ contents last whole. table_gone oldest gone (said_catalogue c.args.definitions) c.write_next.new.file.pages.items place contents last whole)
    (c.in-Ok.ensures.writes tied2) c.in-Ok.ensures.opened

pub returns-in-Ok-clause-opened : goal.returns-in-Ok-clause-opened
returns-in-Ok-clause-opened g c =
    let was : OpenedFile = c.args.file.now in
    let f1 : OpenedFile = c.empty_place.new.file in
    let place : ℕ = c.args.place in
    let keeps1 = c.in_ok-empty_place.ensures.keeps in
    let f2 : OpenedFile = c.clear.new.file in
    let keeps = keeps_then was f1 f2 keeps1 c.in_ok-clear.ensures.keeps in
    let ready = ready_after was f2 keeps c.requires.may.opened.ready in
    let less = subst (λ (d : StoredCatalogue). LosesTableAt place (said_catalogue d) (said_catalogue c.args.definitions)) (sym keeps.definitions) c.requires.less in
    let inside = place_to_go (said_catalogue c.args.definitions) f2 place ready less in
    let f3 : OpenedFile = record f2 { tables = c.remove-table.new.self } in
    let order = c.in_ok-clear.ensures.order was.accepted (c.in_ok-empty_place.ensures.order was.accepted c.requires.may.opened.order) in
    record {
      next = next_written c.args.definitions was f3 c.write_next.new.file keeps.accepted
          (ready_without_table f2 (record f2 { definitions = c.args.definitions; tables = c.remove-table.new.self }) ready c.requires.given place less c.remove-table.ensures.items)
          (record {
            tables = subst (AllByRecursion (λ (table : OpenedTable). HaveDiedBy was.accepted table.records.working.dead)) (sym c.remove-table.ensures.items) (order_without_table place was.accepted f2.tables.items inside order.tables);
            referents = order.referents;
          })
          c.in-Ok.ensures.opened;
      stays = tt;
    }

pub returns-in-Err-clause-leaves : goal.returns-in-Err-clause-leaves
returns-in-Err-clause-leaves g c =
    let was : OpenedFile = c.args.file.now in
    let f1 : OpenedFile = c.empty_place.new.file in
    let place : ℕ = c.args.place in
    let keeps1 = c.in_ok-empty_place.ensures.keeps in
    let f2 : OpenedFile = c.clear.new.file in
    let keeps = keeps_then was f1 f2 keeps1 c.in_ok-clear.ensures.keeps in
    let ready = ready_after was f2 keeps c.requires.may.opened.ready in
    let less = subst (λ (d : StoredCatalogue). LosesTableAt place (said_catalogue d) (said_catalogue c.args.definitions)) (sym keeps.definitions) c.requires.less in
    let inside = place_to_go (said_catalogue c.args.definitions) f2 place ready less in
    let f3 : OpenedFile = record f2 { tables = c.remove-table.new.self } in
    let oldest : ℕ = c.args.oldest in
    let gone : ℕ = c.in_ok-clear.field-0 in
    let s0 = g.P.Pages.store c.args.pages.now in
    let s1 = g.P.Pages.store c.empty_place.new.pages in
    let s2 = g.P.Pages.store c.clear.new.pages in
    let later : Type 0 = g.P.Pages.is_tied c.clear.new.pages → HoldsNoneBeside s2.map f3 in
    leaves_refused g.P.Pages was later c.in-Err.why c.args.pages.now c.clear.new.pages c.write_next.new.pages
    (g.met.P.Pages.keeps_trans c.args.pages.now c.empty_place.new.pages c.write_next.new.pages c.in_ok-empty_place.ensures.leaves.keeps
    (g.met.P.Pages.keeps_trans c.empty_place.new.pages c.clear.new.pages c.write_next.new.pages c.in_ok-clear.ensures.leaves.keeps c.in-Err.ensures.leaves.keeps))
    (stored_then s0 s1 s2 (stored_by_works (g.P.Pages.is_tied c.args.pages.now → HoldsNoParts s0.map was) tt s0 s1 c.in_ok-empty_place.ensures.leaves.works)
    (stored_by_works (g.P.Pages.is_tied c.empty_place.new.pages → HoldsNoParts s1.map f1) gone s1 s2 c.in_ok-clear.ensures.leaves.works))
    (λ none tied.
    let tied1 = g.met.P.Pages.keeps_tied c.args.pages.now c.empty_place.new.pages c.in_ok-empty_place.ensures.leaves.keeps tied in
    let tied2 = g.met.P.Pages.keeps_tied c.empty_place.new.pages c.clear.new.pages c.in_ok-clear.ensures.leaves.keeps tied1 in
    none_next s0.map s2.map was f3 (GoesCleared oldest gone place) keeps.accepted
    (λ version. table_leaves oldest gone place s0.map s2.map was f2 f3 version
    (makes_then (ChangesTableAt place (HasNone {R = Event})) (ClearsAsMany oldest 64 gone) (EmptiedAndCleared oldest gone place) (emptied_and_cleared oldest gone place)
    s0.map s1.map s2.map was f1 f2 version version version (c.in_ok-empty_place.ensures.makes tied version) (c.in_ok-clear.ensures.clears tied1 version))
    c.remove-table.ensures.items refl refl refl) (none tied2))
    c.in-Err.ensures.leaves.stores

pub returns-in-Err-clause-opened : goal.returns-in-Err-clause-opened
returns-in-Err-clause-opened g c =
    let was : OpenedFile = c.args.file.now in
    let f1 : OpenedFile = c.empty_place.new.file in
    let place : ℕ = c.args.place in
    let keeps1 = c.in_ok-empty_place.ensures.keeps in
    let f2 : OpenedFile = c.clear.new.file in
    let keeps = keeps_then was f1 f2 keeps1 c.in_ok-clear.ensures.keeps in
    let ready = ready_after was f2 keeps c.requires.may.opened.ready in
    let less = subst (λ (d : StoredCatalogue). LosesTableAt place (said_catalogue d) (said_catalogue c.args.definitions)) (sym keeps.definitions) c.requires.less in
    let inside = place_to_go (said_catalogue c.args.definitions) f2 place ready less in
    let f3 : OpenedFile = record f2 { tables = c.remove-table.new.self } in
    let f4 : OpenedFile = c.write_next.new.file in
    let f5 : OpenedFile = record f4 { tables = c.put_at-put.new.list } in
    let stays = c.in-Err.ensures.stays in
    let length_same : vec_len f4.tables ≡ vec_len f3.tables = ap (λ (f : OpenedFile). vec_len f.tables) stays in
    let capacity_same : vec_capacity f4.tables ≡ vec_capacity f3.tables = ap (λ (f : OpenedFile). vec_capacity f.tables) stays in
    let room : vec_len f4.tables < vec_capacity f4.tables = omega (arith, length_same, capacity_same, c.remove-table.ensures.len, c.remove-table.ensures.capacity, f2.tables.ok.1) in
    let put = when_ok c.put_at-put.result (c.put_at-put.ensures.room room) c.put_at-put.ensures.put in
    let same : c.put_at-put.new.list.items ≡ f2.tables.items =
    put ∙ ap (λ (f : OpenedFile). insert f.tables.items place c.remove-table.result) stays ∙ ap (λ (ts : List OpenedTable). insert ts place c.remove-table.result) c.remove-table.ensures.items
    ∙ put_again place f2.tables.items c.remove-table.result inside c.remove-table.ensures.value in
    record {
      next = tt;
      stays = keeps_then was f2 f5 keeps (record {
        definitions = ap (λ (f : OpenedFile). f.definitions) stays;
        pages = ap (λ (f : OpenedFile). f.pages) stays;
        accepted = ap (λ (f : OpenedFile). f.accepted) stays;
        tables = subst (AllZip KeepsOpened f2.tables.items) (sym same) (each_same KeepsOpened same_kept f2.tables.items);
        referents = ap (λ (f : OpenedFile). f.referents.committed) stays;
      });
    }
