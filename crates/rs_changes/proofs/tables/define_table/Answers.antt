-- Records are cleared, the table comes, and the definitions with it are written.
use Rattle.std.proofs.Common.{◌≡◌, ℕ, List, length, sym, ap, ◌∙◌, subst, arith}
use Rattle.std.proofs.lemmas.List.Edits.{length-insert}
use Rattle.std.proofs.lemmas.Result.{err_from_is_err_and}
use Rattle.std.specs.List.{AllZip, remove}
use Rattle.std.specs.Vec.{vec_len}
use Rattle.rs_catalog_pages.specs.Said.{said_catalogue}
use Rattle.rs_catalog_pages.specs.declared.items.StoredCatalogue.{StoredCatalogue}
use Rattle.rs_file.specs.declared.opened.OpenedFile.{OpenedFile}
use Rattle.rs_file.specs.declared.opened.OpenedTable.{OpenedTable}
use Rattle.rs_file_parts.specs.Clearing.{ClearsAsMany}
use Rattle.rs_file_parts.specs.Parts.{HoldsNoParts, KeepsOpened}
use Rattle.rs_changes.specs.Tables.{ComesTable, HasTableAt, HoldsNoneBeside}
use Rattle.rs_file_parts.proofs.Lists.{each_same}
use Rattle.rs_file_parts.proofs.Made.{makes_then}
use Rattle.rs_file_parts.proofs.Ready.{keeps_then, ready_after, same_kept}
use Rattle.rs_change_laws.specs.Parts.{PutsTable}
use Rattle.rs_changes.proofs.Among.{removed_again}
use Rattle.rs_changes.proofs.Commuting.{ThenChanges, table_commutes, then_changes}
use Rattle.rs_changes.proofs.Next.{file_changed, next_written, none_next}
use Rattle.rs_changes.proofs.Placing.{order_with_table, place_to_come}
use Rattle.rs_changes.proofs.Readied.{ready_with_table}
use Rattle.rs_changes.proofs.Replaced.{births_still}
use Rattle.rs_changes.proofs.Wholes.{leaves_refused, part_refused, stored_by_works}
use Rattle.rs_changes.proofs.tables.define_table.Goals as goal

pub returns-in_err-clear-clause-leaves : goal.returns-in_err-clear-clause-leaves
returns-in_err-clear-clause-leaves g c =
    let p = err_from_is_err_and c.from_residual.result c.from_residual.ensures.1 in
    rw (p.1, p.2) (part_refused g.P.Pages c.args.file.now c.in_err-clear.field-0.0 c.args.pages.now c.clear.new.pages c.in_err-clear.ensures.leaves)

pub put_table-requires-clause-place : goal.put_table-requires-clause-place
put_table-requires-clause-place g c =
    let was : OpenedFile = c.args.file.now in
    let f1 : OpenedFile = c.clear.new.file in
    let keeps = c.in_ok-clear.ensures.keeps in
    let more = subst (λ (d : StoredCatalogue). HasTableAt c.args.place c.args.schema.items (said_catalogue d) (said_catalogue c.args.definitions)) (sym keeps.definitions) c.requires.more in
    place_to_come (said_catalogue c.args.definitions) f1 c.args.place c.args.schema.items (ready_after was f1 keeps c.requires.may.opened.ready) more

pub returns-in_err-put_table-clause-opened : goal.returns-in_err-put_table-clause-opened
returns-in_err-put_table-clause-opened g c =
    let p = err_from_is_err_and c.from_residual-in_err-put_table.result c.from_residual-in_err-put_table.ensures.1 in
    rw p.1 (record { next = tt; stays = keeps_then c.args.file.now c.clear.new.file c.put_table.new.file c.in_ok-clear.ensures.keeps c.in_err-put_table.ensures.stays })

pub write_next-requires-clause-ready : goal.write_next-requires-clause-ready
write_next-requires-clause-ready g c =
    let was : OpenedFile = c.args.file.now in
    let f1 : OpenedFile = c.clear.new.file in
    let f2 : OpenedFile = c.put_table.new.file in
    let f3 : OpenedFile = record f2 { definitions = c.args.definitions } in
    let keeps = c.in_ok-clear.ensures.keeps in
    let more = subst (λ (d : StoredCatalogue). HasTableAt c.args.place c.args.schema.items (said_catalogue d) (said_catalogue c.args.definitions)) (sym keeps.definitions) c.requires.more in
    let put = c.in_ok-put_table.ensures.put in
    ready_with_table f1 f3 (ready_after was f1 keeps c.requires.may.opened.ready) c.requires.given c.args.place c.args.schema.items more put.table put.types_are put.no_indexes put.tables

pub write_next-requires-clause-births : goal.write_next-requires-clause-births
write_next-requires-clause-births g c =
    births_still (said_catalogue c.args.definitions).routes c.args.file.now.accepted c.put_table.new.file.accepted
    (ap (λ (f : OpenedFile). f.accepted) c.in_ok-put_table.ensures.put.rest ∙ c.in_ok-clear.ensures.keeps.accepted) c.requires.may.births

pub remove-table-requires : goal.remove-table-requires
remove-table-requires g c =
    let was : OpenedFile = c.args.file.now in
    let f1 : OpenedFile = c.clear.new.file in
    let f2 : OpenedFile = c.put_table.new.file in
    let keeps = c.in_ok-clear.ensures.keeps in
    let more = subst (λ (d : StoredCatalogue). HasTableAt c.args.place c.args.schema.items (said_catalogue d) (said_catalogue c.args.definitions)) (sym keeps.definitions) c.requires.more in
    let inside = place_to_come (said_catalogue c.args.definitions) f1 c.args.place c.args.schema.items (ready_after was f1 keeps c.requires.may.opened.ready) more in
    let put = c.in_ok-put_table.ensures.put in
    omega (arith, inside, ap (λ (f : OpenedFile). vec_len f.tables) c.in-Err.ensures.stays, f2.tables.ok.0, ap length put.tables, length-insert f1.tables.items c.args.place put.table inside)

pub returns-in-Ok-clause-puts : goal.returns-in-Ok-clause-puts
returns-in-Ok-clause-puts g c = λ tied.
    let was : OpenedFile = c.args.file.now in
    let f1 : OpenedFile = c.clear.new.file in
    let f2 : OpenedFile = c.put_table.new.file in
    let place : ℕ = c.args.place in
    let types = c.args.schema.items in
    let oldest : ℕ = c.args.oldest in
    let gone : ℕ = c.in_ok-clear.field-0 in
    let s0 = (g.P.Pages.store c.args.pages.now).map in
    let s1 = (g.P.Pages.store c.clear.new.pages).map in
    file_changed s0 s1 was f2 (ThenChanges oldest gone (ComesTable place types)) (ap (λ (f : OpenedFile). f.accepted) c.in_ok-put_table.ensures.put.rest ∙ c.in_ok-clear.ensures.keeps.accepted)
    (λ version. makes_then (ClearsAsMany oldest 64 gone) (ComesTable place types) (ThenChanges oldest gone (ComesTable place types)) (then_changes oldest gone (ComesTable place types))
    s0 s1 s1 was f1 f2 version version version (c.in_ok-clear.ensures.clears tied version) (c.in_ok-put_table.ensures.makes s1 version))
    oldest c.args.definitions (g.P.Pages.store c.write_next.new.pages).map c.write_next.new.file (PutsTable place types (said_catalogue c.args.definitions))
    (λ contents last whole. table_commutes oldest gone (said_catalogue c.args.definitions) c.write_next.new.file.pages.items place contents last types whole)
    (c.in-Ok.ensures.writes (g.met.P.Pages.keeps_tied c.args.pages.now c.clear.new.pages c.in_ok-clear.ensures.leaves.keeps tied)) c.in-Ok.ensures.opened

pub returns-in-Ok-clause-opened : goal.returns-in-Ok-clause-opened
returns-in-Ok-clause-opened g c =
    let was : OpenedFile = c.args.file.now in
    let f1 : OpenedFile = c.clear.new.file in
    let f2 : OpenedFile = c.put_table.new.file in
    let f3 : OpenedFile = record f2 { definitions = c.args.definitions } in
    let keeps = c.in_ok-clear.ensures.keeps in
    let ready = ready_after was f1 keeps c.requires.may.opened.ready in
    let more = subst (λ (d : StoredCatalogue). HasTableAt c.args.place c.args.schema.items (said_catalogue d) (said_catalogue c.args.definitions)) (sym keeps.definitions) c.requires.more in
    let inside = place_to_come (said_catalogue c.args.definitions) f1 c.args.place c.args.schema.items ready more in
    let put = c.in_ok-put_table.ensures.put in
    record {
      next = next_written c.args.definitions was f2 c.write_next.new.file (ap (λ (f : OpenedFile). f.accepted) put.rest ∙ keeps.accepted)
          (ready_with_table f1 f3 ready c.requires.given c.args.place c.args.schema.items more put.table put.types_are put.no_indexes put.tables)
          (order_with_table c.args.place c.args.schema.items was.accepted f1 f2 inside put (c.in_ok-clear.ensures.order was.accepted c.requires.may.opened.order))
          c.in-Ok.ensures.opened;
      stays = tt;
    }

pub returns-in-Err-clause-leaves : goal.returns-in-Err-clause-leaves
returns-in-Err-clause-leaves g c =
    let was : OpenedFile = c.args.file.now in
    let f1 : OpenedFile = c.clear.new.file in
    let f2 : OpenedFile = c.put_table.new.file in
    let place : ℕ = c.args.place in
    let types = c.args.schema.items in
    let oldest : ℕ = c.args.oldest in
    let gone : ℕ = c.in_ok-clear.field-0 in
    let s0 = g.P.Pages.store c.args.pages.now in
    let s1 = g.P.Pages.store c.clear.new.pages in
    let later : Type 0 = g.P.Pages.is_tied c.clear.new.pages → HoldsNoneBeside s1.map f2 in
    leaves_refused g.P.Pages was later c.in-Err.why c.args.pages.now c.clear.new.pages c.write_next.new.pages
    (g.met.P.Pages.keeps_trans c.args.pages.now c.clear.new.pages c.write_next.new.pages c.in_ok-clear.ensures.leaves.keeps c.in-Err.ensures.leaves.keeps)
    (stored_by_works (g.P.Pages.is_tied c.args.pages.now → HoldsNoParts s0.map was) gone s0 s1 c.in_ok-clear.ensures.leaves.works)
    (λ none tied.
    none_next s0.map s1.map was f2 (ThenChanges oldest gone (ComesTable place types)) (ap (λ (f : OpenedFile). f.accepted) c.in_ok-put_table.ensures.put.rest ∙ c.in_ok-clear.ensures.keeps.accepted)
    (λ version. makes_then (ClearsAsMany oldest 64 gone) (ComesTable place types) (ThenChanges oldest gone (ComesTable place types)) (then_changes oldest gone (ComesTable place types))
    s0.map s1.map s1.map was f1 f2 version version version (c.in_ok-clear.ensures.clears tied version) (c.in_ok-put_table.ensures.makes s1.map version))
    (none (g.met.P.Pages.keeps_tied c.args.pages.now c.clear.new.pages c.in_ok-clear.ensures.leaves.keeps tied)))
    c.in-Err.ensures.leaves.stores

pub returns-in-Err-clause-opened : goal.returns-in-Err-clause-opened
returns-in-Err-clause-opened g c =
    let was : OpenedFile = c.args.file.now in
    let f1 : OpenedFile = c.clear.new.file in
    let f3 : OpenedFile = c.write_next.new.file in
    let f4 : OpenedFile = record f3 { tables = c.remove-table.new.self } in
    let keeps = c.in_ok-clear.ensures.keeps in
    let more = subst (λ (d : StoredCatalogue). HasTableAt c.args.place c.args.schema.items (said_catalogue d) (said_catalogue c.args.definitions)) (sym keeps.definitions) c.requires.more in
    let inside = place_to_come (said_catalogue c.args.definitions) f1 c.args.place c.args.schema.items (ready_after was f1 keeps c.requires.may.opened.ready) more in
    let put = c.in_ok-put_table.ensures.put in
    let stays = c.in-Err.ensures.stays in
    let same : c.remove-table.new.self.items ≡ f1.tables.items =
    c.remove-table.ensures.items ∙ ap (λ (f : OpenedFile). remove f.tables.items c.args.place) stays ∙ ap (λ (ts : List OpenedTable). remove ts c.args.place) put.tables
    ∙ removed_again f1.tables.items c.args.place put.table inside in
    record {
      next = tt;
      stays = keeps_then was f1 f4 keeps (record {
        definitions = ap (λ (f : OpenedFile). f.definitions) (stays ∙ put.rest);
        pages = ap (λ (f : OpenedFile). f.pages) (stays ∙ put.rest);
        accepted = ap (λ (f : OpenedFile). f.accepted) (stays ∙ put.rest);
        tables = subst (AllZip KeepsOpened f1.tables.items) (sym same) (each_same KeepsOpened same_kept f1.tables.items);
        referents = ap (λ (f : OpenedFile). f.referents.committed) (stays ∙ put.rest);
      });
    }
