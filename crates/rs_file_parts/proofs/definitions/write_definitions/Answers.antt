-- The definitions are stored beside all else.
use Rattle.std.proofs.Common.{ℕ, List, refl, subst, sym, ap}
use Rattle.std.proofs.lemmas.Result.{err_from_is_err_and}
use Rattle.rs_catalog_pages.specs.Said.{said_catalogue}
use Rattle.rs_catalog_pages.specs.Storing.{HasNoOwnBytes, StoresCatalogue}
use Rattle.rs_file.specs.declared.opened.OpenedFile.{OpenedFile}
use Rattle.rs_catalog_pages.specs.declared.items.StoredCatalogue.{StoredCatalogue}
use Rattle.rs_file_parts.specs.Calls.{ChangesDefinitions}
use Rattle.rs_file_parts.specs.Parts.{HoldsNoParts, Makes}
use Rattle.rs_file_parts.proofs.Written.{definitions_made, no_definitions, stores_err}
use Rattle.rs_file_parts.proofs.definitions.write_definitions.Goals as goal

pub returns-in_err-numbers-clause-leaves : goal.returns-in_err-numbers-clause-leaves
returns-in_err-numbers-clause-leaves g c =
    let was = c.args.file.now in
    let old = g.P.Pages.store c.args.pages.now in
    let p = err_from_is_err_and c.from_residual.result c.from_residual.ensures.1 in
    record {
      keeps = c.in_err-numbers.ensures.leaves.keeps;
      works = rw (p.1, p.2) (stores_err (g.P.Pages.is_tied c.args.pages.now → HasNoOwnBytes old.map c.as_slice.result.now) (g.P.Pages.is_tied c.args.pages.now → HoldsNoParts old.map was) c.in_err-numbers.field-0.0
          old (g.P.Pages.store c.store.new.pages) (λ none tied. no_definitions old.map was (subst (HasNoOwnBytes old.map) c.as_slice.ensures.value (none tied))) c.in_err-numbers.ensures.leaves.works);
    }

pub returns-clause-defines : goal.returns-clause-defines
returns-clause-defines g c = λ tied from to later.
    let was : OpenedFile = c.args.file.now in
    let is : OpenedFile = record was { definitions = c.replace-definitions.new.dest; pages = c.replace-pages.new.dest } in
    let old = (g.P.Pages.store c.args.pages.now).map in
    let new = (g.P.Pages.store c.store.new.pages).map in
    let stores = subst (λ (ns : List ℕ). StoresCatalogue old new ns c.in_ok-numbers.numbers.items (said_catalogue c.args.definitions)) c.as_slice.ensures.value (c.in_ok-numbers.ensures.stores tied) in
    let in_pages = subst (λ (ns : List ℕ). StoresCatalogue old new was.pages.items ns (said_catalogue c.args.definitions)) (sym (ap (λ (v : _). v.items) c.replace-pages.ensures.after)) stores in
    subst (λ (d : StoredCatalogue). Makes old new was is from to (ChangesDefinitions (said_catalogue d))) c.replace-definitions.ensures.after
    (definitions_made old new was is from to later refl refl
    (subst (λ (d : StoredCatalogue). StoresCatalogue old new was.pages.items is.pages.items (said_catalogue d)) (sym c.replace-definitions.ensures.after) in_pages))
