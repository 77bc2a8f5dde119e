-- The definitions that the catalogue lists are checked, and go into the file with the index.
use Rattle.std.proofs.Common.{◌≡◌, ◌∙◌, ℕ, List, Some, ap, inl, inr, map, refl, subst, sym}
use Rattle.std.specs.FinMap as names
use Rattle.std.specs.Option.{option_copied}
use Rattle.std.proofs.lemmas.Result.{err_from_is_err_and}
use Rattle.rs_catalog_pages.specs.Items.{CatalogueItems}
use Rattle.rs_catalog_pages.specs.Said.{said_catalogue, said_index}
use Rattle.rs_catalog_pages.specs.declared.items.StoredIndex.{StoredIndex}
use Rattle.rs_changes.specs.Parts.{ChangesIndexes}
use Rattle.rs_changes.specs.Tables.{HasIndexOfAt}
use Rattle.rs_refusal.specs.declared.refusal.Refusal.TheVariants as refusal
use Rattle.rs_store.specs.Indexing.{ChangesListed, position_among}
use Rattle.rs_store.specs.Rewriting.{CanBeKept, Rewrites}
use Rattle.rs_stored_catalog.specs.Listing.{listing_of}
use Rattle.rs_store.proofs.Erased.{all_written}
use Rattle.rs_store.proofs.Given.{given_once}
use Rattle.rs_store.proofs.Indexed.{index_of_at}
use Rattle.rs_store.proofs.Rewritten.{rewrites_by, rewrites_unmade}
use Rattle.rs_store.proofs.Tabled.{changes_by}
use Rattle.rs_store.proofs.indexing.write_index.Goals as goal

pub check_definitions-requires : goal.check_definitions-requires
check_definitions-requires g c = record {
  small = (all_written c.args.file.now c.in_ok-stored.stored c.args.catalog.now c.requires.room c.stand.ensures c.in_ok-stored.ensures c.requires.births).small;
}

pub returns-in_err-check_definitions : goal.returns-in_err-check_definitions
returns-in_err-check_definitions g c =
    let items = listing_of c.args.catalog.now in
    let p = err_from_is_err_and c.from_residual-in_err-check_definitions.result c.from_residual-in_err-check_definitions.ensures.1 in
    rw (p.1, p.2) (rewrites_unmade g.P.Pages c.args.oldest (ChangesListed items) items c.in_err-check_definitions.field-0.0 c.args.pages.now c.args.file.now
    (g.met.P.Pages.keeps_refl c.args.pages.now)
    (inr (c.in_err-check_definitions.ensures.refused, λ kept. c.in_err-check_definitions.ensures.none (subst CanBeKept (sym c.in_ok-stored.ensures) kept))))

pub define_index-requires-clause-may : goal.define_index-requires-clause-may
define_index-requires-clause-may g c = record {
  begun = c.requires.begun;
  opened = c.requires.may;
  room = c.requires.room;
  fits = c.in_ok-check_definitions.ensures.fits;
  short = c.in_ok-check_definitions.ensures.short;
  births = (all_written c.args.file.now c.in_ok-stored.stored c.args.catalog.now c.requires.room c.stand.ensures c.in_ok-stored.ensures c.requires.births).births;
}

pub define_index-requires-clause-given : goal.define_index-requires-clause-given
define_index-requires-clause-given g c =
    (all_written c.args.file.now c.in_ok-stored.stored c.args.catalog.now c.requires.room c.stand.ensures c.in_ok-stored.ensures c.requires.births).given

pub define_index-requires-clause-more : goal.define_index-requires-clause-more
define_index-requires-clause-more g c =
    let catalog = c.args.catalog.now in
    let name = c.args.name.now.bytes in
    let now = listing_of catalog in
    let was = said_catalogue c.args.file.now.definitions in
    let one = c.unwrap-index.result.now in
    let there : names.get catalog.indexes name ≡ Some one = sym c.index.ensures ∙ ap option_copied c.unwrap-index.ensures in
    let says : said_catalogue c.in_ok-stored.stored ≡ now = c.in_ok-stored.ensures in
    let position : position_among one.number one.table_number now.indexes ≡ c.position_of-position.result = sym (c.position_of-position.ensures
    ∙ ap (λ (n : ℕ). position_among n c.table_number.result (map said_index c.as_slice.result.now)) c.number.ensures
    ∙ ap (λ (n : ℕ). position_among one.number n (map said_index c.as_slice.result.now)) c.table_number.ensures
    ∙ ap (λ (indexes : List StoredIndex). position_among one.number one.table_number (map said_index indexes)) c.as_slice.ensures.value
    ∙ ap (λ (items : CatalogueItems). position_among one.number one.table_number items.indexes) says) in
    let column : one.column ≡ c.from-column.result = sym (c.from-column.ensures ∙ c.column.ensures) in
    subst (λ (items : CatalogueItems). HasIndexOfAt c.args.place c.position_of-position.result c.from-column.result was items) (sym says)
    (subst (λ (n : ℕ). HasIndexOfAt c.args.place n c.from-column.result was now) position
    (subst (λ (n : ℕ). HasIndexOfAt c.args.place (position_among one.number one.table_number now.indexes) n was now) column
    (index_of_at name one c.args.place was now (c.requires.more one there) (given_once catalog c.stand.ensures).indexes_once)))

pub returns : goal.returns
returns g c =
    let stored = c.in_ok-stored.stored in
    let says : said_catalogue stored ≡ listing_of c.args.catalog.now = c.in_ok-stored.ensures in
    let written = all_written c.args.file.now stored c.args.catalog.now c.requires.room c.stand.ensures says c.requires.births in
    let first = c.args.pages.now in
    let last = c.define_index.new.pages in
    let changed = c.define_index.new.file in
    subst (λ (items : CatalogueItems). Rewrites g.P.Pages.is_tied g.P.Pages.store g.P.Pages.keeps c.args.oldest (ChangesListed items) items c.define_index.result first last c.args.file.now changed) says
    (rewrites_by g.P.Pages c.args.oldest (ChangesListed (said_catalogue stored)) stored c.define_index.result first last c.args.file.now changed written.births c.define_index.ensures.leaves
    (λ tied. changes_by c.args.oldest (g.P.Pages.store first).map (g.P.Pages.store last).map c.args.file.now changed (ChangesIndexes c.args.place (said_catalogue stored)) (ChangesListed (said_catalogue stored))
    c.define_index.result (λ before next opened changes. record { place = c.args.place; changes = changes }) (c.define_index.ensures.changes tied))
    c.define_index.ensures.opened)

pub returns-in_err-stored : goal.returns-in_err-stored
returns-in_err-stored g c =
    let items = listing_of c.args.catalog.now in
    let p = err_from_is_err_and c.from_residual.result c.from_residual.ensures.1 in
    rw (p.1, p.2) (rewrites_unmade g.P.Pages c.args.oldest (ChangesListed items) items refusal.OutOfMemory c.args.pages.now c.args.file.now (g.met.P.Pages.keeps_refl c.args.pages.now) (inl refl))

pub returns-in_err-routes : goal.returns-in_err-routes
returns-in_err-routes g c =
    let items = listing_of c.args.catalog.now in
    let p = err_from_is_err_and c.from_residual-in_err-routes.result c.from_residual-in_err-routes.ensures.1 in
    rw (p.1, p.2) (rewrites_unmade g.P.Pages c.args.oldest (ChangesListed items) items refusal.OutOfMemory c.args.pages.now c.args.file.now (g.met.P.Pages.keeps_refl c.args.pages.now) (inl refl))
