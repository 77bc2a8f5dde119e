-- The definitions that the catalogue lists are checked, and go into the file with the table.
use Rattle.std.proofs.Common.{◌≡◌, ◌∙◌, List, Some, ap, inl, inr, refl, slice_get, subst, sym}
use Rattle.std.proofs.lemmas.Result.{err_from_is_err_and}
use Rattle.rs_catalog_pages.specs.Items.{CatalogueItems}
use Rattle.rs_catalog_pages.specs.Said.{said_catalogue}
use Rattle.rs_catalog_pages.specs.declared.items.StoredTable.{StoredTable}
use Rattle.rs_changes.specs.Parts.{PutsTable}
use Rattle.rs_changes.specs.Tables.{HasTableAt}
use Rattle.rs_file.specs.Contents.{table_numbers}
use Rattle.rs_refusal.specs.declared.refusal.Refusal.TheVariants as refusal
use Rattle.rs_store.specs.Rewriting.{CanBeKept, Rewrites}
use Rattle.rs_store.specs.Tabling.{HasColumnsAt, HasNumbered, PutsNumbered}
use Rattle.rs_stored_catalog.specs.Listing.{listing_of}
use Rattle.rs_store.proofs.Erased.{all_written}
use Rattle.rs_store.proofs.Given.{given_once}
use Rattle.rs_store.proofs.Rewritten.{rewrites_by, rewrites_unmade}
use Rattle.rs_store.proofs.Tabled.{changes_by, has_numbered, number_listed, table_at}
use Rattle.rs_store.proofs.tabling.write_table.Goals as goal

pub check_definitions-requires : goal.check_definitions-requires
check_definitions-requires g c = record {
  small = (all_written c.args.file.now c.in_ok-stored.stored c.args.catalog.now c.requires.room c.stand.ensures c.in_ok-stored.ensures c.requires.births).small;
}

pub returns-in_err-check_definitions : goal.returns-in_err-check_definitions
returns-in_err-check_definitions g c =
    let items = listing_of c.args.catalog.now in
    let p = err_from_is_err_and c.from_residual-in_err-check_definitions.result c.from_residual-in_err-check_definitions.ensures.1 in
    rw (p.1, p.2) (rewrites_unmade g.P.Pages c.args.oldest (PutsNumbered c.args.number items) items c.in_err-check_definitions.field-0.0 c.args.pages.now c.args.file.now
    (g.met.P.Pages.keeps_refl c.args.pages.now)
    (inr (c.in_err-check_definitions.ensures.refused, λ kept. c.in_err-check_definitions.ensures.none (subst CanBeKept (sym c.in_ok-stored.ensures) kept))))

pub columns_at-place-requires : goal.columns_at-place-requires
columns_at-place-requires g c =
    let now = listing_of c.args.catalog.now in
    record {
      there = subst (λ (tables : List StoredTable). HasNumbered tables c.args.number) (sym c.as_slice.ensures.value)
          (has_numbered c.args.number _ now c.requires.more (given_once c.args.catalog.now c.stand.ensures).tables_once c.in_ok-stored.stored c.in_ok-stored.ensures);
    }

pub define_table-requires-clause-given : goal.define_table-requires-clause-given
define_table-requires-clause-given g c =
    (all_written c.args.file.now c.in_ok-stored.stored c.args.catalog.now c.requires.room c.stand.ensures c.in_ok-stored.ensures c.requires.births).given

pub define_table-requires-clause-more : goal.define_table-requires-clause-more
define_table-requires-clause-more g c =
    let now = listing_of c.args.catalog.now in
    let was = said_catalogue c.args.file.now.definitions in
    let place = c.columns_at-place.result.0 in
    let types = c.columns_at-place.result.1.items in
    let at = subst (λ (tables : List StoredTable). HasColumnsAt tables c.args.number place types) c.as_slice.ensures.value c.columns_at-place.ensures.at in
    subst (λ (items : CatalogueItems). HasTableAt place types was items) (sym c.in_ok-stored.ensures)
    (table_at c.args.number was now c.requires.more (given_once c.args.catalog.now c.stand.ensures).tables_once c.in_ok-stored.stored c.in_ok-stored.ensures place types at)

pub define_table-requires-clause-may : goal.define_table-requires-clause-may
define_table-requires-clause-may g c = record {
  begun = c.requires.begun;
  opened = c.requires.may;
  room = c.requires.room;
  fits = c.in_ok-check_definitions.ensures.fits;
  short = c.in_ok-check_definitions.ensures.short;
  births = (all_written c.args.file.now c.in_ok-stored.stored c.args.catalog.now c.requires.room c.stand.ensures c.in_ok-stored.ensures c.requires.births).births;
}

pub returns : goal.returns
returns g c =
    let now = listing_of c.args.catalog.now in
    let was = said_catalogue c.args.file.now.definitions in
    let stored = c.in_ok-stored.stored in
    let says : said_catalogue stored ≡ now = c.in_ok-stored.ensures in
    let written = all_written c.args.file.now stored c.args.catalog.now c.requires.room c.stand.ensures says c.requires.births in
    let place = c.columns_at-place.result.0 in
    let types = c.columns_at-place.result.1.items in
    let first = c.args.pages.now in
    let last = c.define_table.new.pages in
    let changed = c.define_table.new.file in
    let at = subst (λ (tables : List StoredTable). HasColumnsAt tables c.args.number place types) c.as_slice.ensures.value c.columns_at-place.ensures.at in
    let listed : slice_get (table_numbers (said_catalogue stored)) place ≡ Some c.args.number =
    ap (λ (items : CatalogueItems). slice_get (table_numbers items) place) says
    ∙ number_listed c.args.number was now c.requires.more (given_once c.args.catalog.now c.stand.ensures).tables_once stored says place types at in
    subst (λ (items : CatalogueItems). Rewrites g.P.Pages.is_tied g.P.Pages.store g.P.Pages.keeps c.args.oldest (PutsNumbered c.args.number items) items c.define_table.result first last c.args.file.now changed) says
    (rewrites_by g.P.Pages c.args.oldest (PutsNumbered c.args.number (said_catalogue stored)) stored c.define_table.result first last c.args.file.now changed written.births c.define_table.ensures.leaves
    (λ tied. changes_by c.args.oldest (g.P.Pages.store first).map (g.P.Pages.store last).map c.args.file.now changed (PutsTable place types (said_catalogue stored)) (PutsNumbered c.args.number (said_catalogue stored))
    c.define_table.result (λ one next opened puts. record { place = place; types = types; at = listed; puts = puts }) (c.define_table.ensures.puts tied))
    c.define_table.ensures.opened)

pub returns-in_err-stored : goal.returns-in_err-stored
returns-in_err-stored g c =
    let items = listing_of c.args.catalog.now in
    let p = err_from_is_err_and c.from_residual.result c.from_residual.ensures.1 in
    rw (p.1, p.2) (rewrites_unmade g.P.Pages c.args.oldest (PutsNumbered c.args.number items) items refusal.OutOfMemory c.args.pages.now c.args.file.now
    (g.met.P.Pages.keeps_refl c.args.pages.now) (inl refl))
