-- The definitions without the table are checked, and go into the file as the table goes out of it.
use Rattle.std.proofs.Common.{◌≡◌, ◌∙◌, Some, ap, inl, inr, refl, slice_get, subst, sym}
use Rattle.std.specs.FinMap as names
use Rattle.std.specs.Option.{option_copied}
use Rattle.std.proofs.lemmas.Result.{err_from_is_err_and}
use Rattle.rs_catalog.specs.Changes as changes
use Rattle.rs_catalog_pages.specs.Items.{CatalogueItems}
use Rattle.rs_catalog_pages.specs.Said.{said_catalogue}
use Rattle.rs_changes.specs.Parts.{TakesTable}
use Rattle.rs_changes.specs.Tables.{LosesTableAt}
use Rattle.rs_file.specs.Contents.{table_numbers}
use Rattle.rs_refusal.specs.declared.refusal.Refusal.TheVariants as refusal
use Rattle.rs_store.specs.Rewriting.{CanBeKept, Rewrites}
use Rattle.rs_store.specs.Tabling.{TakesNamed, without_number}
use Rattle.rs_stored_catalog.specs.Listing.{listed_table, listing_of}
use Rattle.rs_store.proofs.Erased.{without_table_written}
use Rattle.rs_store.proofs.Given.{given_once}
use Rattle.rs_store.proofs.Rewritten.{rewrites_by, rewrites_unmade}
use Rattle.rs_store.proofs.TableLess.{loses_at}
use Rattle.rs_store.proofs.Tabled.{changes_by}
use Rattle.rs_store.proofs.tabling.erase_table.Goals as goal

pub check_definitions-requires : goal.check_definitions-requires
check_definitions-requires g c =
    let name = c.args.name.now.bytes in
    let catalog = c.args.catalog.now in
    let one = c.unwrap.result.now in
    let there : names.get catalog.tables name ≡ Some one = sym c.table.ensures ∙ ap option_copied c.unwrap.ensures in
    let loses = c.one_table_is_listed_more_or_less.ensures.less catalog name one c.stand.ensures there in
    let written = without_table_written c.args.file.now c.in_ok-stored.stored catalog name c.requires.rests c.requires.room c.stand.ensures one loses
    (c.in_ok-stored.ensures ∙ ap (λ n. without_number n (listing_of catalog)) c.number-number.ensures) in
    record { small = written.small }

pub returns-in_err-check_definitions : goal.returns-in_err-check_definitions
returns-in_err-check_definitions g c =
    let name = c.args.name.now.bytes in
    let catalog = c.args.catalog.now in
    let one = c.unwrap.result.now in
    let there : names.get catalog.tables name ≡ Some one = sym c.table.ensures ∙ ap option_copied c.unwrap.ensures in
    let loses = c.one_table_is_listed_more_or_less.ensures.less catalog name one c.stand.ensures there in
    let written = without_table_written c.args.file.now c.in_ok-stored.stored catalog name c.requires.rests c.requires.room c.stand.ensures one loses
    (c.in_ok-stored.ensures ∙ ap (λ n. without_number n (listing_of catalog)) c.number-number.ensures) in
    let now = listing_of (changes.without_table catalog name) in
    let p = err_from_is_err_and c.from_residual-in_err-check_definitions.result c.from_residual-in_err-check_definitions.ensures.1 in
    rw (p.1, p.2) (rewrites_unmade g.P.Pages c.args.oldest (TakesNamed catalog.tables name now) now c.in_err-check_definitions.field-0.0 c.args.pages.now c.args.file.now
    (g.met.P.Pages.keeps_refl c.args.pages.now)
    (inr (c.in_err-check_definitions.ensures.refused, λ kept. c.in_err-check_definitions.ensures.none (subst CanBeKept (sym written.says) kept))))

pub drop_table-requires-clause-may : goal.drop_table-requires-clause-may
drop_table-requires-clause-may g c =
    let name = c.args.name.now.bytes in
    let catalog = c.args.catalog.now in
    let one = c.unwrap.result.now in
    let there : names.get catalog.tables name ≡ Some one = sym c.table.ensures ∙ ap option_copied c.unwrap.ensures in
    let loses = c.one_table_is_listed_more_or_less.ensures.less catalog name one c.stand.ensures there in
    let written = without_table_written c.args.file.now c.in_ok-stored.stored catalog name c.requires.rests c.requires.room c.stand.ensures one loses
    (c.in_ok-stored.ensures ∙ ap (λ n. without_number n (listing_of catalog)) c.number-number.ensures) in
    record {
      begun = c.requires.begun;
      opened = c.requires.rests.may;
      room = c.requires.room;
      fits = c.in_ok-check_definitions.ensures.fits;
      short = c.in_ok-check_definitions.ensures.short;
      births = written.births;
    }

pub drop_table-requires-clause-given : goal.drop_table-requires-clause-given
drop_table-requires-clause-given g c =
    let name = c.args.name.now.bytes in
    let catalog = c.args.catalog.now in
    let one = c.unwrap.result.now in
    let there : names.get catalog.tables name ≡ Some one = sym c.table.ensures ∙ ap option_copied c.unwrap.ensures in
    let loses = c.one_table_is_listed_more_or_less.ensures.less catalog name one c.stand.ensures there in
    let written = without_table_written c.args.file.now c.in_ok-stored.stored catalog name c.requires.rests c.requires.room c.stand.ensures one loses
    (c.in_ok-stored.ensures ∙ ap (λ n. without_number n (listing_of catalog)) c.number-number.ensures) in
    written.given

pub drop_table-requires-clause-less : goal.drop_table-requires-clause-less
drop_table-requires-clause-less g c =
    let name = c.args.name.now.bytes in
    let catalog = c.args.catalog.now in
    let one = c.unwrap.result.now in
    let there : names.get catalog.tables name ≡ Some one = sym c.table.ensures ∙ ap option_copied c.unwrap.ensures in
    let loses = c.one_table_is_listed_more_or_less.ensures.less catalog name one c.stand.ensures there in
    let written = without_table_written c.args.file.now c.in_ok-stored.stored catalog name c.requires.rests c.requires.room c.stand.ensures one loses
    (c.in_ok-stored.ensures ∙ ap (λ n. without_number n (listing_of catalog)) c.number-number.ensures) in
    let were = listing_of catalog in
    let now = listing_of (changes.without_table catalog name) in
    let place = c.table_place-place.result in
    let placed : slice_get (table_numbers were) place ≡ Some one.number =
    ap (λ (items : CatalogueItems). slice_get (table_numbers items) place) c.requires.rests.listing ∙ (c.table_place-place.ensures one there).numbered in
    subst (λ (items : CatalogueItems). LosesTableAt place items (said_catalogue c.in_ok-stored.stored)) c.requires.rests.listing
    (subst (λ (items : CatalogueItems). LosesTableAt place were items) (sym written.says)
    (loses_at were now (listed_table (name, one)) place loses (given_once catalog c.stand.ensures).tables_once placed))

pub returns : goal.returns
returns g c =
    let name = c.args.name.now.bytes in
    let catalog = c.args.catalog.now in
    let one = c.unwrap.result.now in
    let there : names.get catalog.tables name ≡ Some one = sym c.table.ensures ∙ ap option_copied c.unwrap.ensures in
    let loses = c.one_table_is_listed_more_or_less.ensures.less catalog name one c.stand.ensures there in
    let written = without_table_written c.args.file.now c.in_ok-stored.stored catalog name c.requires.rests c.requires.room c.stand.ensures one loses
    (c.in_ok-stored.ensures ∙ ap (λ n. without_number n (listing_of catalog)) c.number-number.ensures) in
    let stored = c.in_ok-stored.stored in
    let place = c.table_place-place.result in
    let placed = (c.table_place-place.ensures one there).numbered in
    let first = c.args.pages.now in
    let last = c.drop_table.new.pages in
    let changed = c.drop_table.new.file in
    subst (λ (items : CatalogueItems). Rewrites g.P.Pages.is_tied g.P.Pages.store g.P.Pages.keeps c.args.oldest (TakesNamed catalog.tables name items) items c.drop_table.result first last c.args.file.now changed) written.says
    (rewrites_by g.P.Pages c.args.oldest (TakesNamed catalog.tables name (said_catalogue stored)) stored c.drop_table.result first last c.args.file.now changed written.births c.drop_table.ensures.leaves
    (λ tied. changes_by c.args.oldest (g.P.Pages.store first).map (g.P.Pages.store last).map c.args.file.now changed (TakesTable place (said_catalogue stored)) (TakesNamed catalog.tables name (said_catalogue stored))
    c.drop_table.result
    (λ before next opened takes. record {
      item = one;
      there = there;
      place = place;
      at = ap (λ (items : CatalogueItems). slice_get (table_numbers items) place) opened.definitions ∙ placed;
      takes = takes;
    }) (c.drop_table.ensures.takes tied))
    c.drop_table.ensures.opened)

pub returns-in_err-stored : goal.returns-in_err-stored
returns-in_err-stored g c =
    let now = listing_of (changes.without_table c.args.catalog.now c.args.name.now.bytes) in
    let p = err_from_is_err_and c.from_residual.result c.from_residual.ensures.1 in
    rw (p.1, p.2) (rewrites_unmade g.P.Pages c.args.oldest (TakesNamed c.args.catalog.now.tables c.args.name.now.bytes now) now refusal.OutOfMemory c.args.pages.now c.args.file.now
    (g.met.P.Pages.keeps_refl c.args.pages.now) (inl refl))
