-- The definitions without the index are checked, and go into the file as the index goes out of it.
use Rattle.std.proofs.Common.{◌≡◌, ◌∙◌, ℕ, List, Some, ap, inl, inr, is_some, map, refl, slice_get, subst, sym}
use Rattle.std.specs.FinMap as names
use Rattle.std.specs.Option.{option_copied}
use Rattle.std.proofs.lemmas.Result.{err_from_is_err_and}
use Rattle.rs_catalog.specs.Changes as changes
use Rattle.rs_catalog_pages.specs.Items.{CatalogueItems}
use Rattle.rs_catalog_pages.specs.Said.{said_catalogue, said_index}
use Rattle.rs_catalog_pages.specs.declared.items.StoredIndex.{StoredIndex}
use Rattle.rs_changes.specs.Parts.{ChangesIndexes}
use Rattle.rs_changes.specs.Tables.{HasIndexAt}
use Rattle.rs_file.specs.Contents.{table_numbers}
use Rattle.rs_machine.specs.State.{has}
use Rattle.rs_refusal.specs.declared.refusal.Refusal.TheVariants as refusal
use Rattle.rs_store.specs.Indexing.{ChangesListed, position_among, without_index_numbered}
use Rattle.rs_store.specs.Rewriting.{CanBeKept, Rewrites}
use Rattle.rs_stored_catalog.specs.Listing.{listed_index, listed_table, listing_of}
use Rattle.rs_store.proofs.Erased.{without_index_written}
use Rattle.rs_store.proofs.Given.{given_once}
use Rattle.rs_store.proofs.Indexed.{index_at, table_listed}
use Rattle.rs_store.proofs.Rewritten.{rewrites_by, rewrites_unmade}
use Rattle.rs_store.proofs.Tabled.{changes_by}
use Rattle.rs_store.proofs.indexing.erase_index.Goals as goal

pub table_place-place-requires-clause-there : goal.table_place-place-requires-clause-there
table_place-place-requires-clause-there g c =
    let name = c.args.name.now.bytes in
    let catalog = c.args.catalog.now in
    let one = c.unwrap-index.result.now in
    let there : names.get catalog.indexes name ≡ Some one = sym c.index.ensures ∙ ap option_copied c.unwrap-index.ensures in
    ap (has catalog.tables) c.table.ensures ∙ ap is_some (c.stand.ensures.indexes name one there).1.there

pub check_definitions-requires : goal.check_definitions-requires
check_definitions-requires g c =
    let name = c.args.name.now.bytes in
    let catalog = c.args.catalog.now in
    let one = c.unwrap-index.result.now in
    let there : names.get catalog.indexes name ≡ Some one = sym c.index.ensures ∙ ap option_copied c.unwrap-index.ensures in
    let more = c.one_index_is_listed_more_or_less.ensures.less catalog name one there in
    let written = without_index_written c.args.file.now c.in_ok-stored.stored catalog name c.requires.rests c.requires.room c.stand.ensures one more
    (c.in_ok-stored.ensures ∙ ap (λ n. without_index_numbered n (listing_of catalog)) c.number-number.ensures) in
    record { small = written.small }

pub returns-in_err-check_definitions : goal.returns-in_err-check_definitions
returns-in_err-check_definitions g c =
    let name = c.args.name.now.bytes in
    let catalog = c.args.catalog.now in
    let one = c.unwrap-index.result.now in
    let there : names.get catalog.indexes name ≡ Some one = sym c.index.ensures ∙ ap option_copied c.unwrap-index.ensures in
    let more = c.one_index_is_listed_more_or_less.ensures.less catalog name one there in
    let written = without_index_written c.args.file.now c.in_ok-stored.stored catalog name c.requires.rests c.requires.room c.stand.ensures one more
    (c.in_ok-stored.ensures ∙ ap (λ n. without_index_numbered n (listing_of catalog)) c.number-number.ensures) in
    let now = listing_of (changes.without_index catalog name) in
    let p = err_from_is_err_and c.from_residual-in_err-check_definitions.result c.from_residual-in_err-check_definitions.ensures.1 in
    rw (p.1, p.2) (rewrites_unmade g.P.Pages c.args.oldest (ChangesListed now) now c.in_err-check_definitions.field-0.0 c.args.pages.now c.args.file.now
    (g.met.P.Pages.keeps_refl c.args.pages.now)
    (inr (c.in_err-check_definitions.ensures.refused, λ kept. c.in_err-check_definitions.ensures.none (subst CanBeKept (sym written.says) kept))))

pub drop_index-requires-clause-may : goal.drop_index-requires-clause-may
drop_index-requires-clause-may g c =
    let name = c.args.name.now.bytes in
    let catalog = c.args.catalog.now in
    let one = c.unwrap-index.result.now in
    let there : names.get catalog.indexes name ≡ Some one = sym c.index.ensures ∙ ap option_copied c.unwrap-index.ensures in
    let more = c.one_index_is_listed_more_or_less.ensures.less catalog name one there in
    let written = without_index_written c.args.file.now c.in_ok-stored.stored catalog name c.requires.rests c.requires.room c.stand.ensures one more
    (c.in_ok-stored.ensures ∙ ap (λ n. without_index_numbered n (listing_of catalog)) c.number-number.ensures) in
    record {
      begun = c.requires.begun;
      opened = c.requires.rests.may;
      room = c.requires.room;
      fits = c.in_ok-check_definitions.ensures.fits;
      short = c.in_ok-check_definitions.ensures.short;
      births = written.births;
    }

pub drop_index-requires-clause-given : goal.drop_index-requires-clause-given
drop_index-requires-clause-given g c =
    let name = c.args.name.now.bytes in
    let catalog = c.args.catalog.now in
    let one = c.unwrap-index.result.now in
    let there : names.get catalog.indexes name ≡ Some one = sym c.index.ensures ∙ ap option_copied c.unwrap-index.ensures in
    let more = c.one_index_is_listed_more_or_less.ensures.less catalog name one there in
    let written = without_index_written c.args.file.now c.in_ok-stored.stored catalog name c.requires.rests c.requires.room c.stand.ensures one more
    (c.in_ok-stored.ensures ∙ ap (λ n. without_index_numbered n (listing_of catalog)) c.number-number.ensures) in
    written.given

pub drop_index-requires-clause-less : goal.drop_index-requires-clause-less
drop_index-requires-clause-less g c =
    let name = c.args.name.now.bytes in
    let catalog = c.args.catalog.now in
    let one = c.unwrap-index.result.now in
    let there : names.get catalog.indexes name ≡ Some one = sym c.index.ensures ∙ ap option_copied c.unwrap-index.ensures in
    let more = c.one_index_is_listed_more_or_less.ensures.less catalog name one there in
    let written = without_index_written c.args.file.now c.in_ok-stored.stored catalog name c.requires.rests c.requires.room c.stand.ensures one more
    (c.in_ok-stored.ensures ∙ ap (λ n. without_index_numbered n (listing_of catalog)) c.number-number.ensures) in
    let were = listing_of catalog in
    let now = listing_of (changes.without_index catalog name) in
    let given = given_once catalog c.stand.ensures in
    let place = c.table_place-place.result in
    let listing = c.requires.rests.listing in
    let of = (c.stand.ensures.indexes name one there).1 in
    let placed : slice_get (table_numbers were) place ≡ Some of.table.number =
    ap (λ (items : CatalogueItems). slice_get (table_numbers items) place) listing
    ∙ (c.table_place-place.ensures of.table (ap (names.get catalog.tables) c.table.ensures ∙ of.there)).numbered in
    let position : position_among one.number one.table_number were.indexes ≡ c.position_of-position.result = sym (c.position_of-position.ensures
    ∙ ap (λ (n : ℕ). position_among n c.table_number.result (map said_index c.as_slice.result.now)) c.number-number.ensures
    ∙ ap (λ (n : ℕ). position_among one.number n (map said_index c.as_slice.result.now)) c.table_number.ensures
    ∙ ap (λ (indexes : List StoredIndex). position_among one.number one.table_number (map said_index indexes)) c.as_slice.ensures.value
    ∙ ap (λ (items : CatalogueItems). position_among one.number one.table_number items.indexes) (sym listing)) in
    subst (λ (items : CatalogueItems). HasIndexAt place c.position_of-position.result (said_catalogue c.in_ok-stored.stored) items) listing
    (subst (λ (items : CatalogueItems). HasIndexAt place c.position_of-position.result items were) (sym written.says)
    (subst (λ (n : ℕ). HasIndexAt place n now were) position
    (index_at now were (listed_index (name, one)) (listed_table (one.table, of.table)) place more
    (table_listed catalog one.table of.table place of.there given.tables_once placed) (sym of.numbered) given.indexes_once)))

pub returns : goal.returns
returns g c =
    let name = c.args.name.now.bytes in
    let catalog = c.args.catalog.now in
    let one = c.unwrap-index.result.now in
    let there : names.get catalog.indexes name ≡ Some one = sym c.index.ensures ∙ ap option_copied c.unwrap-index.ensures in
    let more = c.one_index_is_listed_more_or_less.ensures.less catalog name one there in
    let written = without_index_written c.args.file.now c.in_ok-stored.stored catalog name c.requires.rests c.requires.room c.stand.ensures one more
    (c.in_ok-stored.ensures ∙ ap (λ n. without_index_numbered n (listing_of catalog)) c.number-number.ensures) in
    let stored = c.in_ok-stored.stored in
    let place = c.table_place-place.result in
    let first = c.args.pages.now in
    let last = c.drop_index.new.pages in
    let changed = c.drop_index.new.file in
    subst (λ (items : CatalogueItems). Rewrites g.P.Pages.is_tied g.P.Pages.store g.P.Pages.keeps c.args.oldest (ChangesListed items) items c.drop_index.result first last c.args.file.now changed) written.says
    (rewrites_by g.P.Pages c.args.oldest (ChangesListed (said_catalogue stored)) stored c.drop_index.result first last c.args.file.now changed written.births c.drop_index.ensures.leaves
    (λ tied. changes_by c.args.oldest (g.P.Pages.store first).map (g.P.Pages.store last).map c.args.file.now changed (ChangesIndexes place (said_catalogue stored)) (ChangesListed (said_catalogue stored))
    c.drop_index.result (λ before next opened changes. record { place = place; changes = changes }) (c.drop_index.ensures.changes tied))
    c.drop_index.ensures.opened)

pub returns-in_err-stored : goal.returns-in_err-stored
returns-in_err-stored g c =
    let now = listing_of (changes.without_index c.args.catalog.now c.args.name.now.bytes) in
    let p = err_from_is_err_and c.from_residual.result c.from_residual.ensures.1 in
    rw (p.1, p.2) (rewrites_unmade g.P.Pages c.args.oldest (ChangesListed now) now refusal.OutOfMemory c.args.pages.now c.args.file.now (g.met.P.Pages.keeps_refl c.args.pages.now) (inl refl))
