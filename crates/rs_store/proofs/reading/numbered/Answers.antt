-- The table at the place of its number.
use Rattle.std.proofs.Common.{◌<◌, List, length, refl, subst, arith}
use Rattle.std.proofs.lemmas.Option.{slice_get_read}
use Rattle.rs_catalog_pages.specs.Said.{said_catalogue}
use Rattle.rs_catalog_pages.specs.declared.items.StoredTable.{StoredTable}
use Rattle.rs_file.specs.Slots.{IsOfItem}
use Rattle.rs_store.specs.Placing.{IsNumberedAt}
use Rattle.rs_store.proofs.Numbered.{open_within}
use Rattle.rs_store.proofs.reading.numbered.Goals as goal

pub index-requires : goal.index-requires
index-requires c =
    let file = c.args.file.now in
    let at = subst (λ (tables : List StoredTable). IsNumberedAt tables c.args.number c.in_ok-place.place) c.as_slice.ensures.value c.in_ok-place.ensures.found in
    omega (arith, open_within (IsOfItem (said_catalogue file.definitions)) file.definitions.tables.items file.tables.items c.in_ok-place.place at.table c.requires.ready.tables at.there, file.tables.ok)

pub returns-clause-found : goal.returns-clause-found
returns-clause-found c =
    let file = c.args.file.now in
    let at = subst (λ (tables : List StoredTable). IsNumberedAt tables c.args.number c.in_ok-place.place) c.as_slice.ensures.value c.in_ok-place.ensures.found in
    let inside : c.in_ok-place.place < length file.tables.items =
    open_within (IsOfItem (said_catalogue file.definitions)) file.definitions.tables.items file.tables.items c.in_ok-place.place at.table c.requires.ready.tables at.there in
    record {
      place = c.in_ok-place.place;
      numbered = at;
      there = slice_get_read file.tables.items (length file.tables.items) c.in_ok-place.place c.index.result.now refl inside c.index.ensures;
    }
