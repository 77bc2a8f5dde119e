-- The table of the catalogue has its number in the file, and at no other place.
use Rattle.std.proofs.Common.{◌≡◌, ◌∙◌, ℕ, Some, ap, subst, sym}
use Rattle.std.specs.FinMap as names
use Rattle.std.specs.Option.{option_copied}
use Rattle.std.proofs.lemmas.Option.{same_Some}
use Rattle.rs_catalog.specs.Definitions.{TableItem}
use Rattle.rs_store.specs.Placing.{IsNumberedAt}
use Rattle.rs_store.proofs.Placed.{number_there, place_of_number}
use Rattle.rs_store.proofs.placing.table_place.Goals as goal

pub numbered_place-requires : goal.numbered_place-requires
numbered_place-requires c =
    let one = c.unwrap.result.now in
    let there : names.get c.args.catalog.now.tables c.args.table.now.bytes ≡ Some one = sym c.table.ensures ∙ ap option_copied c.unwrap.ensures in
    number_there c.args.file.now c.args.catalog.now c.requires.rests c.args.table.now.bytes one c.number-number.result there (sym c.number-number.ensures)

pub returns : goal.returns
returns c = λ item there.
    let one = c.unwrap.result.now in
    let mine : names.get c.args.catalog.now.tables c.args.table.now.bytes ≡ Some one = sym c.table.ensures ∙ ap option_copied c.unwrap.ensures in
    let same : one ≡ item = same_Some one item (sym mine ∙ there) in
    place_of_number c.args.file.now c.args.catalog.now c.requires.rests c.stand.ensures c.args.table.now.bytes item c.numbered_place.result there
    (subst (λ (n : ℕ). IsNumberedAt c.args.file.now.definitions.tables.items n c.numbered_place.result) (c.number-number.ensures ∙ ap (λ (i : TableItem). i.number) same)
    c.numbered_place.ensures)
