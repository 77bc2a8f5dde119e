-- The indexes of each table in turn.
use Rattle.std.proofs.Common.{◌≡◌, ◌<◌, ◌∙◌, List, ap, length, map, refl, sym, subst, take, arith, rules}
use Rattle.std.proofs.lemmas.List.{length-map, take_all}
use Rattle.std.proofs.lemmas.Option.{slice_get_read}
use Rattle.rs_attr.specs.Tables.{IndexState}
use Rattle.rs_catalog_pages.specs.Items.{TableItem}
use Rattle.rs_catalog_pages.specs.Said.{said_index, said_table}
use Rattle.rs_catalog_pages.specs.declared.directory_items.StoredRoot.{StoredRoot}
use Rattle.rs_catalog_pages.specs.declared.items.StoredTable.{StoredTable}
use Rattle.rs_file.specs.Slots.{ArePut, AreRoots, HasAsMany, indexes_on, said_roots}
use Rattle.rs_file.specs.declared.opened.OpenedTable.{OpenedTable}
use Rattle.rs_file.proofs.Numbering.{said_at}
use Rattle.rs_file.proofs.Slotted.{roots_next, roots_none}
use Rattle.rs_tree.proofs.Lists.{zip_at, zip_lengths}
use Rattle.rs_file.proofs.directory.roots_of.Goals as goal

pub loop-place-init : goal.loop-place-init
loop-place-init c = roots_none (map said_index c.args.indexes.now) c.in_ok-roots.roots.items c.in_ok-roots.ensures.many c.in_ok-roots.ensures.none

pub bounds-items-place : goal.bounds-items-place
bounds-items-place c =
    omega (arith, length-map c.args.items.now said_table, zip_lengths (HasAsMany (map said_index c.args.indexes.now)) (map said_table c.args.items.now) c.args.tables.now c.requires.many)

pub bounds-items-place-in-loop-place : goal.bounds-items-place-in-loop-place
bounds-items-place-in-loop-place c =
    omega (arith, length-map c.args.items.now said_table, zip_lengths (HasAsMany (map said_index c.args.indexes.now)) (map said_table c.args.items.now) c.args.tables.now c.requires.many)

pub offset_bounds-items-place : goal.offset_bounds-items-place
offset_bounds-items-place c =
    let inside : c.loop-place.place < length c.args.items.now =
    omega (arith, length-map c.args.items.now said_table, zip_lengths (HasAsMany (map said_index c.args.indexes.now)) (map said_table c.args.items.now) c.args.tables.now c.requires.many) in
    search rules

pub put_roots-requires-clause-slots : goal.put_roots-requires-clause-slots
put_roots-requires-clause-slots c = sym (length-map c.loop-place.roots.items (λ (root : StoredRoot). root.root)) ∙ c.loop-place.invariant.slots

pub put_roots-requires-clause-fit : goal.put_roots-requires-clause-fit
put_roots-requires-clause-fit c = c.loop-place.invariant.fit

pub put_roots-requires-clause-many : goal.put_roots-requires-clause-many
put_roots-requires-clause-many c =
    let items = map said_table c.args.items.now in
    let tables = c.args.tables.now in
    let k = c.loop-place.place in
    let inside : k < length c.args.items.now =
    omega (arith, length-map c.args.items.now said_table, zip_lengths (HasAsMany (map said_index c.args.indexes.now)) items tables c.requires.many) in
    let there = said_at said_table c.args.items.now k c.index-items-place.result inside c.index-items-place.is in
    let here = slice_get_read tables (length tables) k c.index-tables-place.result refl (omega arith) c.index-tables-place.is in
    subst (λ n. length (indexes_on (map said_index c.args.indexes.now) n) ≡ length c.as_slice.result.now) (ap (λ (table : StoredTable). table.number) c.index-items-place.is)
    (zip_at (HasAsMany (map said_index c.args.indexes.now)) items tables k (said_table c.index-items-place.result) c.index-tables-place.result c.requires.many there here
    ∙ ap length (sym c.as_slice.ensures.value))

pub loop-place-preserved : goal.loop-place-preserved
loop-place-preserved c =
    let items = map said_table c.args.items.now in
    let indexes = map said_index c.args.indexes.now in
    let tables = c.args.tables.now in
    let k = c.loop-place.place in
    let item = c.index-items-place.result in
    let table = c.index-tables-place.result in
    let inside : k < length c.args.items.now = omega (arith, length-map c.args.items.now said_table, zip_lengths (HasAsMany indexes) items tables c.requires.many) in
    let there = said_at said_table c.args.items.now k item inside c.index-items-place.is in
    let here = slice_get_read tables (length tables) k table refl (omega arith) c.index-tables-place.is in
    let old = said_roots c.loop-place.roots.items in
    let new = said_roots c.put_roots.new.roots.items in
    roots_next indexes items tables old new k (said_table item) table there here (c.requires.tables_once item.number) c.requires.once
    (subst (λ (states : List IndexState). ArePut (indexes_on indexes item.number) states old new) c.as_slice.ensures.value
    (subst (λ n. ArePut (indexes_on indexes n) c.as_slice.result.now old new) (sym (ap (λ (table : StoredTable). table.number) c.index-items-place.is)) c.put_roots.ensures)) c.loop-place.invariant

pub returns : goal.returns
returns c =
    let items = map said_table c.args.items.now in
    let indexes = map said_index c.args.indexes.now in
    let tables = c.args.tables.now in
    let k = c.loop-place.place in
    let roots = said_roots c.loop-place.roots.items in
    subst (λ (xs : List TableItem). AreRoots indexes xs tables roots) (take_all k items (omega (arith, zip_lengths (HasAsMany indexes) items tables c.requires.many)))
    (subst (λ (ys : List OpenedTable). AreRoots indexes (take k items) ys roots) (take_all k tables (omega arith)) c.loop-place.invariant)
