-- The slots of the tables, of the indexes, of the referents and of the version, one after another.
use Rattle.std.proofs.Common.{◌<◌, ◌≤◌, ◌∙◌, List, ap, length, map, sym, subst}
use Rattle.std.specs.List.{AllByRecursion, AllZip}
use Rattle.std.proofs.lemmas.List.{length-map}
use Rattle.rs_catalog_pages.specs.Directory.{TreeItem}
use Rattle.rs_catalog_pages.specs.Items.{IndexItem, TableItem}
use Rattle.rs_catalog_pages.specs.Said.{said_catalogue, said_index, said_table}
use Rattle.rs_catalog_pages.specs.declared.directory_items.TheConstants.{INDEXES, TABLES}
use Rattle.rs_catalog_pages.specs.declared.items.StoredIndex.{StoredIndex}
use Rattle.rs_catalog_pages.specs.declared.items.StoredTable.{StoredTable}
use Rattle.rs_file.specs.Slots.{HasAsMany, IsOfItem}
use Rattle.rs_file.proofs.Slotted.{as_many}
use Rattle.rs_file.specs.declared.opened.OpenedTable.{OpenedTable}
use Rattle.rs_page_owners.specs.Counts.{times}
use Rattle.rs_tree.proofs.Lists.{zip_lengths}
use Rattle.rs_file_parts.specs.Slots.{ChangesDirectory, PutsRoots, PutsTrees, with_referents}
use Rattle.rs_file_parts.proofs.Slotted.{slots_put}
use Rattle.rs_file_parts.proofs.slots.put_slots.Goals as goal

pub put_trees-requires-clause-many : goal.put_trees-requires-clause-many
put_trees-requires-clause-many c =
    let file = c.args.file.now in
    let definitions = said_catalogue file.definitions in
    ap length c.as_slice-items.ensures.value ∙ sym (length-map file.definitions.tables.items said_table)
    ∙ zip_lengths (IsOfItem definitions) definitions.tables file.tables.items c.requires.tables ∙ sym (ap length c.as_slice-tables.ensures.value)

pub put_trees-requires-clause-below : goal.put_trees-requires-clause-below
put_trees-requires-clause-below c =
    subst (λ (xs : List StoredTable). AllByRecursion (λ (item : TableItem). item.number < TABLES) (map said_table xs)) (sym c.as_slice-items.ensures.value) c.requires.given.tables_below

pub put_trees-requires-clause-once : goal.put_trees-requires-clause-once
put_trees-requires-clause-once c = λ n.
    subst (λ (xs : List StoredTable). times (map (λ (item : TableItem). item.number) (map said_table xs)) n ≤ 1) (sym c.as_slice-items.ensures.value) (c.requires.given.tables_once n)

pub put_roots-requires-clause-many : goal.put_roots-requires-clause-many
put_roots-requires-clause-many c =
    let file = c.args.file.now in
    let definitions = said_catalogue file.definitions in
    subst (λ (ts : List OpenedTable). AllZip (HasAsMany (map said_index c.as_slice.result.now)) (map said_table c.as_slice-items.result.now) ts) (sym c.as_slice-tables.ensures.value)
    (subst (λ (xs : List StoredTable). AllZip (HasAsMany (map said_index c.as_slice.result.now)) (map said_table xs) file.tables.items) (sym c.as_slice-items.ensures.value)
    (subst (λ (xs : List StoredIndex). AllZip (HasAsMany (map said_index xs)) definitions.tables file.tables.items) (sym c.as_slice.ensures.value)
    (as_many definitions definitions.tables file.tables.items c.requires.tables)))

pub put_roots-requires-clause-tables_once : goal.put_roots-requires-clause-tables_once
put_roots-requires-clause-tables_once c = λ n.
    subst (λ (xs : List StoredTable). times (map (λ (item : TableItem). item.number) (map said_table xs)) n ≤ 1) (sym c.as_slice-items.ensures.value) (c.requires.given.tables_once n)

pub put_roots-requires-clause-below : goal.put_roots-requires-clause-below
put_roots-requires-clause-below c =
    subst (λ (xs : List StoredIndex). AllByRecursion (λ (index : IndexItem). index.number < INDEXES) (map said_index xs)) (sym c.as_slice.ensures.value) c.requires.given.indexes_below

pub put_roots-requires-clause-once : goal.put_roots-requires-clause-once
put_roots-requires-clause-once c = λ n.
    subst (λ (xs : List StoredIndex). times (map (λ (index : IndexItem). index.number) (map said_index xs)) n ≤ 1) (sym c.as_slice.ensures.value) (c.requires.given.indexes_once n)

pub returns : goal.returns
returns c =
    let file = c.args.file.now in
    let definitions = said_catalogue file.definitions in
    let old = c.args.page.now.bytes in
    let one = c.put_trees.new.page.bytes in
    let two = c.put_roots.new.page.bytes in
    let three = c.put_referents.new.page.bytes in
    let trees = subst (λ (ts : List OpenedTable). PutsTrees definitions.tables ts definitions.tables ts old one) c.as_slice-tables.ensures.value
    (subst (λ (xs : List StoredTable). PutsTrees (map said_table xs) c.as_slice-tables.result.now (map said_table xs) c.as_slice-tables.result.now old one) c.as_slice-items.ensures.value c.put_trees.ensures) in
    let roots = subst (λ (ts : List OpenedTable). PutsRoots definitions.indexes definitions.tables ts definitions.tables ts one two) c.as_slice-tables.ensures.value
    (subst (λ (xs : List StoredTable). PutsRoots definitions.indexes (map said_table xs) c.as_slice-tables.result.now (map said_table xs) c.as_slice-tables.result.now one two) c.as_slice-items.ensures.value
    (subst (λ (xs : List StoredIndex). PutsRoots (map said_index xs) (map said_table c.as_slice-items.result.now) c.as_slice-tables.result.now (map said_table c.as_slice-items.result.now) c.as_slice-tables.result.now one two)
    c.as_slice.ensures.value c.put_roots.ensures)) in
    slots_put file c.args.version old one two three c.put_accepted.new.page.bytes trees roots
    (subst (λ (tree : TreeItem). ChangesDirectory (with_referents tree) two three) c.tree_of_referents.ensures c.put_referents.ensures) c.put_accepted.ensures
