-- Each table in turn.
use Rattle.std.proofs.Common.{◌<◌, ◌+◌, List, ap, length, map, refl, set, sym, subst, take, arith}
use Rattle.std.proofs.lemmas.List.{length-map, map-set, take_all}
use Rattle.std.proofs.lemmas.Option.{slice_get_read}
use Rattle.rs_catalog_pages.specs.Items.{TableItem}
use Rattle.rs_catalog_pages.specs.Said.{said_table, said_tree}
use Rattle.rs_catalog_pages.specs.declared.directory_items.TheConstants.{TABLES}
use Rattle.rs_catalog_pages.specs.declared.items.StoredTable.{StoredTable}
use Rattle.rs_file.specs.Slots.{AreTrees}
use Rattle.rs_file.specs.declared.opened.OpenedTable.{OpenedTable}
use Rattle.rs_file.proofs.Numbering.{each_at, said_at, said_each}
use Rattle.rs_file.proofs.Slotted.{trees_next, trees_none}
use Rattle.rs_file.proofs.directory.trees_of.Goals as goal

pub loop-place-init : goal.loop-place-init
loop-place-init c = trees_none c.in_ok-trees.trees.items c.in_ok-trees.ensures.many c.in_ok-trees.ensures.none

pub index_mut-requires : goal.index_mut-requires
index_mut-requires c =
    let below = each_at (λ (table : StoredTable). table.number < TABLES) c.args.items.now c.loop-place.place c.index-items-place.result (omega arith) c.index-items-place.is
    (said_each said_table (λ (table : TableItem). table.number < TABLES) c.args.items.now c.requires.below) in
    omega (arith, below, ap (λ (table : StoredTable). table.number) c.index-items-place.is, c.loop-place.trees.ok.0, length-map c.loop-place.trees.items said_tree, c.loop-place.invariant.slots)

pub loop-place-preserved : goal.loop-place-preserved
loop-place-preserved c =
    let items = map said_table c.args.items.now in
    let tables = c.args.tables.now in
    let k = c.loop-place.place in
    let item = c.index-items-place.result in
    let table = c.index-tables-place.result in
    let tree = c.records_tree.result in
    let below = each_at (λ (table : StoredTable). table.number < TABLES) c.args.items.now k item (omega arith) c.index-items-place.is
    (said_each said_table (λ (table : TableItem). table.number < TABLES) c.args.items.now c.requires.below) in
    let there = said_at said_table c.args.items.now k item (omega arith) c.index-items-place.is in
    let here = slice_get_read tables (length tables) k table refl (omega arith) c.index-tables-place.is in
    subst (λ n. AreTrees (take (k + 1) items) (take (k + 1) tables) (map said_tree (set c.loop-place.trees.items n tree))) (ap (λ (table : StoredTable). table.number) c.index-items-place.is)
    (subst (AreTrees (take (k + 1) items) (take (k + 1) tables)) (sym (map-set said_tree c.loop-place.trees.items item.number tree))
    (trees_next items tables (map said_tree c.loop-place.trees.items) k (said_table item) table (said_tree tree) there here below (c.requires.once item.number)
    c.records_tree.ensures.tree c.records_tree.ensures.fits c.loop-place.invariant))

pub returns : goal.returns
returns c =
    let items = map said_table c.args.items.now in
    let tables = c.args.tables.now in
    let k = c.loop-place.place in
    subst (λ (xs : List TableItem). AreTrees xs tables (map said_tree c.loop-place.trees.items)) (take_all k items (omega (arith, length-map c.args.items.now said_table)))
    (subst (λ (ys : List OpenedTable). AreTrees (take k items) ys (map said_tree c.loop-place.trees.items)) (take_all k tables (omega arith)) c.loop-place.invariant)
