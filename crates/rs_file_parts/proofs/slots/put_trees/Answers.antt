-- Each table in turn.
use Rattle.std.proofs.Common.{◌<◌, ◌+◌, ◌∙◌, ap, get_or, length, map, refl, sym, subst, take, arith}
use Rattle.std.proofs.lemmas.List.{length-map}
use Rattle.std.proofs.lemmas.Option.{slice_get_read}
use Rattle.rs_catalog_pages.specs.Directory.{TreeItem}
use Rattle.rs_catalog_pages.specs.Items.{TableItem}
use Rattle.rs_catalog_pages.specs.Said.{said_table}
use Rattle.rs_catalog_pages.specs.declared.directory_items.TheConstants.{TABLES}
use Rattle.rs_catalog_pages.specs.declared.items.StoredTable.{StoredTable}
use Rattle.rs_file.specs.Contents.{item_of}
use Rattle.rs_file.proofs.Numbering.{each_at, said_at, said_each}
use Rattle.rs_page.specs.declared.page.Page.{Page}
use Rattle.rs_tree.proofs.Lists.{inside_has}
use Rattle.rs_file_parts.specs.Slots.{ChangesDirectory, PutsTrees, with_tree}
use Rattle.rs_file_parts.proofs.Slotted.{trees_all, trees_skip, trees_start, trees_step, trees_to}
use Rattle.rs_file_parts.proofs.slots.put_trees.Goals as goal
use Rattle.rs_file_parts.proofs.slots.put_trees.Goals.{then-is_changed, else-is_changed}

pub loop-place-init : goal.loop-place-init
loop-place-init c =
    let items = map said_table c.args.items.now in
    let tables = c.args.tables.now in
    let page = c.args.page.now.bytes in
    let from = c.args.places.from in
    trees_to items tables (length-map c.args.items.now said_table ∙ c.requires.many) c.requires.once page page from 0 from (omega arith)
    (omega (arith, c.requires.changed.order, c.requires.changed.within)) (λ place table low high there. c.requires.changed.before place table high there) (trees_start items tables page)

pub put_tree-requires : goal.put_tree-requires
put_tree-requires c =
    let inside : c.loop-place.place < length c.args.tables.now = omega (arith, c.loop-place-test.true, c.requires.changed.within) in
    let below = each_at (λ (table : StoredTable). table.number < TABLES) c.args.items.now c.loop-place.place c.index-items-place.result (omega arith) c.index-items-place.is
    (said_each said_table (λ (table : TableItem). table.number < TABLES) c.args.items.now c.requires.below) in
    omega (arith, below, ap (λ (table : StoredTable). table.number) c.index-items-place.is)

pub loop-place-preserved : goal.loop-place-preserved
loop-place-preserved c =
    let items = map said_table c.args.items.now in
    let tables = c.args.tables.now in
    let k = c.loop-place.place in
    let table = c.index-tables-place.result in
    let long = length-map c.args.items.now said_table in
    let inside_tables : k < length tables = omega (arith, c.loop-place-test.true, c.requires.changed.within) in
    let here = slice_get_read tables (length tables) k table refl (omega arith) c.index-tables-place.is in
    let old = c.args.page.now.bytes in
    let mid = c.loop-place.page.bytes in
    elim c.if-is_changed.branch [
      | then-is_changed w ↦
          let item = w.index-items-place.result in
          let below = each_at (λ (table : StoredTable). table.number < TABLES) c.args.items.now k item (omega arith) w.index-items-place.is
          (said_each said_table (λ (table : TableItem). table.number < TABLES) c.args.items.now c.requires.below) in
          let there = said_at said_table c.args.items.now k item (omega arith) w.index-items-place.is in
          let new = w.put_tree.new.page.bytes in
          subst (λ (page : Page). PutsTrees items tables (take (k + 1) items) (take (k + 1) tables) old page.bytes) (sym w.page-is)
          (trees_step items tables k (said_table item) table old mid new there here (c.requires.once item.number) below
          (subst (λ n. ChangesDirectory (with_tree n (item_of table.records.working)) mid new) (sym (ap (λ (table : StoredTable). table.number) w.index-items-place.is))
          (subst (λ (tree : TreeItem). ChangesDirectory (with_tree (get_or c.args.items.now k item).number tree) mid new) w.tree_of_records.ensures w.put_tree.ensures)) c.loop-place.invariant)
      | else-is_changed w ↦
          let inside = inside_has items k (omega (arith, long)) in
          subst (λ (page : Page). PutsTrees items tables (take (k + 1) items) (take (k + 1) tables) old page.bytes) (sym w.page-is)
          (trees_skip items tables k inside.0 table old mid mid inside.1 here (c.requires.once inside.0.number) (c.is_changed.ensures w.if-is_changed.false) c.loop-place.invariant)
    ]

pub returns : goal.returns
returns c =
    trees_all (map said_table c.args.items.now) c.args.tables.now (length-map c.args.items.now said_table ∙ c.requires.many) c.requires.once c.args.page.now.bytes c.loop-place.page.bytes c.loop-place.place
    (λ place table low high there. c.requires.changed.after place table (omega (arith, low, c.loop-place-test.false)) high there) c.loop-place.invariant
