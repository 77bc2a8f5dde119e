-- The indexes of each table in turn.
use Rattle.std.proofs.Common.{◌≡◌, ◌<◌, ◌+◌, ◌∙◌, List, ap, length, map, refl, sym, subst, take, arith, rules}
use Rattle.std.proofs.lemmas.List.{length-map}
use Rattle.std.proofs.lemmas.Option.{slice_get_read}
use Rattle.rs_attr.specs.Tables.{IndexState}
use Rattle.rs_catalog_pages.specs.Said.{said_index, said_table}
use Rattle.rs_catalog_pages.specs.declared.items.StoredTable.{StoredTable}
use Rattle.rs_file.specs.Slots.{HasAsMany, indexes_on}
use Rattle.rs_file.proofs.Numbering.{said_at}
use Rattle.rs_file_parts.specs.Slots.{PutsRoots, PutsRootsOn}
use Rattle.rs_file_parts.proofs.Slotted.{roots_all, roots_skip, roots_start, roots_step, roots_to}
use Rattle.rs_page.specs.declared.page.Page.{Page}
use Rattle.std.specs.List.{AllByRecursion}
use Rattle.rs_tree.proofs.Lists.{inside_has, zip_at, zip_lengths}
use Rattle.rs_file_parts.proofs.slots.put_roots.Goals as goal
use Rattle.rs_file_parts.proofs.slots.put_roots.Goals.{then-has_changed, else-has_changed}

pub loop-place-init : goal.loop-place-init
loop-place-init c =
    let indexes = map said_index c.args.indexes.now in
    let items = map said_table c.args.items.now in
    let tables = c.args.tables.now in
    let page = c.args.page.now.bytes in
    let from = c.args.places.from in
    roots_to indexes c.requires.once items tables (zip_lengths (HasAsMany indexes) items tables c.requires.many) c.requires.tables_once page page from 0 from (omega arith)
    (omega (arith, c.requires.changed.order, c.requires.changed.within)) (λ place table low high there. c.requires.changed.before place table high there) (roots_start indexes items tables page)

pub bounds-items-place : goal.bounds-items-place
bounds-items-place c =
    omega (arith, length-map c.args.items.now said_table, zip_lengths (HasAsMany (map said_index c.args.indexes.now)) (map said_table c.args.items.now) c.args.tables.now c.requires.many, c.loop-place-test.true, c.requires.changed.within)

pub bounds-items-place-then-has_changed : goal.bounds-items-place-then-has_changed
bounds-items-place-then-has_changed c =
    omega (arith, length-map c.args.items.now said_table, zip_lengths (HasAsMany (map said_index c.args.indexes.now)) (map said_table c.args.items.now) c.args.tables.now c.requires.many, c.loop-place-test.true, c.requires.changed.within)

pub offset_bounds-items-place : goal.offset_bounds-items-place
offset_bounds-items-place c =
    let inside : c.loop-place.place < length c.args.items.now =
    omega (arith, length-map c.args.items.now said_table, zip_lengths (HasAsMany (map said_index c.args.indexes.now)) (map said_table c.args.items.now) c.args.tables.now c.requires.many, c.loop-place-test.true, c.requires.changed.within) in
    search rules

pub put_roots_on-requires-clause-many : goal.put_roots_on-requires-clause-many
put_roots_on-requires-clause-many c =
    let items = map said_table c.args.items.now in
    let tables = c.args.tables.now in
    let k = c.loop-place.place in
    let inside : k < length c.args.items.now =
    omega (arith, length-map c.args.items.now said_table, zip_lengths (HasAsMany (map said_index c.args.indexes.now)) items tables c.requires.many, c.loop-place-test.true, c.requires.changed.within) in
    let there = said_at said_table c.args.items.now k c.index-items-place.result inside c.index-items-place.is in
    let here = slice_get_read tables (length tables) k c.index-tables-place.result refl (omega (arith, c.loop-place-test.true, c.requires.changed.within)) c.index-tables-place.is in
    subst (λ n. length (indexes_on (map said_index c.args.indexes.now) n) ≡ length c.as_slice-then-has_changed.result.now) (ap (λ (table : StoredTable). table.number) c.index-items-place.is)
    (zip_at (HasAsMany (map said_index c.args.indexes.now)) items tables k (said_table c.index-items-place.result) c.index-tables-place.result c.requires.many there here
    ∙ ap length (sym c.as_slice-then-has_changed.ensures.value))

pub loop-place-preserved : goal.loop-place-preserved
loop-place-preserved c =
    let items = map said_table c.args.items.now in
    let indexes = map said_index c.args.indexes.now in
    let tables = c.args.tables.now in
    let k = c.loop-place.place in
    let table = c.index-tables-place.result in
    let inside : k < length c.args.items.now =
    omega (arith, length-map c.args.items.now said_table, zip_lengths (HasAsMany indexes) items tables c.requires.many, c.loop-place-test.true, c.requires.changed.within) in
    let here = slice_get_read tables (length tables) k table refl (omega (arith, c.loop-place-test.true, c.requires.changed.within)) c.index-tables-place.is in
    let old = c.args.page.now.bytes in
    let mid = c.loop-place.page.bytes in
    elim c.if-has_changed.branch [
      | then-has_changed w ↦
          let item = w.index-items-place.result in
          let there = said_at said_table c.args.items.now k item inside w.index-items-place.is in
          let new = w.put_roots_on.new.page.bytes in
          subst (λ (page : Page). PutsRoots indexes items tables (take (k + 1) items) (take (k + 1) tables) old page.bytes) (sym w.page-is)
          (roots_step indexes c.requires.once items tables k (said_table item) table old mid new there here (c.requires.tables_once item.number)
          (subst (λ (states : List IndexState). PutsRootsOn (indexes_on indexes item.number) states mid new) w.as_slice-then-has_changed.ensures.value
          (subst (λ n. PutsRootsOn (indexes_on indexes n) w.as_slice-then-has_changed.result.now mid new) (sym (ap (λ (table : StoredTable). table.number) w.index-items-place.is)) w.put_roots_on.ensures))
          c.loop-place.invariant)
      | else-has_changed w ↦
          let one = inside_has items k (omega (arith, inside, length-map c.args.items.now said_table)) in
          subst (λ (page : Page). PutsRoots indexes items tables (take (k + 1) items) (take (k + 1) tables) old page.bytes) (sym w.page-is)
          (roots_skip indexes c.requires.once items tables k one.0 table old mid mid one.1 here (c.requires.tables_once one.0.number)
          (subst (AllByRecursion (λ (index : IndexState). index.committed ≡ index.working)) c.as_slice.ensures.value (c.has_changed.ensures w.if-has_changed.false)) c.loop-place.invariant)
    ]

pub returns : goal.returns
returns c =
    let indexes = map said_index c.args.indexes.now in
    let items = map said_table c.args.items.now in
    let tables = c.args.tables.now in
    roots_all indexes c.requires.once items tables (zip_lengths (HasAsMany indexes) items tables c.requires.many) c.requires.tables_once c.args.page.now.bytes c.loop-place.page.bytes c.loop-place.place
    (λ place table low high there. c.requires.changed.after place table (omega (arith, low, c.loop-place-test.false)) high there) c.loop-place.invariant
