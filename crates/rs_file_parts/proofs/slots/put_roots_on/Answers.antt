-- Each item in turn.
use Rattle.std.proofs.Common.{◌≡◌, ◌==◌, ◌<◌, ◌+◌, ◌∙◌, [], ◌∷◌, ◌++◌, List, Some, true, false, ap, cond, arith, length, map, refl, rules, slice_get, sym, subst, take}
use Rattle.std.proofs.lemmas.Bool.Decides.{nat_tests}
use Rattle.std.proofs.lemmas.List.{append-nil, length-append, take_all}
use Rattle.std.proofs.lemmas.Option.{slice_get_read}
use Rattle.rs_attr.specs.Tables.{IndexState}
use Rattle.rs_catalog_pages.specs.Items.{IndexItem}
use Rattle.rs_catalog_pages.specs.Said.{said_index}
use Rattle.rs_catalog_pages.specs.declared.directory_items.TheConstants.{INDEXES}
use Rattle.rs_catalog_pages.specs.declared.items.StoredIndex.{StoredIndex}
use Rattle.rs_file.specs.Slots.{indexes_on}
use Rattle.rs_file.proofs.Numbering.{each_at, said_each}
use Rattle.rs_file.proofs.Slotted.{selected_before, take_one}
use Rattle.rs_page.specs.declared.page.Page.{Page}
use Rattle.rs_file_parts.specs.Slots.{PutsRootsOn}
use Rattle.rs_file_parts.proofs.Slotted.{roots_on_start, roots_on_step}
use Rattle.rs_file.proofs.Selected.{selected_fewer, selected_more}
use Rattle.rs_file_parts.proofs.slots.put_roots_on.Goals as goal
use Rattle.rs_file_parts.proofs.slots.put_roots_on.Goals.{then-item-table, else-item-table}

pub bounds-indexes-next : goal.bounds-indexes-next
bounds-indexes-next c =
    let same : (c.item-item.result.table == c.args.table) ≡ true = grind (arith, nat_tests) in
    omega (arith, selected_fewer said_index (λ (index : IndexItem). index.table == c.args.table) c.args.items.now c.loop-item.item-index c.item-item.result (omega arith) c.item-item.is same, c.loop-item.invariant.next, c.requires.many)

pub offset_bounds-indexes-next : goal.offset_bounds-indexes-next
offset_bounds-indexes-next c =
    let same : (c.item-item.result.table == c.args.table) ≡ true = grind (arith, nat_tests) in
    let inside : c.loop-item.next < length c.args.indexes.now =
    omega (arith, selected_fewer said_index (λ (index : IndexItem). index.table == c.args.table) c.args.items.now c.loop-item.item-index c.item-item.result (omega arith) c.item-item.is same, c.loop-item.invariant.next, c.requires.many) in
    search rules

pub overflow_add-next : goal.overflow_add-next
overflow_add-next c =
    let same : (c.item-item.result.table == c.args.table) ≡ true = grind (arith, nat_tests) in
    let inside : c.loop-item.next < length c.args.indexes.now =
    omega (arith, selected_fewer said_index (λ (index : IndexItem). index.table == c.args.table) c.args.items.now c.loop-item.item-index c.item-item.result (omega arith) c.item-item.is same, c.loop-item.invariant.next, c.requires.many) in
    search rules

pub put_root-requires : goal.put_root-requires
put_root-requires c =
    let below = each_at (λ (index : StoredIndex). index.number < INDEXES) c.args.items.now c.loop-item.item-index c.item-item.result (omega arith) c.item-item.is
    (said_each said_index (λ (index : IndexItem). index.number < INDEXES) c.args.items.now c.requires.below) in
    below

pub loop-item-init : goal.loop-item-init
loop-item-init c = record { next = refl; put = roots_on_start c.args.page.now.bytes }

pub loop-item-preserved : goal.loop-item-preserved
loop-item-preserved c =
    let items = c.args.items.now in
    let i = c.loop-item.item-index in
    let item = c.item-item.result in
    let has = λ (index : IndexItem). index.table == c.args.table in
    let k = c.loop-item.next in
    let so_far = indexes_on (map said_index (take i items)) c.args.table in
    let old = c.args.page.now.bytes in
    elim c.if-item-table.branch [
      | then-item-table w ↦
          let same : has (said_index item) ≡ true = grind (arith, nat_tests) in
          let inside : k < length c.args.indexes.now =
          omega (arith, selected_fewer said_index has items i item (omega arith) c.item-item.is same, c.loop-item.invariant.next, c.requires.many) in
          let more : indexes_on (map said_index (take (i + 1) items)) c.args.table ≡ so_far ++ said_index item ∷ [] =
          selected_more said_index has items i item (omega arith) c.item-item.is ∙ ap (λ b. so_far ++ cond b (said_index item ∷ []) []) same in
          let state = w.index-indexes-next.result in
          let here : slice_get c.args.indexes.now k ≡ Some state =
          slice_get_read c.args.indexes.now (length c.args.indexes.now) k state refl inside w.index-indexes-next.is in
          let below = each_at (λ (index : StoredIndex). index.number < INDEXES) items i item (omega arith) c.item-item.is
          (said_each said_index (λ (index : IndexItem). index.number < INDEXES) items c.requires.below) in
          let put = roots_on_step so_far (take k c.args.indexes.now) (said_index item) state w.root.result old c.loop-item.page.bytes w.put_root.new.page.bytes below
          (selected_before items i item (omega arith) c.item-item.is (c.requires.once item.number) has) w.root.ensures w.put_root.ensures.fits w.put_root.ensures.puts c.loop-item.invariant.put in
          record {
            next = ap length more ∙ length-append so_far (said_index item ∷ []) ∙ ap (λ n. n + 1) c.loop-item.invariant.next ∙ sym w.next-is;
            put = subst (λ (xs : List IndexItem). PutsRootsOn xs (take c.if-item-table.next c.args.indexes.now) old c.if-item-table.page.bytes) (sym more)
                (subst (λ (ys : List IndexState). PutsRootsOn (so_far ++ said_index item ∷ []) ys old c.if-item-table.page.bytes)
                (sym (ap (λ n. take n c.args.indexes.now) w.next-is ∙ take_one c.args.indexes.now k state here))
                (subst (λ (page : Page). PutsRootsOn (so_far ++ said_index item ∷ []) (take k c.args.indexes.now ++ state ∷ []) old page.bytes) (sym w.page-is) put));
          }
      | else-item-table w ↦
          let other : has (said_index item) ≡ false = grind (arith, nat_tests) in
          let more : indexes_on (map said_index (take (i + 1) items)) c.args.table ≡ so_far =
          selected_more said_index has items i item (omega arith) c.item-item.is ∙ ap (λ b. so_far ++ cond b (said_index item ∷ []) []) other ∙ append-nil so_far in
          record {
            next = ap length more ∙ c.loop-item.invariant.next ∙ sym w.next-is;
            put = subst (λ (xs : List IndexItem). PutsRootsOn xs (take c.if-item-table.next c.args.indexes.now) old c.if-item-table.page.bytes) (sym more)
                (subst (λ n. PutsRootsOn so_far (take n c.args.indexes.now) old c.if-item-table.page.bytes) (sym w.next-is)
                (subst (λ (page : Page). PutsRootsOn so_far (take k c.args.indexes.now) old page.bytes) (sym w.page-is) c.loop-item.invariant.put));
          }
    ]

pub returns : goal.returns
returns c =
    let items = c.args.items.now in
    let whole : take c.loop-item.item-index items ≡ items = take_all c.loop-item.item-index items (omega arith) in
    let all : indexes_on (map said_index (take c.loop-item.item-index items)) c.args.table ≡ indexes_on (map said_index items) c.args.table =
    ap (λ (xs : List StoredIndex). indexes_on (map said_index xs) c.args.table) whole in
    subst (λ (xs : List IndexItem). PutsRootsOn xs c.args.indexes.now c.args.page.now.bytes c.loop-item.page.bytes) all
    (subst (λ (ys : List IndexState). PutsRootsOn (indexes_on (map said_index (take c.loop-item.item-index items)) c.args.table) ys c.args.page.now.bytes c.loop-item.page.bytes)
    (take_all c.loop-item.next c.args.indexes.now (omega (arith, c.requires.many, c.loop-item.invariant.next, ap length all))) c.loop-item.invariant.put)
