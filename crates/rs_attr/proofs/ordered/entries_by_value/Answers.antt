-- One entry after the other, each written over the one before.
use Rattle.std.proofs.Common.{◌≡◌, ◌≤◌, ◌+◌, ◌-◌, ◌∙◌, ◌++◌, [], ◌∷◌, ℕ, List, drop, length, map, take, sym, ap, subst, arith}
use Rattle.std.proofs.lemmas.List.{length-append, length-drop, length-take-le, take_all, take_at}
use Rattle.std.proofs.lemmas.List.Sorted.{IsPermutation-map}
use Rattle.std.proofs.lemmas.Option.{slice_get-get_or}
use Rattle.std.specs.List.Sorted.{IsPermutation}
use Rattle.rs_attr.proofs.Reordered.{cell_at, images_more}
use Rattle.rs_records.specs.Listed.{listed, record_width}
use Rattle.rs_versioned.proofs.CellsWide.{cell_wide}
use Rattle.rs_attr.proofs.ordered.entries_by_value.Goals as goal

-- how many bytes an entry has, and what is in a list that it was written over
entry_long : (wide start width : ℕ) (cell : List ℕ) → length cell ≡ width → start + wide ≤ width → length (take wide (drop start cell) ++ cell) ≡ wide + width
entry_long wide start width cell long within =
    let left : length (drop start cell) ≡ length cell - start = length-drop start cell in
    let first : length (take wide (drop start cell)) ≡ wide = length-take-le wide (drop start cell) (omega (arith, left, long, within)) in
    omega (arith, length-append (take wide (drop start cell)) cell, first, long)

over_all : (new old : List ℕ) (len : ℕ) → length new ≡ len → take len (new ++ drop (length new) old) ≡ new
over_all new old len long = take_at new (drop (length new) old) len long

pub write_entry-requires-clause-within : goal.write_entry-requires-clause-within
write_entry-requires-clause-within c = omega (arith, cell_wide c.args.cells.now _ c.get.result.now c.get.ensures, c.requires.within)

pub write_entry-requires-clause-room : goal.write_entry-requires-clause-room
write_entry-requires-clause-room c =
    omega (arith, ap length c.deref_mut.ensures.value, c.loop-value.invariant.long, cell_wide c.args.cells.now _ c.get.result.now c.get.ensures)

pub loop-value-preserved : goal.loop-value-preserved
loop-value-preserved c =
    let entry : List ℕ → List ℕ = λ cell. take c.args.wide (drop c.args.start cell) ++ cell in
    let cell : List ℕ = c.get.result.now in
    let wide : length cell ≡ record_width c.args.cells.now = cell_wide c.args.cells.now _ c.get.result.now c.get.ensures in
    let long : length c.write_entry.new.bytes ≡ c.args.wide + record_width c.args.cells.now =
    ap length c.write_entry.ensures ∙ entry_long c.args.wide c.args.start (record_width c.args.cells.now) cell wide c.requires.within in
    let len : length c.write_entry.new.bytes ≡ c.loop-value.entry.len =
    omega (arith, long, c.loop-value.invariant.long, ap length c.deref_mut.ensures.value, c.deref_mut.ensures.len) in
    let over = over_all c.write_entry.new.bytes c.loop-value.entry.items c.loop-value.entry.len len in
    let items = c.deref-value-items.result.now in
    let there = slice_get-get_or items c.loop-value.value-index _ c.loop-value-test.true in
    let more : listed c.push.new.self ≡ listed c.loop-value.entries ++ entry cell ∷ [] =
    c.in_ok-push.ensures.pushed ∙ ap (λ (e : List ℕ). listed c.loop-value.entries ++ e ∷ []) (c.deref.ensures.value ∙ over ∙ c.write_entry.ensures) in
    record {
      width = c.in_ok-push.ensures.width ∙ c.loop-value.invariant.width;
      long = ap length over ∙ long;
      are = more ∙ ap (λ (l : List (List ℕ)). l ++ entry cell ∷ []) c.loop-value.invariant.are
          ∙ sym (images_more entry (listed c.args.cells.now) items c.loop-value.value-index _ cell there c.get.ensures);
    }

pub returns-clause-moved : goal.returns-clause-moved
returns-clause-moved c =
    let entry : List ℕ → List ℕ = λ cell. take c.args.wide (drop c.args.start cell) ++ cell in
    let cells = listed c.args.cells.now in
    let items = c.deref-value-items.result.now in
    let all : take c.loop-value.value-index items ≡ items = take_all c.loop-value.value-index items (omega (arith, c.loop-value-test.false)) in
    let are : listed c.loop-value.entries ≡ map entry (map (cell_at cells) c.in_ok-places.places.items) =
    c.loop-value.invariant.are ∙ ap (λ l. map entry (map (cell_at cells) l)) (all ∙ c.deref-value-items.ensures.value) in
    subst (IsPermutation (map entry cells)) (sym are) (IsPermutation-map entry cells (map (cell_at cells) c.in_ok-places.places.items) c.in_ok-places.ensures.moved)
