-- The indexes so far of the table are counted, and none of them is the key's.
use Rattle.std.proofs.Common.{◌≡◌, ◌<◌, ◌≤◌, ℕ, Some, false, length, map, slice_get, take}
use Rattle.rs_catalog_pages.specs.Items.{IndexItem}
use Rattle.rs_catalog_pages.specs.Said.{said_index}
use Rattle.rs_file.specs.Slots.{indexes_on}
use Rattle.rs_store.specs.Reading.{is_of_key}
use Rattle.rs_store.proofs.reading.position_of_key.Given as goal

abbrev pub invariant-loop-place : goal.invariant-loop-place
invariant-loop-place l = record {
  at : l.position ≡ length (indexes_on (take l.place (map said_index l.indexes)) l.key.table);
  none : (k : ℕ) → k < l.place → (item : IndexItem) → slice_get (map said_index l.indexes) k ≡ Some item → is_of_key l.key item ≡ false;
  few : l.position ≤ l.place;
}
