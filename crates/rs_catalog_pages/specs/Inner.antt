-- What is so while the catalogue is read and written: facts of loops.
use Rattle.std.specs.Prelude.{◌≡◌, ◌*◌, ◌++◌, ℕ, List, drop}
use Rattle.rs_page.specs.declared.header.TheConstants.{PAGE_ROOM}
use Rattle.rs_pages.specs.PageMap.{PageMap}
use Rattle.rs_catalog_pages.specs.Chain.{HoldsFrom}

-- from a page on the first of them hold these bytes, and those that follow begin at the next one
pub record HoldsUpTo (map : PageMap) (first : ℕ) (numbers bytes : List ℕ) (next : ℕ) : Type 0 where
  pub whole : (rest after : List ℕ) → HoldsFrom map next rest after → HoldsFrom map first (numbers ++ rest) (bytes ++ after)
  pub splits : (all said : List ℕ) → HoldsFrom map first all said
      → (rest : List ℕ) × (after : List ℕ) × (all ≡ numbers ++ rest) × (said ≡ bytes ++ after) × HoldsFrom map next rest after

-- the bytes for this page and those after it
unfoldable pub parts_from : List ℕ → ℕ → List ℕ
parts_from bytes index = drop (index * PAGE_ROOM) bytes
