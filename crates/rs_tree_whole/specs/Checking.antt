-- What the check of a part of a tree finds. Pages are told by how often they were reached before and after it.
use Rattle.std.specs.Prelude.{◌≡◌, ◌<◌, ◌≤◌, ◌^◌, ℕ, suc, Option, List, length, map, take, slice_get}
use Rattle.std.specs.List.{AllByRecursion, AllZip, flat_map, sum_by}
use Rattle.std.specs.Option.{option_or}
use Rattle.rs_pages.specs.PageMap.{PageMap}
use Rattle.rs_page_owners.specs.Counts.{◌&◌}
use Rattle.rs_records.specs.Order.{Ascends}
use Rattle.rs_records.specs.Records.{records, keys}
use Rattle.rs_tree.specs.Form.{Form, entry_width, least_from}
use Rattle.rs_tree.specs.Content.{SaysChild, content}
use Rattle.rs_tree.specs.Shape.{Shape, Lies, cells_of, uses, child_of}
use Rattle.rs_tree.specs.Walking.{IsPart, IsEntryOf, AreEntriesOf}
use Rattle.rs_tree_whole.specs.Bounds.{AreUnder, IsInOrder}

-- how often a page is one of the parts'
abbrev pub uses_of : (height : ℕ) → List (Shape height) → ℕ → ℕ
uses_of height parts number = sum_by (λ part. uses height part number) parts

-- these are so many cells, if their number fits eight bytes
abbrev pub CountsCells : ℕ → List (List ℕ) → Type 0
CountsCells total cells = length cells < 2 ^ 64 → total ≡ length cells

-- a part with this page at its top lies in the pages with its cells in order, each of its pages was reached, and these are
-- the number of its cells and their summary
pub record Reaches {S : Type 0} (sum : List (List ℕ) → S) (form : Form) (pages : PageMap) (number : ℕ) (least bound : Option (List ℕ)) (before after : ℕ → ℕ) (height total : ℕ) (summary : S) : Type 0 where
  pub shape : Shape height
  pub part : IsPart form pages number height shape
  pub order : IsInOrder least bound (cells_of height shape)
  pub reached : (n : ℕ) → after n ≡ (before & uses height shape) n
  pub counts : CountsCells total (cells_of height shape)
  pub sums : summary ≡ sum (cells_of height shape)

-- no such part of so few levels, whose pages weren't reached before, has this page at its top
pub record HasNoSound (form : Form) (pages : PageMap) (number : ℕ) (least bound : Option (List ℕ)) (levels : ℕ) (before : ℕ → ℕ) : Type 0 where
  pub none : (height : ℕ) (shape : Shape height) → IsPart form pages number height shape → IsInOrder least bound (cells_of height shape)
      → height ≤ levels → ((n : ℕ) → (before & uses height shape) n ≤ 1) → ⊥

-- the entry says such a part
pub record ReachesEntry (form : Form) (pages : PageMap) (entry : List ℕ) (bound : Option (List ℕ)) (before after : ℕ → ℕ) (height total : ℕ) : Type 0 where
  pub part : Shape height
  pub is : IsEntryOf form pages entry height part
  pub ascends : Ascends (cells_of height part)
  pub ends : AreUnder bound (cells_of height part)
  pub reached : (n : ℕ) → after n ≡ (before & uses height part) n
  pub counts : CountsCells total (cells_of height part)

-- the entry says none
pub record HasNoSoundEntry (form : Form) (pages : PageMap) (entry : List ℕ) (bound : Option (List ℕ)) (levels : ℕ) (before : ℕ → ℕ) : Type 0 where
  pub none : (height : ℕ) (part : Shape height) → IsEntryOf form pages entry height part → Ascends (cells_of height part)
      → AreUnder bound (cells_of height part) → suc height ≤ levels → ((n : ℕ) → (before & uses height part) n ≤ 1) → ⊥

-- the first entries of a page say such parts, up to what the next entry begins with
pub record ReachesEntries (form : Form) (pages : PageMap) (page : List ℕ) (count k : ℕ) (bound : Option (List ℕ)) (before after : ℕ → ℕ) (height total : ℕ) : Type 0 where
  pub parts : List (Shape height)
  pub says : AllZip (SaysChild form) (take k (records count (entry_width form) (content page))) (map (child_of height) parts)
  pub lie : AllByRecursion (Lies form pages height) parts
  pub ascends : Ascends (flat_map (cells_of height) parts)
  pub ends : AreUnder (option_or (slice_get (keys (least_from form.summary) (records count (entry_width form) (content page))) k) bound) (flat_map (cells_of height) parts)
  pub reached : (n : ℕ) → after n ≡ (before & uses_of height parts) n
  pub counts : CountsCells total (flat_map (cells_of height) parts)

-- the entries of a page say no such parts
pub record HasNoSoundEntries (form : Form) (pages : PageMap) (page : List ℕ) (count : ℕ) (bound : Option (List ℕ)) (levels : ℕ) (before : ℕ → ℕ) : Type 0 where
  pub none : (height : ℕ) (parts : List (Shape height)) → AreEntriesOf form pages page count height parts → Ascends (flat_map (cells_of height) parts)
      → AreUnder bound (flat_map (cells_of height) parts) → suc height ≤ levels → ((n : ℕ) → (before & uses_of height parts) n ≤ 1) → ⊥
