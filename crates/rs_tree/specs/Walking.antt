-- What a walk through a part of a tree finds and reads.
use Rattle.std.specs.Prelude.{◌≡◌, ◌⊎◌, ◌≤◌, ◌+◌, ◌-◌, ◌*◌, ℕ, suc, Bool, List, ◌++◌, map}
use Rattle.std.specs.List.{AllByRecursion, AllZip, flat_map, sum_by}
use Rattle.rs_refusal.specs.declared.refusal.Refusal.{Refusal}
use Rattle.rs_refusal.specs.declared.refusal.Refusal.TheVariants as refusal
use Rattle.rs_pages.specs.PageMap.{PageMap}
use Rattle.rs_records.specs.Order.{Ascends}
use Rattle.rs_records.specs.Records.{records, IsPlace}
use Rattle.rs_tree.specs.Form.{Form, entry_width}
use Rattle.rs_tree.specs.Content.{SaysChild, content}
use Rattle.rs_tree.specs.Searches.{wanted, weight}
use Rattle.rs_tree.specs.Leading.{leading, leading_in}
use Rattle.rs_tree.specs.Shape.{Shape, Lies, page_of, cells_of, size_of, child_of}

-- the part with this page at its top lies in the pages
pub record IsPart (form : Form) (pages : PageMap) (number height : ℕ) (shape : Shape height) : Type 0 where
  pub lies : Lies form pages height shape
  pub top : page_of height shape ≡ number

-- the entry says this part, which lies in the pages
pub record IsEntryOf (form : Form) (pages : PageMap) (entry : List ℕ) (height : ℕ) (part : Shape height) : Type 0 where
  pub says : SaysChild form entry (child_of height part)
  pub lies : Lies form pages height part

-- the entries of the page say these parts, which lie in the pages
pub record AreEntriesOf (form : Form) (pages : PageMap) (page : List ℕ) (count height : ℕ) (parts : List (Shape height)) : Type 0 where
  pub says : AllZip (SaysChild form) (records count (entry_width form) (content page)) (map (child_of height) parts)
  pub lie : AllByRecursion (Lies form pages height) parts

-- those of the cells that are wanted were found, by so many reads at least and at the most
pub record Walked (low high : List ℕ) (passes : List ℕ → Bool) (cells : List (List ℕ)) (leads cost : ℕ) (before after : List (List ℕ)) (left left_after : ℕ) : Type 0 where
  pub found : after ≡ before ++ wanted low high passes cells
  pub reads : left ≤ left_after + cost
  pub least : left_after + leads ≤ left

-- a walk through the part with this page at its top, whichever it is
pub record Walks (form : Form) (pages : PageMap) (number : ℕ) (low high : List ℕ) (passes : List ℕ → Bool) (before after : List (List ℕ)) (left left_after : ℕ) : Type 0 where
  pub each : (height : ℕ) (shape : Shape height) → IsPart form pages number height shape → Ascends (cells_of height shape)
      → Walked low high passes (cells_of height shape) (leading low high passes height shape) (1 + height * weight low high passes (cells_of height shape)) before after left left_after

-- a walk through the part that an entry says, if its summary is accepted
pub record WalksEntry (form : Form) (pages : PageMap) (entry : List ℕ) (low high : List ℕ) (passes : List ℕ → Bool) (before after : List (List ℕ)) (left left_after : ℕ) : Type 0 where
  pub each : (height : ℕ) (part : Shape height) → IsEntryOf form pages entry height part → Ascends (cells_of height part)
      → Walked low high passes (cells_of height part) (leading_in low high passes height part) (suc height * weight low high passes (cells_of height part)) before after left left_after

-- a walk through the parts that the entries of a page say
pub record WalksEntries (form : Form) (pages : PageMap) (page : List ℕ) (count : ℕ) (low high : List ℕ) (passes : List ℕ → Bool) (before after : List (List ℕ)) (left left_after : ℕ) : Type 0 where
  pub each : (height : ℕ) (parts : List (Shape height)) → AreEntriesOf form pages page count height parts → Ascends (flat_map (cells_of height) parts)
      → Walked low high passes (flat_map (cells_of height) parts) (sum_by (leading_in low high passes height) parts) (suc height * weight low high passes (flat_map (cells_of height) parts)) before after left left_after

-- each page of the part was read once at the most
pub record ReadsOnce (form : Form) (pages : PageMap) (number left left_after : ℕ) : Type 0 where
  pub each : (height : ℕ) (shape : Shape height) → IsPart form pages number height shape → left ≤ left_after + size_of height shape

pub record ReadsEntryOnce (form : Form) (pages : PageMap) (entry : List ℕ) (left left_after : ℕ) : Type 0 where
  pub each : (height : ℕ) (part : Shape height) → IsEntryOf form pages entry height part → left ≤ left_after + size_of height part

pub record ReadsEntriesOnce (form : Form) (pages : PageMap) (page : List ℕ) (count left left_after : ℕ) : Type 0 where
  pub each : (height : ℕ) (parts : List (Shape height)) → AreEntriesOf form pages page count height parts → left ≤ left_after + sum_by (size_of height) parts

-- why a walk is refused: want of memory, a call of the disk, or something is damaged
abbrev pub IsWalkRefusal : Refusal → Type 0
IsWalkRefusal why = (why ≡ refusal.OutOfMemory) ⊎ (why ≡ refusal.Disk) ⊎ (why ≡ refusal.DamagedFile)

-- no part of so few levels and pages has this page at its top
pub record HasNoPart (form : Form) (pages : PageMap) (number levels left : ℕ) : Type 0 where
  pub none : (height : ℕ) (shape : Shape height) → IsPart form pages number height shape → height ≤ levels → size_of height shape ≤ left → ⊥

pub record HasNoPartOfEntry (form : Form) (pages : PageMap) (entry : List ℕ) (levels left : ℕ) : Type 0 where
  pub none : (height : ℕ) (part : Shape height) → IsEntryOf form pages entry height part → suc height ≤ levels → size_of height part ≤ left → ⊥

pub record HasNoPartsOfEntries (form : Form) (pages : PageMap) (page : List ℕ) (count levels left : ℕ) : Type 0 where
  pub none : (height : ℕ) (parts : List (Shape height)) → AreEntriesOf form pages page count height parts → suc height ≤ levels → sum_by (size_of height) parts ≤ left → ⊥

-- the entries that may say a cell within the bounds: from the last that begins below the first bound, up to those that
-- begin at the second
pub record IsRange (keys : List (List ℕ)) (low high : List ℕ) (from to : ℕ) : Type 0 where
  pub place : ℕ
  pub first : IsPlace keys low place
  pub before : from ≡ place - 1
  pub last : IsPlace keys high to
