-- A page that has one part left below it, among its neighbours.
use Rattle.std.specs.Prelude.{◌≡◌, ◌<◌, ◌≤◌, ◌+◌, ℕ, suc, Bool, true, false, List, Some, ◌++◌, take, drop, map, slice_get}
use Rattle.std.specs.List.{AllByRecursion, AllZip, flat_map}
use Rattle.rs_page.specs.declared.header.PageKind.TheVariants as kind
use Rattle.rs_pages.specs.PageMap.{PageMap}
use Rattle.rs_records.specs.Records.{records}
use Rattle.rs_page_owners.specs.Counts.{one_at, ◌&◌}
use Rattle.rs_page_owners.specs.Owners.{Shares, Moves}
use Rattle.rs_tree.specs.Content.{SaysChild, HasRecords, content}
use Rattle.rs_tree.specs.Form.{Form, entry_width}
use Rattle.rs_tree.specs.Shape.{Shape, Lies, page_of, cells_of, uses, child_of}
use Rattle.rs_tree_edit.specs.Parts.{uses_all}
use Rattle.rs_tree_remove.specs.declared.answer.Removed.{Removed}
use Rattle.rs_tree_remove.specs.Leaving.{LeavesOne, IsLeft}

-- of the part with this index below an inner page one part alone is left, with these cells; the page has the bytes that
-- it had
pub record IsLonely (form : Form) (base now : PageMap) (number : ℕ) (page : List ℕ) (index child only height : ℕ) (shape : Shape (suc (suc height))) (others : ℕ → ℕ) (part : Shape (suc height)) (cells : List (List ℕ)) : Type 0 where
  pub lies : Lies form base (suc (suc height)) shape
  pub top : shape.page ≡ number
  pub was : base.page number ≡ Some page
  pub shares : Shares base (uses (suc (suc height)) shape & others)
  pub there : slice_get shape.parts index ≡ Some part
  pub is : part.page ≡ child
  pub left : LeavesOne form base now height (uses (suc height) part) child only cells

-- the cells are among those of the other parts now
pub record Mends (form : Form) (now new : PageMap) (number : ℕ) (page : List ℕ) (index child only : ℕ) (answer : Removed) : Type 0 where
  pub each : (base : PageMap) (height : ℕ) (shape : Shape (suc (suc height))) (others : ℕ → ℕ) (part : Shape (suc height)) (cells : List (List ℕ))
      → IsLonely form base now number page index child only height shape others part cells
      → IsLeft form base new number (suc (suc height)) (uses (suc (suc height)) shape)
      (flat_map (cells_of (suc height)) (take index shape.parts) ++ (cells ++ flat_map (cells_of (suc height)) (drop (suc index) shape.parts))) answer

-- there is no such page
pub record NoneLonely (form : Form) (now : PageMap) (number : ℕ) (page : List ℕ) (index child only : ℕ) : Type 0 where
  pub none : (base : PageMap) (height : ℕ) (shape : Shape (suc (suc height))) (others : ℕ → ℕ) (part : Shape (suc height)) (cells : List (List ℕ))
      → IsLonely form base now number page index child only height shape others part cells → ⊥

-- the first before the second, or after it
abbrev pub beside : {A : Type 0} → Bool → List A → List A → List A
beside true xs ys = xs ++ ys
beside false xs ys = ys ++ xs

-- the two places next to each other of which one is this, the first of them, and the other one
abbrev pub IsNeighbour : ℕ → Bool → ℕ → ℕ → Type 0
IsNeighbour index true at near = (at ≡ index) × (near ≡ index + 1)
IsNeighbour index false at near = (at + 1 ≡ index) × (near ≡ at)

-- the page with one part left, and a neighbour with what is below it, in the place of two of these parts
pub record IsPair (form : Form) (base now : PageMap) (number : ℕ) (page : List ℕ) (count at : ℕ) (is_first : Bool) (child only other : ℕ) (near : List ℕ) (size height : ℕ) (before others : ℕ → ℕ)
    (parts : List (Shape (suc height))) (grand : Shape height) (siblings : List (Shape height)) : Type 0 where
  pub past : 1 < number
  pub below : number < now.fields.pages
  pub has : HasRecords page kind.Inner number count (entry_width form)
  pub two : 2 ≤ count
  pub was : base.page number ≡ Some page
  pub there : now.page number ≡ Some page
  pub says : AllZip (SaysChild form) (records count (entry_width form) (content page)) (map (child_of (suc height)) parts)
  pub lie_before : AllByRecursion (Lies form now (suc height)) (take at parts)
  pub lie_after : AllByRecursion (Lies form now (suc height)) (drop (at + 2) parts)
  -- the page with one part left
  pub child_page : List ℕ
  pub child_past : 1 < child
  pub child_below : child < now.fields.pages
  pub child_has : HasRecords child_page kind.Inner child 2 (entry_width form)
  pub child_there : now.page child ≡ Some child_page
  pub child_parts : List (Shape height)
  pub child_says : AllZip (SaysChild form) (records 2 (entry_width form) (content child_page)) (map (child_of height) child_parts)
  pub lies : Lies form now height grand
  pub top : page_of height grand ≡ only
  -- its neighbour
  pub near_past : 1 < other
  pub near_below : other < now.fields.pages
  pub near_has : HasRecords near kind.Inner other size (entry_width form)
  pub near_two : 2 ≤ size
  pub near_there : now.page other ≡ Some near
  pub near_says : AllZip (SaysChild form) (records size (entry_width form) (content near)) (map (child_of height) siblings)
  pub near_lie : AllByRecursion (Lies form now height) siblings
  pub shares : Shares base (before & others)
  pub moves : Moves base now before ((one_at child & uses height grand) & ((one_at other & uses_all height siblings) & (one_at number & (uses_all (suc height) (take at parts) & uses_all (suc height) (drop (at + 2) parts)))))

-- what is below the two is below one of them, or both, and the page above says so, or is told
pub record Pairs (form : Form) (now new : PageMap) (number : ℕ) (page : List ℕ) (count at : ℕ) (is_first : Bool) (child only other : ℕ) (near : List ℕ) (size : ℕ) (answer : Removed) : Type 0 where
  pub each : (base : PageMap) (height : ℕ) (before others : ℕ → ℕ) (parts : List (Shape (suc height))) (grand : Shape height) (siblings : List (Shape height))
      → IsPair form base now number page count at is_first child only other near size height before others parts grand siblings
      → IsLeft form base new number (suc (suc height)) before
      (flat_map (cells_of (suc height)) (take at parts) ++ (beside is_first (cells_of height grand) (flat_map (cells_of height) siblings) ++ flat_map (cells_of (suc height)) (drop (at + 2) parts))) answer

-- there are no such two pages
pub record NonePairs (form : Form) (now : PageMap) (number : ℕ) (page : List ℕ) (count at : ℕ) (is_first : Bool) (child only other : ℕ) (near : List ℕ) (size : ℕ) : Type 0 where
  pub none : (base : PageMap) (height : ℕ) (before others : ℕ → ℕ) (parts : List (Shape (suc height))) (grand : Shape height) (siblings : List (Shape height))
      → IsPair form base now number page count at is_first child only other near size height before others parts grand siblings → ⊥
