-- The search for cells in a part of a tree. The cells have their places in a list, one after another.
use Rattle.std.specs.Prelude.{◌≡◌, ◌<◌, ◌≤◌, ◌⊎◌, ◌↔◌, ℕ, suc, true, false, Some, List, [], Contains, IsTrue, length, slice_get, slice_index_or}
use Rattle.std.specs.List.{flat_map}
use Rattle.rs_refusal.specs.declared.refusal.Refusal.{Refusal}
use Rattle.rs_refusal.specs.declared.refusal.Refusal.TheVariants as refusal
use Rattle.rs_pages.specs.PageMap.{PageMap}
use Rattle.rs_records.specs.Order.{is_below, Ascends}
use Rattle.rs_tree.specs.Form.{Form}
use Rattle.rs_tree.specs.Reading.{HasNoNode}
use Rattle.rs_tree.specs.Shape.{Shape, cells_of}
use Rattle.rs_tree.specs.Walking.{AreEntriesOf, IsPart}
use Rattle.rs_tree.specs.declared.layout.Layout.{Layout}
use Rattle.rs_btree.specs.declared.stepping.Step.{Step}
use Rattle.rs_btree.specs.declared.stepping.Step.TheVariants as step

-- what holds of each cell from one place on and before another
abbrev pub OfEach : (List ℕ → Type 0) → List (List ℕ) → ℕ → ℕ → Type 0
OfEach P cells from to = (place : ℕ) (cell : List ℕ) → from ≤ place → place < to → slice_get cells place ≡ Some cell → P cell

-- all has those before this place, and not the one that is there, if it is before the end
pub record IsFirst (all cells : List (List ℕ)) (from to place : ℕ) : Type 0 where
  pub has : OfEach (Contains all) cells from place
  pub lacks : place < to → (cell : List ℕ) → slice_get cells place ≡ Some cell → Contains all cell → ⊥

-- whichever part has this page at its top, this is the place of the first cell that it lacks
pub record TellsFirst (form : Form) (map : PageMap) (number : ℕ) (cells : List (List ℕ)) (from to place : ℕ) : Type 0 where
  pub each : (height : ℕ) (shape : Shape height) → IsPart form map number height shape → Ascends (cells_of height shape)
      → IsFirst (cells_of height shape) cells from to place

-- of these parts, one with this page at its top has the cell if any has
pub record Narrows (form : Form) (map : PageMap) (height : ℕ) (parts : List (Shape height)) (cell : List ℕ) (below : ℕ) : Type 0 where
  pub part : Shape height
  pub is : IsPart form map below height part
  pub ascends : Ascends (flat_map (cells_of height) parts) → Ascends (cells_of height part)
  pub same : Ascends (flat_map (cells_of height) parts) → (Contains (cells_of height part) cell ↔ Contains (flat_map (cells_of height) parts) cell)

-- whichever part has this page at its top, of the parts right below it one with that page at its top has the cell if any has
pub record GoesOn (form : Form) (map : PageMap) (number : ℕ) (below : ℕ) (cell : List ℕ) : Type 0 where
  pub no_leaf : (shape : Shape 0) → IsPart form map number 0 shape → ⊥
  pub each : (height : ℕ) (shape : Shape (suc height)) → IsPart form map number (suc height) shape → Narrows form map height shape.parts cell below

-- what a page with this number leads the search for the cells to
abbrev pub Leads : Form → PageMap → ℕ → List (List ℕ) → ℕ → ℕ → Step → Type 0
Leads form map number cells from to (step.End place) = TellsFirst form map number cells from to place
Leads form map number cells from to (step.Below below end) = OfEach (GoesOn form map number below) cells from end

-- none of the parts that the entries of the page say has the cell
pub record HaveNone (form : Form) (page : List ℕ) (count : ℕ) (cell : List ℕ) : Type 0 where
  pub none : (map : PageMap) (height : ℕ) (parts : List (Shape height)) → AreEntriesOf form map page count height parts
      → Ascends (flat_map (cells_of height) parts) → Contains (flat_map (cells_of height) parts) cell → ⊥

-- of the parts that the entries of the page say, one with that page at its top has the cell if any has
pub record HasOne (form : Form) (page : List ℕ) (count : ℕ) (below : ℕ) (cell : List ℕ) : Type 0 where
  pub each : (map : PageMap) (height : ℕ) (parts : List (Shape height)) → AreEntriesOf form map page count height parts
      → Narrows form map height parts cell below

-- what the entries of a page lead the search for the cells to
abbrev pub LeadsFrom : Form → List ℕ → ℕ → List (List ℕ) → ℕ → Step → Type 0
LeadsFrom form page count cells from (step.End place) = (place ≡ from) × ((cell : List ℕ) → slice_get cells from ≡ Some cell → HaveNone form page count cell)
LeadsFrom form page count cells from (step.Below below end) = OfEach (HasOne form page count below) cells from end

-- how far the search has come
abbrev pub EndsWithin : ℕ → ℕ → Step → Type 0
EndsWithin from to (step.End place) = (from ≤ place) × (place ≤ to)
EndsWithin from to (step.Below below end) = (from < end) × (end ≤ to)

-- the key is not below what is before the place, and below what is there
pub record LiesBetween (keys : List (List ℕ)) (key : List ℕ) (place : ℕ) : Type 0 where
  pub before : (last : ℕ) → suc last ≡ place → is_below key (slice_index_or keys last []) ≡ false
  pub after : place < length keys → is_below key (slice_index_or keys place []) ≡ true

-- of the cells from one place on and before another each is below those that follow
abbrev pub AreRising : List (List ℕ) → ℕ → ℕ → Type 0
AreRising cells from to = (one other : ℕ) (a b : List ℕ) → from ≤ one → one < other → other < to
    → slice_get cells one ≡ Some a → slice_get cells other ≡ Some b → IsTrue (is_below a b)

-- why a search is refused: a call of the disk failed, or something is damaged
abbrev pub IsReadRefusal : Refusal → Type 0
IsReadRefusal why = (why ≡ refusal.Disk) ⊎ (why ≡ refusal.DamagedFile)

-- why a page tells nothing: a call of the disk failed, or no page of a tree has this number
pub record RefusesStep (tied : Type 0) (map : PageMap) (number : ℕ) (layout : Layout) (why : Refusal) : Type 0 where
  pub cause : IsReadRefusal why
  pub damaged : tied → why ≡ refusal.DamagedFile → HasNoNode map number layout

-- no part of so few levels has this page at its top
pub record HasNoTop (form : Form) (map : PageMap) (number levels : ℕ) : Type 0 where
  pub none : (height : ℕ) (shape : Shape height) → IsPart form map number height shape → height ≤ levels → ⊥
