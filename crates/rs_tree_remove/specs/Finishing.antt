-- What is written into an inner page after parts below it gave way to others.
use Rattle.std.specs.Prelude.{◌≡◌, ◌⊎◌, ◌<◌, ◌≤◌, ◌+◌, ℕ, suc, List, [], ◌∷◌, Some, ◌++◌, take, drop, map}
use Rattle.std.specs.List.{AllByRecursion, AllZip, flat_map}
use Rattle.rs_page.specs.declared.header.PageKind.TheVariants as kind
use Rattle.rs_pages.specs.PageMap.{PageMap, SamePages, HasNoFit}
use Rattle.rs_records.specs.Records.{records}
use Rattle.rs_page_owners.specs.Counts.{one_at, ◌&◌}
use Rattle.rs_page_owners.specs.Owners.{Shares, Moves}
use Rattle.rs_tree.specs.Form.{Form, entry_width}
use Rattle.rs_tree.specs.Content.{SaysChild, HasRecords, content}
use Rattle.rs_tree.specs.Shape.{Shape, Lies, page_of, cells_of, child_of}
use Rattle.rs_tree.specs.declared.layout.Layout.{Layout}
use Rattle.rs_tree.specs.Reading.{HasNoNode}
use Rattle.rs_tree_edit.specs.Editing.{Splices}
use Rattle.rs_tree_edit.specs.Parts.{uses_all, SaysPart}
use Rattle.rs_tree_remove.specs.declared.answer.Removed.{Removed}
use Rattle.rs_tree_remove.specs.Leaving.{IsLeft}

-- of the parts below an inner page those from a place on, so many, gave way to others with these pages at their tops, and
-- the page has the bytes that it had
pub record GaveWay (form : Form) (base now : PageMap) (number : ℕ) (page : List ℕ) (count at removed : ℕ) (tops : List ℕ) (height : ℕ) (before others : ℕ → ℕ) (parts news : List (Shape height)) : Type 0 where
  pub after : 1 < number
  pub below : number < now.fields.pages
  pub has : HasRecords page kind.Inner number count (entry_width form)
  pub two : 2 ≤ count
  pub was : base.page number ≡ Some page
  pub there : now.page number ≡ Some page
  pub says : AllZip (SaysChild form) (records count (entry_width form) (content page)) (map (child_of height) parts)
  pub lie : AllByRecursion (Lies form now height) (take at parts ++ (news ++ drop (at + removed) parts))
  pub top : map (page_of height) news ≡ tops
  pub shares : Shares base (before & others)
  pub moves : Moves base now before (one_at number & uses_all height (take at parts ++ (news ++ drop (at + removed) parts)))

-- what is left below the page is said by it, or told
pub record Finishes (form : Form) (now new : PageMap) (number : ℕ) (page : List ℕ) (count at removed : ℕ) (tops : List ℕ) (answer : Removed) : Type 0 where
  pub each : (base : PageMap) (height : ℕ) (before others : ℕ → ℕ) (parts news : List (Shape height)) → GaveWay form base now number page count at removed tops height before others parts news
      → IsLeft form base new number (suc height) before (flat_map (cells_of height) (take at parts ++ (news ++ drop (at + removed) parts))) answer

-- no parts did so
pub record NoneGaveWay (form : Form) (now : PageMap) (number : ℕ) (page : List ℕ) (count at removed : ℕ) (tops : List ℕ) : Type 0 where
  pub none : (base : PageMap) (height : ℕ) (before others : ℕ → ℕ) (parts news : List (Shape height)) → GaveWay form base now number page count at removed tops height before others parts news → ⊥

-- the entries of the page from a place on, so many, gave way to one that says the part with this page at its top
pub record Renews (form : Form) (old new : PageMap) (number count at removed top : ℕ) : Type 0 where
  pub entry : List ℕ
  pub says : SaysPart form old top entry
  pub mid : PageMap
  pub same : SamePages mid old
  pub splices : Splices mid new number kind.Inner (entry_width form) count at removed (entry ∷ [])

-- no page in use fits the one's number, or no page of a tree has the other's
abbrev pub CantRenew : PageMap → ℕ → ℕ → Layout → Type 0
CantRenew map number top layout = HasNoFit map number ⊎ HasNoNode map top layout
