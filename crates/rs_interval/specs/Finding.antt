-- What the search for overlapping records finds.
use Rattle.std.specs.Prelude.{ℕ, ◌+◌, ◌*◌, ◌≤◌, Bool, nat_lt, List, ◌++◌, length, filter}
use Rattle.std.specs.Int.{w32, to_be_bytes}
use Rattle.std.specs.List.{AllZip}
use Rattle.rs_pages.specs.PageMap.{PageMap}
use Rattle.rs_tree.specs.Form.{Form, form_of}
use Rattle.rs_tree.specs.Leading.{pages_leading}
use Rattle.rs_tree.specs.Tree.{IsTree}
use Rattle.rs_interval.specs.Ends.{SaysEnd, ends_at, later, end_of}
use Rattle.rs_interval.specs.EventRecords.{EventRecord, SaysRecord, overlaps}

-- the form of a tree of cells of this width that keeps greatest ends
abbrev pub event_form : ℕ → Form
event_form width = form_of SaysEnd (ends_at 0) later end_of 4 width

-- what the cells of a route's records that begin at a place begin with
abbrev pub route_from : ℕ → ℕ → List ℕ
route_from route from = to_be_bytes w32 route ++ to_be_bytes w32 from

-- the record of the cell ends after a place
abbrev pub ends_after : ℕ → List ℕ → Bool
ends_after a cell = nat_lt a (end_of cell).end

-- where a tree of event records stands, what was found are the cells of just those that overlap, in their order. At least
-- the root and each page that leads to one of them was read, and no more pages than two for each level and as many more for
-- each of them
pub record FindsOverlapping (width : ℕ) (pages : PageMap) (root route a b : ℕ) (found : List (List ℕ)) (reads : ℕ) : Type 0 where
  pub exact : (cells : List (List ℕ)) (used : ℕ → ℕ) (events : List EventRecord) → IsTree (event_form width) pages root cells used
      → AllZip SaysRecord cells events → AllZip SaysRecord found (filter (overlaps route a b) events)
  pub bounded : (cells : List (List ℕ)) (used : ℕ → ℕ) (tree : IsTree (event_form width) pages root cells used)
      → reads ≤ tree.height * (length found + 2)
  pub least : (cells : List (List ℕ)) (used : ℕ → ℕ) (tree : IsTree (event_form width) pages root cells used)
      → pages_leading (route_from route 0) (route_from route b) (ends_after a) (event_form width) pages tree.height root cells used tree.stands ≤ reads
