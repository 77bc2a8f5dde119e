-- Each level is three steps. So many entries have been walked through.
use Rattle.std.proofs.Common.{◌≡◌, ◌≤◌, ◌*◌, ◌+◌, ℕ, Bool, Ok, List, length}
use Rattle.std.specs.Fn.{FnReturnsAt}
use Rattle.rs_pages.specs.Lending.{RestsAfter}
use Rattle.rs_records.specs.Listed.{listed, record_width}
use Rattle.rs_tree.specs.Calls.{AcceptsParts}
use Rattle.rs_tree.specs.Asking.{Computes}
use Rattle.rs_tree.specs.Looking.{HoldsEntries}
use Rattle.rs_tree.proofs.Entries.{WalksSome, ReadsSome}
use Rattle.rs_tree.proofs.walk.+walking.Given as goal
use Rattle.rs_tree.specs.Forms.{form_in}

abbrev pub decreases-walk : goal.decreases-walk
decreases-walk g l = 3 * l.levels + 2

abbrev pub decreases-walk_entries : goal.decreases-walk_entries
decreases-walk_entries g l = 3 * l.levels + 1

abbrev pub decreases-walk_entry : goal.decreases-walk_entry
decreases-walk_entry g l = 3 * l.levels

abbrev pub invariant-walk_entries-loop-index : goal.invariant-walk_entries-loop-index
invariant-walk_entries-loop-index g l = record {
  rests : RestsAfter {T = Unit {0}} g.P.Pages.is_tied g.P.Pages.store g.P.Pages.keeps (Ok tt) l.fn.pages l.pages;
  width : record_width l.cells ≡ l.wanted.layout.width;
  ends : l.index ≤ length (listed l.entries);
  fewer : l.left ≤ l.fn.left;
  walks : g.P.Pages.is_tied l.fn.pages → (test : g.row.S.Denot → Bool) → Computes (FnReturnsAt g.F.Fn l.wanted.keep.now) test → AcceptsParts g.S.Summary.join test
      → (page : List ℕ) (count : ℕ) (held : HoldsEntries page count l.wanted.layout l.wanted.low.now l.wanted.high.now (listed l.entries))
      → WalksSome (form_in g.S.Summary l.wanted.layout) (g.P.Pages.store l.fn.pages).map page count
      l.wanted.low.now l.wanted.high.now (λ cell. test (g.S.Summary.of cell)) held.from l.index (listed l.fn.cells) (listed l.cells) l.fn.left l.left;
  once : g.P.Pages.is_tied l.fn.pages
      → (page : List ℕ) (count : ℕ) (held : HoldsEntries page count l.wanted.layout l.wanted.low.now l.wanted.high.now (listed l.entries))
      → ReadsSome (form_in g.S.Summary l.wanted.layout) (g.P.Pages.store l.fn.pages).map page count held.from l.index l.fn.left l.left;
}
