-- An index, and a table with its indexes, that lie in a file already.
use Rattle.std.specs.Prelude.{◌≡◌, ◌≤◌, ℕ, List, Contains, length}
use Rattle.std.specs.List.{AllByRecursion, AllZip}
use Rattle.rs_attr.specs.Entries.{Field, entry_of, index_form}
use Rattle.rs_attr.specs.Tables.{HoldIndexes, HoldsTable, IndexState, all_of}
use Rattle.rs_attr.specs.declared.told.ToldTable.{ToldTable}
use Rattle.rs_page_owners.specs.Counts.{◌&◌}
use Rattle.rs_pages.specs.PageMap.{PageMap}
use Rattle.rs_tree.specs.Tree.{IsTree}
use Rattle.rs_versioned.specs.Events.{Event}
use Rattle.rs_versioned.specs.Meant.{AreEventsMeant}
use Rattle.rs_versioned.specs.Opening.{StandsAs}
use Rattle.rs_versioned.specs.declared.route_span.RouteSpan.{RouteSpan}
use Rattle.rs_cell_versions.specs.Versioned.{Standing}

-- each of the cells has its entry among these
abbrev pub HaveEntries : Field → List (List ℕ) → List (List ℕ) → Type 0
HaveEntries field entries = AllByRecursion (λ cell. Contains entries (entry_of field cell))

-- whatever tree stands there, each of the cells has its entry in it
pub record HasEntries (field : Field) (pages : PageMap) (root : ℕ) (cells : List (List ℕ)) : Type 0 where
  pub each : (entries : List (List ℕ)) (used : ℕ → ℕ) → IsTree (index_form field) pages root entries used → HaveEntries field entries cells

-- whatever tree stands there, one of the cells has no entry in it
pub record LacksEntries (field : Field) (pages : PageMap) (root : ℕ) (cells : List (List ℕ)) : Type 0 where
  pub none : (entries : List (List ℕ)) (used : ℕ → ℕ) → IsTree (index_form field) pages root entries used → HaveEntries field entries cells → ⊥

-- whatever tree stands there, it has so many entries
pub record HasSoMany (field : Field) (pages : PageMap) (root : ℕ) (count : ℕ) : Type 0 where
  pub each : (entries : List (List ℕ)) (used : ℕ → ℕ) → IsTree (index_form field) pages root entries used → count ≡ length entries

-- a table with these indexes lies there as it was told, its events are meant, and each of its pages and of theirs was reached once
-- more
pub record OpensTable (pages : PageMap) (told : ToldTable) (standing : Standing) (indexes : List IndexState) (routes : List RouteSpan) (before after : ℕ → ℕ) : Type 0 where
  pub as_told : StandsAs told.records standing
  pub events : List Event
  pub used : ℕ → ℕ
  pub uses : List (ℕ → ℕ)
  pub holds : HoldsTable told.schema.items pages standing indexes told.records.accepted events used uses
  pub meant : AreEventsMeant routes told.kind told.records.accepted events
  pub reached : (number : ℕ) → after number ≡ (before & (used & all_of uses)) number

-- no table with these indexes lies there as it was told, whose events are meant, in pages that weren't reached before
pub record OpensNoTable (pages : PageMap) (told : ToldTable) (indexes : List IndexState) (routes : List RouteSpan) (before : ℕ → ℕ) : Type 0 where
  pub none : (standing : Standing) (events : List Event) (used : ℕ → ℕ) (uses : List (ℕ → ℕ)) → StandsAs told.records standing
      → HoldsTable told.schema.items pages standing indexes told.records.accepted events used uses
      → AreEventsMeant routes told.kind told.records.accepted events
      → ((number : ℕ) → (before & (used & all_of uses)) number ≤ 1) → ⊥

-- a tree of so many entries stands there for the index, with these pages
pub record IsCountedTree (pages : PageMap) (count : ℕ) (index : IndexState) (used : ℕ → ℕ) : Type 0 where
  pub entries : List (List ℕ)
  pub tree : IsTree (index_form index.field) pages index.working entries used
  pub counted : length entries ≡ count

-- trees of so many entries stand there for the indexes, and each of their pages was reached once more
pub record ReachesIndexes (pages : PageMap) (indexes : List IndexState) (count : ℕ) (before after : ℕ → ℕ) : Type 0 where
  pub uses : List (ℕ → ℕ)
  pub trees : AllZip (IsCountedTree pages count) indexes uses
  pub reached : (number : ℕ) → after number ≡ (before & all_of uses) number

-- no trees of so many entries stand there for the indexes, in pages that weren't reached before
pub record ReachesNoIndexes (pages : PageMap) (indexes : List IndexState) (count : ℕ) (before : ℕ → ℕ) : Type 0 where
  pub none : (uses : List (ℕ → ℕ)) → AllZip (IsCountedTree pages count) indexes uses → ((number : ℕ) → (before & all_of uses) number ≤ 1) → ⊥

-- whatever trees stand there for the indexes, each of the cells has its entry in each
abbrev pub HaveAllEntries : PageMap → List IndexState → List (List ℕ) → Type 0
HaveAllEntries pages indexes cells = AllByRecursion (λ index. HasEntries index.field pages index.working cells) indexes

-- the indexes have no entries of cells that these are among
pub record AreNotEntered (pages : PageMap) (indexes : List IndexState) (cells : List (List ℕ)) : Type 0 where
  pub none : (uses : List (ℕ → ℕ)) (all : List (List ℕ)) → HoldIndexes pages indexes all uses → AllByRecursion (Contains all) cells → ⊥
