-- What the roots of a table's indexes say, and what those of the last commit do not.
use Rattle.std.proofs.Common.{◌≡◌, ◌<◌, ℕ, zero, suc, List, [], ◌∷◌, refl, sym, subst, arith}
use Rattle.std.specs.List.{AllByRecursion, AllZip}
use Rattle.rs_attr.specs.Entries.{Field, HoldsIndex, index_form}
use Rattle.rs_attr.specs.Tables.{AreOn, HoldIndexes, HoldsTable, IndexState, all_of, kept_parts, working_parts}
use Rattle.rs_attr.proofs.Placing.{all_of-cons}
use Rattle.rs_attr.proofs.Together.{HaveNoRoots, still_of}
use Rattle.rs_interval.specs.Finding.{event_form}
use Rattle.rs_pages.specs.PageMap.{PageMap}
use Rattle.rs_tree.specs.Form.{Form}
use Rattle.rs_tree.specs.Shape.{Lies, Shape, page_of}
use Rattle.rs_tree.specs.Tree.{IsTree, Stands}
use Rattle.rs_value.specs.declared.column.ColumnType.{ColumnType}
use Rattle.rs_versioned.specs.Events.{Event, event_width}
use Rattle.rs_cell_versions.specs.Versioned.{Standing}

-- a tree without a root has no pages
page_after : (form : Form) (pages : PageMap) (height : ℕ) (shape : Shape height) → Lies form pages height shape → 1 < page_of height shape
page_after form pages zero shape lies = lies.after
page_after form pages (suc height) shape lies = lies.0.after

rootless_tree : (form : Form) (pages : PageMap) (root : ℕ) (cells : List (List ℕ)) (used : ℕ → ℕ) → root ≡ 0 → IsTree form pages root cells used → (number : ℕ) → used number ≡ 0
rootless_tree form pages root cells used is tree number = at tree.height tree.stands where
  at : (height : ℕ) → Stands form pages height root cells used → used number ≡ 0
  at zero stands = stands.no_pages number
  at (suc height) stands = absurd (omega (arith, page_after form pages height stands.shape stands.lies, stands.top, is))

rootless_indexes : (pages : PageMap) (indexes : List IndexState) (cells : List (List ℕ)) (uses : List (ℕ → ℕ)) → HaveNoRoots indexes → HoldIndexes pages indexes cells uses
    → (number : ℕ) → all_of uses number ≡ 0
rootless_indexes pages [] cells [] none hold number = refl
rootless_indexes pages [] cells (u ∷ us) none hold number = absurd hold
rootless_indexes pages (x ∷ xs) cells [] none hold number = absurd hold
rootless_indexes pages (x ∷ xs) cells (u ∷ us) none hold number =
    let first = rootless_tree (index_form x.field) pages x.working hold.0.entries u none.0 hold.0.tree number in
    let rest = rootless_indexes pages xs cells us none.1 hold.1 number in
    omega (arith, all_of-cons u us number, first, rest)

module _ (types : List ColumnType) (pages : PageMap) (standing : Standing) (indexes : List IndexState) (accepted : ℕ) (events : List Event) (used : ℕ → ℕ) (uses : List (ℕ → ℕ)) where
  pub rootless_table : standing.root ≡ 0 → HoldsTable types pages standing indexes accepted events used uses → (number : ℕ) → used number ≡ 0
  rootless_table none table = rootless_tree (event_form (event_width types)) pages standing.root table.records.cells used none table.records.holds.tree

  pub rootless_entries : HaveNoRoots indexes → HoldsTable types pages standing indexes accepted events used uses → (number : ℕ) → all_of uses number ≡ 0
  rootless_entries none table = rootless_indexes pages indexes table.records.cells uses none table.entries

-- the entries of indexes are told by their fields and roots
abbrev HoldParts : PageMap → List (List ℕ) → List (Field × ℕ) → List (ℕ → ℕ) → Type 0
HoldParts pages cells = AllZip (λ (part : Field × ℕ) (used : ℕ → ℕ). HoldsIndex part.0 pages part.1 cells used)

to_parts : (pages : PageMap) (indexes : List IndexState) (cells : List (List ℕ)) (uses : List (ℕ → ℕ)) → HoldIndexes pages indexes cells uses → HoldParts pages cells (working_parts indexes) uses
to_parts pages [] cells [] hold = tt
to_parts pages [] cells (u ∷ us) hold = absurd hold
to_parts pages (x ∷ xs) cells [] hold = absurd hold
to_parts pages (x ∷ xs) cells (u ∷ us) hold = (hold.0, to_parts pages xs cells us hold.1)

from_parts : (pages : PageMap) (indexes : List IndexState) (cells : List (List ℕ)) (uses : List (ℕ → ℕ)) → HoldParts pages cells (working_parts indexes) uses → HoldIndexes pages indexes cells uses
from_parts pages [] cells [] hold = tt
from_parts pages [] cells (u ∷ us) hold = absurd hold
from_parts pages (x ∷ xs) cells [] hold = absurd hold
from_parts pages (x ∷ xs) cells (u ∷ us) hold = (hold.0, from_parts pages xs cells us hold.1)

pub same_roots_table : (types : List ColumnType) (pages : PageMap) (standing : Standing) (were are : List IndexState) (accepted : ℕ) (events : List Event) (used : ℕ → ℕ) (uses : List (ℕ → ℕ))
    → working_parts are ≡ working_parts were → HoldsTable types pages standing were accepted events used uses → HoldsTable types pages standing are accepted events used uses
same_roots_table types pages standing were are accepted events used uses same table =
    let cells = table.records.cells in
    record {
      records = table.records;
      entries = from_parts pages are cells uses
          (subst (λ (parts : List (Field × ℕ)). HoldParts pages cells parts uses) (sym same) (to_parts pages were cells uses table.entries));
    }

-- indexes of the same fields are on the same table
of_working : (width : ℕ) (indexes : List IndexState) → AllByRecursion (λ index. index.field.cell_width ≡ width) indexes
    → AllByRecursion (λ (part : Field × ℕ). part.0.cell_width ≡ width) (working_parts indexes)
of_working width [] all = tt
of_working width (x ∷ xs) all = (all.0, of_working width xs all.1)

working_of : (width : ℕ) (indexes : List IndexState) → AllByRecursion (λ (part : Field × ℕ). part.0.cell_width ≡ width) (working_parts indexes)
    → AllByRecursion (λ index. index.field.cell_width ≡ width) indexes
working_of width [] all = tt
working_of width (x ∷ xs) all = (all.0, working_of width xs all.1)

pub still_on : (types : List ColumnType) (were are : List IndexState) → kept_parts are ≡ kept_parts were → AreOn types were → AreOn types are
still_on types were are = still_of (event_width types) were are

pub same_roots_on : (types : List ColumnType) (were are : List IndexState) → working_parts are ≡ working_parts were → AreOn types were → AreOn types are
same_roots_on types were are same all =
    let width = event_width types in
    working_of width are (subst (AllByRecursion (λ (part : Field × ℕ). part.0.cell_width ≡ width)) (sym same) (of_working width were all))
