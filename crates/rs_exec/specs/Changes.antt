-- Operators that change each row or leave it out, and what they make of spans.
use Rattle.std.specs.Prelude.{◌≡◌, ◌≤◌, ◌+◌, ℕ, List, [], ◌∷◌, length, map, Vec}
use Rattle.std.specs.declared.alloc.Global.{Global}
use Rattle.rs_value.specs.declared.column.Kind.{Kind}
use Rattle.rs_value.specs.declared.column.TheConstants.{COLUMNS}
use Rattle.rs_coalesce.specs.Joined.{AreJoined}
use Rattle.rs_facts.specs.declared.fact.Span.{Span}
use Rattle.rs_facts.specs.ConditionView.{condition_of}
use Rattle.rs_facts.specs.Fact.{RowSet}
use Rattle.rs_facts.specs.Operators.{dissolved}
use Rattle.rs_facts.specs.Spans.{seen, places_of, ArePlaced}
use Rattle.rs_planning.specs.Plan.{met_by_each}
use Rattle.rs_sweep.specs.Lists.{AreSorted, AreWide}
use Rattle.rs_exec.specs.declared.changes.Change.{Change}
use Rattle.rs_exec.specs.declared.changes.Change.TheVariants as changes

abbrev pub changed_rows : Change → RowSet → RowSet
changed_rows (changes.Where conditions) rows = met_by_each (map condition_of conditions.now) rows
changed_rows (changes.Dissolve columns) rows = dissolved columns.now rows

abbrev pub changed_width : Change → ℕ → ℕ
changed_width (changes.Where conditions) width = width
changed_width (changes.Dissolve columns) width = length columns.now

-- no more columns than a row has room for
abbrev pub IsNarrow : Change → Type 0
IsNarrow (changes.Where conditions) = Unit {0}
IsNarrow (changes.Dissolve columns) = length columns.now ≤ COLUMNS

-- which operators make no two spans that are one run, of spans without such
abbrev pub ChangeKeepsJoined : Change → Type 0
ChangeKeepsJoined (changes.Where conditions) = Unit {0}
ChangeKeepsJoined (changes.Dissolve columns) = ⊥

-- what the operator makes of the one list of spans is the other
pub record IsChanged (change : Change) (old new : Vec Span Global) : Type 0 where
  pub means : (k : ℕ) → places_of (map seen new.items) k ≡ changed_rows change (places_of (map seen old.items) k)
  pub sorted : AreSorted (map seen new.items)
  pub placed : (kind : Kind) → ArePlaced kind (map seen old.items) → ArePlaced kind (map seen new.items)
  pub wide : (width : ℕ) → AreWide width (map seen old.items) → AreWide (changed_width change width) (map seen new.items)
  pub joined : (kind : Kind) → ChangeKeepsJoined change → AreJoined kind (map seen old.items) → AreJoined kind (map seen new.items)

-- these are the numbers from this one on, in their order
abbrev pub AreFrom : ℕ → List ℕ → Type 0
AreFrom first [] = Unit {0}
AreFrom first (place ∷ places) = (place ≡ first) × AreFrom (first + 1) places
