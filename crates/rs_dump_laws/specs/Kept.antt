-- A state of which some views and alignments are left out.
use Rattle.std.specs.Prelude.{◌≡◌, Bool, true, Ok}
use Rattle.std.specs.List.{AllByRecursion}
use Rattle.std.specs.FinMap as names
use Rattle.rs_facts.specs.Fact.{Name}
use Rattle.rs_facts.specs.Query.{Query}
use Rattle.rs_syntax.specs.Tree.{QueryTree}
use Rattle.rs_machine.specs.State.{State, has}
use Rattle.rs_machine.specs.Checking.{checked}
use Rattle.rs_machine.specs.Lawful.{Each}
use Rattle.rs_machine.specs.Opening.{alignments_in, names_in}

-- which views and which alignments are kept, by their names
pub record Keeping : Type 0 where
  pub view : Name → Bool
  pub alignment : Name → Bool

abbrev pub kept_of : Keeping → State → State
kept_of keeping state = record state {
  views = names.retain_keys state.views keeping.view;
  alignments = names.retain_keys state.alignments keeping.alignment;
}

-- The view passes now the checks of its DEFINE line, and the views and alignments that it names are kept.
pub record MayBeKept (state : State) (keeping : Keeping) (query : QueryTree) : Type 0 where
  pub made : Query
  pub passes : checked state query ≡ Ok made
  pub views : AllByRecursion (λ other. has state.views other ≡ true → keeping.view other ≡ true) (names_in query)
  pub alignments : AllByRecursion (λ other. keeping.alignment other ≡ true) (alignments_in query)

-- that is so of each view that is kept
abbrev pub IsKeeping : State → Keeping → Type 0
IsKeeping state keeping = Each state.views (λ name query. keeping.view name ≡ true → MayBeKept state keeping query)
