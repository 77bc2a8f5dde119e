-- Routes that a plan is evaluated on, and lists of rows on each of them.
use Rattle.std.specs.Prelude.{◌≡◌, ℕ, List, [], ◌∷◌, map, Vec}
use Rattle.std.specs.List.{AllZip, AllByRecursion}
use Rattle.std.specs.declared.alloc.Global.{Global}
use Rattle.rs_facts.specs.declared.fact.Span.{Span}
use Rattle.rs_value.specs.declared.column.Kind.{Kind}
use Rattle.rs_facts.specs.Runs.{Stretch}
use Rattle.rs_facts.specs.Spans.{seen, ArePlaced}
use Rattle.rs_sweep.specs.Lists.{AreSorted, AreWide}
use Rattle.rs_exec.specs.declared.routes.Routes.{Routes}
use Rattle.rs_exec.specs.declared.routes.RowsOn.{RowsOn}

abbrev pub numbers_of : Routes → List ℕ
numbers_of routes = routes.first ∷ routes.others.now

abbrev pub list_of : RowsOn → List (Vec Span Global)
list_of rows = rows.first ∷ rows.others.items

abbrev pub IsInOrder : Vec Span Global → Type 0
IsInOrder rows = AreSorted (map seen rows.items)

abbrev pub HasNone : Vec Span Global → Type 0
HasNone rows = rows.items ≡ []

-- no rows on each of several routes
abbrev pub AreNone : List ℕ → List (Vec Span Global) → Type 0
AreNone numbers rows = AllZip (λ number each. HasNone each) numbers rows

abbrev pub AllAreNone : List (Vec Span Global) → Type 0
AllAreNone rows = AllByRecursion HasNone rows

-- by where they begin, of this kind, and so wide
pub record AreShaped (kind : Kind) (width : ℕ) (spans : List Stretch) : Type 0 where
  pub sorted : AreSorted spans
  pub placed : ArePlaced kind spans
  pub wide : AreWide width spans

abbrev pub IsShaped : Kind → ℕ → Vec Span Global → Type 0
IsShaped kind width rows = AreShaped kind width (map seen rows.items)
