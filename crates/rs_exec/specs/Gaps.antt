-- Where routes have no row, between their ends.
use Rattle.std.specs.Prelude.{◌≡◌, ℕ, List, map, Vec}
use Rattle.std.specs.List.{AllZip, zip}
use Rattle.std.specs.declared.alloc.Global.{Global}
use Rattle.rs_value.specs.declared.column.Kind.{Kind}
use Rattle.rs_value.specs.declared.column.Kind.TheVariants as kinds
use Rattle.rs_facts.specs.declared.fact.Span.{Span}
use Rattle.rs_facts.specs.Query.{gapped_on}
use Rattle.rs_facts.specs.Runs.{Stretch}
use Rattle.rs_facts.specs.Spans.{seen, places_of}
use Rattle.rs_exec.specs.Snapshot.{Snapshots}
use Rattle.rs_exec.specs.Routes.{AreShaped}

-- spans of some kind and width, by where they begin
pub record HasShape (spans : List Stretch) : Type 0 where
  pub kind : Kind
  pub width : ℕ
  pub shaped : AreShaped kind width spans

-- so on each of several routes
abbrev pub HaveShapes : List ℕ → List (Vec Span Global) → Type 0
HaveShapes numbers rows = AllZip (λ number each. HasShape (map seen each.items)) numbers rows

-- In each of the snapshots the new spans mean the row without columns where, between the ends that it has for the route,
-- there is none of the old.
pub record AreGapsOf (stands : Snapshots → Type 0) (version route : ℕ) (old new : List Stretch) : Type 0 where
  pub means : (snapshots : Snapshots) → stands snapshots → (k : ℕ) → places_of new k ≡ gapped_on ((snapshots version).ends route) k (places_of old k)
  pub shaped : AreShaped kinds.Line 0 new

abbrev pub HasGaps : (Snapshots → Type 0) → ℕ → ℕ × Vec Span Global → Vec Span Global → Type 0
HasGaps stands version on new = AreGapsOf stands version on.0 (map seen on.1.items) (map seen new.items)

-- the same on each of several routes, in turn
abbrev pub HaveGaps : (Snapshots → Type 0) → ℕ → List ℕ → List (Vec Span Global) → List (Vec Span Global) → Type 0
HaveGaps stands version numbers old new = AllZip (HasGaps stands version) (zip numbers old) new
