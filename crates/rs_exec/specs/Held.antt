-- The rows of a plan on routes.
use Rattle.std.specs.Prelude.{◌≡◌, ℕ, ◌+◌, ◌≤◌, true, List, map, Vec}
use Rattle.std.specs.List.{AllZip, AllByRecursion, list_all, zip}
use Rattle.std.specs.declared.alloc.Global.{Global}
use Rattle.rs_value.specs.declared.column.Kind.{Kind}
use Rattle.rs_value.specs.declared.column.TheConstants.{COLUMNS}
use Rattle.rs_coalesce.specs.Joined.{AreJoined}
use Rattle.rs_facts.specs.declared.fact.Span.{Span}
use Rattle.rs_facts.specs.Operators.{overlaid}
use Rattle.rs_facts.specs.Query.{overlaid_kind}
use Rattle.rs_facts.specs.Runs.{Stretch}
use Rattle.rs_facts.specs.Spans.{seen, places_of}
use Rattle.rs_exec.specs.Snapshot.{Snapshots}
use Rattle.rs_exec.specs.Meaning.{PlanMeaning, rows_together, kinds_together, widths_together}
use Rattle.rs_exec.specs.Routes.{numbers_of, list_of, AreShaped, IsShaped}
use Rattle.rs_exec.specs.declared.routes.Routes.{Routes}
use Rattle.rs_exec.specs.declared.routes.RowsOn.{RowsOn}
use Rattle.rs_exec.specs.declared.source.Source.{Ghosts}

-- In each of the snapshots the spans mean the plan's rows on the route. Whatever the snapshots, they are sorted, of the
-- plan's kind, and as wide as its columns.
pub record AreRowsOf (stands : Snapshots → Type 0) (version : ℕ) (plan : PlanMeaning) (route : ℕ) (spans : List Stretch) : Type 0 where
  pub means : (snapshots : Snapshots) → stands snapshots → (k : ℕ) → places_of spans k ≡ plan.rows (snapshots version) route k
  pub shaped : AreShaped plan.kind plan.width spans

abbrev pub HoldsRows : (Snapshots → Type 0) → ℕ → PlanMeaning → ℕ → Vec Span Global → Type 0
HoldsRows stands version plan route rows = AreRowsOf stands version plan route (map seen rows.items)

-- the same on each of several routes, in turn
abbrev pub AreHeld : (Snapshots → Type 0) → ℕ → PlanMeaning → List ℕ → List (Vec Span Global) → Type 0
AreHeld stands version plan numbers rows = AllZip (HoldsRows stands version plan) numbers rows

-- ---- what an evaluation makes, of what the source stood for before it

-- the plan's rows on each of the routes
abbrev pub AreEvaluated : {S : Type 0} → Ghosts S → S → Routes → PlanMeaning → RowsOn → Type 0
AreEvaluated source old routes plan = λ rows. AreHeld (source.is old) routes.version plan (numbers_of routes) (list_of rows)

-- In each of the snapshots no two of the spans are one run.
abbrev pub IsJoinedIn : (Snapshots → Type 0) → Kind → Vec Span Global → Type 0
IsJoinedIn stands kind rows = (snapshots : Snapshots) → stands snapshots → AreJoined kind (map seen rows.items)

-- the same on each of several routes
abbrev pub AreJoinedIn : (Snapshots → Type 0) → Kind → List (Vec Span Global) → Type 0
AreJoinedIn stands kind rows = AllByRecursion (IsJoinedIn stands kind) rows

abbrev pub AreJoinedOn : {S : Type 0} → Ghosts S → S → Kind → RowsOn → Type 0
AreJoinedOn source old kind = λ rows. AreJoinedIn (source.is old) kind (list_of rows)

-- ---- operands of an OVERLAY one after another

-- rows of this kind on each of the routes that are together with further operands no wider than a row may be
pub record CanOverlay (kind : Kind) (operands : List PlanMeaning) (numbers : List ℕ) (rows : List (Vec Span Global)) : Type 0 where
  pub width : ℕ
  pub shaped : AllZip (λ number each. IsShaped kind width each) numbers rows
  pub fit : width + widths_together operands ≤ COLUMNS
  pub formed : list_all (λ plan. plan.is_well_formed) operands ≡ true

-- In each of the snapshots the new spans mean the rows of the operands, on the route, beside those of the old spans, which are of
-- this kind, and no two are one run where no two of the old ones are.
pub record IsLaidOver (stands : Snapshots → Type 0) (version : ℕ) (kind : Kind) (operands : List PlanMeaning) (laid : ℕ × Vec Span Global) (new : Vec Span Global) : Type 0 where
  pub means : (snapshots : Snapshots) → stands snapshots → (k : ℕ) → places_of (map seen new.items) k ≡ overlaid (places_of (map seen laid.1.items) k) (rows_together operands (snapshots version) laid.0 k)
  pub shaped : (width : ℕ) → IsShaped kind width laid.1 → IsShaped (overlaid_kind kind (kinds_together operands)) (width + widths_together operands) new
  pub joined : (snapshots : Snapshots) → stands snapshots → (width : ℕ) → IsShaped kind width laid.1 → AreJoined kind (map seen laid.1.items) → AreJoined (overlaid_kind kind (kinds_together operands)) (map seen new.items)

-- the same on each of several routes, in turn
abbrev pub AreLaidOver : (Snapshots → Type 0) → ℕ → Kind → List PlanMeaning → List ℕ → List (Vec Span Global) → List (Vec Span Global) → Type 0
AreLaidOver stands version kind operands numbers old new = AllZip (IsLaidOver stands version kind operands) (zip numbers old) new

-- In each of the snapshots the new spans mean the rows of one operand more, on the route, beside those of the old spans, which are
-- of this kind, and no two are one run where no two of the old ones are.
pub record IsBeside (stands : Snapshots → Type 0) (version : ℕ) (kind : Kind) (next : PlanMeaning) (laid : ℕ × Vec Span Global) (new : Vec Span Global) : Type 0 where
  pub means : (snapshots : Snapshots) → stands snapshots → (k : ℕ) → places_of (map seen new.items) k ≡ overlaid (places_of (map seen laid.1.items) k) (next.rows (snapshots version) laid.0 k)
  pub shaped : (width : ℕ) → IsShaped kind width laid.1 → IsShaped (overlaid_kind kind next.kind) (width + next.width) new
  pub joined : (snapshots : Snapshots) → stands snapshots → (width : ℕ) → IsShaped kind width laid.1 → AreJoined kind (map seen laid.1.items) → AreJoined (overlaid_kind kind next.kind) (map seen new.items)

-- the same on each of several routes, in turn
abbrev pub AreBeside : (Snapshots → Type 0) → ℕ → Kind → PlanMeaning → List ℕ → List (Vec Span Global) → List (Vec Span Global) → Type 0
AreBeside stands version kind next numbers old new = AllZip (IsBeside stands version kind next) (zip numbers old) new
