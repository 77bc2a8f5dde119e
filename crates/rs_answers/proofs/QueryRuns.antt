-- Runs on one route are printed whole, and their positions lie on the route.
use Rattle.std.proofs.Common.{◌≡◌, ℕ, ◌+◌, ◌-◌, ◌<◌, ◌≤◌, true, false, List, [], Some, sym, ap, subst, ◌∙◌, arith}
use Rattle.std.specs.List.{AllByRecursion}
use Rattle.std.specs.FinMap as names
use Rattle.rs_value.specs.declared.column.Kind.{Kind}
use Rattle.rs_value.specs.declared.column.Kind.TheVariants.{Point, Line}
use Rattle.rs_value.specs.Row.{Row}
use Rattle.rs_facts.specs.Fact.{Name, Places, contains}
use Rattle.rs_facts.specs.Query.{RouteEnds, Query, rows_at, kind_of}
use Rattle.rs_facts.specs.WellFormed.{IsWellFormed}
use Rattle.rs_facts.specs.Runs.{Stretch, IsLineRun, IsPointRun, IsMaximalRun, AreRunsOf, LieWithin, runs_of}
use Rattle.rs_facts.specs.Spans.{places_of}
use Rattle.rs_facts.proofs.KeptLaws.{every-weaker}
use Rattle.rs_facts.proofs.Apart.{kept-apart}
use Rattle.rs_facts.proofs.RunLaws.{runs-from_apart}
use Rattle.rs_facts.proofs.RunsOf.{runs_of-unique}
use Rattle.rs_facts.proofs.Sets.{contains-none}
use Rattle.rs_machine.specs.Lawful.{MayHoldAt, IsLawful, OnRoute}
use Rattle.rs_machine.specs.State.{State, world_of}
use Rattle.rs_catalog.proofs.MapLaws.{some_same}
use Rattle.rs_catalog.specs.Events.{behind}
use Rattle.rs_answers.specs.Printed.{IsWithinEnds}

-- the rows of a well-formed query lie on routes that are there
abbrev pub RowsLieOnRoutes : Type 0
RowsLieOnRoutes = (state : State) (query : Query) (route : Name) (k : ℕ) (row : Row) → IsLawful state → IsWellFormed (world_of state) query → contains (rows_at (world_of state) query route k) row ≡ true
    → OnRoute state.routes route (MayHoldAt (kind_of (world_of state) query) k)

upto_end : (kind : Kind) (k : ℕ) (ends : RouteEnds) → MayHoldAt kind k ends → (ends.start ≤ k) × (k < ends.finish + 1)
upto_end Line k ends h = (h.0, omega (arith, h.1))
upto_end Point k ends h = (h.0, omega (arith, h.1))

-- wherever a row holds, it may hold on a route of these ends
abbrev pub HoldOn : Kind → RouteEnds → Places → Type 0
HoldOn kind ends places = (k : ℕ) (row : Row) → contains (places k) row ≡ true → MayHoldAt kind k ends

pub hold-within : (kind : Kind) (ends : RouteEnds) (places : Places) → HoldOn kind ends places → LieWithin ends.start (ends.finish + 1) places
hold-within kind ends places on k row holding = upto_end kind k ends (on k row holding)

line-printable : (ends : RouteEnds) (places : Places) → HoldOn Line ends places → (run : Stretch) → IsLineRun places run → IsWithinEnds ends Line run
line-printable ends places on run is =
    let some = is.some in
    let first = on run.lo run.row (is.holds run.lo (omega arith) (omega arith)) in
    let last = on (run.hi - 1) run.row (is.holds (run.hi - 1) (omega arith) (omega arith)) in
    (record { from_start = first.0; upto_finish = omega (arith, first.1) }, record { from_start = omega (arith, first.0); upto_finish = omega (arith, last.1) })

point-printable : (ends : RouteEnds) (places : Places) → HoldOn Point ends places → (run : Stretch) → IsPointRun places run → IsWithinEnds ends Point run
point-printable ends places on run is =
    let first = on run.lo run.row is.holds in
    record { from_start = first.0; upto_finish = first.1 }

printable : (kind : Kind) (ends : RouteEnds) (places : Places) → HoldOn kind ends places → (run : Stretch) → IsMaximalRun kind places run → IsWithinEnds ends kind run
printable Line = line-printable
printable Point = point-printable

-- where rows may hold at the latest, by their kind
pub holds-within : (kind : Kind) (ends : RouteEnds) (places : Places) → LieWithin ends.start (behind kind ends) places → HoldOn kind ends places
holds-within Line ends places within k row holding = within k row holding
holds-within Point ends places within k row holding = let on = within k row holding in (on.0, omega (arith, on.1))

pub within-holds : (kind : Kind) (ends : RouteEnds) (places : Places) → HoldOn kind ends places → LieWithin ends.start (behind kind ends) places
within-holds Line ends places on k row holding = on k row holding
within-holds Point ends places on k row holding = hold-within Point ends places on k row holding

module _ (kind : Kind) (ends : RouteEnds) (places : Places) (on : HoldOn kind ends places) (runs : List Stretch) (are : AreRunsOf kind places runs) where
  -- the positions of the runs lie on the route
  pub runs-printable : AllByRecursion (IsWithinEnds ends kind) runs
  runs-printable = every-weaker (IsMaximalRun kind places) (IsWithinEnds ends kind) (printable kind ends places on) runs are.maximal

  -- they are those from its start to its end
  pub runs-whole : runs ≡ runs_of kind places ends.start (ends.finish + 1)
  runs-whole = runs_of-unique kind ends.start (ends.finish + 1) places runs (hold-within kind ends places on) are

-- where nothing holds, there are no runs
pub no-runs : (kind : Kind) (places : Places) → places ≡ places_of [] → AreRunsOf kind places []
no-runs kind places nothing = subst (λ (p : Places). AreRunsOf kind p []) (sym nothing) (runs-from_apart kind [] tt (kept-apart kind [] tt) tt)

-- nor any from a route's start to its end
pub none-printed : (kind : Kind) (ends : RouteEnds) (places : Places) → places ≡ places_of [] → runs_of kind places ends.start (ends.finish + 1) ≡ []
none-printed kind ends places nothing = sym (runs-whole kind ends places holds-nothing [] (no-runs kind places nothing))
  where
    holds-nothing : HoldOn kind ends places
    holds-nothing k row holding = absurd (let wrong : false ≡ true = sym (contains-none row) ∙ ap (λ (p : Places). contains (p k) row) (sym nothing) ∙ holding in cc)

module _ (rows-lie : RowsLieOnRoutes) (state : State) (lawful : IsLawful state) (query : Query) (formed : IsWellFormed (world_of state) query) (route : Name) (ends : RouteEnds) (there : names.get state.routes route ≡ Some ends) where
  abbrev kind : Kind
  kind = kind_of (world_of state) query

  abbrev places : Places
  places = rows_at (world_of state) query route

  pub query-holds : HoldOn kind ends places
  query-holds k row holding =
      let on = rows-lie state query route k row lawful formed holding in
      subst (MayHoldAt kind k) (some_same on.ends ends (sym on.there ∙ there)) on.is_so

  pub query-within : LieWithin ends.start (ends.finish + 1) places
  query-within = hold-within kind ends places query-holds
