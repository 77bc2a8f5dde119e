-- Each lawful state has a dump.
use Rattle.std.proofs.Common.{◌≡◌, ◌≢◌, ℕ, ◌+◌, List, [], ◌∷◌, Option, Some, refl, sym, subst}
use Rattle.std.specs.declared.cmp.Ordering.TheVariants.{Less}
use Rattle.std.specs.FinMap as names
use Rattle.rs_value.specs.declared.column.Kind.{Kind}
use Rattle.rs_facts.specs.Fact.{Name, Places}
use Rattle.rs_facts.specs.Query.{RouteEnds, Table}
use Rattle.rs_facts.specs.Runs.{AreOrdered, AreRunsOf, Stretch, runs_of, stretch_cmp}
use Rattle.rs_facts.specs.Spans as facts
use Rattle.rs_facts.specs.Spans.{AreAllRunsOf}
use Rattle.rs_facts.proofs.RunsOf.{runs_of-runs}
use Rattle.rs_facts.proofs.StretchOrder.{stretch_cmp-less_apart}
use Rattle.rs_syntax.specs.Tree.{CommandTree}
use Rattle.rs_machine.specs.State.{State}
use Rattle.rs_machine.specs.Lawful.{IsLawful}
use Rattle.rs_dump_laws.specs.Dump.{IsDumpOf, commands_of}
use Rattle.rs_dump_laws.specs.Listed.{AreRunsOfTables, listed_parts}
use Rattle.rs_dump_laws.proofs.ListedParts.{entries_all, listed_all}
use Rattle.rs_dump_laws.proofs.Lists.{all_weaker}
use Rattle.rs_dump_laws.proofs.RowFacts.{lie_within}
use Rattle.rs_dump_laws.proofs.ViewOrders.{ordered}

-- ---- rows

once_ordered : (runs : List Stretch) → AreOrdered runs → facts.AreOnce runs
once_ordered [] ordered = tt
once_ordered (run ∷ runs) ordered = (all_weaker (λ later. stretch_cmp run later ≡ Less) (λ later. run ≢ later) (λ later less. stretch_cmp-less_apart run later less) runs ordered.0, once_ordered runs ordered.1)

all_runs : (kind : Kind) (places : Places) (runs : List Stretch) → AreRunsOf kind places runs → AreAllRunsOf kind places runs
all_runs kind places runs are = record { once = once_ordered runs are.ordered; maximal = are.maximal; complete = are.complete }

abbrev runs_on : Option Table → Option RouteEnds → Name → List Stretch
runs_on (Some table) (Some ends) route = runs_of table.kind (table.facts route) ends.start (ends.finish + 1)
runs_on _ _ route = []

abbrev spans_of : State → Name → Name → List Stretch
spans_of state name route = runs_on (names.get state.tables name) (names.get state.routes route) route

are_runs : (state : State) → IsLawful state → AreRunsOfTables state (spans_of state)
are_runs state lawful name table there route ends on =
    subst (AreAllRunsOf table.kind (table.facts route)) (λ i. runs_on (sym there i) (sym on i) route)
    (all_runs table.kind (table.facts route) (runs_of table.kind (table.facts route) ends.start (ends.finish + 1))
    (runs_of-runs table.kind ends.start (ends.finish + 1) (table.facts route) (lie_within state.routes name table route ends (lawful.tables name table there) on)))

pub some_dump : (texts : Name → List ℕ) (state : State) → IsLawful state → (commands : List CommandTree) × IsDumpOf texts state commands
some_dump texts state lawful =
    let views = ordered state.views lawful.views.order (names.entries state.views) (entries_all state.views) in
    let parts = listed_parts state (spans_of state) views.list in
    (commands_of texts state parts, record { parts = parts; are_parts = listed_all state (spans_of state) views.list lawful (are_runs state lawful) views.all views.before; are = refl })
