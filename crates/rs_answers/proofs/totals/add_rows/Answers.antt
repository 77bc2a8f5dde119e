use Rattle.std.proofs.Common.{ℕ, List, map, ap, sym, subst}
use Rattle.rs_facts.specs.Query.{kind_of}
use Rattle.rs_facts.specs.Runs.{Stretch, AreRunsOf}
use Rattle.rs_facts.specs.Spans.{seen}
use Rattle.rs_machine.specs.State.{world_of}
use Rattle.rs_exec.specs.Meaning.{rows_in, kind_in}
use Rattle.rs_answers.specs.Totalled.{along_route}
use Rattle.rs_answers.proofs.TotalRows.{runs-along}
use Rattle.rs_answers.proofs.totals.add_rows.Goals as goal

pub returns-clause-adds : goal.returns-clause-adds
returns-clause-adds g c = λ query for there state stands by column done few are.
    let e = c.args.e.now in
    let plan = c.args.asked.now.plan.now in
    let snapshot = stands.snapshots c.args.asked.now.version in
    let named = c.args.named.now in
    let same = ap (map seen) c.as_slice.ensures.value in
    let runs = subst (λ (number : ℕ). AreRunsOf (kind_in plan) (rows_in plan snapshot number) (map seen c.as_slice.result.now)) c.number.ensures
    (subst (λ (spans : List Stretch). AreRunsOf (kind_in plan) (rows_in plan snapshot c.number.result) spans) (sym same) (c.in_ok-runs.ensures.runs stands.snapshots stands.is)) in
    c.in_ok-add_route.ensures (kind_of (world_of state) query) by column done (along_route state query named.name.bytes named.route.ends) few are
    (runs-along (g.E.InMemory.definitions e) (g.E.InMemory.held_referents e) state snapshot stands.present c.rows_lie_on_routes.ensures query plan for named.name.bytes named.route there
    (map seen c.as_slice.result.now) runs)
