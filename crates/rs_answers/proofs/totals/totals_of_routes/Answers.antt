use Rattle.std.proofs.Common.{take, arith}
use Rattle.rs_answers.proofs.Leavings.{leaves-then, stands-later, plan-later}
use Rattle.rs_answers.proofs.QueryAnswers.{named-there, visited-in}
use Rattle.rs_answers.proofs.TotalRows.{along_so_far, few-so-far, totals-all, totals-more, totals-end}
use Rattle.rs_answers.proofs.totals.totals_of_routes.Goals as goal

pub loop-named-preserved : goal.loop-named-preserved
loop-named-preserved g c =
    let laws = g.met.E.InMemory in
    let before = c.loop-named.invariant in
    let e = c.args.e.now in
    let routes = c.deref-named-items.result.now in
    let plan = c.args.asked.now.plan.now in
    let visited = visited-in (g.E.InMemory.definitions e) c.catalog.result.now c.catalog.ensures plan c.in_ok-routes.routes.items routes c.deref-named-items.ensures.value c.in_ok-routes.ensures.visited in
    let same = laws.definitions_stay e c.loop-named.e before.leaves.passes in
    let there = named-there (g.E.InMemory.definitions e) (g.E.InMemory.definitions c.loop-named.e) same plan routes c.loop-named.named-index c.named-item.result (omega arith) c.named-item.is visited in
    record {
      leaves = leaves-then g.E.Source g.met.E.Source.passes_trans e c.loop-named.e c.add_rows.new.e before.leaves c.in_ok-add_rows.ensures.ends.leaves;
      added = λ query for state stands.
          totals-more state query c.args.group.items c.args.column routes c.loop-named.named-index c.named-item.result c.add_rows.new.totals (omega arith) c.named-item.is
          (c.in_ok-add_rows.ensures.adds query
          (plan-later g.E.Source g.E.InMemory.definitions g.E.InMemory.held_referents laws.definitions_stay laws.referents_stay e c.loop-named.e before.leaves query plan for) there state
          (stands-later g.E.Source g.E.InMemory.definitions g.E.InMemory.held_referents laws.definitions_stay laws.referents_stay e c.loop-named.e before.leaves c.args.asked.now.version state stands)
          c.args.group.items c.args.column (along_so_far state query (take c.loop-named.named-index routes))
          (few-so-far (g.E.InMemory.definitions e) (g.E.InMemory.held_referents e) state (stands.snapshots c.args.asked.now.version) stands.present plan routes visited query c.loop-named.named-index)
          (before.added query for state stands));
    }

pub returns-clause-totals : goal.returns-clause-totals
returns-clause-totals g c = λ query for state stands.
    let e = c.args.e.now in
    let routes = c.deref-named-items.result.now in
    let plan = c.args.asked.now.plan.now in
    let visited = visited-in (g.E.InMemory.definitions e) c.catalog.result.now c.catalog.ensures plan c.in_ok-routes.routes.items routes c.deref-named-items.ensures.value c.in_ok-routes.ensures.visited in
    totals-end state query c.args.group.items c.args.column routes c.loop-named.named-index c.loop-named.totals (omega arith)
    (totals-all (g.E.InMemory.definitions e) (g.E.InMemory.held_referents e) state (stands.snapshots c.args.asked.now.version) stands.present plan routes visited query for c.args.group.items c.args.column)
    (c.loop-named.invariant.added query for state stands)
