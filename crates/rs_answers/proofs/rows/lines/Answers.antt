use Rattle.std.proofs.Common.{◌∙◌, arith}
use Rattle.rs_serve.specs.ReplyView.{rows_of}
use Rattle.rs_answers.proofs.Leavings.{leaves-then, stands-later, plan-later}
use Rattle.rs_answers.proofs.QueryAnswers.{lines-more, lines-end, lines-all, named-there, visited-in}
use Rattle.rs_answers.proofs.rows.lines.Goals as goal

pub loop-named-preserved : goal.loop-named-preserved
loop-named-preserved g c =
    let laws = g.met.E.InMemory in
    let before = c.loop-named.invariant in
    let routes = c.deref-named-items.result.now in
    let plan = c.args.asked.now.plan.now in
    let visited = visited-in (g.E.InMemory.definitions c.args.e.now) c.catalog.result.now c.catalog.ensures plan c.in_ok-routes.routes.items routes c.deref-named-items.ensures.value c.in_ok-routes.ensures.visited in
    let same = laws.definitions_stay c.args.e.now c.loop-named.e before.leaves.passes in
    let there = named-there (g.E.InMemory.definitions c.args.e.now) (g.E.InMemory.definitions c.loop-named.e) same plan routes c.loop-named.named-index c.named-item.result (omega arith) c.named-item.is visited in
    record {
      leaves = leaves-then g.E.Source g.met.E.Source.passes_trans c.args.e.now c.loop-named.e c.push_rows.new.e before.leaves c.in_ok-push_rows.ensures.ends.leaves;
      printed = λ query for state stands.
          lines-more state query c.args.method routes c.loop-named.named-index c.named-item.result (rows_of c.loop-named.rows.items) (rows_of c.push_rows.new.rows.items) (omega arith) c.named-item.is
          (before.printed query for state stands)
          (c.in_ok-push_rows.ensures.lines query
          (plan-later g.E.Source g.E.InMemory.definitions g.E.InMemory.held_referents laws.definitions_stay laws.referents_stay c.args.e.now c.loop-named.e before.leaves query plan for) there state
          (stands-later g.E.Source g.E.InMemory.definitions g.E.InMemory.held_referents laws.definitions_stay laws.referents_stay c.args.e.now c.loop-named.e before.leaves c.args.asked.now.version state stands));
    }

pub returns-clause-lines : goal.returns-clause-lines
returns-clause-lines g c = λ query for state stands.
    let e = c.args.e.now in
    let routes = c.deref-named-items.result.now in
    let plan = c.args.asked.now.plan.now in
    let visited = visited-in (g.E.InMemory.definitions e) c.catalog.result.now c.catalog.ensures plan c.in_ok-routes.routes.items routes c.deref-named-items.ensures.value c.in_ok-routes.ensures.visited in
    c.loop-named.invariant.printed query for state stands
    ∙ lines-end state query c.args.method routes c.loop-named.named-index (omega arith)
    ∙ lines-all (g.E.InMemory.definitions e) (g.E.InMemory.held_referents e) state (stands.snapshots c.args.asked.now.version) stands.present query plan for c.args.method routes visited
