use Rattle.rs_answers.proofs.PlansWithin.{runs-within}
use Rattle.rs_answers.proofs.within.runs_within.Goals as goal

pub returns-clause-runs : goal.returns-clause-runs
returns-clause-runs g c =
    runs-within g.S.Source.is c.args.source.now c.args.plan.now c.args.route c.args.version c.args.from c.args.to c.runs_on.result c.requires.local c.requires.formed c.runs_on.ensures.runs
