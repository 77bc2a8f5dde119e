-- What is evaluated after a part was is shown what was shown before.
use Rattle.std.proofs.lemmas.Result.{IfOk-weaker}
use Rattle.rs_answers.proofs.resuming.runs_after.Goals as goal

pub returns-in-None-clause-runs : goal.returns-in-None-clause-runs
returns-in-None-clause-runs g c =
    IfOk-weaker c.whole_runs.result _ _
    (λ found each shown shows lies there marked.
    each shown (g.met.V.Versions.shows_stay c.args.source.now c.runs_resumed.new.source c.in_ok-found.ensures.ends.leaves.passes c.args.asked.now.version shown shows) lies there) c.whole_runs.ensures.runs
