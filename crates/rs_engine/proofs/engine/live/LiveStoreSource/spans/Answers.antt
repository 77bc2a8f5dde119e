-- The store stands in no state, so in none that is looked at.
use Rattle.std.proofs.lemmas.Result.{IfErr-weaker}
use Rattle.rs_engine.proofs.Wanting.{wants_any}
use Rattle.rs_engine.proofs.engine.live.LiveStoreSource.spans.Goals as goal

pub returns-clause-wants : goal.returns-clause-wants
returns-clause-wants g c =
    IfErr-weaker c.spans_asked.result _ _ (wants_any g.D.Disk c.args.self.now.oldest c.args.self.now.store c.spans_asked.new.store) c.spans_asked.ensures.wants
