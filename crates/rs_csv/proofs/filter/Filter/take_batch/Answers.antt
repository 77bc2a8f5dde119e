use Rattle.std.proofs.Common.{◌∙◌}
use Rattle.rs_csv.proofs.Batches.{text_between}
use Rattle.rs_csv.proofs.filter.Filter.take_batch.Goals as goal

pub returns-in-Err-clause-taken : goal.returns-in-Err-clause-taken
returns-in-Err-clause-taken g c = λ more begun is between. c.in-Err.ensures.taken more (c.text.ensures ∙ text_between c.args.self.now.job.wanted.separator c.args.batch.now more begun is between)

pub returns-clause-taken : goal.returns-clause-taken
returns-clause-taken g c = λ more begun is between. c.in_default.ensures.taken more (c.text.ensures ∙ text_between c.args.self.now.job.wanted.separator c.args.batch.now more begun is between)
