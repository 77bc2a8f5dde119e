use Rattle.std.proofs.Common.{◌∙◌, refl}
use Rattle.rs_csv.proofs.Batches.{batch_ended}
use Rattle.rs_csv.proofs.batch.Batch.end_record.Goals as goal

pub returns-else-self : goal.returns-else-self
returns-else-self c = λ separator whole raw is at. batch_ended separator c.args.self.now _ whole raw refl refl refl (c.len-self.ensures ∙ c.args.self.now.text.ok.0) refl c.if-self.false c.if-self.false is at
