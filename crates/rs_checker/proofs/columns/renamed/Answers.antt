use Rattle.rs_checker.proofs.ColumnLaws.{renamed_here}
use Rattle.rs_checker.proofs.columns.renamed.Goals as goal

pub returns : goal.returns
returns c = renamed_here c.args.columns.items c.deref_mut.result.now c.args.place c.from.result c.args.name c.index-deref_mut-from.result c.deref_mut.ensures.value c.from.ensures c.requires
