use Rattle.std.proofs.Common.{refl}
use Rattle.rs_checker.proofs.StepLaws.{rename_made}
use Rattle.rs_checker.proofs.operators.rename.Goals as goal

pub returns-clause-ok : goal.returns-clause-ok
returns-clause-ok c = rename_made c.args.operand c.args.from.now.bytes c.args.to.now.bytes c.in_ok-place.place c.args.to.now c.renamed.result c.in_ok-place.ensures.place c.in_ok-place.ensures.may refl c.renamed.ensures
