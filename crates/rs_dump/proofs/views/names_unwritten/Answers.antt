use Rattle.rs_dump.specs.Views.{names_of}
use Rattle.rs_dump.proofs.Viewed.{not_there}
use Rattle.rs_dump.proofs.views.names_unwritten.Goals as goal

pub returns-clause-missing : goal.returns-clause-missing
returns-clause-missing c = λ is. not_there (names_of c.args.written.now) c.args.name.now.bytes (c.has_name.ensures.absent c.if-has_name.false)
