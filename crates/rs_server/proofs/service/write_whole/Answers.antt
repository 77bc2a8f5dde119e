use Rattle.std.proofs.Common.{rules}
use Rattle.rs_server.proofs.service.write_whole.Goals as goal

pub returns : goal.returns
returns g c = search rules
