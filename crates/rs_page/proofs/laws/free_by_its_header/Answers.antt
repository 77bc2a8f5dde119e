-- The law, as it is proved of its definitions.
use Rattle.rs_page.proofs.Headers.{free_by_its_header as law}
use Rattle.rs_page.proofs.laws.free_by_its_header.Goals as goal

pub returns : goal.returns
returns c = law
