-- The law, as it is proved of its definitions.
use Rattle.rs_page.proofs.Headers.{header_is_one as law}
use Rattle.rs_page.proofs.laws.header_is_one.Goals as goal

pub returns : goal.returns
returns c = law
