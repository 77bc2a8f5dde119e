-- The law, as it is proved of its definitions.
use Rattle.rs_page.proofs.Headers.{file_header_is_one as law}
use Rattle.rs_page.proofs.laws.file_header_is_one.Goals as goal

pub returns : goal.returns
returns c = law
