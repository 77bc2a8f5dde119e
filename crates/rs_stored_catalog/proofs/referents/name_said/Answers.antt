-- A name is a text.
use Rattle.rs_stored_catalog.proofs.MeantReferents.{name_utf8}
use Rattle.rs_stored_catalog.proofs.referents.name_said.Goals as goal

pub returns-in-Err-clause-none : goal.returns-in-Err-clause-none
returns-in-Err-clause-none c is other = c.in-Err.ensures.cases.0 (name_utf8 c.args.bytes.now is)
