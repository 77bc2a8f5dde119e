use Rattle.std.proofs.Common.{rules}
use Rattle.rs_meaning.proofs.said_places.location_said.Goals as goal

pub returns-in_ok-position-in-Along-2-clause-ok : goal.returns-in_ok-position-in-Along-2-clause-ok
returns-in_ok-position-in-Along-2-clause-ok c = search rules
