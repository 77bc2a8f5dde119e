use Rattle.rs_dump_laws.proofs.SomeDump.{some_dump}
use Rattle.rs_dump_laws.proofs.listing.lawful_state_has_a_dump.Goals as goal

pub returns : goal.returns
returns c = some_dump
